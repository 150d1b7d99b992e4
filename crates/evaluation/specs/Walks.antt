-- Evaluation: where a view leads on a host, what is reported on the way, and what comes of it.
use Rattle.std.specs.Prelude.{ℕ, zero, suc, Bool, true, false, cond, List, [], ◌∷◌, ◌++◌, Ok, Err, Result}
use Rattle.std.specs.Ordering.{is_eq}
use Rattle.values.specs.Rows.{Row, by_row}
use Rattle.values.specs.Releases.{release_row}
use Rattle.values.specs.Texts.{text_bytes}
use Rattle.std.specs.declared.ops.Bound.{Bound}
use Rattle.std.specs.declared.ops.Bound.TheVariants.{Unbounded, Included, Excluded}
use Rattle.values.specs.declared.faults.Fault.{Fault}
use Rattle.values.specs.declared.faults.Fault.TheVariants.{UnknownId}
use Rattle.values.specs.declared.keys.MarkerValueString.{MarkerValueString}
use Rattle.values.specs.declared.texts.Text.{Text}
use Rattle.ranges.specs.Bounds.{lies}
use Rattle.ranges.specs.declared.edges.Edge.{Edge}
use Rattle.diagrams.specs.Tables.{Table}
use Rattle.diagrams.specs.Views.{View, always, never, version, string, in_literal, has_literal, extra, extra_text, view}
use Rattle.hosts.specs.Hosts.{Meaning, text_of}
use Rattle.evaluation.specs.Substrings.{contained}
use Rattle.hosts.specs.declared.warnings.MarkerWarningKind.TheVariants.{LexicographicComparison}
use Rattle.hosts.specs.declared.warnings.Report.{Report}

-- ---- reports of a text node

abbrev pub lexicographic : MarkerValueString → Text → Report
lexicographic key t = record { kind = LexicographicComparison; key = key; literal = t }

-- the report of a bound that has a value
abbrev pub bound_reports : MarkerValueString → Bound Text → List Report
bound_reports key Unbounded = []
bound_reports key (Included t) = lexicographic key t ∷ []
bound_reports key (Excluded t) = lexicographic key t ∷ []

-- the range is one value, [v, v]
abbrev pub single : Bound Text → Bound Text → Bool
single Unbounded u = false
single (Included a) Unbounded = false
single (Included a) (Included b) = is_eq (by_row (text_bytes a) (text_bytes b))
single (Included a) (Excluded b) = false
single (Excluded a) u = false

-- an edge reports its bounds that have values, the lower first, unless it is one value
abbrev pub edge_reports : MarkerValueString → Edge Text → List Report
edge_reports key e = cond (single e.lower e.upper) [] (bound_reports key e.lower ++ bound_reports key e.upper)

-- the edges report from the first to the one that contains v
abbrev pub examined : MarkerValueString → Row → List (Edge Text) → List Report
examined key v [] = []
examined key v (e ∷ es) = edge_reports key e ++ cond (lies text_bytes e v) [] (examined key v es)

-- ---- one step

-- where the first edge that contains v leads; some edge does, in a diagram that was admitted
abbrev pub chosen : {T : Type 0} → (T → Row) → Row → List (Edge T) → ℕ
chosen row v [] = 1
chosen row v (e ∷ es) = cond (lies row e v) e.child (chosen row v es)

-- a view says yes or no, or it leads to an id
pub data Where : Type 0 where
  ends : Bool → Where
  goes : ℕ → Where

-- WHERE a view leads on a host
abbrev pub lead : Meaning → View → Where
lead m always = ends true
lead m never = ends false
lead m (version k es) = goes (chosen release_row (release_row (m.release k)) es)
lead m (string k es) = goes (chosen text_bytes (text_of m k) es)
lead m (in_literal k t high low) = goes (cond (contained (text_of m k) (text_bytes t)) high low)
lead m (has_literal k t high low) = goes (cond (contained (text_bytes t) (text_of m k)) high low)
lead m (extra t high low) = goes (cond (m.active (text_bytes t)) high low)
lead m (extra_text t high low) = goes low

-- WHAT a view reports on a host: only a text node does
abbrev pub told : Meaning → View → List Report
told m always = []
told m never = []
told m (version k es) = []
told m (string k es) = examined k (text_of m k) es
told m (in_literal k t high low) = []
told m (has_literal k t high low) = []
told m (extra t high low) = []
told m (extra_text t high low) = []

-- ---- the walk

pub record Walk : Type 0 where
  pub answer : Result Bool Fault
  pub reports : List Report

abbrev pub walk_of : Result Bool Fault → List Report → Walk
walk_of a rs = record { answer = a; reports = rs }

abbrev pub after : List Report → Walk → Walk
after rs w = walk_of w.answer (rs ++ w.reports)

abbrev pub on_where : (ℕ → Walk) → Where → Walk
on_where rest (ends b) = walk_of (Ok b) []
on_where rest (goes id) = rest id

abbrev pub on_view : Meaning → (ℕ → Walk) → Result View Fault → Walk
on_view m rest (Ok v) = after (told m v) (on_where rest (lead m v))
on_view m rest (Err f) = walk_of (Err f) []

-- at most so many steps
abbrev pub walk_by : ℕ → Meaning → Table → ℕ → Walk
walk_by zero m t id = walk_of (Err UnknownId) []
walk_by (suc f) m t id = on_view m (walk_by f m t) (view t id)

-- THE WALK from an id: its answer, and its reports in order. Children fall, so it takes at most as many steps as the id
unfoldable pub walk : Meaning → Table → ℕ → Walk
walk m t id = walk_by (suc id) m t id
