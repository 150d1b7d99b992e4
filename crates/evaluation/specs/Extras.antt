-- What may be said when only names, and perhaps releases of Python, are known.
use Rattle.std.specs.Prelude.{◌≡◌, ℕ, zero, suc, ◌<◌, Bool, true, false, cond, ◌&&◌, ◌||◌, List, length, Some, None, Ok, Err, Option, Result, slice_index_or}
use Rattle.std.specs.Ordering.{is_eq}
use Rattle.std.specs.List.{list_any}
use Rattle.values.specs.Rows.{by_row}
use Rattle.values.specs.Releases.{release_row}
use Rattle.values.specs.Texts.{text_bytes}
use Rattle.values.specs.Faults.{unless_refused}
use Rattle.values.specs.declared.faults.Fault.{Fault}
use Rattle.values.specs.declared.faults.Fault.TheVariants.{UnknownId}
use Rattle.values.specs.declared.keys.MarkerValueVersion.{MarkerValueVersion}
use Rattle.values.specs.declared.keys.MarkerValueVersion.TheVariants.{ImplementationVersion, PythonFullVersion, PythonVersion}
use Rattle.values.specs.declared.keys.MarkerValueString.{MarkerValueString}
use Rattle.values.specs.declared.releases.Release.{Release}
use Rattle.values.specs.declared.texts.Text.{Text}
use Rattle.ranges.specs.Bounds.{lies}
use Rattle.ranges.specs.Cover.{no_edge}
use Rattle.ranges.specs.declared.edges.Edge.{Edge}
use Rattle.diagrams.specs.Tables.{Table}
use Rattle.diagrams.specs.Views.{View, always, never, version, string, in_literal, has_literal, extra, extra_text, known, view}
use Rattle.hosts.specs.Hosts.{Meaning}
use Rattle.hosts.specs.Records.{among, names_refusal}
use Rattle.evaluation.specs.Walks.{walk}

-- an edge of a release node counts; where releases of Python are known, one of `python_version` counts only when one of
-- them lies in its range
abbrev pub counts : Option (List Release) → MarkerValueVersion → Edge Release → Bool
counts None k e = true
counts (Some rs) ImplementationVersion e = true
counts (Some rs) PythonFullVersion e = true
counts (Some rs) PythonVersion e = list_any (λ r. lies release_row e (release_row r)) rs

-- a view may say yes, where `says` tells what its children may say: any child, or the child of an extra that fits
abbrev pub may_say : List Text → Option (List Release) → (ℕ → Bool) → View → Bool
may_say names rs says always = true
may_say names rs says never = false
may_say names rs says (version k es) = list_any (λ e. counts rs k e && says e.child) es
may_say names rs says (string k es) = list_any (λ e. says e.child) es
may_say names rs says (in_literal k t high low) = says high || says low
may_say names rs says (has_literal k t high low) = says high || says low
may_say names rs says (extra t high low) = says (cond (among names (text_bytes t)) high low)
may_say names rs says (extra_text t high low) = says low

abbrev pub on_result : List Text → Option (List Release) → (ℕ → Bool) → Result View Fault → Bool
on_result names rs says (Ok v) = may_say names rs says v
on_result names rs says (Err f) = false

-- at most so many levels down
abbrev pub extras_by : ℕ → List Text → Option (List Release) → Table → ℕ → Bool
extras_by zero names rs t id = false
extras_by (suc f) names rs t id = on_result names rs (extras_by f names rs t) (view t id)

-- WHAT AN ID MAY SAY
unfoldable pub extras : List Text → Option (List Release) → Table → ℕ → Bool
extras names rs t id = extras_by (suc id) names rs t id

-- THE ANSWER: 14, then 16, then what the root may say
abbrev pub extras_answer : List Text → Option (List Release) → Table → ℕ → Result Bool Fault
extras_answer names rs t root = cond (known t root) (unless_refused (names_refusal names) (extras names rs t root)) (Err UnknownId)

-- in plain words: an id may say yes
pub data Possible (names : List Text) (rs : Option (List Release)) (t : Table) : ℕ → Type 0 where
  at_true : {id : ℕ} → view t id ≡ Ok always → Possible names rs t id
  at_version : {id : ℕ} (k : MarkerValueVersion) (es : List (Edge Release)) (j : ℕ) → view t id ≡ Ok (version k es) → j < length es → counts rs k (slice_index_or es j no_edge) ≡ true → Possible names rs t (slice_index_or es j no_edge).child → Possible names rs t id
  at_string : {id : ℕ} (k : MarkerValueString) (es : List (Edge Text)) (j : ℕ) → view t id ≡ Ok (string k es) → j < length es → Possible names rs t (slice_index_or es j no_edge).child → Possible names rs t id
  in_high : {id : ℕ} (k : MarkerValueString) (l : Text) (high low : ℕ) → view t id ≡ Ok (in_literal k l high low) → Possible names rs t high → Possible names rs t id
  in_low : {id : ℕ} (k : MarkerValueString) (l : Text) (high low : ℕ) → view t id ≡ Ok (in_literal k l high low) → Possible names rs t low → Possible names rs t id
  has_high : {id : ℕ} (k : MarkerValueString) (l : Text) (high low : ℕ) → view t id ≡ Ok (has_literal k l high low) → Possible names rs t high → Possible names rs t id
  has_low : {id : ℕ} (k : MarkerValueString) (l : Text) (high low : ℕ) → view t id ≡ Ok (has_literal k l high low) → Possible names rs t low → Possible names rs t id
  extra_high : {id : ℕ} (l : Text) (high low : ℕ) → view t id ≡ Ok (extra l high low) → among names (text_bytes l) ≡ true → Possible names rs t high → Possible names rs t id
  extra_low : {id : ℕ} (l : Text) (high low : ℕ) → view t id ≡ Ok (extra l high low) → among names (text_bytes l) ≡ false → Possible names rs t low → Possible names rs t id
  text_low : {id : ℕ} (l : Text) (high low : ℕ) → view t id ≡ Ok (extra_text l high low) → Possible names rs t low → Possible names rs t id

-- releases have one that equals the host's `python_version`
abbrev pub includes : Meaning → Option (List Release) → Bool
includes m None = true
includes m (Some rs) = list_any (λ r. is_eq (by_row (release_row r) (release_row (m.release PythonVersion)))) rs

-- THE LAW of the two evaluations of extras, of an admitted table
pub record ExtrasLaw (t : Table) : Type 0 where
  -- yes is said exactly where it is possible
  pub possible : (names : List Text) (rs : Option (List Release)) (id : ℕ) → extras names rs t id ≡ true → Possible names rs t id
  pub only : (names : List Text) (rs : Option (List Release)) (id : ℕ) → Possible names rs t id → extras names rs t id ≡ true
  -- yes on a host is possible with its active names, and with releases that include its `python_version`
  pub covers : (m : Meaning) (names : List Text) (rs : Option (List Release)) → ((n : List ℕ) → m.active n ≡ among names n) → includes m rs ≡ true → (id : ℕ) → (walk m t id).answer ≡ Ok true → extras names rs t id ≡ true
