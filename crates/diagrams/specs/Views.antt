-- What an id shows.
use Rattle.std.specs.Prelude.{◌≡◌, ℕ, ◌-◌, ◌/◌, ◌<◌, Bool, true, false, cond, List, map, length, is_ok, Some, None, Ok, Err, Option, Result, ◌==◌, nat_le, slice_index_or}
use Rattle.std.specs.Option.{option_map, ok_or}
use Rattle.std.specs.List.{list_any, count_by}
use Rattle.values.specs.Rows.{Row}
use Rattle.values.specs.Releases.{release_row}
use Rattle.values.specs.Texts.{text_bytes}
use Rattle.values.specs.Keys.{version_key_of, string_key_of}
use Rattle.values.specs.declared.faults.Fault.{Fault}
use Rattle.values.specs.declared.faults.Fault.TheVariants.{UnknownId}
use Rattle.values.specs.declared.keys.MarkerValueVersion.{MarkerValueVersion}
use Rattle.values.specs.declared.keys.MarkerValueString.{MarkerValueString}
use Rattle.values.specs.declared.releases.Release.{Release}
use Rattle.values.specs.declared.texts.Text.{Text}
use Rattle.ranges.specs.Bounds.{empty_edge, lies}
use Rattle.ranges.specs.Cover.{cover, no_edge}
use Rattle.ranges.specs.declared.edges.Edge.{Edge}
use Rattle.diagrams.specs.Tables.{Table, own, no_node}
use Rattle.diagrams.specs.Ids.{turned}
use Rattle.diagrams.specs.declared.rows.Node.{Node}
use Rattle.diagrams.specs.declared.views.EdgesMarkerTree.{EdgesMarkerTree}
use Rattle.diagrams.specs.declared.views.MarkerTreeKind.{MarkerTreeKind}
use Rattle.diagrams.specs.declared.views.MarkerTreeKind.TheVariants.{True, False, Version, String, In, Contains, Extra}
use Rattle.diagrams.specs.declared.views.MarkerValueExtra.{MarkerValueExtra}
use Rattle.diagrams.specs.declared.views.MarkerValueExtra.TheVariants as name

-- the seven cases: a key with edges, a key with a literal and its high and low child, or an extra's name with them;
-- child ids as they are seen under the id
pub data View : Type 0 where
  always : View
  never : View
  version : MarkerValueVersion → List (Edge Release) → View
  string : MarkerValueString → List (Edge Text) → View
  in_literal : MarkerValueString → Text → ℕ → ℕ → View
  has_literal : MarkerValueString → Text → ℕ → ℕ → View
  extra : Text → ℕ → ℕ → View
  extra_text : Text → ℕ → ℕ → View

-- an edge as it is seen under an id
abbrev pub seen : {T : Type 0} → ℕ → Edge T → Edge T
seen id e = record { lower = e.lower; upper = e.upper; child = turned id e.child }

-- the edges of a view, as its id shows them
abbrev pub edges_seen : {K T : Type 0} → EdgesMarkerTree K T → List (Edge T)
edges_seen v = map (seen v.id.0) v.edges.now

-- what a node with a high and a low child shows under an id, by its kind and key
abbrev pub branch_view : ℕ → Node → Option View
branch_view id n =
    cond (n.kind == 2) (option_map (λ k. in_literal k n.literal (turned id n.high) (turned id n.low)) (string_key_of n.key))
    (cond (n.kind == 3) (option_map (λ k. has_literal k n.literal (turned id n.high) (turned id n.low)) (string_key_of n.key))
    (cond (n.kind == 4) (Some (extra n.literal (turned id n.high) (turned id n.low)))
    (cond (n.kind == 5) (Some (extra_text n.literal (turned id n.high) (turned id n.low))) None)))

-- what a node shows under an id, by its kind and key
abbrev pub node_view : Table → ℕ → Node → Option View
node_view t id n =
    cond (n.kind == 0) (option_map (λ k. version k (map (seen id) (own t.releases n))) (version_key_of n.key))
    (cond (n.kind == 1) (option_map (λ k. string k (map (seen id) (own t.texts n))) (string_key_of n.key))
    (branch_view id n))

-- a table knows TRUE and FALSE, and two ids for each node
abbrev pub known : Table → ℕ → Bool
known t id = nat_le (id / 2) (length t.nodes)

abbrev pub seen_at : Table → ℕ → Option View
seen_at t id =
    cond (id == 0) (Some always)
    (cond (id == 1) (Some never)
    (cond (known t id) (node_view t id (slice_index_or t.nodes (id / 2 - 1) no_node)) None))

-- THE VIEW of an id
unfoldable pub view : Table → ℕ → Result View Fault
view t id = ok_or (seen_at t id) UnknownId

-- what a view of the code shows
abbrev pub shown_extra : MarkerValueExtra → ℕ → ℕ → View
shown_extra (name.Extra t) high low = extra t.now high low
shown_extra (name.Arbitrary t) high low = extra_text t.now high low

abbrev pub shown_kind : MarkerTreeKind → View
shown_kind True = always
shown_kind False = never
shown_kind (Version v) = version v.key (edges_seen v)
shown_kind (String v) = string v.key (edges_seen v)
shown_kind (In v) = in_literal v.key v.value.now v.high.0 v.low.0
shown_kind (Contains v) = has_literal v.key v.value.now v.high.0 v.low.0
shown_kind (Extra v) = shown_extra v.name v.high.0 v.low.0

abbrev pub shown : Result MarkerTreeKind Fault → Result View Fault
shown (Ok k) = Ok (shown_kind k)
shown (Err f) = Err f

-- what is known of the edges that an admitted diagram shows under an id
pub record SoundLines {T : Type 0} (row : T → Row) (id : ℕ) (es : List (Edge T)) : Type 0 where
  -- children fall
  pub falls : (j : ℕ) → j < length es → (slice_index_or es j no_edge).child < id
  pub filled : list_any (empty_edge row) es ≡ false
  pub covered : cover row es ≡ true
  -- exactly one edge contains any value
  pub one : (v : Row) → count_by (λ e. lies row e v) es ≡ 1

-- what is known of a view that an admitted diagram shows under an id
abbrev pub SoundView : ℕ → View → Type 0
SoundView id always = Unit {0}
SoundView id never = Unit {0}
SoundView id (version k es) = SoundLines release_row id es
SoundView id (string k es) = SoundLines text_bytes id es
SoundView id (in_literal k t high low) = (high < id) × (low < id)
SoundView id (has_literal k t high low) = (high < id) × (low < id)
SoundView id (extra t high low) = (high < id) × (low < id)
SoundView id (extra_text t high low) = (high < id) × (low < id)

-- of every id: the diagram lacks it, or shows it soundly
pub record Shows (t : Table) (id : ℕ) : Type 0 where
  pub shows : is_ok (view t id) ≡ known t id
  pub sound : (v : View) → view t id ≡ Ok v → SoundView id v
