-- What admission means: the rules of a table, which refusal comes first, and what an admitted table is.
use Rattle.std.specs.Prelude.{◌≡◌, ℕ, ◌+◌, ◌*◌, ◌<◌, ◌≤◌, true, false, cond, ◌⊎◌, List, [], ◌∷◌, length, Some, None, nat_le, slice_index, slice_index_or}
use Rattle.std.specs.List.{list_any, count_by}
use Rattle.values.specs.Rows.{Row}
use Rattle.values.specs.Releases.{release_row}
use Rattle.values.specs.Texts.{text_bytes}
use Rattle.values.specs.Names.{Normal}
use Rattle.values.specs.Faults.{refusal}
use Rattle.values.specs.declared.faults.Fault.{Fault}
use Rattle.values.specs.declared.faults.Fault.TheVariants.{ReleaseCount, NumberTooLarge, TextTooLong, TooManyNodes, UnknownKind, KeyOutOfRange, ExtraNotNormal, EdgeCount, EdgesPastEnd, ChildTooLarge, EmptyRange, Uncovered, OneChild, UnknownId, HostTextTooLong, NameNotNormal, PathFull, ClausesFull}
use Rattle.ranges.specs.Bounds.{empty_edge, lies}
use Rattle.ranges.specs.Cover.{no_edge, Gap, cover}
use Rattle.ranges.specs.declared.edges.Edge.{Edge}
use Rattle.diagrams.specs.Tables.{Table, own, child_ids, no_node}
use Rattle.diagrams.specs.Admission.{most_nodes, least_edges, most_edges, first_refusal}
use Rattle.diagrams.specs.declared.rows.Node.{Node}

-- the child ids of a node: of its edges in order, or high and low
abbrev pub children : Table → Node → List ℕ
children t n =
    cond (nat_le n.kind 0) (child_ids (own t.releases n))
    (cond (nat_le n.kind 1) (child_ids (own t.texts n))
    (n.high ∷ n.low ∷ []))

abbrev pub AllEqual : List ℕ → Type 0
AllEqual cs = (j : ℕ) → j < length cs → slice_index cs j ≡ slice_index cs 0

-- the edge at place j has an empty range
abbrev pub EmptyAt : {T : Type 0} → (T → Row) → List (Edge T) → ℕ → Type 0
EmptyAt row es j = (j < length es) × (empty_edge row (slice_index_or es j no_edge) ≡ true)

-- THE RULES: the node n at place i breaks the rule of a refusal, at the refusal's places
abbrev pub Breaks : Table → ℕ → Node → Fault → Type 0
Breaks t i n (UnknownKind k) = (k ≡ i) × (5 < n.kind)
Breaks t i n (KeyOutOfRange k) = (k ≡ i) × (((n.kind ≡ 0) × (2 < n.key)) ⊎ ((1 ≤ n.kind) × (n.kind ≤ 3) × (13 < n.key)))
Breaks t i n (ExtraNotNormal k) = (k ≡ i) × (n.kind ≡ 4) × (Normal (text_bytes n.literal) → ⊥)
Breaks t i n (EdgeCount k) = (k ≡ i) × (n.kind ≤ 1) × ((n.count < least_edges) ⊎ (most_edges < n.count))
Breaks t i n (EdgesPastEnd k) = (k ≡ i) × (((n.kind ≡ 0) × (length t.releases < n.first + n.count)) ⊎ ((n.kind ≡ 1) × (length t.texts < n.first + n.count)))
Breaks t i n (ChildTooLarge k j) = (k ≡ i) × (n.kind ≤ 5) × (j < length (children t n)) × (2 * (i + 1) ≤ slice_index (children t n) j)
Breaks t i n (EmptyRange k j) = (k ≡ i) × (((n.kind ≡ 0) × EmptyAt release_row (own t.releases n) j) ⊎ ((n.kind ≡ 1) × EmptyAt text_bytes (own t.texts n) j))
Breaks t i n (Uncovered k j) = (k ≡ i) × (((n.kind ≡ 0) × Gap release_row (own t.releases n) j) ⊎ ((n.kind ≡ 1) × Gap text_bytes (own t.texts n) j))
Breaks t i n (OneChild k) = (k ≡ i) × (n.kind ≤ 5) × AllEqual (children t n)
Breaks t i n ReleaseCount = ⊥
Breaks t i n (NumberTooLarge k) = ⊥
Breaks t i n TextTooLong = ⊥
Breaks t i n TooManyNodes = ⊥
Breaks t i n UnknownId = ⊥
Breaks t i n (HostTextTooLong k) = ⊥
Breaks t i n (NameNotNormal k) = ⊥
Breaks t i n PathFull = ⊥
Breaks t i n ClausesFull = ⊥

-- some rule is broken, somewhere in the table
pub data Broken (t : Table) : Fault → Type 0 where
  too_many : most_nodes < length t.nodes → Broken t TooManyNodes
  at_node : {f : Fault} (i : ℕ) → i < length t.nodes → Breaks t i (slice_index_or t.nodes i no_node) f → Broken t f

-- the order of refusals: node, then number, then the place within the node
abbrev pub Ahead : Fault → Fault → Type 0
Ahead f g = ((refusal f).number < (refusal g).number) ⊎ (((refusal f).number ≡ (refusal g).number) × ((refusal f).second ≤ (refusal g).second))

abbrev pub First : Fault → Fault → Type 0
First f g = ((refusal f).first < (refusal g).first) ⊎ (((refusal f).first ≡ (refusal g).first) × Ahead f g)

-- THE LAW of admission: a refusal is given exactly when some rule is broken, and it is the first of those broken
pub record Refuses (t : Table) : Type 0 where
  pub none : first_refusal t ≡ None → (g : Fault) → Broken t g → ⊥
  pub given : (f : Fault) → first_refusal t ≡ Some f → Broken t f
  pub first : (f : Fault) → first_refusal t ≡ Some f → (g : Fault) → Broken t g → First f g

-- what is known of the edges of an admitted node, which lie in the list es
pub record SoundEdges {T : Type 0} (row : T → Row) (es : List (Edge T)) (n : Node) : Type 0 where
  pub least : least_edges ≤ n.count
  pub most : n.count ≤ most_edges
  pub within : n.first + n.count ≤ length es
  pub filled : list_any (empty_edge row) (own es n) ≡ false
  pub covered : cover row (own es n) ≡ true
  -- exactly one edge contains any value
  pub one : (v : Row) → count_by (λ e. lies row e v) (own es n) ≡ 1

pub record SoundNode (t : Table) (i : ℕ) (n : Node) : Type 0 where
  pub kind : n.kind ≤ 5
  pub version : n.kind ≡ 0 → n.key ≤ 2
  pub string : 1 ≤ n.kind → n.kind ≤ 3 → n.key ≤ 13
  pub extra : n.kind ≡ 4 → Normal (text_bytes n.literal)
  -- children fall
  pub falls : (j : ℕ) → j < length (children t n) → slice_index (children t n) j < 2 * (i + 1)
  pub apart : AllEqual (children t n) → ⊥
  pub releases : n.kind ≡ 0 → SoundEdges release_row t.releases n
  pub texts : n.kind ≡ 1 → SoundEdges text_bytes t.texts n

-- every rule holds of every node
pub record Sound (t : Table) : Type 0 where
  pub few : length t.nodes ≤ most_nodes
  pub node : (i : ℕ) → i < length t.nodes → SoundNode t i (slice_index_or t.nodes i no_node)
