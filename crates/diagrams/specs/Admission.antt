-- Admission: the first rule that a table breaks.
use Rattle.std.specs.Prelude.{ℕ, ◌+◌, ◌*◌, Bool, true, cond, ◌||◌, List, [], ◌∷◌, length, is_some, Some, None, Option, ◌==◌, nat_le, nat_lt}
use Rattle.std.specs.Option.{option_map, option_or}
use Rattle.std.specs.List.{list_all, position_from}
use Rattle.values.specs.Rows.{Row}
use Rattle.values.specs.Releases.{release_row}
use Rattle.values.specs.Texts.{text_bytes}
use Rattle.values.specs.Names.{normal_name}
use Rattle.values.specs.Keys.{version_key_of, string_key_of}
use Rattle.values.specs.declared.faults.Fault.{Fault}
use Rattle.values.specs.declared.faults.Fault.TheVariants.{TooManyNodes, UnknownKind, KeyOutOfRange, ExtraNotNormal, EdgeCount, EdgesPastEnd, ChildTooLarge, EmptyRange, Uncovered, OneChild}
use Rattle.values.specs.declared.releases.Release.{Release}
use Rattle.values.specs.declared.texts.Text.{Text}
use Rattle.ranges.specs.Bounds.{empty_edge}
use Rattle.ranges.specs.Cover.{uncovered}
use Rattle.ranges.specs.declared.edges.Edge.{Edge}
use Rattle.diagrams.specs.Tables.{Table, own, child_ids}
use Rattle.diagrams.specs.declared.rows.Node.{Node}

-- how many nodes a diagram has at most
abbrev pub most_nodes : ℕ
most_nodes = 4096

-- how many edges a node has at least and at most
abbrev pub least_edges : ℕ
least_edges = 2

abbrev pub most_edges : ℕ
most_edges = 64

-- 6: the key is out of range for the kind
abbrev pub key_refusal : ℕ → Bool → Option Fault
key_refusal i known = cond known None (Some (KeyOutOfRange i))

-- 7: the literal of a named extra is not a normal name
abbrev pub name_refusal : ℕ → Text → Option Fault
name_refusal i t = cond (normal_name (text_bytes t)) None (Some (ExtraNotNormal i))

-- 8: too few or too many edges
abbrev pub wrong_edges : Node → Bool
wrong_edges n = nat_lt n.count least_edges || nat_lt most_edges n.count

-- 10: a child's id is that of the node at place i or a larger one
abbrev pub too_large : ℕ → ℕ → Bool
too_large i child = nat_le (2 * (i + 1)) child

abbrev pub child_refusal : ℕ → List ℕ → Option Fault
child_refusal i cs = option_map (λ j. ChildTooLarge i j) (position_from (too_large i) 0 cs)

-- 11: a range is empty
abbrev pub range_refusal : {T : Type 0} → (T → Row) → ℕ → List (Edge T) → Option Fault
range_refusal row i es = option_map (λ j. EmptyRange i j) (position_from (empty_edge row) 0 es)

-- 12: the edges do not cover the line
abbrev pub cover_refusal : {T : Type 0} → (T → Row) → ℕ → List (Edge T) → Option Fault
cover_refusal row i es = option_map (λ j. Uncovered i j) (uncovered row es)

-- 13: all children are one
abbrev pub all_same : List ℕ → Bool
all_same [] = true
all_same (c ∷ cs) = list_all (λ d. d == c) cs

abbrev pub same_refusal : ℕ → List ℕ → Option Fault
same_refusal i cs = cond (all_same cs) (Some (OneChild i)) None

-- 10 to 13, of a node's own edges
abbrev pub own_refusal : {T : Type 0} → (T → Row) → ℕ → List (Edge T) → Option Fault
own_refusal row i es = option_or (child_refusal i (child_ids es)) (option_or (range_refusal row i es) (option_or (cover_refusal row i es) (same_refusal i (child_ids es))))

-- 8 to 13, of a node whose edges lie in the list es
abbrev pub ranged_refusal : {T : Type 0} → (T → Row) → ℕ → Node → List (Edge T) → Option Fault
ranged_refusal row i n es =
    cond (wrong_edges n) (Some (EdgeCount i))
    (cond (nat_lt (length es) (n.first + n.count)) (Some (EdgesPastEnd i))
    (own_refusal row i (own es n)))

-- 10 and 13, of a node with a high and a low child
abbrev pub branches_refusal : ℕ → ℕ → ℕ → Option Fault
branches_refusal i high low = option_or (child_refusal i (high ∷ low ∷ [])) (same_refusal i (high ∷ low ∷ []))

-- the first rule that the node at place i breaks, by its kind
abbrev pub node_refusal : List (Edge Release) → List (Edge Text) → ℕ → Node → Option Fault
node_refusal rs ts i n =
    cond (n.kind == 0) (option_or (key_refusal i (is_some (version_key_of n.key))) (ranged_refusal release_row i n rs))
    (cond (n.kind == 1) (option_or (key_refusal i (is_some (string_key_of n.key))) (ranged_refusal text_bytes i n ts))
    (cond (n.kind == 2 || n.kind == 3) (option_or (key_refusal i (is_some (string_key_of n.key))) (branches_refusal i n.high n.low))
    (cond (n.kind == 4) (option_or (name_refusal i n.literal) (branches_refusal i n.high n.low))
    (cond (n.kind == 5) (branches_refusal i n.high n.low)
    (Some (UnknownKind i))))))

-- the first rule that the nodes from place i on break
abbrev pub nodes_refusal : List (Edge Release) → List (Edge Text) → ℕ → List Node → Option Fault
nodes_refusal rs ts i [] = None
nodes_refusal rs ts i (n ∷ ns) = option_or (node_refusal rs ts i n) (nodes_refusal rs ts (i + 1) ns)

-- THE ANSWER of admission
unfoldable pub first_refusal : Table → Option Fault
first_refusal t = cond (nat_lt most_nodes (length t.nodes)) (Some TooManyNodes) (nodes_refusal t.releases t.texts 0 t.nodes)
