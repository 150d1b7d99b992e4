-- The words of lists in the checks, and when there are too many nodes.
use Rattle.std.proofs.Common.{◌≡◌, ℕ, ◌-◌, ◌/◌, ◌<◌, ◌≤◌, Bool, true, false, not, ◌&&◌, ◌||◌, eqb, ltb, List, [], ◌∷◌, length, get_or, take, drop, Some, sym, refl, ap, ◌∙◌, arith}
use Rattle.std.specs.List.{list_any, list_all}
use Rattle.std.proofs.lemmas.List.{take_rest}
use Rattle.std.proofs.lemmas.Bool.Decides.{nat_tests}
use Rattle.values.specs.declared.faults.Fault.TheVariants.{TooManyNodes}
use Rattle.ranges.specs.declared.edges.Edge.{Edge}
use Rattle.diagrams.specs.Tables.{Table, child_ids}
use Rattle.diagrams.specs.Admission.{too_large, all_same, nodes_refusal, most_nodes, first_refusal}

-- a child's id against the place, by its half
pub large_yes : (i c : ℕ) → i < c / 2 → too_large i c ≡ true
large_yes i c h = grind (arith, nat_tests)

pub large_no : (i c : ℕ) → c / 2 ≤ i → too_large i c ≡ false
large_no i c h = grind (arith, nat_tests)

-- all are one, unless some is another
all_or_other : (c : ℕ) (cs : List ℕ) → list_all (λ d. eqb d c) cs ≡ not (list_any (λ d. not (eqb d c)) cs)
all_or_other c [] = refl
all_or_other c (d ∷ ds) = ap (λ b. eqb d c && b) (all_or_other c ds) ∙ by (eqb d c) (list_any (λ f. not (eqb f c)) ds)
  where
    by : (a b : Bool) → (a && not b) ≡ not (not a || b)
    by true b = refl
    by false b = refl

-- the same of edges, of which the first is e
pub others : {T : Type 0} (es : List (Edge T)) (e : Edge T) {b : Bool} → 0 < length es → e ≡ get_or es 0 e → b ≡ list_any (λ d. not (eqb d e.child)) (child_ids (take (length es - 1) (drop 1 es))) → all_same (child_ids es) ≡ not b
others [] e lt is h = absurd (omega arith)
others (x ∷ es) e {b} lt is h =
    let here : b ≡ list_any (λ d. not (eqb d x.child)) (child_ids (take (length (x ∷ es) - 1) (drop 1 (x ∷ es)))) = rw is at h in
    all_or_other x.child (child_ids es) ∙ ap not (sym (here ∙ ap (λ fs. list_any (λ d. not (eqb d x.child)) (child_ids fs)) (take_rest (x ∷ es) 1)))

pub few : (t : Table) → length t.nodes ≤ most_nodes → first_refusal t ≡ nodes_refusal t.releases t.texts 0 t.nodes
unfolding first_refusal
few t le = let e : ltb most_nodes (length t.nodes) ≡ false = grind (arith, nat_tests) in rw e

pub many : (t : Table) → most_nodes < length t.nodes → first_refusal t ≡ Some TooManyNodes
unfolding first_refusal
many t lt = let e : ltb most_nodes (length t.nodes) ≡ true = grind (arith, nat_tests) in rw e
