use Rattle.std.proofs.Common.{◌≡◌, ℕ, ◌+◌, ◌<◌, ◌≤◌, [], drop, Ordering, Equal, sym, ap, ◌∙◌, subst, arith}
use Rattle.std.specs.Ordering.{MatchOrdering, ordering_then, nat_cmp}
use Rattle.std.proofs.lemmas.List.{drop_all}
use Rattle.values.specs.Rows.{Row, by_row}
use Rattle.values.specs.Releases.{most_numbers, release_row, number, Before, Same}
use Rattle.values.specs.declared.releases.Release.{Release}
use Rattle.values.specs.Lines.{row_step, row_itself, differs}
use Rattle.values.proofs.Written.{length-row, row_number, release_words}
use Rattle.values.proofs.releases.ReleaseOrd.cmp.Goals as goal

told : (a b : Release) (o : Ordering) → o ≡ by_row (release_row a) (release_row b) → MatchOrdering o (Before a b) (Same a b) (Before b a)
told a b o e = subst (λ (k : Ordering). MatchOrdering k (Before a b) (Same a b) (Before b a)) (sym e) (release_words a b)

-- the numbers at a place, and those behind it
step : (a b : Release) (i : ℕ) (o : Ordering) → i < most_numbers → nat_cmp (number a i) (number b i) ≡ o → by_row (drop i (release_row a)) (drop i (release_row b)) ≡ ordering_then o (by_row (drop (i + 1) (release_row a)) (drop (i + 1) (release_row b)))
step a b i o lt e =
    row_step (release_row a) (release_row b) i (number a i) (number b i) (omega (arith, length-row a)) (omega (arith, length-row b)) (row_number a i) (row_number b i)
    ∙ ap (λ (k : Ordering). ordering_then k (by_row (drop (i + 1) (release_row a)) (drop (i + 1) (release_row b)))) e

-- what the comparison of the numbers at a place says of their order
ranked : (a b : Release) (i x y : ℕ) (o : Ordering) → x ≡ number a i → y ≡ number b i → o ≡ nat_cmp x y → nat_cmp (number a i) (number b i) ≡ o
ranked a b i x y o p q h = sym (ap (λ (m : ℕ). nat_cmp m (number b i)) p) ∙ sym (ap (nat_cmp x) q) ∙ sym h

pub returns-in_default : goal.returns-in_default
returns-in_default c =
    let a = c.args.self.now in
    let b = c.args.other.now in
    let i : ℕ = c.loop-place.place in
    let o : Ordering = c.cmp.result in
    let here = ranked a b i c.number.result c.number-in-loop-place.result o c.number.ensures c.number-in-loop-place.ensures c.cmp.ensures in
    let rest : Ordering = by_row (drop (i + 1) (release_row a)) (drop (i + 1) (release_row b)) in
    let value : o ≡ by_row (release_row a) (release_row b) = sym (step a b i o c.loop-place-test.true here ∙ differs o rest c.in_default.not-Equal) ∙ c.loop-place.invariant in
    record { value = value; words = told a b o value }

pub loop-place-preserved : goal.loop-place-preserved
loop-place-preserved c =
    let a = c.args.self.now in
    let b = c.args.other.now in
    let i : ℕ = c.loop-place.place in
    let here = ranked a b i c.number.result c.number-in-loop-place.result c.cmp.result c.number.ensures c.number-in-loop-place.ensures c.cmp.ensures in
    sym (step a b i Equal c.loop-place-test.true (here ∙ c.in-Equal.is)) ∙ c.loop-place.invariant

-- no number is left
all_same : (a b : Release) (i : ℕ) → most_numbers ≤ i → by_row (drop i (release_row a)) (drop i (release_row b)) ≡ Equal
all_same a b i le =
    ap (λ (xs : Row). by_row xs (drop i (release_row b))) (drop_all i (release_row a) (omega (arith, length-row a)))
    ∙ ap (by_row []) (drop_all i (release_row b) (omega (arith, length-row b)))
    ∙ row_itself []

pub returns : goal.returns
returns c =
    let a = c.args.self.now in
    let b = c.args.other.now in
    let value : Equal ≡ by_row (release_row a) (release_row b) = sym (all_same a b c.loop-place.place c.loop-place-test.false) ∙ c.loop-place.invariant in
    record { value = value; words = told a b Equal value }
