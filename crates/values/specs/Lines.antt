-- The laws of the order on rows.
use Rattle.std.specs.Prelude.{◌≡◌, ℕ, suc, ◌+◌, ◌<◌, [], ◌∷◌, length, drop, ◌≢◌, slice_index, refl}
use Rattle.std.specs.declared.cmp.Ordering.TheVariants.{Less, Equal, Greater}
use Rattle.std.specs.declared.cmp.Ordering.{Ordering}
use Rattle.std.proofs.Common.{ap, sym, subst, ◌∙◌, inl, inr, arith}
use Rattle.std.proofs.lemmas.List.{at_drop_more}
use Rattle.std.specs.Cmp.{nat_cmp_total, nat_cmp_is, ranks, on_total, tied_itself, IsTotalOrder}
use Rattle.std.specs.Cmp.Lexicographic.{slice_cmp, lists_total}
use Rattle.std.specs.Ordering.{MatchOrdering, ordering_reverse, ordering_then, nat_cmp, on}
use Rattle.values.specs.Rows.{Row, by_row}
use Rattle.values.specs.Releases.{release_row}
use Rattle.values.specs.Texts.{text_bytes}
use Rattle.values.specs.Rows.{Earlier}

-- the library compares slices so
pub row_says : (xs ys : Row) (r : Ordering) → r ≡ slice_cmp nat_cmp xs ys → r ≡ by_row xs ys
unfolding by_row
row_says xs ys r h = h

-- rows are in total order
pub rows_total : IsTotalOrder by_row
unfolding by_row
rows_total = lists_total nat_cmp_total

-- the same law by law: turned round, through a third row, in place of an equal row, and of a row with itself
pub row_turns : (xs ys : Row) → by_row ys xs ≡ ordering_reverse (by_row xs ys)
row_turns xs ys = rows_total.antisymm ys xs

pub row_through : (xs ys zs : Row) → by_row xs ys ≡ Less → by_row ys zs ≡ Less → by_row xs zs ≡ Less
row_through xs ys zs h k = rows_total.trans xs ys zs h k

pub row_alike : (xs ys zs : Row) → by_row xs ys ≡ Equal → by_row xs zs ≡ by_row ys zs
row_alike xs ys zs h = rows_total.congr xs ys zs h

pub row_itself : (xs : Row) → by_row xs xs ≡ Equal
row_itself xs = tied_itself rows_total xs

-- releases and texts are, by their rows
pub releases_total : IsTotalOrder (on release_row by_row)
releases_total = on_total release_row rows_total

pub texts_total : IsTotalOrder (on text_bytes by_row)
texts_total = on_total text_bytes rows_total

-- how two numbers compare, and what that says of them
rank_is : (x y : ℕ) (o : Ordering) → nat_cmp x y ≡ o → MatchOrdering o (x < y) (x ≡ y) (y < x)
rank_is x y o e = subst (λ k. MatchOrdering k (x < y) (x ≡ y) (y < x)) e (ranks x y)

pub rank_says : (x y : ℕ) (o : Ordering) → MatchOrdering o (x < y) (x ≡ y) (y < x) → nat_cmp x y ≡ o
rank_says x y o h = sym (nat_cmp_is x y o h)

pub cons_earlier : (x : ℕ) (xs ys : Row) → Earlier xs ys → Earlier (x ∷ xs) (x ∷ ys)
cons_earlier x xs ys e = record {
  at = suc e.at;
  agree = ap (λ r. x ∷ r) e.agree;
  inside = omega (arith, e.inside);
  less = elim e.less [ inl h ↦ inl (ap suc h) | inr h ↦ inr (omega (arith, h.0), h.1) ];
}

-- the answer in plain words
pub Words : Row → Row → Ordering → Type 0
Words xs ys o = MatchOrdering o (Earlier xs ys) (xs ≡ ys) (Earlier ys xs)

words_then : (x y : ℕ) (xs ys : Row) (k o : Ordering) → MatchOrdering k (x < y) (x ≡ y) (y < x) → Words xs ys o → Words (x ∷ xs) (y ∷ ys) (ordering_then k o)
unfolding Words
words_then x y xs ys Less o h w = record { at = 0; agree = refl; inside = omega arith; less = inr (omega arith, h) }
words_then x y xs ys Equal Less h w = subst (λ z. Earlier (x ∷ xs) (z ∷ ys)) h (cons_earlier x xs ys w)
words_then x y xs ys Equal Equal h w = λ i. h i ∷ w i
words_then x y xs ys Equal Greater h w = subst (λ z. Earlier (z ∷ ys) (x ∷ xs)) h (cons_earlier x ys xs w)
words_then x y xs ys Greater o h w = record { at = 0; agree = refl; inside = omega arith; less = inr (omega arith, h) }

pub row_words : (xs ys : Row) → Words xs ys (slice_cmp nat_cmp xs ys)
unfolding Words
row_words [] [] = refl
row_words [] (y ∷ ys) = record { at = 0; agree = refl; inside = omega arith; less = inl refl }
row_words (x ∷ xs) [] = record { at = 0; agree = refl; inside = omega arith; less = inl refl }
row_words (x ∷ xs) (y ∷ ys) = words_then x y xs ys (nat_cmp x y) (slice_cmp nat_cmp xs ys) (ranks x y) (row_words xs ys)

pub by_words : (xs ys : Row) → MatchOrdering (by_row xs ys) (Earlier xs ys) (xs ≡ ys) (Earlier ys xs)
unfolding by_row Words
by_words xs ys = row_words xs ys

pub row_same : (xs ys : Row) → by_row xs ys ≡ Equal → xs ≡ ys
row_same xs ys e = subst (λ o. MatchOrdering o (Earlier xs ys) (xs ≡ ys) (Earlier ys xs)) e (by_words xs ys)

-- one number on, where both rows have one
pub row_step : (xs ys : Row) (i x y : ℕ) → i < length xs → i < length ys → slice_index xs i ≡ x → slice_index ys i ≡ y → by_row (drop i xs) (drop i ys) ≡ ordering_then (nat_cmp x y) (by_row (drop (i + 1) xs) (drop (i + 1) ys))
unfolding by_row
row_step xs ys i x y h k p q =
    at_drop_more (λ zs. slice_cmp nat_cmp zs (drop i ys)) xs i 0 h
    ∙ at_drop_more (λ zs. slice_cmp nat_cmp (slice_index xs i ∷ drop (i + 1) xs) zs) ys i 0 k
    ∙ rw (p, q)

-- the first numbers that differ decide
pub differs : (o rest : Ordering) → (o ≢ Equal) → ordering_then o rest ≡ o
differs Less rest n = refl
differs Equal rest n = absurd (n refl)
differs Greater rest n = refl
