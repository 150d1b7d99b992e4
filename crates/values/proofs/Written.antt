-- What releases and texts mean, number by number and byte by byte, and their order in plain words.
use Rattle.std.proofs.Common.{◌≡◌, ℕ, zero, suc, ◌-◌, ◌<◌, ◌≤◌, min, [], ◌∷◌, ◌++◌, map, length, get_or, take, replicate, Ordering, Less, Equal, Greater, sym, refl, ap, ◌∙◌, inl, inr, arith}
use Rattle.std.specs.Ordering.{MatchOrdering}
use Rattle.std.proofs.lemmas.List.{length-append, length-replicate, length-take, length-map, get_or_past, get_or-take, get_or-map}
use Rattle.values.specs.Rows.{Row, by_row, Earlier}
use Rattle.values.specs.Releases.{largest, most_numbers, Before, Same, number, release_count, release_numbers, release_row}
use Rattle.values.specs.declared.releases.Release.{Release}
use Rattle.values.specs.Lines.{by_words}

length-numbers : (r : Release) → length (release_numbers r) ≤ most_numbers
unfolding release_numbers
length-numbers r = simp (length-map, length-take) (omega arith)

pub length-row : (r : Release) → length (release_row r) ≡ most_numbers
unfolding release_row
length-row r = simp (length-append, length-replicate) (omega (arith, length-numbers r))

zeros : (n k : ℕ) → ◌≡◌ {A = ℕ} (get_or (replicate n 0) k 0) 0
zeros zero k = refl
zeros (suc n) zero = refl
zeros (suc n) (suc k) = zeros n k

padded : (xs : Row) (n k : ℕ) → get_or (xs ++ replicate n 0) k 0 ≡ get_or xs k 0
padded [] n k = zeros n k
padded (x ∷ xs) n zero = refl
padded (x ∷ xs) n (suc k) = padded xs n k

pub row_number : (r : Release) (k : ℕ) → get_or (release_row r) k 0 ≡ number r k
unfolding release_row
row_number r k = padded (release_numbers r) (most_numbers - length (release_numbers r)) k

before : (a b : Release) → Earlier (release_row a) (release_row b) → Before a b
before a b e = record {
  at = e.at;
  agree = λ k h. sym (row_number a k) ∙ sym (get_or-take e.at (release_row a) k 0 h) ∙ ap (λ xs. get_or xs k 0) e.agree ∙ get_or-take e.at (release_row b) k 0 h ∙ row_number b k;
  less = elim e.less [ inl h ↦ absurd (omega (arith, h, e.inside, length-row a, length-row b)) | inr h ↦ omega (arith, h.1, row_number a e.at, row_number b e.at) ];
}

by_ranked : {P Q R P' Q' R' : Type 0} (o : Ordering) → (P → P') → (Q → Q') → (R → R') → MatchOrdering o P Q R → MatchOrdering o P' Q' R'
by_ranked Less f g h w = f w
by_ranked Equal f g h w = g w
by_ranked Greater f g h w = h w

-- the order of releases in plain words
pub release_words : (a b : Release) → MatchOrdering (by_row (release_row a) (release_row b)) (Before a b) (Same a b) (Before b a)
release_words a b = by_ranked (by_row (release_row a) (release_row b)) (before a b) (λ e k. sym (row_number a k) ∙ ap (λ xs. get_or xs k 0) e ∙ row_number b k) (before b a) (by_words (release_row a) (release_row b))

pub number_within : (r : Release) (i : ℕ) → i < release_count r → i < length r.numbers → min (get_or r.numbers i 0) largest ≡ number r i
unfolding release_numbers
number_within r i h k =
    let far : i < length (take (release_count r) r.numbers) = simp length-take (omega arith) in
    sym (get_or-map (λ n. min n largest) (take (release_count r) r.numbers) i 0 0 far ∙ ap (λ n. min n largest) (get_or-take (release_count r) r.numbers i 0 h))

pub number_past : (r : Release) (i : ℕ) → release_count r ≤ i → ◌≡◌ {A = ℕ} 0 (number r i)
unfolding release_numbers
number_past r i h = sym (get_or_past (map (λ n. min n largest) (take (release_count r) r.numbers)) i 0 (simp (length-map, length-take) (omega arith)))
