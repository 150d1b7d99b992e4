-- The first element of a list that passes a test.
use Rattle.std.proofs.Common.{◌≡◌, ℕ, zero, suc, ◌+◌, ◌<◌, ◌≤◌, Bool, true, false, cond, ◌⊎◌, List, [], ◌∷◌, length, get_or, drop, Some, None, Option, sym, refl, ◌∙◌, subst, inl, inr, le_of_suc-le-suc, not-suc-le-zero, arith}
use Rattle.std.proofs.lemmas.List.{at_drop_more, at_drop_all}
use Rattle.std.specs.List.{position_from}

pub some_none : {A : Type 0} {x : A} → Some x ≡ None → ⊥
some_none e = let z : ◌≡◌ {A = ℕ} 0 1 = cc in omega arith

pub some_same : {A : Type 0} {x y : A} → Some x ≡ Some y → x ≡ y
some_same e = cc

cond-none : (b : Bool) (i : ℕ) (o : Option ℕ) → cond b (Some i) o ≡ None → (b ≡ false) × (o ≡ None)
cond-none true i o e = absurd (some_none e)
cond-none false i o e = (refl, e)

cond-some : (b : Bool) {i j : ℕ} {o : Option ℕ} → cond b (Some i) o ≡ Some j → ((b ≡ true) × (j ≡ i)) ⊎ ((b ≡ false) × (o ≡ Some j))
cond-some true e = inl (refl, sym (some_same e))
cond-some false e = inr (refl, e)

-- k is the place of the first that passes
pub record Found {A : Type 0} (d : A) (p : A → Bool) (xs : List A) (k : ℕ) : Type 0 where
  pub within : k < length xs
  pub here : p (get_or xs k d) ≡ true
  pub earlier : (m : ℕ) → m < k → p (get_or xs m d) ≡ false

pub first_none : {A : Type 0} (d : A) (p : A → Bool) (i : ℕ) (xs : List A) → position_from p i xs ≡ None → (k : ℕ) → k < length xs → p (get_or xs k d) ≡ false
first_none d p i [] e k lt = absurd (not-suc-le-zero lt)
first_none d p i (x ∷ xs) e zero lt = (cond-none (p x) i (position_from p (i + 1) xs) e).0
first_none d p i (x ∷ xs) e (suc k) lt = first_none d p (i + 1) xs (cond-none (p x) i (position_from p (i + 1) xs) e).1 k (le_of_suc-le-suc lt)

found_more : {A : Type 0} (d : A) (p : A → Bool) (x : A) (xs : List A) (k : ℕ) → p x ≡ false → Found d p xs k → Found d p (x ∷ xs) (suc k)
found_more d p x xs k b r = record {
  within = let w = r.within in omega arith;
  here = r.here;
  earlier = λ (m : ℕ). elim m as (λ (q : ℕ). q < suc k → p (get_or (x ∷ xs) q d) ≡ false) [ zero ↦ λ lt. b | suc q ↦ λ lt. r.earlier q (le_of_suc-le-suc lt) ];
}

first_found : {A : Type 0} (d : A) (p : A → Bool) (i : ℕ) (xs : List A) {j : ℕ} → position_from p i xs ≡ Some j → (k : ℕ) × ((j ≡ i + k) × Found d p xs k)
first_found d p i [] e = absurd (some_none (sym e))
first_found d p i (x ∷ xs) e =
    elim (cond-some (p x) e) [
      | inl q ↦ let z : i ≡ i + 0 = omega arith in (0, (q.1 ∙ z, record { within = omega arith; here = q.0; earlier = λ m lt. absurd (not-suc-le-zero lt) }))
      | inr q ↦
          let r = first_found d p (i + 1) xs q.1 in
          let z : i + 1 + r.0 ≡ i + suc r.0 = omega arith in
          (suc r.0, (r.1.0 ∙ z, found_more d p x xs r.0 q.0 r.1.1))
    ]

pub first_some : {A : Type 0} (d : A) (p : A → Bool) (xs : List A) {j : ℕ} → position_from p 0 xs ≡ Some j → Found d p xs j
first_some d p xs {j} e =
    let r = first_found d p 0 xs e in
    let z : r.0 ≡ j = omega (arith, r.1.0) in
    subst (λ (k : ℕ). Found d p xs k) z r.1.1

-- one turn of a search that has come to the place i
pub first_here : {A : Type 0} (d : A) (p : A → Bool) (xs : List A) (i : ℕ) (b : Bool) → i < length xs → p (get_or xs i d) ≡ b → position_from p i (drop i xs) ≡ cond b (Some i) (position_from p (i + 1) (drop (i + 1) xs))
first_here d p xs i b lt e = at_drop_more (position_from p i) xs i d lt ∙ rw e

pub first_past : {A : Type 0} (p : A → Bool) (xs : List A) (i : ℕ) → length xs ≤ i → position_from p i (drop i xs) ≡ None
first_past p xs i le = at_drop_all (position_from p i) xs i le
