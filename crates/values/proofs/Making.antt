-- What making a release or a text answers.
use Rattle.std.proofs.Common.{◌≡◌, ℕ, suc, ◌-◌, ◌<◌, ◌≤◌, min, true, false, eqb, ltb, ◌⊎◌, List, [], ◌∷◌, ◌++◌, map, length, get_or, take, drop, replicate, Some, None, Ok, Err, Option, Result, ◌≢◌, sym, refl, ap, ◌∙◌, subst, inl, inr, arith, length-append}
use Rattle.std.proofs.lemmas.List.{take_at, take_all, get_or-take, get_or-append_right, get_or-replicate, get_or_past, length-take, length-replicate}
use Rattle.std.proofs.lemmas.Grind.{same_number_lists}
use Rattle.std.proofs.Math.ListN.{get_or-append}
use Rattle.std.proofs.lemmas.Bool.{cases_Bool, cases_lt, or_cases, or_parts, or_left, or_right, eqb-true, eqb-false, eq-eqb, ltb-true, ltb-false, lt-ltb, le-ltb}
use Rattle.std.specs.List.{position_from}
use Rattle.values.specs.Releases.{largest, most_numbers, release_count, release_numbers, stored_release, wrong_count, unless_large, made_release, count, large, MakesRelease}
use Rattle.values.specs.Texts.{most_bytes, text_bytes, stored_text, made_text, MakesText}
use Rattle.values.specs.declared.releases.Release.{Release}
use Rattle.values.specs.declared.texts.Text.{Text}
use Rattle.values.specs.declared.faults.Fault.{Fault}
use Rattle.values.specs.declared.faults.Fault.TheVariants.{ReleaseCount, NumberTooLarge}
use Rattle.values.proofs.Firsts.{first_none, first_some, first_here}

-- ---- releases

abbrev low : ℕ → ℕ
low n = min n largest

map-low : (ns : List ℕ) → ((k : ℕ) → k < length ns → get_or ns k 0 ≤ largest) → map low ns ≡ ns
map-low [] h = refl
map-low (n ∷ ns) h =
    let first : n ≤ largest = h 0 (omega arith) in
    let same : low n ≡ n = omega arith in
    let rest : map low ns ≡ ns = map-low ns (λ k lt. h (suc k) (omega arith)) in
    ap (λ (m : ℕ). m ∷ map low ns) same ∙ ap (λ (ms : List ℕ). n ∷ ms) rest

numbers_stored : (ns : List ℕ) → 1 ≤ length ns → length ns ≤ most_numbers → ((k : ℕ) → k < length ns → get_or ns k 0 ≤ largest) → release_numbers (stored_release ns) ≡ ns
unfolding release_numbers
numbers_stored ns some few h =
    let all : length ns ≡ release_count (stored_release ns) = omega arith in
    ap (map low) (take_at ns (replicate (most_numbers - length ns) 0) (release_count (stored_release ns)) all) ∙ map-low ns h

right_count : (ns : List ℕ) → wrong_count ns ≡ false → (1 ≤ length ns) × (length ns ≤ most_numbers)
right_count ns e =
    let p = or_parts (eqb (length ns) 0) (ltb most_numbers (length ns)) e in
    let n = eqb-false (length ns) 0 p.0 in
    let m = ltb-false most_numbers (length ns) p.1 in
    (omega arith, omega arith)

pub count_wrong : (ns : List ℕ) → (length ns ≡ 0) ⊎ (most_numbers < length ns) → wrong_count ns ≡ true
count_wrong ns h =
    elim h [
      | inl e ↦ or_left (eqb (length ns) 0) (ltb most_numbers (length ns)) (eq-eqb (length ns) 0 e)
      | inr l ↦ or_right (eqb (length ns) 0) (ltb most_numbers (length ns)) (lt-ltb most_numbers (length ns) l)
    ]

pub count_right : (ns : List ℕ) → 1 ≤ length ns → length ns ≤ most_numbers → wrong_count ns ≡ false
count_right ns some few = elim (cases_Bool (wrong_count ns)) [ inl t ↦ absurd (no_count (or_cases (eqb (length ns) 0) (ltb most_numbers (length ns)) t)) | inr f ↦ f ]
  where
    no_count : (eqb (length ns) 0 ≡ true) ⊎ (ltb most_numbers (length ns) ≡ true) → ⊥
    no_count (inl e) = let z = eqb-true (length ns) 0 e in omega arith
    no_count (inr l) = let z = ltb-true most_numbers (length ns) l in omega arith

pub refused_count : (ns : List ℕ) → wrong_count ns ≡ true → Err ReleaseCount ≡ made_release ns
refused_count ns e = rw e

pub answered : (ns : List ℕ) (o : Option ℕ) → wrong_count ns ≡ false → position_from (ltb largest) 0 ns ≡ o → unless_large ns o ≡ made_release ns
answered ns o e f = rw (e, f)

pub makes_release : (ns : List ℕ) → MakesRelease ns (made_release ns)
makes_release ns =
    elim (cases_Bool (wrong_count ns)) [
      | inl t ↦ subst (MakesRelease ns) (refused_count ns t) (count (either (or_cases (eqb (length ns) 0) (ltb most_numbers (length ns)) t)))
      | inr f ↦ subst (MakesRelease ns) (answered ns (position_from (ltb largest) 0 ns) f refl) (rest (right_count ns f) (position_from (ltb largest) 0 ns) refl)
    ]
  where
    either : (eqb (length ns) 0 ≡ true) ⊎ (ltb most_numbers (length ns) ≡ true) → (length ns ≡ 0) ⊎ (most_numbers < length ns)
    either (inl e) = inl (eqb-true (length ns) 0 e)
    either (inr l) = inr (ltb-true most_numbers (length ns) l)

    rest : (1 ≤ length ns) × (length ns ≤ most_numbers) → (o : Option ℕ) → position_from (ltb largest) 0 ns ≡ o → MakesRelease ns (unless_large ns o)
    rest p None e = numbers_stored ns p.0 p.1 (λ k lt. ltb-false largest (get_or ns k 0) (first_none 0 (ltb largest) 0 ns e k lt))
    rest p (Some i) e =
        let w = first_some 0 (ltb largest) ns e in
        large i p.0 p.1 w.within (ltb-true largest (get_or ns i 0) w.here) (λ k lt. ltb-false largest (get_or ns k 0) (w.earlier k lt))

-- what the answer of making one says
pub release_law : (ns : List ℕ) (r : Result Release Fault) → r ≡ made_release ns → MakesRelease ns r
release_law ns r e = subst (MakesRelease ns) (sym e) (makes_release ns)

-- no number is too large
pub none_large : (ns stored : List ℕ) → length ns ≢ 0 → length ns ≤ most_numbers → position_from (ltb largest) 0 ns ≡ None → stored ≡ take most_numbers ns ++ replicate (most_numbers - length ns) 0
    → Ok (record { count = length ns; numbers = stored }) ≡ made_release ns
none_large ns stored some few none e =
    ap (λ (s : List ℕ). Ok (record { count = length ns; numbers = s })) (e ∙ ap (λ (xs : List ℕ). xs ++ replicate (most_numbers - length ns) 0) (take_all most_numbers ns few))
    ∙ answered ns None (count_right ns (omega arith) few) none

-- the first number that is too large
pub one_large : (ns : List ℕ) (i : ℕ) → length ns ≢ 0 → length ns ≤ most_numbers → position_from (ltb largest) 0 ns ≡ Some i → Err (NumberTooLarge i) ≡ made_release ns
one_large ns i some few e = answered ns (Some i) (count_right ns (omega arith) few) e

-- the same, of a search that has come to the place i
module _ (ns : List ℕ) (i : ℕ) (some : 1 ≤ length ns) (few : length ns ≤ most_numbers) (lt : i < length ns) (left : position_from (ltb largest) i (drop i ns) ≡ position_from (ltb largest) 0 ns) (more : largest < get_or ns i 0) where
  pub too_large : Err (NumberTooLarge i) ≡ made_release ns
  too_large = answered ns (Some i) (count_right ns some few) (sym left ∙ first_here 0 (ltb largest) ns i true lt (lt-ltb largest (get_or ns i 0) more))

  pub too_large_law : MakesRelease ns (Err (NumberTooLarge i))
  too_large_law = release_law ns (Err (NumberTooLarge i)) too_large

-- ---- texts

bytes_stored : (bs : List ℕ) → length bs ≤ most_bytes → text_bytes (stored_text bs) ≡ bs
unfolding text_bytes
bytes_stored bs few =
    let all : length bs ≡ min (length bs) most_bytes = omega arith in
    take_at bs (replicate (most_bytes - length bs) 0) (min (length bs) most_bytes) all

pub makes_text : (bs : List ℕ) → MakesText bs (made_text bs)
makes_text bs =
    elim (cases_lt most_bytes (length bs)) [
      | inl l ↦ let e : ltb most_bytes (length bs) ≡ true = lt-ltb most_bytes (length bs) l in rw e (refl, l)
      | inr g ↦ let e : ltb most_bytes (length bs) ≡ false = le-ltb most_bytes (length bs) g in rw e (bytes_stored bs g)
    ]

pub text_law : (bs : List ℕ) (r : Result Text Fault) → r ≡ made_text bs → MakesText bs r
text_law bs r e = subst (MakesText bs) (sym e) (makes_text bs)

pub none_long : (bs stored : List ℕ) → length bs ≤ most_bytes → stored ≡ take most_bytes bs ++ replicate (most_bytes - length bs) 0 → Ok (record { length = length bs; bytes = stored }) ≡ made_text bs
none_long bs stored few e =
    let small : ltb most_bytes (length bs) ≡ false = le-ltb most_bytes (length bs) few in
    ap (λ (s : List ℕ). Ok (record { length = length bs; bytes = s })) (e ∙ ap (λ (xs : List ℕ). xs ++ replicate (most_bytes - length bs) 0) (take_all most_bytes bs few))
    ∙ rw small refl

-- ---- numbers, and zeros behind them

place_filled : (ns : List ℕ) (i : ℕ) → i < most_numbers → get_or (take most_numbers ns ++ replicate (most_numbers - length ns) 0) i 0 ≡ get_or ns i 0
place_filled ns i lt =
    elim (cases_lt i (length ns)) [
      | inl h ↦
          let some : i < length (take most_numbers ns) = omega (arith, length-take most_numbers ns) in
          get_or-append (take most_numbers ns) (replicate (most_numbers - length ns) 0) 0 i some ∙ get_or-take most_numbers ns i 0 lt
      | inr h ↦
          let all : length (take most_numbers ns) ≡ length ns = omega (arith, length-take most_numbers ns) in
          let few : i - length ns < most_numbers - length ns = omega arith in
          get_or-append_right (take most_numbers ns) (replicate (most_numbers - length ns) 0) (length ns) i 0 all h
          ∙ get_or-replicate (most_numbers - length ns) (i - length ns) 0 0 few
          ∙ sym (get_or_past ns i 0 h)
    ]

-- eight places that hold the numbers at hand, and else zero
pub filled_by_place : (ns ys : List ℕ) → length ys ≡ most_numbers → ((i : ℕ) → i < most_numbers → get_or ys i 0 ≡ get_or ns i 0) → ys ≡ take most_numbers ns ++ replicate (most_numbers - length ns) 0
filled_by_place ns ys long same =
    let all : length ys ≡ length (take most_numbers ns ++ replicate (most_numbers - length ns) 0) = simp (length-append, length-replicate) (omega (arith, length-take most_numbers ns)) in
    same_number_lists ys (take most_numbers ns ++ replicate (most_numbers - length ns) 0) all (λ i lt. same i (omega arith) ∙ sym (place_filled ns i (omega arith)))
