-- The test of a name answers whether the name is normal.
use Rattle.std.proofs.Common.{◌≡◌, ℕ, zero, suc, ◌+◌, ◌<◌, ◌≤◌, Bool, true, false, cond, not, ◌&&◌, eqb, leb, List, [], ◌∷◌, length, get_or, drop, Decides, sym, refl, ap, ◌∙◌, inl, inr, le_of_suc-le-suc, not-suc-le-zero, arith}
use Rattle.std.proofs.lemmas.List.{length-take, at_drop_more}
use Rattle.std.proofs.lemmas.Bool.{cases_Bool, cases_eq, and_parts, and_from, or_cases, or_left, or_right, eqb-true, eq-eqb, ne_eqb, leb-true, le-leb, true≢false, not-true}
use Rattle.values.specs.Texts.{most_bytes, text_bytes}
use Rattle.values.specs.declared.texts.Text.{Text}
use Rattle.values.specs.Names.{hyphen, letter_or_digit, may_come_next, normal_rest, normal_name, NameByte, Normal}

-- what is left of a name, where a hyphen may be barred
pub record Rest (barred : Bool) (bs : List ℕ) : Type 0 where
  pub bytes : (k : ℕ) → k < length bs → NameByte (get_or bs k 0)
  pub begins : barred ≡ true → 0 < length bs → get_or bs 0 0 ≡ hyphen → ⊥
  pub some : length bs ≡ 0 → barred ≡ false
  pub ends : (k : ℕ) → k + 1 ≡ length bs → get_or bs k 0 ≡ hyphen → ⊥
  pub apart : (k : ℕ) → k + 1 < length bs → get_or bs k 0 ≡ hyphen → get_or bs (k + 1) 0 ≡ hyphen → ⊥

letter_byte : (b : ℕ) → letter_or_digit b ≡ true → NameByte b
letter_byte b e =
    elim (or_cases (leb 97 b && leb b 122) (leb 48 b && leb b 57) e) [
      | inl h ↦ let p = and_parts (leb 97 b) (leb b 122) h in inl (leb-true 97 b p.0, leb-true b 122 p.1)
      | inr h ↦ let p = and_parts (leb 48 b) (leb b 57) h in inr (inl (leb-true 48 b p.0, leb-true b 57 p.1))
    ]

byte_letter : (b : ℕ) → NameByte b → (b ≡ hyphen → ⊥) → letter_or_digit b ≡ true
byte_letter b h n =
    elim h [
      | inl p ↦ or_left (leb 97 b && leb b 122) (leb 48 b && leb b 57) (and_from (leb 97 b) (leb b 122) (le-leb 97 b p.0) (le-leb b 122 p.1))
      | inr q ↦ elim q [
        | inl p ↦ or_right (leb 97 b && leb b 122) (leb 48 b && leb b 57) (and_from (leb 48 b) (leb b 57) (le-leb 48 b p.0) (le-leb b 57 p.1))
        | inr e ↦ absurd (n e)
      ]
    ]

-- a byte that may come is a byte of a name, and no hyphen where it is barred
came_byte : (barred : Bool) (b : ℕ) → may_come_next barred b ≡ true → NameByte b
came_byte barred b e =
    elim (cases_eq b hyphen) [
      | inl h ↦ inr (inr h)
      | inr n ↦ letter_byte b (sym (ap (λ t. cond t (not barred) (letter_or_digit b)) (ne_eqb b hyphen n)) ∙ e)
    ]

came_barred : (barred : Bool) (b : ℕ) → may_come_next barred b ≡ true → barred ≡ true → b ≡ hyphen → ⊥
came_barred barred b e t h = true≢false (sym t ∙ not-true barred (sym (ap (λ u. cond u (not barred) (letter_or_digit b)) (eq-eqb b hyphen h)) ∙ e))

may : (barred : Bool) (b : ℕ) → NameByte b → (barred ≡ true → b ≡ hyphen → ⊥) → may_come_next barred b ≡ true
may barred b byte n =
    elim (cases_eq b hyphen) [
      | inl h ↦ ap (λ u. cond u (not barred) (letter_or_digit b)) (eq-eqb b hyphen h) ∙ elim (cases_Bool barred) [ inl t ↦ absurd (n t h) | inr f ↦ ap not f ]
      | inr h ↦ ap (λ u. cond u (not barred) (letter_or_digit b)) (ne_eqb b hyphen h) ∙ byte_letter b byte h
    ]

from_rest : (barred : Bool) (bs : List ℕ) → normal_rest barred bs ≡ true → Rest barred bs
from_rest barred [] e = record {
  bytes = λ k lt. absurd (not-suc-le-zero lt);
  begins = λ t lt. absurd (not-suc-le-zero lt);
  some = λ _. not-true barred e;
  ends = λ k h. absurd (omega arith);
  apart = λ k lt. absurd (omega arith);
}
from_rest barred (b ∷ bs) e =
    let p = and_parts (may_come_next barred b) (normal_rest (eqb b hyphen) bs) e in
    let r = from_rest (eqb b hyphen) bs p.1 in
    record {
      bytes = λ (k : ℕ). elim k as (λ (q : ℕ). q < suc (length bs) → NameByte (get_or (b ∷ bs) q 0)) [ zero ↦ λ lt. came_byte barred b p.0 | suc q ↦ λ lt. r.bytes q (le_of_suc-le-suc lt) ];
      begins = λ t lt h. came_barred barred b p.0 t h;
      some = λ h. absurd (omega arith);
      ends = λ (k : ℕ). elim k as (λ (q : ℕ). q + 1 ≡ suc (length bs) → get_or (b ∷ bs) q 0 ≡ hyphen → ⊥)
          [ zero ↦ λ l h. true≢false (sym (eq-eqb b hyphen h) ∙ r.some (omega arith)) | suc q ↦ λ l h. r.ends q (omega arith) h ];
      apart = λ (k : ℕ). elim k as (λ (q : ℕ). q + 1 < suc (length bs) → get_or (b ∷ bs) q 0 ≡ hyphen → get_or (b ∷ bs) (q + 1) 0 ≡ hyphen → ⊥)
          [ zero ↦ λ lt h i. r.begins (eq-eqb b hyphen h) (omega arith) i | suc q ↦ λ lt h i. r.apart q (omega arith) h (later q i) ];
    }
  where
    later : (q : ℕ) → get_or (b ∷ bs) (suc q + 1) 0 ≡ hyphen → get_or bs (q + 1) 0 ≡ hyphen
    later q i = let z : suc q + 1 ≡ suc (q + 1) = omega arith in rw z at i

to_rest : (barred : Bool) (bs : List ℕ) → Rest barred bs → normal_rest barred bs ≡ true
to_rest barred [] r = ap not (r.some refl)
to_rest barred (b ∷ bs) r =
    and_from (may_come_next barred b) (normal_rest (eqb b hyphen) bs) (may barred b (r.bytes 0 (omega arith)) (λ t h. r.begins t (omega arith) h))
    (to_rest (eqb b hyphen) bs (record {
      bytes = λ k lt. r.bytes (suc k) (omega arith);
      begins = λ t lt h. r.apart 0 (omega arith) (eqb-true b hyphen t) h;
      some = λ h. ne_eqb b hyphen (r.ends 0 (omega arith));
      ends = λ k h. r.ends (suc k) (omega arith);
      apart = λ k lt h i. r.apart (suc k) (omega arith) h (sooner k i);
    }))
  where
    sooner : (q : ℕ) → get_or bs (q + 1) 0 ≡ hyphen → get_or (b ∷ bs) (suc q + 1) 0 ≡ hyphen
    sooner q i = let z : suc q + 1 ≡ suc (q + 1) = omega arith in rw z i

pub normal_says : (bs : List ℕ) → Decides (normal_name bs) (Normal bs)
unfolding normal_name
normal_says bs = (from, to)
  where
    from : (leb (length bs) most_bytes && normal_rest true bs) ≡ true → Normal bs
    from e =
        let p = and_parts (leb (length bs) most_bytes) (normal_rest true bs) e in
        let r = from_rest true bs p.1 in
        let one : 1 ≤ length bs = elim (cases_eq (length bs) 0) [ inl z ↦ absurd (true≢false (r.some z)) | inr n ↦ omega arith ] in
        record { some = one; few = leb-true (length bs) most_bytes p.0; bytes = r.bytes; begins = r.begins refl one; ends = r.ends; apart = r.apart }

    to : Normal bs → (leb (length bs) most_bytes && normal_rest true bs) ≡ true
    to n = and_from (leb (length bs) most_bytes) (normal_rest true bs) (le-leb (length bs) most_bytes n.few)
        (to_rest true bs (record { bytes = n.bytes; begins = λ t lt. n.begins; some = λ h. absurd (let s = n.some in omega arith); ends = n.ends; apart = n.apart }))

-- a text is never too long for a name
length-bytes : (t : Text) → length (text_bytes t) ≤ most_bytes
unfolding text_bytes
length-bytes t = simp length-take (omega arith)

pub text_named : (t : Text) → normal_name (text_bytes t) ≡ normal_rest true (text_bytes t)
unfolding normal_name
text_named t = ap (λ b. b && normal_rest true (text_bytes t)) (le-leb (length (text_bytes t)) most_bytes (length-bytes t))

pub rest_more : (barred : Bool) (bs : List ℕ) (i : ℕ) (b : Bool) → i < length bs → b ≡ may_come_next barred (get_or bs i 0) → normal_rest barred (drop i bs) ≡ (b && normal_rest (eqb (get_or bs i 0) hyphen) (drop (i + 1) bs))
rest_more barred bs i b lt e = at_drop_more (normal_rest barred) bs i 0 lt ∙ ap (λ t. t && normal_rest (eqb (get_or bs i 0) hyphen) (drop (i + 1) bs)) (sym e)
