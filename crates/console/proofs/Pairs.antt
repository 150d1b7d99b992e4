-- Hexadecimal digits are read pair by pair.
use Rattle.std.proofs.Common.{◌≡◌, ℕ, zero, suc, ◌+◌, ◌*◌, ◌/◌, ◌%◌, ◌<◌, List, [], ◌∷◌, ◌++◌, length, get_or, Err, Result, Vec, Global, sym, refl, ap, ◌∙◌, arith, length-append}
use lib.Arith.{digits_div, digits_mod}
use Rattle.std.specs.Char.{digit_char}
use Rattle.std.specs.List.{AllByRecursion}
use Rattle.std.specs.Result.{IsErrAnd}
use Rattle.std.proofs.ByRecursion.{All-push}
use Rattle.std.proofs.lemmas.List.{append_assoc, append-nil, nil_from_length}
use Rattle.console.specs.Reading.{Reads}
use Rattle.console.specs.Spelling.{HexDigit, HexBytes, hex_digits}
use Rattle.console.specs.declared.words.Unread.{Unread}
use Rattle.console.proofs.Readings.{refused_on}

abbrev Byte : ℕ → Type 0
Byte b = b < 256

hex-append : (xs ys : List ℕ) → hex_digits (xs ++ ys) ≡ hex_digits xs ++ hex_digits ys
hex-append [] ys = refl
hex-append (x ∷ xs) ys = ap (λ l. digit_char (x / 16) ∷ digit_char (x % 16) ∷ l) (hex-append xs ys)

hex-length : (bs : List ℕ) → length (hex_digits bs) ≡ length bs * 2
hex-length [] = refl
hex-length (b ∷ bs) = omega (arith, hex-length bs)

-- no bytes are written by an odd number of digits
pub odd_refused : (digits bs : List ℕ) → (length digits % 2 ≡ 0 → ⊥) → HexBytes digits bs → ⊥
odd_refused digits bs odd h = odd (omega (arith, ap length h.0, hex-length bs))

not_nil : {X : Type 0} (x : X) (xs : List X) → x ∷ xs ≡ [] → ⊥
not_nil x xs e = let z : ◌≡◌ {A = ℕ} 0 1 = cc in omega arith

second_tail : {X : Type 0} (a b c d : X) (xs ys : List X) → a ∷ b ∷ xs ≡ c ∷ d ∷ ys → xs ≡ ys
second_tail a b c d xs ys e = cc

-- digits behind those of xs write the bytes behind xs
hex_behind : (xs rest bs : List ℕ) → hex_digits xs ++ rest ≡ hex_digits bs → AllByRecursion Byte bs → (cs : List ℕ) × HexBytes rest cs
hex_behind [] rest bs e small = (bs, (e, small))
hex_behind (x ∷ xs) rest [] e small = absurd (not_nil _ _ e)
hex_behind (x ∷ xs) rest (b ∷ bs) e small = hex_behind xs rest bs (second_tail _ _ _ _ _ _ e) small.1

-- SO FAR the digits write the bytes xs, and the rest is left
abbrev pub SoFar : List ℕ → List ℕ → List ℕ → Type 0
SoFar digits xs rest = (digits ≡ hex_digits xs ++ rest) × AllByRecursion Byte xs

pub all_read : (digits xs rest : List ℕ) → SoFar digits xs rest → length digits % 2 ≡ 0 → length rest < 2 → HexBytes digits xs
all_read digits xs rest s even short =
    let none : length rest ≡ 0 = omega (arith, ap length s.0, length-append (hex_digits xs) rest, hex-length xs) in
    (s.0 ∙ ap (λ l. hex_digits xs ++ l) (nil_from_length rest none) ∙ append-nil (hex_digits xs), s.1)

-- where bytes are written, each digit of the next pair is one
digit_of : (pair after cs : List ℕ) (k : ℕ) → k < 2 → length pair ≡ 2 → pair ++ after ≡ hex_digits cs → AllByRecursion Byte cs → (d : ℕ) × HexDigit (get_or pair k 0) d
digit_of [] after cs k in_pair two e small = absurd (omega arith)
digit_of (a ∷ []) after cs k in_pair two e small = absurd (omega arith)
digit_of (a ∷ b ∷ []) after [] k in_pair two e small = absurd (not_nil _ _ e)
digit_of (a ∷ b ∷ []) after (c ∷ cs) zero in_pair two e small = (c / 16, (omega (arith, small.0), cc))
digit_of (a ∷ b ∷ []) after (c ∷ cs) (suc zero) in_pair two e small = (c % 16, (omega arith, cc))
digit_of (a ∷ b ∷ []) after (c ∷ cs) (suc (suc k)) in_pair two e small = absurd (omega arith)
digit_of (a ∷ b ∷ x ∷ more) after cs k in_pair two e small = absurd (omega arith)

-- the next pair of the digits that are left
module _ (digits xs rest pair after : List ℕ) (s : SoFar digits xs rest) (cut : rest ≡ pair ++ after) (two : length pair ≡ 2) where
  -- a byte of the pair is no digit, and so no bytes are written
  pub digit_refused : (k : ℕ) → k < 2 → (r : Result (Vec ℕ Global) Unread) (e : Unread) → IsErrAnd r (λ d. d ≡ e) → Reads (HexDigit (get_or pair k 0)) (Err e) → Reads (λ bytes. HexBytes digits bytes.items) r
  digit_refused k in_pair r e is h = refused_on (HexDigit (get_or pair k 0)) _ r e is h none_written
    where
      none_written : ((d : ℕ) → HexDigit (get_or pair k 0) d → ⊥) → (bytes : Vec ℕ Global) → HexBytes digits bytes.items → ⊥
      none_written none bytes w =
          let p = hex_behind xs rest bytes.items (sym s.0 ∙ w.0) w.1 in
          let d = digit_of pair after p.0 k in_pair two (sym cut ∙ p.1.0) p.1.1 in
          none d.0 d.1

-- the byte of a pair
byte_of : (pair after : List ℕ) (high low : ℕ) → length pair ≡ 2 → HexDigit (get_or pair 0 0) high → HexDigit (get_or pair 1 0) low → pair ++ after ≡ hex_digits ((high * 16 + low) ∷ []) ++ after
byte_of [] after high low two h l = absurd (omega arith)
byte_of (a ∷ []) after high low two h l = absurd (omega arith)
byte_of (a ∷ b ∷ []) after high low two h l =
    ap (λ d. d ∷ b ∷ after) (h.1 ∙ ap digit_char (sym (digits_div high l.0))) ∙ ap (λ d. digit_char ((high * 16 + low) / 16) ∷ d ∷ after) (l.1 ∙ ap digit_char (sym (digits_mod high l.0)))
byte_of (a ∷ b ∷ x ∷ more) after high low two h l = absurd (omega arith)

pub one_more : (digits xs rest pair after ys : List ℕ) (high low : ℕ) → SoFar digits xs rest → rest ≡ pair ++ after → length pair ≡ 2 → HexDigit (get_or pair 0 0) high → HexDigit (get_or pair 1 0) low → ys ≡ xs ++ ((high * 16 + low) ∷ []) → SoFar digits ys after
one_more digits xs rest pair after ys high low s cut two h l e =
    (rw (e, hex-append xs ((high * 16 + low) ∷ []), append_assoc) (s.0 ∙ ap (λ r. hex_digits xs ++ r) (cut ∙ byte_of pair after high low two h l)), rw e (All-push Byte xs (high * 16 + low) s.1 (omega (arith, h.0, l.0))))
