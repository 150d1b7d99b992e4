-- Decimal digits are text, and are read one at a time.
use Rattle.std.proofs.Common.{◌≡◌, ℕ, ◌+◌, ◌*◌, ◌^◌, ◌<◌, ◌≤◌, List, [], ◌∷◌, length, Some, None, Option, Bor, Iter, refl, subst, arith}
use Rattle.std.specs.Str.{IsUtf8}
use Rattle.std.specs.Str.Parse.{AllDigits, IsNumeral, digits_value_after, digits_value}
use Rattle.std.specs.Char.{digit_value}
use Rattle.std.specs.Option.{SomeIff, MatchOption}
use Rattle.std.specs.List.{FoldsTo}
use Rattle.std.specs.Fn.{Called}
use Rattle.std.specs.Iterator.{Yields, TryFoldTurn, TryFoldsItems}
use Rattle.std.specs.declared.ops.ControlFlow.{ControlFlow}
use Rattle.std.specs.ControlFlow.{continue_value}
use Rattle.std.proofs.lemmas.Fmt.{IsAscii-from_digits}
use Rattle.std.proofs.lemmas.Fn.{fronts}
use Rattle.std.proofs.lemmas.List.{nil_from_length}
use Rattle.std.proofs.lemmas.Str.{IsUtf8-from_ascii}
use denote.Param.Members.{Mut}

pub text_from_numeral : (ds : List ℕ) → IsNumeral 10 ds → IsUtf8 ds
text_from_numeral ds n = IsUtf8-from_ascii ds (IsAscii-from_digits ds n.1)

-- r is the number that the digits write after those of n, where it fits
abbrev pub IsReadAfter : Option ℕ → ℕ → List ℕ → Type 0
IsReadAfter r n ds = SomeIff r (AllDigits 10 ds × (digits_value_after 10 n ds < 2 ^ 64)) (digits_value_after 10 n ds)

-- the same of one digit
abbrev pub IsOneMore : Option ℕ → ℕ → ℕ → Type 0
IsOneMore r n d = SomeIff r ((digit_value d < 10) × (n * 10 + digit_value d < 2 ^ 64)) (n * 10 + digit_value d)

-- more digits write no smaller number
grows : (n : ℕ) (ds : List ℕ) → n ≤ digits_value_after 10 n ds
grows n [] = omega arith
grows n (c ∷ cs) = omega (arith, grows (n * 10 + digit_value c) cs)

one_more : (r : Option ℕ) (n m d : ℕ) (ds : List ℕ) → IsOneMore (Some m) n d → IsReadAfter r m ds → IsReadAfter r n (d ∷ ds)
one_more None n m d ds one rest = λ p. subst (λ k. IsReadAfter None k ds) one.1 rest (p.0.1, p.1)
one_more (Some x) n m d ds one rest = let t = subst (λ k. IsReadAfter (Some x) k ds) one.1 rest in (((one.0.0, t.0.0), t.0.1), t.1)

no_more : (n d : ℕ) (ds : List ℕ) → IsOneMore None n d → IsReadAfter None n (d ∷ ds)
no_more n d ds one p = one (p.0.0, omega (arith, p.1, grows (n * 10 + digit_value d) ds))

-- a `try_fold` over the digits, where each call reads one more
module _ (E : Type 0) {F : Type 0} (g : Mut F (ℕ × (Bor ℕ × Unit {0})) (Option ℕ)) (call : (f : F) (n : ℕ) (b : Bor ℕ) (v : Option ℕ) (f' : F) → Called g f (n, (b, tt)) v f' → IsOneMore v n b.now) where
  abbrev branches : Option ℕ → ControlFlow E ℕ → Type 0
  branches v b = v ≡ continue_value b

  turns : (r : Option ℕ) (xs : List (Bor ℕ)) (s t : Iter ℕ) (p q : F × ℕ) → p.1 < 2 ^ 64 → Yields fronts s xs t → FoldsTo (TryFoldTurn g branches) p xs q
      → (q.1 < 2 ^ 64 → IsReadAfter r q.1 t.rest.now) → IsReadAfter r p.1 s.rest.now
  turns r [] s t p q fits y c last = rw (c, y) (last (rw c at fits))
  turns r (x ∷ xs) s t p q fits y c last =
      let one : IsOneMore (Some c.0.1) p.1 x.now = rw c.1.2 at (call p.0 p.1 x c.1.0 c.0.0 c.1.1) in
      rw y.1 (one_more r p.1 c.0.1 x.now y.0.rest.now one (turns r xs y.0 t c.0 q (omega (arith, one.0.1, one.1)) y.2 c.2 last))

  ended : (r : Option ℕ) (o : Option (Bor ℕ)) (t u : Iter ℕ) (f : F) (n : ℕ) → n < 2 ^ 64 → fronts t o u
      → MatchOption o (r ≡ Some n) (λ x. (v : Option ℕ) × (h : F) × (e : E) × Called g f (n, (x, tt)) v h × (v ≡ None) × (r ≡ None)) → IsReadAfter r n t.rest.now
  ended r None t u f n fits y m = rw (m, nil_from_length t.rest.now y.0) ((tt, fits), refl)
  ended r (Some x) t u f n fits y m = rw (m.5, y) (no_more n x.now u.rest.now (rw m.4 at (call f n x m.0 m.1 m.3)))

  pub read_after : (r : Option ℕ) (s u : Iter ℕ) (f : F) (n : ℕ) → n < 2 ^ 64 → TryFoldsItems fronts g branches (λ _ v. v ≡ None) s f n r u → IsReadAfter r n s.rest.now
  read_after r s u f n fits d = turns r d.0 s d.4.0 (f, n) (d.2, d.3) fits d.4.1 d.5 (λ l. ended r d.1 d.4.0 u d.2 d.3 l d.4.2 d.6)

-- the number of one digit or more
pub numeral : (r : Option ℕ) (ds : List ℕ) → 0 < length ds → IsReadAfter r 0 ds → SomeIff r (IsNumeral 10 ds × (digits_value 10 ds < 2 ^ 64)) (digits_value 10 ds)
numeral None ds some h = λ p. h (p.0.1, p.1)
numeral (Some n) ds some h = (((some, h.0.0), h.0.1), h.1)
