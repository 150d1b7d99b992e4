-- The search for a part in a text.
use Rattle.std.proofs.Common.{◌≡◌, ℕ, ◌+◌, ◌-◌, ◌<◌, ◌≤◌, Bool, true, false, ◌&&◌, eqb, List, [], ◌∷◌, ◌++◌, length, length-append, get_or, take, drop, Decides, Bor, Option, Some, None, is_some, sym, refl, ap, ◌∙◌, inl, inr, arith}
use Rattle.std.specs.Bool.{IsTrue, MatchBool}
use Rattle.std.specs.Fn.{Called, Mut}
use Rattle.std.specs.Iterator.Runs.{Run, IsWindowsRun, AnyItemGives, AllItemsGive, CallKeepsClosure}
use Rattle.std.specs.List.{IsSubsliceAt, slice_get, starts_with}
use Rattle.std.proofs.Math.Seq.{take-append_seam, drop-append_seam}
use Rattle.std.specs.Cmp.Lexicographic.{pointwise}
use Rattle.std.proofs.lemmas.Slice.Eq.{starts_is, slice_eq-Decides}
use Rattle.std.proofs.lemmas.Option.{none-some}
use Rattle.std.specs.Option.{option_eq, option_map, IfSome, IsSomeAnd}
use Rattle.std.proofs.lemmas.List.{take-append-drop, take_all}
use Rattle.std.proofs.lemmas.Bool.{and_parts, and_from, or_cases, or_left, or_right, eqb-true, eq-eqb, true≢false}
use Rattle.std.proofs.lemmas.Bool.Decides.{same_from_decides, Decides-eqb}
use Rattle.evaluation.specs.Substrings.{begins, contained, Within}

-- what stands behind a part with which a text begins
pub record Front (part text : List ℕ) : Type 0 where
  pub rest : List ℕ
  pub is : text ≡ part ++ rest

begins_from : (part text : List ℕ) → begins part text ≡ true → Front part text
begins_from [] text e = record { rest = text; is = refl }
begins_from (p ∷ part) [] e = absurd (true≢false (sym e))
begins_from (p ∷ part) (b ∷ text) e =
    let q = and_parts (eqb p b) (begins part text) e in
    let w = begins_from part text q.1 in
    record { rest = w.rest; is = ap (λ (n : ℕ). n ∷ text) (sym (eqb-true p b q.0)) ∙ ap (λ (s : List ℕ). p ∷ s) w.is }

begins_to : (part text rest : List ℕ) → text ≡ part ++ rest → begins part text ≡ true
begins_to [] text rest e = refl
begins_to (p ∷ part) [] rest e = absurd (omega (arith, ap length e))
begins_to (p ∷ part) (b ∷ text) rest e =
    let first : b ≡ p = cc in
    let more : text ≡ part ++ rest = cc in
    and_from (eqb p b) (begins part text) (eq-eqb p b (sym first)) (begins_to part text rest more)

begins_says : (part text : List ℕ) → Decides (begins part text) (Front part text)
begins_says part text = (begins_from part text, λ w. begins_to part text w.rest w.is)

-- what `starts_with` answers
pub starts : (part text : List ℕ) (r : Bool) → r ≡ pointwise eqb part (take (length part) text) → r ≡ begins part text
starts part text r m =
    let s = starts_is Decides-eqb text part r m in
    same_from_decides r (begins part text) (λ e. record { rest = drop (length part) text; is = s.0 e }, λ w. s.1 w.rest w.is) (begins_says part text)

contained_from : (part text : List ℕ) → contained part text ≡ true → Within part text
contained_from part [] e = let w = begins_from part [] e in record { before = []; behind = w.rest; is = w.is }
contained_from part (b ∷ text) e =
    elim (or_cases (begins part (b ∷ text)) (contained part text) e) [
      | inl h ↦ let w = begins_from part (b ∷ text) h in record { before = []; behind = w.rest; is = w.is }
      | inr h ↦ let w = contained_from part text h in record { before = b ∷ w.before; behind = w.behind; is = ap (λ (s : List ℕ). b ∷ s) w.is }
    ]

contained_to : (part text before behind : List ℕ) → text ≡ before ++ (part ++ behind) → contained part text ≡ true
contained_to part [] [] behind e = begins_to part [] behind e
contained_to part [] (x ∷ before) behind e = absurd (omega (arith, ap length e))
contained_to part (b ∷ text) [] behind e = or_left (begins part (b ∷ text)) (contained part text) (begins_to part (b ∷ text) behind e)
contained_to part (b ∷ text) (x ∷ before) behind e =
    let more : text ≡ before ++ (part ++ behind) = cc in
    or_right (begins part (b ∷ text)) (contained part text) (contained_to part text before behind more)

pub contained_says : (part text : List ℕ) → Decides (contained part text) (Within part text)
contained_says part text = (contained_from part text, λ w. contained_to part text w.before w.behind w.is)

-- what the windows of a text answer, each of them whether it is the part
module _ {S F : Type 0} {steps : S → Option (Bor (List ℕ)) → S → Type 0} {g : Mut F (Bor (List ℕ) × Unit {0}) Bool} (part text : List ℕ) (p : Run steps) (run : IsWindowsRun p (length part) text) (f : F) (same : (x : Bor (List ℕ)) (b : Bool) → length x.now ≡ length part → Called g f (x, tt) b f → Decides b (x.now ≡ part)) where
  some_window : (k : ℕ) (o : Option (Bor (List ℕ))) → IfSome o (λ x. (length x.now ≡ length part) × (k + length part ≤ length text) × IsSubsliceAt (length part) text k x.now) → IsSomeAnd o (λ x. Called g f (x, tt) true f) → Within part text
  some_window k None w a = absurd a
  some_window k (Some x) w a = record {
    before = take k text;
    behind = drop (length part) (drop k text);
    is = sym (take-append-drop k text) ∙ ap (λ (xs : List ℕ). take k text ++ xs) (sym (take-append-drop (length part) (drop k text))) ∙ ap (λ (xs : List ℕ). take k text ++ (xs ++ drop (length part) (drop k text))) (sym w.2.0 ∙ (same x true w.0 a).0 refl);
  }

  no_window : (k : ℕ) (o : Option (Bor (List ℕ))) → IfSome o (λ x. (length x.now ≡ length part) × (k + length part ≤ length text) × IsSubsliceAt (length part) text k x.now) → IfSome o (λ x. Called g f (x, tt) false f) → is_some o ≡ true → take (length part) (drop k text) ≡ part → ⊥
  no_window k None w a e here = true≢false (sym e)
  no_window k (Some x) w a e here = true≢false (sym ((same x false w.0 a).1 (w.2.0 ∙ here)))

  pub windows_say : (r : Bool) → CallKeepsClosure g f → MatchBool r (AnyItemGives p g f true) (IsTrue p.whole × AllItemsGive p g f false) → Decides r (Within part text)
  windows_say true keeps m = let a = m keeps in (λ e. some_window a.0 (p.at a.0) (run.2 a.0) a.2, λ w. refl)
  windows_say false keeps m = (λ e. absurd (true≢false (sym e)), λ w. absurd (no_window (length w.before) (p.at (length w.before)) (run.2 (length w.before)) (m.1 keeps (length w.before)) (shown (p.at (length w.before)) (run.3 (length w.before) 0 (inside w))) (here w)))
    where
      inside : (w : Within part text) → length w.before < p.len
      inside w =
          let all : length text ≡ length w.before + (length part + length w.behind) = ap length w.is ∙ length-append w.before (part ++ w.behind) ∙ ap (λ k. length w.before + k) (length-append part w.behind) in
          omega (arith, run.1 m.0)

      here : (w : Within part text) → take (length part) (drop (length w.before) text) ≡ part
      here w =
          ap (λ (xs : List ℕ). take (length part) (drop (length w.before) xs)) w.is
          ∙ ap (take (length part)) (drop-append_seam w.before (part ++ w.behind))
          ∙ take-append_seam part w.behind

      shown : {y : ℕ} (o : Option (Bor (List ℕ))) → option_map (λ x. get_or x.now 0 0) o ≡ Some y → is_some o ≡ true
      shown None e = absurd (none-some _ e)
      shown (Some x) e = refl

-- the first elements and what stands behind them answer together whether a text as long as the part is the part
pub first_and_rest : (part text : List ℕ) (r : Bool) → length text ≡ length part → r ≡ (option_eq eqb (slice_get text 0) (slice_get part 0) && starts_with eqb (take (length text - 1) (drop 1 text)) (take (length part - 1) (drop 1 part))) → Decides r (text ≡ part)
first_and_rest [] [] r e m = (λ t. refl, λ q. m)
first_and_rest [] (t ∷ text) r e m = absurd (omega arith)
first_and_rest (p ∷ part) [] r e m = absurd (omega arith)
first_and_rest (p ∷ part) (t ∷ text) r e m =
    let whole : take (length (p ∷ part) - 1) part ≡ part = take_all (length (p ∷ part) - 1) part (omega arith) in
    let all : take (length (t ∷ text) - 1) text ≡ text = take_all (length (t ∷ text) - 1) text (omega arith) in
    let same_length : take (length part) text ≡ text = take_all (length part) text (omega arith) in
    let m2 : r ≡ (eqb t p && pointwise eqb part text) = rw (whole, all, same_length) at m in
    let same = slice_eq-Decides Decides-eqb part text (pointwise eqb part text) refl in (
      λ y. let q = and_parts (eqb t p) (pointwise eqb part text) (sym m2 ∙ y) in let h : t ≡ p = eqb-true t p q.0 in let k : part ≡ text = same.0 q.1 in cc,
      λ y. let h : t ≡ p = cc in let k : part ≡ text = cc in m2 ∙ and_from (eqb t p) (pointwise eqb part text) (eq-eqb t p h) (same.1 k),
    )

-- the empty part stands everywhere
pub empty_within : (part text : List ℕ) → length part ≡ 0 → Within part text
empty_within [] text e = record { before = []; behind = text; is = refl }
empty_within (p ∷ part) text e = absurd (omega arith)

-- the test says it too
pub contains_test : (part text : List ℕ) (r : Bool) → Decides r (Within part text) → r ≡ contained part text
contains_test part text r law = same_from_decides r (contained part text) law (contained_says part text)
