-- Where edges do not cover the line.
use Rattle.std.proofs.Common.{◌≡◌, ℕ, zero, suc, ◌+◌, ◌-◌, ◌<◌, ◌≤◌, Bool, true, false, cond, not, ◌⊎◌, List, [], ◌∷◌, length, get_or, is_some, Some, None, Option, sym, refl, ap, ◌∙◌, subst, inl, inr, le_of_suc-le-suc, not-suc-le-zero, arith}
use Rattle.std.proofs.lemmas.Bool.{cases_lt, cases_Bool, both_ways}
use Rattle.values.specs.Rows.{Row}
use Rattle.std.specs.declared.ops.Bound.{Bound}
use Rattle.values.proofs.Firsts.{some_none, some_same}
use Rattle.ranges.specs.Bounds.{unbounded, meet}
use Rattle.ranges.specs.Cover.{go_on, cover, continues, uncovered_from, uncovered, no_edge, before, Gap, Placed}
use Rattle.ranges.specs.declared.edges.Edge.{Edge}

else_none : (b : Bool) (i : ℕ) (o : Option ℕ) → cond b o (Some i) ≡ None → (b ≡ true) × (o ≡ None)
else_none true i o e = (refl, e)
else_none false i o e = absurd (some_none e)

else_some : (b : Bool) {i j : ℕ} {o : Option ℕ} → cond b o (Some i) ≡ Some j → ((b ≡ true) × (o ≡ Some j)) ⊎ ((b ≡ false) × (j ≡ i))
else_some true e = inl (refl, e)
else_some false e = inr (refl, sym (some_same e))

module _ {T : Type 0} (row : T → Row) where
  -- the upper bound before a place, where b comes before the first
  abbrev pub behind : Option (Bound T) → List (Edge T) → ℕ → Option (Bound T)
  behind b es zero = b
  behind b es (suc j) = Some (get_or es j no_edge).upper

  behind_suc : (b : Option (Bound T)) (e : Edge T) (es : List (Edge T)) (k : ℕ) → behind (Some e.upper) es k ≡ behind b (e ∷ es) (suc k)
  behind_suc b e es zero = refl
  behind_suc b e es (suc k) = refl

  unfoldable pub begins : Option (Bound T) → List (Edge T) → ℕ → Bool
  begins b es k = continues row (behind b es k) (get_or es k no_edge).lower

  begins_suc : (b : Option (Bound T)) (e : Edge T) (es : List (Edge T)) (k : ℕ) → begins b (e ∷ es) (suc k) ≡ begins (Some e.upper) es k
  unfolding begins
  begins_suc b e es k = ap (λ q. continues row q (get_or es k no_edge).lower) (sym (behind_suc b e es k))

  pub record FirstGap (b : Option (Bound T)) (es : List (Edge T)) (k : ℕ) : Type 0 where
    pub within : k < length es
    pub here : (begins b es k ≡ false) ⊎ ((length es ≡ suc k) × (unbounded (get_or es k no_edge).upper ≡ false))
    pub earlier : (m : ℕ) → m < k → begins b es m ≡ true

  pub record NoGap (b : Option (Bound T)) (es : List (Edge T)) : Type 0 where
    pub joined : (m : ℕ) → m < length es → begins b es m ≡ true
    pub ended : (m : ℕ) → length es ≡ suc m → unbounded (get_or es m no_edge).upper ≡ true

  first_begins : (b : Option (Bound T)) (e : Edge T) (es : List (Edge T)) (t : Bool) → continues row b e.lower ≡ t → begins b (e ∷ es) 0 ≡ t
  unfolding begins
  first_begins b e es t h = h

  gap_more : (b : Option (Bound T)) (e : Edge T) (es : List (Edge T)) (k : ℕ) → continues row b e.lower ≡ true → FirstGap (Some e.upper) es k → FirstGap b (e ∷ es) (suc k)
  gap_more b e es k c r = record {
    within = let w = r.within in omega arith;
    here = elim r.here [ inl x ↦ inl (begins_suc b e es k ∙ x) | inr y ↦ inr (ap suc y.0, y.1) ];
    earlier = λ (m : ℕ). elim m as (λ (q : ℕ). q < suc k → begins b (e ∷ es) q ≡ true)
        [ zero ↦ λ lt. first_begins b e es true c | suc q ↦ λ lt. begins_suc b e es q ∙ r.earlier q (le_of_suc-le-suc lt) ];
  }

  gap_here : (b : Option (Bound T)) (e : Edge T) (es : List (Edge T)) → continues row b e.lower ≡ false → FirstGap b (e ∷ es) 0
  gap_here b e es c = record { within = omega arith; here = inl (first_begins b e es false c); earlier = λ m lt. absurd (not-suc-le-zero lt) }

  gap_last : (b : Option (Bound T)) (e : Edge T) → unbounded e.upper ≡ false → FirstGap b (e ∷ []) 0
  gap_last b e u = record { within = omega arith; here = inr (refl, u); earlier = λ m lt. absurd (not-suc-le-zero lt) }

  found : (j : ℕ) (b : Option (Bound T)) (e : Edge T) (es : List (Edge T)) {i : ℕ} → uncovered_from row j b (e ∷ es) ≡ Some i → (k : ℕ) × ((i ≡ j + k) × FirstGap b (e ∷ es) k)
  found j b e [] same =
      let z : j ≡ j + 0 = omega arith in
      let y : j + 1 - 1 ≡ j + 0 = omega arith in
      elim (else_some (continues row b e.lower) same) [
        | inl p ↦ elim (else_some (unbounded e.upper) p.1) [ inl q ↦ absurd (some_none (sym q.1)) | inr q ↦ (0, (q.1 ∙ y, gap_last b e q.0)) ]
        | inr p ↦ (0, (p.1 ∙ z, gap_here b e [] p.0))
      ]
  found j b e (e' ∷ es) same =
      let z : j ≡ j + 0 = omega arith in
      elim (else_some (continues row b e.lower) same) [
        | inl p ↦
            let r = found (j + 1) (Some e.upper) e' es p.1 in
            let y : j + 1 + r.0 ≡ j + suc r.0 = omega arith in
            (suc r.0, (r.1.0 ∙ y, gap_more b e (e' ∷ es) r.0 p.0 r.1.1))
        | inr p ↦ (0, (p.1 ∙ z, gap_here b e (e' ∷ es) p.0))
      ]

  found_none : (j : ℕ) (b : Option (Bound T)) (e : Edge T) (es : List (Edge T)) → uncovered_from row j b (e ∷ es) ≡ None → NoGap b (e ∷ es)
  found_none j b e [] same =
      let p = else_none (continues row b e.lower) j (uncovered_from row (j + 1) (Some e.upper) []) same in
      let q = else_none (unbounded e.upper) (j + 1 - 1) None p.1 in
      record {
        joined = λ (m : ℕ). elim m as (λ (q : ℕ). q < 1 → begins b (e ∷ []) q ≡ true) [ zero ↦ λ lt. first_begins b e [] true p.0 | suc q ↦ λ lt. absurd (omega arith) ];
        ended = λ (m : ℕ). elim m as (λ (q : ℕ). 1 ≡ suc q → unbounded (get_or (e ∷ []) q no_edge).upper ≡ true) [ zero ↦ λ lt. q.0 | suc q ↦ λ lt. absurd (omega arith) ];
      }
  found_none j b e (e' ∷ es) same =
      let p = else_none (continues row b e.lower) j (uncovered_from row (j + 1) (Some e.upper) (e' ∷ es)) same in
      let r = found_none (j + 1) (Some e.upper) e' es p.1 in
      record {
        joined = λ (m : ℕ). elim m as (λ (q : ℕ). q < suc (length (e' ∷ es)) → begins b (e ∷ e' ∷ es) q ≡ true)
            [ zero ↦ λ lt. first_begins b e (e' ∷ es) true p.0 | suc q ↦ λ lt. begins_suc b e (e' ∷ es) q ∙ r.joined q (le_of_suc-le-suc lt) ];
        ended = λ (m : ℕ). elim m as (λ (q : ℕ). suc (length (e' ∷ es)) ≡ suc q → unbounded (get_or (e ∷ e' ∷ es) q no_edge).upper ≡ true)
            [ zero ↦ λ lt. absurd (omega arith) | suc q ↦ λ lt. r.ended q (omega arith) ];
      }

  -- the place is a gap, in the words of the statement
  same_before : (es : List (Edge T)) (k : ℕ) → behind None es k ≡ before es k
  same_before es zero = refl
  same_before es (suc k) = refl

  same_begins : (es : List (Edge T)) (k : ℕ) → begins None es k ≡ continues row (before es k) (get_or es k no_edge).lower
  unfolding begins
  same_begins es k = ap (λ q. continues row q (get_or es k no_edge).lower) (same_before es k)

  as_gap : (es : List (Edge T)) (k : ℕ) → FirstGap None es k → Gap row es k
  as_gap es k w = (w.within, elim w.here [ inl x ↦ inl (sym (same_begins es k) ∙ x) | inr y ↦ inr y ])

  not_gap : (es : List (Edge T)) (k : ℕ) → NoGap None es → Gap row es k → ⊥
  not_gap es k none gap =
      elim gap.1 [
        | inl x ↦ both_ways (begins None es k) (same_begins es k ∙ x) (none.joined k gap.0)
        | inr y ↦ both_ways (unbounded (get_or es k no_edge).upper) y.1 (none.ended k y.0)
      ]

  gap_first : (es : List (Edge T)) (j k : ℕ) → FirstGap None es j → Gap row es k → j ≤ k
  gap_first es j k w gap =
      elim (cases_lt k j) [
        | inl lt ↦
            elim gap.1 [
              | inl x ↦ absurd (both_ways (begins None es k) (same_begins es k ∙ x) (w.earlier k lt))
              | inr y ↦ let last = y.0 in let inside = w.within in absurd (omega arith)
            ]
        | inr ge ↦ ge
      ]

  covers_behind : (i : ℕ) (u : Bound T) (es : List (Edge T)) → is_some (uncovered_from row i (Some u) es) ≡ not (go_on row u es)
  covers_behind i u [] = elim (cases_Bool (unbounded u)) [ inl q ↦ rw q | inr q ↦ rw q ]
  covers_behind i u (e ∷ es) = elim (cases_Bool (meet row u e.lower)) [ inl q ↦ rw q (covers_behind (i + 1) e.upper es) | inr q ↦ rw q ]

  covers : (es : List (Edge T)) → is_some (uncovered row es) ≡ not (cover row es)
  covers [] = refl
  covers (e ∷ es) = elim (cases_Bool (unbounded e.lower)) [ inl q ↦ rw q (covers_behind 1 e.upper es) | inr q ↦ rw q ]

  first_of : (e : Edge T) (es : List (Edge T)) (j : ℕ) → uncovered row (e ∷ es) ≡ Some j → FirstGap None (e ∷ es) j
  first_of e es j h =
      let r = found 0 None e es h in
      let z : r.0 ≡ j = omega (arith, r.1.0) in
      subst (λ (k : ℕ). FirstGap None (e ∷ es) k) z r.1.1

  pub placed : (es : List (Edge T)) (r : Option ℕ) → r ≡ uncovered row es → Placed row es r
  placed [] r e = record {
    covers = ap is_some e;
    none = λ h. absurd (some_none (sym e ∙ h));
    gap = λ j h lt. absurd (not-suc-le-zero lt);
    first = λ j h k g. absurd (not-suc-le-zero g.0);
  }
  placed (x ∷ es) r e = record {
    covers = ap is_some e ∙ covers (x ∷ es);
    none = λ h k g. not_gap (x ∷ es) k (found_none 0 None x es (sym e ∙ h)) g;
    gap = λ j h lt. as_gap (x ∷ es) j (first_of x es j (sym e ∙ h));
    first = λ j h k g. gap_first (x ∷ es) j k (first_of x es j (sym e ∙ h)) g;
  }

  -- one turn of the search for the place
  pub step : (j : ℕ) (b : Option (Bound T)) (e : Edge T) (es : List (Edge T)) (t : Bool) → t ≡ continues row b e.lower → uncovered_from row j b (e ∷ es) ≡ cond t (uncovered_from row (j + 1) (Some e.upper) es) (Some j)
  step j b e es t h = ap (λ z. cond z (uncovered_from row (j + 1) (Some e.upper) es) (Some j)) (sym h)
