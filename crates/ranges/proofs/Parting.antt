-- Each value lies in exactly one edge.
use Rattle.std.proofs.Common.{◌≡◌, ◌+◌, Bool, true, false, cond, not, ◌&&◌, ◌||◌, ◌⊎◌, List, [], ◌∷◌, Ordering, Less, Equal, Greater, sym, refl, ap, ◌∙◌, inl, inr, true≢false}
use Rattle.std.proofs.lemmas.Bool.{cases_Bool, and_parts, or_parts, or_left, or_right, both_ways}
use Rattle.std.specs.Ordering.{ordering_reverse, is_eq, is_lt, is_le, is_gt, is_ge}
use Rattle.std.specs.declared.ops.Bound.{Bound}
use Rattle.std.specs.declared.ops.Bound.TheVariants.{Unbounded, Included, Excluded}
use Rattle.ranges.specs.declared.edges.Edge.{Edge}
use Rattle.std.proofs.lemmas.List.Sums.{sum_by-cons}
use Rattle.std.specs.List.{list_any, count_by}
use Rattle.values.specs.Rows.{Row, by_row}
use Rattle.ranges.specs.Bounds.{unbounded, above, below, lies, empty, empty_edge, meet, HoldsNothing}
use Rattle.ranges.specs.Cover.{go_on, Parted}
use Rattle.values.specs.Lines.{row_turns, row_through, row_alike, row_same}

pub cases_order : (o : Ordering) → (o ≡ Less) ⊎ ((o ≡ Equal) ⊎ (o ≡ Greater))
cases_order Less = inl refl
cases_order Equal = inr (inl refl)
cases_order Greater = inr (inr refl)

pub less_if : (o : Ordering) → is_ge o ≡ false → o ≡ Less
less_if Less e = refl
less_if Equal e = absurd (true≢false e)
less_if Greater e = absurd (true≢false e)

pub equal_if : (o : Ordering) → is_eq o ≡ true → o ≡ Equal
equal_if Less e = absurd (true≢false (sym e))
equal_if Equal e = refl
equal_if Greater e = absurd (true≢false (sym e))

pub gt_le : (o : Ordering) → is_gt o ≡ not (is_le o)
gt_le Less = refl
gt_le Equal = refl
gt_le Greater = refl

pub ge_lt : (o : Ordering) → is_ge o ≡ not (is_lt o)
ge_lt Less = refl
ge_lt Equal = refl
ge_lt Greater = refl

-- where v is below x, and x not above y, v is below y
pub less_le : (v x y : Row) → by_row v x ≡ Less → is_gt (by_row x y) ≡ false → by_row v y ≡ Less
less_le v x y p q = elim (cases_order (by_row x y)) [
  | inl e ↦ row_through v x y p e
  | inr c ↦ elim c [ inl e ↦ ap (by_row v) (sym (row_same x y e)) ∙ p | inr e ↦ absurd (true≢false (sym (ap is_gt e) ∙ q)) ]
]

pub le_less : (v x y : Row) → is_gt (by_row v x) ≡ false → by_row x y ≡ Less → by_row v y ≡ Less
le_less v x y p q = elim (cases_order (by_row v x)) [
  | inl e ↦ row_through v x y e q
  | inr c ↦ elim c [ inl e ↦ row_alike v x y e ∙ q | inr e ↦ absurd (true≢false (sym (ap is_gt e) ∙ p)) ]
]

-- one element more is counted
pub counted : {X : Type 0} (p : X → Bool) (x : X) (xs : List X) → count_by p (x ∷ xs) ≡ cond (p x) 1 0 + count_by p xs
counted p x xs = sum_by-cons (λ y. cond (p y) 1 0) x xs

module _ {T : Type 0} (row : T → Row) (v : Row) where
  -- a range that is not empty: no value fails both of its bounds
  pub wide : (l u : Bound T) → empty row l u ≡ false → (above row l v || below row u v) ≡ true
  wide Unbounded u h = refl
  wide (Included x) Unbounded h = or_right (is_ge (by_row v (row x))) true refl
  wide (Included x) (Included y) h = elim (cases_Bool (is_ge (by_row v (row x)))) [ inl e ↦ or_left _ _ e | inr e ↦ or_right _ _ (ap is_le (less_le v (row x) (row y) (less_if (by_row v (row x)) e) h)) ]
  wide (Included x) (Excluded y) h = elim (cases_Bool (is_ge (by_row v (row x)))) [ inl e ↦ or_left _ _ e | inr e ↦ or_right _ _ (ap is_lt (row_through v (row x) (row y) (less_if (by_row v (row x)) e) (less_if (by_row (row x) (row y)) h))) ]
  wide (Excluded x) Unbounded h = or_right (is_gt (by_row v (row x))) true refl
  wide (Excluded x) (Included y) h = elim (cases_Bool (is_gt (by_row v (row x)))) [ inl e ↦ or_left _ _ e | inr e ↦ or_right _ _ (ap is_le (le_less v (row x) (row y) e (less_if (by_row (row x) (row y)) h))) ]
  wide (Excluded x) (Excluded y) h = elim (cases_Bool (is_gt (by_row v (row x)))) [ inl e ↦ or_left _ _ e | inr e ↦ or_right _ _ (ap is_lt (le_less v (row x) (row y) e (less_if (by_row (row x) (row y)) h))) ]

  -- bounds that meet: exactly one of the two is kept
  pub met : (u l : Bound T) → meet row u l ≡ true → above row l v ≡ not (below row u v)
  met Unbounded l h = absurd (true≢false (sym h))
  met (Included x) Unbounded h = absurd (true≢false (sym h))
  met (Included x) (Included y) h = absurd (true≢false (sym h))
  met (Included x) (Excluded y) h = ap (λ r. is_gt (by_row v r)) (sym (row_same (row x) (row y) (equal_if (by_row (row x) (row y)) h))) ∙ gt_le (by_row v (row x))
  met (Excluded x) Unbounded h = absurd (true≢false (sym h))
  met (Excluded x) (Included y) h = ap (λ r. is_ge (by_row v r)) (sym (row_same (row x) (row y) (equal_if (by_row (row x) (row y)) h))) ∙ ge_lt (by_row v (row x))
  met (Excluded x) (Excluded y) h = absurd (true≢false (sym h))

  pub free_above : (b : Bound T) → unbounded b ≡ true → above row b v ≡ true
  free_above Unbounded h = refl
  free_above (Included x) h = absurd (true≢false (sym h))
  free_above (Excluded x) h = absurd (true≢false (sym h))

  pub free_below : (b : Bound T) → unbounded b ≡ true → below row b v ≡ true
  free_below Unbounded h = refl
  free_below (Included x) h = absurd (true≢false (sym h))
  free_below (Excluded x) h = absurd (true≢false (sym h))

  -- where v is below the bound, it lies in no edge behind it
  pub none_behind : (u : Bound T) (es : List (Edge T)) → below row u v ≡ true → list_any (empty_edge row) es ≡ false → go_on row u es ≡ true → count_by (λ e. lies row e v) es ≡ 0
  none_behind u [] b w g = refl
  none_behind u (e ∷ es) b w g =
      let w' = or_parts (empty row e.lower e.upper) (list_any (empty_edge row) es) w in
      let g' = and_parts (meet row u e.lower) (go_on row e.upper es) g in
      let low : above row e.lower v ≡ false = met u e.lower g'.0 ∙ ap not b in
      let high : below row e.upper v ≡ true = ap (λ z. z || below row e.upper v) (sym low) ∙ wide e.lower e.upper w'.0 in
      rw low (none_behind e.upper es high w'.1 g'.1)

  -- where v is not below the bound, it lies in exactly one
  pub one_behind : (u : Bound T) (es : List (Edge T)) → below row u v ≡ false → list_any (empty_edge row) es ≡ false → go_on row u es ≡ true → count_by (λ e. lies row e v) es ≡ 1
  one_behind u [] b w g = absurd (both_ways (below row u v) b (free_below u g))
  one_behind u (e ∷ es) b w g =
      let w' = or_parts (empty row e.lower e.upper) (list_any (empty_edge row) es) w in
      let g' = and_parts (meet row u e.lower) (go_on row e.upper es) g in
      let low : above row e.lower v ≡ true = met u e.lower g'.0 ∙ ap not b in
      elim (cases_Bool (below row e.upper v)) [
        | inl h ↦ counted (λ d. lies row d v) e es ∙ rw (low, h) (ap (λ n. 1 + n) (none_behind e.upper es h w'.1 g'.1))
        | inr h ↦ rw (low, h) (one_behind e.upper es h w'.1 g'.1)
      ]

pub parted : {T : Type 0} (row : T → Row) (es : List (Edge T)) → Parted row es
parted row [] w g v = absurd (true≢false (sym g))
parted row (e ∷ es) w g v =
    let w' = or_parts (empty row e.lower e.upper) (list_any (empty_edge row) es) w in
    let g' = and_parts (unbounded e.lower) (go_on row e.upper es) g in
    let low : above row e.lower v ≡ true = free_above row v e.lower g'.0 in
    elim (cases_Bool (below row e.upper v)) [
      | inl h ↦ counted (λ d. lies row d v) e es ∙ rw (low, h) (ap (λ n. 1 + n) (none_behind row v e.upper es h w'.1 g'.1))
      | inr h ↦ rw (low, h) (one_behind row v e.upper es h w'.1 g'.1)
    ]

-- ---- an empty range contains nothing

ge_turned : (o : Ordering) → is_ge o ≡ true → is_gt (ordering_reverse o) ≡ false
ge_turned Less h = absurd (true≢false (sym h))
ge_turned Equal h = refl
ge_turned Greater h = refl

gt_ge : (o : Ordering) → is_gt o ≡ true → is_ge o ≡ true
gt_ge Less h = absurd (true≢false (sym h))
gt_ge Equal h = absurd (true≢false (sym h))
gt_ge Greater h = refl

-- what is not below x, which is above y, is above y
far : (v x y : Row) → is_ge (by_row v x) ≡ true → by_row x y ≡ Greater → by_row v y ≡ Greater
far v x y h g =
    let a : by_row y x ≡ Less = row_turns x y ∙ ap ordering_reverse g in
    let b : is_gt (by_row x v) ≡ false = ap is_gt (row_turns v x) ∙ ge_turned (by_row v x) h in
    row_turns y v ∙ ap ordering_reverse (less_le y x v a b)

not_both : (x y : Bool) → (x ≡ true → y ≡ false) → (x && y) ≡ false
not_both true y h = h refl
not_both false y h = refl

ge_lt_none : (o : Ordering) → is_ge o ≡ true → is_lt o ≡ false
ge_lt_none Less h = absurd (true≢false (sym h))
ge_lt_none Equal h = refl
ge_lt_none Greater h = refl

gt_le_none : (o : Ordering) → is_gt o ≡ true → is_le o ≡ false
gt_le_none Less h = absurd (true≢false (sym h))
gt_le_none Equal h = absurd (true≢false (sym h))
gt_le_none Greater h = refl

-- x is y or above it
at_least : (o : Ordering) → is_ge o ≡ true → (o ≡ Equal) ⊎ (o ≡ Greater)
at_least Less h = absurd (true≢false (sym h))
at_least Equal h = inl refl
at_least Greater h = inr refl

greater_if : (o : Ordering) → is_gt o ≡ true → o ≡ Greater
greater_if Less h = absurd (true≢false (sym h))
greater_if Equal h = absurd (true≢false (sym h))
greater_if Greater h = refl

-- the same, where x may be y
no_lower : (v x y : Row) → is_ge (by_row x y) ≡ true → is_ge (by_row v x) ≡ true → is_lt (by_row v y) ≡ false
no_lower v x y h g =
    elim (at_least (by_row x y) h) [
      | inl e ↦ ap (λ r. is_lt (by_row v r)) (sym (row_same x y e)) ∙ ge_lt_none (by_row v x) g
      | inr e ↦ ap is_lt (far v x y g e)
    ]

no_upper : (v x y : Row) → is_ge (by_row x y) ≡ true → is_gt (by_row v x) ≡ true → is_le (by_row v y) ≡ false
no_upper v x y h g =
    elim (at_least (by_row x y) h) [
      | inl e ↦ ap (λ r. is_le (by_row v r)) (sym (row_same x y e)) ∙ gt_le_none (by_row v x) g
      | inr e ↦ ap is_le (far v x y (gt_ge (by_row v x) g) e)
    ]

between_none : {T : Type 0} (row : T → Row) (l u : Bound T) → empty row l u ≡ true → (v : Row) → (above row l v && below row u v) ≡ false
between_none row Unbounded u h v = absurd (true≢false (sym h))
between_none row (Included x) Unbounded h v = absurd (true≢false (sym h))
between_none row (Included x) (Included y) h v = not_both (is_ge (by_row v (row x))) (is_le (by_row v (row y))) (λ g. ap is_le (far v (row x) (row y) g (greater_if (by_row (row x) (row y)) h)))
between_none row (Included x) (Excluded y) h v = not_both (is_ge (by_row v (row x))) (is_lt (by_row v (row y))) (no_lower v (row x) (row y) h)
between_none row (Excluded x) Unbounded h v = absurd (true≢false (sym h))
between_none row (Excluded x) (Included y) h v = not_both (is_gt (by_row v (row x))) (is_le (by_row v (row y))) (no_upper v (row x) (row y) h)
between_none row (Excluded x) (Excluded y) h v = not_both (is_gt (by_row v (row x))) (is_lt (by_row v (row y))) (λ g. no_lower v (row x) (row y) h (gt_ge (by_row v (row x)) g))

pub holds_nothing : {T : Type 0} (row : T → Row) (e : Edge T) → HoldsNothing row e
holds_nothing row e h v = between_none row e.lower e.upper h v
