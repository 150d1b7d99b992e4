-- What an id may say, one level at a time, and the law of the two evaluations of extras.
use Rattle.std.proofs.Common.{◌≡◌, ◌≢◌, ℕ, zero, suc, ◌+◌, ◌/◌, ◌<◌, ◌≤◌, Bool, true, false, cond, ◌&&◌, ◌||◌, List, [], ◌∷◌, length, get_or, set, is_some, is_ok, Some, None, Ok, Err, Option, Result, sym, refl, ap, ◌∙◌, inl, inr, not-suc-le-zero, arith, below_more}
use Rattle.std.specs.Ordering.{is_eq}
use Rattle.std.specs.Cmp.{Equal-is}
use Rattle.std.proofs.lemmas.Bool.{cases_Bool, and_parts, and_from, or_cases, or_left, or_right, leb-true, true≢false}
use Rattle.std.proofs.lemmas.List.{get_or-set_same, get_or-set_other, get_or_default}
use Rattle.std.specs.List.{list_any}
use Rattle.values.specs.Rows.{by_row}
use Rattle.values.specs.Releases.{release_row}
use Rattle.values.specs.Texts.{text_bytes}
use Rattle.values.specs.declared.faults.Fault.{Fault}
use Rattle.values.specs.declared.faults.Fault.TheVariants.{UnknownId}
use Rattle.values.specs.declared.keys.MarkerValueVersion.{MarkerValueVersion}
use Rattle.values.specs.declared.keys.MarkerValueVersion.TheVariants.{ImplementationVersion, PythonFullVersion, PythonVersion}
use Rattle.values.specs.declared.releases.Release.{Release}
use Rattle.values.specs.declared.texts.Text.{Text}
use Rattle.values.specs.Lines.{row_same}
use Rattle.ranges.specs.Bounds.{lies}
use Rattle.ranges.specs.Cover.{no_edge}
use Rattle.ranges.specs.declared.edges.Edge.{Edge}
use Rattle.diagrams.specs.Tables.{Table}
use Rattle.values.specs.Faults.{answer, unless_refused}
use Rattle.diagrams.specs.Admission.{first_refusal}
use Rattle.diagrams.specs.Views.{View, always, never, version, string, in_literal, has_literal, extra, extra_text, known, view, SoundView}
use Rattle.diagrams.proofs.Viewing.{view_shows}
use Rattle.hosts.specs.Hosts.{Meaning}
use Rattle.hosts.specs.Records.{among, names_refusal}
use Rattle.evaluation.specs.Walks.{walk}
use Rattle.evaluation.specs.Evaluation.{Says, Evaluates}
use Rattle.evaluation.specs.Evaluation as says
use Rattle.evaluation.specs.Extras.{counts, may_say, on_result, extras_by, extras, Possible, at_true, at_version, at_string, in_high, in_low, has_high, has_low, extra_high, extra_low, text_low, includes, extras_answer, ExtrasLaw}
use Rattle.std.proofs.lemmas.List.Folds.{Any-from_list_any, list_any_at}
use Rattle.evaluation.proofs.Saying.{evaluates, lacks_view}
use Rattle.diagrams.proofs.Lawful.{sound}

-- ---- what is said depends on the children alone

any_same : {A : Type 0} (d : A) (p q : A → Bool) (xs : List A) → ((j : ℕ) → j < length xs → p (get_or xs j d) ≡ q (get_or xs j d)) → list_any p xs ≡ list_any q xs
any_same d p q [] h = refl
any_same d p q (x ∷ xs) h = ap (λ b. b || list_any p xs) (h 0 (omega arith)) ∙ ap (λ b. q x || b) (any_same d p q xs (λ j lt. h (suc j) (omega arith)))

module _ (names : List Text) (rs : Option (List Release)) where
  pub may_same : (id : ℕ) (s s' : ℕ → Bool) → ((c : ℕ) → c < id → s c ≡ s' c) → (v : View) → SoundView id v → may_say names rs s v ≡ may_say names rs s' v
  may_same id s s' h always k = refl
  may_same id s s' h never k = refl
  may_same id s s' h (version key es) k = any_same no_edge (λ e. counts rs key e && s e.child) (λ e. counts rs key e && s' e.child) es (λ j lt. ap (λ b. counts rs key (get_or es j no_edge) && b) (h (get_or es j no_edge).child (k.falls j lt)))
  may_same id s s' h (string key es) k = any_same no_edge (λ e. s e.child) (λ e. s' e.child) es (λ j lt. h (get_or es j no_edge).child (k.falls j lt))
  may_same id s s' h (in_literal key t high low) k = λ i. h high k.0 i || h low k.1 i
  may_same id s s' h (has_literal key t high low) k = λ i. h high k.0 i || h low k.1 i
  may_same id s s' h (extra t high low) k = by (among names (text_bytes t))
    where
      by : (b : Bool) → s (cond b high low) ≡ s' (cond b high low)
      by true = h high k.0
      by false = h low k.1
  may_same id s s' h (extra_text t high low) k = h low k.1

  module _ (t : Table) (a : is_some (first_refusal t) ≡ false) where
    result_same : (id : ℕ) (s s' : ℕ → Bool) → ((c : ℕ) → c < id → s c ≡ s' c) → (r : Result View Fault) → view t id ≡ r → on_result names rs s r ≡ on_result names rs s' r
    result_same id s s' h (Ok v) e = may_same id s s' h v ((view_shows t a id).sound v e)
    result_same id s s' h (Err f) e = refl

    extras_fuel : (f g id : ℕ) → id < f → id < g → extras_by f names rs t id ≡ extras_by g names rs t id
    extras_fuel zero g id lf lg = absurd (not-suc-le-zero lf)
    extras_fuel (suc f) zero id lf lg = absurd (not-suc-le-zero lg)
    extras_fuel (suc f) (suc g) id lf lg = result_same id (extras_by f names rs t) (extras_by g names rs t) (λ c h. extras_fuel f g c (omega arith) (omega arith)) (view t id) refl

    -- what an id may say, from what the ids below it may say
    pub extras_from : (id : ℕ) (s : ℕ → Bool) → ((c : ℕ) → c < id → s c ≡ extras names rs t c) → on_result names rs s (view t id) ≡ extras names rs t id
    unfolding extras
    extras_from id s h = result_same id s (extras_by id names rs t) (λ c lt. h c lt ∙ extras_fuel (suc c) id c (omega arith) lt) (view t id) refl

    -- one more id is settled
    pub settled_more : (id : ℕ) (table : List Bool) (b : Bool) → id < length table → b ≡ on_result names rs (λ c. get_or table c false) (view t id) → ((c : ℕ) → c < id → get_or table c false ≡ extras names rs t c) → (c : ℕ) → c < id + 1 → get_or (set table id b) c false ≡ extras names rs t c
    settled_more id table b lt e h =
        below_more (λ c. get_or (set table id b) c false ≡ extras names rs t c) id
        (λ c l. let ne : c ≢ id = omega arith in get_or-set_other table id c b false ne ∙ h c l)
        (get_or-set_same table id b false lt ∙ e ∙ extras_from id (λ c. get_or table c false) h)

    extras_at : (id : ℕ) (v : View) → view t id ≡ Ok v → extras names rs t id ≡ may_say names rs (extras names rs t) v
    extras_at id v e = sym (extras_from id (extras names rs t) (λ c lt. refl)) ∙ ap (on_result names rs (extras names rs t)) e

    extras_lacks : (id : ℕ) (f : Fault) → view t id ≡ Err f → extras names rs t id ≡ false
    extras_lacks id f e = sym (extras_from id (extras names rs t) (λ c lt. refl)) ∙ ap (on_result names rs (extras names rs t)) e

-- ---- in plain words

some_edge : {A : Type 0} (d : A) (p : A → Bool) (xs : List A) → list_any p xs ≡ true → (j : ℕ) × ((j < length xs) × (p (get_or xs j d) ≡ true))
some_edge d p xs e =
    let w = Any-from_list_any p xs e in
    (w.0, (w.2, ap p (get_or_default xs w.0 d w.1 w.2 ∙ w.3) ∙ w.4))

edge_some : {A : Type 0} (d : A) (p : A → Bool) (xs : List A) (j : ℕ) → j < length xs → p (get_or xs j d) ≡ true → list_any p xs ≡ true
edge_some d p xs j lt h = list_any_at p xs j d lt h

module _ (names : List Text) (rs : Option (List Release)) (t : Table) (a : is_some (first_refusal t) ≡ false) where
  abbrev X : ℕ → Bool
  X id = extras names rs t id

  by_view : (id : ℕ) → ((c : ℕ) → c < id → X c ≡ true → Possible names rs t c) → (v : View) → view t id ≡ Ok v → SoundView id v → may_say names rs X v ≡ true → Possible names rs t id
  by_view id ih always e s h = at_true e
  by_view id ih never e s h = absurd (true≢false (sym h))
  by_view id ih (version k es) e s h =
      let w = some_edge no_edge (λ q. counts rs k q && X q.child) es h in
      let p = and_parts (counts rs k (get_or es w.0 no_edge)) (X (get_or es w.0 no_edge).child) w.1.1 in
      at_version k es w.0 e w.1.0 p.0 (ih (get_or es w.0 no_edge).child (s.falls w.0 w.1.0) p.1)
  by_view id ih (string k es) e s h =
      let w = some_edge no_edge (λ q. X q.child) es h in
      at_string k es w.0 e w.1.0 (ih (get_or es w.0 no_edge).child (s.falls w.0 w.1.0) w.1.1)
  by_view id ih (in_literal k l high low) e s h = elim (or_cases (X high) (X low) h) [ inl q ↦ in_high k l high low e (ih high s.0 q) | inr q ↦ in_low k l high low e (ih low s.1 q) ]
  by_view id ih (has_literal k l high low) e s h = elim (or_cases (X high) (X low) h) [ inl q ↦ has_high k l high low e (ih high s.0 q) | inr q ↦ has_low k l high low e (ih low s.1 q) ]
  by_view id ih (extra l high low) e s h =
      elim (cases_Bool (among names (text_bytes l))) [
        | inl q ↦ extra_high l high low e q (ih high s.0 (sym (ap (λ b. X (cond b high low)) q) ∙ h))
        | inr q ↦ extra_low l high low e q (ih low s.1 (sym (ap (λ b. X (cond b high low)) q) ∙ h))
      ]
  by_view id ih (extra_text l high low) e s h = text_low l high low e (ih low s.1 h)

  by_result : (id : ℕ) → ((c : ℕ) → c < id → X c ≡ true → Possible names rs t c) → X id ≡ true → (r : Result View Fault) → view t id ≡ r → Possible names rs t id
  by_result id ih h (Ok v) e = by_view id ih v e ((view_shows t a id).sound v e) (sym (extras_at names rs t a id v e) ∙ h)
  by_result id ih h (Err f) e = absurd (true≢false (sym h ∙ extras_lacks names rs t a id f e))

  possible_below : (n id : ℕ) → id < n → X id ≡ true → Possible names rs t id
  possible_below zero id lt h = absurd (not-suc-le-zero lt)
  possible_below (suc n) id lt h = by_result id (λ c l q. possible_below n c (omega arith) q) h (view t id) refl

  pub only_possible : {id : ℕ} → Possible names rs t id → X id ≡ true
  only_possible {id} (at_true e) = extras_at names rs t a id always e
  only_possible {id} (at_version k es j e lt n p) = extras_at names rs t a id (version k es) e ∙ edge_some no_edge (λ q. counts rs k q && X q.child) es j lt (and_from (counts rs k (get_or es j no_edge)) (X (get_or es j no_edge).child) n (only_possible p))
  only_possible {id} (at_string k es j e lt p) = extras_at names rs t a id (string k es) e ∙ edge_some no_edge (λ q. X q.child) es j lt (only_possible p)
  only_possible {id} (in_high k l high low e p) = extras_at names rs t a id (in_literal k l high low) e ∙ or_left (X high) (X low) (only_possible p)
  only_possible {id} (in_low k l high low e p) = extras_at names rs t a id (in_literal k l high low) e ∙ or_right (X high) (X low) (only_possible p)
  only_possible {id} (has_high k l high low e p) = extras_at names rs t a id (has_literal k l high low) e ∙ or_left (X high) (X low) (only_possible p)
  only_possible {id} (has_low k l high low e p) = extras_at names rs t a id (has_literal k l high low) e ∙ or_right (X high) (X low) (only_possible p)
  only_possible {id} (extra_high l high low e q p) = extras_at names rs t a id (extra l high low) e ∙ ap (λ b. X (cond b high low)) q ∙ only_possible p
  only_possible {id} (extra_low l high low e q p) = extras_at names rs t a id (extra l high low) e ∙ ap (λ b. X (cond b high low)) q ∙ only_possible p
  only_possible {id} (text_low l high low e p) = extras_at names rs t a id (extra_text l high low) e ∙ only_possible p

-- ---- yes on a host is possible

-- the edge that contains the host's release counts
counts_host : (m : Meaning) (rs : Option (List Release)) → includes m rs ≡ true → (k : MarkerValueVersion) (e : Edge Release) → lies release_row e (release_row (m.release k)) ≡ true → counts rs k e ≡ true
counts_host m None inc k e h = refl
counts_host m (Some rs) inc ImplementationVersion e h = refl
counts_host m (Some rs) inc PythonFullVersion e h = refl
counts_host m (Some rs) inc PythonVersion e h = found rs inc
  where
    found : (qs : List Release) → list_any (λ r. is_eq (by_row (release_row r) (release_row (m.release PythonVersion)))) qs ≡ true → list_any (λ r. lies release_row e (release_row r)) qs ≡ true
    found [] q = absurd (true≢false (sym q))
    found (r ∷ qs) q =
        elim (or_cases (is_eq (by_row (release_row r) (release_row (m.release PythonVersion)))) (list_any (λ x. is_eq (by_row (release_row x) (release_row (m.release PythonVersion)))) qs) q) [
          | inl w ↦ or_left (lies release_row e (release_row r)) (list_any (λ x. lies release_row e (release_row x)) qs) (ap (lies release_row e) (row_same (release_row r) (release_row (m.release PythonVersion)) ((Equal-is (by_row (release_row r) (release_row (m.release PythonVersion)))).0 w)) ∙ h)
          | inr w ↦ or_right (lies release_row e (release_row r)) (list_any (λ x. lies release_row e (release_row x)) qs) (found qs w)
        ]

module _ (m : Meaning) (names : List Text) (rs : Option (List Release)) (t : Table) (act : (n : List ℕ) → m.active n ≡ among names n) (inc : includes m rs ≡ true) where
  said_possible : {id : ℕ} {b : Bool} → Says m t id b → b ≡ true → Possible names rs t id
  said_possible (says.at_true e) y = at_true e
  said_possible (says.at_false e) y = absurd (true≢false (sym y))
  said_possible (says.at_version k es j e lt h s) y = at_version k es j e lt (counts_host m rs inc k (get_or es j no_edge) h) (said_possible s y)
  said_possible (says.at_string k es j e lt h s) y = at_string k es j e lt (said_possible s y)
  said_possible (says.in_high k l high low e w s) y = in_high k l high low e (said_possible s y)
  said_possible (says.in_low k l high low e w s) y = in_low k l high low e (said_possible s y)
  said_possible (says.has_high k l high low e w s) y = has_high k l high low e (said_possible s y)
  said_possible (says.has_low k l high low e w s) y = has_low k l high low e (said_possible s y)
  said_possible (says.extra_high l high low e q s) y = extra_high l high low e (sym (act (text_bytes l)) ∙ q) (said_possible s y)
  said_possible (says.extra_low l high low e q s) y = extra_low l high low e (sym (act (text_bytes l)) ∙ q) (said_possible s y)
  said_possible (says.text_low l high low e s) y = text_low l high low e (said_possible s y)

  yes_possible : is_some (first_refusal t) ≡ false → (id : ℕ) → (walk m t id).answer ≡ Ok true → Possible names rs t id
  yes_possible a id y =
      elim (cases_Bool (known t id)) [
        | inl k ↦ let w = (evaluates t a).says m id k in said_possible w.1.1 (let e : ◌≡◌ {A = Result Bool Fault} (Ok w.0) (Ok true) = sym w.1.0 ∙ y in cc)
        | inr k ↦ let e : ◌≡◌ {A = Result Bool Fault} (Err UnknownId) (Ok true) = sym ((evaluates t a).lacks m id k).0 ∙ y in cc
      ]

pub extras_law : (t : Table) → is_some (first_refusal t) ≡ false → ExtrasLaw t
extras_law t a = record {
  possible = λ names rs id h. possible_below names rs t a (suc id) id (omega arith) h;
  only = λ names rs id p. only_possible names rs t a p;
  covers = λ m names rs act inc id y. only_possible names rs t a (yes_possible m names rs t act inc a id y);
}

-- ---- the root

-- a root that is shown has its place in the table of ids
pub root_low : (t : Table) → is_some (first_refusal t) ≡ false → (id : ℕ) (v : View) → Ok v ≡ view t id → id ≤ 8193
root_low t a id v e =
    let k : known t id ≡ true = sym (view_shows t a id).shows ∙ ap is_ok (sym e) in
    let low = leb-true (id / 2) (length t.nodes) k in
    let few = (sound t a).few in
    omega arith

pub root_known : (t : Table) → is_some (first_refusal t) ≡ false → (id : ℕ) (v : View) → Ok v ≡ view t id → known t id ≡ true
root_known t a id v e = sym (view_shows t a id).shows ∙ ap is_ok (sym e)

-- 16, then what the root may say
pub root_answer : (names : List Text) (rs : Option (List Release)) (t : Table) → (id : ℕ) → known t id ≡ true → unless_refused (names_refusal names) (extras names rs t id) ≡ extras_answer names rs t id
root_answer names rs t id k = rw k

-- 14
pub root_lacks : (names : List Text) (rs : Option (List Release)) (t : Table) → is_some (first_refusal t) ≡ false → (id : ℕ) (f : Fault) → Err f ≡ view t id → Err f ≡ extras_answer names rs t id
root_lacks names rs t a id f e =
    let k : known t id ≡ false = sym (view_shows t a id).shows ∙ ap is_ok (sym e) in
    rw k (ap Err (same (e ∙ sym (lacks_view t id (ap is_ok (sym e))))))
  where
    same : {f g : Fault} → ◌≡◌ {A = Result View Fault} (Err f) (Err g) → f ≡ g
    same q = cc

-- 16
pub root_names : (names : List Text) (rs : Option (List Release)) (t : Table) (id : ℕ) (f : Fault) → known t id ≡ true → Err f ≡ answer (names_refusal names) → Err f ≡ extras_answer names rs t id
root_names names rs t id f k e = by (names_refusal names) e ∙ root_answer names rs t id k
  where
    by : (o : Option Fault) → Err f ≡ answer o → Err f ≡ unless_refused o (extras names rs t id)
    by None q = absurd (grind (arith, q))
    by (Some g) q = ap Err (let z : f ≡ g = cc in z)

-- what is known of a root
pub ruleset roots = (root_low, root_known, root_names)
