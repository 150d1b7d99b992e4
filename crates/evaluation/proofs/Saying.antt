-- What an id says is what the walk from it answers.
use Rattle.std.proofs.Common.{◌≡◌, ℕ, zero, suc, ◌/◌, ◌<◌, Bool, true, false, cond, List, [], ◌∷◌, length, get_or, is_some, is_ok, Some, None, Ok, Err, Option, Result, sym, refl, ap, ◌∙◌, inl, inr, le_of_suc-le-suc, not-suc-le-zero, arith}
use Rattle.std.specs.Option.{ok_or}
use Rattle.std.proofs.lemmas.Bool.{cases_Bool, false_from_ne_true, true≢false, leb-true, le-leb}
use Rattle.std.proofs.lemmas.Bool.Decides.{not_from_Decides}
use Rattle.std.specs.List.{count_by}
use Rattle.values.specs.Rows.{Row}
use Rattle.values.specs.Releases.{release_row}
use Rattle.values.specs.Texts.{text_bytes}
use Rattle.values.specs.declared.faults.Fault.{Fault}
use Rattle.values.specs.declared.faults.Fault.TheVariants.{UnknownId}
use Rattle.ranges.proofs.Parting.{counted}
use Rattle.ranges.specs.Bounds.{lies}
use Rattle.ranges.specs.Cover.{no_edge}
use Rattle.ranges.specs.declared.edges.Edge.{Edge}
use Rattle.diagrams.specs.Tables.{Table}
use Rattle.diagrams.specs.Admission.{first_refusal}
use Rattle.diagrams.specs.Views.{View, always, never, version, string, in_literal, has_literal, extra, extra_text, known, seen_at, view, SoundView}
use Rattle.diagrams.proofs.Viewing.{view_shows}
use Rattle.hosts.specs.Hosts.{Meaning, text_of}
use Rattle.evaluation.specs.Substrings.{contained}
use Rattle.evaluation.specs.Walks.{chosen, goes, lead, Walk, walk}
use Rattle.evaluation.specs.Evaluation.{Says, at_true, at_false, at_version, at_string, in_high, in_low, has_high, has_low, extra_high, extra_low, text_low, Evaluates}
use Rattle.evaluation.proofs.Finding.{contained_says}
use Rattle.evaluation.proofs.Walking.{answer_more, reports_more, answer_end, reports_end, walk_lacks}
use Rattle.evaluation.proofs.Negating.{walk_opposite}

-- ---- the edge that contains a value

pub record Fits {T : Type 0} (row : T → Row) (v : Row) (es : List (Edge T)) : Type 0 where
  pub place : ℕ
  pub within : place < length es
  pub here : lies row (get_or es place no_edge) v ≡ true
  pub leads : chosen row v es ≡ (get_or es place no_edge).child

fits : {T : Type 0} (row : T → Row) (v : Row) (es : List (Edge T)) → count_by (λ e. lies row e v) es ≡ 1 → Fits row v es
fits row v [] one = absurd (omega arith)
fits row v (e ∷ es) one =
    elim (cases_Bool (lies row e v)) [
      | inl q ↦ record { place = 0; within = omega arith; here = q; leads = ap (λ b. cond b e.child (chosen row v es)) q }
      | inr q ↦
          let w = fits row v es (rw q at one) in
          record { place = suc w.place; within = let x = w.within in omega arith; here = w.here; leads = ap (λ b. cond b e.child (chosen row v es)) q ∙ w.leads }
    ]

none_fits : {T : Type 0} (row : T → Row) (v : Row) (es : List (Edge T)) → count_by (λ e. lies row e v) es ≡ 0 → (j : ℕ) → j < length es → lies row (get_or es j no_edge) v ≡ true → ⊥
none_fits row v [] none j lt h = not-suc-le-zero lt
none_fits row v (e ∷ es) none zero lt h = omega (arith, rw h at (sym (counted (λ d. lies row d v) e es) ∙ none))
none_fits row v (e ∷ es) none (suc j) lt h =
    elim (cases_Bool (lies row e v)) [ inl q ↦ omega (arith, rw q at (sym (counted (λ d. lies row d v) e es) ∙ none)) | inr q ↦ none_fits row v es (rw q at none) j (le_of_suc-le-suc lt) h ]

chosen_is : {T : Type 0} (row : T → Row) (v : Row) (es : List (Edge T)) → count_by (λ e. lies row e v) es ≡ 1 → (j : ℕ) → j < length es → lies row (get_or es j no_edge) v ≡ true → chosen row v es ≡ (get_or es j no_edge).child
chosen_is row v [] one j lt h = absurd (not-suc-le-zero lt)
chosen_is row v (e ∷ es) one zero lt h = ap (λ b. cond b e.child (chosen row v es)) h
chosen_is row v (e ∷ es) one (suc j) lt h =
    elim (cases_Bool (lies row e v)) [
      | inl q ↦ absurd (none_fits row v es (omega (arith, rw q at (sym (counted (λ d. lies row d v) e es) ∙ one))) j (le_of_suc-le-suc lt) h)
      | inr q ↦ ap (λ b. cond b e.child (chosen row v es)) q ∙ chosen_is row v es (rw q at one) j (le_of_suc-le-suc lt) h
    ]

-- ---- the walk says it

abbrev Said : Meaning → Table → ℕ → Type 0
Said m t id = (b : Bool) × (((walk m t id).answer ≡ Ok b) × Says m t id b)

module _ (m : Meaning) (t : Table) (a : is_some (first_refusal t) ≡ false) where
  further : (id : ℕ) (v : View) (c : ℕ) → view t id ≡ Ok v → lead m v ≡ goes c → ((b : Bool) → Says m t c b → Says m t id b) → Said m t c → Said m t id
  further id v c e l step s = (s.0, (sym (answer_more m t a id v c e l) ∙ s.1.0, step s.0 s.1.1))

  -- a view with two children
  picked : (id : ℕ) (v : View) (high low : ℕ) (c : Bool) → view t id ≡ Ok v → lead m v ≡ goes (cond c high low) → (c ≡ true → (b : Bool) → Says m t high b → Says m t id b) → (c ≡ false → (b : Bool) → Says m t low b → Says m t id b) → Said m t high → Said m t low → Said m t id
  picked id v high low true e l up down h w = further id v high e l (up refl) h
  picked id v high low false e l up down h w = further id v low e l (down refl) w

  by_view : (id : ℕ) → ((c : ℕ) → c < id → Said m t c) → (v : View) → view t id ≡ Ok v → SoundView id v → Said m t id
  by_view id ih always e s = (true, (sym (answer_end m t a id always true e refl), at_true e))
  by_view id ih never e s = (false, (sym (answer_end m t a id never false e refl), at_false e))
  by_view id ih (version k es) e s =
      let w = fits release_row (release_row (m.release k)) es (s.one (release_row (m.release k))) in
      further id (version k es) (get_or es w.place no_edge).child e (ap goes w.leads) (λ b q. at_version k es w.place e w.within w.here q) (ih (get_or es w.place no_edge).child (s.falls w.place w.within))
  by_view id ih (string k es) e s =
      let w = fits text_bytes (text_of m k) es (s.one (text_of m k)) in
      further id (string k es) (get_or es w.place no_edge).child e (ap goes w.leads) (λ b q. at_string k es w.place e w.within w.here q) (ih (get_or es w.place no_edge).child (s.falls w.place w.within))
  by_view id ih (in_literal k l high low) e s =
      let d = contained_says (text_of m k) (text_bytes l) in
      picked id (in_literal k l high low) high low (contained (text_of m k) (text_bytes l)) e refl (λ q b x. in_high k l high low e (d.0 q) x) (λ q b x. in_low k l high low e (not_from_Decides (contained (text_of m k) (text_bytes l)) d q) x) (ih high s.0) (ih low s.1)
  by_view id ih (has_literal k l high low) e s =
      let d = contained_says (text_bytes l) (text_of m k) in
      picked id (has_literal k l high low) high low (contained (text_bytes l) (text_of m k)) e refl (λ q b x. has_high k l high low e (d.0 q) x) (λ q b x. has_low k l high low e (not_from_Decides (contained (text_bytes l) (text_of m k)) d q) x) (ih high s.0) (ih low s.1)
  by_view id ih (extra l high low) e s =
      picked id (extra l high low) high low (m.active (text_bytes l)) e refl (λ q b x. extra_high l high low e q x) (λ q b x. extra_low l high low e q x) (ih high s.0) (ih low s.1)
  by_view id ih (extra_text l high low) e s = further id (extra_text l high low) low e refl (λ b x. text_low l high low e x) (ih low s.1)

  by_result : (id : ℕ) → ((c : ℕ) → c < id → Said m t c) → (r : Result View Fault) → view t id ≡ r → is_ok r ≡ true → Said m t id
  by_result id ih (Ok v) e k = by_view id ih v e ((view_shows t a id).sound v e)
  by_result id ih (Err f) e k = absurd (true≢false (sym k))

  known_below : (id c : ℕ) → c < id → known t id ≡ true → known t c ≡ true
  known_below id c lt k = let x = leb-true (id / 2) (length t.nodes) k in le-leb (c / 2) (length t.nodes) (omega arith)

  said_below : (n id : ℕ) → id < n → known t id ≡ true → Said m t id
  said_below zero id lt k = absurd (not-suc-le-zero lt)
  said_below (suc n) id lt k = by_result id (λ c h. said_below n c (omega arith) (known_below id c h k)) (view t id) refl ((view_shows t a id).shows ∙ k)

  said : (id : ℕ) → known t id ≡ true → Said m t id
  said id k = said_below (suc id) id (omega arith) k

  -- what is said is what the walk answers
  only : {id : ℕ} {b : Bool} → Says m t id b → (walk m t id).answer ≡ Ok b
  only {id} (at_true e) = sym (answer_end m t a id always true e refl)
  only {id} (at_false e) = sym (answer_end m t a id never false e refl)
  only {id} (at_version k es j e lt h s) =
      let v : Row = release_row (m.release k) in
      let sound = (view_shows t a id).sound (version k es) e in
      sym (answer_more m t a id (version k es) (get_or es j no_edge).child e (ap goes (chosen_is release_row v es (sound.one v) j lt h))) ∙ only s
  only {id} (at_string k es j e lt h s) =
      let v : Row = text_of m k in
      let sound = (view_shows t a id).sound (string k es) e in
      sym (answer_more m t a id (string k es) (get_or es j no_edge).child e (ap goes (chosen_is text_bytes v es (sound.one v) j lt h))) ∙ only s
  only {id} (in_high k l high low e w s) = sym (answer_more m t a id (in_literal k l high low) high e (ap (λ b. goes (cond b high low)) ((contained_says (text_of m k) (text_bytes l)).1 w))) ∙ only s
  only {id} (in_low k l high low e n s) = sym (answer_more m t a id (in_literal k l high low) low e (ap (λ b. goes (cond b high low)) (false_from_ne_true (contained (text_of m k) (text_bytes l)) (λ q. n ((contained_says (text_of m k) (text_bytes l)).0 q))))) ∙ only s
  only {id} (has_high k l high low e w s) = sym (answer_more m t a id (has_literal k l high low) high e (ap (λ b. goes (cond b high low)) ((contained_says (text_bytes l) (text_of m k)).1 w))) ∙ only s
  only {id} (has_low k l high low e n s) = sym (answer_more m t a id (has_literal k l high low) low e (ap (λ b. goes (cond b high low)) (false_from_ne_true (contained (text_bytes l) (text_of m k)) (λ q. n ((contained_says (text_bytes l) (text_of m k)).0 q))))) ∙ only s
  only {id} (extra_high l high low e q s) = sym (answer_more m t a id (extra l high low) high e (ap (λ b. goes (cond b high low)) q)) ∙ only s
  only {id} (extra_low l high low e q s) = sym (answer_more m t a id (extra l high low) low e (ap (λ b. goes (cond b high low)) q)) ∙ only s
  only {id} (text_low l high low e s) = sym (answer_more m t a id (extra_text l high low) low e refl) ∙ only s

pub lacks_view : (t : Table) (id : ℕ) → is_ok (view t id) ≡ false → Err UnknownId ≡ view t id
unfolding view
lacks_view t id e = by (seen_at t id) e
  where
    by : (o : Option View) → is_ok (ok_or o UnknownId) ≡ false → Err UnknownId ≡ ok_or o UnknownId
    by None h = refl
    by (Some v) h = absurd (true≢false h)

pub evaluates : (t : Table) → is_some (first_refusal t) ≡ false → Evaluates t
evaluates t a = record {
  says = λ m id k. said m t a id k;
  only = λ m id b s. only m t a s;
  lacks = λ m id k. let w = walk_lacks m t id UnknownId (lacks_view t id ((view_shows t a id).shows ∙ k)) in (ap (λ (x : Walk). x.answer) w, ap (λ (x : Walk). x.reports) w);
  negates = λ m id. ap (λ (x : Walk). x.answer) (walk_opposite m t a id);
  alike = λ m id. ap (λ (x : Walk). x.reports) (walk_opposite m t a id);
}

-- the steps of a walk, and its law
pub ruleset walk_steps = (answer_more, reports_more, reports_end, walk_lacks, evaluates)
