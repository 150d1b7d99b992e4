-- The walk, one view at a time, with no count of steps.
use Rattle.std.proofs.Common.{◌≡◌, ℕ, zero, suc, ◌+◌, ◌<◌, ◌≤◌, Bool, true, false, cond, List, [], ◌∷◌, ◌++◌, map, length, get_or, drop, is_some, Some, None, Ok, Err, Option, Bor, Result, sym, refl, ap, ◌∙◌, subst, inl, inr, not-suc-le-zero, arith}
use Rattle.std.specs.List.{find, count_by}
use Rattle.std.specs.Option.{option_map, unwrap_or}
use Rattle.std.proofs.lemmas.List.{at_drop_more, at_drop_all, append-nil}
use Rattle.std.proofs.lemmas.Bool.{cases_Bool}
use Rattle.values.specs.Rows.{Row}
use Rattle.values.specs.Releases.{release_row}
use Rattle.values.specs.Texts.{text_bytes}
use Rattle.values.specs.declared.faults.Fault.{Fault}
use Rattle.values.specs.declared.keys.MarkerValueString.{MarkerValueString}
use Rattle.values.specs.declared.texts.Text.{Text}
use Rattle.ranges.specs.Bounds.{lies}
use Rattle.ranges.specs.Cover.{no_edge}
use Rattle.ranges.specs.declared.edges.Edge.{Edge}
use Rattle.diagrams.specs.Tables.{Table}
use Rattle.diagrams.specs.Ids.{turned}
use Rattle.diagrams.specs.Admission.{first_refusal}
use Rattle.diagrams.specs.Views.{View, always, never, version, string, in_literal, has_literal, extra, extra_text, view, seen, SoundView}
use Rattle.diagrams.proofs.Viewing.{view_shows}
use Rattle.hosts.specs.Hosts.{Meaning, text_of}
use Rattle.evaluation.specs.Substrings.{contained}
use Rattle.hosts.specs.Tallies.{Tally, reported}
use Rattle.evaluation.specs.Walks.{edge_reports, examined, chosen, Where, ends, goes, lead, told, Walk, walk_of, after, on_where, on_view, walk_by, walk}
use Rattle.hosts.proofs.Noting.{reported-append}

-- ---- one edge

-- the search comes to an edge that contains the value, or not
pub chosen_turn : {T : Type 0} (row : T → Row) (v : Row) (id : ℕ) (es : List (Edge T)) (i : ℕ) (d : Edge T) (b : Bool) → i < length es → b ≡ lies row (get_or es i d) v
    → chosen row v (map (seen id) (drop i es)) ≡ cond b (turned id (get_or es i d).child) (chosen row v (map (seen id) (drop (i + 1) es)))
chosen_turn row v id es i d b lt e =
    at_drop_more (λ fs. chosen row v (map (seen id) fs)) es i d lt
    ∙ ap (λ q. cond q (turned id (get_or es i d).child) (chosen row v (map (seen id) (drop (i + 1) es)))) (sym e)

pub chosen_end : {T : Type 0} (row : T → Row) (v : Row) (id : ℕ) (es : List (Edge T)) (i : ℕ) → length es ≤ i → chosen row v (map (seen id) (drop i es)) ≡ 1
chosen_end row v id es i le = at_drop_all (λ fs. chosen row v (map (seen id) fs)) es i le

-- the edge that is found leads there, and with none the search ends at FALSE
pub found_leads : {T : Type 0} (row : T → Row) (v : Row) (id : ℕ) (es : List (Edge T)) (o : Option (Bor (Edge T))) → option_map (λ (x : Bor (Edge T)). x.now) o ≡ find (λ e. lies row e v) es → unwrap_or (option_map (λ (x : Bor (Edge T)). turned id x.now.child) o) 1 ≡ chosen row v (map (seen id) es)
found_leads {T} row v id es o e = by o ∙ ap (λ (q : Option (Edge T)). unwrap_or (option_map (λ (x : Edge T). turned id x.child) q) 1) e ∙ leads es
  where
    by : (q : Option (Bor (Edge T))) → unwrap_or (option_map (λ (x : Bor (Edge T)). turned id x.now.child) q) 1 ≡ unwrap_or (option_map (λ (x : Edge T). turned id x.child) (option_map (λ (x : Bor (Edge T)). x.now) q)) 1
    by None = refl
    by (Some x) = refl

    leads : (fs : List (Edge T)) → unwrap_or (option_map (λ (x : Edge T). turned id x.child) (find (λ f. lies row f v) fs)) 1 ≡ chosen row v (map (seen id) fs)
    leads [] = refl
    leads (f ∷ fs) = elim (cases_Bool (lies row f v)) [ inl q ↦ rw q | inr q ↦ rw q (leads fs) ]

pub examined_turn : (key : MarkerValueString) (v : Row) (id : ℕ) (es : List (Edge Text)) (i : ℕ) (d : Edge Text) (b : Bool) → i < length es → b ≡ lies text_bytes (get_or es i d) v
    → examined key v (map (seen id) (drop i es)) ≡ edge_reports key (get_or es i d) ++ cond b [] (examined key v (map (seen id) (drop (i + 1) es)))
examined_turn key v id es i d b lt e =
    at_drop_more (λ fs. examined key v (map (seen id) fs)) es i d lt
    ∙ ap (λ q. edge_reports key (get_or es i d) ++ cond q [] (examined key v (map (seen id) (drop (i + 1) es)))) (sym e)

pub examined_end : (key : MarkerValueString) (v : Row) (id : ℕ) (es : List (Edge Text)) (i : ℕ) → length es ≤ i → examined key v (map (seen id) (drop i es)) ≡ []
examined_end key v id es i le = at_drop_all (λ fs. examined key v (map (seen id) fs)) es i le

-- the reports of the edge that is examined, and of those behind it
pub told_turn : (key : MarkerValueString) (v : Row) (id : ℕ) (es : List (Edge Text)) (i : ℕ) (d : Edge Text) (b : Bool) (t u : Tally) → i < length es → b ≡ lies text_bytes (get_or es i d) v → u ≡ reported t (edge_reports key (get_or es i d))
    → reported u (cond b [] (examined key v (map (seen id) (drop (i + 1) es)))) ≡ reported t (examined key v (map (seen id) (drop i es)))
told_turn key v id es i d b t u lt e same =
    ap (λ (x : Tally). reported x (cond b [] (examined key v (map (seen id) (drop (i + 1) es))))) same
    ∙ reported-append t (edge_reports key (get_or es i d)) (cond b [] (examined key v (map (seen id) (drop (i + 1) es))))
    ∙ sym (ap (reported t) (examined_turn key v id es i d b lt e))

-- the steps of a search over edges
pub ruleset edge_steps = (chosen_turn, chosen_end, told_turn, examined_end)

-- ---- where a view leads lies below its id

chosen_below : {T : Type 0} (row : T → Row) (v : Row) (id : ℕ) (es : List (Edge T)) → ((j : ℕ) → j < length es → (get_or es j no_edge).child < id) → count_by (λ e. lies row e v) es ≡ 1 → chosen row v es < id
chosen_below row v id [] falls one = absurd (omega arith)
chosen_below row v id (e ∷ es) falls one =
    elim (cases_Bool (lies row e v)) [
      | inl q ↦ rw q (falls 0 (omega arith))
      | inr q ↦ rw q (chosen_below row v id es (λ j lt. falls (suc j) (omega arith)) (rw q at one))
    ]

pick_below : (b : Bool) (id high low : ℕ) → high < id → low < id → cond b high low < id
pick_below true id high low h l = h
pick_below false id high low h l = l

pub lead_below : (m : Meaning) (id : ℕ) (v : View) → SoundView id v → (c : ℕ) → lead m v ≡ goes c → c < id
lead_below m id always s c e = cc
lead_below m id never s c e = cc
lead_below m id (version k es) s c e = subst (λ (x : ℕ). x < id) (cc) (chosen_below release_row (release_row (m.release k)) id es s.falls (s.one (release_row (m.release k))))
lead_below m id (string k es) s c e = subst (λ (x : ℕ). x < id) (cc) (chosen_below text_bytes (text_of m k) id es s.falls (s.one (text_of m k)))
lead_below m id (in_literal k t high low) s c e = subst (λ (x : ℕ). x < id) (cc) (pick_below (contained (text_of m k) (text_bytes t)) id high low s.0 s.1)
lead_below m id (has_literal k t high low) s c e = subst (λ (x : ℕ). x < id) (cc) (pick_below (contained (text_bytes t) (text_of m k)) id high low s.0 s.1)
lead_below m id (extra t high low) s c e = subst (λ (x : ℕ). x < id) (cc) (pick_below (m.active (text_bytes t)) id high low s.0 s.1)
lead_below m id (extra_text t high low) s c e = subst (λ (x : ℕ). x < id) (cc) s.1

-- ---- the walk

module _ (m : Meaning) (t : Table) (a : is_some (first_refusal t) ≡ false) where
  where_fuel : (f g id : ℕ) → id ≤ f → id ≤ g → ((c : ℕ) → c < f → c < g → walk_by f m t c ≡ walk_by g m t c) → (w : Where) → ((c : ℕ) → w ≡ goes c → c < id) → on_where (walk_by f m t) w ≡ on_where (walk_by g m t) w
  where_fuel f g id lf lg ih (ends b) low = refl
  where_fuel f g id lf lg ih (goes c) low = let lt = low c refl in ih c (omega arith) (omega arith)

  view_fuel : (f g id : ℕ) → id ≤ f → id ≤ g → ((c : ℕ) → c < f → c < g → walk_by f m t c ≡ walk_by g m t c) → (r : Result View Fault) → view t id ≡ r → on_view m (walk_by f m t) r ≡ on_view m (walk_by g m t) r
  view_fuel f g id lf lg ih (Ok v) e = ap (after (told m v)) (where_fuel f g id lf lg ih (lead m v) (lead_below m id v ((view_shows t a id).sound v e)))
  view_fuel f g id lf lg ih (Err x) e = refl

  walk_fuel : (f g id : ℕ) → id < f → id < g → walk_by f m t id ≡ walk_by g m t id
  walk_fuel zero g id lf lg = absurd (not-suc-le-zero lf)
  walk_fuel (suc f) zero id lf lg = absurd (not-suc-le-zero lg)
  walk_fuel (suc f) (suc g) id lf lg = view_fuel f g id (omega arith) (omega arith) (λ c l h. walk_fuel f g c l h) (view t id) refl

  -- where the view of an id leads lies below it
  pub leads_down : (id : ℕ) (v : View) (c : ℕ) → view t id ≡ Ok v → lead m v ≡ goes c → c < id
  leads_down id v c e w = lead_below m id v ((view_shows t a id).sound v e) c w

  -- the walk from an id whose view leads on
  pub walk_goes : (id : ℕ) (v : View) (c : ℕ) → view t id ≡ Ok v → lead m v ≡ goes c → walk m t id ≡ after (told m v) (walk m t c)
  unfolding walk
  walk_goes id v c e w =
      let lt = leads_down id v c e w in
      ap (on_view m (walk_by id m t)) e ∙ ap (λ x. after (told m v) (on_where (walk_by id m t) x)) w ∙ ap (after (told m v)) (walk_fuel id (suc c) c lt (omega arith))

  -- the walk that ends here
  pub walk_ends : (id : ℕ) (v : View) (b : Bool) → view t id ≡ Ok v → lead m v ≡ ends b → walk m t id ≡ after (told m v) (walk_of (Ok b) [])
  unfolding walk
  walk_ends id v b e w = ap (on_view m (walk_by id m t)) e ∙ ap (λ x. after (told m v) (on_where (walk_by id m t) x)) w

  -- one turn of the loop
  pub answer_more : (id : ℕ) (v : View) (c : ℕ) → view t id ≡ Ok v → lead m v ≡ goes c → (walk m t c).answer ≡ (walk m t id).answer
  answer_more id v c e w = sym (ap (λ (x : Walk). x.answer) (walk_goes id v c e w))

  pub reports_more : (id : ℕ) (v : View) (c : ℕ) (s u : Tally) → view t id ≡ Ok v → lead m v ≡ goes c → u ≡ reported s (told m v) → reported u (walk m t c).reports ≡ reported s (walk m t id).reports
  reports_more id v c s u e w same =
      ap (λ (x : Tally). reported x (walk m t c).reports) same
      ∙ reported-append s (told m v) (walk m t c).reports
      ∙ sym (ap (λ (x : Walk). reported s x.reports) (walk_goes id v c e w))

  pub answer_end : (id : ℕ) (v : View) (b : Bool) → view t id ≡ Ok v → lead m v ≡ ends b → Ok b ≡ (walk m t id).answer
  answer_end id v b e w = sym (ap (λ (x : Walk). x.answer) (walk_ends id v b e w))

  pub reports_end : (id : ℕ) (v : View) (b : Bool) (s u : Tally) → view t id ≡ Ok v → lead m v ≡ ends b → u ≡ reported s (told m v) → u ≡ reported s (walk m t id).reports
  reports_end id v b s u e w same =
      same ∙ sym (ap (reported s) (append-nil (told m v))) ∙ sym (ap (λ (x : Walk). reported s x.reports) (walk_ends id v b e w))

-- the walk from an id that the diagram lacks
pub walk_lacks : (m : Meaning) (t : Table) (id : ℕ) (f : Fault) → Err f ≡ view t id → walk m t id ≡ walk_of (Err f) []
unfolding walk
walk_lacks m t id f e = ap (on_view m (walk_by id m t)) (sym e)
