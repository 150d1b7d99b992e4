-- Negating an id negates its answer.
use Rattle.std.proofs.Common.{◌≡◌, ℕ, zero, suc, ◌-◌, ◌/◌, ◌<◌, Bool, true, false, cond, not, eqb, leb, List, [], ◌∷◌, ◌++◌, map, length, get_or, is_some, Some, None, Ok, Err, Option, Result, sym, refl, ap, ◌∙◌, inl, inr, not-suc-le-zero, arith}
use Rattle.std.specs.Option.{option_map, ok_or}
use Rattle.std.proofs.lemmas.Bool.{cases_Bool, cases_eq, ne_eqb}
use Rattle.std.proofs.lemmas.Bool.Decides.{nat_tests}
use Rattle.std.specs.List.{count_by}
use Rattle.values.specs.Rows.{Row}
use Rattle.values.specs.Releases.{release_row}
use Rattle.values.specs.Texts.{text_bytes}
use Rattle.values.specs.Keys.{version_key_of, string_key_of}
use Rattle.values.specs.declared.faults.Fault.{Fault}
use Rattle.values.specs.declared.faults.Fault.TheVariants.{UnknownId}
use Rattle.values.specs.declared.keys.MarkerValueString.{MarkerValueString}
use Rattle.values.specs.declared.texts.Text.{Text}
use Rattle.ranges.specs.Bounds.{lies}
use Rattle.ranges.specs.declared.edges.Edge.{Edge}
use Rattle.diagrams.specs.Tables.{Table, own, no_node}
use Rattle.diagrams.specs.Ids.{opposite, turned}
use Rattle.diagrams.specs.Admission.{first_refusal}
use Rattle.diagrams.specs.Views.{View, always, never, version, string, in_literal, has_literal, extra, extra_text, seen, branch_view, node_view, seen_at, view, SoundView}
use Rattle.diagrams.specs.declared.rows.Node.{Node}
use Rattle.diagrams.proofs.Viewing.{view_shows}
use Rattle.hosts.specs.Hosts.{Meaning, text_of}
use Rattle.evaluation.specs.Substrings.{contained}
use Rattle.evaluation.specs.Walks.{edge_reports, examined, chosen, Where, ends, goes, lead, told, Walk, walk_of, after, walk}
use Rattle.evaluation.specs.Evaluation.{negated}
use Rattle.evaluation.proofs.Walking.{lead_below, walk_goes, walk_ends, walk_lacks}

-- a view with every child negated
abbrev flipped : {T : Type 0} → Edge T → Edge T
flipped e = record { lower = e.lower; upper = e.upper; child = opposite e.child }

abbrev flip : View → View
flip always = never
flip never = always
flip (version k es) = version k (map flipped es)
flip (string k es) = string k (map flipped es)
flip (in_literal k t high low) = in_literal k t (opposite high) (opposite low)
flip (has_literal k t high low) = has_literal k t (opposite high) (opposite low)
flip (extra t high low) = extra t (opposite high) (opposite low)
flip (extra_text t high low) = extra_text t (opposite high) (opposite low)

turned_opposite : (id c : ℕ) → turned (opposite id) c ≡ opposite (turned id c)
turned_opposite id c = grind (arith, nat_tests)

half_opposite : (id : ℕ) → opposite id / 2 ≡ id / 2
half_opposite id = grind (arith, nat_tests)

seen_opposite : {T : Type 0} (id : ℕ) (es : List (Edge T)) → map (seen (opposite id)) es ≡ map flipped (map (seen id) es)
seen_opposite id [] = refl
seen_opposite id (e ∷ es) = λ i. record { lower = e.lower; upper = e.upper; child = turned_opposite id e.child i } ∷ seen_opposite id es i

map-mapped : {A B C : Type 0} (g : B → C) (f : A → B) (h : A → C) (o : Option A) → ((x : A) → h x ≡ g (f x)) → option_map h o ≡ option_map g (option_map f o)
map-mapped g f h None e = refl
map-mapped g f h (Some x) e = ap Some (e x)

branch_opposite : (id : ℕ) (n : Node) → branch_view (opposite id) n ≡ option_map flip (branch_view id n)
branch_opposite id n =
    let h = turned_opposite id n.high in
    let l = turned_opposite id n.low in
    elim (cases_Bool (eqb n.kind 2)) [
      | inl q ↦ rw q (map-mapped flip (λ k. in_literal k n.literal (turned id n.high) (turned id n.low)) (λ k. in_literal k n.literal (turned (opposite id) n.high) (turned (opposite id) n.low)) (string_key_of n.key) (λ k i. in_literal k n.literal (h i) (l i)))
      | inr n2 ↦ elim (cases_Bool (eqb n.kind 3)) [
        | inl q ↦ rw (n2, q) (map-mapped flip (λ k. has_literal k n.literal (turned id n.high) (turned id n.low)) (λ k. has_literal k n.literal (turned (opposite id) n.high) (turned (opposite id) n.low)) (string_key_of n.key) (λ k i. has_literal k n.literal (h i) (l i)))
        | inr n3 ↦ elim (cases_Bool (eqb n.kind 4)) [
          | inl q ↦ rw (n2, n3, q) (λ i. Some (extra n.literal (h i) (l i)))
          | inr n4 ↦ elim (cases_Bool (eqb n.kind 5)) [
            | inl q ↦ rw (n2, n3, n4, q) (λ i. Some (extra_text n.literal (h i) (l i)))
            | inr n5 ↦ rw (n2, n3, n4, n5)
          ]
        ]
      ]
    ]

node_opposite : (t : Table) (id : ℕ) (n : Node) → node_view t (opposite id) n ≡ option_map flip (node_view t id n)
node_opposite t id n =
    elim (cases_Bool (eqb n.kind 0)) [
      | inl q ↦ rw q (map-mapped flip (λ k. version k (map (seen id) (own t.releases n))) (λ k. version k (map (seen (opposite id)) (own t.releases n))) (version_key_of n.key) (λ k. ap (version k) (seen_opposite id (own t.releases n))))
      | inr n0 ↦ elim (cases_Bool (eqb n.kind 1)) [
        | inl q ↦ rw (n0, q) (map-mapped flip (λ k. string k (map (seen id) (own t.texts n))) (λ k. string k (map (seen (opposite id)) (own t.texts n))) (string_key_of n.key) (λ k. ap (string k) (seen_opposite id (own t.texts n))))
        | inr n1 ↦ rw (n0, n1) (branch_opposite id n)
      ]
    ]

at_opposite : (t : Table) (id : ℕ) → seen_at t (opposite id) ≡ option_map flip (seen_at t id)
at_opposite t id =
    elim (cases_eq id 0) [
      | inl e ↦ ap (λ x. seen_at t (opposite x)) e ∙ sym (ap (λ x. option_map flip (seen_at t x)) e)
      | inr n0 ↦ elim (cases_eq id 1) [
        | inl e ↦ ap (λ x. seen_at t (opposite x)) e ∙ sym (ap (λ x. option_map flip (seen_at t x)) e)
        | inr n1 ↦
            let a : eqb id 0 ≡ false = ne_eqb id 0 n0 in
            let b : eqb id 1 ≡ false = ne_eqb id 1 n1 in
            let c : eqb (opposite id) 0 ≡ false = grind (arith, nat_tests) in
            let d : eqb (opposite id) 1 ≡ false = grind (arith, nat_tests) in
            let half = half_opposite id in
            rw (a, b, c, d, half) (by (leb (id / 2) (length t.nodes)))
      ]
    ]
  where
    by : (k : Bool) → cond k (node_view t (opposite id) (get_or t.nodes (id / 2 - 1) no_node)) None ≡ option_map flip (cond k (node_view t id (get_or t.nodes (id / 2 - 1) no_node)) None)
    by true = node_opposite t id (get_or t.nodes (id / 2 - 1) no_node)
    by false = refl

abbrev flip_result : Result View Fault → Result View Fault
flip_result (Ok v) = Ok (flip v)
flip_result (Err f) = Err f

view_opposite : (t : Table) (id : ℕ) → view t (opposite id) ≡ flip_result (view t id)
unfolding view
view_opposite t id = ap (λ o. ok_or o UnknownId) (at_opposite t id) ∙ by (seen_at t id)
  where
    by : (o : Option View) → ok_or (option_map flip o) UnknownId ≡ flip_result (ok_or o UnknownId)
    by None = refl
    by (Some v) = refl

-- ---- where a flipped view leads

abbrev flip_where : Where → Where
flip_where (ends b) = ends (not b)
flip_where (goes c) = goes (opposite c)

chosen_flipped : {T : Type 0} (row : T → Row) (v : Row) (es : List (Edge T)) → count_by (λ e. lies row e v) es ≡ 1 → chosen row v (map flipped es) ≡ opposite (chosen row v es)
chosen_flipped row v [] one = absurd (omega arith)
chosen_flipped row v (e ∷ es) one = elim (cases_Bool (lies row e v)) [ inl q ↦ rw q | inr q ↦ rw q (chosen_flipped row v es (rw q at one)) ]

pick_flipped : (b : Bool) (high low : ℕ) → cond b (opposite high) (opposite low) ≡ opposite (cond b high low)
pick_flipped true high low = refl
pick_flipped false high low = refl

lead_flip : (m : Meaning) (id : ℕ) (v : View) → SoundView id v → lead m (flip v) ≡ flip_where (lead m v)
lead_flip m id always s = refl
lead_flip m id never s = refl
lead_flip m id (version k es) s = ap goes (chosen_flipped release_row (release_row (m.release k)) es (s.one (release_row (m.release k))))
lead_flip m id (string k es) s = ap goes (chosen_flipped text_bytes (text_of m k) es (s.one (text_of m k)))
lead_flip m id (in_literal k t high low) s = ap goes (pick_flipped (contained (text_of m k) (text_bytes t)) high low)
lead_flip m id (has_literal k t high low) s = ap goes (pick_flipped (contained (text_bytes t) (text_of m k)) high low)
lead_flip m id (extra t high low) s = ap goes (pick_flipped (m.active (text_bytes t)) high low)
lead_flip m id (extra_text t high low) s = refl

examined_flipped : (k : MarkerValueString) (v : Row) (es : List (Edge Text)) → examined k v (map flipped es) ≡ examined k v es
examined_flipped k v [] = refl
examined_flipped k v (e ∷ es) = ap (λ rs. edge_reports k e ++ cond (lies text_bytes e v) [] rs) (examined_flipped k v es)

told_flip : (m : Meaning) (v : View) → told m (flip v) ≡ told m v
told_flip m always = refl
told_flip m never = refl
told_flip m (version k es) = refl
told_flip m (string k es) = examined_flipped k (text_of m k) es
told_flip m (in_literal k t high low) = refl
told_flip m (has_literal k t high low) = refl
told_flip m (extra t high low) = refl
told_flip m (extra_text t high low) = refl

-- ---- the walk

abbrev turned_walk : Walk → Walk
turned_walk w = walk_of (negated w.answer) w.reports

module _ (m : Meaning) (t : Table) (a : is_some (first_refusal t) ≡ false) where
  from_where : (id : ℕ) (v : View) → view t id ≡ Ok v → view t (opposite id) ≡ Ok (flip v) → ((c : ℕ) → c < id → walk m t (opposite c) ≡ turned_walk (walk m t c)) → (w : Where) → lead m v ≡ w → lead m (flip v) ≡ flip_where w → walk m t (opposite id) ≡ turned_walk (walk m t id)
  from_where id v e e' ih (ends b) l l' =
      walk_ends m t a (opposite id) (flip v) (not b) e' l' ∙ ap (λ rs. after rs (walk_of (Ok (not b)) [])) (told_flip m v) ∙ sym (ap turned_walk (walk_ends m t a id v b e l))
  from_where id v e e' ih (goes c) l l' =
      walk_goes m t a (opposite id) (flip v) (opposite c) e' l'
      ∙ ap (λ rs. after rs (walk m t (opposite c))) (told_flip m v)
      ∙ ap (after (told m v)) (ih c (lead_below m id v ((view_shows t a id).sound v e) c l))
      ∙ sym (ap turned_walk (walk_goes m t a id v c e l))

  from_view : (id : ℕ) → ((c : ℕ) → c < id → walk m t (opposite c) ≡ turned_walk (walk m t c)) → (r : Result View Fault) → view t id ≡ r → walk m t (opposite id) ≡ turned_walk (walk m t id)
  from_view id ih (Ok v) e =
      let e' : view t (opposite id) ≡ Ok (flip v) = view_opposite t id ∙ ap flip_result e in
      from_where id v e e' ih (lead m v) refl (lead_flip m id v ((view_shows t a id).sound v e))
  from_view id ih (Err f) e =
      let e' : view t (opposite id) ≡ Err f = view_opposite t id ∙ ap flip_result e in
      walk_lacks m t (opposite id) f (sym e') ∙ sym (ap turned_walk (walk_lacks m t id f (sym e)))

  walks_below : (n id : ℕ) → id < n → walk m t (opposite id) ≡ turned_walk (walk m t id)
  walks_below zero id lt = absurd (not-suc-le-zero lt)
  walks_below (suc n) id lt = from_view id (λ c h. walks_below n c (omega arith)) (view t id) refl

  pub walk_opposite : (id : ℕ) → walk m t (opposite id) ≡ turned_walk (walk m t id)
  walk_opposite id = walks_below (suc id) id (omega arith)
