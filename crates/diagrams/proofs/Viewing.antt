-- What an admitted diagram shows is sound.
use Rattle.std.proofs.Common.{◌≡◌, ℕ, ◌+◌, ◌-◌, ◌*◌, ◌/◌, ◌<◌, ◌≤◌, true, false, ◌&&◌, ◌||◌, List, [], ◌∷◌, map, length, get_or, is_some, is_ok, Some, Ok, sym, refl, ap, ◌∙◌, subst, arith}
use Rattle.std.proofs.lemmas.List.{length-map, get_or-map}
use Rattle.std.proofs.lemmas.Bool.Decides.{nat_tests}
use Rattle.std.specs.List.{list_any}
use Rattle.values.specs.Rows.{Row}
use Rattle.values.specs.Releases.{release_row}
use Rattle.values.specs.Texts.{text_bytes}
use Rattle.values.specs.Keys.{version_keys, version_key_of, string_keys, string_key_of}
use Rattle.std.specs.declared.ops.Bound.{Bound}
use Rattle.ranges.specs.Bounds.{unbounded, meet, empty_edge}
use Rattle.ranges.specs.Cover.{cover, go_on, no_edge}
use Rattle.ranges.specs.declared.edges.Edge.{Edge}
use Rattle.ranges.proofs.Parting.{parted}
use Rattle.diagrams.specs.Tables.{Table, own, child_ids, no_node}
use Rattle.diagrams.specs.Ids.{turned}
use Rattle.diagrams.specs.Admission.{first_refusal}
use Rattle.diagrams.specs.Rules.{SoundEdges, SoundNode}
use Rattle.diagrams.specs.Views.{View, always, never, seen, node_view, known, view, SoundLines, SoundView, Shows}
use Rattle.diagrams.specs.declared.rows.Node.{Node}
use Rattle.diagrams.proofs.Lawful.{nth_some, sound, release_ids, text_ids, branch_ids}

turned_below : (id c k : ℕ) → c < 2 * k → turned id c < 2 * k
turned_below id c k h = grind (arith, nat_tests)

-- ---- edges as they are seen

filled_seen : {T : Type 0} (row : T → Row) (id : ℕ) (es : List (Edge T)) → list_any (empty_edge row) (map (seen id) es) ≡ list_any (empty_edge row) es
filled_seen row id [] = refl
filled_seen row id (e ∷ es) = ap (λ b. empty_edge row e || b) (filled_seen row id es)

goes_seen : {T : Type 0} (row : T → Row) (id : ℕ) (u : Bound T) (es : List (Edge T)) → go_on row u (map (seen id) es) ≡ go_on row u es
goes_seen row id u [] = refl
goes_seen row id u (e ∷ es) = ap (λ b. meet row u e.lower && b) (goes_seen row id e.upper es)

covered_seen : {T : Type 0} (row : T → Row) (id : ℕ) (es : List (Edge T)) → cover row (map (seen id) es) ≡ cover row es
covered_seen row id [] = refl
covered_seen row id (e ∷ es) = ap (λ b. unbounded e.lower && b) (goes_seen row id e.upper es)

sound_lines : {T : Type 0} (row : T → Row) (id k : ℕ) (n : Node) (es : List (Edge T)) → SoundEdges row es n → 2 * k ≤ id → ((j : ℕ) → j < length (child_ids (own es n)) → get_or (child_ids (own es n)) j 0 < 2 * k) → SoundLines row id (map (seen id) (own es n))
sound_lines row id k n es s le falls =
    let filled : list_any (empty_edge row) (map (seen id) (own es n)) ≡ false = filled_seen row id (own es n) ∙ s.filled in
    let covered : cover row (map (seen id) (own es n)) ≡ true = covered_seen row id (own es n) ∙ s.covered in
    record { falls = child; filled = filled; covered = covered; one = parted row (map (seen id) (own es n)) filled covered }
  where
    child : (j : ℕ) → j < length (map (seen id) (own es n)) → (get_or (map (seen id) (own es n)) j no_edge).child < id
    child j lt =
        let here : j < length (own es n) = omega (arith, length-map (own es n) (seen id)) in
        let raw : (get_or (own es n) j no_edge).child < 2 * k = subst (λ (c : ℕ). c < 2 * k) (get_or-map (λ e. e.child) (own es n) j no_edge 0 here) (falls j (omega (arith, length-map (own es n) (λ e. e.child)))) in
        let low = turned_below id (get_or (own es n) j no_edge).child k raw in
        subst (λ (e : Edge _). e.child < id) (sym (get_or-map (seen id) (own es n) j no_edge no_edge here)) (omega arith)

-- ---- nodes

module _ (t : Table) (i : ℕ) (n : Node) (s : SoundNode t i n) (id : ℕ) where
  node_sound : 2 * (i + 1) ≤ id → (v : View) → node_view t id n ≡ Some v → SoundView id v
  node_sound le v e =
      let falls : 2 ≤ n.kind → (j : ℕ) → j < 2 → get_or (n.high ∷ n.low ∷ []) j 0 < 2 * (i + 1) = λ high. rw (branch_ids t i n high) at s.falls in
      let high : 2 ≤ n.kind → turned id n.high < id = λ h. grind (arith, falls h 0, turned_below id n.high (i + 1)) in
      let low : 2 ≤ n.kind → turned id n.low < id = λ h. grind (arith, falls h 1, turned_below id n.low (i + 1)) in
      let releases : n.kind ≡ 0 → SoundLines release_row id (map (seen id) (own t.releases n)) = λ z. sound_lines release_row id (i + 1) n t.releases (s.releases z) le (rw (release_ids t i n z) at s.falls) in
      let texts : n.kind ≡ 1 → SoundLines text_bytes id (map (seen id) (own t.texts n)) = λ z. sound_lines text_bytes id (i + 1) n t.texts (s.texts z) le (rw (text_ids t i n z) at s.falls) in
      grind (arith, nat_tests, high, low, releases, texts)

  node_some : is_some (node_view t id n) ≡ true
  node_some =
      let few = s.kind in
      let version : n.kind ≡ 0 → is_some (version_key_of n.key) ≡ true = λ z. grind (arith, nat_tests, nth_some version_keys n.key, s.version z) in
      let string : 1 ≤ n.kind → n.kind ≤ 3 → is_some (string_key_of n.key) ≡ true = λ a b. grind (arith, nat_tests, nth_some string_keys n.key, s.string a b) in
      grind (arith, nat_tests, version, string)

-- ---- ids

module _ (t : Table) (a : is_some (first_refusal t) ≡ false) (id : ℕ) where
  here : id / 2 - 1 < length t.nodes → SoundNode t (id / 2 - 1) (get_or t.nodes (id / 2 - 1) no_node)
  here h = (sound t a).node (id / 2 - 1) h

  view_sound : (v : View) → view t id ≡ Ok v → SoundView id v
  unfolding view
  view_sound = shown (SoundView id) tt tt (λ big h v o. node_sound t (id / 2 - 1) (get_or t.nodes (id / 2 - 1) no_node) (here h) id (omega arith) v o)
    where
      shown : (P : View → Type 0) → P always → P never → (2 ≤ id → id / 2 - 1 < length t.nodes → (v : View) → node_view t id (get_or t.nodes (id / 2 - 1) no_node) ≡ Some v → P v) → (v : View) → view t id ≡ Ok v → P v
      shown P on_true on_false node v e = grind (arith, nat_tests, on_true, on_false, node)

  -- every id that the table knows is shown
  view_known : is_ok (view t id) ≡ known t id
  unfolding view
  view_known =
      let node : id / 2 - 1 < length t.nodes → is_some (node_view t id (get_or t.nodes (id / 2 - 1) no_node)) ≡ true = λ h. node_some t (id / 2 - 1) (get_or t.nodes (id / 2 - 1) no_node) (here h) id in
      grind (arith, nat_tests, node)

  pub view_shows : Shows t id
  view_shows = record { shows = view_known; sound = view_sound }
