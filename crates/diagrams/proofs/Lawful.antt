-- The law of admission: the rules of a node one by one, then of all nodes.
use Rattle.std.proofs.Common.{◌≡◌, ℕ, zero, suc, ◌+◌, ◌*◌, ◌<◌, ◌≤◌, Bool, true, false, ◌||◌, eqb, ltb, ◌⊎◌, List, [], ◌∷◌, length, get_or, is_some, Some, None, Option, sym, refl, ◌∙◌, subst, inl, inr, le_of_suc-le-suc, not-suc-le-zero, arith}
use Rattle.std.specs.Option.{option_or}
use Rattle.std.specs.List.{slice_get, list_any, list_all}
use Rattle.std.proofs.lemmas.List.{length-take, length-drop}
use Rattle.std.proofs.lemmas.Bool.{cases_lt, ltb-true, ltb-false, eqb-true, eqb-false, or_cases, or_parts, both_ways, not-false}
use Rattle.std.proofs.lemmas.Bool.Decides.{nat_tests}
use Rattle.values.specs.Rows.{Row}
use Rattle.values.specs.Releases.{release_row}
use Rattle.values.specs.Texts.{text_bytes}
use Rattle.values.specs.Names.{normal_name}
use Rattle.values.specs.Keys.{version_keys, version_key_of, string_keys, string_key_of}
use Rattle.values.specs.Faults.{refusal}
use Rattle.values.specs.declared.faults.Fault.{Fault}
use Rattle.values.specs.declared.faults.Fault.TheVariants.{ReleaseCount, NumberTooLarge, TextTooLong, TooManyNodes, UnknownKind, KeyOutOfRange, ExtraNotNormal, EdgeCount, EdgesPastEnd, ChildTooLarge, EmptyRange, Uncovered, OneChild, UnknownId, HostTextTooLong, NameNotNormal, PathFull, ClausesFull}
use Rattle.values.proofs.Firsts.{some_none, some_same}
use Rattle.values.proofs.Naming.{normal_says}
use Rattle.ranges.specs.Bounds.{empty_edge}
use Rattle.ranges.specs.Cover.{no_edge, Gap, cover, uncovered}
use Rattle.ranges.specs.declared.edges.Edge.{Edge}
use Rattle.ranges.proofs.Gaps as gaps
use Rattle.ranges.proofs.Parting.{parted}
use Rattle.diagrams.specs.Tables.{Table, own, child_ids, no_node}
use Rattle.diagrams.specs.Admission.{most_nodes, least_edges, most_edges, key_refusal, name_refusal, wrong_edges, too_large, child_refusal, range_refusal, cover_refusal, all_same, same_refusal, own_refusal, ranged_refusal, branches_refusal, node_refusal, nodes_refusal, first_refusal}
use Rattle.diagrams.specs.Rules.{children, AllEqual, EmptyAt, Breaks, Broken, too_many, at_node, First, Refuses, SoundEdges, SoundNode, Sound}
use Rattle.diagrams.specs.declared.rows.Node.{Node}
use Rattle.diagrams.proofs.Checks.{few, many}
use Rattle.diagrams.proofs.Judge.{number, second, only, Judged, later, then, one, nothing, alone, flag, placed, placed_first, by_test}

-- ---- lists of child ids

equal_all : (c : ℕ) (cs : List ℕ) → list_all (λ d. eqb d c) cs ≡ true → (j : ℕ) → j < length cs → get_or cs j 0 ≡ c
equal_all c [] a j lt = grind arith
equal_all c (d ∷ cs) a zero lt = grind (arith, nat_tests)
equal_all c (d ∷ cs) a (suc j) lt = grind (arith, nat_tests, equal_all c cs)

all_equal : (c : ℕ) (cs : List ℕ) → ((j : ℕ) → j < length cs → get_or cs j 0 ≡ c) → list_all (λ d. eqb d c) cs ≡ true
all_equal c [] h = refl
all_equal c (d ∷ cs) h = grind (arith, nat_tests, all_equal c cs (λ j lt. h (suc j) (omega arith)), h 0)

same_equal : (cs : List ℕ) → all_same cs ≡ true → AllEqual cs
same_equal [] a j lt = grind arith
same_equal (c ∷ cs) a zero lt = refl
same_equal (c ∷ cs) a (suc j) lt = equal_all c cs a j (omega arith)

equal_same : (cs : List ℕ) → AllEqual cs → all_same cs ≡ true
equal_same [] h = refl
equal_same (c ∷ cs) h = all_equal c cs (λ j lt. h (suc j) (omega arith))

-- ---- rules 10 and 13, of child ids

-- what is said of the rules 10 and 13, of child ids
pub record SaysChildren (B : Fault → Type 0) (i : ℕ) (cs : List ℕ) : Type 0 where
  pub large : (j : ℕ) → j < length cs → 2 * (i + 1) ≤ get_or cs j 0 → B (ChildTooLarge i j)
  pub large_only : (k j : ℕ) → B (ChildTooLarge k j) → (j < length cs) × (2 * (i + 1) ≤ get_or cs j 0)
  pub same : AllEqual cs → B (OneChild i)
  pub same_only : (k : ℕ) → B (OneChild k) → AllEqual cs

judge_children : (B : Fault → Type 0) (i : ℕ) (cs : List ℕ) → SaysChildren B i cs → Judged B (child_refusal i cs) 10 11
judge_children B i cs s =
    placed_first 0 (too_large i) cs 10 i (λ k j. (refl, refl)) (λ j lt e. s.large j lt (grind (arith, nat_tests))) (λ k j b. let w = s.large_only k j b in (w.0, grind (arith, nat_tests)))

judge_same : (B : Fault → Type 0) (i : ℕ) (cs : List ℕ) → SaysChildren B i cs → Judged B (same_refusal i cs) 13 14
judge_same B i cs s =
    flag (all_same cs) (OneChild i) None 13 14 refl refl (omega arith)
    (λ e. s.same (same_equal cs e))
    (λ e. only (λ (q : Fault). B q → ⊥) 13 (λ k j b. both_ways (all_same cs) e (equal_same cs (s.same_only k b))))
    (λ e. nothing 14 14 (λ g l h b. omega arith))

-- ---- rules 10 to 13, of a node's own edges

pub record SaysEdges {T : Type 0} (row : T → Row) (B : Fault → Type 0) (i : ℕ) (es : List (Edge T)) : Type 0 where
  pub ids : SaysChildren B i (child_ids es)
  pub hollow : (j : ℕ) → EmptyAt row es j → B (EmptyRange i j)
  pub hollow_only : (k j : ℕ) → B (EmptyRange k j) → EmptyAt row es j
  pub gap : (j : ℕ) → Gap row es j → B (Uncovered i j)
  pub gap_only : (k j : ℕ) → B (Uncovered k j) → Gap row es j

module _ {T : Type 0} (row : T → Row) (B : Fault → Type 0) (i : ℕ) (es : List (Edge T)) (s : SaysEdges row B i es) where
  judge_ranges : Judged B (range_refusal row i es) 11 12
  judge_ranges = placed_first no_edge (empty_edge row) es 11 i (λ k j. (refl, refl)) (λ j lt e. s.hollow j (lt, e)) s.hollow_only

  judge_cover : 0 < length es → Judged B (cover_refusal row i es) 12 13
  judge_cover some =
      let p = gaps.placed row es (uncovered row es) refl in
      placed (λ j. Uncovered i j) (uncovered row es) 12 13 refl (λ j. refl) (λ j. refl)
      (λ e. only (λ (q : Fault). B q → ⊥) 12 (λ k j b. p.none e j (s.gap_only k j b)))
      (λ j e. s.gap j (p.gap j e some))
      (λ j e. only (λ (q : Fault). B q → j ≤ second q) 12 (λ k m b. p.first j e m (s.gap_only k m b)))

  judge_own : 0 < length es → Judged B (own_refusal row i es) 10 14
  judge_own some =
      then (child_refusal i (child_ids es)) (option_or (range_refusal row i es) (option_or (cover_refusal row i es) (same_refusal i (child_ids es)))) 10 11 14 (omega arith) (omega arith) (judge_children B i (child_ids es) s.ids)
      (then (range_refusal row i es) (option_or (cover_refusal row i es) (same_refusal i (child_ids es))) 11 12 14 (omega arith) (omega arith) judge_ranges
      (then (cover_refusal row i es) (same_refusal i (child_ids es)) 12 13 14 (omega arith) (omega arith) (judge_cover some) (judge_same B i (child_ids es) s.ids)))

-- ---- rules 8 to 13

own_long : {T : Type 0} (es : List (Edge T)) (n : Node) → n.first + n.count ≤ length es → length (own es n) ≡ n.count
own_long es n le = simp (length-take, length-drop) (omega arith)

pub record SaysRanged {T : Type 0} (row : T → Row) (B : Fault → Type 0) (i : ℕ) (n : Node) (es : List (Edge T)) : Type 0 where
  pub edges_of_own : SaysEdges row B i (own es n)
  pub wrong : (n.count < least_edges) ⊎ (most_edges < n.count) → B (EdgeCount i)
  pub wrong_only : (k : ℕ) → B (EdgeCount k) → (n.count < least_edges) ⊎ (most_edges < n.count)
  pub past : length es < n.first + n.count → B (EdgesPastEnd i)
  pub past_only : (k : ℕ) → B (EdgesPastEnd k) → length es < n.first + n.count

judge_ranged : {T : Type 0} (row : T → Row) (B : Fault → Type 0) (i : ℕ) (n : Node) (es : List (Edge T)) → SaysRanged row B i n es → Judged B (ranged_refusal row i n es) 8 14
judge_ranged row B i n es s =
    flag (wrong_edges n) (EdgeCount i) _ 8 14 refl refl (omega arith)
    (λ e. s.wrong (elim (or_cases (ltb n.count least_edges) (ltb most_edges n.count) e) [ inl a ↦ inl (ltb-true n.count least_edges a) | inr b ↦ inr (ltb-true most_edges n.count b) ]))
    (λ e. only (λ (q : Fault). B q → ⊥) 8
    (λ k j b.
    let p = or_parts (ltb n.count least_edges) (ltb most_edges n.count) e in
    let least = ltb-false n.count least_edges p.0 in
    let most = ltb-false most_edges n.count p.1 in
    elim (s.wrong_only k b) [ inl y ↦ omega arith | inr y ↦ omega arith ]))
    (λ e₁.
    let p = or_parts (ltb n.count least_edges) (ltb most_edges n.count) e₁ in
    let least = ltb-false n.count least_edges p.0 in
    flag (ltb (length es) (n.first + n.count)) (EdgesPastEnd i) _ 9 14 refl refl (omega arith)
    (λ e. s.past (ltb-true (length es) (n.first + n.count) e))
    (λ e. only (λ (q : Fault). B q → ⊥) 9 (λ k j b. let a = ltb-false (length es) (n.first + n.count) e in let c = s.past_only k b in omega arith))
    (λ e₂.
    let within = ltb-false (length es) (n.first + n.count) e₂ in
    let long = own_long es n within in
    judge_own row B i (own es n) s.edges_of_own (omega arith)))

-- ---- a node with high and low

judge_branches : (B : Fault → Type 0) (i h l : ℕ) → SaysChildren B i (h ∷ l ∷ []) → (lo : ℕ) → lo ≤ 10 → ((g : Fault) → lo ≤ number g → number g < 13 → (number g ≡ 10 → ⊥) → B g → ⊥) → Judged B (branches_refusal i h l) lo 14
judge_branches B i h l s lo b none =
    later lo 10 14 b (λ g bg m n. none g (omega arith) (omega arith) (λ e. omega arith) bg)
    (then (child_refusal i (h ∷ l ∷ [])) (same_refusal i (h ∷ l ∷ [])) 10 13 14 (omega arith) (omega arith)
    (wider (judge_children B i (h ∷ l ∷ []) s))
    (judge_same B i (h ∷ l ∷ []) s))
  where
    wider : Judged B (child_refusal i (h ∷ l ∷ [])) 10 11 → Judged B (child_refusal i (h ∷ l ∷ [])) 10 13
    wider p = record {
      clear = λ e g bg m n. elim (cases_lt (number g) 11) [ inl lt ↦ p.clear e g bg m lt | inr ge ↦ none g (omega arith) n (λ q. omega arith) bg ];
      found = p.found;
      from = p.from;
      to = λ f e. let t = p.to f e in omega arith;
      first = p.first;
    }

-- ---- the rules of a node, by its kind

pub nth_some : {K : Type 0} (ks : List K) (n : ℕ) → is_some (slice_get ks n) ≡ ltb n (length ks)
nth_some [] n = grind (arith, nat_tests)
nth_some (k ∷ ks) zero = grind (arith, nat_tests)
nth_some (k ∷ ks) (suc n) = grind (arith, nat_tests, nth_some ks n)

module _ (t : Table) (i : ℕ) (n : Node) where
  abbrev B : Fault → Type 0
  B = Breaks t i n

  says_all : n.kind ≤ 5 → SaysChildren B i (children t n)
  says_all low = record {
    large = λ j lt big. (refl, low, lt, big);
    large_only = λ k j b. (b.2, b.3);
    same = λ h. (refl, low, h);
    same_only = λ k b. b.2;
  }

  says : (cs : List ℕ) → n.kind ≤ 5 → children t n ≡ cs → SaysChildren B i cs
  says cs low e = subst (λ (ds : List ℕ). SaysChildren B i ds) e (says_all low)

  pub release_ids : n.kind ≡ 0 → children t n ≡ child_ids (own t.releases n)
  release_ids e = grind (arith, nat_tests)

  pub text_ids : n.kind ≡ 1 → children t n ≡ child_ids (own t.texts n)
  text_ids e = grind (arith, nat_tests)

  pub branch_ids : 2 ≤ n.kind → children t n ≡ n.high ∷ n.low ∷ []
  branch_ids e = grind (arith, nat_tests)

  says_releases : n.kind ≡ 0 → SaysRanged release_row B i n t.releases
  says_releases z = record {
    edges_of_own = record {
      ids = says (child_ids (own t.releases n)) (omega arith) (release_ids z);
      hollow = λ j h. (refl, inl (z, h));
      hollow_only = λ k j b. grind arith;
      gap = λ j h. (refl, inl (z, h));
      gap_only = λ k j b. grind arith;
    };
    wrong = λ h. (refl, omega arith, h);
    wrong_only = λ k b. b.2;
    past = λ h. (refl, inl (z, h));
    past_only = λ k b. grind arith;
  }

  says_texts : n.kind ≡ 1 → SaysRanged text_bytes B i n t.texts
  says_texts z = record {
    edges_of_own = record {
      ids = says (child_ids (own t.texts n)) (omega arith) (text_ids z);
      hollow = λ j h. (refl, inr (z, h));
      hollow_only = λ k j b. grind arith;
      gap = λ j h. (refl, inr (z, h));
      gap_only = λ k j b. grind arith;
    };
    wrong = λ h. (refl, omega arith, h);
    wrong_only = λ k b. b.2;
    past = λ h. (refl, inr (z, h));
    past_only = λ k b. grind arith;
  }

  -- which rules a kind does not know
  no_kind : n.kind ≤ 5 → (g : Fault) → number g ≡ 5 → B g → ⊥
  no_kind low = only (λ (q : Fault). B q → ⊥) 5 (λ k j b. let x = b.1 in omega arith)

  no_key : 4 ≤ n.kind → (g : Fault) → number g ≡ 6 → B g → ⊥
  no_key high = only (λ (q : Fault). B q → ⊥) 6 (λ k j b. grind arith)

  no_name : (n.kind ≡ 4 → ⊥) → (g : Fault) → number g ≡ 7 → B g → ⊥
  no_name ne = only (λ (q : Fault). B q → ⊥) 7 (λ k j b. ne b.1)

  no_edges : 2 ≤ n.kind → (g : Fault) → 8 ≤ number g → number g < 13 → (number g ≡ 10 → ⊥) → B g → ⊥
  no_edges high g l h ne b =
      let n8 = only (λ (q : Fault). B q → ⊥) 8 (λ k j x. grind arith) g in
      let n9 = only (λ (q : Fault). B q → ⊥) 9 (λ k j x. grind arith) g in
      let n11 = only (λ (q : Fault). B q → ⊥) 11 (λ k j x. grind arith) g in
      let n12 = only (λ (q : Fault). B q → ⊥) 12 (λ k j x. grind arith) g in
      grind (arith, n8, n9, n11, n12)

  -- rule 6, where the kind takes the keys ks
  judge_key : {K : Type 0} (ks : List K) (m : ℕ) → length ks ≡ m + 1 → n.kind ≤ 3 → (m < n.key → B (KeyOutOfRange i)) → ((k : ℕ) → B (KeyOutOfRange k) → m < n.key) → Judged B (key_refusal i (is_some (slice_get ks n.key))) 5 8
  judge_key ks m long low bad bad_only =
      alone (is_some (slice_get ks n.key)) (KeyOutOfRange i) 5 8 (omega arith) (omega arith) refl
      (λ e. let x = ltb-false n.key (length ks) (sym (nth_some ks n.key) ∙ e) in bad (omega arith))
      (λ e. only (λ (q : Fault). B q → ⊥) 6 (λ k j b. let x = ltb-true n.key (length ks) (sym (nth_some ks n.key) ∙ e) in let y = bad_only k b in omega arith))
      (λ g l h ne b. let n5 = no_kind (omega arith) g in let n7 = no_name (λ e. omega arith) g in grind (arith, n5, n7))

  version_rule : n.kind ≡ 0 → Judged B (key_refusal i (is_some (version_key_of n.key))) 5 8
  version_rule z = judge_key version_keys 2 refl (omega arith) (λ h. (refl, inl (z, h))) (λ k b. grind arith)

  string_rule : 1 ≤ n.kind → n.kind ≤ 3 → Judged B (key_refusal i (is_some (string_key_of n.key))) 5 8
  string_rule some low = judge_key string_keys 13 refl low (λ h. (refl, inr (some, low, h))) (λ k b. grind arith)

  name_rule : n.kind ≡ 4 → Judged B (name_refusal i n.literal) 5 8
  name_rule four =
      let named = normal_says (text_bytes n.literal) in
      alone (normal_name (text_bytes n.literal)) (ExtraNotNormal i) 5 8 (omega arith) (omega arith) refl
      (λ e. (refl, four, λ normal. both_ways (normal_name (text_bytes n.literal)) e (named.1 normal)))
      (λ e. only (λ (q : Fault). B q → ⊥) 7 (λ k j b. b.2 (named.0 e)))
      (λ g l h ne b. let n5 = no_kind (omega arith) g in let n6 = no_key (omega arith) g in grind (arith, n5, n6))

  branches : (lo : ℕ) → lo ≤ 10 → 2 ≤ n.kind → n.kind ≤ 5 → ((g : Fault) → lo ≤ number g → number g < 8 → B g → ⊥) → Judged B (branches_refusal i n.high n.low) lo 14
  branches lo le high low none =
      judge_branches B i n.high n.low (says (n.high ∷ n.low ∷ []) low (branch_ids high)) lo le
      (λ g l h ne b. elim (cases_lt (number g) 8) [ inl lt ↦ none g l lt b | inr ge ↦ no_edges high g ge h ne b ])

  pub judge_node : Judged B (node_refusal t.releases t.texts i n) 5 14
  judge_node =
      by_test (eqb n.kind 0) _ _ 5 14
      (λ e. let z = eqb-true n.kind 0 e in then (key_refusal i (is_some (version_key_of n.key))) (ranged_refusal release_row i n t.releases) 5 8 14 (omega arith) (omega arith) (version_rule z) (judge_ranged release_row B i n t.releases (says_releases z)))
      (λ e₀. let n0 = eqb-false n.kind 0 e₀ in
      by_test (eqb n.kind 1) _ _ 5 14
      (λ e. let z = eqb-true n.kind 1 e in then (key_refusal i (is_some (string_key_of n.key))) (ranged_refusal text_bytes i n t.texts) 5 8 14 (omega arith) (omega arith) (string_rule (omega arith) (omega arith)) (judge_ranged text_bytes B i n t.texts (says_texts z)))
      (λ e₁. let n1 = eqb-false n.kind 1 e₁ in
      by_test (eqb n.kind 2 || eqb n.kind 3) _ _ 5 14
      (λ e. let low : n.kind ≤ 3 = grind (arith, nat_tests) in
      then (key_refusal i (is_some (string_key_of n.key))) (branches_refusal i n.high n.low) 5 8 14 (omega arith) (omega arith) (string_rule (omega arith) low) (branches 8 (omega arith) (omega arith) (omega arith) (λ g l h b. omega arith)))
      (λ e₂.
      let p = or_parts (eqb n.kind 2) (eqb n.kind 3) e₂ in
      let n2 = eqb-false n.kind 2 p.0 in
      let n3 = eqb-false n.kind 3 p.1 in
      by_test (eqb n.kind 4) _ _ 5 14
      (λ e. let z = eqb-true n.kind 4 e in then (name_refusal i n.literal) (branches_refusal i n.high n.low) 5 8 14 (omega arith) (omega arith) (name_rule z) (branches 8 (omega arith) (omega arith) (omega arith) (λ g l h b. omega arith)))
      (λ e₃. let n4 = eqb-false n.kind 4 e₃ in
      by_test (eqb n.kind 5) _ _ 5 14
      (λ e. let z = eqb-true n.kind 5 e in branches 5 (omega arith) (omega arith) (omega arith) (no_other z))
      (λ e₄. let n5 = eqb-false n.kind 5 e₄ in one (UnknownKind i) 5 14 (omega arith) (omega arith) refl (refl, omega arith) (λ g l h b. omega arith))))))
    where
      no_other : n.kind ≡ 5 → (g : Fault) → 5 ≤ number g → number g < 8 → B g → ⊥
      no_other z g l h b =
          let n5 = no_kind (omega arith) g in
          let n6 = no_key (omega arith) g in
          let n7 = no_name (λ e. omega arith) g in
          grind (arith, n5, n6, n7)

  -- where a broken rule lies
  pub breaks_at : (g : Fault) → B g → ((refusal g).first ≡ i) × (5 ≤ number g) × (number g < 14)
  breaks_at (UnknownKind k) b = (b.0, omega arith, omega arith)
  breaks_at (KeyOutOfRange k) b = (b.0, omega arith, omega arith)
  breaks_at (ExtraNotNormal k) b = (b.0, omega arith, omega arith)
  breaks_at (EdgeCount k) b = (b.0, omega arith, omega arith)
  breaks_at (EdgesPastEnd k) b = (b.0, omega arith, omega arith)
  breaks_at (ChildTooLarge k j) b = (b.0, omega arith, omega arith)
  breaks_at (EmptyRange k j) b = (b.0, omega arith, omega arith)
  breaks_at (Uncovered k j) b = (b.0, omega arith, omega arith)
  breaks_at (OneChild k) b = (b.0, omega arith, omega arith)
  breaks_at ReleaseCount b = absurd b
  breaks_at (NumberTooLarge k) b = absurd b
  breaks_at TextTooLong b = absurd b
  breaks_at TooManyNodes b = absurd b
  breaks_at UnknownId b = absurd b
  breaks_at (HostTextTooLong k) b = absurd b
  breaks_at (NameNotNormal k) b = absurd b
  breaks_at PathFull b = absurd b
  breaks_at ClausesFull b = absurd b

  node_clear : node_refusal t.releases t.texts i n ≡ None → (g : Fault) → B g → ⊥
  node_clear e g b = let w = breaks_at g b in judge_node.clear e g b w.1 w.2

-- ---- all nodes

or_none : (a b : Option Fault) → option_or a b ≡ None → (a ≡ None) × (b ≡ None)
or_none a b e = grind arith

or_some : (a b : Option Fault) {f : Fault} → option_or a b ≡ Some f → (a ≡ Some f) ⊎ ((a ≡ None) × (b ≡ Some f))
or_some a b e = grind arith

module _ (t : Table) where
  abbrev checks : ℕ → List Node → Option Fault
  checks i ns = nodes_refusal t.releases t.texts i ns

  abbrev check : ℕ → Node → Option Fault
  check i n = node_refusal t.releases t.texts i n

  nodes_clear : (i : ℕ) (ns : List Node) → checks i ns ≡ None → (g : Fault) (k : ℕ) → k < length ns → Breaks t (i + k) (get_or ns k no_node) g → ⊥
  nodes_clear i [] e g k lt b = not-suc-le-zero lt
  nodes_clear i (n ∷ ns) e g zero lt b =
      let z : i + 0 ≡ i = omega arith in
      node_clear t i n (or_none (check i n) (checks (i + 1) ns) e).0 g (subst (λ (m : ℕ). Breaks t m n g) z b)
  nodes_clear i (n ∷ ns) e g (suc k) lt b =
      let z : i + suc k ≡ i + 1 + k = omega arith in
      nodes_clear (i + 1) ns (or_none (check i n) (checks (i + 1) ns) e).1 g k (le_of_suc-le-suc lt) (subst (λ (m : ℕ). Breaks t m (get_or ns k no_node) g) z b)

  nodes_given : (i : ℕ) (ns : List Node) {f : Fault} → checks i ns ≡ Some f → (k : ℕ) × ((k < length ns) × Breaks t (i + k) (get_or ns k no_node) f)
  nodes_given i [] e = absurd (some_none (sym e))
  nodes_given i (n ∷ ns) {f} e =
      let z : i ≡ i + 0 = omega arith in
      elim (or_some (check i n) (checks (i + 1) ns) e) [
        | inl a ↦ (0, (omega arith, subst (λ (m : ℕ). Breaks t m n f) z ((judge_node t i n).found f a)))
        | inr p ↦
            let r = nodes_given (i + 1) ns p.1 in
            let lt = r.1.0 in
            let y : i + 1 + r.0 ≡ i + suc r.0 = omega arith in
            (suc r.0, (omega arith, subst (λ (m : ℕ). Breaks t m (get_or ns r.0 no_node) f) y r.1.1))
      ]

  nodes_first : (i : ℕ) (ns : List Node) {f : Fault} → checks i ns ≡ Some f → (g : Fault) (k : ℕ) → k < length ns → Breaks t (i + k) (get_or ns k no_node) g → First f g
  nodes_first i [] e g k lt b = absurd (not-suc-le-zero lt)
  nodes_first i (n ∷ ns) {f} e g zero lt b =
      let z : i + 0 ≡ i = omega arith in
      let here = subst (λ (m : ℕ). Breaks t m n g) z b in
      let wg = breaks_at t i n g here in
      elim (or_some (check i n) (checks (i + 1) ns) e) [
        | inl a ↦ let wf = breaks_at t i n f ((judge_node t i n).found f a) in inr (wf.0 ∙ sym wg.0, (judge_node t i n).first f a g here wg.1)
        | inr p ↦ absurd (node_clear t i n p.0 g here)
      ]
  nodes_first i (n ∷ ns) {f} e g (suc k) lt b =
      let z : i + suc k ≡ i + 1 + k = omega arith in
      let there = subst (λ (m : ℕ). Breaks t m (get_or ns k no_node) g) z b in
      elim (or_some (check i n) (checks (i + 1) ns) e) [
        | inl a ↦
            let wf = (breaks_at t i n f ((judge_node t i n).found f a)).0 in
            let wg = (breaks_at t (i + 1 + k) (get_or ns k no_node) g there).0 in
            inl (omega arith)
        | inr p ↦ nodes_first (i + 1) ns p.1 g k (le_of_suc-le-suc lt) there
      ]

  first_cases : (r : Option Fault) → first_refusal t ≡ r → ((most_nodes < length t.nodes) × (r ≡ Some TooManyNodes)) ⊎ ((length t.nodes ≤ most_nodes) × (checks 0 t.nodes ≡ r))
  first_cases r e = elim (cases_lt most_nodes (length t.nodes)) [ inl lt ↦ inl (lt, sym e ∙ many t lt) | inr le ↦ inr (le, sym (few t le) ∙ e) ]

  at_place : (i : ℕ) (g : Fault) → Breaks t i (get_or t.nodes i no_node) g → Breaks t (0 + i) (get_or t.nodes i no_node) g
  at_place i g b = let z : i ≡ 0 + i = omega arith in subst (λ (m : ℕ). Breaks t m (get_or t.nodes i no_node) g) z b

  many_first : {g : Fault} → Broken t g → First TooManyNodes g
  many_first (too_many lt) = inr (refl, inr (refl, omega arith))
  many_first {g} (at_node i lt b) =
      let w = breaks_at t i (get_or t.nodes i no_node) g b in
      let big = w.1 in
      elim (cases_lt 0 (refusal g).first) [ inl more ↦ inl more | inr less ↦ inr (omega arith, inl (omega arith)) ]

  pub refuses : Refuses t
  refuses = record {
    none = λ e g b. elim (first_cases None e) [ inl p ↦ absurd (some_none (sym p.1)) | inr p ↦ none_broken p.0 p.1 b ];
    given = λ f e. elim (first_cases (Some f) e) [
      | inl p ↦ subst (Broken t) (sym (some_same p.1)) (too_many p.0)
      | inr p ↦ let r = nodes_given 0 t.nodes p.1 in at_node r.0 r.1.0 (let z : 0 + r.0 ≡ r.0 = omega arith in subst (λ (m : ℕ). Breaks t m (get_or t.nodes r.0 no_node) f) z r.1.1)
    ];
    first = λ f e g b. elim (first_cases (Some f) e) [
      | inl p ↦ subst (λ (q : Fault). First q g) (sym (some_same p.1)) (many_first b)
      | inr p ↦ first_broken p.0 p.1 b
    ];
  }
    where
      none_broken : {g : Fault} → length t.nodes ≤ most_nodes → checks 0 t.nodes ≡ None → Broken t g → ⊥
      none_broken le e (too_many lt) = omega arith
      none_broken {g} le e (at_node i lt b) = nodes_clear 0 t.nodes e g i lt (at_place i g b)

      first_broken : {f g : Fault} → length t.nodes ≤ most_nodes → checks 0 t.nodes ≡ Some f → Broken t g → First f g
      first_broken le e (too_many lt) = absurd (omega arith)
      first_broken {f} {g} le e (at_node i lt b) = nodes_first 0 t.nodes e g i lt (at_place i g b)

-- ---- what is not broken is sound

any_none : {A : Type 0} (d : A) (p : A → Bool) (xs : List A) → ((k : ℕ) → k < length xs → p (get_or xs k d) ≡ false) → list_any p xs ≡ false
any_none d p [] h = refl
any_none d p (x ∷ xs) h = grind (arith, any_none d p xs (λ k lt. h (suc k) (omega arith)), h 0)

covers : {T : Type 0} (row : T → Row) (es : List (Edge T)) → 0 < length es → ((k : ℕ) → Gap row es k → ⊥) → cover row es ≡ true
covers row es some none = by (uncovered row es) refl
  where
    by : (r : Option ℕ) → r ≡ uncovered row es → cover row es ≡ true
    by None e = not-false (cover row es) (sym (gaps.placed row es None e).covers)
    by (Some j) e = absurd (none j ((gaps.placed row es (Some j) e).gap j refl some))

sound_edges : {T : Type 0} (row : T → Row) (B : Fault → Type 0) (i : ℕ) (n : Node) (es : List (Edge T)) → SaysRanged row B i n es → ((g : Fault) → B g → ⊥) → SoundEdges row es n
sound_edges row B i n es s none =
    let least : least_edges ≤ n.count = grind (arith, none (EdgeCount i), s.wrong) in
    let most : n.count ≤ most_edges = grind (arith, none (EdgeCount i), s.wrong) in
    let within : n.first + n.count ≤ length es = grind (arith, none (EdgesPastEnd i), s.past) in
    let long = own_long es n within in
    let filled : list_any (empty_edge row) (own es n) ≡ false = any_none no_edge (empty_edge row) (own es n) (λ k lt. grind (arith, none (EmptyRange i k), s.edges_of_own.hollow k)) in
    let covered : cover row (own es n) ≡ true = covers row (own es n) (omega arith) (λ k g. none (Uncovered i k) (s.edges_of_own.gap k g)) in
    record { least = least; most = most; within = within; filled = filled; covered = covered; one = parted row (own es n) filled covered }

sound_node : (t : Table) (i : ℕ) (n : Node) → ((g : Fault) → Breaks t i n g → ⊥) → SoundNode t i n
sound_node t i n none =
    let low : n.kind ≤ 5 = grind (arith, none (UnknownKind i)) in
    record {
      kind = low;
      version = λ z. grind (arith, none (KeyOutOfRange i));
      string = λ some few. grind (arith, none (KeyOutOfRange i));
      extra = λ four. grind (arith, none (ExtraNotNormal i), normal_says (text_bytes n.literal));
      falls = λ j lt. grind (arith, none (ChildTooLarge i j));
      apart = λ h. none (OneChild i) (refl, low, h);
      releases = λ z. sound_edges release_row (Breaks t i n) i n t.releases (says_releases t i n z) none;
      texts = λ z. sound_edges text_bytes (Breaks t i n) i n t.texts (says_texts t i n z) none;
    }

pub sound : (t : Table) → is_some (first_refusal t) ≡ false → Sound t
sound t a =
    let none = (refuses t).none (grind arith) in
    let many_nodes : most_nodes < length t.nodes → ⊥ = λ lt. none TooManyNodes (too_many lt) in
    record {
      few = grind (arith, many_nodes);
      node = λ i lt. sound_node t i (get_or t.nodes i no_node) (λ g b. none g (at_node i lt b));
    }
