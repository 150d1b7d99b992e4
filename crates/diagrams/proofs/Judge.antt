-- Which of several checks finds the first broken rule: judgements of checks, one behind another.
use Rattle.std.proofs.Common.{◌≡◌, ℕ, ◌+◌, ◌<◌, ◌≤◌, Bool, true, false, cond, eqb, List, length, get_or, Some, None, Option, sym, refl, ap, ◌∙◌, subst, inl, inr, arith}
use Rattle.std.specs.Option.{option_or, option_map}
use Rattle.std.proofs.lemmas.Bool.{cases_lt, cases_eq, both_ways}
use Rattle.values.specs.Faults.{refusal}
use Rattle.values.specs.declared.faults.Fault.{Fault}
use Rattle.values.specs.declared.faults.Fault.TheVariants.{ReleaseCount, NumberTooLarge, TextTooLong, TooManyNodes, UnknownKind, KeyOutOfRange, ExtraNotNormal, EdgeCount, EdgesPastEnd, ChildTooLarge, EmptyRange, Uncovered, OneChild, UnknownId, HostTextTooLong, NameNotNormal, PathFull, ClausesFull}
use Rattle.values.proofs.Firsts.{some_none, some_same, first_none, first_some}
use Rattle.std.specs.List.{position_from}
use Rattle.diagrams.specs.Rules.{Ahead}

abbrev pub number : Fault → ℕ
number f = (refusal f).number

abbrev pub second : Fault → ℕ
second f = (refusal f).second

-- ---- refusals by their numbers

-- the refusal of a number and places
abbrev pub fault : ℕ → ℕ → ℕ → Fault
fault n i j =
    cond (eqb n 1) ReleaseCount
    (cond (eqb n 2) (NumberTooLarge i)
    (cond (eqb n 3) TextTooLong
    (cond (eqb n 4) TooManyNodes
    (cond (eqb n 5) (UnknownKind i)
    (cond (eqb n 6) (KeyOutOfRange i)
    (cond (eqb n 7) (ExtraNotNormal i)
    (cond (eqb n 8) (EdgeCount i)
    (cond (eqb n 9) (EdgesPastEnd i)
    (cond (eqb n 10) (ChildTooLarge i j)
    (cond (eqb n 11) (EmptyRange i j)
    (cond (eqb n 12) (Uncovered i j)
    (cond (eqb n 13) (OneChild i)
    (cond (eqb n 14) UnknownId
    (cond (eqb n 15) (HostTextTooLong i)
    (cond (eqb n 16) (NameNotNormal i)
    (cond (eqb n 17) PathFull ClausesFull))))))))))))))))

is_fault : (g : Fault) → fault (number g) (refusal g).first (second g) ≡ g
is_fault ReleaseCount = refl
is_fault (NumberTooLarge i) = refl
is_fault TextTooLong = refl
is_fault TooManyNodes = refl
is_fault (UnknownKind i) = refl
is_fault (KeyOutOfRange i) = refl
is_fault (ExtraNotNormal i) = refl
is_fault (EdgeCount i) = refl
is_fault (EdgesPastEnd i) = refl
is_fault (ChildTooLarge i j) = refl
is_fault (EmptyRange i j) = refl
is_fault (Uncovered i j) = refl
is_fault (OneChild i) = refl
is_fault UnknownId = refl
is_fault (HostTextTooLong i) = refl
is_fault (NameNotNormal i) = refl
is_fault PathFull = refl
is_fault ClausesFull = refl

-- what is so of the refusals of one number
pub only : (P : Fault → Type 0) (n : ℕ) → ((i j : ℕ) → P (fault n i j)) → (g : Fault) → number g ≡ n → P g
only P n h g e = subst P (is_fault g) (rw e (h (refusal g).first (second g)))

-- ---- judgements

-- a check finds what B says of the rules from number lo to below hi, the first one first
pub record Judged (B : Fault → Type 0) (check : Option Fault) (lo hi : ℕ) : Type 0 where
  pub clear : check ≡ None → (g : Fault) → B g → lo ≤ number g → number g < hi → ⊥
  pub found : (f : Fault) → check ≡ Some f → B f
  pub from : (f : Fault) → check ≡ Some f → lo ≤ number f
  pub to : (f : Fault) → check ≡ Some f → number f < hi
  pub first : (f : Fault) → check ≡ Some f → (g : Fault) → B g → lo ≤ number g → Ahead f g

-- nothing is broken below mid, and then another check
pub later : {B : Fault → Type 0} {b : Option Fault} (lo mid hi : ℕ) → lo ≤ mid → ((g : Fault) → B g → lo ≤ number g → number g < mid → ⊥) → Judged B b mid hi → Judged B b lo hi
later {B} {b} lo mid hi le none q = record {
  clear = λ e g bg l h. elim (cases_lt (number g) mid) [ inl lt ↦ none g bg l lt | inr ge ↦ q.clear e g bg ge h ];
  found = q.found;
  from = λ f e. let x = q.from f e in omega arith;
  to = q.to;
  first = λ f e g bg l. elim (cases_lt (number g) mid) [ inl lt ↦ absurd (none g bg l lt) | inr ge ↦ q.first f e g bg ge ];
}

pub then : {B : Fault → Type 0} (a b : Option Fault) (lo mid hi : ℕ) → lo ≤ mid → mid ≤ hi → Judged B a lo mid → Judged B b mid hi → Judged B (option_or a b) lo hi
then None b lo mid hi l1 l2 p q = later lo mid hi l1 (p.clear refl) q
then (Some x) b lo mid hi l1 l2 p q = record {
  clear = λ e. absurd (some_none e);
  found = p.found;
  from = p.from;
  to = λ f e. let t = p.to f e in omega arith;
  first = p.first;
}

-- a refusal without a place within the node, where nothing with a smaller number is broken
pub one : {B : Fault → Type 0} (f : Fault) (lo hi : ℕ) → lo ≤ number f → number f < hi → second f ≡ 0 → B f → ((g : Fault) → lo ≤ number g → number g < number f → B g → ⊥) → Judged B (Some f) lo hi
one {B} f lo hi l h sf bf none = record {
  clear = λ e. absurd (some_none e);
  found = λ g e. subst B (some_same e) bf;
  from = λ g e. let x = ap number (some_same e) in omega arith;
  to = λ g e. let x = ap number (some_same e) in omega arith;
  first = λ g e k bk m.
      let x = ap number (some_same e) in
      let y = ap second (some_same e) in
      elim (cases_lt (number g) (number k)) [
        | inl less ↦ inl less
        | inr ge ↦ elim (cases_lt (number k) (number g)) [ inl more ↦ absurd (none k m (omega arith) bk) | inr le ↦ inr (omega arith, omega arith) ]
      ];
}

-- nothing to find
pub nothing : {B : Fault → Type 0} (lo hi : ℕ) → ((g : Fault) → lo ≤ number g → number g < hi → B g → ⊥) → Judged B None lo hi
nothing lo hi none = record {
  clear = λ e g bg l h. none g l h bg;
  found = λ f e. absurd (some_none (sym e));
  from = λ f e. absurd (some_none (sym e));
  to = λ f e. absurd (some_none (sym e));
  first = λ f e. absurd (some_none (sym e));
}

-- the only rule of its range
pub alone : {B : Fault → Type 0} (b : Bool) (f : Fault) (lo hi : ℕ) → lo ≤ number f → number f < hi → second f ≡ 0 → (b ≡ false → B f) → (b ≡ true → (g : Fault) → number g ≡ number f → B g → ⊥)
    → ((g : Fault) → lo ≤ number g → number g < hi → (number g ≡ number f → ⊥) → B g → ⊥) → Judged B (cond b None (Some f)) lo hi
alone true f lo hi l h sf bad good none = nothing lo hi (λ g m n bg. elim (cases_eq (number g) (number f)) [ inl e ↦ good refl g e bg | inr ne ↦ none g m n ne bg ])
alone false f lo hi l h sf bad good none = one f lo hi l h sf (bad refl) (λ g m n bg. none g m (omega arith) (λ e. omega arith) bg)

-- a rule, and then other checks
pub flag : {B : Fault → Type 0} (b : Bool) (f : Fault) (r : Option Fault) (lo hi : ℕ) → number f ≡ lo → second f ≡ 0 → lo + 1 ≤ hi → (b ≡ true → B f)
    → (b ≡ false → (g : Fault) → number g ≡ lo → B g → ⊥) → (b ≡ false → Judged B r (lo + 1) hi) → Judged B (cond b (Some f) r) lo hi
flag true f r lo hi nf sf l bad good rest = one f lo hi (omega arith) (omega arith) sf (bad refl) (λ g m n. absurd (omega arith))
flag false f r lo hi nf sf l bad good rest = later lo (lo + 1) hi (omega arith) (λ g bg m n. good refl g (omega arith) bg) (rest refl)

mapped-some : {A : Type 0} (f : ℕ → A) (o : Option ℕ) {g : A} → option_map f o ≡ Some g → (j : ℕ) × ((o ≡ Some j) × (g ≡ f j))
mapped-some f o e = grind arith

mapped-none : {A : Type 0} (f : ℕ → A) (o : Option ℕ) → option_map f o ≡ None → o ≡ None
mapped-none f o e = grind arith

-- a rule with places within the node
pub placed : {B : Fault → Type 0} (f : ℕ → Fault) (o : Option ℕ) (lo hi : ℕ) → hi ≡ lo + 1 → ((j : ℕ) → number (f j) ≡ lo) → ((j : ℕ) → second (f j) ≡ j)
    → (o ≡ None → (g : Fault) → number g ≡ lo → B g → ⊥) → ((j : ℕ) → o ≡ Some j → B (f j)) → ((j : ℕ) → o ≡ Some j → (g : Fault) → number g ≡ lo → B g → j ≤ second g) → Judged B (option_map f o) lo hi
placed {B} f o lo hi eh nf sf none some least = record {
  clear = λ e g bg l h. none (mapped-none f o e) g (omega arith) bg;
  found = λ g e. let w = mapped-some f o e in subst B (sym w.1.1) (some w.0 w.1.0);
  from = λ g e. let w = mapped-some f o e in let n : number g ≡ lo = ap number w.1.1 ∙ nf w.0 in omega arith;
  to = λ g e. let w = mapped-some f o e in let n : number g ≡ lo = ap number w.1.1 ∙ nf w.0 in omega arith;
  first = λ g e k bk l.
      let w = mapped-some f o e in
      let n : number g ≡ lo = ap number w.1.1 ∙ nf w.0 in
      let s : second g ≡ w.0 = ap second w.1.1 ∙ sf w.0 in
      elim (cases_lt (number g) (number k)) [ inl less ↦ inl less | inr ge ↦ let q : number k ≡ lo = omega arith in inr (omega arith, omega (arith, least w.0 w.1.0 k q bk)) ];
}

-- a rule with places within the node, broken where the elements of a list pass
pub placed_first : {A : Type 0} {B : Fault → Type 0} (d : A) (p : A → Bool) (xs : List A) (n i : ℕ) → ((k j : ℕ) → (number (fault n k j) ≡ n) × (second (fault n k j) ≡ j))
    → ((j : ℕ) → j < length xs → p (get_or xs j d) ≡ true → B (fault n i j)) → ((k j : ℕ) → B (fault n k j) → (j < length xs) × (p (get_or xs j d) ≡ true)) → Judged B (option_map (λ j. fault n i j) (position_from p 0 xs)) n (n + 1)
placed_first {A} {B} d p xs n i named broken breaks =
    placed (λ j. fault n i j) (position_from p 0 xs) n (n + 1) refl (λ j. (named i j).0) (λ j. (named i j).1)
    (λ e. only (λ (q : Fault). B q → ⊥) n (λ k j b. let w = breaks k j b in both_ways (p (get_or xs j d)) (first_none d p 0 xs e j w.0) w.1))
    (λ j e. let w = first_some d p xs e in broken j w.within w.here)
    (λ j e. only (λ (q : Fault). B q → j ≤ second q) n (λ k m b. let w = breaks k m b in let f = first_some d p xs e in let s = (named k m).1 in grind (arith, f.earlier m)))

-- one of two checks, by a test
pub by_test : {B : Fault → Type 0} (b : Bool) (x y : Option Fault) (lo hi : ℕ) → (b ≡ true → Judged B x lo hi) → (b ≡ false → Judged B y lo hi) → Judged B (cond b x y) lo hi
by_test true x y lo hi p q = p refl
by_test false x y lo hi p q = q refl
