-- What a reader answers where another one refuses.
use Rattle.std.proofs.Common.{◌≡◌, ℕ, List, [], ◌∷◌, Err, Result, sym, ap, ◌∙◌, subst}
use Rattle.std.specs.Result.{IsErrAnd}
use Rattle.std.proofs.lemmas.Result.{err_from_is_err_and}
use Rattle.console.specs.Reading.{Reads}
use Rattle.console.specs.Spelling.{Decimal}
use Rattle.console.specs.Words.{Next, Number, ReadsNext, words_left}
use Rattle.console.specs.declared.words.Unread.{Unread}
use Rattle.console.specs.declared.words.Words.{Words}
use Rattle.console.specs.declared.words.Unread.TheVariants.{Malformed, NoMemory}

module _ {V W : Type 0} (P : V → Type 0) (Q : W → Type 0) (r : Result W Unread) where
  handed_on : (e : Unread) → r ≡ Err e → Reads P (Err e) → (((v : V) → P v → ⊥) → (w : W) → Q w → ⊥) → Reads Q r
  handed_on Malformed is h none = subst (Reads Q) (sym is) (none h)
  handed_on NoMemory is h none = subst (Reads Q) (sym is) tt

  -- the refusal is handed on, and where no P is written no Q is
  pub refused_on : (e : Unread) → IsErrAnd r (λ d. d ≡ e) → Reads P (Err e) → (((v : V) → P v → ⊥) → (w : W) → Q w → ⊥) → Reads Q r
  refused_on e is h none = let p = err_from_is_err_and r is in handed_on e (p.1 ∙ ap Err p.2) h none

-- what the next word writes, it writes in other words too
pub next_weaker : (P Q : List ℕ → Type 0) → ((word : List ℕ) → P word → Q word) → (words : List (List ℕ)) → Next P words → Next Q words
next_weaker P Q f [] h = absurd h
next_weaker P Q f (word ∷ words) h = f word h

-- no number is read, and so none up to a limit
pub number_refused : (most : ℕ) (words : List (List ℕ)) (r : Result ℕ Unread) (e : Unread) → r ≡ Err e → Reads (λ n. Next (λ word. Decimal word n) words) (Err e) → Reads (λ n. Next (λ word. Number most word n) words) r
number_refused most words r e is h = handed_on _ _ r e is h (λ none n w. none n (next_weaker (λ word. Number most word n) (λ word. Decimal word n) (λ _ d. d.0) words w))

-- the same of the words that are left
pub limit_refused : (most : ℕ) (words : Words) (r : Result ℕ Unread) (e : Unread) → IsErrAnd r (λ d. d ≡ e) → ReadsNext Decimal words (Err e) → ReadsNext (Number most) words r
limit_refused most words r e is h = let p = err_from_is_err_and r is in number_refused most (words_left words) r e (p.1 ∙ ap Err p.2) h

-- a refusal handed on to another reader of the same number
pub refused_alike : (most : ℕ) (words : Words) (r : Result ℕ Unread) (e : Unread) → IsErrAnd r (λ d. d ≡ e) → ReadsNext (Number most) words (Err e) → ReadsNext (Number most) words r
refused_alike most words r e is h = let p = err_from_is_err_and r is in handed_on _ _ r e (p.1 ∙ ap Err p.2) h (λ none n w. none n w)

module _ {V : Type 0} (writes : List ℕ → V → Type 0) (words : Words) (r : Result V Unread) where
  -- no word is left, and so none writes a value
  pub value_refused : (e : Unread) → IsErrAnd r (λ d. d ≡ e) → words_left words ≡ [] → ReadsNext writes words r
  value_refused e is none = let p = err_from_is_err_and r is in refused e (p.1 ∙ ap Err p.2)
    where
      no_next : (v : V) → Next (λ word. writes word v) (words_left words) → ⊥
      no_next v h = subst (Next (λ word. writes word v)) none h

      refused : (e : Unread) → r ≡ Err e → ReadsNext writes words r
      refused Malformed q = subst (Reads (λ v. Next (λ word. writes word v) (words_left words))) (sym q) no_next
      refused NoMemory q = subst (Reads (λ v. Next (λ word. writes word v) (words_left words))) (sym q) tt

  -- what is read of the next word
  pub value_read : (word : List ℕ) → Next (λ w. w ≡ word) (words_left words) → Reads (writes word) r → ReadsNext writes words r
  value_read word is h = of_list (words_left words) is
    where
      of_list : (ws : List (List ℕ)) → Next (λ w. w ≡ word) ws → Reads (λ v. Next (λ w. writes w v) ws) r
      of_list [] q = absurd q
      of_list (w ∷ ws) q = subst (λ x. Reads (writes x) r) (sym q) h
