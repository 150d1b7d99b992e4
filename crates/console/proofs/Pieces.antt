-- A value for each piece, read piece by piece.
use Rattle.std.proofs.Common.{◌≡◌, ℕ, List, [], ◌∷◌, ◌++◌, Some, Ok, Err, Result, Vec, Global, sym, ap, ◌∙◌, subst, inr, ⊎_elim}
use Rattle.std.specs.Option.{option_copied}
use Rattle.std.specs.Result.{IsErrAnd}
use Rattle.std.proofs.lemmas.List.{append_assoc}
use Rattle.console.specs.Cuts.{Gives, pieces, pieces_left}
use Rattle.console.specs.Reading.{Reads}
use Rattle.console.specs.Spelling.{Each, IsListWord}
use Rattle.console.specs.Words.{left_in}
use Rattle.console.specs.declared.script.Pieces.{Pieces}
use Rattle.console.specs.declared.words.Unread.{Unread}
use Rattle.console.specs.declared.words.Unread.TheVariants.{Malformed, NoMemory}
use Rattle.console.proofs.Readings.{refused_on}

module _ {V : Type 0} (written : List ℕ → V → Type 0) where
  -- the pieces before those that are left write the values so far
  abbrev pub ValuesSoFar : List (List ℕ) → List (List ℕ) → List V → Type 0
  ValuesSoFar all left vs = (ps : List (List ℕ)) × (all ≡ ps ++ left) × Each written ps vs

  pub each_push : (ps : List (List ℕ)) (vs : List V) (p : List ℕ) (v : V) → Each written ps vs → written p v → Each written (ps ++ (p ∷ [])) (vs ++ (v ∷ []))
  each_push [] [] p v h w = (w, tt)
  each_push [] (u ∷ vs) p v h w = absurd h
  each_push (q ∷ ps) [] p v h w = absurd h
  each_push (q ∷ ps) (u ∷ vs) p v h w = (h.0, each_push ps vs p v h.1 w)

  pub each_at : (ps qs : List (List ℕ)) (p : List ℕ) (vs : List V) → Each written (ps ++ (p ∷ qs)) vs → (v : V) × written p v
  each_at [] qs p [] h = absurd h
  each_at [] qs p (v ∷ vs) h = (v, h.0)
  each_at (q ∷ ps) qs p [] h = absurd h
  each_at (q ∷ ps) qs p (v ∷ vs) h = each_at ps qs p vs h.1

  -- the next piece is read
  module _ (all : List (List ℕ)) (vs : List V) (before after : Pieces) (piece : List ℕ) (next : Gives before.mark (option_copied before.rest) (Some piece) (option_copied after.rest)) (same : after.mark ≡ before.mark) (s : ValuesSoFar all (left_in before) vs) where
    cut : all ≡ s.0 ++ (piece ∷ left_in after)
    cut = s.1 ∙ ap (λ l. s.0 ++ l) (next ∙ ap (λ m. piece ∷ pieces_left m (option_copied after.rest)) (sym same))

    pub value_more : (v : V) (ws : List V) → written piece v → ws ≡ vs ++ (v ∷ []) → ValuesSoFar all (left_in after) ws
    value_more v ws w e = (s.0 ++ (piece ∷ []), cut ∙ sym (append_assoc s.0 (piece ∷ []) (left_in after)), rw e (each_push s.0 vs piece v s.2 w))

    -- it writes no value, and so the pieces do not write one each
    pub piece_refused : (r : Result (Vec V Global) Unread) (e : Unread) → IsErrAnd r (λ d. d ≡ e) → Reads (written piece) (Err e) → Reads (λ ws. Each written all ws.items) r
    piece_refused r e is h = refused_on (written piece) _ r e is h (λ none ws w. let d = each_at s.0 (left_in after) piece ws.items (rw cut at w) in none d.0 d.1)

-- the values of pieces with a mark between two
pub list_read : {V : Type 0} (written : List ℕ → V → Type 0) (mark : ℕ) (word : List ℕ) (split : Pieces) (r : Result (Vec V Global) Unread) → (word ≡ 45 ∷ [] → ⊥) → option_copied split.rest ≡ Some word → split.mark ≡ mark → Reads (λ vs. Each written (left_in split) vs.items) r → Reads (λ vs. IsListWord written mark word vs.items) r
list_read {V} written mark word split r no_dash whole same h = of_pieces r (subst (λ ps. Reads (λ vs. Each written ps vs.items) r) all h)
  where
    all : left_in split ≡ pieces mark word
    all = ap (λ m. pieces_left m (option_copied split.rest)) same ∙ ap (pieces_left mark) whole

    of_pieces : (q : Result (Vec V Global) Unread) → Reads (λ vs. Each written (pieces mark word) vs.items) q → Reads (λ vs. IsListWord written mark word vs.items) q
    of_pieces (Ok vs) k = inr k
    of_pieces (Err Malformed) k = λ vs l. ⊎_elim (λ dash. no_dash dash.0) (k vs) l
    of_pieces (Err NoMemory) k = tt
