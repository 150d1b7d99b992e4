-- Bytes are cut at the first mark, and so piece by piece.
use Rattle.std.proofs.Common.{◌≡◌, ℕ, suc, false, eqb, List, [], ◌∷◌, ◌++◌, Some, None, Option, refl, inl, inr, arith, eq-eqb, ne_eqb}
use Rattle.std.specs.Str.Iter.{LacksByte}
use Rattle.std.proofs.lemmas.Bool.{cases_Bool}
use Rattle.console.specs.Cuts.{Cut, onto_first, pieces, pieces_left}

-- the mark does not stand behind the first byte either
behind : (mark b : ℕ) (bs : List ℕ) → LacksByte mark (b ∷ bs) → LacksByte mark bs
behind mark b bs h k l = h (suc k) (omega arith)

not_first : (mark b : ℕ) (bs : List ℕ) → LacksByte mark (b ∷ bs) → eqb b mark ≡ false
not_first mark b bs h = ne_eqb b mark (h 0 (omega arith))

last_piece : (mark : ℕ) (p : List ℕ) → LacksByte mark p → pieces mark p ≡ p ∷ []
last_piece mark [] h = refl
last_piece mark (b ∷ bs) h = rw (not_first mark b bs h, last_piece mark bs (behind mark b bs h))

first_piece : (mark : ℕ) (p r : List ℕ) → LacksByte mark p → pieces mark (p ++ (mark ∷ r)) ≡ p ∷ pieces mark r
first_piece mark [] r h = rw (eq-eqb mark mark refl)
first_piece mark (b ∷ bs) r h = rw (not_first mark b bs h, first_piece mark bs r (behind mark b bs h))

-- a cut takes the first piece
pub pieces_cut : (mark : ℕ) (bytes piece : List ℕ) (rest : Option (List ℕ)) → Cut mark bytes piece rest → pieces mark bytes ≡ piece ∷ pieces_left mark rest
pieces_cut mark bytes piece None c = rw c.whole (last_piece mark piece c.clear)
pieces_cut mark bytes piece (Some rest) c = rw c.whole (first_piece mark piece rest c.clear)

-- there is always a piece
onto_some : (b : ℕ) (ps : List (List ℕ)) → onto_first b ps ≡ [] → ⊥
onto_some b [] e = let z : ◌≡◌ {A = ℕ} 0 1 = cc in omega arith
onto_some b (p ∷ ps) e = let z : ◌≡◌ {A = ℕ} 0 1 = cc in omega arith

pub pieces_some : (mark : ℕ) (bytes : List ℕ) → pieces mark bytes ≡ [] → ⊥
pieces_some mark [] e = let z : ◌≡◌ {A = ℕ} 0 1 = cc in omega arith
pieces_some mark (b ∷ bs) e =
    elim (cases_Bool (eqb b mark)) [
      | inl t ↦ not_nil (rw t at e)
      | inr f ↦ onto_some b (pieces mark bs) (rw f at e)
    ]
  where
    not_nil : [] ∷ pieces mark bs ≡ [] → ⊥
    not_nil q = let z : ◌≡◌ {A = ℕ} 0 1 = cc in omega arith
