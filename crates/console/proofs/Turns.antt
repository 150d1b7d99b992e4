-- The turns of a loop over pieces, where the mark and what is left are given apart.
use Rattle.std.proofs.Common.{◌≡◌, ℕ, List, [], ◌∷◌, ◌++◌, None, Some, Option, sym, refl, ap, ◌∙◌}
use Rattle.std.proofs.lemmas.List.{append-nil, append_assoc}
use Rattle.console.specs.Cuts.{Gives, pieces, pieces_left}
use Rattle.console.specs.Spelling.{Decimal, Each}
use Rattle.console.proofs.Pieces.{ValuesSoFar, each_push, each_at}

-- all pieces of bytes that are split at a mark
pub split_left : (m mark : ℕ) (rest : Option (List ℕ)) (bytes : List ℕ) → mark ≡ m → rest ≡ Some bytes → pieces_left mark rest ≡ pieces m bytes
split_left m mark rest bytes e f = ap (λ k. pieces_left k rest) e ∙ ap (pieces_left m) f

module _ {V : Type 0} (written : List ℕ → V → Type 0) (all : List (List ℕ)) (vs : List V) where
  pub values_begun : vs ≡ [] → ValuesSoFar written all all vs
  values_begun e = ([], refl, rw e tt)

  -- no piece is left
  pub values_all : (mark : ℕ) (before after : Option (List ℕ)) → Gives mark before None after → ValuesSoFar written all (pieces_left mark before) vs → Each written all vs
  values_all mark before after over s =
      let same : all ≡ s.0 = s.1 ∙ ap (λ l. s.0 ++ l) (ap (pieces_left mark) over.0) ∙ append-nil s.0 in
      rw same s.2

  -- the next piece is read
  module _ (mark : ℕ) (before after : Option (List ℕ)) (piece : List ℕ) (next : Gives mark before (Some piece) after) (s : ValuesSoFar written all (pieces_left mark before) vs) where
    cut : all ≡ s.0 ++ (piece ∷ pieces_left mark after)
    cut = s.1 ∙ ap (λ l. s.0 ++ l) next

    pub value_more : (to : ℕ) → to ≡ mark → (v : V) (ws : List V) → written piece v → ws ≡ vs ++ (v ∷ []) → ValuesSoFar written all (pieces_left to after) ws
    value_more to same v ws w e =
        (s.0 ++ (piece ∷ []), cut ∙ sym (append_assoc s.0 (piece ∷ []) (pieces_left mark after)) ∙ ap (λ m. (s.0 ++ (piece ∷ [])) ++ pieces_left m after) (sym same), rw e (each_push written s.0 vs piece v s.2 w))

    pub no_value : ((v : V) → written piece v → ⊥) → (ws : List V) → Each written all ws → ⊥
    no_value none ws h = let d = each_at written s.0 (pieces_left mark after) piece ws (rw cut at h) in none d.0 d.1

-- the numbers of a release are values like others
pub decimals_of : (ps : List (List ℕ)) (ns : List ℕ) → Each (λ p n. Decimal p n) ps ns → Each Decimal ps ns
decimals_of ps ns h = h

pub of_decimals : (ps : List (List ℕ)) (ns : List ℕ) → Each Decimal ps ns → Each (λ p n. Decimal p n) ps ns
of_decimals ps ns h = h
