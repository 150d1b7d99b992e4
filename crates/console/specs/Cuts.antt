-- Bytes cut at a mark: lines at line feeds, words at blanks, numbers at points.
use Rattle.std.specs.Prelude.{◌≡◌, ℕ, suc, cond, List, [], ◌∷◌, ◌++◌, length, Some, None, Option, ◌==◌}
use Rattle.std.specs.Option.{unwrap_or}
use Rattle.std.specs.Str.Iter.{LacksByte}

-- a piece, and the mark and what stands behind it where there is one
abbrev pub joined : ℕ → List ℕ → Option (List ℕ) → List ℕ
joined mark piece None = piece
joined mark piece (Some rest) = piece ++ (mark ∷ rest)

-- the piece stands before the first mark, and the rest behind it
pub record Cut (mark : ℕ) (bytes piece : List ℕ) (rest : Option (List ℕ)) : Type 0 where
  pub whole : bytes ≡ joined mark piece rest
  pub clear : LacksByte mark piece

-- the next line of a script, and what is left of it: no line at the end of the bytes
abbrev pub Line : List ℕ → Option (List ℕ) → List ℕ → Type 0
Line bytes None left = (bytes ≡ []) × (left ≡ [])
Line bytes (Some line) left = (rest : Option (List ℕ)) × Cut 10 bytes line rest × (left ≡ unwrap_or rest [])

-- ALL PIECES of the bytes between marks
abbrev pub onto_first : ℕ → List (List ℕ) → List (List ℕ)
onto_first b [] = (b ∷ []) ∷ []
onto_first b (p ∷ ps) = (b ∷ p) ∷ ps

abbrev pub pieces : ℕ → List ℕ → List (List ℕ)
pieces mark [] = [] ∷ []
pieces mark (b ∷ bs) = cond (b == mark) ([] ∷ pieces mark bs) (onto_first b (pieces mark bs))

-- the pieces of what is left, if something is left
abbrev pub pieces_left : ℕ → Option (List ℕ) → List (List ℕ)
pieces_left mark None = []
pieces_left mark (Some bytes) = pieces mark bytes

-- the next piece is given, and those behind it are left
abbrev pub Gives : ℕ → Option (List ℕ) → Option (List ℕ) → Option (List ℕ) → Type 0
Gives mark before None after = (before ≡ None) × (after ≡ None)
Gives mark before (Some piece) after = pieces_left mark before ≡ piece ∷ pieces_left mark after

-- how many pieces can be left at most
abbrev pub unread : Option (List ℕ) → ℕ
unread None = 0
unread (Some bytes) = suc (length bytes)
