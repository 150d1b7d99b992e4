-- The words of a line, and what the next one writes.
use Rattle.std.specs.Prelude.{ℕ, ◌≤◌, List, [], ◌∷◌, Result}
use Rattle.std.specs.Option.{option_copied}
use Rattle.console.specs.Cuts.{pieces_left}
use Rattle.console.specs.Reading.{Reads}
use Rattle.console.specs.Spelling.{Decimal}
use Rattle.console.specs.declared.script.Pieces.{Pieces}
use Rattle.console.specs.declared.words.Unread.{Unread}
use Rattle.console.specs.declared.words.Words.{Words}

-- the pieces that are not read yet
abbrev pub left_in : Pieces → List (List ℕ)
left_in split = pieces_left split.mark (option_copied split.rest)

-- the words that are not read yet
abbrev pub words_left : Words → List (List ℕ)
words_left words = left_in words.pieces

-- there is a next word, and P holds of it
abbrev pub Next : (List ℕ → Type 0) → List (List ℕ) → Type 0
Next P [] = ⊥
Next P (word ∷ words) = P word

-- the words behind the next one
abbrev pub behind : List (List ℕ) → List (List ℕ)
behind [] = []
behind (word ∷ words) = words

-- a number up to a limit
abbrev pub Number : ℕ → List ℕ → ℕ → Type 0
Number most word n = Decimal word n × (n ≤ most)

-- what a reader of the next word answers
abbrev pub ReadsNext : {V : Type 0} → (List ℕ → V → Type 0) → Words → Result V Unread → Type 0
ReadsNext writes words = Reads (λ v. Next (λ word. writes word v) (words_left words))
