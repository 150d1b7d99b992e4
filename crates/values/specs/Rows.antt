-- The line on which values lie: rows of numbers, ordered by their first difference, a prefix first.
use Rattle.std.specs.Prelude.{◌≡◌, ℕ, ◌<◌, ◌⊎◌, List, length, take, slice_index}
use Rattle.std.specs.declared.cmp.Ordering.{Ordering}
use Rattle.std.specs.Cmp.Lexicographic.{slice_cmp}
use Rattle.std.specs.Ordering.{nat_cmp}

-- what a value means on the line: a release its eight zero-filled numbers, a text its bytes
abbrev pub Row : Type 0
Row = List ℕ

-- how two rows compare
unfoldable pub by_row : Row → Row → Ordering
by_row xs ys = slice_cmp nat_cmp xs ys

-- xs comes first: up to a place they agree, and there xs ends and ys does not, or xs has the smaller number
pub record Earlier (xs ys : Row) : Type 0 where
  pub at : ℕ
  pub agree : take at xs ≡ take at ys
  pub inside : at < length ys
  pub less : (length xs ≡ at) ⊎ ((at < length xs) × (slice_index xs at < slice_index ys at))
