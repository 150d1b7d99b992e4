use Rattle.console.specs.Words.{left_in}
use Rattle.console.proofs.Pieces.{ValuesSoFar}
use Rattle.console.proofs.words.read_all.Given as goal

-- the values so far, and the pieces that are left
abbrev pub invariant-loop-piece : goal.invariant-loop-piece
invariant-loop-piece g l =
    (goal.iterator-loop-piece g).can_next l.piece-iterator
    × (goal.iterator-loop-piece g).is_finite l.piece-iterator
    × ValuesSoFar g.V.Written.written (left_in l.fn.pieces) (left_in l.piece-iterator) l.values.items
