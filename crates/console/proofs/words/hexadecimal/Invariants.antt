use Rattle.std.proofs.Common.{◌≡◌, vec_items}
use Rattle.std.specs.Slice.Iter.{chunks_exact_rest, chunks_exact_size}
use Rattle.console.proofs.Pairs.{SoFar}
use Rattle.console.proofs.words.hexadecimal.Given as goal

-- the bytes so far, and the digits that are left
abbrev pub invariant-loop-pair : goal.invariant-loop-pair
invariant-loop-pair l = (chunks_exact_size l.pair-iterator ≡ 2) × SoFar l.digits (vec_items l.bytes) (chunks_exact_rest l.pair-iterator)
