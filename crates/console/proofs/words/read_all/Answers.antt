use Rattle.console.proofs.Pieces.{value_more, piece_refused}
use Rattle.console.proofs.words.read_all.Goals as goal

pub returns-in_err-read : goal.returns-in_err-read
returns-in_err-read g c =
    let s = c.in-Some.ensures.steps in
    piece_refused g.V.Written.written _ _ c.loop-piece.piece-iterator.now c.next.new.self.now c.in-Some.piece.now s.0 s.1 c.loop-piece.invariant.2 _ _ c.from_residual.ensures.1 c.in_err-read.ensures

pub loop-piece-preserved : goal.loop-piece-preserved
loop-piece-preserved g c =
    let s = c.in-Some.ensures.steps in
    (tt, tt, value_more g.V.Written.written _ _ c.loop-piece.piece-iterator.now c.next.new.self.now c.in-Some.piece.now s.0 s.1 c.loop-piece.invariant.2 c.in_ok-read.field-0 c.push.new.self.items c.in_ok-read.ensures c.in_ok-push.ensures.items)
