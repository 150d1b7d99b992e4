use Rattle.std.proofs.Common.{vec_items, arith, rules}
use Rattle.std.specs.Slice.Iter.{chunks_exact_rest}
use Rattle.console.proofs.Pairs.{digit_refused, one_more}
use Rattle.console.proofs.words.hexadecimal.Goals as goal

pub returns-in_err-high : goal.returns-in_err-high
returns-in_err-high c =
    let steps = c.in-Some.ensures.steps.1 in
    digit_refused c.args.digits.now (vec_items c.loop-pair.bytes) (chunks_exact_rest c.loop-pair.pair-iterator) c.in-Some.pair.now (chunks_exact_rest c.next.new.self) c.loop-pair.invariant.1 steps.0 (search rules) 0 (omega arith) _ _ c.from_residual-in_err-high.ensures.1 c.in_err-high.ensures

pub returns-in_err-low : goal.returns-in_err-low
returns-in_err-low c =
    let steps = c.in-Some.ensures.steps.1 in
    digit_refused c.args.digits.now (vec_items c.loop-pair.bytes) (chunks_exact_rest c.loop-pair.pair-iterator) c.in-Some.pair.now (chunks_exact_rest c.next.new.self) c.loop-pair.invariant.1 steps.0 (search rules) 1 (omega arith) _ _ c.from_residual-in_err-low.ensures.1 c.in_err-low.ensures

pub loop-pair-preserved : goal.loop-pair-preserved
loop-pair-preserved c =
    let steps = c.in-Some.ensures.steps.1 in
    (search rules, one_more c.args.digits.now (vec_items c.loop-pair.bytes) (chunks_exact_rest c.loop-pair.pair-iterator) c.in-Some.pair.now (chunks_exact_rest c.next.new.self) (vec_items c.push.new.self) c.in_ok-high.high c.in_ok-low.low c.loop-pair.invariant.1 steps.0 (search rules) c.in_ok-high.ensures c.in_ok-low.ensures c.in_ok-push.ensures.items)
