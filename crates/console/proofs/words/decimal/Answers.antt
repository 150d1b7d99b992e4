use Rattle.std.proofs.Common.{arith, rules, subst}
use Rattle.console.proofs.Numerals.{IsReadAfter, read_after, numeral}
use Rattle.console.proofs.words.decimal.Goals as goal

pub returns : goal.returns
returns c =
    let read : IsReadAfter c.try_fold.result 0 c.iter.result.rest.now = read_after _ _ (λ f n b v f' k. search rules) c.try_fold.result c.iter.result c.try_fold.new.self tt 0 (omega arith) c.try_fold.ensures.ran in
    numeral c.try_fold.result c.args.digits.now (search rules) (subst (IsReadAfter c.try_fold.result 0) (search rules) read)
