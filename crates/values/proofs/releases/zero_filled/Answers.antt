use Rattle.std.proofs.Common.{rules, of_calls}
use Rattle.values.proofs.Making.{filled_by_place}
use Rattle.values.proofs.releases.zero_filled.Goals as goal

pub returns : goal.returns
returns c =
    let h = c.from_fn.ensures.items in
    filled_by_place c.args.numbers.now c.from_fn.result h.long (λ i lt. let k = h.at i 0 lt in search (rules, of_calls))
