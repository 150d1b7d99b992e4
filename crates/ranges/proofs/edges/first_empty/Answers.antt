use Rattle.std.proofs.Common.{◌≡◌, ◌∙◌, rules, tests, of_calls}
use Rattle.std.proofs.lemmas.Iterator.{YieldsList-from_slice}
use Rattle.std.proofs.lemmas.Iterator.Search.{position_from_yields_List}
use Rattle.std.proofs.lemmas.Iterator.Adapters.{position_from-zero}
use Rattle.std.specs.List.{position_from}
use Rattle.ranges.specs.Bounds.{empty_edge}
use Rattle.ranges.proofs.edges.first_empty.Goals as goal

-- in two steps: what `position` finds, and that it is the answer
pub returns : goal.returns
returns g c =
    let empty = empty_edge g.T.Order.row in
    let found : c.position.result ≡ position_from empty 0 c.args.edges.now =
    position_from_yields_List empty _ _ _ c.position.ensures.ran (YieldsList-from_slice c.args.edges.now (cc)) (λ x b q k. search (rules, tests)) ∙ position_from-zero empty c.args.edges.now in
    search (rules, of_calls, found)
