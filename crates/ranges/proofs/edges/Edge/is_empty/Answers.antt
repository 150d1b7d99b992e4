use Rattle.ranges.proofs.Parting.{holds_nothing}
use Rattle.ranges.proofs.edges.Edge.is_empty.Goals as goal

pub returns : goal.returns
returns g c = record { answer = c.are_empty.ensures; law = holds_nothing g.T.Order.row c.args.self.now }
