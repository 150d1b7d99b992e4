use Rattle.std.proofs.Common.{◌≡◌, drop, None}
use Rattle.std.specs.Option.{option_map}
use Rattle.ranges.specs.Cover.{uncovered_from}
use Rattle.ranges.proofs.cover.uncovered_edge.Given as goal

-- the edges that are left decide
abbrev pub invariant-loop-place : goal.invariant-loop-place
invariant-loop-place g l = uncovered_from g.T.Order.row l.place (option_map (λ x. x.now) l.before) (drop l.place l.edges) ≡ uncovered_from g.T.Order.row 0 None l.edges
