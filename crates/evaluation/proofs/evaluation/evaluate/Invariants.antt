use Rattle.std.proofs.Common.{◌≡◌}
use Rattle.diagrams.specs.Held.{table_of}
use Rattle.hosts.specs.Tallies.{reported}
use Rattle.evaluation.specs.Walks.{walk}
use Rattle.evaluation.proofs.evaluation.evaluate.Given as goal

-- the walk from here answers and reports what is left of the walk from the root
abbrev pub invariant-loop-kind : goal.invariant-loop-kind
invariant-loop-kind g l =
    ((walk (g.H.Host.means l.host) (table_of l.diagram) l.at.0).answer ≡ (walk (g.H.Host.means l.host) (table_of l.diagram) l.initial.at.0).answer)
    × (reported (g.R.Reporter.tally l.reporter) (walk (g.H.Host.means l.host) (table_of l.diagram) l.at.0).reports ≡ reported (g.R.Reporter.tally l.initial.reporter) (walk (g.H.Host.means l.host) (table_of l.diagram) l.initial.at.0).reports)

abbrev pub decreases-loop-kind : goal.decreases-loop-kind
decreases-loop-kind g l = l.at.0
