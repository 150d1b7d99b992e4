use Rattle.std.proofs.Common.{sym, ◌∙◌}
use Rattle.diagrams.specs.Held.{table_of}
use Rattle.diagrams.specs.Views.{shown_kind}
use Rattle.evaluation.proofs.Walking.{answer_end, leads_down}
use Rattle.evaluation.proofs.evaluation.evaluate.Goals as goal

pub returns-in-Break-clause-answer : goal.returns-in-Break-clause-answer
returns-in-Break-clause-answer g c = answer_end (g.H.Host.means c.args.host.now) (table_of c.args.diagram.now) c.args.diagram.now.admitted c.loop-kind.at.0 (shown_kind c.in_ok-kind.kind) c.in-Break.answer (sym c.in_ok-kind.ensures.answer) (sym c.in-Break.ensures.step) ∙ c.loop-kind.invariant.0

pub loop-kind-smaller : goal.loop-kind-smaller
loop-kind-smaller g c = leads_down (g.H.Host.means c.args.host.now) (table_of c.args.diagram.now) c.args.diagram.now.admitted c.loop-kind.at.0 (shown_kind c.in_ok-kind.kind) c.in-Continue.child.0 (sym c.in_ok-kind.ensures.answer) (sym c.in-Continue.ensures.step)
