use Rattle.std.proofs.Common.{◌∙◌, arith}
use Rattle.values.proofs.Written.{number_within, number_past}
use Rattle.values.proofs.releases.Release.number.Goals as goal

pub returns-then-place-written : goal.returns-then-place-written
returns-then-place-written c = c.min.ensures ∙ number_within c.args.self.now c.args.place (omega arith) (omega arith)

pub returns-else-place-written : goal.returns-else-place-written
returns-else-place-written c = number_past c.args.self.now c.args.place (omega arith)
