use Rattle.std.proofs.Common.{rules}
use Rattle.diagrams.proofs.Lawful.{sound}
use Rattle.diagrams.proofs.diagram.Diagram.admit.Goals as goal

pub returns-clause-sound : goal.returns-clause-sound
returns-clause-sound c = sound _ (search rules)
