use Rattle.std.proofs.Common.{◌≡◌, drop}
use Rattle.diagrams.specs.Tables.{held}
use Rattle.diagrams.specs.Admission.{nodes_refusal, first_refusal}
use Rattle.diagrams.proofs.rows.Rows.check.Given as goal

-- the nodes that are left decide
abbrev pub invariant-loop-place : goal.invariant-loop-place
invariant-loop-place l = nodes_refusal l.self.releases.now l.self.texts.now l.place (drop l.place l.self.nodes.now) ≡ first_refusal (held l.self)
