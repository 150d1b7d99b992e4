use Rattle.std.proofs.Common.{◌<◌, length, rules}
use Rattle.diagrams.proofs.Checks.{others}
use Rattle.diagrams.proofs.admission.differ.Goals as goal

pub returns-in-len1-up : goal.returns-in-len1-up
returns-in-len1-up g c =
    let some : 0 < length c.args.edges.now = search rules in
    others c.args.edges.now c.first-item.result some c.first-item.is c.leads_elsewhere.ensures
