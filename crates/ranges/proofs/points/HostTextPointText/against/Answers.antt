use Rattle.std.proofs.Common.{ap, ◌∙◌}
use Rattle.values.specs.Rows.{by_row}
use Rattle.values.specs.Lines.{row_says}
use Rattle.ranges.proofs.points.HostTextPointText.against.Goals as goal

pub returns : goal.returns
returns c = row_says c.args.self.now.bytes.now c.as_bytes.result.now c.cmp.result c.cmp.ensures ∙ ap (by_row c.args.self.now.bytes.now) c.as_bytes.ensures
