use Rattle.std.proofs.Common.{take, ap, arith}
use Rattle.values.specs.Texts.{text_bytes}
use Rattle.values.proofs.texts.Text.as_bytes.Goals as goal

pub returns : goal.returns
unfolding text_bytes
returns c = ap (λ n. take n c.args.self.now.bytes) (omega arith)
