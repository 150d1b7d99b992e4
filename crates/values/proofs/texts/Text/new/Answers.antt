use Rattle.std.proofs.Common.{◌≡◌, length, Ok, arith}
use Rattle.values.specs.Texts.{made_text}
use Rattle.values.specs.declared.texts.Text.{Text}
use Rattle.values.proofs.Making.{none_long, text_law}
use Rattle.values.proofs.texts.Text.new.Goals as goal

pub returns : goal.returns
returns c =
    let bs = c.args.bytes.now in
    let t : Text = record { length = length bs; bytes = c.padded.result } in
    let answer : Ok t ≡ made_text bs = none_long bs c.padded.result (omega arith) c.padded.ensures in
    record { answer = answer; law = text_law bs (Ok t) answer }
