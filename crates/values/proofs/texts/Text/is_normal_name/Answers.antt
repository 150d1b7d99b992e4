use Rattle.std.proofs.Common.{◌≡◌, ℕ, Bool, true, false, not, List, Decides, sym, ap, ◌∙◌}
use Rattle.std.proofs.lemmas.List.{at_drop_all}
use Rattle.std.proofs.lemmas.Bool.Decides.{Decides-at}
use Rattle.values.specs.Texts.{text_bytes}
use Rattle.values.specs.Names.{normal_rest, normal_name, Normal}
use Rattle.values.specs.declared.texts.Text.{Text}
use Rattle.values.proofs.Naming.{normal_says, text_named, rest_more}
use Rattle.values.proofs.texts.Text.is_normal_name.Goals as goal

-- the answer for the bytes is the answer for the text
named : (t : Text) (bs : List ℕ) (r : Bool) → bs ≡ text_bytes t → r ≡ normal_rest true bs → r ≡ normal_name (text_bytes t)
named t bs r e h = h ∙ ap (normal_rest true) e ∙ sym (text_named t)

decided : (t : Text) (r : Bool) → r ≡ normal_name (text_bytes t) → Decides r (Normal (text_bytes t))
decided t r e = Decides-at r (normal_name (text_bytes t)) e (normal_says (text_bytes t))

pub returns-then-not-may_come : goal.returns-then-not-may_come
returns-then-not-may_come c =
    let t = c.args.self.now in
    let bs : List ℕ = c.as_bytes-byte-items.result.now in
    let stops = rest_more c.loop-byte.barred bs c.loop-byte.byte-index false c.loop-byte-test.true c.if-not-may_come.ensures in
    let answer : false ≡ normal_name (text_bytes t) = named t bs false c.as_bytes-byte-items.ensures (sym stops ∙ c.loop-byte.invariant) in
    record { answer = answer; law = decided t false answer }

pub returns : goal.returns
returns c =
    let t = c.args.self.now in
    let bs : List ℕ = c.as_bytes-byte-items.result.now in
    let r : Bool = not c.loop-byte.barred in
    let ends = at_drop_all (normal_rest c.loop-byte.barred) bs c.loop-byte.byte-index c.loop-byte-test.false in
    let answer : r ≡ normal_name (text_bytes t) = named t bs r c.as_bytes-byte-items.ensures (sym ends ∙ c.loop-byte.invariant) in
    record { answer = answer; law = decided t r answer }
