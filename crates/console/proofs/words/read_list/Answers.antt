use Rattle.std.proofs.Common.{sym, ◌∙◌}
use Rattle.std.proofs.lemmas.Slice.Eq.{slice_eq-Decides}
use Rattle.std.proofs.lemmas.Bool.Decides.{not_from_Decides, Decides-eqb}
use Rattle.console.proofs.Pieces.{list_read}
use Rattle.console.proofs.words.read_list.Goals as goal

pub returns : goal.returns
returns g c =
    list_read g.V.Written.written c.args.mark c.args.word.now c.split.result c.read_all.result
    (λ e. not_from_Decides _ (slice_eq-Decides Decides-eqb _ _ _ c.eq.ensures) c.if-eq.false (e ∙ sym c.as_slice.ensures))
    c.split.ensures.whole c.split.ensures.mark c.read_all.ensures
