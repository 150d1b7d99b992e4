use Rattle.std.proofs.Common.{◌≡◌, Ordering, sym, ap, ◌∙◌, subst}
use Rattle.std.specs.Ordering.{MatchOrdering}
use Rattle.values.specs.Rows.{Row, by_row, Earlier}
use Rattle.values.specs.Texts.{text_bytes}
use Rattle.values.specs.Lines.{row_says, by_words}
use Rattle.values.proofs.texts.TextOrd.cmp.Goals as goal

pub returns : goal.returns
returns c =
    let xs : Row = text_bytes c.args.self.now in
    let ys : Row = text_bytes c.args.other.now in
    let value : c.cmp.result ≡ by_row xs ys =
    row_says c.as_bytes.result.now c.as_bytes-2.result.now c.cmp.result c.cmp.ensures ∙ ap (λ zs. by_row zs c.as_bytes-2.result.now) c.as_bytes.ensures ∙ ap (by_row xs) c.as_bytes-2.ensures in
    record { value = value; words = subst (λ (o : Ordering). MatchOrdering o (Earlier xs ys) (xs ≡ ys) (Earlier ys xs)) (sym value) (by_words xs ys) }
