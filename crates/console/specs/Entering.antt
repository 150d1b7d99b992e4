-- How a row that was read is entered: it is made and appended to the rows of its kind, and the others stay.
use Rattle.std.specs.Prelude.{◌≡◌, vec_items, Result}
use Rattle.values.specs.Releases.{made_release}
use Rattle.values.specs.Texts.{made_text}
use Rattle.console.specs.Making.{made_edge}
use Rattle.console.specs.Nodes.{made_node}
use Rattle.console.specs.Rows.{Appends}
use Rattle.console.specs.declared.stop.Stop.{Stop}
use Rattle.console.specs.declared.table.Table.{Table}
use Rattle.console.specs.declared.table_command.RowWords.{RowWords}
use Rattle.console.specs.declared.table_command.RowWords.TheVariants.{Node, ReleaseEdge, TextEdge}

abbrev pub Enters : RowWords → Table → Table → Result (Unit {0}) Stop → Type 0
Enters (Node words) before after r =
    Appends (made_node words) (vec_items before.nodes) (vec_items after.nodes) r × (after.releases ≡ before.releases) × (after.texts ≡ before.texts)
Enters (ReleaseEdge edge) before after r =
    Appends (made_edge (λ w. made_release (vec_items w.numbers)) edge) (vec_items before.releases) (vec_items after.releases) r × (after.nodes ≡ before.nodes) × (after.texts ≡ before.texts)
Enters (TextEdge edge) before after r =
    Appends (made_edge (λ w. made_text (vec_items w.bytes)) edge) (vec_items before.texts) (vec_items after.texts) r × (after.nodes ≡ before.nodes) × (after.releases ≡ before.releases)
