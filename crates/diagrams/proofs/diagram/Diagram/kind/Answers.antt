use Rattle.std.proofs.Common.{◌≡◌, ℕ, ◌-◌, ◌/◌, get_or, rules}
use Rattle.diagrams.specs.Held.{table_of}
use Rattle.diagrams.specs.Tables.{Table, no_node}
use Rattle.diagrams.specs.Rules.{SoundNode}
use Rattle.diagrams.proofs.Lawful.{sound}
use Rattle.diagrams.proofs.Viewing.{view_shows}
use Rattle.diagrams.proofs.diagram.Diagram.kind.Goals as goal

pub node_kind-requires : goal.node_kind-requires
node_kind-requires c =
    let t : Table = table_of c.args.self.now in
    let i : ℕ = c.args.id.0 / 2 - 1 in
    let e : c.in_ok-node.node.now ≡ get_or t.nodes i no_node = search rules in
    let s : SoundNode t i (get_or t.nodes i no_node) = (sound t c.args.self.now.admitted).node i (search rules) in
    (i, rw e s)

pub returns-clause-law : goal.returns-clause-law
returns-clause-law c = view_shows (table_of c.args.self.now) c.args.self.now.admitted c.args.id.0
