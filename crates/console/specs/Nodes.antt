-- How a node is made of what was read.
use Rattle.std.specs.Prelude.{Ok, vec_items, Result}
use Rattle.values.specs.Texts.{made_text}
use Rattle.values.specs.declared.faults.Fault.{Fault}
use Rattle.diagrams.specs.declared.rows.Node.{Node}
use Rattle.console.specs.Making.{then_made}
use Rattle.console.specs.declared.table_command.NodeWords.{NodeWords}

abbrev pub made_node : NodeWords → Result Node Fault
made_node n =
    then_made (made_text (vec_items n.literal.bytes)) (
    λ literal. Ok (record { kind = n.kind; key = n.key; literal = literal; first = n.first; count = n.count; high = n.high; low = n.low })
    )
