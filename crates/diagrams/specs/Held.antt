-- The table that an admitted diagram holds.
use Rattle.diagrams.specs.Tables.{Table, held}
use Rattle.diagrams.specs.declared.diagram.Diagram.{Diagram}

abbrev pub table_of : Diagram → Table
table_of d = held d.rows
