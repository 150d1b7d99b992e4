-- The numbers of kinds of nodes.
use Rattle.std.specs.Prelude.{ℕ}
use Rattle.diagrams.specs.declared.kinds.NodeKind.{NodeKind}
use Rattle.diagrams.specs.declared.kinds.NodeKind.TheVariants.{Version, String, In, Contains, Extra, Arbitrary}

abbrev pub kind_number : NodeKind → ℕ
kind_number Version = 0
kind_number String = 1
kind_number In = 2
kind_number Contains = 3
kind_number Extra = 4
kind_number Arbitrary = 5
