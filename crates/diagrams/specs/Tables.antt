-- The three lists of a diagram.
use Rattle.std.specs.Prelude.{ℕ, List, [], map, take, drop}
use Rattle.values.specs.declared.releases.Release.{Release}
use Rattle.values.specs.declared.texts.Text.{Text}
use Rattle.ranges.specs.declared.edges.Edge.{Edge}
use Rattle.diagrams.specs.declared.rows.Node.{Node}
use Rattle.diagrams.specs.declared.rows.Rows.{Rows}

pub record Table : Type 0 where
  pub nodes : List Node
  pub releases : List (Edge Release)
  pub texts : List (Edge Text)

abbrev pub table : List Node → List (Edge Release) → List (Edge Text) → Table
table ns rs ts = record { nodes = ns; releases = rs; texts = ts }

-- a node's own part of a list of edges
abbrev pub own : {T : Type 0} → List (Edge T) → Node → List (Edge T)
own es n = take n.count (drop n.first es)

-- the ids that edges lead to, in order
abbrev pub child_ids : {T : Type 0} → List (Edge T) → List ℕ
child_ids es = map (λ e. e.child) es

-- the table of empty lists
abbrev pub no_table : Table
no_table = table [] [] []

-- what is read behind the end of a list of nodes
abbrev pub no_node : Node
no_node = record { kind = 0; key = 0; literal = record { length = 0; bytes = [] }; first = 0; count = 0; high = 0; low = 0 }

-- the table that the code's lists hold
abbrev pub held : Rows → Table
held r = table r.nodes.now r.releases.now r.texts.now
