use Rattle.std.proofs.Common.{◌≡◌, map, drop}
use Rattle.values.specs.Texts.{text_bytes}
use Rattle.diagrams.specs.Views.{seen}
use Rattle.hosts.specs.Tallies.{reported}
use Rattle.evaluation.specs.Walks.{chosen, examined}
use Rattle.evaluation.proofs.evaluation.choose_string.Given as goal

-- the edges that are left decide, and what they report is still to come
abbrev pub invariant-loop-edge : goal.invariant-loop-edge
invariant-loop-edge g l =
    (chosen text_bytes l.text.bytes.now (map (seen l.tree.id.0) (drop l.edge-index l.edge-items)) ≡ chosen text_bytes l.text.bytes.now (map (seen l.tree.id.0) l.edge-items))
    × (reported (g.R.Reporter.tally l.reporter) (examined l.tree.key l.text.bytes.now (map (seen l.tree.id.0) (drop l.edge-index l.edge-items))) ≡ reported (g.R.Reporter.tally l.initial.reporter) (examined l.tree.key l.text.bytes.now (map (seen l.tree.id.0) l.edge-items)))
