use Rattle.std.proofs.Common.{◌≡◌, Some, None, Option, List, refl, rules, tests}
use Rattle.std.proofs.lemmas.Iterator.{YieldsList-from_slice}
use Rattle.std.proofs.lemmas.Iterator.Search.{any_from_yields_List}
use Rattle.values.specs.declared.keys.MarkerValueVersion.{MarkerValueVersion}
use Rattle.values.specs.declared.keys.MarkerValueVersion.TheVariants.{ImplementationVersion, PythonFullVersion, PythonVersion}
use Rattle.values.specs.declared.releases.Release.{Release}
use Rattle.ranges.specs.declared.edges.Edge.{Edge}
use Rattle.diagrams.specs.Views.{seen}
use Rattle.evaluation.specs.Extras.{counts}
use Rattle.evaluation.proofs.Asking.{any_seen}
use Rattle.evaluation.proofs.extras.Asked.any_version.Goals as goal

-- the id under which an edge is seen does not matter to its range
counts-seen : (rs : Option (List Release)) (k : MarkerValueVersion) (id : _) (e : Edge Release) → counts rs k (seen id e) ≡ counts rs k e
counts-seen None k id e = refl
counts-seen (Some rs) ImplementationVersion id e = refl
counts-seen (Some rs) PythonFullVersion id e = refl
counts-seen (Some rs) PythonVersion id e = refl

pub returns : goal.returns
returns c = any_seen c.args.tree.now.id.0 _ c.args.tree.now.edges.now _ (any_from_yields_List _ _ _ _ c.any.ensures.ran (YieldsList-from_slice c.args.tree.now.edges.now (cc)) (λ x b q k. search (rules, tests, counts-seen)))
