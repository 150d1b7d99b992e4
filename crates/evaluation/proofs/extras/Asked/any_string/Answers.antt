use Rattle.std.proofs.Common.{rules, tests}
use Rattle.std.proofs.lemmas.Iterator.{YieldsList-from_slice}
use Rattle.std.proofs.lemmas.Iterator.Search.{any_from_yields_List}
use Rattle.evaluation.proofs.Asking.{any_seen}
use Rattle.evaluation.proofs.extras.Asked.any_string.Goals as goal

pub returns : goal.returns
returns c = any_seen c.args.tree.now.id.0 _ c.args.tree.now.edges.now _ (any_from_yields_List _ _ _ _ c.any.ensures.ran (YieldsList-from_slice c.args.tree.now.edges.now (cc)) (λ x b q k. search (rules, tests)))
