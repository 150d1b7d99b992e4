use Rattle.std.proofs.Common.{rules, tests, ◌∙◌}
use Rattle.std.proofs.lemmas.Iterator.{YieldsList-from_slice}
use Rattle.std.proofs.lemmas.Iterator.Search.{find_from_yields_List}
use Rattle.values.specs.Releases.{release_row}
use Rattle.ranges.specs.Bounds.{lies}
use Rattle.evaluation.proofs.Walking.{found_leads}
use Rattle.evaluation.proofs.evaluation.choose_version.Goals as goal

pub returns-in-Some : goal.returns-in-Some
returns-in-Some g c =
    let es = c.args.tree.now.edges.now in
    let row = release_row c.get_version-release.result.now in
    let found = find_from_yields_List (λ e. lies release_row e row) _ _ c.find.result c.find.ensures.ran (YieldsList-from_slice es (cc)) (λ x b q k. search (rules, tests)) in
    let leads = found_leads release_row row c.args.tree.now.id.0 es c.find.result found in
    rw (← c.get_version-release.ensures) (c.child.ensures ∙ rw c.in-Some.is at leads)

pub returns-in-None : goal.returns-in-None
returns-in-None g c =
    let es = c.args.tree.now.edges.now in
    let row = release_row c.get_version-release.result.now in
    let found = find_from_yields_List (λ e. lies release_row e row) _ _ c.find.result c.find.ensures.ran (YieldsList-from_slice es (cc)) (λ x b q k. search (rules, tests)) in
    let leads = found_leads release_row row c.args.tree.now.id.0 es c.find.result found in
    rw (← c.get_version-release.ensures) (rw c.in-None.is at leads)
