-- What a step of the code says.
use Rattle.std.specs.Prelude.{◌≡◌, ℕ, Bool, false, List, Option, slice_index_or}
use Rattle.std.specs.Option.{option_copied}
use Rattle.values.specs.declared.releases.Release.{Release}
use Rattle.values.specs.Texts.{text_bytes}
use Rattle.std.specs.declared.ops.ControlFlow.{ControlFlow}
use Rattle.std.specs.declared.ops.ControlFlow.TheVariants.{Break, Continue}
use Rattle.diagrams.specs.declared.ids.NodeId.{NodeId}
use Rattle.diagrams.specs.declared.views.MarkerValueExtra.{MarkerValueExtra}
use Rattle.diagrams.specs.declared.views.MarkerValueExtra.TheVariants.{Extra, Arbitrary}
use Rattle.hosts.specs.Tallies.{Tally, reported}
use Rattle.hosts.specs.declared.warnings.Report.{Report}
use Rattle.evaluation.specs.Walks.{Where, ends, goes}
use Rattle.evaluation.specs.declared.extras.Asked.{Asked}

-- a reporter was given the reports, one by one, and no others
abbrev pub Tells : {R : Type 0} → (R → Tally) → R → R → List Report → Type 0
Tells tally before after reports = tally after ≡ reported (tally before) reports

-- an answer, or the id that a view leads to
abbrev pub shown_step : ControlFlow Bool NodeId → Where
shown_step (Break b) = ends b
shown_step (Continue id) = goes id.0

-- a named extra passes when its name does, one with any text never
abbrev pub name_passes : (List ℕ → Bool) → MarkerValueExtra → Bool
name_passes test (Extra t) = test (text_bytes t.now)
name_passes test (Arbitrary t) = false

-- the releases of Python, where they are known
abbrev pub releases_known : Asked → Option (List Release)
releases_known a = option_copied a.releases

-- what an id that is settled may say
abbrev pub settled : Asked → ℕ → Bool
settled a id = slice_index_or a.table id false
