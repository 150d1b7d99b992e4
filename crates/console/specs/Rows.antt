-- How a row is entered: appended where it was made, and else nothing is.
use Rattle.std.specs.Prelude.{◌≡◌, List, [], ◌∷◌, ◌++◌, Ok, Err, Result}
use Rattle.values.specs.declared.faults.Fault.{Fault}
use Rattle.console.specs.declared.stop.Stop.{Stop}
use Rattle.console.specs.declared.stop.Stop.TheVariants.{Refused, NotNow, Failed}

-- the command stopped, and not by a refusal or for the console's state
abbrev pub Failing : Stop → Type 0
Failing (Refused fault) = ⊥
Failing NotNow = ⊥
Failing (Failed error) = Unit {0}

-- what is behind the rows before, where a row was to be added
abbrev pub Appends : {X U : Type 0} → Result X Fault → List X → List X → Result U Stop → Type 0
Appends {X} made before after (Ok u) = (x : X) × (made ≡ Ok x) × (after ≡ before ++ (x ∷ []))
Appends made before after (Err (Refused fault)) = (made ≡ Err fault) × (after ≡ before)
Appends made before after (Err NotNow) = ⊥
Appends made before after (Err (Failed error)) = after ≡ before
