-- What a reader answers.
use Rattle.std.specs.Prelude.{Ok, Err, Result}
use Rattle.console.specs.declared.words.Unread.{Unread}
use Rattle.console.specs.declared.words.Unread.TheVariants.{Malformed, NoMemory}

-- a value that is written, or that none is, unless memory ran out
abbrev pub Reads : {V : Type 0} → (V → Type 0) → Result V Unread → Type 0
Reads {V} W (Ok v) = W v
Reads {V} W (Err Malformed) = (v : V) → W v → ⊥
Reads {V} W (Err NoMemory) = Unit {0}
