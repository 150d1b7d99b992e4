-- Refusals: the number, the layer and the two places of each.
use Rattle.std.specs.Prelude.{ℕ, Some, None, Ok, Err, Option, Result}
use Rattle.values.specs.declared.faults.Fault.{Fault}
use Rattle.values.specs.declared.faults.Layer.{Layer}
use Rattle.values.specs.declared.faults.Layer.TheVariants.{Value, Edge, Node, Call}
use Rattle.values.specs.declared.faults.Fault.TheVariants.{ReleaseCount, NumberTooLarge, TextTooLong, TooManyNodes, UnknownKind, KeyOutOfRange, ExtraNotNormal, EdgeCount, EdgesPastEnd, ChildTooLarge, EmptyRange, Uncovered, OneChild, UnknownId, HostTextTooLong, NameNotNormal, PathFull, ClausesFull}

pub record Refusal : Type 0 where
  pub number : ℕ
  -- 1 value, 2 edge, 3 node, 4 call
  pub layer : ℕ
  pub first : ℕ
  pub second : ℕ

abbrev pub refused : ℕ → ℕ → ℕ → ℕ → Refusal
refused n l i j = record { number = n; layer = l; first = i; second = j }

-- the number of a layer
abbrev pub layer_number : Layer → ℕ
layer_number Value = 1
layer_number Edge = 2
layer_number Node = 3
layer_number Call = 4

-- the number, layer and places that each case stands for
abbrev pub refusal : Fault → Refusal
refusal ReleaseCount = refused 1 1 0 0
refusal (NumberTooLarge i) = refused 2 1 i 0
refusal TextTooLong = refused 3 1 0 0
refusal TooManyNodes = refused 4 3 0 0
refusal (UnknownKind i) = refused 5 3 i 0
refusal (KeyOutOfRange i) = refused 6 3 i 0
refusal (ExtraNotNormal i) = refused 7 3 i 0
refusal (EdgeCount i) = refused 8 3 i 0
refusal (EdgesPastEnd i) = refused 9 3 i 0
refusal (ChildTooLarge i j) = refused 10 2 i j
refusal (EmptyRange i j) = refused 11 2 i j
refusal (Uncovered i j) = refused 12 2 i j
refusal (OneChild i) = refused 13 3 i 0
refusal UnknownId = refused 14 4 0 0
refusal (HostTextTooLong i) = refused 15 4 i 0
refusal (NameNotNormal i) = refused 16 4 i 0
refusal PathFull = refused 17 4 0 0
refusal ClausesFull = refused 18 4 0 0

-- what a call answers: its result, unless it is refused
abbrev pub unless_refused : {A : Type 0} → Option Fault → A → Result A Fault
unless_refused None x = Ok x
unless_refused (Some f) x = Err f

-- the same, of a call that answers nothing else
abbrev pub answer : Option Fault → Result (Unit {0}) Fault
answer o = unless_refused o tt
