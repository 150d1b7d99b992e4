-- How bounds and edges are made of what was read: the first refusal is the answer.
use Rattle.std.specs.Prelude.{Ok, Err, Result}
use Rattle.std.specs.declared.ops.Bound.{Bound}
use Rattle.std.specs.declared.ops.Bound.TheVariants.{Unbounded, Included, Excluded}
use Rattle.values.specs.declared.faults.Fault.{Fault}
use Rattle.ranges.specs.declared.edges.Edge.{Edge}

-- what follows, unless there is a refusal
abbrev pub then_made : {X Y : Type 0} → Result X Fault → (X → Result Y Fault) → Result Y Fault
then_made (Ok x) f = f x
then_made (Err fault) f = Err fault

module _ {V X : Type 0} (made : V → Result X Fault) where
  abbrev pub made_bound : Bound V → Result (Bound X) Fault
  made_bound Unbounded = Ok Unbounded
  made_bound (Included v) = then_made (made v) (λ x. Ok (Included x))
  made_bound (Excluded v) = then_made (made v) (λ x. Ok (Excluded x))

  -- the lower bound first
  abbrev pub made_edge : Edge V → Result (Edge X) Fault
  made_edge e = then_made (made_bound e.lower) (λ lower. then_made (made_bound e.upper) (λ upper. Ok (record { lower = lower; upper = upper; child = e.child })))
