-- Bounds on a line of values, which rows of numbers lie between them, and which ranges are empty.
use Rattle.std.specs.Prelude.{◌≡◌, Bool, true, false, ◌&&◌}
use Rattle.std.specs.Ordering.{is_eq, is_lt, is_le, is_gt, is_ge}
use Rattle.values.specs.Rows.{Row, by_row}
use Rattle.std.specs.declared.ops.Bound.{Bound}
use Rattle.std.specs.declared.ops.Bound.TheVariants.{Unbounded, Included, Excluded}
use Rattle.ranges.specs.declared.edges.Edge.{Edge}

abbrev pub unbounded : {T : Type 0} → Bound T → Bool
unbounded Unbounded = true
unbounded (Included x) = false
unbounded (Excluded x) = false

-- v keeps to a lower bound; `row` says which row of numbers a value means
abbrev pub above : {T : Type 0} → (T → Row) → Bound T → Row → Bool
above row Unbounded v = true
above row (Included x) v = is_ge (by_row v (row x))
above row (Excluded x) v = is_gt (by_row v (row x))

-- v keeps to an upper bound
abbrev pub below : {T : Type 0} → (T → Row) → Bound T → Row → Bool
below row Unbounded v = true
below row (Included x) v = is_le (by_row v (row x))
below row (Excluded x) v = is_lt (by_row v (row x))

-- v lies in an edge's range
abbrev pub lies : {T : Type 0} → (T → Row) → Edge T → Row → Bool
lies row e v = above row e.lower v && below row e.upper v

-- both bounds have values, and the lower is greater, or they are equal and not both included
abbrev pub empty : {T : Type 0} → (T → Row) → Bound T → Bound T → Bool
empty row Unbounded u = false
empty row (Included x) Unbounded = false
empty row (Included x) (Included y) = is_gt (by_row (row x) (row y))
empty row (Included x) (Excluded y) = is_ge (by_row (row x) (row y))
empty row (Excluded x) Unbounded = false
empty row (Excluded x) (Included y) = is_ge (by_row (row x) (row y))
empty row (Excluded x) (Excluded y) = is_ge (by_row (row x) (row y))

abbrev pub empty_edge : {T : Type 0} → (T → Row) → Edge T → Bool
empty_edge row e = empty row e.lower e.upper

-- in an empty range no value lies
abbrev pub HoldsNothing : {T : Type 0} → (T → Row) → Edge T → Type 0
HoldsNothing row e = empty_edge row e ≡ true → (v : Row) → lies row e v ≡ false

-- an upper bound and the next lower bound have one value, one included and one excluded
abbrev pub meet : {T : Type 0} → (T → Row) → Bound T → Bound T → Bool
meet row Unbounded l = false
meet row (Included x) Unbounded = false
meet row (Included x) (Included y) = false
meet row (Included x) (Excluded y) = is_eq (by_row (row x) (row y))
meet row (Excluded x) Unbounded = false
meet row (Excluded x) (Included y) = is_eq (by_row (row x) (row y))
meet row (Excluded x) (Excluded y) = false
