-- Edges that cover the line: each value lies in exactly one of them.
use Rattle.std.specs.Prelude.{◌≡◌, ℕ, zero, suc, ◌+◌, ◌-◌, ◌<◌, ◌≤◌, Bool, true, false, cond, not, ◌&&◌, ◌⊎◌, List, [], ◌∷◌, length, is_some, Some, None, Option, slice_index_or}
use Rattle.std.specs.List.{list_any, count_by}
use Rattle.values.specs.Rows.{Row}
use Rattle.std.specs.declared.ops.Bound.{Bound}
use Rattle.std.specs.declared.ops.Bound.TheVariants.{Unbounded}
use Rattle.ranges.specs.Bounds.{unbounded, lies, empty_edge, meet}
use Rattle.ranges.specs.declared.edges.Edge.{Edge}

-- the edges behind one with the upper bound u go on from it to the end of the line
abbrev pub go_on : {T : Type 0} → (T → Row) → Bound T → List (Edge T) → Bool
go_on row u [] = unbounded u
go_on row u (e ∷ es) = meet row u e.lower && go_on row e.upper es

-- the first lower and the last upper bound are unbounded, and every other lower bound meets the upper bound before it
abbrev pub cover : {T : Type 0} → (T → Row) → List (Edge T) → Bool
cover row [] = false
cover row (e ∷ es) = unbounded e.lower && go_on row e.upper es

-- THE LAW of ranges: edges that cover the line, of which no range is empty, have each value in exactly one of them
abbrev pub Parted : {T : Type 0} → (T → Row) → List (Edge T) → Type 0
Parted row es = list_any (empty_edge row) es ≡ false → cover row es ≡ true → (v : Row) → count_by (λ e. lies row e v) es ≡ 1

-- a lower bound is right behind the upper bound before it, if there is one
abbrev pub continues : {T : Type 0} → (T → Row) → Option (Bound T) → Bound T → Bool
continues row None l = unbounded l
continues row (Some u) l = meet row u l

-- the line ends behind the last upper bound
abbrev pub closed : {T : Type 0} → Option (Bound T) → Bool
closed None = false
closed (Some u) = unbounded u

-- the first place from j on whose lower bound is wrong behind the bound before it, else the last place, if the last
-- upper bound is wrong
abbrev pub uncovered_from : {T : Type 0} → (T → Row) → ℕ → Option (Bound T) → List (Edge T) → Option ℕ
uncovered_from row j before [] = cond (closed before) None (Some (j - 1))
uncovered_from row j before (e ∷ es) = cond (continues row before e.lower) (uncovered_from row (j + 1) (Some e.upper) es) (Some j)

-- THE PLACE at which edges do not cover the line
abbrev pub uncovered : {T : Type 0} → (T → Row) → List (Edge T) → Option ℕ
uncovered row es = uncovered_from row 0 None es

-- what is read behind the end of a list of edges
abbrev pub no_edge : {T : Type 0} → Edge T
no_edge = record { lower = Unbounded; upper = Unbounded; child = 0 }

-- the upper bound before the edge at a place
abbrev pub before : {T : Type 0} → List (Edge T) → ℕ → Option (Bound T)
before es zero = None
before es (suc j) = Some (slice_index_or es j no_edge).upper

-- the edge at a place does not begin where it has to, or it is the last and ends before the line does
abbrev pub Gap : {T : Type 0} → (T → Row) → List (Edge T) → ℕ → Type 0
Gap row es j = (j < length es) × ((continues row (before es j) (slice_index_or es j no_edge).lower ≡ false) ⊎ ((length es ≡ suc j) × (unbounded (slice_index_or es j no_edge).upper ≡ false)))

-- what the place says: none where the edges cover the line, which then have no gap; else the first gap
pub record Placed {T : Type 0} (row : T → Row) (es : List (Edge T)) (r : Option ℕ) : Type 0 where
  pub covers : is_some r ≡ not (cover row es)
  pub none : r ≡ None → (k : ℕ) → Gap row es k → ⊥
  pub gap : (j : ℕ) → r ≡ Some j → 0 < length es → Gap row es j
  pub first : (j : ℕ) → r ≡ Some j → (k : ℕ) → Gap row es k → j ≤ k
