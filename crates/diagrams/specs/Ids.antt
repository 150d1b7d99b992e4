-- Ids: 0 is TRUE, 1 is FALSE, 2(i + 1) is the node at place i, and an odd id negates the even one below it.
use Rattle.std.specs.Prelude.{◌≡◌, ℕ, ◌+◌, ◌-◌, ◌*◌, ◌%◌, Bool, cond, ◌==◌}

abbrev pub odd : ℕ → Bool
odd id = id % 2 == 1

-- the id of the negation
abbrev pub opposite : ℕ → ℕ
opposite id = cond (odd id) (id - 1) (id + 1)

-- a child's id as it is seen under the id of its node
abbrev pub turned : ℕ → ℕ → ℕ
turned id child = cond (odd id) (opposite child) child

-- negating twice changes nothing, and TRUE and FALSE, and the two ids of a node, are each other's negations
pub record Negations : Type 0 where
  pub twice : (id : ℕ) → opposite (opposite id) ≡ id
  pub true_false : opposite 0 ≡ 1
  pub node : (i : ℕ) → opposite (2 * (i + 1)) ≡ 2 * (i + 1) + 1
