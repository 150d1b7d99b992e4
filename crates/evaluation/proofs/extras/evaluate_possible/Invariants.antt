use Rattle.std.proofs.Common.{◌≡◌, ℕ, ◌<◌, false, length, get_or}
use Rattle.std.specs.Option.{option_copied}
use Rattle.diagrams.specs.Held.{table_of}
use Rattle.evaluation.specs.Extras.{extras}
use Rattle.evaluation.proofs.extras.evaluate_possible.Given as goal

-- the ids below are settled
abbrev pub invariant-loop-id : goal.invariant-loop-id
invariant-loop-id l = record {
  names : l.asked.names.now ≡ l.names;
  releases : l.asked.releases ≡ l.releases;
  long : length l.asked.table ≡ 8194;
  below : (k : ℕ) → k < l.id → get_or l.asked.table k false ≡ extras l.names (option_copied l.releases) (table_of l.diagram) k;
}
