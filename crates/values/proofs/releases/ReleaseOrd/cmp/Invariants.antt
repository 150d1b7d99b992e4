use Rattle.std.proofs.Common.{◌≡◌, drop}
use Rattle.values.specs.Rows.{by_row}
use Rattle.values.specs.Releases.{release_row}
use Rattle.values.proofs.releases.ReleaseOrd.cmp.Given as goal

-- the numbers that are left decide
abbrev pub invariant-loop-place : goal.invariant-loop-place
invariant-loop-place l = by_row (drop l.place (release_row l.self)) (drop l.place (release_row l.other)) ≡ by_row (release_row l.self) (release_row l.other)
