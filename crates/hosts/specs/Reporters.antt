-- What the two reporters mean.
use Rattle.std.specs.Prelude.{[], take, drop}
use Rattle.hosts.specs.Tallies.{Tally, tally_of, numbers}
use Rattle.hosts.specs.declared.reporters.CountingReporter.{CountingReporter}
use Rattle.hosts.specs.declared.keeping.KeepingReporter.{KeepingReporter}

-- one record for each kind, and no places
abbrev pub counting_tally : CountingReporter → Tally
counting_tally s = tally_of (numbers s.counts) [] []

-- one record for each kind, and a caller's list
abbrev pub keeping_tally : KeepingReporter → Tally
keeping_tally s = tally_of (numbers s.counts) (take s.used s.places.now) (drop s.used s.places.now)
