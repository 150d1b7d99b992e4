-- What a reporter means, and what a report does to it.
use Rattle.std.specs.Prelude.{ℕ, ◌+◌, min, cond, List, [], ◌∷◌, ◌++◌, length, drop, ◌==◌}
use Rattle.hosts.specs.declared.warnings.MarkerWarningKind.{MarkerWarningKind}
use Rattle.hosts.specs.declared.warnings.MarkerWarningKind.TheVariants.{DeprecatedMarkerName, ExtraInvalidComparison, LexicographicComparison, MarkerMarkerComparison, Pep440Error, StringStringComparison}
use Rattle.hosts.specs.declared.warnings.Table.{Table}
use Rattle.hosts.specs.declared.warnings.Report.{Report}
use Rattle.hosts.specs.declared.warnings.Count.{Count}

-- the record of a kind
abbrev pub record_of : {T : Type 0} → Table T → MarkerWarningKind → T
record_of t DeprecatedMarkerName = t.deprecated_marker_name
record_of t ExtraInvalidComparison = t.extra_invalid_comparison
record_of t LexicographicComparison = t.lexicographic_comparison
record_of t MarkerMarkerComparison = t.marker_marker_comparison
record_of t Pep440Error = t.pep440_error
record_of t StringStringComparison = t.string_string_comparison

abbrev pub six : {T : Type 0} → T → T → T → T → T → T → Table T
six a b c d e f = record { deprecated_marker_name = a; extra_invalid_comparison = b; lexicographic_comparison = c; marker_marker_comparison = d; pep440_error = e; string_string_comparison = f }

-- the table with another record for a kind
abbrev pub with_record : {T : Type 0} → Table T → MarkerWarningKind → T → Table T
with_record t DeprecatedMarkerName w = six w t.extra_invalid_comparison t.lexicographic_comparison t.marker_marker_comparison t.pep440_error t.string_string_comparison
with_record t ExtraInvalidComparison w = six t.deprecated_marker_name w t.lexicographic_comparison t.marker_marker_comparison t.pep440_error t.string_string_comparison
with_record t LexicographicComparison w = six t.deprecated_marker_name t.extra_invalid_comparison w t.marker_marker_comparison t.pep440_error t.string_string_comparison
with_record t MarkerMarkerComparison w = six t.deprecated_marker_name t.extra_invalid_comparison t.lexicographic_comparison w t.pep440_error t.string_string_comparison
with_record t Pep440Error w = six t.deprecated_marker_name t.extra_invalid_comparison t.lexicographic_comparison t.marker_marker_comparison w t.string_string_comparison
with_record t StringStringComparison w = six t.deprecated_marker_name t.extra_invalid_comparison t.lexicographic_comparison t.marker_marker_comparison t.pep440_error w

-- the numbers of a table of counts
abbrev pub numbers : Table Count → Table ℕ
numbers t = six t.deprecated_marker_name.raised t.extra_invalid_comparison.raised t.lexicographic_comparison.raised t.marker_marker_comparison.raised t.pep440_error.raised t.string_string_comparison.raised

-- where a count stops
abbrev pub most_counted : ℕ
most_counted = 4294967295

-- one more report of a kind
abbrev pub more : Table ℕ → MarkerWarningKind → Table ℕ
more counts kind = with_record counts kind (min (record_of counts kind + 1) most_counted)

-- a reporter: how often each kind came, the reports that it keeps, in order, and what lies in the places still free
pub record Tally : Type 0 where
  pub counts : Table ℕ
  pub kept : List Report
  pub free : List Report

abbrev pub tally_of : Table ℕ → List Report → List Report → Tally
tally_of c k f = record { counts = c; kept = k; free = f }

-- the numbers in the order of the kinds
abbrev pub listed : Table ℕ → List ℕ
listed t = t.deprecated_marker_name ∷ t.extra_invalid_comparison ∷ t.lexicographic_comparison ∷ t.marker_marker_comparison ∷ t.pep440_error ∷ t.string_string_comparison ∷ []

abbrev pub no_counts : Table ℕ
no_counts = six 0 0 0 0 0 0

-- one report: its kind's count is raised, and it is kept last while a place is free
abbrev pub noted : Tally → Report → Tally
noted t r = record { counts = more t.counts r.kind; kept = cond (length t.free == 0) t.kept (t.kept ++ r ∷ []); free = drop 1 t.free }

-- THE REPORTER after reports, given to it one by one
abbrev pub reported : Tally → List Report → Tally
reported t [] = t
reported t (r ∷ rs) = reported (noted t r) rs
