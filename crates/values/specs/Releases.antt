-- Releases: what a stored one means, how one is made, and their order in plain words.
use Rattle.std.specs.Prelude.{◌≡◌, ℕ, ◌-◌, ◌<◌, ◌≤◌, min, max, Bool, cond, ◌||◌, ◌⊎◌, List, ◌++◌, map, length, take, replicate, Some, None, Ok, Err, Option, Result, ◌==◌, nat_lt, slice_index}
use Rattle.std.specs.List.{position_from}
use Rattle.values.specs.Rows.{Row}
use Rattle.values.specs.declared.faults.Fault.{Fault}
use Rattle.values.specs.declared.faults.Fault.TheVariants.{ReleaseCount, NumberTooLarge}
use Rattle.values.specs.declared.releases.Release.{Release}

-- the largest number of a release
abbrev pub largest : ℕ
largest = 18446744073709551614

-- how many numbers a release has at most
abbrev pub most_numbers : ℕ
most_numbers = 8

-- how many numbers are written: a stored count outside 1 to 8 is read as the nearest of these
abbrev pub release_count : Release → ℕ
release_count r = max (min r.count most_numbers) 1

-- the numbers as written: a stored number above the largest is read as the largest
unfoldable pub release_numbers : Release → List ℕ
release_numbers r = map (λ n. min n largest) (take (release_count r) r.numbers)

-- the number at a place, 0 behind those that are written
abbrev pub number : Release → ℕ → ℕ
number r k = slice_index (release_numbers r) k

-- the numbers filled up with zeros
unfoldable pub release_row : Release → Row
release_row r = release_numbers r ++ replicate (most_numbers - length (release_numbers r)) 0

-- ORDER. Two releases are the same when their numbers are, zeros filled in
abbrev pub Same : Release → Release → Type 0
Same a b = (k : ℕ) → number a k ≡ number b k

-- a comes before b: the first number in which they differ, zeros filled in, is smaller in a
pub record Before (a b : Release) : Type 0 where
  pub at : ℕ
  pub agree : (k : ℕ) → k < at → number a k ≡ number b k
  pub less : number a at < number b at

-- MAKING. A release of the numbers, as it is stored
abbrev pub stored_release : List ℕ → Release
stored_release ns = record { count = length ns; numbers = ns ++ replicate (most_numbers - length ns) 0 }

abbrev pub wrong_count : List ℕ → Bool
wrong_count ns = length ns == 0 || nat_lt most_numbers (length ns)

abbrev pub unless_large : List ℕ → Option ℕ → Result Release Fault
unless_large ns None = Ok (stored_release ns)
unless_large ns (Some i) = Err (NumberTooLarge i)

-- THE ANSWER of making a release from a list of numbers
abbrev pub made_release : List ℕ → Result Release Fault
made_release ns = cond (wrong_count ns) (Err ReleaseCount) (unless_large ns (position_from (nat_lt largest) 0 ns))

-- the refusals that are right for a list of numbers, and where
pub data RefusedRelease (ns : List ℕ) : Fault → Type 0 where
  count : (length ns ≡ 0) ⊎ (most_numbers < length ns) → RefusedRelease ns ReleaseCount
  large : (i : ℕ) → 1 ≤ length ns → length ns ≤ most_numbers → i < length ns → largest < slice_index ns i → ((k : ℕ) → k < i → slice_index ns k ≤ largest) → RefusedRelease ns (NumberTooLarge i)

-- a release that is made has exactly the numbers given, and a refusal names what is wrong with them
abbrev pub MakesRelease : List ℕ → Result Release Fault → Type 0
MakesRelease ns (Ok r) = release_numbers r ≡ ns
MakesRelease ns (Err f) = RefusedRelease ns f
