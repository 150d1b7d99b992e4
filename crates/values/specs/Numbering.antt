-- The numbers of keys.
use Rattle.std.proofs.Common.{◌≡◌, ℕ, zero, suc, ◌+◌, List, [], ◌∷◌, Some, sym, refl, ap, ◌∙◌, arith}
use Rattle.std.specs.List.{slice_get}
use Rattle.values.specs.Keys.{version_keys, version_key_of, version_number, string_keys, string_key_of, string_number, Numbered}
use Rattle.values.specs.declared.keys.MarkerValueVersion.{MarkerValueVersion}
use Rattle.values.specs.declared.keys.MarkerValueVersion.TheVariants.{ImplementationVersion, PythonFullVersion, PythonVersion}
use Rattle.values.specs.declared.keys.MarkerValueString.{MarkerValueString}
use Rattle.values.specs.declared.keys.MarkerValueString.TheVariants.{ImplementationName, OsName, OsNameDeprecated, PlatformMachine, PlatformMachineDeprecated, PlatformPythonImplementation, PlatformPythonImplementationDeprecated, PythonImplementationDeprecated, PlatformRelease, PlatformSystem, PlatformVersion, PlatformVersionDeprecated, SysPlatform, SysPlatformDeprecated}

-- the keys of a list have the numbers from i on, in order
abbrev Listed : {K : Type 0} → (K → ℕ) → ℕ → List K → Type 0
Listed number i [] = Unit {0}
Listed number i (k ∷ ks) = (number k ≡ i) × Listed number (suc i) ks

listed_only : {K : Type 0} (number : K → ℕ) (i : ℕ) (ks : List K) → Listed number i ks → (n : ℕ) (k : K) → slice_get ks n ≡ Some k → number k ≡ i + n
listed_only number i [] l n k e = cc
listed_only number i (k' ∷ ks) l zero k e = let z : i ≡ i + 0 = omega arith in let same : k' ≡ k = cc in ap number (sym same) ∙ l.0 ∙ z
listed_only number i (k' ∷ ks) l (suc n) k e = let z : suc i + n ≡ i + suc n = omega arith in listed_only number (suc i) ks l.1 n k e ∙ z

only : {K : Type 0} (number : K → ℕ) (ks : List K) → Listed number 0 ks → (n : ℕ) (k : K) → slice_get ks n ≡ Some k → number k ≡ n
only number ks l n k e = let z : 0 + n ≡ n = omega arith in listed_only number 0 ks l n k e ∙ z

version_reads : (k : MarkerValueVersion) → version_key_of (version_number k) ≡ Some k
version_reads ImplementationVersion = refl
version_reads PythonFullVersion = refl
version_reads PythonVersion = refl

string_reads : (k : MarkerValueString) → string_key_of (string_number k) ≡ Some k
string_reads ImplementationName = refl
string_reads OsName = refl
string_reads OsNameDeprecated = refl
string_reads PlatformMachine = refl
string_reads PlatformMachineDeprecated = refl
string_reads PlatformPythonImplementation = refl
string_reads PlatformPythonImplementationDeprecated = refl
string_reads PythonImplementationDeprecated = refl
string_reads PlatformRelease = refl
string_reads PlatformSystem = refl
string_reads PlatformVersion = refl
string_reads PlatformVersionDeprecated = refl
string_reads SysPlatform = refl
string_reads SysPlatformDeprecated = refl

pub versions_numbered : Numbered version_number version_key_of
versions_numbered = record { reads = version_reads; only = only version_number version_keys (refl, (refl, (refl, tt))) }

pub strings_numbered : Numbered string_number string_key_of
strings_numbered = record { reads = string_reads; only = only string_number string_keys (refl, (refl, (refl, (refl, (refl, (refl, (refl, (refl, (refl, (refl, (refl, (refl, (refl, (refl, tt)))))))))))))) }
