-- The keys of markers: their numbers in a table, and their names in PEP 508.
use Rattle.std.specs.Prelude.{◌≡◌, ℕ, List, [], ◌∷◌, Some, codes, Option}
use Rattle.std.specs.List.{slice_get}
use Rattle.values.specs.declared.keys.MarkerValueVersion.{MarkerValueVersion}
use Rattle.values.specs.declared.keys.MarkerValueVersion.TheVariants.{ImplementationVersion, PythonFullVersion, PythonVersion}
use Rattle.values.specs.declared.keys.MarkerValueString.{MarkerValueString}
use Rattle.values.specs.declared.keys.MarkerValueString.TheVariants.{ImplementationName, OsName, OsNameDeprecated, PlatformMachine, PlatformMachineDeprecated, PlatformPythonImplementation, PlatformPythonImplementationDeprecated, PythonImplementationDeprecated, PlatformRelease, PlatformSystem, PlatformVersion, PlatformVersionDeprecated, SysPlatform, SysPlatformDeprecated}

-- the keys of releases, in the order of their numbers
abbrev pub version_keys : List MarkerValueVersion
version_keys = ImplementationVersion ∷ PythonFullVersion ∷ PythonVersion ∷ []

-- the keys of texts, in the order of their numbers
abbrev pub string_keys : List MarkerValueString
string_keys =
    ImplementationName ∷ OsName ∷ OsNameDeprecated ∷ PlatformMachine ∷ PlatformMachineDeprecated
    ∷ PlatformPythonImplementation ∷ PlatformPythonImplementationDeprecated ∷ PythonImplementationDeprecated
    ∷ PlatformRelease ∷ PlatformSystem ∷ PlatformVersion ∷ PlatformVersionDeprecated ∷ SysPlatform
    ∷ SysPlatformDeprecated ∷ []

-- the key that a number stands for
abbrev pub version_key_of : ℕ → Option MarkerValueVersion
version_key_of n = slice_get version_keys n

abbrev pub string_key_of : ℕ → Option MarkerValueString
string_key_of n = slice_get string_keys n

-- the number that stands for a key
abbrev pub version_number : MarkerValueVersion → ℕ
version_number ImplementationVersion = 0
version_number PythonFullVersion = 1
version_number PythonVersion = 2

abbrev pub string_number : MarkerValueString → ℕ
string_number ImplementationName = 0
string_number OsName = 1
string_number OsNameDeprecated = 2
string_number PlatformMachine = 3
string_number PlatformMachineDeprecated = 4
string_number PlatformPythonImplementation = 5
string_number PlatformPythonImplementationDeprecated = 6
string_number PythonImplementationDeprecated = 7
string_number PlatformRelease = 8
string_number PlatformSystem = 9
string_number PlatformVersion = 10
string_number PlatformVersionDeprecated = 11
string_number SysPlatform = 12
string_number SysPlatformDeprecated = 13

-- each key has one number, and a number stands for the key that has it, or for none
pub record Numbered {K : Type 0} (number : K → ℕ) (key : ℕ → Option K) : Type 0 where
  pub reads : (k : K) → key (number k) ≡ Some k
  pub only : (n : ℕ) (k : K) → key n ≡ Some k → number k ≡ n

-- the name of a key in a marker
abbrev pub version_name : MarkerValueVersion → List ℕ
version_name ImplementationVersion = codes "implementation_version"
version_name PythonFullVersion = codes "python_full_version"
version_name PythonVersion = codes "python_version"

-- the same, old spellings kept
abbrev pub string_name : MarkerValueString → List ℕ
string_name ImplementationName = codes "implementation_name"
string_name OsName = codes "os_name"
string_name OsNameDeprecated = codes "os.name"
string_name PlatformMachine = codes "platform_machine"
string_name PlatformMachineDeprecated = codes "platform.machine"
string_name PlatformPythonImplementation = codes "platform_python_implementation"
string_name PlatformPythonImplementationDeprecated = codes "platform.python_implementation"
string_name PythonImplementationDeprecated = codes "python_implementation"
string_name PlatformRelease = codes "platform_release"
string_name PlatformSystem = codes "platform_system"
string_name PlatformVersion = codes "platform_version"
string_name PlatformVersionDeprecated = codes "platform.version"
string_name SysPlatform = codes "sys_platform"
string_name SysPlatformDeprecated = codes "sys.platform"
