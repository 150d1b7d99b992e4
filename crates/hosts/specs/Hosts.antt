-- What a host means.
use Rattle.std.specs.Prelude.{ℕ, Bool, cond, List, ◌==◌}
use Rattle.values.specs.Keys.{version_number}
use Rattle.values.specs.declared.keys.MarkerValueVersion.{MarkerValueVersion}
use Rattle.values.specs.declared.keys.MarkerValueString.{MarkerValueString}
use Rattle.values.specs.declared.keys.MarkerValueString.TheVariants.{ImplementationName, OsName, OsNameDeprecated, PlatformMachine, PlatformMachineDeprecated, PlatformPythonImplementation, PlatformPythonImplementationDeprecated, PythonImplementationDeprecated, PlatformRelease, PlatformSystem, PlatformVersion, PlatformVersionDeprecated, SysPlatform, SysPlatformDeprecated}
use Rattle.values.specs.declared.releases.Release.{Release}

-- the modern name of a key
abbrev pub modern : MarkerValueString → MarkerValueString
modern ImplementationName = ImplementationName
modern OsName = OsName
modern OsNameDeprecated = OsName
modern PlatformMachine = PlatformMachine
modern PlatformMachineDeprecated = PlatformMachine
modern PlatformPythonImplementation = PlatformPythonImplementation
modern PlatformPythonImplementationDeprecated = PlatformPythonImplementation
modern PythonImplementationDeprecated = PlatformPythonImplementation
modern PlatformRelease = PlatformRelease
modern PlatformSystem = PlatformSystem
modern PlatformVersion = PlatformVersion
modern PlatformVersionDeprecated = PlatformVersion
modern SysPlatform = SysPlatform
modern SysPlatformDeprecated = SysPlatform

-- three releases, a text for each modern key, and the names of active extras
pub record Meaning : Type 0 where
  pub release : MarkerValueVersion → Release
  pub text : MarkerValueString → List ℕ
  pub active : List ℕ → Bool

-- the text of a key, old spellings under their modern names
abbrev pub text_of : Meaning → MarkerValueString → List ℕ
text_of m k = m.text (modern k)

-- the same host with one key's release fixed
abbrev pub overlaid : Meaning → MarkerValueVersion → Release → Meaning
overlaid m key fixed = record { release = λ k. cond (version_number k == version_number key) fixed (m.release k); text = m.text; active = m.active }
