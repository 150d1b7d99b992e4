-- The record of a host: what it stores, what it means, and how one is made.
use Rattle.std.specs.Borrow.{Bor}
use Rattle.std.specs.Prelude.{ℕ, Bool, cond, not, List, length, take, Some, None, Ok, Err, Option, Result, nat_lt}
use Rattle.std.specs.Option.{option_map, option_or}
use Rattle.std.specs.Ordering.{is_eq}
use Rattle.std.specs.List.{list_any, position_from}
use Rattle.values.specs.Rows.{by_row}
use Rattle.values.specs.Texts.{text_bytes}
use Rattle.values.specs.Names.{normal_name}
use Rattle.values.specs.Faults.{unless_refused}
use Rattle.values.specs.declared.faults.Fault.{Fault}
use Rattle.values.specs.declared.faults.Fault.TheVariants.{HostTextTooLong, NameNotNormal}
use Rattle.values.specs.declared.keys.MarkerValueVersion.{MarkerValueVersion}
use Rattle.values.specs.declared.keys.MarkerValueVersion.TheVariants.{ImplementationVersion, PythonFullVersion, PythonVersion}
use Rattle.values.specs.declared.keys.MarkerValueString.{MarkerValueString}
use Rattle.values.specs.declared.keys.MarkerValueString.TheVariants.{ImplementationName, OsName, OsNameDeprecated, PlatformMachine, PlatformMachineDeprecated, PlatformPythonImplementation, PlatformPythonImplementationDeprecated, PythonImplementationDeprecated, PlatformRelease, PlatformSystem, PlatformVersion, PlatformVersionDeprecated, SysPlatform, SysPlatformDeprecated}
use Rattle.values.specs.declared.releases.Release.{Release}
use Rattle.values.specs.declared.texts.Text.{Text}
use Rattle.hosts.specs.Hosts.{Meaning}
use Rattle.hosts.specs.declared.records.HostBytes.{HostBytes}
use Rattle.hosts.specs.declared.records.Fields.{Fields}
use Rattle.hosts.specs.declared.records.Record.{Record}

-- how many bytes a host's text has at most
abbrev pub most_host_bytes : ℕ
most_host_bytes = 255

-- the bytes of a text that a record owns
unfoldable pub host_bytes : HostBytes → List ℕ
host_bytes h = take h.length h.bytes

-- two names are one, byte for byte
abbrev pub same_name : List ℕ → List ℕ → Bool
same_name a b = is_eq (by_row a b)

-- a name is among names
abbrev pub among : List Text → List ℕ → Bool
among names n = list_any (λ t. same_name (text_bytes t) n) names

-- three releases, by their keys
abbrev pub release_at : Release → Release → Release → MarkerValueVersion → Release
release_at a b c ImplementationVersion = a
release_at a b c PythonFullVersion = b
release_at a b c PythonVersion = c

-- eight texts, by their keys
abbrev pub text_at : List ℕ → List ℕ → List ℕ → List ℕ → List ℕ → List ℕ → List ℕ → List ℕ → MarkerValueString → List ℕ
text_at a b c d e f g h ImplementationName = a
text_at a b c d e f g h OsName = b
text_at a b c d e f g h OsNameDeprecated = b
text_at a b c d e f g h PlatformMachine = c
text_at a b c d e f g h PlatformMachineDeprecated = c
text_at a b c d e f g h PlatformPythonImplementation = d
text_at a b c d e f g h PlatformPythonImplementationDeprecated = d
text_at a b c d e f g h PythonImplementationDeprecated = d
text_at a b c d e f g h PlatformRelease = e
text_at a b c d e f g h PlatformSystem = f
text_at a b c d e f g h PlatformVersion = g
text_at a b c d e f g h PlatformVersionDeprecated = g
text_at a b c d e f g h SysPlatform = h
text_at a b c d e f g h SysPlatformDeprecated = h

-- what fields and names mean, where `bytes` says what a text is
abbrev pub meaning_of : {T : Type 0} → (T → List ℕ) → Fields T → List Text → Meaning
meaning_of bytes f names = record {
  release = release_at f.implementation_version f.python_full_version f.python_version;
  text = text_at (bytes f.implementation_name) (bytes f.os_name) (bytes f.platform_machine) (bytes f.platform_python_implementation) (bytes f.platform_release) (bytes f.platform_system) (bytes f.platform_version) (bytes f.sys_platform);
  active = among names;
}

-- what is kept of a text that is lent
abbrev pub kept_bytes : Bor (List ℕ) → List ℕ
kept_bytes t = take most_host_bytes t.now

-- what lent fields and names mean
abbrev pub fields_meaning : Fields (Bor (List ℕ)) → List Text → Meaning
fields_meaning f names = meaning_of (λ t. t.now) f names

-- what a record means
abbrev pub record_meaning : Record → Meaning
record_meaning r = meaning_of host_bytes r.fields r.names.now

-- 15: the text of the field at an index is too long
abbrev pub text_refusal : ℕ → List ℕ → Option Fault
text_refusal i bs = cond (nat_lt most_host_bytes (length bs)) (Some (HostTextTooLong i)) None

-- 15, of the first field in the order of the eleven
abbrev pub texts_refusal : Fields (Bor (List ℕ)) → Option Fault
texts_refusal f =
    option_or (text_refusal 0 f.implementation_name.now)
    (option_or (text_refusal 2 f.os_name.now)
    (option_or (text_refusal 3 f.platform_machine.now)
    (option_or (text_refusal 4 f.platform_python_implementation.now)
    (option_or (text_refusal 5 f.platform_release.now)
    (option_or (text_refusal 6 f.platform_system.now)
    (option_or (text_refusal 7 f.platform_version.now)
    (text_refusal 10 f.sys_platform.now)))))))

-- 16: the first name that is not normal
abbrev pub names_refusal : List Text → Option Fault
names_refusal names = option_map (λ i. NameNotNormal i) (position_from (λ t. not (normal_name (text_bytes t))) 0 names)

-- THE ANSWER of making a record: it means just what it was made from
abbrev pub made_record : Fields (Bor (List ℕ)) → List Text → Result Meaning Fault
made_record f names = unless_refused (option_or (texts_refusal f) (names_refusal names)) (fields_meaning f names)

-- what an answer of the code means
abbrev pub meant : Result Record Fault → Result Meaning Fault
meant (Ok r) = Ok (record_meaning r)
meant (Err f) = Err f
