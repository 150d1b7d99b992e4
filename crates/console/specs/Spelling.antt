-- What words and lines write.
use Rattle.std.specs.Prelude.{◌≡◌, ℕ, ◌/◌, ◌%◌, ◌^◌, ◌<◌, ◌⊎◌, List, [], ◌∷◌, length, slice_index}
use Rattle.std.specs.Str.Parse.{IsNumeral, digits_value}
use Rattle.std.specs.Char.{digit_char}
use Rattle.std.specs.List.{AllByRecursion}
use Rattle.std.specs.declared.ops.Bound.{Bound}
use Rattle.std.specs.declared.ops.Bound.TheVariants.{Unbounded, Included, Excluded}
use Rattle.console.specs.Cuts.{pieces}

-- a line that answers nothing: its first byte is `#`, or all are blanks
abbrev pub Comment : List ℕ → Type 0
Comment line = (0 < length line) × (slice_index line 0 ≡ 35)

abbrev pub Blank : List ℕ → Type 0
Blank line = (k : ℕ) → k < length line → slice_index line k ≡ 32

abbrev pub Silent : List ℕ → Type 0
Silent line = Comment line ⊎ Blank line

-- the number that decimal digits write, zeros in front allowed
abbrev pub Decimal : List ℕ → ℕ → Type 0
Decimal digits n = (IsNumeral 10 digits × (digits_value 10 digits < 2 ^ 64)) × (n ≡ digits_value 10 digits)

-- words write values, one each
abbrev pub Each : {W V : Type 0} → (W → V → Type 0) → List W → List V → Type 0
Each written [] [] = Unit {0}
Each written [] (v ∷ vs) = ⊥
Each written (w ∷ ws) [] = ⊥
Each written (w ∷ ws) (v ∷ vs) = written w v × Each written ws vs

-- values with a mark between two, or `-` for none
abbrev pub IsListWord : {V : Type 0} → (List ℕ → V → Type 0) → ℕ → List ℕ → List V → Type 0
IsListWord written mark word vs = ((word ≡ 45 ∷ []) × (vs ≡ [])) ⊎ Each written (pieces mark word) vs

-- a release: numbers with `.` between two, or `-` for none
abbrev pub IsReleaseWord : List ℕ → List ℕ → Type 0
IsReleaseWord word ns = IsListWord Decimal 46 word ns

-- a hexadecimal digit in lower case
abbrev pub HexDigit : ℕ → ℕ → Type 0
HexDigit b d = (d < 16) × (b ≡ digit_char d)

-- the two digits of each byte
abbrev pub hex_digits : List ℕ → List ℕ
hex_digits [] = []
hex_digits (b ∷ bs) = digit_char (b / 16) ∷ digit_char (b % 16) ∷ hex_digits bs

abbrev pub HexBytes : List ℕ → List ℕ → Type 0
HexBytes digits bs = (digits ≡ hex_digits bs) × AllByRecursion (λ b. b < 256) bs

-- a text: `x`, and two digits for each byte
abbrev pub IsTextWord : List ℕ → List ℕ → Type 0
IsTextWord word bs = (word ≡ 120 ∷ hex_digits bs) × AllByRecursion (λ b. b < 256) bs

-- a bound: `*`, or `[` or `(` and a value
abbrev pub BoundWord : {V : Type 0} → (List ℕ → V → Type 0) → List ℕ → Bound V → Type 0
BoundWord written word Unbounded = word ≡ 42 ∷ []
BoundWord written word (Included v) = (rest : List ℕ) × (word ≡ 91 ∷ rest) × written rest v
BoundWord written word (Excluded v) = (rest : List ℕ) × (word ≡ 40 ∷ rest) × written rest v
