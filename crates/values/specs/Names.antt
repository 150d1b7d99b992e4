-- Normal names of extras, as PEP 685 has them.
use Rattle.std.specs.Prelude.{◌≡◌, ℕ, ◌+◌, ◌<◌, ◌≤◌, Bool, true, cond, not, ◌&&◌, ◌||◌, ◌⊎◌, List, [], ◌∷◌, length, ◌==◌, ◌≢◌, nat_le, slice_index}
use Rattle.values.specs.Texts.{most_bytes}

abbrev pub hyphen : ℕ
hyphen = 45

-- a lower-case letter or a digit
abbrev pub letter_or_digit : ℕ → Bool
letter_or_digit b = (nat_le 97 b && nat_le b 122) || (nat_le 48 b && nat_le b 57)

-- a byte may come next, where `barred` says that a hyphen may not: at the start and behind a hyphen
abbrev pub may_come_next : Bool → ℕ → Bool
may_come_next barred b = cond (b == hyphen) (not barred) (letter_or_digit b)

-- the rest of a name
abbrev pub normal_rest : Bool → List ℕ → Bool
normal_rest barred [] = not barred
normal_rest barred (b ∷ bs) = may_come_next barred b && normal_rest (b == hyphen) bs

-- THE TEST of a name
unfoldable pub normal_name : List ℕ → Bool
normal_name bs = nat_le (length bs) most_bytes && normal_rest true bs

-- a byte that a name may have
abbrev pub NameByte : ℕ → Type 0
NameByte b = ((97 ≤ b) × (b ≤ 122)) ⊎ (((48 ≤ b) × (b ≤ 57)) ⊎ (b ≡ hyphen))

-- 1 to 64 bytes: lower-case letters, digits and hyphens, no hyphen at either end, and no two together
pub record Normal (bs : List ℕ) : Type 0 where
  pub some : 1 ≤ length bs
  pub few : length bs ≤ most_bytes
  pub bytes : (k : ℕ) → k < length bs → NameByte (slice_index bs k)
  pub begins : slice_index bs 0 ≢ hyphen
  pub ends : (k : ℕ) → k + 1 ≡ length bs → slice_index bs k ≢ hyphen
  pub apart : (k : ℕ) → k + 1 < length bs → slice_index bs k ≡ hyphen → slice_index bs (k + 1) ≢ hyphen
