-- Ids and their negations.
use Rattle.std.proofs.Common.{◌≡◌, ℕ, ◌+◌, ◌*◌, ◌%◌, refl, inl, inr, arith}
use lib.Bits.{bit_and, bit_xor, and_mask, xor_zero_r, xor_add_and}
use Rattle.std.proofs.lemmas.Bool.{cases_eq}
use Rattle.std.proofs.lemmas.Bool.Decides.{nat_tests}
use Rattle.diagrams.specs.Ids.{opposite, turned, Negations}

-- the lowest bit turned under an odd id
pub turn_is : (id c : ℕ) → bit_xor c (bit_and id 1) ≡ turned id c
turn_is id c =
    let m : bit_and id 1 ≡ id % 2 = and_mask id 1 in
    let n : bit_and c 1 ≡ c % 2 = and_mask c 1 in
    elim (cases_eq (id % 2) 0) [
      | inl e ↦ rw (m, e) (xor_zero_r c)
      | inr ne ↦ let e : id % 2 ≡ 1 = omega arith in rw (m, e) (grind (arith, nat_tests, xor_add_and c 1, n))
    ]

twice : (id : ℕ) → opposite (opposite id) ≡ id
twice id = grind (arith, nat_tests)

node : (i : ℕ) → opposite (2 * (i + 1)) ≡ 2 * (i + 1) + 1
node i = grind (arith, nat_tests)

pub negations : Negations
negations = record { twice = twice; true_false = refl; node = node }
