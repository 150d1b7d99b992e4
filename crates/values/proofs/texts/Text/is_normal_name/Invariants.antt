use Rattle.std.proofs.Common.{◌≡◌, true, drop}
use Rattle.values.specs.Names.{normal_rest}
use Rattle.values.proofs.texts.Text.is_normal_name.Given as goal

-- the bytes that are left decide
abbrev pub invariant-loop-byte : goal.invariant-loop-byte
invariant-loop-byte l = normal_rest l.barred (drop l.byte-index l.byte-items) ≡ normal_rest true l.byte-items
