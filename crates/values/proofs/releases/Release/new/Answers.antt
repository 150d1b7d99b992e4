use Rattle.std.proofs.Common.{◌≡◌, ℕ, ltb, length, None, Ok, Err, sym, ◌∙◌, inl, inr, arith}
use Rattle.std.proofs.lemmas.Bool.{eqb-true, eqb-false}
use Rattle.std.specs.List.{position_from}
use Rattle.values.specs.Releases.{largest, made_release}
use Rattle.values.specs.declared.releases.Release.{Release}
use Rattle.values.specs.declared.faults.Fault.TheVariants.{ReleaseCount, NumberTooLarge}
use Rattle.values.proofs.Making.{count_wrong, refused_count, none_large, one_large, release_law}
use Rattle.values.proofs.releases.Release.new.Goals as goal

pub returns-then-is_empty-clause-law : goal.returns-then-is_empty-clause-law
returns-then-is_empty-clause-law c =
    let ns = c.args.numbers.now in
    release_law ns (Err ReleaseCount) (refused_count ns (count_wrong ns (elim c.then-is_empty.either [ inl e ↦ inl (eqb-true (length ns) 0 (sym c.is_empty.ensures ∙ e)) | inr p ↦ inr p.1 ])))

pub returns-in-Some : goal.returns-in-Some
returns-in-Some c =
    let ns = c.args.numbers.now in
    let i : ℕ = c.in-Some.index in
    let some = eqb-false (length ns) 0 (sym c.if-is_empty.ensures) in
    let answer : Err (NumberTooLarge i) ≡ made_release ns = one_large ns i some (omega arith) (sym c.in-Some.ensures) in
    record { answer = answer; law = release_law ns (Err (NumberTooLarge i)) answer }

pub returns : goal.returns
returns c =
    let ns = c.args.numbers.now in
    let some = eqb-false (length ns) 0 (sym c.if-is_empty.ensures) in
    let none : position_from (ltb largest) 0 ns ≡ None = sym c.in_default.ensures in
    let r : Release = record { count = length ns; numbers = c.zero_filled.result } in
    let answer : Ok r ≡ made_release ns = none_large ns c.zero_filled.result some (omega arith) none c.zero_filled.ensures in
    record { answer = answer; law = release_law ns (Ok r) answer }
