use Rattle.std.proofs.Common.{◌≡◌, length, Decides, rules, tests, of_calls}
use Rattle.std.specs.Slice.Iter.{windows_size, windows_rest}
use Rattle.evaluation.specs.Substrings.{Within}
use Rattle.evaluation.proofs.Finding.{windows_say, first_and_rest, empty_within, contains_test}
use Rattle.evaluation.proofs.substrings.contains.Goals as goal

pub returns-then-is_empty : goal.returns-then-is_empty
returns-then-is_empty c =
    let none : length c.args.part.now ≡ 0 = search (rules, tests) in
    let law : Decides c.is_empty.result (Within c.args.part.now c.args.text.now) = (λ e. empty_within _ _ none, λ w. c.if-is_empty.true) in
    record { answer = contains_test _ _ _ law; law = law }

pub returns-else-is_empty : goal.returns-else-is_empty
returns-else-is_empty c =
    let h = c.any.ensures.runs in
    let size : windows_size h.0.from ≡ length c.args.part.now = search rules in
    let rest : windows_rest h.0.from ≡ c.args.text.now = search rules in
    let run = c.windows.ensures.runs h.0 h.0.seen (search rules) in
    let law = windows_say c.args.part.now c.args.text.now h.0 (rw (size, rest) at run) _ (λ x b e k. first_and_rest c.args.part.now x.now b e (search (rules, tests))) c.any.result (search (rules, of_calls)) h.2 in
    record { answer = contains_test c.args.part.now c.args.text.now c.any.result law; law = law }
