use Rattle.std.proofs.Common.{◌≡◌, ℕ, List, Ok, Err, Result, Vec, Global, sym, subst, rules}
use Rattle.std.specs.Result.{MatchResult, IsOkAnd}
use Rattle.console.specs.Reading.{Reads}
use Rattle.console.specs.Spelling.{Decimal, IsListWord, IsReleaseWord}
use Rattle.console.specs.declared.words.Unread.{Unread}
use Rattle.console.specs.declared.words.Unread.TheVariants.{Malformed, NoMemory}
use Rattle.console.specs.declared.words.ReleaseWord.{ReleaseWord}
use Rattle.console.proofs.words.ReleaseWordWritten.read.Goals as goal

of_numbers : (word : List ℕ) (r : Result (Vec ℕ Global) Unread) (q : Result ReleaseWord Unread) → Reads (λ vs. IsListWord Decimal 46 word vs.items) r → MatchResult r (λ vs. IsOkAnd q (λ v. v.numbers ≡ vs)) (λ e. q ≡ Err e) → Reads (λ v. IsReleaseWord word v.numbers.items) q
of_numbers word (Ok vs) (Ok v) k h = subst (λ ns. IsListWord Decimal 46 word ns.items) (sym h) k
of_numbers word (Ok vs) (Err e) k h = absurd h
of_numbers word (Err Malformed) q k h = subst (Reads (λ v. IsReleaseWord word v.numbers.items)) (sym h) (λ v w. k v.numbers w)
of_numbers word (Err NoMemory) q k h = subst (Reads (λ v. IsReleaseWord word v.numbers.items)) (sym h) tt

pub returns : goal.returns
returns c = of_numbers c.args.word.now c.read_list.result c.map.result c.read_list.ensures (search rules)
