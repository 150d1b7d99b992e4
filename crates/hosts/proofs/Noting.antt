-- Reports one by one.
use Rattle.std.proofs.Common.{◌≡◌, ℕ, ◌+◌, ◌<◌, false, eqb, List, [], ◌∷◌, ◌++◌, length, take, drop, set, refl, arith}
use Rattle.std.proofs.lemmas.List.{take_more_set, drop-set-lt, drop-drop, length-drop}
use Rattle.std.proofs.lemmas.Bool.{ne_eqb}
use Rattle.hosts.specs.Tallies.{Tally, noted, reported, more}
use Rattle.hosts.specs.declared.warnings.Table.{Table}
use Rattle.hosts.specs.declared.warnings.Report.{Report}

-- a report more in a caller's list
pub kept_more : (t t' : Table ℕ) (ps : List Report) (u : ℕ) (r : Report) → u < length ps → t' ≡ more t r.kind
    → ◌≡◌ {A = Tally} (record { counts = t'; kept = take (u + 1) (set ps u r); free = drop (u + 1) (set ps u r) }) (noted (record { counts = t; kept = take u ps; free = drop u ps }) r)
kept_more t t' ps u r lt e =
    let some : eqb (length (drop u ps)) 0 ≡ false = ne_eqb (length (drop u ps)) 0 (λ z. omega (arith, length-drop u ps)) in
    let past : u < u + 1 = omega arith in
    rw (e, take_more_set ps u r lt, drop-set-lt (u + 1) ps u r past, some, drop-drop 1 u ps)

-- some reports and then others
pub reported-append : (t : Tally) (rs ss : List Report) → reported (reported t rs) ss ≡ reported t (rs ++ ss)
reported-append t [] ss = refl
reported-append t (r ∷ rs) ss = reported-append (noted t r) rs ss
