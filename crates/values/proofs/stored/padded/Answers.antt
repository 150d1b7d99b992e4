use Rattle.std.proofs.Common.{◌≡◌, ℕ, ◌-◌, min, List, ◌++◌, length, take, drop, replicate, ap, ◌∙◌, arith, rules}
use Rattle.std.proofs.lemmas.List.{take_min, drop-replicate}
use Rattle.values.proofs.stored.padded.Goals as goal

-- the items that there is room for, and the places behind them
filled : {T : Type 0} (n k : ℕ) (xs ys : List T) (r : T) → k ≡ min n (length xs) → ys ≡ take k xs → ys ++ drop k (replicate n r) ≡ take n xs ++ replicate (n - length xs) r
filled n k xs ys r e h =
    let behind : n - k ≡ n - length xs = omega arith in
    ap (λ zs. zs ++ drop k (replicate n r)) (h ∙ ap (λ m. take m xs) e ∙ take_min n xs)
    ∙ ap (λ zs. take n xs ++ zs) (drop-replicate k n r ∙ ap (λ m. replicate m r) behind)

pub returns : goal.returns
returns g c = filled g.row.N c.min-kept.result c.args.items.now c.copy_from_slice.new.self c.args.rest (omega arith) (search (rules, c.copy_from_slice.ensures.after))
