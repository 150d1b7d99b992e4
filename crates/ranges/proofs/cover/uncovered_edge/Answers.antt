use Rattle.std.proofs.Common.{◌≡◌, ℕ, ◌+◌, ◌-◌, ◌<◌, ◌≤◌, Bool, true, false, cond, List, length, get_or, drop, Some, None, Option, sym, ap, ◌∙◌, arith}
use Rattle.std.specs.Option.{option_map}
use Rattle.std.proofs.lemmas.List.{at_drop_all}
use Rattle.values.specs.Rows.{Row}
use Rattle.std.specs.declared.ops.Bound.{Bound}
use Rattle.ranges.specs.Cover.{continues, closed, uncovered_from, uncovered}
use Rattle.ranges.specs.declared.edges.Edge.{Edge}
use Rattle.ranges.proofs.Steps.{at_read}
use Rattle.ranges.proofs.Parting.{parted}
use Rattle.ranges.proofs.Gaps.{placed, step}
use Rattle.ranges.proofs.cover.uncovered_edge.Goals as goal

-- one turn, at an edge that continues or not
turn : {T : Type 0} (row : T → Row) (es : List (Edge T)) (i : ℕ) (b : Option (Bound T)) (e : Edge T) (t : Bool) → i < length es → e ≡ get_or es i e → t ≡ continues row b e.lower → cond t (uncovered_from row (i + 1) (Some e.upper) (drop (i + 1) es)) (Some i) ≡ uncovered_from row i b (drop i es)
turn row es i b e t lt is h = sym (at_read (uncovered_from row i b) es i e lt is ∙ step row i b e (drop (i + 1) es) t h)

-- behind the last edge
end : {T : Type 0} (row : T → Row) (es : List (Edge T)) (i : ℕ) (b : Option (Bound T)) (t : Bool) → length es ≤ i → t ≡ closed b → cond t None (Some (i - 1)) ≡ uncovered_from row i b (drop i es)
end row es i b t le h = ap (λ z. cond z None (Some (i - 1))) h ∙ sym (at_drop_all (uncovered_from row i b) es i le)

pub returns-then-not-continues : goal.returns-then-not-continues
returns-then-not-continues g c =
    let row = g.T.Order.row in
    let es = c.args.edges.now in
    let i : ℕ = c.loop-place.place in
    let answer : Some i ≡ uncovered row es = turn row es i (option_map (λ x. x.now) c.loop-place.before) c.index-edges-place.result false c.loop-place-test.true c.index-edges-place.is c.if-not-continues.ensures ∙ c.loop-place.invariant in
    record { answer = answer; law = placed row es (Some i) answer; one = parted row es }

pub returns-then-is_closed : goal.returns-then-is_closed
returns-then-is_closed g c =
    let row = g.T.Order.row in
    let es = c.args.edges.now in
    let i : ℕ = c.loop-place.place in
    let answer : None ≡ uncovered row es = end row es i (option_map (λ x. x.now) c.loop-place.before) true c.loop-place-test.false c.if-is_closed.ensures ∙ c.loop-place.invariant in
    record { answer = answer; law = placed row es None answer; one = parted row es }

pub returns-else-is_closed : goal.returns-else-is_closed
returns-else-is_closed g c =
    let row = g.T.Order.row in
    let es = c.args.edges.now in
    let i : ℕ = c.loop-place.place in
    let last : c.saturating_sub.result ≡ i - 1 = omega arith in
    let answer : Some c.saturating_sub.result ≡ uncovered row es = ap Some last ∙ end row es i (option_map (λ x. x.now) c.loop-place.before) false c.loop-place-test.false c.if-is_closed.ensures ∙ c.loop-place.invariant in
    record { answer = answer; law = placed row es (Some c.saturating_sub.result) answer; one = parted row es }
