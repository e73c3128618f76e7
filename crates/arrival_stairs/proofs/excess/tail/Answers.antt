use Rattle.std.proofs.Common.{◌≡◌, ◌+◌, ◌-◌, ◌*◌, ◌^◌, ℕ, length, get_or, arith, ap, subst, ◌∙◌, min}
use Rattle.std.specs.Int.{div_ceil}
use Rattle.std.proofs.lemmas.List.{get_or_read}
use Rattle.arrival_stairs.specs.Lows.{IsLow}
use Rattle.arrival_stairs.proofs.Lowest.{tail_by}
use Rattle.arrival_stairs.proofs.excess.tail.Goals as goal

pub returns : goal.returns
returns c =
    let lines = c.args.lines.now in
    let walk = c.args.walk.now in
    let faster = c.count_faster.result in
    let n = length lines - faster in
    let low = get_or walk.lows.items (n - 1) 0 in
    let last : n - 1 + 1 ≡ n = omega arith in
    let is_low = subst (λ (j : ℕ). IsLow lines walk.end j low) last (c.requires.lows.each (n - 1) (omega arith)) in
    let count = c.requires.lows.count in
    let read = get_or_read walk.lows.items (n - 1) c.index.result.now (omega (arith, count)) c.index.ensures 0 in
    tail_by lines c.args.rate c.args.most walk.end faster n low c.min.result (omega arith) c.count_faster.ensures.faster c.count_faster.ensures.slower is_low
    (c.min.ensures ∙ ap (λ m. min m c.args.most) (c.div_ceil.ensures ∙ ap (λ m. div_ceil m (10 ^ 12)) (c.saturating_sub-ahead.ensures ∙ ap (λ m. m - c.args.rate * walk.end) read)))
