use Rattle.std.proofs.Common.{arith, subst, sym, ap, ◌∙◌, ℕ, min}
use Rattle.arrival_heights.specs.Greatest.{IsGreatestBetween}
use Rattle.arrival_heights.specs.Heights.{most_ahead}
use Rattle.arrival_stairs.specs.Stairs.{levels_at}
use Rattle.arrival_stairs.proofs.Meets.{horizon_first, horizon_next}
use Rattle.arrival_stairs.proofs.horizon.horizon.Goals as goal

pub returns-then-onset-latest : goal.returns-then-onset-latest
returns-then-onset-latest c = λ bundles onset.
    let rate = c.args.rate in
    let e = c.greatest_ahead-first.ensures ∙ ap (most_ahead rate) c.deref.ensures.value in
    horizon_first bundles c.args.steps.now rate c.greatest_ahead-first.result c.in-Some.latest c.in-Some.ensures
    (subst (λ (n : ℕ). IsGreatestBetween (levels_at bundles 0) rate 0 0 n) (sym e) (onset.first rate))

pub returns-in-None-down_by : goal.returns-in-None-down_by
returns-in-None-down_by c = λ bundles onset.
    let rate = c.args.rate in
    let e = c.greatest_ahead-first.ensures ∙ ap (most_ahead rate) c.deref.ensures.value in
    horizon_first bundles c.args.steps.now rate c.greatest_ahead-first.result c.in-Some.latest c.in-Some.ensures
    (subst (λ (n : ℕ). IsGreatestBetween (levels_at bundles 0) rate 0 0 n) (sym e) (onset.first rate))

pub returns-in-Some-down_by : goal.returns-in-Some-down_by
returns-in-Some-down_by c = λ bundles onset.
    let rate = c.args.rate in
    let e = c.greatest_ahead-first.ensures ∙ ap (most_ahead rate) c.deref.ensures.value in
    let f = c.ahead-known.ensures in
    horizon_next bundles c.args.steps.now rate c.greatest_ahead-first.result c.in-Some.latest c.args.onset.now.until c.ahead-known.result c.in-Some-down_by.end c.min.result
    c.in-Some.ensures (subst (λ (n : ℕ). IsGreatestBetween (levels_at bundles 0) rate 0 0 n) (sym e) (onset.first rate)) (omega arith)
    (subst (λ (n : ℕ). IsGreatestBetween (levels_at bundles 0) rate 0 c.args.onset.now.until n) (sym f) (onset.greatest rate)) c.in-Some-down_by.ensures
    (c.min.ensures ∙ ap (λ n. min n c.in-Some.latest) c.max.ensures)
