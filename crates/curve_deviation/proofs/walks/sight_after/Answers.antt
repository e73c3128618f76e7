use Rattle.std.proofs.Common.{refl, sym, true≢false}
use Rattle.upp_curve.specs.Curve.{value_at}
use Rattle.curve_deviation.proofs.RisingParts.{time_to}
use Rattle.curve_deviation.proofs.Sights.{time_in, end_to, second_on, first_on, none_on}
use Rattle.curve_deviation.proofs.walks.sight_after.Goals as goal

pub rise_at-requires-clause-seen : goal.rise_at-requires-clause-seen
rise_at-requires-clause-seen g c =
    let reached = c.requires.1.1.1.1.1.1 in
    let S = c.requires.0.1 in
    (g.sizes, S, reached, end_to g.sizes c.args.end S.limited)

pub rise_at-requires-clause-before : goal.rise_at-requires-clause-before
rise_at-requires-clause-before g c = c.requires.1.1.1.1.1.1.before

pub returns-then-is_less : goal.returns-then-is_less
returns-then-is_less g c =
    let S = c.requires.0.1 in
    let end = end_to g.sizes c.args.end S.limited in
    second_on g.sizes (value_at c.args.f.now) (value_at c.args.g.now) c.args.walk.now c.args.next.now c.args.until c.args.end c.args.sight.now c.rise_at.result c.requires.1.1.1.0 c.requires.1.1.1.1.0
    (c.if-is_less.ensures.less.0 refl) c.rise_at.ensures.rise (c.rise_at.ensures.sizes g.sizes S c.requires.1.1.1.1.1.1 end)

pub rise_at-requires-then-is_less-2-clause-seen : goal.rise_at-requires-then-is_less-2-clause-seen
rise_at-requires-then-is_less-2-clause-seen g c =
    let time = time_in g.sizes c.args.until c.args.end c.args.next.now.time c.requires.1.1.1.1.1.0 c.requires.1.1.0 (c.if-is_less-2.ensures.less.0 refl) in
    (g.sizes, c.requires.0.0, time, time_to g.sizes c.args.end c.args.until c.requires.1.1.0)

pub rise_at-requires-then-is_less-2-clause-before : goal.rise_at-requires-then-is_less-2-clause-before
rise_at-requires-then-is_less-2-clause-before g c = c.if-is_less-2.ensures.less.0 refl

pub returns-then-is_less-2 : goal.returns-then-is_less-2
returns-then-is_less-2 g c =
    let time = time_in g.sizes c.args.until c.args.end c.args.next.now.time c.requires.1.1.1.1.1.0 c.requires.1.1.0 (c.if-is_less-2.ensures.less.0 refl) in
    first_on g.sizes (value_at c.args.f.now) (value_at c.args.g.now) c.args.walk.now c.args.next.now c.args.until c.args.end c.args.sight.now c.rise_at-then-is_less-2.result c.requires.1.1.1.0 c.requires.1.1.1.1.0
    (λ h. true≢false (sym (c.if-is_less.ensures.less.1 h))) c.rise_at-then-is_less-2.ensures.rise
    (c.rise_at-then-is_less-2.ensures.sizes g.sizes c.requires.0.0 time (time_to g.sizes c.args.end c.args.until c.requires.1.1.0))

pub returns : goal.returns
returns g c =
    none_on g.sizes (value_at c.args.f.now) (value_at c.args.g.now) c.args.walk.now c.args.next.now c.args.until c.args.end c.args.sight.now c.requires.1.1.1.0 c.requires.1.1.1.1.0
    (λ h. true≢false (sym (c.if-is_less.ensures.less.1 h))) (λ h. true≢false (sym (c.if-is_less-2.ensures.less.1 h)))
