use Rattle.std.proofs.Common.{refl, sym, true≢false}
use Rattle.run_watch.proofs.NearWindows.{reads_as, marks_as, after_is, not_after, in_reach}
use Rattle.run_watch.proofs.near.is_short_after.Goals as goal

pub amount_at-work-requires-clause-fits : goal.amount_at-work-requires-clause-fits
amount_at-work-requires-clause-fits c =
    let near = in_reach c.args.s.now c.args.p.now c.args.g.now c.sum-time.result c.sum-time.ensures (λ l. true≢false (sym (c.if-is_less.ensures.less.1 l))) in
    reads_as c.args.works.now c.args.g.now _ c.sum-time.result c.sum-time.ensures (c.requires.fits.later near)

pub is_short_by-requires-clause-a : goal.is_short_by-requires-clause-a
is_short_by-requires-clause-a c = c.requires.fits.own

pub is_short_by-requires-clause-b : goal.is_short_by-requires-clause-b
is_short_by-requires-clause-b c =
    let near = in_reach c.args.s.now c.args.p.now c.args.g.now c.sum-time.result c.sum-time.ensures (λ l. true≢false (sym (c.if-is_less.ensures.less.1 l))) in
    marks_as c.args.works.now c.args.g.now _ c.sum-time.result c.amount_at-work.result c.sum-time.ensures c.amount_at-work.ensures (c.requires.fits.later near)

pub returns-then-is_less : goal.returns-then-is_less
returns-then-is_less c = (
  λ h. absurd (true≢false (sym h)),
  λ k. absurd (not_after c.args.works.now c.args.s.now c.args.p.now c.args.g.now c.sum-time.result c.sum-time.ensures (c.if-is_less.ensures.less.0 refl) k),
)

pub returns : goal.returns
returns c =
    after_is c.args.works.now c.args.s.now c.args.p.now c.args.g.now c.sum-time.result c.amount_at-work.result c.is_short_by.result c.sum-time.ensures c.amount_at-work.ensures
    (λ l. true≢false (sym (c.if-is_less.ensures.less.1 l))) c.is_short_by.ensures
