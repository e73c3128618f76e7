use Rattle.std.proofs.Common.{refl, sym, true≢false}
use Rattle.run_watch.proofs.NearWindows.{reads_as, marks_as, before_is, not_before, in_reach_back}
use Rattle.run_watch.proofs.near.is_short_before.Goals as goal

pub amount_at-work-requires-clause-fits : goal.amount_at-work-requires-clause-fits
amount_at-work-requires-clause-fits c =
    let near = in_reach_back c.args.s.now c.args.p.now c.args.g.now c.difference-time.result c.difference-time.ensures (λ l. true≢false (sym (c.if-is_less.ensures.less.1 l))) in
    reads_as c.args.works.now c.args.g.now _ c.difference-time.result c.difference-time.ensures (c.requires.fits.earlier near)

pub is_short_by-requires-clause-a : goal.is_short_by-requires-clause-a
is_short_by-requires-clause-a c =
    let near = in_reach_back c.args.s.now c.args.p.now c.args.g.now c.difference-time.result c.difference-time.ensures (λ l. true≢false (sym (c.if-is_less.ensures.less.1 l))) in
    marks_as c.args.works.now c.args.g.now _ c.difference-time.result c.amount_at-work.result c.difference-time.ensures c.amount_at-work.ensures (c.requires.fits.earlier near)

pub is_short_by-requires-clause-b : goal.is_short_by-requires-clause-b
is_short_by-requires-clause-b c = c.requires.fits.own

pub returns-then-is_less : goal.returns-then-is_less
returns-then-is_less c = (
  λ h. absurd (true≢false (sym h)),
  λ k. absurd (not_before c.args.works.now c.args.s.now c.args.p.now c.args.g.now c.difference-time.result c.difference-time.ensures (c.if-is_less.ensures.less.0 refl) k),
)

pub returns : goal.returns
returns c =
    before_is c.args.works.now c.args.s.now c.args.p.now c.args.g.now c.difference-time.result c.amount_at-work.result c.is_short_by.result c.difference-time.ensures c.amount_at-work.ensures
    (λ l. true≢false (sym (c.if-is_less.ensures.less.1 l))) c.is_short_by.ensures
