use Rattle.std.proofs.Common.{sym, subst}
use Rattle.rational.specs.Rational.{◌≤ℚ◌, ◌<ℚ◌}
use Rattle.rational.specs.declared.Extended.TheVariants.{Fin}
use Rattle.rational.proofs.Laws.{le_refl, le_of_lt}
use Rattle.min_plus.specs.Functions.{zero_q}
use Rattle.upp_curve.specs.affine_segment.Reading.{read}
use Rattle.plain_operators.specs.running.Scans.{IsSupremumIn}
use Rattle.plain_operators.specs.running.Between.{IsLevelBetween}
use Rattle.plain_operators.proofs.running.Covers.{later_end}
use Rattle.plain_operators.proofs.running.periods.covering.Goals as goal

pub supremum_between-early-requires-clause-first : goal.supremum_between-early-requires-clause-first
supremum_between-early-requires-clause-first c = subst (λ z. zero_q ≤ℚ z) (sym c.zero.ensures) (le_refl zero_q)

pub supremum_between-early-requires-clause-last : goal.supremum_between-early-requires-clause-last
supremum_between-early-requires-clause-last c = subst (λ z. c.args.start ≤ℚ z) (sym c.sum-reach.ensures) (le_of_lt (later_end c.args.start c.args.period c.requires.some))

pub supremum_between-once-requires-clause-first : goal.supremum_between-once-requires-clause-first
supremum_between-once-requires-clause-first c = le_of_lt c.requires.first

pub supremum_between-once-requires-clause-some : goal.supremum_between-once-requires-clause-some
supremum_between-once-requires-clause-some c = subst (λ z. c.args.start <ℚ z) (sym c.sum-reach.ensures) (later_end c.args.start c.args.period c.requires.some)

pub supremum_between-once-requires-clause-last : goal.supremum_between-once-requires-clause-last
supremum_between-once-requires-clause-last c = le_refl c.sum-reach.result

pub cover-requires-clause-fits : goal.cover-requires-clause-fits
cover-requires-clause-fits c =
    let early = c.supremum_between-early.result in
    let once = c.supremum_between-once.result in
    let ps = c.args.ps.now in
    let s = c.args.start in
    c.requires.cover early once
    (subst (λ e. IsLevelBetween e zero_q s ps early) c.sum-reach.ensures
    (subst (λ z. IsLevelBetween c.sum-reach.result z s ps early) c.zero.ensures c.supremum_between-early.ensures.level))
    (subst (λ e. IsLevelBetween e s e ps once) c.sum-reach.ensures c.supremum_between-once.ensures.level)

pub returns : goal.returns
returns c = record {
  early = c.supremum_between-early.result;
  once = c.supremum_between-once.result;
  before = subst (λ z. IsSupremumIn (read c.args.ps.now) z c.args.start (Fin c.supremum_between-early.result)) c.zero.ensures c.supremum_between-early.ensures.supremum;
  within = subst (λ e. IsSupremumIn (read c.args.ps.now) c.args.start e (Fin c.supremum_between-once.result)) c.sum-reach.ensures
      c.supremum_between-once.ensures.supremum;
  cover = c.cover.ensures;
}
