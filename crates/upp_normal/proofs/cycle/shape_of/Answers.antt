use Rattle.std.proofs.Common.{◌∙◌, sym, ap, refl, subst, length}
use Rattle.rational.specs.Rational.{◌+ℚ◌, ◌≤ℚ◌}
use Rattle.rational.specs.Ratio.{SumFits}
use Rattle.rational.proofs.Comparison.{cmp_greater, cmp_not_greater}
use Rattle.upp_curve.specs.Unrolled.{upto}
use Rattle.upp_normal.specs.Normalising.{past, first_start, IsFront}
use Rattle.upp_normal.proofs.NormaliseCuts.{front_self, front_upto}
use Rattle.upp_curve.proofs.Normal.{each_at}
use Rattle.upp_normal.proofs.NormaliseShape.{line_for_ever, line_before, turns_at, taken_is, start_late, start_has}
use Rattle.upp_normal.proofs.cycle.shape_of.Goals as goal

pub returns-in_default : goal.returns-in_default
returns-in_default c = (
  front_self c.args.pieces.items,
  line_for_ever c.args.pieces.items c.args.rank c.args.period c.args.rise c.requires.two
      (sym c.in_default.is ∙ c.first_past.ensures ∙ ap (λ ps. first_start (past c.args.rank ps)) c.deref.ensures.value),
)

pub returns-in-Greater : goal.returns-in-Greater
returns-in-Greater c =
    let start = c.in-Some.start in
    let end = c.sum-end.result in
    let ps = c.args.pieces.items in
    let kept = taken_is start ps c.deref-2.result.now c.truncate.new.self.items c.count_before-first.result c.truncate.ensures.items c.count_before-first.ensures c.deref-2.ensures.value in (
      subst (λ zs. IsFront zs ps) (sym kept) (front_upto start ps),
      line_before ps c.args.rank c.args.period c.args.rise start end c.truncate.new.self.items c.requires.two
          (sym c.in-Some.is ∙ c.first_past.ensures ∙ ap (λ ps. first_start (past c.args.rank ps)) c.deref.ensures.value)
          c.sum-end.ensures (cmp_greater start end (sym c.cmp.ensures.is ∙ c.in-Greater.is)) kept,
    )

pub sum-until-requires : goal.sum-until-requires
sum-until-requires c =
    let start = c.in-Some.start in
    let s = sym c.in-Some.is ∙ c.first_past.ensures ∙ ap (λ ps. first_start (past c.args.rank ps)) c.deref.ensures.value in
    let early = subst (λ e. start ≤ℚ e) c.sum-end.ensures (cmp_not_greater start c.sum-end.result (λ k. c.in_default-cmp.not-Greater (c.cmp.ensures.is ∙ k))) in
    each_at (λ x. x ≤ℚ c.args.rank +ℚ c.args.period → SumFits x c.args.period) start c.args.pieces.items c.requires.until (start_has c.args.pieces.items c.args.rank start s) early

pub returns : goal.returns
returns c =
    let start = c.in-Some.start in
    let end = c.sum-end.result in
    let until = c.sum-until.result in
    let ps = c.args.pieces.items in
    let s = sym c.in-Some.is ∙ c.first_past.ensures ∙ ap (λ ps. first_start (past c.args.rank ps)) c.deref.ensures.value in
    let early = cmp_not_greater start end (λ k. c.in_default-cmp.not-Greater (c.cmp.ensures.is ∙ k)) in
    let kept = taken_is until ps c.deref-3.result.now c.truncate-2.new.self.items c.count_before-count.result c.truncate-2.ensures.items c.count_before-count.ensures c.deref-3.ensures.value in (
      subst (λ zs. IsFront zs ps) (sym kept) (front_upto until ps),
      start_late ps c.args.rank start s,
      subst (λ e. start ≤ℚ e) c.sum-end.ensures early,
      refl,
      refl,
      turns_at ps c.args.rank c.args.period c.args.rise start end until c.count_before-first.result c.truncate-2.new.self.items c.requires.two s
          c.sum-end.ensures early
          c.sum-until.ensures (c.count_before-first.ensures ∙ ap (λ ps. length (upto start ps)) c.deref-2.ensures.value) kept,
    )
