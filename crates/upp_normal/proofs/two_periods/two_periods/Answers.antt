use Rattle.std.proofs.Common.{arith, ◌∷◌, ◌++◌, ◌∙◌, [], ◌<◌, ap, sym, subst, length}
use Rattle.rational.specs.Rational.{◌≤ℚ◌}
use Rattle.upp_curve.specs.affine_segment.Pieces.{StartsAtZero}
use Rattle.upp_curve.specs.Unrolled.{later, upto}
use Rattle.upp_normal.proofs.NormaliseLoops.{cut_fits, copies_begin, copies_more, copies_skip, copies_end}
use Rattle.upp_normal.proofs.two_periods.two_periods.Goals as goal
use Rattle.upp_normal.proofs.two_periods.two_periods.Goals.{in-Greater+in_ok-push-in-Greater, in_default}

pub later-requires : goal.later-requires
later-requires c =
    let a = c.args in
    cut_fits a.given.items c.deref-2.result.now a.rank a.period a.rise c.cut_at-cut.result c.requires.starts c.deref-2.ensures.value c.cut_at-cut.ensures c.requires.cut

pub loop-i-init : goal.loop-i-init
loop-i-init c =
    let a = c.args in
    copies_begin a.given.items c.push.new.self.items a.rank a.period a.rise c.count_before-before.result c.later.result
    (c.count_before-before.ensures ∙ ap (λ zs. length (upto a.rank zs)) c.deref.ensures.value)
    (c.in_ok-push.ensures.items ∙ ap (λ zs. zs ++ c.later.result ∷ []) c.reserve_exact.ensures.items)
    (λ p ps e. c.later.ensures ∙ ap (later a.period a.rise) (c.cut_at-cut.ensures p ps (c.deref-2.ensures.value ∙ e)))

pub loop-i-preserved : goal.loop-i-preserved
loop-i-preserved c =
    let a = c.args in
    let l = c.loop-i in
    let within : l.i < length a.given.items = omega (arith, c.loop-i-test.true) in
    elim c.match-cmp.branch [
      | in-Greater+in_ok-push-in-Greater w ↦
          copies_more a.given.items l.pieces.items c.match-cmp.pieces.items a.rank a.period a.rise l.i c.index.result.now w.later-in-Greater.result c.cmp.result within c.index.ensures
          c.cmp.ensures.is w.in-Greater.is w.later-in-Greater.ensures (ap (λ v. v.items) w.pieces-is ∙ w.in_ok-push-in-Greater.ensures.items) l.invariant
      | in_default w ↦
          copies_skip a.given.items l.pieces.items c.match-cmp.pieces.items a.rank a.period a.rise l.i c.index.result.now c.cmp.result within c.index.ensures
          c.cmp.ensures.is w.in_default.not-Greater (ap (λ v. v.items) w.pieces-is) l.invariant
    ]

pub returns : goal.returns
returns c = λ p ps e.
    let a = c.args in
    let l = c.loop-i in
    let zero : StartsAtZero (p ∷ ps) = subst StartsAtZero e c.requires.starts in
    copies_end a.given.items l.pieces.items a.rank a.period a.rise l.i p ps (omega (arith, c.loop-i-test.false)) (subst (λ x. x ≤ℚ a.rank) (sym zero.0) c.requires.rank) e l.invariant
