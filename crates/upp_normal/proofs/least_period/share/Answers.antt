use Rattle.std.proofs.Common.{arith, ap, sym, subst, refl, ◌∙◌, ◌≡◌, pos, nat_abs, ◌^◌, ◌<◌}
use Rattle.std.proofs.lemmas.Int.{ints}
use mir.Val.{to_z}
use mir.Syntax.{w128}
use Rattle.rational.specs.Rational.{int, ◌/ℚ◌}
use Rattle.rational.specs.Ratio.{IsSmall}
use Rattle.upp_normal.proofs.NormaliseShare.{parts_some, zero_share, share_small, not_on_grid, not_ok, zero_on_grid, on_grid}
use Rattle.upp_normal.proofs.least_period.share.Goals as goal
use Rattle.upp_normal.proofs.least_period.share.Goals.{in_default-via-in-Ok+else-grid-denominator-eq0, in_default-via-in_default}

pub returns-then-numerator-eq0 : goal.returns-then-numerator-eq0
returns-then-numerator-eq0 c =
    let zero : c.numerator.result ≡ pos 0 = omega (arith, ints, c.if-numerator-eq0.true, c.numerator.ensures.size) in
    let none = sym c.numerator.ensures.value ∙ zero in
    (zero_share c.args.whole c.args.parts c.requires.parts none, zero_on_grid c.args.whole c.args.grid none)

pub div-requires : goal.div-requires
div-requires c =
    let p : to_z w128 c.args.parts ≡ pos c.args.parts = omega (arith, ints) in
    λ e. parts_some c.args.parts c.requires.parts (sym (c.from_whole.ensures ∙ ap int p) ∙ e)

pub returns-in_default : goal.returns-in_default
returns-in_default c =
    let p : to_z w128 c.args.parts ≡ pos c.args.parts = omega (arith, ints) in
    let by = c.from_whole.ensures ∙ ap int p in
    let top : nat_abs c.args.whole.num < 2 ^ 127 = subst (λ z. nat_abs z < 2 ^ 127) c.numerator.ensures.value c.numerator.ensures.size in
    elim c.in_default.branch [
      | in_default-via-in-Ok+else-grid-denominator-eq0 w ↦
          not_on_grid (c.args.whole /ℚ int (pos c.args.parts)) w.in-Ok.s c.args.grid w.denominator.result _ (w.in-Ok.ensures.value ∙ ap (λ n. c.args.whole /ℚ n) by) w.denominator.ensures.value refl w.if-grid-denominator-eq0.false
      | in_default-via-in_default w ↦ λ W.
          not_ok c.div.result w.in_default.field-0 w.in_default.is
          (c.div.ensures.fits.1 (subst (λ n. IsSmall (c.args.whole /ℚ n)) (sym by) (share_small c.args.whole c.args.parts c.args.grid c.requires.parts c.requires.some c.requires.grid top W)))
    ]

pub returns-in-Ok : goal.returns-in-Ok
returns-in-Ok c =
    let p : to_z w128 c.args.parts ≡ pos c.args.parts = omega (arith, ints) in
    on_grid (c.args.whole /ℚ int (pos c.args.parts)) c.in-Ok.s c.args.grid c.denominator.result
    (c.in-Ok.ensures.value ∙ ap (λ n. c.args.whole /ℚ n) (c.from_whole.ensures ∙ ap int p)) c.denominator.ensures.value c.if-grid-denominator-eq0.true
