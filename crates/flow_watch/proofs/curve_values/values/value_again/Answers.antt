use Rattle.std.proofs.Common.{◌∙◌, sym, subst, ap}
use Rattle.rational.specs.Extended.{◌+ₑ◌}
use Rattle.rational.specs.declared.Extended.TheVariants.{Fin}
use Rattle.upp_curve.specs.Curve.{value_at}
use Rattle.upp_normal.specs.Ahead.{IsTimeIn}
use Rattle.flow_watch.proofs.curve_values.KeptValues.{earlier}
use Rattle.flow_watch.proofs.curve_values.values.value_again.Goals as goal

pub difference-requires : goal.difference-requires
difference-requires c =
    let E = earlier c.args.t c.args.rank c.args.period c.args.rise c.args.c.now c.requires.curve c.requires.operand c.requires.tail c.requires.late in
    E.back

pub stretch_at-before-requires : goal.stretch_at-before-requires
stretch_at-before-requires c =
    let O = c.requires.operand in
    let E = earlier c.args.t c.args.rank c.args.period c.args.rise c.args.c.now c.requires.curve O c.requires.tail c.requires.late in
    (O.sizes, c.args.t, E.window, subst (IsTimeIn O.sizes c.args.t) (sym c.difference.ensures) E.time)

pub risen-requires : goal.risen-requires
risen-requires c =
    let O = c.requires.operand in
    let E = earlier c.args.t c.args.rank c.args.period c.args.rise c.args.c.now c.requires.curve O c.requires.tail c.requires.late in
    let S = c.stretch_at-before.ensures.sizes O.sizes c.args.t E.window (subst (IsTimeIn O.sizes c.args.t) (sym c.difference.ensures) E.time) in
    E.room c.stretch_at-before.result.at S.1

pub returns : goal.returns
returns c =
    let E = earlier c.args.t c.args.rank c.args.period c.args.rise c.args.c.now c.requires.curve c.requires.operand c.requires.tail c.requires.late in
    c.risen.ensures ∙ ap (λ v. v +ₑ Fin c.args.rise) (c.stretch_at-before.ensures.goes.at ∙ ap (value_at c.args.c.now) c.difference.ensures) ∙ E.is
