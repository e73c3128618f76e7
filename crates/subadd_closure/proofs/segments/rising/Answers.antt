use Rattle.std.proofs.Common.{arith, ◌≡◌, ◌∙◌, ◌+◌, ◌≤◌, ◌^◌, suc, subst, sym, ap}
use Rattle.std.proofs.lemmas.Result.{err_from_is_err_and}
use Rattle.upp_curve.specs.Normal.{IsRaw}
use Rattle.upp_limits.specs.Limits.{own_tally}
use Rattle.subadd_closure.specs.ElementCurves.{turn}
use Rattle.subadd_closure.specs.PieceFits.{PieceFits, IsMade}
use Rattle.subadd_closure.proofs.SegmentAnswers.{turn_unfit, turn_wide, rise_wide, turn_few, turn_is, rising_q}
use Rattle.subadd_closure.proofs.segments.rising.Goals as goal
use Rattle.min_plus.specs.closure_laws.Star.{nat_times}

pub returns-in_err-pieces : goal.returns-in_err-pieces
returns-in_err-pieces c =
    let p = err_from_is_err_and c.from_residual.result c.from_residual.ensures.1 in
    rw (p.1, p.2) (turn_unfit c.args.a c.args.b c.args.line.now c.args.m (rising_q c.args.b c.args.line.now c.args.m) c.args.b c.requires.normal c.in_err-pieces.field-0.0 c.in_err-pieces.ensures.unfit)

pub returns-in_default : goal.returns-in_default
returns-in_default c =
    let next : suc c.args.m ≡ c.args.m + 1 = omega arith in
    turn_wide c.args.a c.args.b c.args.line.now c.args.m (rising_q c.args.b c.args.line.now c.args.m) c.args.b c.requires.normal
    (λ h. let k = c.in_default.ensures.fits (subst (λ z. PieceFits (turn (nat_times z c.args.b) c.args.line.now (suc z) (suc z))) next h) in cc)

pub returns-in_default-value_on : goal.returns-in_default-value_on
returns-in_default-value_on c =
    rise_wide c.args.a c.args.b c.args.line.now c.args.m (rising_q c.args.b c.args.line.now c.args.m) c.args.b c.requires.normal
    (λ h. let k = c.in_default-value_on.ensures.fits h in cc)

pub made-requires-clause-raw : goal.made-requires-clause-raw
made-requires-clause-raw c =
    let next : c.args.m + 1 ≡ suc c.args.m = omega arith in
    let same = turn_is c.args.a c.args.b c.args.line.now c.args.m (rising_q c.args.b c.args.line.now c.args.m) c.args.b c.in_ok-pieces-2.pieces.items c.in_ok-pieces.pieces.items
    c.in-Some.last c.in-Some-value_on.rise c.in_ok-pieces.ensures.made c.in_ok-pieces-2.ensures (c.in-Some.ensures.value ∙ ap (λ z. turn (nat_times z c.args.b) c.args.line.now (suc z) (suc z)) next) c.in-Some-value_on.ensures.value in
    subst IsRaw (sym same) c.requires.normal.raw

pub made-requires-clause-few : goal.made-requires-clause-few
made-requires-clause-few c =
    let next : c.args.m + 1 ≡ suc c.args.m = omega arith in
    let same = turn_is c.args.a c.args.b c.args.line.now c.args.m (rising_q c.args.b c.args.line.now c.args.m) c.args.b c.in_ok-pieces-2.pieces.items c.in_ok-pieces.pieces.items
    c.in-Some.last c.in-Some-value_on.rise c.in_ok-pieces.ensures.made c.in_ok-pieces-2.ensures (c.in-Some.ensures.value ∙ ap (λ z. turn (nat_times z c.args.b) c.args.line.now (suc z) (suc z)) next) c.in-Some-value_on.ensures.value in
    subst (λ z. own_tally z ≤ 2 ^ 20) (sym same)
    (turn_few c.args.a c.args.b c.args.line.now c.args.m (rising_q c.args.b c.args.line.now c.args.m) c.args.b c.requires.few c.requires.normal)

pub returns : goal.returns
returns c =
    let next : c.args.m + 1 ≡ suc c.args.m = omega arith in
    let same = turn_is c.args.a c.args.b c.args.line.now c.args.m (rising_q c.args.b c.args.line.now c.args.m) c.args.b c.in_ok-pieces-2.pieces.items c.in_ok-pieces.pieces.items
    c.in-Some.last c.in-Some-value_on.rise c.in_ok-pieces.ensures.made c.in_ok-pieces-2.ensures (c.in-Some.ensures.value ∙ ap (λ z. turn (nat_times z c.args.b) c.args.line.now (suc z) (suc z)) next) c.in-Some-value_on.ensures.value in
    subst (λ z. IsMade z c.made.result) same c.made.ensures
