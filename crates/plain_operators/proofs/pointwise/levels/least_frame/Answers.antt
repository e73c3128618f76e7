use Rattle.std.proofs.lemmas.Result.{err_from_is_err_and, IfErr-weaker}
use Rattle.curve_call.specs.Levels.{level_curve}
use Rattle.upp_normal.proofs.NormaliseForm.{ok_map}
use Rattle.plain_operators.proofs.pointwise.LatticeLevels.{minus_wide, minus_compared, minus_none, minus_refused, minus_is_within, minus_frame, sides_compared, sides_least, sides_none}
use Rattle.plain_operators.proofs.pointwise.levels.least_frame.Goals as goal

pub returns-in_err-look-clause-refused : goal.returns-in_err-look-clause-refused
returns-in_err-look-clause-refused c =
    let p = err_from_is_err_and c.from_residual.result c.from_residual.ensures.1 in
    rw (p.1, p.2) (minus_wide c.args.l c.args.f.now _ c.first_look.ensures.kept.0 c.in_err-look.ensures.refused)

pub side_periods-requires : goal.side_periods-requires
side_periods-requires c =
    let w = c.in_ok-look.look.window in
    sides_compared c.args.f.now (level_curve c.args.l) c.of.result c.level.result w.start w.period c.of.ensures c.level.ensures
    (minus_compared c.args.l c.args.f.now w c.first_look.ensures.kept.0 c.in_ok-look.ensures.look.window)

pub returns-in-None-clause-refused : goal.returns-in-None-clause-refused
returns-in-None-clause-refused c =
    let w = c.in_ok-look.look.window in
    minus_none c.args.l c.args.f.now w c.first_look.ensures.kept.0 c.in_ok-look.ensures.look.window
    (sides_none c.args.f.now (level_curve c.args.l) c.of.result c.level.result w.start w.period c.side_periods.result c.of.ensures c.level.ensures c.side_periods.ensures c.in-None.is)

pub returns-in-Some-clause-frame : goal.returns-in-Some-clause-frame
returns-in-Some-clause-frame c =
    let w = c.in_ok-look.look.window in
    let k = c.in-Some.periods in
    let L = sides_least c.args.f.now (level_curve c.args.l) c.of.result c.level.result w.start w.period k c.of.ensures c.level.ensures c.in-Some.ensures in
    ok_map c.within_after.result _ _ (λ r h. minus_frame c.args.l c.args.f.now w k r c.in_ok-look.ensures.look.window L h) c.within_after.ensures.frame

pub returns-in-Some-clause-within : goal.returns-in-Some-clause-within
returns-in-Some-clause-within c =
    let w = c.in_ok-look.look.window in
    let k = c.in-Some.periods in
    let L = sides_least c.args.f.now (level_curve c.args.l) c.of.result c.level.result w.start w.period k c.of.ensures c.level.ensures c.in-Some.ensures in
    ok_map c.within_after.result _ _ (λ r h. minus_is_within c.args.l c.args.f.now w k r c.in_ok-look.ensures.look.window L h) c.within_after.ensures.frame

pub returns-in-Some-clause-refused : goal.returns-in-Some-clause-refused
returns-in-Some-clause-refused c =
    let w = c.in_ok-look.look.window in
    let k = c.in-Some.periods in
    let L = sides_least c.args.f.now (level_curve c.args.l) c.of.result c.level.result w.start w.period k c.of.ensures c.level.ensures c.in-Some.ensures in
    IfErr-weaker c.within_after.result _ _ (λ e h. minus_refused c.args.l c.args.f.now w k e c.first_look.ensures.kept.0 c.in_ok-look.ensures.look.window L h) c.within_after.ensures.refused

pub within_after-requires-clause-look : goal.within_after-requires-clause-look
within_after-requires-clause-look c = c.in_ok-look.ensures.look.frame
