use Rattle.std.proofs.Common.{Ok, Err, sym, subst}
use Rattle.curve_library.specs.declared.fault.CurveFault.{CurveFault}
use Rattle.curve_library.specs.declared.fault.CurveFault.TheVariants as faults
use Rattle.net_draft.specs.CurveTexts.{text_of}
use Rattle.net_draft.specs.Made.{CurveAnswers}
use Rattle.net_draft.proofs.CurveMade.{taken, of_limit, told_fails}
use Rattle.net_draft.proofs.OverNone.{told_is_over_none}
use Rattle.net_draft.proofs.Told.{answers_tell}
use Rattle.net_draft.proofs.making.curve_of.Goals as goal

pub returns-in-Ok-clause-value : goal.returns-in-Ok-clause-value
returns-in-Ok-clause-value c = taken c.args.place.now (text_of c.args.text) (answers_tell (text_of c.args.text) (Ok c.in-Ok.curve) c.in-Ok.ensures)

pub returns-in-Some-clause-value : goal.returns-in-Some-clause-value
returns-in-Some-clause-value c =
    let is = of_limit c.in-Err.fault c.in-Some.limit (sym c.in-Some.ensures) in
    taken c.args.place.now (text_of c.args.text) (answers_tell (text_of c.args.text) (Err (faults.Op c.in-Some.limit))
    (subst (λ (f : CurveFault). CurveAnswers (text_of c.args.text) (Err f)) is c.in-Err.ensures))

pub returns-in-Some-clause-made : goal.returns-in-Some-clause-made
returns-in-Some-clause-made c =
    let is = of_limit c.in-Err.fault c.in-Some.limit (sym c.in-Some.ensures) in
    subst (λ (f : CurveFault). CurveAnswers (text_of c.args.text) (Err f)) is c.in-Err.ensures

pub told-requires : goal.told-requires
told-requires c = sym c.in-None.ensures

pub returns-in-None-clause-value : goal.returns-in-None-clause-value
returns-in-None-clause-value c = told_fails c.args.place.now (text_of c.args.text) c.in-Err.fault c.told.result c.in-Err.ensures c.told.ensures

pub returns-in-None-clause-memory : goal.returns-in-None-clause-memory
returns-in-None-clause-memory c = λ _. told_is_over_none (text_of c.args.text) c.in-Err.fault (sym c.in-None.ensures) c.in-Err.ensures
