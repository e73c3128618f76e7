use Rattle.std.proofs.Common.{[]}
use Rattle.std.proofs.lemmas.Result.{err_from_is_err_and}
use Rattle.subadd_closure.specs.PieceFits.{PieceFits}
use Rattle.subadd_closure.proofs.TurnSteps.{first_of_all, started_then}
use Rattle.subadd_closure.proofs.SegmentAnswers.{unfit_more}
use Rattle.subadd_closure.proofs.stretches.all_stretches.Goals as goal

pub returns-in_default-clause-unfit : goal.returns-in_default-clause-unfit
returns-in_default-clause-unfit c = λ h.
    let r = first_of_all PieceFits c.args.a c.args.b c.args.line.now c.args.m [] h in
    let k = c.in_default.ensures.fits r.0 in
    cc

pub returns-in_err-add_stretches-clause-unfit : goal.returns-in_err-add_stretches-clause-unfit
returns-in_err-add_stretches-clause-unfit c =
    let p = err_from_is_err_and c.from_residual-in_err-add_stretches.result c.from_residual-in_err-add_stretches.ensures.1 in
    rw (p.1, p.2) (unfit_more c.args.a c.args.b c.args.line.now c.args.m c.in_err-add_stretches.field-0.0 c.in_err-add_stretches.ensures.unfit)

pub returns-clause-made : goal.returns-clause-made
returns-clause-made c =
    started_then c.args.a c.args.b c.args.line.now c.args.m c.in_ok-pieces.pieces.items c.add_stretches.new.pieces.items c.in-Some.first
    c.in-Some.ensures.value c.in_ok-pieces.ensures c.in_ok-add_stretches.ensures.made
