use Rattle.std.proofs.Common.{◌-◌, refl}
use Rattle.std.proofs.lemmas.Result.{err_from_is_err_and}
use Rattle.upp_curve.specs.declared.affine_segment.element.Element.TheVariants.{Open}
use Rattle.outcomes.proofs.Spending.{spends_stopped, spends_as}
use Rattle.subadd_closure.specs.Stars.{turn_work}
use Rattle.subadd_closure.proofs.FoldThins.{element_subadditive}
use Rattle.subadd_closure.proofs.FoldMemory.{no_call, closure_wants}
use Rattle.subadd_closure.proofs.ElementStars.{refused_star, made_star}
use Rattle.subadd_closure.proofs.stars.segment_star.Goals as goal

pub returns-in_err-c-clause-answer : goal.returns-in_err-c-clause-answer
returns-in_err-c-clause-answer g c =
    let p = err_from_is_err_and c.from_residual.result c.from_residual.ensures.1 in
    rw (p.1, p.2) (refused_star c.args.turn (Open c.args.a c.args.b c.args.line.now) c.in_err-c.field-0.0 c.requires.turn c.in_err-c.ensures)

pub returns-clause-answer : goal.returns-clause-answer
returns-clause-answer g c =
    made_star c.args.turn (Open c.args.a c.args.b c.args.line.now) c.in_ok-c.c c.star_of.result c.in_ok-c.ensures c.star_of.ensures.answer

pub star_of-requires-clause-subadditive : goal.star_of-requires-clause-subadditive
star_of-requires-clause-subadditive g c =
    element_subadditive (Open c.args.a c.args.b c.args.line.now) c.in_ok-c.c c.in_ok-c.ensures

pub returns-in_err-c-clause-spends : goal.returns-in_err-c-clause-spends
returns-in_err-c-clause-spends g c =
    let p = err_from_is_err_and c.from_residual.result c.from_residual.ensures.1 in
    spends_stopped c.from_residual.result p.0 p.1 (λ lack n none. no_call c.args.turn (Open c.args.a c.args.b c.args.line.now) n none)

pub returns-clause-spends : goal.returns-clause-spends
returns-clause-spends g c =
    spends_as c.star_of.ensures.spends (turn_work c.args.turn) refl
    (λ told. closure_wants c.args.turn (Open c.args.a c.args.b c.args.line.now) c.in_ok-c.c (c.star_of.new.steps - c.args.steps.now) c.in_ok-c.ensures)
