use Rattle.std.proofs.Common.{sym, subst}
use Rattle.std.proofs.lemmas.Result.{err_from_is_err_and}
use Rattle.upp_curve.specs.Curve.{value_at}
use Rattle.min_plus.specs.Convolution.{IsDeconvolution}
use Rattle.curve_deconv.proofs.Slower.{faster_deconvolves}
use Rattle.curve_deconv.proofs.DeconvolveCall.{known_within}
use Rattle.curve_deconv.proofs.operator.faster_answer.Goals as goal

pub returns-clause-value : goal.returns-clause-value
returns-clause-value c = λ t low.
    let f = c.args.f.now in let g = c.args.g.now in
    subst (IsDeconvolution (value_at f) (value_at g) t) (sym (c.in_ok-infinite_curve.ensures t low)) (faster_deconvolves f g t c.requires.curves.0 c.requires.curves.1 c.requires.finite c.requires.faster low)

pub returns-clause-limits : goal.returns-clause-limits
returns-clause-limits c = known_within c.args.f.now c.args.g.now c.requires.faster

pub returns-in_err-infinite_curve-clause-limits : goal.returns-in_err-infinite_curve-clause-limits
returns-in_err-infinite_curve-clause-limits c =
    let p = err_from_is_err_and c.from_residual.result c.from_residual.ensures.1 in
    rw (p.1, p.2) (known_within c.args.f.now c.args.g.now c.requires.faster)
