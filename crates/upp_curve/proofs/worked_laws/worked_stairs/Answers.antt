use Rattle.upp_curve.proofs.WorkedStairs.{stair_formula, two_stairs, stair_leaves}
use Rattle.upp_curve.proofs.WorkedJump.{jump_leaves}
use Rattle.upp_curve.proofs.worked_laws.worked_stairs.Goals as goal

pub returns-clause-formula : goal.returns-clause-formula
returns-clause-formula c = stair_formula

pub returns-clause-convolution : goal.returns-clause-convolution
returns-clause-convolution c = two_stairs

pub returns-clause-deconvolution : goal.returns-clause-deconvolution
returns-clause-deconvolution c = stair_leaves

pub returns-clause-jump : goal.returns-clause-jump
returns-clause-jump c = jump_leaves
