use Rattle.std.proofs.Common.{subst}
use Rattle.curve_lang.specs.Finding.{MayCallWith}
use Rattle.curve_lang.proofs.operators.called_with.Goals as goal

pub pos_minus-requires : goal.pos_minus-requires
pos_minus-requires g c = (subst (λ k. MayCallWith k c.args.f.now c.args.x) c.in-PosMinus.is c.requires).0

pub shift-requires : goal.shift-requires
shift-requires g c = subst (λ k. MayCallWith k c.args.f.now c.args.x) c.in-Shift.is c.requires

pub returns-in-PosMinus-clause-value : goal.returns-in-PosMinus-clause-value
returns-in-PosMinus-clause-value g c = rw c.in-PosMinus.is c.pos_minus.ensures.value

pub returns-in-PosMinus-clause-limits : goal.returns-in-PosMinus-clause-limits
returns-in-PosMinus-clause-limits g c = rw c.in-PosMinus.is c.pos_minus.ensures.limits

pub returns-in-Scale-clause-value : goal.returns-in-Scale-clause-value
returns-in-Scale-clause-value g c = rw c.in-Scale.is c.scale.ensures.value

pub returns-in-Scale-clause-limits : goal.returns-in-Scale-clause-limits
returns-in-Scale-clause-limits g c = rw c.in-Scale.is c.scale.ensures.limits

pub returns-in-Shift-clause-value : goal.returns-in-Shift-clause-value
returns-in-Shift-clause-value g c = rw c.in-Shift.is c.shift.ensures.value

pub returns-in-Shift-clause-limits : goal.returns-in-Shift-clause-limits
returns-in-Shift-clause-limits g c = rw c.in-Shift.is c.shift.ensures.limits
