use Rattle.upp_limits.specs.declared.op_kind.OpKind.TheVariants.{Sum}
use Rattle.std.proofs.Common.{subst}
use Rattle.curve_call.specs.Calls.{Applies}
use Rattle.curve_call.proofs.Applied.{applied_seen}
use Rattle.cell_eval.proofs.parts.part_added.Goals as goal

pub returns-clause-sum : goal.returns-clause-sum
returns-clause-sum g c =
    let f = c.args.so_far.now in
    let k = c.curve_of.result.now in
    subst (λ h. Applies Sum f h c.intact.result) c.curve_of.ensures
    (applied_seen Sum f k c.sum.result c.intact.result c.intact.ensures.same c.sum.ensures.value c.sum.ensures.limits c.intact.ensures.kept)
