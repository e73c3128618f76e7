use Rattle.std.proofs.Common.{sym, subst}
use Rattle.curve_call.specs.CallWindows.{IsForward}
use Rattle.plain_operators.proofs.pointwise.LatticeLimits.{bounds_compared, forward_kind, between_by}
use Rattle.plain_operators.proofs.pointwise.lattice.refuse_by_lines.Goals as goal

pub bounds_by_lines-requires : goal.bounds_by_lines-requires
bounds_by_lines-requires c = bounds_compared c.args.of c.args.f.now c.args.g.now c.args.first.now c.requires.curves c.requires.window

pub refuse_between-requires-clause-forward : goal.refuse_between-requires-clause-forward
refuse_between-requires-clause-forward c = subst IsForward (sym c.kind_of.ensures) (forward_kind c.args.of)

pub returns-in-Some : goal.returns-in-Some
returns-in-Some c =
    between_by c.args.of c.kind_of.result c.args.f.now c.args.g.now c.args.first.now c.in-Some.bounds c.refuse_between.result c.kind_of.ensures c.requires.window c.in-Some.ensures c.refuse_between.ensures
