use Rattle.std.proofs.Common.{to_z-of_z, refl}
use Rattle.fraction128.proofs.Added.{cross_fits}
use Rattle.fraction128.proofs.sums.short_cross.Goals as goal

pub overflow_add-result : goal.overflow_add-result
overflow_add-result c =
    let fa = c.ranges.a in let fb = c.ranges.b in
    let is = cross_fits c.args.a c.args.b c.args.v c.args.u c.requires.left c.requires.left_factor c.requires.right c.requires.right_factor in
    let fl = is.left in let fr = is.right in let ft = is.sum in
    simp (is.left_factor, is.right_factor, to_z-of_z) ft

pub returns-clause-value : goal.returns-clause-value
returns-clause-value c =
    let fa = c.ranges.a in let fb = c.ranges.b in
    let is = cross_fits c.args.a c.args.b c.args.v c.args.u c.requires.left c.requires.left_factor c.requires.right c.requires.right_factor in
    let fl = is.left in let fr = is.right in let ft = is.sum in
    simp (is.left_factor, is.right_factor, to_z-of_z) refl

pub returns-clause-size : goal.returns-clause-size
returns-clause-size c =
    let fa = c.ranges.a in let fb = c.ranges.b in
    let is = cross_fits c.args.a c.args.b c.args.v c.args.u c.requires.left c.requires.left_factor c.requires.right c.requires.right_factor in
    let fl = is.left in let fr = is.right in let ft = is.sum in
    simp (is.left_factor, is.right_factor, to_z-of_z) is.size
