use Rattle.std.specs.Prelude.{◌≡◌, length}
use Rattle.std.proofs.Common.{ap, arith}
use Rattle.run_check.proofs.first.row_count.Goals as goal

pub returns : goal.returns
returns c =
    let steps : length c.run.inside.steps.items ≡ length c.args.run.now.steps = ap (λ r. length r.steps) c.run.view_is in
    let many = c.len.ensures in
    let long = c.run.inside.steps.ok.0 in
    omega (arith, steps, many, long)
