use Rattle.std.proofs.Common.{arith}
use Rattle.std.specs.Prelude.{◌≤◌}
use Rattle.plain_operators.proofs.pointwise.straight.are_little.Goals as goal

pub returns : goal.returns
returns c =
    let most : c.denominator-grid.result ≤ c.args.fine = omega arith in
    λ h. record {
      grid = c.denominator-grid.result;
      some = c.denominator-grid.ensures.some;
      most = most;
      at = c.is_little.ensures c.if-not-is_little.false;
      icept = c.is_little-2.ensures c.if-not-is_little-2.false;
      slope = c.is_little-3.ensures h;
    }
