use Rattle.std.proofs.Common.{drop}
use Rattle.std.specs.Prelude.{◌↔◌}
use Rattle.upp_normal.specs.Given.{GoOn}
use Rattle.upp_curve.specs.affine_segment.Pieces.{StartsAtZero}
use Rattle.upp_normal.proofs.given.starts_at_zero.Given as goal

abbrev pub invariant-loop-p : goal.invariant-loop-p
invariant-loop-p l = StartsAtZero l.pieces ↔ GoOn l.before (drop l.p-index l.pieces)
