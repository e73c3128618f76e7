-- A loop that makes one piece of each stretch.
use Rattle.std.specs.Prelude.{◌≡◌, List, ◌++◌}
use Rattle.upp_curve.specs.declared.affine_segment.line.Piece.{Piece}
use Rattle.curve_call.specs.declared.stretch.Both.{Both}
use Rattle.curve_call.specs.Stretches.{EachBoth}
use Rattle.curve_call.specs.Pointwise.{mapped}

pub record MapLoop (P : Both → Type 0) (m : Both → Piece) (bs left : List Both) (out : List Piece) : Type 0 where
  pub holds : EachBoth P left
  pub same : out ++ mapped m left ≡ mapped m bs
