-- The walk over two windows where one of them is infinite: the pieces of the other come one after another, as they are.
-- Own choice.
use Rattle.std.specs.Prelude.{◌≡◌, List, [], ◌∷◌, None}
use Rattle.rational.specs.declared.Extended.TheVariants.{Inf}
use Rattle.upp_curve.specs.declared.affine_segment.line.Piece.{Piece}
use Rattle.curve_call.specs.declared.stretch.Walk.{Walk}
use Rattle.curve_call.specs.Walk.{TakesLeft, TakesRight}

-- infinite at its start and after it
pub record IsNothing (p : Piece) : Type 0 where
  pub at : p.at ≡ Inf
  pub line : p.line ≡ None

-- from w to v the next pieces are those of f, while g is infinite: the present ones before v are `passed`
abbrev pub PassesLeft : List Piece → List Piece → List Piece → Walk → Walk → Type 0
PassesLeft f g [] w v = v ≡ w
PassesLeft f g (p ∷ ps) w v = (p ≡ w.here.left) × IsNothing w.here.right × ((u : Walk) × TakesLeft f g w u × PassesLeft f g ps u v)

-- those of g, while f is infinite
abbrev pub PassesRight : List Piece → List Piece → List Piece → Walk → Walk → Type 0
PassesRight f g [] w v = v ≡ w
PassesRight f g (p ∷ ps) w v = (p ≡ w.here.right) × IsNothing w.here.left × ((u : Walk) × TakesRight f g w u × PassesRight f g ps u v)
