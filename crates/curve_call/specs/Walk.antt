-- One step of the walk over two windows: which of the next pieces comes first.
use Rattle.std.specs.Prelude.{◌≡◌, ℕ, ◌+◌, List, ◌⊎◌, Some, IfSome, slice_get, slice_index_or}
use Rattle.rational.specs.Rational.{ℚ, ◌<ℚ◌}
use Rattle.upp_curve.specs.declared.affine_segment.line.Piece.{Piece}
use Rattle.upp_curve.specs.affine_segment.Fits.{LineFitsAt}
use Rattle.curve_call.specs.declared.stretch.Walk.{Walk}
use Rattle.curve_call.specs.Stretches.{cut_at}

-- where the walk begins: with the first piece of each
pub record IsStart (f g : List Piece) (w : Walk) : Type 0 where
  pub i : w.i ≡ 1
  pub j : w.j ≡ 1
  pub left : w.here.left ≡ slice_index_or f 0 w.here.left
  pub right : w.here.right ≡ slice_index_or g 0 w.here.right

-- x is before the i-th start, where there is one
abbrev pub IsBeforeAt : ℚ → List Piece → ℕ → Type 0
IsBeforeAt x ps i = IfSome (slice_get ps i) (λ p. x <ℚ p.x)

-- the next piece of f comes first, and g's present one is cut there
pub record TakesLeft (f g : List Piece) (w v : Walk) : Type 0 where
  pub next : slice_get f w.i ≡ Some v.here.left
  pub i : v.i ≡ w.i + 1
  pub j : v.j ≡ w.j
  pub right : v.here.right ≡ cut_at w.here.right v.here.left.x
  pub early : IsBeforeAt v.here.left.x g w.j

-- the next piece of g comes first, and f's present one is cut there
pub record TakesRight (f g : List Piece) (w v : Walk) : Type 0 where
  pub next : slice_get g w.j ≡ Some v.here.right
  pub i : v.i ≡ w.i
  pub j : v.j ≡ w.j + 1
  pub left : v.here.left ≡ cut_at w.here.left v.here.right.x
  pub early : IsBeforeAt v.here.right.x f w.i

-- both start at one time
pub record TakesBoth (f g : List Piece) (w v : Walk) : Type 0 where
  pub next : slice_get f w.i ≡ Some v.here.left
  pub other : slice_get g w.j ≡ Some v.here.right
  pub i : v.i ≡ w.i + 1
  pub j : v.j ≡ w.j + 1
  pub together : v.here.left.x ≡ v.here.right.x

abbrev pub IsStep : List Piece → List Piece → Walk → Walk → Type 0
IsStep f g w v = TakesLeft f g w v ⊎ (TakesRight f g w v ⊎ TakesBoth f g w v)

-- the steps of the cuts that may come next fit
pub record NextFits (f g : List Piece) (w : Walk) : Type 0 where
  pub left : (p : Piece) → slice_get f w.i ≡ Some p → IsBeforeAt p.x g w.j → LineFitsAt p.x w.here.right.line
  pub right : (q : Piece) → slice_get g w.j ≡ Some q → IsBeforeAt q.x f w.i → LineFitsAt q.x w.here.left.line
