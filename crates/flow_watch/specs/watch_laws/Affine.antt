-- Functions of time that are affine but at some times. Textbook.
use Rattle.std.specs.Prelude.{◌≡◌, ◌⊎◌, List, [], ◌∷◌}
use Rattle.rational.specs.Rational.{ℚ, ◌+ℚ◌, ◌-ℚ◌, ◌*ℚ◌, ◌≤ℚ◌}
pub use Rattle.run_laws.specs.Times.{EachTime, Among}

-- from x to y the function is a line of slope r
abbrev pub IsLineOn : (ℚ → ℚ) → ℚ → ℚ → ℚ → Type 0
IsLineOn g r x y = (z : ℚ) → x ≤ℚ z → z ≤ℚ y → g z ≡ g x +ℚ r *ℚ (z -ℚ x)

-- none of these times is strictly between x and y
abbrev pub NoneInside : ℚ → ℚ → List ℚ → Type 0
NoneInside x y [] = Unit {0}
NoneInside x y (l ∷ ls) = (l ≤ℚ x ⊎ y ≤ℚ l) × NoneInside x y ls

-- from lo to hi the function is a line wherever none of these times is inside
abbrev pub IsAffineOff : (ℚ → ℚ) → List ℚ → ℚ → ℚ → Type 0
IsAffineOff g ls lo hi = (x y : ℚ) → lo ≤ℚ x → x ≤ℚ y → y ≤ℚ hi → NoneInside x y ls → (r : ℚ) × IsLineOn g r x y

-- from lo to hi the function is affine but at finitely many times, which all are of a kind
pub record IsPiecewise (g : ℚ → ℚ) (P : ℚ → Type 0) (lo hi : ℚ) : Type 0 where
  pub times : List ℚ
  pub are : EachTime P times
  pub affine : IsAffineOff g times lo hi
