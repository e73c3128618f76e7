-- The rationals with infinity above them all: order, sum, and the lesser and the greater of two. Textbook.
use Rattle.rational.specs.Rational.{ℚ, ◌+ℚ◌, ◌-ℚ◌, ◌≤ℚ◌, ◌<ℚ◌}
use Rattle.rational.specs.declared.Extended.{Extended}
use Rattle.rational.specs.MinMax.{min_q, max_q}
use Rattle.rational.specs.declared.Extended.TheVariants.{Fin, Inf}

-- a rational, or infinity
abbrev pub Ext : Type 0
Ext = Extended ℚ

infix 4 ◌≤ₑ◌ ◌<ₑ◌
-- at most: everything is at most infinity
abbrev pub ◌≤ₑ◌ : Ext → Ext → Type 0
x ≤ₑ Inf = Unit {0}
Inf ≤ₑ Fin y = ⊥
Fin x ≤ₑ Fin y = x ≤ℚ y

-- less: every number is less than infinity, which is less than nothing
abbrev pub ◌<ₑ◌ : Ext → Ext → Type 0
Inf <ₑ y = ⊥
Fin x <ₑ Inf = Unit {0}
Fin x <ₑ Fin y = x <ℚ y

infixl 6 ◌+ₑ◌ ◌-ₑ◌
-- the sum, infinite where a term is
abbrev pub ◌+ₑ◌ : Ext → Ext → Ext
Inf +ₑ y = Inf
Fin x +ₑ Inf = Inf
Fin x +ₑ Fin y = Fin (x +ℚ y)

-- x less a rational
abbrev pub ◌-ₑ◌ : Ext → ℚ → Ext
Inf -ₑ y = Inf
Fin x -ₑ y = Fin (x -ℚ y)

-- the lesser of two
abbrev pub min_ext : Ext → Ext → Ext
min_ext Inf y = y
min_ext (Fin x) Inf = Fin x
min_ext (Fin x) (Fin y) = Fin (min_q x y)

-- the greater of two
abbrev pub max_ext : Ext → Ext → Ext
max_ext Inf y = Inf
max_ext (Fin x) Inf = Inf
max_ext (Fin x) (Fin y) = Fin (max_q x y)
