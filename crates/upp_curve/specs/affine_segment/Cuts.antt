-- The lower of two lines on an open interval. (Bouillard, Boyer and Le Corronc: the minimum of elementary functions;
-- its form, two lines and the time of the change, is an own choice.)
use Rattle.std.specs.Prelude.{◌≡◌, ◌≢◌, ◌⊎◌, Option, Some, None, IfSome}
use Rattle.rational.specs.Rational.{ℚ, ◌≤ℚ◌, ◌<ℚ◌}
use Rattle.rational.specs.Extended.{Ext, ◌<ₑ◌}
use Rattle.rational.specs.declared.Extended.TheVariants.{Fin}
use Rattle.rational.specs.MinMax.{min_q}
use Rattle.upp_curve.specs.declared.affine_segment.line.Line.{Line}
use Rattle.upp_curve.specs.declared.affine_segment.cut.Cut.{Cut}
use Rattle.upp_curve.specs.affine_segment.Values.{line_at}

-- t is strictly between `from` and `to`
pub record IsWithin (from : ℚ) (to : Ext) (t : ℚ) : Type 0 where
  pub past : from <ℚ t
  pub before : Fin t <ₑ to

-- the line m is the lower of a and b at t
abbrev pub IsLowerAt : Line → Line → Line → ℚ → Type 0
IsLowerAt a b m t = line_at m t ≡ min_q (line_at a t) (line_at b t)

-- one line is the lower throughout, or one is up to a time x within, and the other from x on
abbrev pub CutsAt : Line → Line → ℚ → Ext → Line → Option ℚ → Line → Type 0
CutsAt a b from to low None after = (low ≡ after) × ((t : ℚ) → IsWithin from to t → IsLowerAt a b low t)
CutsAt a b from to low (Some x) after =
    IsWithin from to x
    × ((t : ℚ) → IsWithin from to t → t ≤ℚ x → IsLowerAt a b low t)
    × ((t : ℚ) → IsWithin from to t → x ≤ℚ t → IsLowerAt a b after t)

-- two lines of different slopes meet at x
abbrev pub CrossAt : Line → Line → ℚ → Type 0
CrossAt a b x = (a.slope ≢ b.slope) × (line_at a x ≡ line_at b x)

-- the lower of the lines a and b between `from` and `to`: each part is one of the two, and it changes at most once, and
-- only where they cross
pub record IsLowerCut (a b : Line) (from : ℚ) (to : Ext) (cut : Cut) : Type 0 where
  pub low : (cut.low ≡ a) ⊎ (cut.low ≡ b)
  pub after : (cut.after ≡ a) ⊎ (cut.after ≡ b)
  pub lower : CutsAt a b from to cut.low cut.at cut.after
  pub turns : IfSome cut.at (CrossAt a b)

-- the same between any two times
abbrev pub IsLowerThroughout : Line → Line → Cut → Type 0
IsLowerThroughout a b cut = (from : ℚ) (to : Ext) → IsLowerCut a b from to cut
