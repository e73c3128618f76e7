-- What a line is at a time. (Bouillard, Boyer and Le Corronc: the affine parts of a piecewise linear function.)
use Rattle.std.specs.Prelude.{Option, Some, None}
use Rattle.rational.specs.Rational.{ℚ, ◌+ℚ◌, ◌*ℚ◌}
use Rattle.rational.specs.Extended.{Ext}
use Rattle.rational.specs.declared.Extended.TheVariants.{Fin, Inf}
use Rattle.upp_curve.specs.declared.affine_segment.line.Line.{Line}

-- the value of a line at t
abbrev pub line_at : Line → ℚ → ℚ
line_at l t = l.icept +ℚ l.slope *ℚ t

-- the value at t of a line that may be missing: no line is infinity
abbrev pub line_value : Option Line → ℚ → Ext
line_value None t = Inf
line_value (Some l) t = Fin (line_at l t)
