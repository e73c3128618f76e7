-- From when on a curve repeats, and by how much it rises. (Bouillard, Boyer and Le Corronc: the rank, the period and
-- the increment of a pseudo-periodic function; the time one after the rank of other tails is our own choice.)
use Rattle.std.specs.Prelude.{◌≡◌, ℕ, pos, Bool, true, false, ◌&&◌, List, [], ◌∷◌, Option, Some, None}
use Rattle.rational.specs.Rational.{ℚ, ◌+ℚ◌, ◌*ℚ◌, ◌/ℚ◌, ◌≤ℚ◌, int, le_q}
use Rattle.rational.specs.Extended.{Ext, ◌+ₑ◌}
use Rattle.rational.specs.declared.Extended.TheVariants.{Fin, Inf}
use Rattle.upp_curve.specs.declared.affine_segment.line.Line.{Line}
use Rattle.upp_curve.specs.declared.affine_segment.line.Piece.{Piece}
use Rattle.upp_curve.specs.affine_segment.Values.{line_value}
use Rattle.upp_curve.specs.declared.curve.Tail.{Tail}
use Rattle.upp_curve.specs.declared.curve.Tail.TheVariants.{Periodic, Affine, Infinite}
use Rattle.upp_curve.specs.affine_segment.Reading.{read}
use Rattle.upp_curve.specs.Curve.{SpecCurve}

-- from `from` on each time `period` later has the value, risen by `rise`
pub record Repeats (f : ℚ → Ext) (from period rise : ℚ) : Type 0 where
  pub rule : (t : ℚ) → from ≤ℚ t → f (t +ℚ period) ≡ f t +ₑ Fin rise

-- ---- the parts of a curve that its tail goes on with
abbrev pub rank_of : Tail → ℚ
rank_of (Periodic rank period rise) = rank
rank_of (Affine rank) = rank
rank_of (Infinite rank) = rank

-- the last of p and the pieces after it
abbrev pub last_of : Piece → List Piece → Piece
last_of p [] = p
last_of p (q ∷ qs) = last_of q qs

-- the line of the last piece
abbrev pub last_line : List Piece → Option Line
last_line [] = None
last_line (p ∷ ps) = (last_of p ps).line

-- ---- when the tail's rule begins to hold
unfoldable pub same_ext : Ext → Ext → Bool
same_ext Inf Inf = true
same_ext Inf (Fin y) = false
same_ext (Fin x) Inf = false
same_ext (Fin x) (Fin y) = le_q x y && le_q y x

-- the rank, or 1 later
abbrev pub later_unless : Bool → ℚ → ℚ
later_unless true rank = rank
later_unless false rank = rank +ℚ int (pos 1)

-- the rank, or 1 later where the value at the rank of an affine tail is not its line's, or that of an infinite tail is
-- finite
abbrev pub steady_in : List Piece → Tail → ℚ
steady_in ps (Periodic rank period rise) = rank
steady_in ps (Affine rank) = later_unless (same_ext (read ps rank) (line_value (last_line ps) rank)) rank
steady_in ps (Infinite rank) = later_unless (same_ext (read ps rank) Inf) rank

-- from when on a curve repeats with each of its periods
unfoldable pub steady : SpecCurve → ℚ
steady c = steady_in c.pieces c.tail

-- ---- by how much it rises
abbrev pub slope_times : Option Line → ℚ → ℚ
slope_times None d = int (pos 0)
slope_times (Some l) d = l.slope *ℚ d

abbrev pub rise_in : List Piece → Tail → ℚ → ℚ
rise_in ps (Periodic rank period rise) d = rise *ℚ (d /ℚ period)
rise_in ps (Affine rank) d = slope_times (last_line ps) d
rise_in ps (Infinite rank) d = int (pos 0)

-- by how much the tail rises over d, where d is a whole number of its periods
unfoldable pub rise_over : SpecCurve → ℚ → ℚ
rise_over c d = rise_in c.pieces c.tail d

-- d is a whole number of the tail's periods; an affine and an infinite tail have every period
abbrev pub IsWholePeriods : Tail → ℚ → Type 0
IsWholePeriods (Periodic rank period rise) d = (n : ℕ) × (d ≡ int (pos n) *ℚ period)
IsWholePeriods (Affine rank) d = Unit {0}
IsWholePeriods (Infinite rank) d = Unit {0}

abbrev pub slope_of : Option Line → Ext
slope_of None = Inf
slope_of (Some l) = Fin l.slope

abbrev pub rate_in : List Piece → Tail → Ext
rate_in ps (Periodic rank period rise) = Fin (rise /ℚ period)
rate_in ps (Affine rank) = slope_of (last_line ps)
rate_in ps (Infinite rank) = Inf

-- the long-run rate: rise over period, or the slope of an affine tail; that of an infinite tail is infinite
unfoldable pub rate : SpecCurve → Ext
rate c = rate_in c.pieces c.tail
