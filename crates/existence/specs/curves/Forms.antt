-- There is a curve with the values of one that is given in any form. (Own choice; the normal form itself is that of
-- upp_curve.)
use Rattle.std.specs.Prelude.{ℕ, ◌<◌, ◌^◌}
use Rattle.upp_curve.specs.Curve.{SpecCurve, value_at, HasSameValues}
use Rattle.upp_curve.specs.Curves.{IsCurve}
use Rattle.upp_curve.specs.Normal.{IsRaw, IsNormal}
use Rattle.upp_limits.specs.Limits.{own_gauge}
use Rattle.upp_normal.specs.Normalising.{TailOnGrids}
use Rattle.upp_normal.specs.Room.{TailHasRoom}

-- of any curve, whatever its numbers are, a normal form
abbrev pub NormalFormsExist : Type 0
NormalFormsExist = (c : SpecCurve) → IsRaw c → (d : SpecCurve) × IsNormal d × HasSameValues d c

-- of one whose gauge by itself is below the limit, a curve
abbrev pub CurvesExist : Type 0
CurvesExist = (c : SpecCurve) → IsRaw c → own_gauge c < 2 ^ 120 → (d : SpecCurve) × IsCurve d × HasSameValues d c

-- of one whose numbers have room, and whose whole fractions of the period stand on the grids where they are periods
abbrev pub FormsWithRoomExist : Type 0
FormsWithRoomExist =
    (c : SpecCurve) (times values : ℕ) → IsRaw c → TailOnGrids times values c.tail (value_at c)
    → TailHasRoom times values c.pieces c.tail → (d : SpecCurve) × IsCurve d × HasSameValues d c
