-- The segments of a curve that start no later than the length of a window need be. Own choice.
use Rattle.std.specs.Prelude.{Bool, false, List, [], ◌∷◌, Option, Some, None, if◌then◌else◌}
use Rattle.rational.specs.Rational.{ℚ, lt_q}
use Rattle.flow_watch.specs.declared.watch_laws.point.Segment.{Segment}

-- d is longer than the reach; where there is none it never is
abbrev pub is_beyond : Option ℚ → ℚ → Bool
is_beyond None d = false
is_beyond (Some reach) d = lt_q reach d

-- those of the segments that do not start beyond it
abbrev pub within_reach : Option ℚ → List Segment → List Segment
within_reach reach [] = []
within_reach reach (g ∷ gs) = if is_beyond reach g.start then within_reach reach gs else g ∷ within_reach reach gs
