-- Turns that are whole periods of a curve apart. Where the curve repeats from 0 on, what one of them is moved to by the start
-- of a piece, an earlier one is too, and backward a later one. Own choice.
use Rattle.std.specs.Prelude.{◌≡◌, ◌⊎◌, ℕ, pos, List, [], ◌∷◌, ◌++◌, Option, Some, None}
use Rattle.rational.specs.Rational.{ℚ, int, ◌+ℚ◌, ◌-ℚ◌, ◌*ℚ◌, ◌≤ℚ◌, ◌<ℚ◌}
use Rattle.upp_curve.specs.declared.affine_segment.line.Piece.{Piece}
use Rattle.upp_curve.specs.declared.curve.Tail.TheVariants.{Periodic}
use Rattle.upp_curve.specs.affine_segment.Pieces.{HasStart}
use Rattle.upp_curve.specs.Curve.{SpecCurve}
use Rattle.flow_watch.specs.watch_laws.Affine.{Among}
use Rattle.run_watch.specs.declared.classes.Side.{Side}
use Rattle.run_watch.specs.declared.classes.Side.TheVariants.{Later, Earlier}
use Rattle.run_watch.specs.declared.watched.Stretch.{Stretch}
use Rattle.run_watch.specs.WatchTimes.{inside}

-- ---- moves
-- p moved by x, to a later or an earlier time
abbrev pub moved : Side → ℚ → ℚ → ℚ
moved Later p x = p +ℚ x
moved Earlier p x = p -ℚ x

-- p moved by the starts of the pieces, as far as that is in the stretch
abbrev pub moves_of : Side → Stretch → ℚ → List Piece → List ℚ
moves_of side s p [] = []
moves_of side s p (q ∷ qs) = inside s (moved side p q.x) ++ moves_of side s p qs

abbrev pub all_moves : Side → Stretch → List Piece → List ℚ → List ℚ
all_moves side s qs [] = []
all_moves side s qs (p ∷ ps) = moves_of side s p qs ++ all_moves side s qs ps

-- ---- classes
-- t is whole periods after u
abbrev pub IsPeriodsAfter : ℚ → ℚ → ℚ → Type 0
IsPeriodsAfter period u t = (n : ℕ) × (t ≡ u +ℚ int (pos n) *ℚ period)

-- t is whole periods after l, which is not the run's start; or before l, which is not its end
abbrev pub Leads : Side → ℚ → ℚ → ℚ → ℚ → Type 0
Leads Later end period l t = IsPeriodsAfter period l t × (int (pos 0) <ℚ l)
Leads Earlier end period l t = IsPeriodsAfter period t l × (l <ℚ end)

-- t is one of these times, or one of them leads it
pub record IsLed (side : Side) (end period : ℚ) (ls : List ℚ) (t : ℚ) : Type 0 where
  pub by : ℚ
  pub has : Among by ls
  pub is : (by ≡ t) ⊎ Leads side end period by t

-- one time more is among these, or led by one of them
pub record AddsLed (side : Side) (end period : ℚ) (had : List ℚ) (t : ℚ) (now : List ℚ) : Type 0 where
  pub kept : (u : ℚ) → Among u had → Among u now
  pub are : (u : ℚ) → Among u now → Among u had ⊎ (u ≡ t)
  pub led : IsLed side end period now t

pub record AreLeads (side : Side) (end period : ℚ) (ts ls : List ℚ) : Type 0 where
  pub are : (t : ℚ) → Among t ls → Among t ts
  pub led : (t : ℚ) → Among t ts → IsLed side end period ls t

-- where there is no period, they are all of the times
abbrev pub AreLeadsBy : Side → ℚ → Option ℚ → List ℚ → List ℚ → Type 0
AreLeadsBy side end None ts ls = ls ≡ ts
AreLeadsBy side end (Some period) ts ls = AreLeads side end period ts ls

-- ---- a curve that repeats from 0 on
pub record IsCycle (c : SpecCurve) (period : ℚ) : Type 0 where
  pub rank : ℚ
  pub rise : ℚ
  pub tail : c.tail ≡ Periodic rank period rise
  pub early : rank ≤ℚ int (pos 0)
  pub some : int (pos 0) <ℚ period

-- whole periods after a start of a piece and before the end another piece starts; the stretch is in the run
pub record Recurs (end : ℚ) (s : Stretch) (qs : List Piece) (period : ℚ) : Type 0 where
  pub some : int (pos 0) <ℚ period
  pub on : (x : ℚ) (n : ℕ) → HasStart x qs → x +ℚ int (pos n) *ℚ period <ℚ end
      → HasStart (x +ℚ int (pos n) *ℚ period) qs
  pub low : int (pos 0) ≤ℚ s.start
  pub high : s.end ≤ℚ end
