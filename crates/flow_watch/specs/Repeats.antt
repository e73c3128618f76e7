-- Packets held to one flat piece of a curve that repeats: in each window that is shorter than its end they bring at most what it has, and
-- a rise more for each period that the window is longer. Own choice.
use Rattle.std.specs.Prelude.{◌≡◌, ℕ, pos, ◌<◌, ◌≤◌, List, [], ◌∷◌, Some, unwrap_or}
use Rattle.rational.specs.Rational.{ℚ, int, ◌+ℚ◌, ◌-ℚ◌, ◌*ℚ◌, ◌≤ℚ◌, ◌<ℚ◌}
use Rattle.rational.specs.Extended.{◌≤ₑ◌}
use Rattle.rational.specs.declared.Extended.TheVariants.{Fin}
use Rattle.upp_curve.specs.declared.affine_segment.line.Piece.{Piece}
use Rattle.upp_curve.specs.declared.curve.Tail.TheVariants.{Periodic}
use Rattle.upp_curve.specs.affine_segment.Reading.{piece_value}
use Rattle.upp_curve.specs.Curve.{SpecCurve}
use Rattle.run_laws.specs.Cards.{whole}
use Rattle.flow_watch.specs.declared.watch_laws.entering.Entering.{Entering}
use Rattle.flow_watch.specs.watch_laws.Entries.{bits_between}
use Rattle.flow_watch.specs.watch_laws.Segments.{next_start}
use Rattle.flow_watch.specs.declared.ends.Cycle.{Cycle}
use Rattle.flow_watch.specs.declared.repeats.Cover.{Cover}
use Rattle.flow_watch.specs.declared.repeats.Climb.{Climb}
use Rattle.flow_watch.specs.Flows.{gap, KeepsPiece}

-- ---- steps and their line
-- so many steps hold v and what is spared
pub record IsCover (height v : ℚ) (c : Cover) : Type 0 where
  pub number : ℕ
  pub is : c.count ≡ whole number
  pub all : v +ℚ c.spare ≡ c.count *ℚ height
  pub some : int (pos 0) ≤ℚ c.spare

-- a line from 0 or above that rises by one in each period and has so many at `end`
pub record IsLineTo (count end period : ℚ) (c : Climb) : Type 0 where
  pub one : c.rate *ℚ period ≡ int (pos 1)
  pub rises : int (pos 0) <ℚ c.rate
  pub slack : c.slack ≡ count -ℚ c.rate *ℚ end
  pub some : int (pos 0) ≤ℚ c.slack

-- ---- windows
-- the first packets bring at most v in a window that is shorter than `end`, and a rise more for each period that it is longer
abbrev pub KeepsSteps : ℚ → ℚ → ℚ → ℚ → List Entering → ℕ → Type 0
KeepsSteps v end period rise es upto = (i j k : ℕ) → i ≤ j → j < upto → int (pos 0) ≤ℚ gap es i j
    → gap es i j <ℚ end +ℚ whole k *ℚ period
    → whole (bits_between i j es) ≤ℚ v +ℚ whole k *ℚ rise

-- ---- pieces
-- wherever the piece is read, it has at least v
abbrev pub HasAtLeast : Piece → ℚ → Type 0
HasAtLeast p v = (d : ℚ) → int (pos 0) ≤ℚ d → Fin v ≤ₑ piece_value p d

-- so many bits as it has, with the rises of the periods past its end, hold the first packets
abbrev pub HoldsSteps : ℚ → ℚ → List Entering → Piece → ℚ → ℕ → Type 0
HoldsSteps period rise es p end upto = (v : ℚ) × HasAtLeast p v × KeepsSteps v end period rise es upto

-- the first packets keep a piece that ends at `end`, and what repeats of it: where it ends after the rank
pub record HoldsPiece (rank period rise : ℚ) (es : List Entering) (p : Piece) (end : ℚ) (upto : ℕ) : Type 0 where
  pub first : KeepsPiece es p (Some end) upto
  pub again : rank <ℚ end → HoldsSteps period rise es p end upto

-- so the first of some pieces, each of which ends where the next one starts, and the last at `end`
abbrev pub HoldsAt : ℚ → ℚ → ℚ → List Entering → ℚ → ℕ → List Piece → Type 0
HoldsAt rank period rise es end upto [] = Unit {0}
HoldsAt rank period rise es end upto (p ∷ ps) = HoldsPiece rank period rise es p (unwrap_or (next_start ps) end) upto

-- ---- what repeats of a curve, and where its first period ends
pub record IsCycleOf (arrival : SpecCurve) (cycle : Cycle) : Type 0 where
  pub tail : arrival.tail ≡ Periodic cycle.rank cycle.period cycle.rise
  pub end : cycle.end ≡ cycle.rank +ℚ cycle.period
