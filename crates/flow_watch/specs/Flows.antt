-- The packets of a flow, and the first that it breaks. Own choice.
use Rattle.std.specs.Prelude.{◌≡◌, ℕ, pos, ◌-◌, ◌<◌, ◌≤◌, ◌==◌, List, [], ◌∷◌, length, Option, Some, None, MatchOption, if◌then◌else◌}
use Rattle.rational.specs.Rational.{ℚ, int, ◌+ℚ◌, ◌-ℚ◌, ◌*ℚ◌, ◌≤ℚ◌, ◌<ℚ◌, neg_ℚ}
use Rattle.rational.specs.Ratio.{SumFits}
use Rattle.rational.specs.Extended.{Ext, ◌≤ₑ◌}
use Rattle.rational.specs.declared.Extended.TheVariants.{Fin}
use Rattle.upp_curve.specs.declared.affine_segment.line.Line.{Line}
use Rattle.upp_curve.specs.declared.affine_segment.line.Piece.{Piece}
use Rattle.upp_curve.specs.affine_segment.Reading.{piece_value}
use Rattle.upp_curve.specs.Curve.{SpecCurve}
use Rattle.upp_normal.specs.Unrolling.{IsOperandTo}
use Rattle.run_laws.specs.Cards.{whole}
use Rattle.run_laws.specs.declared.steps.Step.{Step}
use Rattle.run_laws.specs.declared.steps.Step.TheVariants.{Enter, Reach, Work, Leave, Visit}
use Rattle.flow_watch.specs.declared.watch_laws.entering.Entering.{Entering}
use Rattle.flow_watch.specs.watch_laws.Entries.{entering, bits_between, IsCrowded}
use Rattle.flow_watch.specs.watch_laws.Segments.{next_start}

-- the packet that enters on the flow by this step, if one does
abbrev pub entering_in : ℕ → Step → Option Entering
entering_in flow (Enter f p t b) = if f == flow then Some record { time = t; bits = b } else None
entering_in flow (Reach s p t) = None
entering_in flow (Work s p a b w) = None
entering_in flow (Leave s p t) = None
entering_in flow (Visit s q t) = None

-- ---- lengths
abbrev pub NoneLonger : ℕ → List Entering → Type 0
NoneLonger longest es = (k : ℕ) → k < length es → (entering es k).bits ≤ longest

-- the first that is longer
pub record IsFirstLonger (longest : ℕ) (es : List Entering) (k : ℕ) : Type 0 where
  pub in_range : k < length es
  pub more : longest < (entering es k).bits
  pub before : (j : ℕ) → j < k → (entering es j).bits ≤ longest

-- ---- windows
-- the time from s to t fits, and a curve can be read there
pub record WindowReads (c : SpecCurve) (s t : ℚ) : Type 0 where
  pub forward : s ≤ℚ t
  pub fits : SumFits t (neg_ℚ s)
  pub operand : IsOperandTo (t -ℚ s) c

-- so between each two packets
abbrev pub FlowReads : SpecCurve → List Entering → Type 0
FlowReads c es = (i j : ℕ) → i ≤ j → j < length es → WindowReads c (entering es i).time (entering es j).time

-- the first time and the last
abbrev pub first_time : List Entering → ℚ
first_time es = (entering es 0).time

abbrev pub last_time : List Entering → ℚ
last_time es = (entering es (length es - 1)).time

-- no pair is crowded that ends with packet `last` and begins with packet `from` or a later one
abbrev pub NoneCrowdedFrom : (ℚ → Ext) → List Entering → ℕ → ℕ → Type 0
NoneCrowdedFrom α es from last = (i : ℕ) → from ≤ i → ¬ IsCrowded α es i last

-- the first packet from `from` on with which such a pair begins
pub record IsLeastFirst (α : ℚ → Ext) (es : List Entering) (from last first : ℕ) : Type 0 where
  pub later : from ≤ first
  pub crowded : IsCrowded α es first last
  pub least : (i : ℕ) → from ≤ i → i < first → ¬ IsCrowded α es i last

abbrev pub FindsFirst : (ℚ → Ext) → List Entering → ℕ → ℕ → Option ℕ → Type 0
FindsFirst α es from last found = MatchOption found (NoneCrowdedFrom α es from last) (IsLeastFirst α es from last)

-- no pair at all; the pair of the least last packet, and of those the least first one
abbrev pub NoneCrowded : (ℚ → Ext) → List Entering → ℕ → Type 0
NoneCrowded α es upto = (i j : ℕ) → j < upto → ¬ IsCrowded α es i j

pub record IsFirstCrowded (α : ℚ → Ext) (es : List Entering) (first last : ℕ) : Type 0 where
  pub first_of_it : IsLeastFirst α es 0 last first
  pub none_before : NoneCrowded α es last

-- ---- buckets
-- a bucket is nowhere above a line, nor at x above the value there
pub record IsUnderLine (x value : ℚ) (line : Line) (burst rate : ℚ) : Type 0 where
  pub rate_is : rate ≡ line.slope
  pub at_start : burst +ℚ rate *ℚ x ≤ℚ value
  pub below : burst ≤ℚ line.icept

-- nor above what is read of the piece
abbrev pub IsUnderPiece : Piece → ℚ → ℚ → Type 0
IsUnderPiece p burst rate = (d : ℚ) → int (pos 0) ≤ℚ d → Fin (burst +ℚ rate *ℚ d) ≤ₑ piece_value p d

-- no packets up to number `upto` bring more between two of them
abbrev pub KeepsBucket : ℚ → ℚ → List Entering → ℕ → Type 0
KeepsBucket burst rate es upto = (i j : ℕ) → i ≤ j → j < upto
    → whole (bits_between i j es) ≤ℚ burst +ℚ rate *ℚ ((entering es j).time -ℚ (entering es i).time)

-- ---- pieces
-- the packets do not go back in time
abbrev pub TimesRiseIn : List Entering → Type 0
TimesRiseIn es = (i j : ℕ) → i ≤ j → j < length es → (entering es i).time ≤ℚ (entering es j).time

-- the time from packet i to packet j
abbrev pub gap : List Entering → ℕ → ℕ → ℚ
gap es i j = (entering es j).time -ℚ (entering es i).time

-- d is before an end, if there is one
abbrev pub IsBefore : Option ℚ → ℚ → Type 0
IsBefore None d = Unit {0}
IsBefore (Some end) d = d <ℚ end

-- no packets up to number `upto` bring more between two of them than the piece has, in a window that is shorter than its end
abbrev pub KeepsPiece : List Entering → Piece → Option ℚ → ℕ → Type 0
KeepsPiece es p end upto = (i j : ℕ) → i ≤ j → j < upto → int (pos 0) ≤ℚ gap es i j → IsBefore end (gap es i j)
    → Fin (whole (bits_between i j es)) ≤ₑ piece_value p (gap es i j)

-- so of the first of some pieces, which ends where the next one starts, if it starts by `far`
abbrev pub KeepsAt : List Entering → ℚ → ℕ → List Piece → Type 0
KeepsAt es far upto [] = Unit {0}
KeepsAt es far upto (p ∷ ps) = p.x ≤ℚ far → KeepsPiece es p (next_start ps) upto

-- they bring at most v in a window that is shorter than `end`
abbrev pub KeepsBefore : ℚ → ℚ → List Entering → ℕ → Type 0
KeepsBefore v end es upto = (i j : ℕ) → i ≤ j → j < upto → int (pos 0) ≤ℚ gap es i j → gap es i j <ℚ end
    → whole (bits_between i j es) ≤ℚ v

-- so many bits are of the packets from `first` to `last`, and those before enter `end` or more before the last one
pub record IsNarrow (end : ℚ) (es : List Entering) (last first bits : ℕ) : Type 0 where
  pub in_order : first ≤ last
  pub all : bits ≡ bits_between first last es
  pub far : (i : ℕ) → i < first → end ≤ℚ gap es i last

-- l is at least what is left of the level at this packet, and at least nothing, with the packet's bits
pub record IsRaised (level rate time : ℚ) (e : Entering) (l : ℚ) : Type 0 where
  pub left : (level -ℚ rate *ℚ (e.time -ℚ time)) +ℚ whole e.bits ≤ℚ l
  pub own : whole e.bits ≤ℚ l

-- l holds the windows that end with packet `last`
abbrev pub IsLevel : ℚ → List Entering → ℕ → ℚ → ℚ → Type 0
IsLevel rate es last time l = (i : ℕ) → i ≤ last
    → whole (bits_between i last es) ≤ℚ l +ℚ rate *ℚ (time -ℚ (entering es i).time)
