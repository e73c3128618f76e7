-- A curve that is listed piece by piece, and when the call for it answers what. Own choice.
use Rattle.std.specs.Prelude.{◌≡◌, ◌≢◌, ◌⊎◌, List, [], ◌∷◌, Option, Some, None, Result, Ok, Err, MatchResult}
use Rattle.std.specs.List.{AllByRecursion}
use Rattle.rational.specs.Rational.{ℚ, ◌+ℚ◌, ◌-ℚ◌, ◌*ℚ◌, ◌≤ℚ◌, ◌<ℚ◌, neg_ℚ}
use Rattle.rational.specs.Ratio.{IsSmall, SumFits}
use Rattle.rational.specs.Extended.{Ext}
use Rattle.rational.specs.declared.Extended.TheVariants.{Fin}
use Rattle.upp_curve.specs.declared.affine_segment.line.Line.{Line}
use Rattle.upp_curve.specs.declared.affine_segment.line.Piece.{Piece}
use Rattle.upp_curve.specs.declared.curve.Tail.{Tail}
use Rattle.upp_curve.specs.declared.curve.Tail.TheVariants.{Periodic, Affine}
use Rattle.upp_limits.specs.declared.own_limits.OverLimit.{OverLimit}
use Rattle.upp_limits.specs.declared.own_limits.OverLimit.TheVariants.{TooWide}
use Rattle.upp_curve.specs.Curve.{SpecCurve, value_at, HasSameValues}
use Rattle.min_plus.specs.Continuity.{IsContinuous}
use Rattle.min_plus.specs.Functions.{zero_q, IsRising}
use Rattle.upp_curve.specs.affine_segment.Pieces.{StartsAtZero}
use Rattle.upp_limits.specs.OwnLimits.{IsOver, IsWithinOwn}
use Rattle.curve_library.specs.declared.texts.PieceText.{PieceText}
use Rattle.curve_library.specs.declared.texts.TailText.{TailText}
use Rattle.curve_library.specs.declared.texts.UseAs.{UseAs}
use Rattle.curve_library.specs.declared.texts.UseAs.TheVariants.{Arrival, Service}
use Rattle.curve_library.specs.declared.fault.CurveFault.{CurveFault}
use Rattle.curve_library.specs.declared.fault.CurveFault.TheVariants.{Negative, ZeroPeriod, NotRising, NotContinuous, NotZeroAtStart, Op, NoMemory}

-- ---- the curve that is meant
-- the line through the value just after the start
abbrev pub text_line : PieceText → Line
text_line p = record { icept = p.after -ℚ p.slope *ℚ p.x; slope = p.slope }

abbrev pub text_piece : PieceText → Piece
text_piece p = record { x = p.x; at = Fin p.at; line = Some (text_line p) }

abbrev pub text_pieces : List PieceText → List Piece
text_pieces [] = []
text_pieces (p ∷ ps) = text_piece p ∷ text_pieces ps

-- the start of the last of p and those after it
abbrev pub last_from : PieceText → List PieceText → ℚ
last_from p [] = p.x
last_from p (q ∷ qs) = last_from q qs

abbrev pub last_start : List PieceText → ℚ
last_start [] = zero_q
last_start (p ∷ ps) = last_from p ps

-- without a tail the last piece goes on for ever
abbrev pub text_tail : List PieceText → Option TailText → Tail
text_tail ps None = Affine (last_start ps)
text_tail ps (Some t) = Periodic t.rank t.period t.rise

abbrev pub listed_curve : List PieceText → Option TailText → SpecCurve
listed_curve ps tail = record { pieces = text_pieces ps; tail = text_tail ps tail }

-- ---- what is asked before the limits
pub record IsNonnegText (p : PieceText) : Type 0 where
  pub start : zero_q ≤ℚ p.x
  pub value : zero_q ≤ℚ p.at
  pub limit : zero_q ≤ℚ p.after

abbrev pub IsNonnegTail : Option TailText → Type 0
IsNonnegTail None = Unit {0}
IsNonnegTail (Some t) = (zero_q ≤ℚ t.rank) × (zero_q ≤ℚ t.rise)

-- no start, value, rank or rise is below 0
pub record AreNonneg (ps : List PieceText) (tail : Option TailText) : Type 0 where
  pub pieces : AllByRecursion IsNonnegText ps
  pub ending : IsNonnegTail tail

-- a period is above 0
abbrev pub HasLength : Option TailText → Type 0
HasLength None = Unit {0}
HasLength (Some t) = zero_q <ℚ t.period

abbrev pub StartsBelow : Option TailText → List PieceText → Type 0
StartsBelow None ps = Unit {0}
StartsBelow (Some t) ps = AllByRecursion (λ p. p.x <ℚ t.rank +ℚ t.period) ps

-- there is a piece, the first starts at 0, starts rise, and are below rank + period
pub record AreInOrder (ps : List PieceText) (tail : Option TailText) : Type 0 where
  pub starts : StartsAtZero (text_pieces ps)
  pub below : StartsBelow tail ps

-- all of them
pub record IsWellFormed (ps : List PieceText) (tail : Option TailText) : Type 0 where
  pub nonneg : AreNonneg ps tail
  pub length : HasLength tail
  pub order : AreInOrder ps tail

-- ---- what is asked of a curve that is within the limits
pub record IsServiceShape (f : ℚ → Ext) : Type 0 where
  pub rises : IsRising f
  pub smooth : IsContinuous f
  pub start : f zero_q ≡ Fin zero_q

abbrev pub HasShape : UseAs → (ℚ → Ext) → Type 0
HasShape Arrival f = IsRising f
HasShape Service f = IsServiceShape f

-- a service curve that rises and jumps
pub record Jumps (use_as : UseAs) (f : ℚ → Ext) : Type 0 where
  pub service : use_as ≡ Service
  pub rises : IsRising f
  pub jumps : ¬ (IsContinuous f)

-- a service curve that rises, never jumps and is not 0 at 0
pub record StartsAboveZero (use_as : UseAs) (f : ℚ → Ext) : Type 0 where
  pub service : use_as ≡ Service
  pub rises : IsRising f
  pub smooth : IsContinuous f
  pub start : f zero_q ≢ Fin zero_q

-- the shapes alone
abbrev pub KeepsShape : UseAs → SpecCurve → Result SpecCurve CurveFault → Type 0
KeepsShape u c (Ok made) = (made ≡ c) × HasShape u (value_at c)
KeepsShape u c (Err Negative) = ⊥
KeepsShape u c (Err ZeroPeriod) = ⊥
KeepsShape u c (Err NotRising) = ¬ (IsRising (value_at c))
KeepsShape u c (Err NotContinuous) = Jumps u (value_at c)
KeepsShape u c (Err NotZeroAtStart) = StartsAboveZero u (value_at c)
KeepsShape u c (Err (Op limit)) = ⊥
KeepsShape u c (Err NoMemory) = ⊥

-- the limits alone: some curve with c's values, or want of memory, where c is within them
abbrev pub KeepsMade : SpecCurve → Result SpecCurve CurveFault → Type 0
KeepsMade c (Ok made) = HasSameValues made c × IsWithinOwn c
KeepsMade c (Err Negative) = ⊥
KeepsMade c (Err ZeroPeriod) = ⊥
KeepsMade c (Err NotRising) = ⊥
KeepsMade c (Err NotContinuous) = ⊥
KeepsMade c (Err NotZeroAtStart) = ⊥
KeepsMade c (Err (Op limit)) = IsOver c limit
KeepsMade c (Err NoMemory) = IsWithinOwn c

-- both: the limits, and within them the shape
abbrev pub KeepsBoth : UseAs → SpecCurve → Result SpecCurve CurveFault → Type 0
KeepsBoth u c (Ok made) = HasSameValues made c × IsWithinOwn c × HasShape u (value_at c)
KeepsBoth u c (Err Negative) = ⊥
KeepsBoth u c (Err ZeroPeriod) = ⊥
KeepsBoth u c (Err NotRising) = IsWithinOwn c × ¬ (IsRising (value_at c))
KeepsBoth u c (Err NotContinuous) = IsWithinOwn c × Jumps u (value_at c)
KeepsBoth u c (Err NotZeroAtStart) = IsWithinOwn c × StartsAboveZero u (value_at c)
KeepsBoth u c (Err (Op limit)) = IsOver c limit
KeepsBoth u c (Err NoMemory) = IsWithinOwn c

-- ---- the lines
-- a line fits: the slope times the start, and the line's value at 0
pub record LineFits (p : PieceText) : Type 0 where
  pub run : IsSmall (p.slope *ℚ p.x)
  pub icept : IsSmall (p.after -ℚ p.slope *ℚ p.x)

-- ---- the call
-- what each answer says; want of memory says that nothing before the limits is wrong, and the curve is within them
abbrev pub KeepsListed : List PieceText → Option TailText → UseAs → Result SpecCurve CurveFault → Type 0
KeepsListed ps tail u (Ok made) = IsWellFormed ps tail × KeepsBoth u (listed_curve ps tail) (Ok made)
KeepsListed ps tail u (Err Negative) = ¬ (AreNonneg ps tail)
KeepsListed ps tail u (Err ZeroPeriod) = AreNonneg ps tail × ¬ (HasLength tail)
KeepsListed ps tail u (Err NotRising) =
    (AreNonneg ps tail × HasLength tail × ¬ (AreInOrder ps tail))
    ⊎ (IsWellFormed ps tail × KeepsBoth u (listed_curve ps tail) (Err NotRising))
KeepsListed ps tail u (Err NotContinuous) = IsWellFormed ps tail
    × KeepsBoth u (listed_curve ps tail) (Err NotContinuous)
KeepsListed ps tail u (Err NotZeroAtStart) = IsWellFormed ps tail
    × KeepsBoth u (listed_curve ps tail) (Err NotZeroAtStart)
KeepsListed ps tail u (Err (Op limit)) = IsWellFormed ps tail × IsOver (listed_curve ps tail) limit
KeepsListed ps tail u (Err NoMemory) = IsWellFormed ps tail × IsWithinOwn (listed_curve ps tail)

-- this answer, or want of memory
abbrev pub AnswersOrWants : Result SpecCurve CurveFault → CurveFault → Type 0
AnswersOrWants answer fault = (answer ≡ Err fault) ⊎ (answer ≡ Err NoMemory)

-- which answer comes when: the first of the causes that is there
pub record ListsFirst (ps : List PieceText) (tail : Option TailText) (u : UseAs)
    (answer : Result SpecCurve CurveFault) : Type 0 where
  pub below : ¬ (AreNonneg ps tail) → answer ≡ Err Negative
  pub empty : AreNonneg ps tail → ¬ (HasLength tail) → answer ≡ Err ZeroPeriod
  pub order : AreNonneg ps tail → HasLength tail → ¬ (AreInOrder ps tail) → answer ≡ Err NotRising
  pub wide : IsWellFormed ps tail → ¬ (AllByRecursion LineFits ps) → answer ≡ Err (Op TooWide)
  pub over : (limit : OverLimit) → IsWellFormed ps tail → IsOver (listed_curve ps tail) limit
      → answer ≡ Err (Op limit)
  pub falls : IsWellFormed ps tail → IsWithinOwn (listed_curve ps tail)
      → ¬ (IsRising (value_at (listed_curve ps tail))) → AnswersOrWants answer NotRising
  pub jumps : IsWellFormed ps tail → IsWithinOwn (listed_curve ps tail) → Jumps u (value_at (listed_curve ps tail))
      → AnswersOrWants answer NotContinuous
  pub lifted : IsWellFormed ps tail → IsWithinOwn (listed_curve ps tail)
      → StartsAboveZero u (value_at (listed_curve ps tail)) → AnswersOrWants answer NotZeroAtStart
  pub within : IsWellFormed ps tail → IsWithinOwn (listed_curve ps tail) → HasShape u (value_at (listed_curve ps tail))
      → MatchResult answer (λ made. HasSameValues made (listed_curve ps tail)) (λ fault. fault ≡ NoMemory)

-- ---- the pieces
-- the steps to the value at 0 of the line fit
pub record TextFits (p : PieceText) : Type 0 where
  pub run : IsSmall (p.slope *ℚ p.x)
  pub icept : SumFits p.after (neg_ℚ (p.slope *ℚ p.x))
