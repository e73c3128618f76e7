-- What each step on the way to the normal form leaves of the pieces. Own choice.
use Rattle.std.specs.Prelude.{◌≡◌, ℕ, pos, List, [], ◌∷◌, ◌++◌, ◌⊎◌, ◌-◌, ◌*◌, ◌^◌, ◌<◌, ◌≤◌, cond, length, take, drop, slice_index_or as get_or, Option, None, Some}
use Rattle.rational.specs.Rational.{ℚ, ◌+ℚ◌, ◌/ℚ◌, ◌≤ℚ◌, ◌<ℚ◌, int, le_q, lt_q}
use Rattle.rational.specs.Extended.{Ext, ◌+ₑ◌}
use Rattle.rational.specs.declared.Extended.TheVariants.{Fin}
use Rattle.upp_curve.specs.declared.affine_segment.line.Line.{Line}
use Rattle.upp_curve.specs.declared.affine_segment.line.Piece.{Piece}
use Rattle.upp_curve.specs.affine_segment.Values.{line_value}
use Rattle.upp_curve.specs.declared.curve.Tail.{Tail}
use Rattle.upp_curve.specs.declared.curve.Tail.TheVariants.{Periodic, Affine, Infinite}
use Rattle.rational.specs.Grid.{Whole}
use Rattle.upp_normal.specs.declared.raw_curve.RawCurve.{RawCurve}
use Rattle.upp_normal.specs.declared.cycle.Cycle.{Cycle}
use Rattle.upp_normal.specs.declared.cycle.Shape.{Shape}
use Rattle.upp_normal.specs.declared.cycle.Shape.TheVariants.{Straight, Turns}
use Rattle.upp_curve.specs.affine_segment.Fits.{LineFitsAt}
use Rattle.upp_curve.specs.Fitting.{LaterFits}
use Rattle.upp_curve.specs.affine_segment.Reading.{read, piece_in, piece_value}
use Rattle.upp_curve.specs.Curve.{SpecCurve, repeated, value_at}
use Rattle.upp_curve.specs.Steady.{Repeats, last_of}
use Rattle.upp_curve.specs.Unrolled.{line_later, later, each_later, upto, from}
use Rattle.upp_curve.specs.affine_segment.Pieces.{StartsAtZero, RisesFrom, Each, HasStart}
use Rattle.upp_curve.specs.Normal.{NoMerge, NoneContinues, Continues, IsNormal}

-- rs is ps with some pieces taken out
abbrev pub IsPart : List Piece → List Piece → Type 0
IsPart rs [] = rs ≡ []
IsPart rs (p ∷ ps) = IsPart rs ps ⊎ ((qs : List Piece) × (rs ≡ p ∷ qs) × IsPart qs ps)

-- p and then `rest` read as p and then ps, and no piece goes on with the one before it
pub record IsMerged (p : Piece) (ps rest : List Piece) : Type 0 where
  pub rises : RisesFrom p.x rest
  pub none : NoneContinues p rest
  pub part : IsPart rest ps
  pub reads : (t : ℚ) → read (p ∷ rest) t ≡ read (p ∷ ps) t

-- ps begins with the pieces of front
pub record IsFront (front ps : List Piece) : Type 0 where
  pub more : List Piece
  pub is : ps ≡ front ++ more

-- ---- a second period
-- the piece that starts at t where the one that is read there, of p and those after it, is cut
abbrev pub cut_at : Piece → List Piece → ℚ → Piece
cut_at p ps t = record { x = t; at = piece_value (piece_in p ps t) t; line = (piece_in p ps t).line }

-- the pieces that start past t
unfoldable pub past : ℚ → List Piece → List Piece
past t [] = []
past t (p ∷ ps) = cond (le_q p.x t) (past t ps) (p ∷ past t ps)

-- what is read from the rank on, a period later and a rise higher
abbrev pub second_copy : Piece → List Piece → ℚ → ℚ → ℚ → List Piece
second_copy p ps rank period rise = each_later period rise (cut_at p ps rank ∷ past rank ps)

-- the pieces before the rank, and the value at it with no line after
abbrev pub ended : List Piece → ℚ → List Piece
ended ps rank = upto rank ps ++ record { x = rank; at = read ps rank; line = None } ∷ []

abbrev pub first_start : List Piece → Option ℚ
first_start [] = None
first_start (p ∷ ps) = Some p.x

-- ---- where the tail has its breaks
-- pieces of a periodic curve below rank + 2 period, of which none goes on with the one before it
pub record IsTwoPeriods (ps : List Piece) (rank period rise : ℚ) : Type 0 where
  pub starts : StartsAtZero ps
  pub none : NoMerge ps
  pub nonneg : int (pos 0) ≤ℚ rank
  pub some : int (pos 0) <ℚ period
  pub inside : Each (λ p. p.x <ℚ rank +ℚ period +ℚ period) ps
  pub again : (t : ℚ) → t <ℚ rank +ℚ period +ℚ period → read ps t ≡ repeated (read ps) rank period rise t

-- the pieces of a periodic curve, of which none goes on with the one before it, and one starts at the rank
pub record IsCycle (ps : List Piece) (rank period : ℚ) : Type 0 where
  pub starts : StartsAtZero ps
  pub none : NoMerge ps
  pub has : HasStart rank ps
  pub nonneg : int (pos 0) ≤ℚ rank
  pub some : int (pos 0) <ℚ period
  pub inside : Each (λ p. p.x <ℚ rank +ℚ period) ps

-- the next period's first piece does not go on with the last of these
abbrev pub EndsInBreak : List Piece → ℚ → ℚ → ℚ → Type 0
EndsInBreak ps rank period rise = (p : Piece) (qs : List Piece) → from rank ps ≡ p ∷ qs
    → ¬ (Continues (last_of p qs) (later period rise p))

-- the pieces alone read as the curve
pub record IsLine (ps : List Piece) (f : ℚ → Ext) : Type 0 where
  pub starts : StartsAtZero ps
  pub none : NoMerge ps
  pub reads : (t : ℚ) → int (pos 0) ≤ℚ t → read ps t ≡ f t

-- a curve whose period begins and ends at a break; as many pieces as `first` start before the rank
pub record Turned (ps : List Piece) (first : ℕ) (rank period rise : ℚ) (f : ℚ → Ext) : Type 0 where
  pub cycle : IsCycle ps rank period
  pub break : EndsInBreak ps rank period rise
  pub first_is : first ≡ length (upto rank ps)
  pub same : (t : ℚ) → int (pos 0) ≤ℚ t → repeated (read ps) rank period rise t ≡ f t

-- a curve with f's values whose period begins and ends at a break
abbrev pub IsTurning : Cycle → (ℚ → Ext) → Type 0
IsTurning c f = Turned c.pieces.items c.first c.rank c.period c.rise f

abbrev pub IsShape : List Piece → ℚ → ℚ → ℚ → Shape → Type 0
IsShape ps rank period rise (Straight kept) = IsFront kept.items ps
    × IsLine kept.items (repeated (read ps) rank period rise)
IsShape ps rank period rise (Turns c) =
    IsFront c.pieces.items ps × (rank ≤ℚ c.rank) × (c.rank ≤ℚ rank +ℚ period) × (c.period ≡ period) × (c.rise ≡ rise)
    × IsTurning c (repeated (read ps) rank period rise)

-- ---- the least rank
-- p's values, a period later and a rise higher, lie in the piece `last`
pub record RepeatsIn (p last : Piece) (period rise : ℚ) : Type 0 where
  pub early : last.x ≤ℚ p.x +ℚ period
  pub line : last.line ≡ line_later period rise p.line
  pub at : piece_value last (p.x +ℚ period) ≡ p.at +ₑ Fin rise

-- a curve with f's values whose rule holds from no start before its rank, which is at most `rank`, and whose pieces are
-- given ones from the first on
pub record IsLowest (given ps : List Piece) (low period rise rank : ℚ) (f : ℚ → Ext) : Type 0 where
  pub front : IsFront ps given
  pub cycle : IsCycle ps low period
  pub lower : low ≤ℚ rank
  pub same : (t : ℚ) → int (pos 0) ≤ℚ t → repeated (read ps) low period rise t ≡ f t
  pub least : Each (λ p. p.x <ℚ low → ¬ (Repeats (repeated (read ps) low period rise) p.x period rise)) ps

-- p moved by a period and a rise, and its value there, fit
pub record MoveReads (period rise : ℚ) (p : Piece) : Type 0 where
  pub moved : LaterFits period rise p
  pub reached : LineFitsAt (p.x +ℚ period) (line_later period rise p.line)

-- one step down fits (z stands for a piece past the end)
abbrev pub StepFits : List Piece → ℕ → ℚ → ℚ → Piece → Type 0
StepFits ps first period rise z =
    LaterFits period rise (get_or ps (first - 1) z)
    × ((get_or ps (length ps - 1) z).line ≡ line_later period rise (get_or ps (first - 1) z).line
    → LineFitsAt ((get_or ps (first - 1) z).x +ℚ period) (get_or ps (length ps - 1) z).line)

-- each piece before the rank, moved by a period, and its value there, fit
abbrev pub StepsFit : List Piece → ℚ → ℚ → ℚ → Type 0
StepsFit ps rank period rise = Each (λ p. p.x <ℚ rank → MoveReads period rise p) ps

-- the pieces without the last, where its start x is not before `end`
unfoldable pub cut_last : List Piece → ℚ → ℚ → List Piece
cut_last ps x end = cond (lt_q x end) ps (take (length ps - 1) ps)

-- what one step down says of the pieces ps of which `first` start before the rank: from the start that it gives the
-- rule holds (z stands for a piece past the end)
abbrev pub Lowers : List Piece → List Piece → ℕ → ℚ → ℚ → Piece → Option ℚ → Type 0
Lowers ps new first period rise z None = (new ≡ ps)
    × ¬ (RepeatsIn (get_or ps (first - 1) z) (get_or ps (length ps - 1) z) period rise)
Lowers ps new first period rise z (Some x) =
    (x ≡ (get_or ps (first - 1) z).x) × RepeatsIn (get_or ps (first - 1) z) (get_or ps (length ps - 1) z) period rise
    × (new ≡ cut_last ps (get_or ps (length ps - 1) z).x ((get_or ps (first - 1) z).x +ℚ period))

-- ---- the least period
-- each piece from the k-th on is the one k before it, `by` later and `rise` higher
abbrev pub GoesOn : List Piece → ℕ → ℚ → ℚ → Type 0
GoesOn ps k by rise = drop k ps ≡ each_later by rise (take (length ps - k) ps)

abbrev pub cycle_values : Cycle → ℚ → Ext
cycle_values c = repeated (read c.pieces.items) c.rank c.period c.rise

-- how many pieces there are in a period
abbrev pub turn_count : Cycle → ℕ
turn_count c = length (from c.rank c.pieces.items)

-- grids of times and of values, as fractions have denominators
pub record AreGrids (times values : ℕ) : Type 0 where
  pub some_times : 0 < times
  pub some_values : 0 < values
  pub small_times : times < 2 ^ 127
  pub small_values : values < 2 ^ 127

-- where a whole fraction of the period, with that of the rise, is a period of f from `from` on, it is a whole multiple
-- of 1 / times, and its rise of 1 / values
pub record OnGrids (times values : ℕ) (f : ℚ → Ext) (from period rise : ℚ) : Type 0 where
  pub time : (n : ℕ) → 1 ≤ n → Repeats f from (period /ℚ int (pos n)) (rise /ℚ int (pos n))
      → Whole times (period /ℚ int (pos n))
  pub value : (n : ℕ) → 1 ≤ n → Repeats f from (period /ℚ int (pos n)) (rise /ℚ int (pos n))
      → Whole values (rise /ℚ int (pos n))

-- each piece moved by a whole fraction of the period and of the rise fits, where both are on the grids
abbrev pub SharesFit : ℕ → ℕ → List Piece → ℚ → ℚ → Type 0
SharesFit times values ps period rise =
    (n : ℕ) → 1 ≤ n → Whole times (period /ℚ int (pos n)) → Whole values (rise /ℚ int (pos n))
    → Each (LaterFits (period /ℚ int (pos n)) (rise /ℚ int (pos n))) ps

-- d is c, and a period of c divided by `parts` is none
pub record StaysWhole (c : Cycle) (parts : ℕ) (d : Cycle) : Type 0 where
  pub period : d.period ≡ c.period
  pub rise : d.rise ≡ c.rise
  pub count : turn_count d ≡ turn_count c
  pub none : ¬ (Repeats (cycle_values c) c.rank (c.period /ℚ int (pos parts)) (c.rise /ℚ int (pos parts)))

-- d has c's period divided by `parts`
pub record IsCut (c : Cycle) (parts : ℕ) (d : Cycle) : Type 0 where
  pub period : d.period ≡ c.period /ℚ int (pos parts)
  pub rise : d.rise ≡ c.rise /ℚ int (pos parts)
  pub count : turn_count c ≡ parts * turn_count d

pub record IsDivided (c : Cycle) (parts : ℕ) (d : Cycle) : Type 0 where
  pub front : IsFront d.pieces.items c.pieces.items
  pub turned : IsTurning d (cycle_values c)
  pub rank : d.rank ≡ c.rank
  pub outcome : StaysWhole c parts d ⊎ IsCut c parts d

-- a curve with c's values and rank, whose period divided by no whole number from 2 on is a period
pub record IsLeast (times values : ℕ) (c d : Cycle) : Type 0 where
  pub front : IsFront d.pieces.items c.pieces.items
  pub share : (n : ℕ) × (1 ≤ n) × (d.period ≡ c.period /ℚ int (pos n)) × (d.rise ≡ c.rise /ℚ int (pos n))
      × Whole times d.period × Whole values d.rise
  pub turned : IsTurning d (cycle_values c)
  pub rank : d.rank ≡ c.rank
  pub least : (n : ℕ) → 2 ≤ n → ¬ (Repeats (cycle_values d) d.rank (d.period /ℚ int (pos n)) (d.rise /ℚ int (pos n)))

-- ---- the whole
-- a normal form with f's values
pub record IsFormOf (c : SpecCurve) (f : ℚ → Ext) : Type 0 where
  pub normal : IsNormal c
  pub same : (t : ℚ) → int (pos 0) ≤ℚ t → value_at c t ≡ f t

-- c has f's values
abbrev pub HasValues : SpecCurve → (ℚ → Ext) → Type 0
HasValues c f = (t : ℚ) → int (pos 0) ≤ℚ t → value_at c t ≡ f t

abbrev pub raw_curve : RawCurve → SpecCurve
raw_curve r = record { pieces = r.pieces.items; tail = r.tail }

-- f is one line from `from` on; no line is infinity
abbrev pub IsOneLine : (ℚ → Ext) → ℚ → Type 0
IsOneLine f from = (l : Option Line) × ((t : ℚ) → from ≤ℚ t → f t ≡ line_value l t)

abbrev pub OnGridsUnlessLine : ℕ → ℕ → (ℚ → Ext) → ℚ → ℚ → ℚ → Type 0
OnGridsUnlessLine times values f from period rise = ¬ (IsOneLine f from) → OnGrids times values f from period rise

-- the whole fractions of a periodic tail's period that are periods, and their rises, are on the grids, unless the tail
-- is one line
abbrev pub TailOnGrids : ℕ → ℕ → Tail → (ℚ → Ext) → Type 0
TailOnGrids times values (Periodic rank period rise) f = OnGridsUnlessLine times values f rank period rise
TailOnGrids times values (Affine rank) f = Unit {0}
TailOnGrids times values (Infinite rank) f = Unit {0}
