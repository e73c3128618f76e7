-- The one form in which a curve is kept, so that equal values everywhere mean equal curves.
-- (The form of Bouillard, Boyer and Le Corronc's pseudo-periodic functions is not unique; its choice here is our own.)
use Rattle.std.specs.Prelude.{◌≡◌, ◌≢◌, ℕ, ◌≤◌, pos, List, [], ◌∷◌, Option, None}
use Rattle.rational.specs.Rational.{ℚ, ◌+ℚ◌, ◌/ℚ◌, ◌≤ℚ◌, ◌<ℚ◌, int}
use Rattle.rational.specs.Extended.{Ext}
use Rattle.upp_curve.specs.declared.affine_segment.line.Line.{Line}
use Rattle.upp_curve.specs.declared.affine_segment.line.Piece.{Piece}
use Rattle.upp_curve.specs.affine_segment.Pieces.{Each, HasStart, StartsAtZero}
use Rattle.upp_curve.specs.affine_segment.Values.{line_value}
use Rattle.upp_curve.specs.declared.curve.Tail.{Tail}
use Rattle.upp_curve.specs.declared.curve.Tail.TheVariants.{Periodic, Affine, Infinite}
use Rattle.upp_curve.specs.Curve.{SpecCurve, value_at, HasSameValues}
use Rattle.upp_curve.specs.Steady.{Repeats, rank_of, last_line}

-- ---- any curve: pieces from 0 on in the order of their starts, and a tail for them
-- all starts of a periodic tail's curve are before rank + period
pub record FitsPeriod (ps : List Piece) (rank period : ℚ) : Type 0 where
  pub nonneg : int (pos 0) ≤ℚ rank
  pub some : int (pos 0) <ℚ period
  pub starts : Each (λ p. p.x <ℚ rank +ℚ period) ps

-- no piece of another tail's curve starts after the rank
pub record FitsRank (ps : List Piece) (rank : ℚ) : Type 0 where
  pub nonneg : int (pos 0) ≤ℚ rank
  pub starts : Each (λ p. p.x ≤ℚ rank) ps

abbrev pub TailFits : List Piece → Tail → Type 0
TailFits ps (Periodic rank period rise) = FitsPeriod ps rank period
TailFits ps (Affine rank) = FitsRank ps rank
TailFits ps (Infinite rank) = FitsRank ps rank

-- a curve in any form
pub record IsRaw (c : SpecCurve) : Type 0 where
  pub starts : StartsAtZero c.pieces
  pub tail : TailFits c.pieces c.tail

-- ---- the normal form
-- q goes on with p's line, so the two are one piece
abbrev pub Continues : Piece → Piece → Type 0
Continues p q = (q.at ≡ line_value p.line q.x) × (q.line ≡ p.line)

abbrev pub NoneContinues : Piece → List Piece → Type 0
NoneContinues p [] = Unit {0}
NoneContinues p (q ∷ qs) = ¬ (Continues p q) × NoneContinues q qs

-- no two neighbours are one piece
abbrev pub NoMerge : List Piece → Type 0
NoMerge [] = Unit {0}
NoMerge (p ∷ ps) = NoneContinues p ps

-- a periodic tail that has no shorter period, no earlier rank and is not a single line (or infinite throughout)
pub record IsLeastPeriodic (ps : List Piece) (f : ℚ → Ext) (rank period rise : ℚ) : Type 0 where
  pub least_period : (n : ℕ) → 2 ≤ n → ¬ (Repeats f rank (period /ℚ int (pos n)) (rise /ℚ int (pos n)))
  pub least_rank : Each (λ p. p.x <ℚ rank → ¬ (Repeats f p.x period rise)) ps
  pub not_one_line : (l : Option Line) → ¬ ((t : ℚ) → rank ≤ℚ t → f t ≡ line_value l t)

-- what each kind of tail owes: an affine one goes on with a line, and of an infinite one no line is kept at the rank
abbrev pub TailNormal : List Piece → Tail → (ℚ → Ext) → Type 0
TailNormal ps (Periodic rank period rise) f = IsLeastPeriodic ps f rank period rise
TailNormal ps (Affine rank) f = last_line ps ≢ None
TailNormal ps (Infinite rank) f = last_line ps ≡ None

-- the normal form: a piece starts at the rank, and nothing in it could be left out or made less
pub record IsNormal (c : SpecCurve) : Type 0 where
  pub raw : IsRaw c
  pub rank_is_start : HasStart (rank_of c.tail) c.pieces
  pub no_merge : NoMerge c.pieces
  pub tail : TailNormal c.pieces c.tail (value_at c)

-- two normal curves with one value at each time are one
abbrev pub NormalFormIsUnique : Type 0
NormalFormIsUnique = (c d : SpecCurve) → IsNormal c → IsNormal d → HasSameValues c d → c ≡ d
