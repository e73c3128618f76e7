-- Pieces in the order of their starts, read as a function of time. Each piece gives the value at its start and, by its
-- line, those after it up to the next start. (Bouillard, Boyer and Le Corronc: piecewise affine functions.)
use Rattle.std.specs.Prelude.{cond, List, [], ◌∷◌, Option, Some, None}
use Rattle.rational.specs.Rational.{ℚ, le_q, lt_q}
use Rattle.rational.specs.Extended.{Ext}
use Rattle.rational.specs.declared.Extended.TheVariants.{Inf}
use Rattle.upp_curve.specs.declared.affine_segment.line.Line.{Line}
use Rattle.upp_curve.specs.declared.affine_segment.line.Piece.{Piece}
use Rattle.upp_curve.specs.affine_segment.Values.{line_value}

-- infinity from x on
abbrev pub nothing_at : ℚ → Piece
nothing_at x = record { x = x; at = Inf; line = None }

-- the value at t of a piece that starts at t or before
unfoldable pub piece_value : Piece → ℚ → Ext
piece_value p t = cond (le_q t p.x) p.at (line_value p.line t)

-- the last piece that starts at t or before: p, or one of those after it
unfoldable pub piece_in : Piece → List Piece → ℚ → Piece
piece_in p [] t = p
piece_in p (q ∷ qs) t = cond (le_q q.x t) (piece_in q qs t) p

-- the last piece that starts before t: p, or one of those after it
unfoldable pub piece_before : Piece → List Piece → ℚ → Piece
piece_before p [] t = p
piece_before p (q ∷ qs) t = cond (lt_q q.x t) (piece_before q qs t) p

-- the value at t
unfoldable pub read : List Piece → ℚ → Ext
read [] t = Inf
read (p ∷ ps) t = piece_value (piece_in p ps t) t

-- the value just after t, as a limit
unfoldable pub read_after : List Piece → ℚ → Ext
read_after [] t = Inf
read_after (p ∷ ps) t = line_value (piece_in p ps t).line t

-- the value just before t, as a limit
unfoldable pub read_before : List Piece → ℚ → Ext
read_before [] t = Inf
read_before (p ∷ ps) t = line_value (piece_before p ps t).line t

-- where the first piece after t starts, and `after` where none does
unfoldable pub next_in : List Piece → ℚ → Option ℚ → Option ℚ
next_in [] t after = after
next_in (p ∷ ps) t after = cond (le_q p.x t) (next_in ps t after) (Some p.x)

-- the line of the last piece that starts at t or before
abbrev pub line_in : List Piece → ℚ → Option Line
line_in [] t = None
line_in (p ∷ ps) t = (piece_in p ps t).line
