-- The closures of a point and of a line on an open stretch, as curves in normal form. (Bouillard, Boyer and Le Corronc:
-- closures of elementary functions are ultimately pseudo-periodic.)
use Rattle.std.specs.Prelude.{ℕ, zero, suc, ◌≤◌, cond, List, [], ◌∷◌, Some, None}
use Rattle.rational.specs.Rational.{ℚ, ◌≤ℚ◌, lt_q}
use Rattle.rational.specs.Extended.{Ext, ◌≤ₑ◌, ◌<ₑ◌}
use Rattle.rational.specs.declared.Extended.TheVariants.{Fin, Inf}
use Rattle.upp_curve.specs.declared.affine_segment.line.Line.{Line}
use Rattle.upp_curve.specs.declared.affine_segment.line.Piece.{Piece}
use Rattle.upp_curve.specs.affine_segment.Values.{line_at}
use Rattle.upp_curve.specs.declared.curve.Tail.TheVariants.{Periodic, Affine, Infinite}
use Rattle.upp_curve.specs.Curve.{SpecCurve}
use Rattle.min_plus.specs.Functions.{zero_q}
use Rattle.upp_curve.specs.affine_segment.Reading.{nothing_at}
use Rattle.min_plus.specs.closure_laws.Star.{nat_times}

-- ---- pieces
-- infinity at x, and then a line
abbrev pub opening : ℚ → Line → Piece
opening x l = record { x = x; at = Inf; line = Some l }

-- n values of the line k + r t at times whose sum is t: n k + r t
abbrev pub line_times : ℕ → Line → Line
line_times n l = record { icept = nat_times n l.icept; slope = l.slope }

-- the opening at n a of n values of a line
abbrev pub stretch : ℚ → Line → ℕ → Piece
stretch a l n = opening (nat_times n a) (line_times n l)

-- other pieces after a gap from x up to y, where there is one
unfoldable pub after_gap : ℚ → ℚ → List Piece → List Piece
after_gap x y ps = cond (lt_q x y) (nothing_at x ∷ ps) ps

-- after the stretch from n a up to n b: the next m stretches, each after a gap, and then `rest`
unfoldable pub stretches : ℚ → ℚ → Line → ℕ → ℕ → List Piece → List Piece
stretches a b l n zero rest = rest
stretches a b l n (suc m) rest =
    after_gap (nat_times n b) (nat_times (suc n) a) (stretch a l (suc n) ∷ stretches a b l (suc n) m rest)

-- pieces from a on, after a gap from 0 on where a is after 0
unfoldable pub from_zero : ℚ → List Piece → List Piece
from_zero a ps = cond (lt_q zero_q a) (nothing_at zero_q ∷ ps) ps

-- one stretch and m more, and then `rest`
abbrev pub all_stretches : ℚ → ℚ → Line → ℕ → List Piece → List Piece
all_stretches a b l m rest = from_zero a (stretch a l 1 ∷ stretches a b l 1 m rest)

-- at x the value of n lines, and then N lines
abbrev pub turn : ℚ → Line → ℕ → ℕ → Piece
turn x l n N = record { x = x; at = Fin (line_at (line_times n l) x); line = Some (line_times N l) }

-- ---- curves
-- n v at n a
abbrev pub point_closure : ℚ → ℚ → SpecCurve
point_closure a v = record {
  pieces = nothing_at zero_q ∷ record { x = a; at = Fin v; line = None } ∷ [];
  tail = Periodic a a v;
}

-- v at 0 alone
abbrev pub point_at_zero : ℚ → SpecCurve
point_at_zero v = record { pieces = record { x = zero_q; at = Fin v; line = None } ∷ []; tail = Infinite zero_q }

-- one line from the last stretch on
abbrev pub level_closure : ℚ → ℚ → Line → ℕ → SpecCurve
level_closure a b l m = record { pieces = all_stretches a b l m []; tail = Affine (nat_times (suc m) a) }

-- the least numbers of values: one more from each n b on
abbrev pub rising_closure : ℚ → ℚ → Line → ℕ → SpecCurve
rising_closure a b l m =
    let x = nat_times (suc m) b in
    record {
      pieces = all_stretches a b l m (turn x l (suc (suc m)) (suc (suc m)) ∷ []);
      tail = Periodic x b (line_at l b);
    }

-- the greatest numbers of values: one more past each n a
abbrev pub falling_closure : ℚ → ℚ → Line → ℕ → SpecCurve
falling_closure a b l m =
    let x = nat_times (suc (suc m)) a in
    record {
      pieces = all_stretches a b l m (turn x l (suc m) (suc (suc m)) ∷ []);
      tail = Periodic x a (line_at l a);
    }

-- ---- where stretches meet
-- n times the end of a stretch, which may have none
abbrev pub ext_times : ℕ → Ext → Ext
ext_times n Inf = Inf
ext_times n (Fin b) = Fin (nat_times n b)

-- of the stretches from i a up to i b, those before the n-th end before the next begins, or just there; from the n-th
-- on each goes on past the beginning of the next
pub record MeetAt (a : ℚ) (b : Ext) (n : ℕ) : Type 0 where
  pub apart : (i : ℕ) → 1 ≤ i → suc i ≤ n → ext_times i b ≤ₑ Fin (nat_times (suc i) a)
  pub joined : (i : ℕ) → n ≤ i → Fin (nat_times (suc i) a) <ₑ ext_times i b

-- a proper stretch from 0 on
pub record IsStretch (a : ℚ) (b : Ext) (m : ℕ) : Type 0 where
  pub nonneg : zero_q ≤ℚ a
  pub proper : Fin a <ₑ b
  pub meet : MeetAt a b (suc m)
