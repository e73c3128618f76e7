-- How many pieces the closure of a line has.
use Rattle.std.specs.Prelude.{ℕ, zero, suc, ◌+◌, ◌*◌, ◌≤◌, List, ◌∷◌, length}
use Rattle.std.proofs.Common.{arith, sym, subst, inl, inr}
use Rattle.rational.specs.Rational.{ℚ}
use Rattle.rational.proofs.Laws.{le_or_lt}
use Rattle.upp_curve.specs.declared.affine_segment.line.Line.{Line}
use Rattle.upp_curve.specs.declared.affine_segment.line.Piece.{Piece}
use Rattle.min_plus.specs.Functions.{zero_q}
use Rattle.subadd_closure.specs.ElementCurves.{stretch, stretches, all_stretches}
use Rattle.subadd_closure.proofs.PieceReads.{gap_kept, gap_left, late_start, early_start}
use Rattle.min_plus.specs.closure_laws.Star.{nat_times}

-- ---- how many pieces there are
few_stretches : (a b : ℚ) (l : Line) (n m : ℕ) (rest : List Piece) → length (stretches a b l n m rest) ≤ 2 * m + length rest
unfolding stretches
few_stretches a b l n zero rest = omega arith
few_stretches a b l n (suc m) rest =
    let more = few_stretches a b l (suc n) m rest in
    let x = nat_times n b in
    let y = nat_times (suc n) a in
    let ps = stretch a l (suc n) ∷ stretches a b l (suc n) m rest in
    elim (le_or_lt y x) [
      | inl none ↦ subst (λ z. length z ≤ 2 * suc m + length rest) (sym (gap_left x y ps none)) (omega arith)
      | inr some ↦ subst (λ z. length z ≤ 2 * suc m + length rest) (sym (gap_kept x y ps some)) (omega arith)
    ]

pub few_pieces : (a b : ℚ) (l : Line) (m : ℕ) (rest : List Piece) → length (all_stretches a b l m rest) ≤ 2 * m + 2 + length rest
few_pieces a b l m rest =
    let more = few_stretches a b l 1 m rest in
    let ps = stretch a l 1 ∷ stretches a b l 1 m rest in
    elim (le_or_lt a zero_q) [
      | inl none ↦ subst (λ z. length z ≤ 2 * m + 2 + length rest) (sym (early_start a ps none)) (omega arith)
      | inr some ↦ subst (λ z. length z ≤ 2 * m + 2 + length rest) (sym (late_start a ps some)) (omega arith)
    ]
