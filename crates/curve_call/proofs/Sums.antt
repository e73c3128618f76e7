-- The pieces of a sum read as the sum.
use Rattle.std.specs.Prelude.{◌≡◌, List, [], ◌∷◌, Option, Some, None}
use Rattle.std.proofs.Common.{arith, ap, ap₂, ◌∙◌, refl, inl, inr, sym}
use Rattle.rational.specs.Rational.{ℚ, ◌+ℚ◌, ◌*ℚ◌}
use Rattle.rational.specs.Extended.{◌+ₑ◌}
use Rattle.rational.specs.declared.Extended.TheVariants.{Fin}
use Rattle.rational.proofs.Linear.{with6}
use Rattle.rational.proofs.Laws.{add_mul, le_or_lt}
use Rattle.rational.proofs.Over.{le_q_out}
use Rattle.rational.proofs.MinMax.{le_q_not}
use Rattle.upp_curve.specs.declared.affine_segment.line.Line.{Line}
use Rattle.upp_curve.specs.declared.affine_segment.line.Piece.{Piece}
use Rattle.upp_curve.specs.affine_segment.Values.{line_value}
use Rattle.upp_curve.specs.affine_segment.Reading.{read, piece_value, line_in}
use Rattle.upp_curve.specs.affine_segment.Pieces.{Each}
use Rattle.curve_call.specs.declared.stretch.Both.{Both}
use Rattle.curve_call.specs.Stretches.{IsBothOf, IsOverlay, EachBoth}
use Rattle.curve_call.specs.Pointwise.{mapped, sum_line, sum_piece, IsSumPiece, IsWindowSum}
use Rattle.curve_call.proofs.Mapped.{pointwise, starts_mapped, length_mapped}

pub sum_line_value : (a b : Option Line) (t : ℚ) → line_value (sum_line a b) t ≡ line_value a t +ₑ line_value b t
sum_line_value None b t = refl
sum_line_value (Some l) None t = refl
sum_line_value (Some l) (Some m) t =
    let e = add_mul l.slope m.slope t in
    let a = l.icept in
    let b = m.icept in
    ap Fin (with6 a b (l.slope *ℚ t) (m.slope *ℚ t) ((l.slope +ℚ m.slope) *ℚ t) t (λ c. omega (arith, c.le, c.lt, c.same)))

sum_value : (f g : List Piece) (b : Both) (t : ℚ) → IsBothOf f g b → piece_value (sum_piece b) t ≡ piece_value b.left t +ₑ piece_value b.right t
unfolding piece_value
sum_value f g b t h = elim (le_or_lt t b.left.x) [
  | inl l ↦ rw (← h.together, le_q_out t b.left.x l) refl
  | inr l ↦ rw (← h.together, le_q_not t b.left.x l) (sum_line_value b.left.line b.right.line t)
]

-- each piece
sum_piece_of : (f g : List Piece) (b : Both) → IsBothOf f g b → IsSumPiece f g (sum_piece b)
sum_piece_of f g b B = record {
  start = B.start;
  at = ap₂ (λ v w. v +ₑ w) B.left.at (B.right.at ∙ ap (read g) (sym B.together));
  line = ap₂ sum_line B.left.line (B.right.line ∙ ap (line_in g) (sym B.together));
}

sum_pieces_of : (f g : List Piece) (bs : List Both) → EachBoth (IsBothOf f g) bs → Each (IsSumPiece f g) (mapped sum_piece bs)
sum_pieces_of f g [] h = tt
sum_pieces_of f g (b ∷ bs) h = (sum_piece_of f g b h.0, sum_pieces_of f g bs h.1)

pub sum_is : (f g : List Piece) (bs : List Both) (ps : List Piece) → IsOverlay f g bs → ps ≡ mapped sum_piece bs → IsWindowSum f g ps
sum_is f g bs ps O e = rw e record {
  starts = starts_mapped sum_piece bs (λ b. refl) O.starts;
  reads = pointwise (λ x y z. z ≡ x +ₑ y) sum_piece f g bs O (λ b. refl) (sum_value f g);
  each = sum_pieces_of f g bs O.each;
  count = let n = length_mapped sum_piece bs in let c = O.count in omega arith;
}
