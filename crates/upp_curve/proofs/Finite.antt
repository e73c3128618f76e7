-- Pieces that are finite are finite as a function of time, and the other way round.
use Rattle.std.specs.Prelude.{◌≡◌, pos, List, [], ◌∷◌, Option, Some, None}
use Rattle.std.proofs.Common.{arith, sym, ap, ◌∙◌, refl, subst, inl, inr}
use Rattle.rational.specs.Rational.{ℚ, ◌+ℚ◌, ◌-ℚ◌, ◌*ℚ◌, ◌≤ℚ◌, ◌<ℚ◌, int}
use Rattle.rational.specs.Extended.{Ext, ◌+ₑ◌}
use Rattle.rational.specs.declared.Extended.TheVariants.{Fin, Inf}
use Rattle.rational.proofs.Linear.{with2}
use Rattle.rational.proofs.Laws.{le_refl, le_of_lt, le_or_lt, le_trans, between}
use Rattle.rational.proofs.MinMax.{le_q_not}
use Rattle.rational.proofs.Over.{le_q_out}
use Rattle.upp_curve.specs.declared.affine_segment.line.Line.{Line}
use Rattle.upp_curve.specs.declared.affine_segment.line.Piece.{Piece}
use Rattle.upp_curve.specs.affine_segment.Values.{line_value}
use Rattle.upp_curve.specs.declared.shape.End.{End}
use Rattle.upp_curve.specs.affine_segment.Reading.{piece_in, piece_value}
use Rattle.rational.specs.Whole.{periods}
use Rattle.upp_curve.specs.Curve.{repeated}
use Rattle.upp_curve.specs.affine_segment.Pieces.{Each, RisesFrom}
use Rattle.upp_curve.specs.Shapes.{IsNumber, IsLine, IsFinitePiece}
use Rattle.upp_curve.proofs.affine_segment.PieceIn.{piece_in_end, piece_in_go, piece_in_stop, value_past}
use Rattle.upp_curve.proofs.FirstStretch.{read_in, at_start}
use Rattle.upp_curve.proofs.RisingFrom.{IsBefore, before_later}

-- ---- numbers
pub level_of : (v : Ext) → IsNumber v → (level : ℚ) × (v ≡ Fin level)
level_of Inf h = absurd h
level_of (Fin x) h = (x, refl)

pub number_of : (v : Ext) (level : ℚ) → v ≡ Fin level → IsNumber v
number_of v level e = subst IsNumber (sym e) tt

pub line_number : (l : Option Line) (t : ℚ) → IsLine l → IsNumber (line_value l t)
line_number None t h = absurd h
line_number (Some l) t h = tt

number_line : (l : Option Line) (t : ℚ) → IsNumber (line_value l t) → IsLine l
number_line None t h = absurd h
number_line (Some l) t h = tt

-- ---- what is read of finite pieces is finite
pub each_in : (P : Piece → Type 0) (p : Piece) (ps : List Piece) (t : ℚ) → Each P (p ∷ ps) → P (piece_in p ps t)
each_in P p [] t h = subst P (sym (piece_in_end p t)) h.0
each_in P p (q ∷ qs) t h = elim (le_or_lt q.x t) [
  | inl l ↦ subst P (sym (piece_in_go p q qs t l)) (each_in P q qs t h.1)
  | inr l ↦ subst P (sym (piece_in_stop p q qs t l)) h.0
]

pub value_number : (p : Piece) (t : ℚ) → IsFinitePiece p → IsNumber (piece_value p t)
unfolding piece_value
value_number p t h = elim (le_or_lt t p.x) [
  | inl l ↦ rw (le_q_out t p.x l) h.at
  | inr l ↦ rw (le_q_not t p.x l) (line_number p.line t h.line)
]

pub read_number : (p : Piece) (ps : List Piece) (t : ℚ) → Each IsFinitePiece (p ∷ ps) → IsNumber (read_in p ps t)
read_number p ps t h = value_number (piece_in p ps t) t (each_in IsFinitePiece p ps t h)

pub risen_number : (v : Ext) (c : ℚ) → IsNumber v → IsNumber (v +ₑ Fin c)
risen_number Inf c h = absurd h
risen_number (Fin x) c h = tt

-- ---- and the other way round
pub record ListFinite (end : Option End) (p : Piece) (ps : List Piece) : Type 0 where
  pub starts : RisesFrom p.x ps
  pub early : Each (λ z. IsBefore z.x end) (p ∷ ps)
  pub finite : (t : ℚ) → p.x ≤ℚ t → IsBefore t end → IsNumber (read_in p ps t)

rest_finite : (end : Option End) (p q : Piece) (qs : List Piece) → ListFinite end p (q ∷ qs) → ListFinite end q qs
rest_finite end p q qs h = record {
  starts = h.starts.1;
  early = h.early.1;
  finite = λ t a b. subst IsNumber (ap (λ z. piece_value z t) (piece_in_go p q qs t a)) (h.finite t (le_trans (le_of_lt h.starts.0) a) b);
}

-- at its start, and at a time of its stretch
first_finite : (f : ℚ → Ext) (p : Piece) (e : ℚ) → p.x <ℚ e → f p.x ≡ p.at → ((t : ℚ) → p.x <ℚ t → t <ℚ e → f t ≡ line_value p.line t)
    → ((t : ℚ) → p.x ≤ℚ t → t <ℚ e → IsNumber (f t)) → IsFinitePiece p
first_finite f p e some first past finite =
    let (t, a, b) = between p.x e some in
    record {
      at = subst IsNumber first (finite p.x (le_refl p.x) some);
      line = number_line p.line t (subst IsNumber (past t a b) (finite t (le_of_lt a) b));
    }

pub pieces_finite : (end : Option End) (p : Piece) (ps : List Piece) → ListFinite end p ps → Each IsFinitePiece (p ∷ ps)
pieces_finite None p [] h = (
  first_finite (read_in p []) p (p.x +ℚ int (pos 1)) (let x = p.x in with2 x (x +ℚ int (pos 1)) (λ c. omega (arith, c.le, c.lt, c.same))) (at_start p [] tt)
      (λ t a b. ap (λ z. piece_value z t) (piece_in_end p t) ∙ value_past p t a) (λ t a b. h.finite t a tt),
  tt,
)
pieces_finite (Some e) p [] h = (
  first_finite (read_in p []) p e.x h.early.0 (at_start p [] tt)
      (λ t a b. ap (λ z. piece_value z t) (piece_in_end p t) ∙ value_past p t a) (λ t a b. h.finite t a b),
  tt,
)
pieces_finite end p (q ∷ qs) h = (
  first_finite (read_in p (q ∷ qs)) p q.x h.starts.0 (at_start p (q ∷ qs) h.starts)
      (λ t a b. ap (λ z. piece_value z t) (piece_in_stop p q qs t b) ∙ value_past p t a) (λ t a b. h.finite t a (before_later end t q.x b h.early.1.0)),
  pieces_finite end q qs (rest_finite end p q qs h),
)

-- a function that repeats a finite one is finite
pub repeated_number : (f : ℚ → Ext) (r d c t : ℚ) → ((u : ℚ) → IsNumber (f u)) → IsNumber (repeated f r d c t)
unfolding repeated
repeated_number f r d c t h = risen_number (f (t -ℚ int (pos (periods r d t)) *ℚ d)) (int (pos (periods r d t)) *ℚ c) (h (t -ℚ int (pos (periods r d t)) *ℚ d))
