-- Pieces that rise from one to the next rise as a function of time, and a tail that repeats keeps that.
use Rattle.std.specs.Prelude.{◌≡◌, ℕ, zero, suc, pos, List, [], ◌∷◌, Option, Some, None}
use Rattle.std.proofs.Common.{arith, sym, ap, ◌∙◌, refl, subst, inl, inr}
use Rattle.rational.specs.Rational.{ℚ, ◌+ℚ◌, ◌-ℚ◌, ◌*ℚ◌, ◌≤ℚ◌, ◌<ℚ◌, int}
use Rattle.rational.specs.Whole.{periods}
use Rattle.rational.specs.Extended.{Ext, ◌≤ₑ◌, ◌+ₑ◌}
use Rattle.rational.specs.declared.Extended.TheVariants.{Fin}
use Rattle.rational.proofs.Linear.{with2, with3}
use Rattle.rational.proofs.Laws.{antisym, le_refl, le_or_lt, le_of_lt, le_trans, mul_le_mul}
use Rattle.rational.proofs.ExtendedOrder.{le_ext_trans, same_le_ext, add_le_ext}
use Rattle.upp_curve.specs.declared.affine_segment.line.Line.{Line}
use Rattle.upp_curve.specs.declared.affine_segment.line.Piece.{Piece}
use Rattle.upp_curve.specs.affine_segment.Values.{line_value}
use Rattle.upp_curve.specs.declared.shape.End.{End}
use Rattle.upp_curve.specs.affine_segment.Reading.{piece_value}
use Rattle.upp_curve.specs.Curve.{repeated}
use Rattle.min_plus.specs.Functions.{IsRising}
use Rattle.upp_curve.specs.affine_segment.Pieces.{Each, RisesFrom}
use Rattle.upp_curve.specs.Shapes.{LineRises, PiecesRise}
use Rattle.upp_curve.proofs.affine_segment.PieceIn.{piece_in_end, piece_in_go, piece_in_stop, value_past, value_at_start}
use Rattle.upp_curve.proofs.FirstStretch.{read_in, at_start}
use Rattle.upp_curve.proofs.Repeats.{repeated_first, repeated_next, in_first, later_period}

-- ---- one piece
pub line_up : (l : Option Line) (s t : ℚ) → LineRises l → s ≤ℚ t → line_value l s ≤ₑ line_value l t
line_up None s t h k = tt
line_up (Some l) s t h k =
    let m = mul_le_mul l.slope h k in
    let a = l.icept in
    with3 a (l.slope *ℚ s) (l.slope *ℚ t) (λ c. omega (arith, c.le, c.lt, c.same))

-- a value of the piece is at most each later one of its line
to_line : (p : Piece) (s t : ℚ) → p.at ≤ₑ line_value p.line p.x → LineRises p.line → p.x ≤ℚ s → s ≤ℚ t → piece_value p s ≤ₑ line_value p.line t
to_line p s t first slope low up = elim (le_or_lt s p.x) [
  | inl h ↦
      let same : s ≡ p.x = antisym (h, low) in
      le_ext_trans (piece_value p s) (line_value p.line p.x) (line_value p.line t)
      (subst (λ u. piece_value p u ≤ₑ line_value p.line p.x) (sym same) (subst (λ v. v ≤ₑ line_value p.line p.x) (sym (value_at_start p)) first))
      (line_up p.line p.x t slope (subst (λ u. u ≤ℚ t) same up))
  | inr l ↦ subst (λ v. v ≤ₑ line_value p.line t) (sym (value_past p s l)) (line_up p.line s t slope up)
]

value_rises : (p : Piece) (s t : ℚ) → p.at ≤ₑ line_value p.line p.x → LineRises p.line → p.x ≤ℚ s → s ≤ℚ t → piece_value p s ≤ₑ piece_value p t
value_rises p s t first slope low up = elim (le_or_lt t p.x) [
  | inl h ↦ same_le_ext (ap (piece_value p) (antisym (up, le_trans h low)))
  | inr l ↦ subst (λ v. piece_value p s ≤ₑ v) (sym (value_past p t l)) (to_line p s t first slope low up)
]

-- ---- a list of pieces
-- q's value is at most each later one of the list that q begins
pub list_rises : (end : Option End) (p : Piece) (ps : List Piece) (s t : ℚ) → RisesFrom p.x ps → PiecesRise end (p ∷ ps) → p.x ≤ℚ s → s ≤ℚ t
    → read_in p ps s ≤ₑ read_in p ps t
list_rises end p [] s t r h low up =
    let a = ap (λ q. piece_value q s) (piece_in_end p s) in
    let b = ap (λ q. piece_value q t) (piece_in_end p t) in
    rw (a, b) (value_rises p s t h.0.first h.0.slope low up)
list_rises end p (q ∷ qs) s t r h low up = elim (le_or_lt q.x t) [
  | inr l ↦
      let a = ap (λ z. piece_value z s) (piece_in_stop p q qs s (let x = q.x in with3 s t x (λ c. omega (arith, c.le, c.lt, c.same)))) in
      let b = ap (λ z. piece_value z t) (piece_in_stop p q qs t l) in
      rw (a, b) (value_rises p s t h.0.first h.0.slope low up)
  | inl k ↦
      let b = ap (λ z. piece_value z t) (piece_in_go p q qs t k) in
      elim (le_or_lt q.x s) [
        | inl m ↦
            let a = ap (λ z. piece_value z s) (piece_in_go p q qs s m) in
            rw (a, b) (list_rises end q qs s t r.1 h.1 m up)
        | inr l ↦
            let a = ap (λ z. piece_value z s) (piece_in_stop p q qs s l) in
            rw (a, b) (le_ext_trans (piece_value p s) q.at (read_in q qs t)
            (le_ext_trans (piece_value p s) (line_value p.line q.x) q.at (to_line p s q.x h.0.first h.0.slope low (le_of_lt l)) h.0.last)
            (subst (λ v. v ≤ₑ read_in q qs t) (at_start q qs r.1) (list_rises end q qs q.x t r.1 h.1 (le_refl q.x) k)))
      ]
]

-- and at most the value at the end
pub list_ends : (e : End) (p : Piece) (ps : List Piece) (s : ℚ) → RisesFrom p.x ps → PiecesRise (Some e) (p ∷ ps) → Each (λ z. z.x ≤ℚ e.x) ps → p.x ≤ℚ s → s ≤ℚ e.x
    → read_in p ps s ≤ₑ e.at
list_ends e p [] s r h starts low up =
    let a = ap (λ q. piece_value q s) (piece_in_end p s) in
    rw a (le_ext_trans (piece_value p s) (line_value p.line e.x) e.at (to_line p s e.x h.0.first h.0.slope low up) h.0.last)
list_ends e p (q ∷ qs) s r h starts low up = elim (le_or_lt q.x s) [
  | inl m ↦
      let a = ap (λ z. piece_value z s) (piece_in_go p q qs s m) in
      rw a (list_ends e q qs s r.1 h.1 starts.1 m up)
  | inr l ↦
      let a = ap (λ z. piece_value z s) (piece_in_stop p q qs s l) in
      rw a (le_ext_trans (piece_value p s) q.at e.at
      (le_ext_trans (piece_value p s) (line_value p.line q.x) q.at (to_line p s q.x h.0.first h.0.slope low (le_of_lt l)) h.0.last)
      (subst (λ v. v ≤ₑ e.at) (at_start q qs r.1) (list_ends e q qs q.x r.1 h.1 starts.1 (le_refl q.x) starts.0)))
]

-- ---- a function that repeats
pub repeated_rises : (f : ℚ → Ext) (r d c : ℚ) → int (pos 0) ≤ℚ r → int (pos 0) <ℚ d
    → ((s t : ℚ) → int (pos 0) ≤ℚ s → s ≤ℚ t → t <ℚ r +ℚ d → f s ≤ₑ f t)
    → ((s : ℚ) → int (pos 0) ≤ℚ s → s <ℚ r +ℚ d → f s ≤ₑ f r +ₑ Fin c)
    → IsRising (repeated f r d c)
repeated_rises f r d c start some first top s t low up = go (periods r d t) s t low up refl
  where
    F : ℚ → Ext
    F = repeated f r d c

    at_rank : F r ≡ f r
    at_rank = repeated_first f r d c r some (with2 r d (λ c. omega (arith, c.le, c.lt, c.same)))

    raise : (x y : Ext) → x ≤ₑ y → x +ₑ Fin c ≤ₑ y +ₑ Fin c
    raise x y h = add_le_ext x y (Fin c) (Fin c) h (le_refl c)

    early : (s t : ℚ) → int (pos 0) ≤ℚ s → s ≤ℚ t → t <ℚ r +ℚ d → F s ≤ₑ F t
    early s t low up l =
        let end = r +ℚ d in
        let a = repeated_first f r d c s some (with3 s t end (λ c. omega (arith, c.le, c.lt, c.same))) in
        let b = repeated_first f r d c t some l in
        rw (a, b) (first s t low up l)

    -- t is u, a period later
    back : (t : ℚ) → r +ℚ d ≤ℚ t → F t ≡ F (t -ℚ d) +ₑ Fin c
    back t h =
        let u = t -ℚ d in
        ap F (with2 t d (λ c. omega (arith, c.le, c.lt, c.same))) ∙ repeated_next f r d c u some (with3 r d t (λ c. omega (arith, c.le, c.lt, c.same)))

    go : (n : ℕ) (s t : ℚ) → int (pos 0) ≤ℚ s → s ≤ℚ t → periods r d t ≡ n → F s ≤ₑ F t
    go zero s t low up e = early s t low up (in_first r d t some e)
    go (suc n) s t low up e =
        let L = later_period r d t n some e in let u = t -ℚ d in
        elim (le_or_lt (r +ℚ d) s) [
          | inl k ↦
              let h = L.past in
              rw (back s k, back t h)
              (raise (F (s -ℚ d)) (F u) (go n (s -ℚ d) u (with3 r d s (λ c. omega (arith, c.le, c.lt, c.same))) (with3 s t d (λ c. omega (arith, c.le, c.lt, c.same))) L.fewer))
          | inr k ↦
              let a = repeated_first f r d c s some k in
              let past : r ≤ℚ u = let h = L.past in with3 r d t (λ c. omega (arith, c.le, c.lt, c.same)) in
              rw (a, back t L.past) (le_ext_trans (f s) (f r +ₑ Fin c) (F u +ₑ Fin c) (top s low k)
              (raise (f r) (F u) (subst (λ v. v ≤ₑ F u) at_rank (go n r u start past L.fewer))))
        ]
