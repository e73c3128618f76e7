-- The window of the pairs: its operands have room, and it reads as the least of the second at u less the first at t + u.
use Rattle.std.specs.Prelude.{◌≡◌, pos, List, [], ◌∷◌, map, Result, Ok, Err, IfOk, Vec}
use Rattle.std.proofs.Common.{arith, sym, ap, ap₂, ◌∙◌, refl, subst, inl, inr, Global}
use Rattle.rational.specs.Rational.{ℚ, ◌+ℚ◌, ◌-ℚ◌, ◌≤ℚ◌, ◌<ℚ◌, neg_ℚ, int}
use Rattle.rational.specs.Grid.{Whole}
use Rattle.rational.specs.Extended.{Ext, ◌≤ₑ◌, ◌+ₑ◌}
use Rattle.rational.specs.declared.Extended.TheVariants.{Fin, Inf}
use Rattle.rational.proofs.Linear.{with2, with3, with4}
use Rattle.rational.proofs.Laws.{le_of_lt, le_or_lt, le_refl}
use Rattle.rational.proofs.ExtendedOrder.{finite_sum, fin_same, same_le_ext}
use Rattle.upp_curve.specs.declared.affine_segment.line.Piece.{Piece}
use Rattle.upp_curve.specs.affine_segment.Values.{line_value}
use Rattle.upp_curve.specs.affine_segment.Fits.{ReadFits}
use Rattle.upp_curve.specs.affine_segment.Reading.{read, piece_in, piece_value}
use Rattle.upp_curve.specs.affine_segment.Pieces.{Each, StartsAtZero}
use Rattle.upp_curve.proofs.affine_segment.PieceIn.{read_is, value_by, value_past}
use Rattle.min_plus.specs.Convolution.{Split, IsConvolution}
use Rattle.upp_curve.proofs.Finite.{each_in}
use Rattle.upp_limits.specs.Limits.{Sizes}
use Rattle.upp_limits.specs.Sized.{ValueStands}
use Rattle.upp_normal.specs.Ahead.{GridValue}
use Rattle.upp_normal.specs.Operand.{AreLimited, OperandPiece}
use Rattle.upp_normal.proofs.AnswerRoom.{operand_line_fits, operand_line_value, stands_operand_value}
use Rattle.upp_normal.proofs.UnrolledPieces.{each_with}
use Rattle.plain_operators.specs.running.Runs.{IsFrontBefore}
use Rattle.plain_operators.proofs.running.Fronts.{kept_each, kept_starts, kept_reads}
use Rattle.element_envelope.specs.ConvolutionWindows.{WindowsFrom, IsConvolutionFrom}
use Rattle.element_envelope.proofs.Members.{matched_in}
use Rattle.element_envelope.proofs.OperandElements.{operand_pieces}
use Rattle.curve_deconv.specs.Mirrored.{neg_ext, neg_piece, mirror_pieces, AreMirrorable}
use Rattle.curve_deconv.specs.DeconvolutionWindows.{OperandWindows, EarlyPair, IsLeastPair, IsPairsWindow}
use Rattle.curve_deconv.proofs.Mirrored.{neg_all_read, mirror_reads, mirror_past}
use Rattle.curve_deconv.proofs.MirroredPieces.{neg_pieces_stand, mirror_pieces_stand, are_mirrorable}
use Rattle.curve_deconv.proofs.MirroredRoom.{ReadyPiece}

ready_front : (end reach : ℚ) (f g front : List Piece) (r : OperandWindows end reach f g) → IsFrontBefore g reach front → Each (ReadyPiece r.sizes end reach) front
ready_front end reach f g front r F =
    let z = r.sizes in
    let two : Each (λ p. OperandPiece z end p × ValueStands z (line_value p.line p.x)) g =
    each_with (OperandPiece z end) (λ p. ValueStands z (line_value p.line p.x)) (λ p. OperandPiece z end p × ValueStands z (line_value p.line p.x)) (λ p a b. (a, b)) g r.right.each r.after in
    each_with (λ p. OperandPiece z end p × ValueStands z (line_value p.line p.x)) (λ p. p.x <ℚ reach) (ReadyPiece z end reach)
    (λ p a b. record { piece = a.0; before = b; after = a.1 }) front
    (kept_each (λ p. OperandPiece z end p × ValueStands z (line_value p.line p.x)) g reach front F two) F.before

pub mirrors_fit : (end reach : ℚ) (f g front : List Piece) → OperandWindows end reach f g → IsFrontBefore g reach front → AreMirrorable reach front
mirrors_fit end reach f g front r F = are_mirrorable r.sizes end reach front r.limited r.whole (le_of_lt r.some) r.early (ready_front end reach f g front r F)

-- ---- the value at `reach`
pub reach_fits : (end reach : ℚ) (f g : List Piece) → OperandWindows end reach f g → ReadFits g reach
reach_fits end reach f [] r = tt
reach_fits end reach f (p ∷ ps) r =
    let z = r.sizes in
    λ l. operand_line_fits z end reach (piece_in p ps reach).line r.limited (each_in (OperandPiece z end) p ps reach r.right.each).line r.whole (le_of_lt r.some) (le_of_lt r.early)

piece_stands : (z : Sizes) (end t : ℚ) (p : Piece) → AreLimited z end → OperandPiece z end p → Whole z.dt t → int (pos 0) ≤ℚ t → t ≤ℚ end → GridValue z (piece_value p t)
piece_stands z end t p A P w low high = elim (le_or_lt t p.x) [
  | inl k ↦ subst (GridValue z) (sym (value_by p t k)) (stands_operand_value z p.at P.at)
  | inr k ↦ subst (GridValue z) (sym (value_past p t k)) (operand_line_value z end t p.line A P.line w low high)
]

reach_stands : (end reach : ℚ) (f g : List Piece) (r : OperandWindows end reach f g) → GridValue r.sizes (read g reach)
reach_stands end reach f g r = by g r.right.each r.right.starts
  where
    z : Sizes
    z = r.sizes

    by : (ps : List Piece) → Each (OperandPiece z end) ps → StartsAtZero ps → GridValue z (read ps reach)
    by [] h s = absurd s
    by (p ∷ ps) h s =
        subst (GridValue z) (sym (read_is p ps reach))
        (piece_stands z end reach (piece_in p ps reach) r.limited (each_in (OperandPiece z end) p ps reach h) r.whole (le_of_lt r.some) (le_of_lt r.early))

-- ---- the convolution
room_of : (end reach : ℚ) (f g front : List Piece) → OperandWindows end reach f g → IsFrontBefore g reach front → WindowsFrom reach end (map neg_piece f) (mirror_pieces reach (read g reach) front)
room_of end reach f g front r F =
    let z = r.sizes in
    let low = le_of_lt r.some in
    let a = r.some in
    let b = r.early in
    record {
      sizes = r.sizes;
      limited = r.limited;
      some = with2 reach end (λ c. omega (arith, c.le, c.lt, c.same));
      late = record { whole = r.whole; nonneg = low; early = le_of_lt r.early };
      left = operand_pieces z end (map neg_piece f) (neg_pieces_stand z end f r.left);
      right = mirror_pieces_stand z end reach (read g reach) front r.limited r.whole low r.early record { whole = r.whole; low = low; high = le_refl reach } (reach_stands end reach f g r)
          (kept_starts g reach front F r.some r.right.starts) (ready_front end reach f g front r F);
    }

pub pairs_room : (end reach : ℚ) (f g front xs ys : List Piece) → OperandWindows end reach f g → IsFrontBefore g reach front → xs ≡ map neg_piece f → ys ≡ mirror_pieces reach (read g reach) front
    → WindowsFrom reach end xs ys
pairs_room end reach f g front xs ys r F e h =
    subst (λ z. WindowsFrom reach end z ys) (sym e) (subst (λ z. WindowsFrom reach end (map neg_piece f) z) (sym h) (room_of end reach f g front r F))

-- a finite sum of minus the first and of the second mirrored is the second at u less the first at t + u
neg_finite : (v : Ext) (a : ℚ) → neg_ext v ≡ Fin a → v ≡ Fin (neg_ℚ a)
neg_finite Inf a e = absurd (same_le_ext e)
neg_finite (Fin v) a e =
    let k : neg_ℚ v ≡ a = fin_same {y = a} e in
    ap Fin (with2 v a (λ c. omega (arith, c.le, c.lt, c.same)))

record AreTurned (f g F G : ℚ → Ext) (reach : ℚ) : Type 0 where
  first : (s : ℚ) → F s ≡ neg_ext (f s)
  second : (w : ℚ) → int (pos 0) ≤ℚ w → w ≤ℚ reach → G w ≡ g (reach -ℚ w)
  past : (w : ℚ) → reach <ℚ w → G w ≡ Inf

turned_pairs : (f g F G : ℚ → Ext) (reach t : ℚ) (v : Ext) → AreTurned f g F G reach → int (pos 0) ≤ℚ t → IsConvolution F G (t +ℚ reach) v → IsLeastPair f g reach t v
turned_pairs f g F G reach t v T some C =
    matched_in {I = Split (t +ℚ reach)} {J = EarlyPair f g reach t} (λ s. F s.first +ₑ G s.second) (λ u. Fin (u.level -ℚ u.value)) v record { down = down; up = up } C
  where
    down : (s : Split (t +ℚ reach)) (q : ℚ) → F s.first +ₑ G s.second ≡ Fin q → (u : EarlyPair f g reach t) × (Fin (u.level -ℚ u.value) ≤ₑ Fin q)
    down s q is =
        let (a, b, p, r) = finite_sum (F s.first) (G s.second) q is in
        let x = s.first in
        let w = s.second in
        let n = s.second_nonneg in
        let whole = s.whole in
        elim (le_or_lt w reach) [
          | inr k ↦ absurd (same_le_ext (sym (T.past w k) ∙ r))
          | inl k ↦
              let here : x ≡ t +ℚ (reach -ℚ w) = with4 x w t reach (λ c. omega (arith, c.le, c.lt, c.same)) in
              let value : f (t +ℚ (reach -ℚ w)) ≡ Fin (neg_ℚ a) = ap f (sym here) ∙ neg_finite (f x) a (sym (T.first x) ∙ p) in
              let sum : a +ℚ b ≡ q = fin_same {y = q} (sym (ap₂ (λ (i j : Ext). i +ₑ j) p r) ∙ is) in (
                record {
                  at = reach -ℚ w;
                  nonneg = with2 w reach (λ c. omega (arith, c.le, c.lt, c.same));
                  most = with2 w reach (λ c. omega (arith, c.le, c.lt, c.same));
                  value = neg_ℚ a;
                  value_is = value;
                  level = b;
                  level_is = sym (T.second w n k) ∙ r;
                },
                with3 a b q (λ c. omega (arith, c.le, c.lt, c.same)),
              )
        ]

    up : (u : EarlyPair f g reach t) → (s : Split (t +ℚ reach)) × (F s.first +ₑ G s.second ≤ₑ Fin (u.level -ℚ u.value))
    up u =
        let at = u.at in
        let n = u.nonneg in
        let m = u.most in
        let x = u.value in
        let y = u.level in
        let back : reach -ℚ (reach -ℚ at) ≡ at = with2 reach at (λ c. omega (arith, c.le, c.lt, c.same)) in
        let low : int (pos 0) ≤ℚ reach -ℚ at = with2 reach at (λ c. omega (arith, c.le, c.lt, c.same)) in
        let high : reach -ℚ at ≤ℚ reach = with2 reach at (λ c. omega (arith, c.le, c.lt, c.same)) in
        let first : F (t +ℚ at) ≡ Fin (neg_ℚ x) = T.first (t +ℚ at) ∙ ap neg_ext u.value_is in
        let second : G (reach -ℚ at) ≡ Fin y = T.second (reach -ℚ at) low high ∙ ap g back ∙ u.level_is in
        let sum : neg_ℚ x +ℚ y ≡ y -ℚ x = with2 x y (λ c. omega (arith, c.le, c.lt, c.same)) in (
          record {
            first = t +ℚ at;
            second = reach -ℚ at;
            first_nonneg = with2 t at (λ c. omega (arith, c.le, c.lt, c.same));
            second_nonneg = low;
            whole = with3 t at reach (λ c. omega (arith, c.le, c.lt, c.same));
          },
          same_le_ext (ap₂ (λ (i j : Ext). i +ₑ j) first second ∙ ap Fin sum),
        )

pub pairs_is : (end reach : ℚ) (f g front ps : List Piece) → OperandWindows end reach f g → IsFrontBefore g reach front → IsConvolutionFrom (map neg_piece f) (mirror_pieces reach (read g reach) front) reach end ps
    → IsPairsWindow end reach f g ps
unfolding room_of
pairs_is end reach f g front ps o F E =
    let some = o.some in
    let starts = kept_starts g reach front F o.some o.right.starts in
    let T : AreTurned (read f) (read g) (read (map neg_piece f)) (read (mirror_pieces reach (read g reach) front)) reach = record {
      first = λ s. neg_all_read f s;
      second = λ w a b. mirror_reads (read g) reach (read g reach) front w starts F.before (λ u c d. sym (kept_reads g reach front u F starts d)) refl a b;
      past = λ w a. mirror_past reach (read g reach) front w starts F.before a;
    } in
    record {
      form = record { stands = λ r. E.stands (room_of end reach f g front r F); arches = λ r. E.arches (room_of end reach f g front r F) };
      reads = λ t low early.
          turned_pairs (read f) (read g) (read (map neg_piece f)) (read (mirror_pieces reach (read g reach) front)) reach t (read ps (t +ℚ reach)) T low
          (E.reads (t +ℚ reach) (with2 t reach (λ c. omega (arith, c.le, c.lt, c.same))) (with2 t reach (λ c. omega (arith, c.le, c.lt, c.same))) early);
    }

pub ok_pairs : {E : Type 0} (result : Result (Vec Piece Global) E) (end reach : ℚ) (f g front xs ys : List Piece) → OperandWindows end reach f g → IsFrontBefore g reach front
    → xs ≡ map neg_piece f → ys ≡ mirror_pieces reach (read g reach) front → IfOk result (λ v. IsConvolutionFrom xs ys reach end v.items) → IfOk result (λ v. IsPairsWindow end reach f g v.items)
ok_pairs (Ok v) end reach f g front xs ys o F e h k =
    pairs_is end reach f g front v.items o F (subst (λ z. IsConvolutionFrom z (mirror_pieces reach (read g reach) front) reach end v.items) e (subst (λ z. IsConvolutionFrom xs z reach end v.items) h k))
ok_pairs (Err x) end reach f g front xs ys o F e h k = k
