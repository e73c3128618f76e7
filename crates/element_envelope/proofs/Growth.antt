-- What is read of pieces that go on from their values with no jump up, and with slopes of at most r: it gains no more than that.
use Rattle.std.specs.Prelude.{◌≡◌, pos, List, [], ◌∷◌}
use Rattle.std.proofs.Common.{arith, sym, ap, ◌∙◌, subst, inl, inr}
use Rattle.rational.specs.Rational.{ℚ, ◌+ℚ◌, ◌-ℚ◌, ◌*ℚ◌, ◌≤ℚ◌, ◌<ℚ◌, int}
use Rattle.rational.specs.Extended.{◌≤ₑ◌}
use Rattle.rational.specs.declared.Extended.TheVariants.{Fin}
use Rattle.rational.proofs.Linear.{with2, with3, with4, with5, with6}
use Rattle.rational.proofs.Laws.{le_or_lt, le_of_lt, le_refl, le_trans, mul_sub, mul_le_mul_right}
use Rattle.rational.proofs.ExtendedOrder.{fin_same}
use Rattle.upp_curve.specs.declared.affine_segment.line.Line.{Line}
use Rattle.upp_curve.specs.declared.affine_segment.line.Piece.{Piece}
use Rattle.upp_curve.specs.affine_segment.Pieces.{Each, RisesFrom, StartsAtZero}
use Rattle.upp_curve.specs.affine_segment.Reading.{read, piece_in, piece_value}
use Rattle.upp_curve.specs.affine_segment.Values.{line_at, line_value}
use Rattle.upp_curve.proofs.affine_segment.PieceIn.{value_past, value_by, read_first, read_go, read_is, read_one, read_stop}
use Rattle.upp_curve.proofs.Finite.{each_in}
use Rattle.element_envelope.specs.Copies.{LowAfter, LowAtStarts}
use Rattle.element_envelope.specs.NearStarts.{RisesWithin}

-- ---- one piece
pub line_gains : (l : Line) (x t : ℚ) → line_at l t ≡ line_at l x +ℚ l.slope *ℚ (t -ℚ x)
line_gains l x t =
    let k = l.icept in
    let a = l.slope *ℚ x in
    let b = l.slope *ℚ t in
    let c = l.slope *ℚ (t -ℚ x) in
    let e : c ≡ b -ℚ a = mul_sub l.slope t x in
    with4 k a b c (λ c. omega (arith, c.le, c.lt, c.same))

-- from its start on
from_start : (r : ℚ) (p : Piece) (t v w : ℚ) → (R : RisesWithin r p) → p.x <ℚ t → p.at ≡ Fin v → piece_value p t ≡ Fin w → w ≤ℚ v +ℚ r *ℚ (t -ℚ p.x)
from_start r p t v w R late e f =
    let l = R.line in
    let x = p.x in
    let here : R.value ≡ v = fin_same {y = v} (sym R.at_is ∙ e) in
    let there : line_at l t ≡ w = fin_same {y = w} (sym (value_past p t late ∙ ap (λ o. line_value o t) R.line_is) ∙ f) in
    let gain = line_gains l x t in
    let run = mul_le_mul_right (t -ℚ x) (with2 t x (λ c. omega (arith, c.le, c.lt, c.same))) R.slope in
    low (line_at l t) (line_at l x) R.value v w (l.slope *ℚ (t -ℚ x)) (r *ℚ (t -ℚ x)) here there gain run R.after
  where
    low : (a b u v w m n : ℚ) → u ≡ v → a ≡ w → a ≡ b +ℚ m → m ≤ℚ n → b ≤ℚ u → w ≤ℚ v +ℚ n
    low a b u v w m n h k g l o =
        let same : w ≡ b +ℚ m = sym k ∙ g in
        let below : b ≤ℚ v = subst (λ z. b ≤ℚ z) h o in
        with5 b v w m n (λ c. omega (arith, c.le, c.lt, c.same))

on_line : (r : ℚ) (p : Piece) (s t v w : ℚ) → RisesWithin r p → p.x <ℚ s → s ≤ℚ t → piece_value p s ≡ Fin v → piece_value p t ≡ Fin w → w ≤ℚ v +ℚ r *ℚ (t -ℚ s)
on_line r p s t v w R past later e f =
    let l = R.line in
    let late : p.x <ℚ t = (let x = p.x in with3 x s t (λ c. omega (arith, c.le, c.lt, c.same))) in
    let here : line_at l s ≡ v = fin_same {y = v} (sym (value_past p s past ∙ ap (λ o. line_value o s) R.line_is) ∙ e) in
    let there : line_at l t ≡ w = fin_same {y = w} (sym (value_past p t late ∙ ap (λ o. line_value o t) R.line_is) ∙ f) in
    let gain = line_gains l s t in
    let run = mul_le_mul_right (t -ℚ s) (with2 t s (λ c. omega (arith, c.le, c.lt, c.same))) R.slope in
    low (line_at l t) (line_at l s) v w (l.slope *ℚ (t -ℚ s)) (r *ℚ (t -ℚ s)) here there gain run
  where
    low : (a b v w m n : ℚ) → b ≡ v → a ≡ w → a ≡ b +ℚ m → m ≤ℚ n → w ≤ℚ v +ℚ n
    low a b v w m n h k g l =
        let same : w ≡ b +ℚ m = sym k ∙ g in
        with5 b v w m n (λ c. omega (arith, c.le, c.lt, c.same))

-- no time, no gain
no_gain : (r s t v w : ℚ) → s ≡ t → v ≡ w → w ≤ℚ v +ℚ r *ℚ (t -ℚ s)
no_gain r s t v w e f =
    let a = r *ℚ t in
    let b = r *ℚ s in
    let c = r *ℚ (t -ℚ s) in
    let d : c ≡ a -ℚ b = mul_sub r t s in
    let g : b ≡ a = ap (λ z. r *ℚ z) e in
    with5 a b c v w (λ c. omega (arith, c.le, c.lt, c.same))

piece_gains : (r : ℚ) (p : Piece) (s t v w : ℚ) → RisesWithin r p → p.x ≤ℚ s → s ≤ℚ t → piece_value p s ≡ Fin v → piece_value p t ≡ Fin w → w ≤ℚ v +ℚ r *ℚ (t -ℚ s)
piece_gains r p s t v w R a b e f = elim (le_or_lt s p.x) [
  | inr k ↦ on_line r p s t v w R k b e f
  | inl k ↦
      let x = p.x in
      let same : x ≡ s = with2 x s (λ c. omega (arith, c.le, c.lt, c.same)) in
      let here : p.at ≡ Fin v = sym (value_by p s k) ∙ e in
      elim (le_or_lt t x) [
        | inl m ↦
            let at : s ≡ t = with3 x s t (λ c. omega (arith, c.le, c.lt, c.same)) in
            no_gain r s t v w at (fin_same {y = w} (sym here ∙ sym (value_by p t m) ∙ f))
        | inr m ↦ subst (λ z. w ≤ℚ v +ℚ r *ℚ (t -ℚ z)) same (from_start r p t v w R m here f)
      ]
]

-- ---- all pieces
two_gains : (r s x t v y u w : ℚ) → u ≤ℚ y → y ≤ℚ v +ℚ r *ℚ (x -ℚ s) → w ≤ℚ u +ℚ r *ℚ (t -ℚ x) → w ≤ℚ v +ℚ r *ℚ (t -ℚ s)
two_gains r s x t v y u w below first second =
    let a = r *ℚ (x -ℚ s) in
    let b = r *ℚ (t -ℚ x) in
    let c = r *ℚ (t -ℚ s) in
    let p = r *ℚ s in
    let q = r *ℚ x in
    let z = r *ℚ t in
    let ea : a ≡ q -ℚ p = mul_sub r x s in
    let eb : b ≡ z -ℚ q = mul_sub r t x in
    let ec : c ≡ z -ℚ p = mul_sub r t s in
    let e : c ≡ a +ℚ b = with6 a b c p q z (λ c. omega (arith, c.le, c.lt, c.same)) in
    joined a b c e below first second
  where
    joined : (a b c : ℚ) → c ≡ a +ℚ b → u ≤ℚ y → y ≤ℚ v +ℚ a → w ≤ℚ u +ℚ b → w ≤ℚ v +ℚ c
    joined a b c e h k l =
        let up : u ≤ℚ v +ℚ a = le_trans h k in
        with6 a b c u v w (λ c. omega (arith, c.le, c.lt, c.same))

all_gain : (r : ℚ) (p : Piece) (ps : List Piece) (s t v w : ℚ) → RisesWithin r p → Each (RisesWithin r) ps → RisesFrom p.x ps → LowAfter p.line ps → p.x ≤ℚ s → s ≤ℚ t → read (p ∷ ps) s ≡ Fin v
    → read (p ∷ ps) t ≡ Fin w → w ≤ℚ v +ℚ r *ℚ (t -ℚ s)
all_gain r p [] s t v w R E rises L a b e f = piece_gains r p s t v w R a b (sym (read_one p s) ∙ e) (sym (read_one p t) ∙ f)
all_gain r p (q ∷ qs) s t v w R E rises L a b e f = elim (le_or_lt q.x t) [
  | inr k ↦
      let x = q.x in
      let soon : s <ℚ x = with3 s t x (λ c. omega (arith, c.le, c.lt, c.same)) in
      piece_gains r p s t v w R a b (sym (read_stop p q qs s soon) ∙ e) (sym (read_stop p q qs t k) ∙ f)
  | inl k ↦ elim (le_or_lt q.x s) [
    | inl m ↦ all_gain r q qs s t v w E.0 E.1 rises.1 L.2 m b (sym (read_go p q qs s m) ∙ e) (sym (read_go p q qs t k) ∙ f)
    | inr m ↦
        let y = line_at R.line q.x in
        let at : read (q ∷ qs) q.x ≡ Fin E.0.value = read_first q qs q.x q.x rises.1 (le_refl q.x) ∙ value_by q q.x (le_refl q.x) ∙ E.0.at_is in
        let second = all_gain r q qs q.x t E.0.value w E.0 E.1 rises.1 L.2 (le_refl q.x) k at (sym (read_go p q qs t k) ∙ f) in
        let limit : line_value p.line q.x ≡ Fin y = ap (λ o. line_value o q.x) R.line_is in
        let first = piece_gains r p s q.x v y R a (le_of_lt m) (sym (read_stop p q qs s m) ∙ e) (value_past p q.x rises.0 ∙ limit) in
        let below : E.0.value ≤ℚ y = subst (λ z. z ≤ₑ Fin y) E.0.at_is (subst (λ z. q.at ≤ₑ z) limit L.0) in
        two_gains r s q.x t v y E.0.value w below first second
  ]
]

-- ---- from 0 on
pub record Gains (g : List Piece) (r : ℚ) : Type 0 where
  pub level : (t : ℚ) → int (pos 0) ≤ℚ t → (v : ℚ) × (read g t ≡ Fin v)
  pub most : (s t v w : ℚ) → int (pos 0) ≤ℚ s → s ≤ℚ t → read g s ≡ Fin v → read g t ≡ Fin w → w ≤ℚ v +ℚ r *ℚ (t -ℚ s)

piece_level : (r : ℚ) (p : Piece) (t : ℚ) → RisesWithin r p → (v : ℚ) × (piece_value p t ≡ Fin v)
piece_level r p t R = elim (le_or_lt t p.x) [
  | inl k ↦ (R.value, value_by p t k ∙ R.at_is)
  | inr k ↦ (line_at R.line t, value_past p t k ∙ ap (λ o. line_value o t) R.line_is)
]

pub gains : (g : List Piece) (r : ℚ) → StartsAtZero g → LowAtStarts g → Each (RisesWithin r) g → Gains g r
gains [] r h L E = absurd h
gains (p ∷ ps) r h L E = record {
  level = λ t low.
      let (v, e) = piece_level r (piece_in p ps t) t (each_in (RisesWithin r) p ps t E) in
      (v, read_is p ps t ∙ e);
  most = λ s t v w a b e f. all_gain r p ps s t v w E.0 E.1 h.1 L.2 (subst (λ z. z ≤ℚ s) (sym h.0) a) b e f;
}

-- ---- the loop: one piece more
pub rises_weaker : (r s : ℚ) (p : Piece) → r ≤ℚ s → RisesWithin r p → RisesWithin s p
rises_weaker r s p h R = record { line = R.line; line_is = R.line_is; value = R.value; at_is = R.at_is; after = R.after; slope = le_trans R.slope h }

pub steeper : (p : Piece) (left rest all : List Piece) (most slope more : ℚ) → left ≡ p ∷ rest → RisesWithin slope p → most ≤ℚ more → slope ≤ℚ more
    → ((r : ℚ) → most ≤ℚ r → Each (RisesWithin r) left → Each (RisesWithin r) all) → (r : ℚ) → more ≤ℚ r → Each (RisesWithin r) rest → Each (RisesWithin r) all
steeper p left rest all most slope more d R a b h r l E =
    h r (le_trans a l) (subst (Each (RisesWithin r)) (sym d) (rises_weaker slope r p (le_trans b l) R, E))
