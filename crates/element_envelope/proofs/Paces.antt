-- What a pace of pieces bounds: they gain no more than that before the end.
use Rattle.std.specs.Prelude.{◌≡◌, pos, List, [], ◌∷◌, Option, None}
use Rattle.std.proofs.Common.{arith, sym, ap, ◌∙◌, subst, inl, inr}
use Rattle.rational.specs.Rational.{ℚ, ◌+ℚ◌, ◌-ℚ◌, ◌*ℚ◌, ◌≤ℚ◌, ◌<ℚ◌, int}
use Rattle.rational.specs.Extended.{◌≤ₑ◌}
use Rattle.rational.specs.declared.Extended.TheVariants.{Fin}
use Rattle.rational.proofs.Linear.{with2, with3, with4, with6}
use Rattle.rational.proofs.Laws.{le_or_lt, le_of_lt, le_refl, le_trans, antisym, mul_sub, mul_le_mul_right}
use Rattle.rational.proofs.ExtendedOrder.{fin_same}
use Rattle.upp_curve.specs.declared.affine_segment.line.Line.{Line}
use Rattle.upp_curve.specs.declared.affine_segment.line.Piece.{Piece}
use Rattle.upp_curve.specs.affine_segment.Pieces.{RisesFrom, StartsAtZero}
use Rattle.upp_curve.specs.affine_segment.Reading.{read, piece_value}
use Rattle.upp_curve.specs.affine_segment.Values.{line_at, line_value}
use Rattle.upp_curve.proofs.affine_segment.PieceIn.{value_past, value_by, read_go, read_one, read_stop}
use Rattle.element_envelope.specs.Copies.{LowAfter, LowAtStarts}
use Rattle.element_envelope.specs.Pace.{stretch_end, IsCapped, AreCapped, IsPaceOf}
use Rattle.element_envelope.proofs.Growth.{line_gains}

-- ---- a line less what the slope r gains
line_falls : (l : Line) (r x y : ℚ) → l.slope ≤ℚ r → x ≤ℚ y → line_at l y -ℚ r *ℚ y ≤ℚ line_at l x -ℚ r *ℚ x
line_falls l r x y h k =
    let run = mul_le_mul_right (y -ℚ x) (with2 x y (λ c. omega (arith, c.le, c.lt, c.same))) h in
    down (line_at l x) (line_at l y) (l.slope *ℚ (y -ℚ x)) (r *ℚ (y -ℚ x)) (r *ℚ x) (r *ℚ y) (line_gains l x y) (mul_sub r y x) run
  where
    down : (u w m n p q : ℚ) → w ≡ u +ℚ m → n ≡ q -ℚ p → m ≤ℚ n → w -ℚ q ≤ℚ u -ℚ p
    down u w m n p q e f h = with6 u w m n p q (λ c. omega (arith, c.le, c.lt, c.same))

line_climbs : (l : Line) (r x y : ℚ) → r ≤ℚ l.slope → x ≤ℚ y → line_at l x -ℚ r *ℚ x ≤ℚ line_at l y -ℚ r *ℚ y
line_climbs l r x y h k =
    let run = mul_le_mul_right (y -ℚ x) (with2 x y (λ c. omega (arith, c.le, c.lt, c.same))) h in
    up (line_at l x) (line_at l y) (l.slope *ℚ (y -ℚ x)) (r *ℚ (y -ℚ x)) (r *ℚ x) (r *ℚ y) (line_gains l x y) (mul_sub r y x) run
  where
    up : (u w m n p q : ℚ) → w ≡ u +ℚ m → n ≡ q -ℚ p → n ≤ℚ m → u -ℚ p ≤ℚ w -ℚ q
    up u w m n p q e f h = with6 u w m n p q (λ c. omega (arith, c.le, c.lt, c.same))

-- ---- one piece
on_line : (r a low until : ℚ) (p : Piece) (k t v : ℚ) → (C : IsCapped r a low until p k) → p.x <ℚ t → piece_value p t ≡ Fin v → line_at C.line t ≡ v
on_line r a low until p k t v C late e = fin_same {y = v} (sym (value_past p t late ∙ ap (λ o. line_value o t) C.line_is) ∙ e)

at_start : (r a low until : ℚ) (p : Piece) (k t v : ℚ) → (C : IsCapped r a low until p k) → t ≤ℚ p.x → piece_value p t ≡ Fin v → C.value ≡ v
at_start r a low until p k t v C soon e = fin_same {y = v} (sym C.at_is ∙ sym (value_by p t soon) ∙ e)

below_top : (r a low until : ℚ) (p : Piece) (k t v : ℚ) → IsCapped r a low until p k → p.x ≤ℚ t → t ≤ℚ until → piece_value p t ≡ Fin v → v -ℚ r *ℚ t ≤ℚ k +ℚ a
below_top r a low until p k t v C low_t high e = elim (le_or_lt t p.x) [
  | inl m ↦
      let same : p.x ≡ t = antisym (low_t, m) in
      subst (λ x. v -ℚ r *ℚ x ≤ℚ k +ℚ a) same (subst (λ w. w -ℚ r *ℚ p.x ≤ℚ k +ℚ a) (at_start r a low until p k t v C m e) C.at)
  | inr m ↦
      subst (λ w. w -ℚ r *ℚ t ≤ℚ k +ℚ a) (on_line r a low until p k t v C m e)
      (elim (le_or_lt C.line.slope r) [
        | inl f ↦ le_trans (line_falls C.line r p.x t f low_t) C.after
        | inr f ↦ le_trans (line_climbs C.line r t until (le_of_lt f) high) C.before
      ])
]

-- where the line climbs more than r, what is past the start is nowhere below the start
past_start : (r a low until : ℚ) (p : Piece) (k s : ℚ) → (C : IsCapped r a low until p k) → p.at ≤ₑ line_value p.line p.x → r ≤ℚ C.line.slope → p.x ≤ℚ s → k ≤ℚ line_at C.line s -ℚ r *ℚ s
past_start r a low until p k s C L h l =
    let first : C.value ≤ℚ line_at C.line p.x = subst (λ v. v ≤ₑ Fin (line_at C.line p.x)) C.at_is (subst (λ o. p.at ≤ₑ line_value o p.x) C.line_is L) in
    le_trans C.start (le_trans (lower C.value (line_at C.line p.x) (r *ℚ p.x) first) (line_climbs C.line r p.x s h l))
  where
    lower : (u v m : ℚ) → u ≤ℚ v → u -ℚ m ≤ℚ v -ℚ m
    lower u v m h = with3 u v m (λ c. omega (arith, c.le, c.lt, c.same))

one_piece : (r a low until : ℚ) (p : Piece) (k s t v w : ℚ) → int (pos 0) ≤ℚ a → p.at ≤ₑ line_value p.line p.x → IsCapped r a low until p k → p.x ≤ℚ s → s ≤ℚ t → t ≤ℚ until → piece_value p s ≡ Fin v → piece_value p t ≡ Fin w
    → w -ℚ r *ℚ t ≤ℚ (v -ℚ r *ℚ s) +ℚ a
one_piece r a low until p k s t v w some L C low_s later high e f = elim (le_or_lt s p.x) [
  | inl m ↦
      let same : p.x ≡ s = antisym (low_s, m) in
      let start : k ≤ℚ v -ℚ r *ℚ s = subst (λ x. k ≤ℚ v -ℚ r *ℚ x) same (subst (λ y. k ≤ℚ y -ℚ r *ℚ p.x) (at_start r a low until p k s v C m e) C.start) in
      joined (w -ℚ r *ℚ t) k (v -ℚ r *ℚ s) a (below_top r a low until p k t w C (le_trans low_s later) high f) start
  | inr m ↦ elim (le_or_lt C.line.slope r) [
    | inl g ↦
        let here = on_line r a low until p k s v C m e in
        let there = on_line r a low until p k t w C (late p.x s t m later) f in
        let fall = line_falls C.line r s t g later in
        more (w -ℚ r *ℚ t) (v -ℚ r *ℚ s) a some (subst (λ y. w -ℚ r *ℚ t ≤ℚ y -ℚ r *ℚ s) here (subst (λ y. y -ℚ r *ℚ t ≤ℚ line_at C.line s -ℚ r *ℚ s) there fall))
    | inr g ↦
        let here = on_line r a low until p k s v C m e in
        let start : k ≤ℚ v -ℚ r *ℚ s = subst (λ y. k ≤ℚ y -ℚ r *ℚ s) here (past_start r a low until p k s C L (le_of_lt g) low_s) in
        joined (w -ℚ r *ℚ t) k (v -ℚ r *ℚ s) a (below_top r a low until p k t w C (le_trans low_s later) high f) start
  ]
]
  where
    joined : (y k z a : ℚ) → y ≤ℚ k +ℚ a → k ≤ℚ z → y ≤ℚ z +ℚ a
    joined y k z a h l = with4 y k z a (λ c. omega (arith, c.le, c.lt, c.same))

    more : (y z a : ℚ) → int (pos 0) ≤ℚ a → y ≤ℚ z → y ≤ℚ z +ℚ a
    more y z a h l = with3 y z a (λ c. omega (arith, c.le, c.lt, c.same))

    late : (x s t : ℚ) → x <ℚ s → s ≤ℚ t → x <ℚ t
    late x s t h l = with3 x s t (λ c. omega (arith, c.le, c.lt, c.same))

-- ---- all pieces
above_none : (r a end low : ℚ) (p : Piece) (ps : List Piece) (t v : ℚ) → RisesFrom p.x ps → (C : AreCapped r a end low (p ∷ ps)) → p.x ≤ℚ t → t ≤ℚ end → read (p ∷ ps) t ≡ Fin v → v -ℚ r *ℚ t ≤ℚ C.0 +ℚ a
above_none r a end low p [] t v h C l m e = below_top r a low end p C.0 t v C.1 l m (sym (read_one p t) ∙ e)
above_none r a end low p (q ∷ qs) t v h C l m e = elim (le_or_lt q.x t) [
  | inr k ↦ below_top r a low q.x p C.0 t v C.1 l (le_of_lt k) (sym (read_stop p q qs t k) ∙ e)
  | inl k ↦ raised (v -ℚ r *ℚ t) C.2.0 C.0 a (above_none r a end C.0 q qs t v h.1 C.2 k m (sym (read_go p q qs t k) ∙ e)) C.2.1.lower
]
  where
    raised : (y k z a : ℚ) → y ≤ℚ k +ℚ a → k ≤ℚ z → y ≤ℚ z +ℚ a
    raised y k z a h l = with4 y k z a (λ c. omega (arith, c.le, c.lt, c.same))

-- a piece before another is nowhere below where that starts
start_below : (r a low end : ℚ) (p q : Piece) (k n s v : ℚ) → (C : IsCapped r a low q.x p k) → IsCapped r a k end q n → p.at ≤ₑ line_value p.line p.x → q.at ≤ₑ line_value p.line q.x → p.x ≤ℚ s → s <ℚ q.x → piece_value p s ≡ Fin v → n ≤ℚ v -ℚ r *ℚ s
start_below r a low end p q k n s v C D L M low_s soon e = elim (le_or_lt s p.x) [
  | inl m ↦
      let same : p.x ≡ s = antisym (low_s, m) in
      le_trans D.lower (subst (λ x. k ≤ℚ v -ℚ r *ℚ x) same (subst (λ y. k ≤ℚ y -ℚ r *ℚ p.x) (at_start r a low q.x p k s v C m e) C.start))
  | inr m ↦
      let here = on_line r a low q.x p k s v C m e in
      subst (λ y. n ≤ℚ y -ℚ r *ℚ s) here
      (elim (le_or_lt C.line.slope r) [
        | inl g ↦
            let limit : D.value ≤ℚ line_at C.line q.x = subst (λ y. y ≤ₑ Fin (line_at C.line q.x)) D.at_is (subst (λ o. q.at ≤ₑ line_value o q.x) C.line_is M) in
            le_trans D.start (le_trans (lower D.value (line_at C.line q.x) (r *ℚ q.x) limit) (line_falls C.line r s q.x g (le_of_lt soon)))
        | inr g ↦ le_trans D.lower (past_start r a low q.x p k s C L (le_of_lt g) low_s)
      ])
]
  where
    lower : (u v m : ℚ) → u ≤ℚ v → u -ℚ m ≤ℚ v -ℚ m
    lower u v m h = with3 u v m (λ c. omega (arith, c.le, c.lt, c.same))

all_pieces : (r a end low : ℚ) (before : Option Line) (p : Piece) (ps : List Piece) (s t v w : ℚ) → int (pos 0) ≤ℚ a → RisesFrom p.x ps → LowAfter before (p ∷ ps) → AreCapped r a end low (p ∷ ps) → p.x ≤ℚ s → s ≤ℚ t → t ≤ℚ end
    → read (p ∷ ps) s ≡ Fin v → read (p ∷ ps) t ≡ Fin w → w -ℚ r *ℚ t ≤ℚ (v -ℚ r *ℚ s) +ℚ a
all_pieces r a end low before p [] s t v w some h L C l later m e f = one_piece r a low end p C.0 s t v w some L.1 C.1 l later m (sym (read_one p s) ∙ e) (sym (read_one p t) ∙ f)
all_pieces r a end low before p (q ∷ qs) s t v w some h L C l later m e f = elim (le_or_lt q.x s) [
  | inl k ↦ all_pieces r a end C.0 p.line q qs s t v w some h.1 L.2 C.2 k later m (sym (read_go p q qs s k) ∙ e) (sym (read_go p q qs t (le_trans k later)) ∙ f)
  | inr k ↦ elim (le_or_lt q.x t) [
    | inr n ↦ one_piece r a low q.x p C.0 s t v w some L.1 C.1 l later (le_of_lt n) (sym (read_stop p q qs s k) ∙ e) (sym (read_stop p q qs t n) ∙ f)
    | inl n ↦
        let top = above_none r a end C.0 q qs t w h.1 C.2 n m (sym (read_go p q qs t n) ∙ f) in
        let bottom = start_below r a low (stretch_end qs end) p q C.0 C.2.0 s v C.1 C.2.1 L.1 L.2.0 l k (sym (read_stop p q qs s k) ∙ e) in
        joined (w -ℚ r *ℚ t) C.2.0 (v -ℚ r *ℚ s) a top bottom
  ]
]
  where
    joined : (y k z a : ℚ) → y ≤ℚ k +ℚ a → k ≤ℚ z → y ≤ℚ z +ℚ a
    joined y k z a h l = with4 y k z a (λ c. omega (arith, c.le, c.lt, c.same))

finite_there : (r a end low : ℚ) (p : Piece) (ps : List Piece) (t : ℚ) → AreCapped r a end low (p ∷ ps) → (v : ℚ) × (read (p ∷ ps) t ≡ Fin v)
finite_there r a end low p [] t C = elim (le_or_lt t p.x) [
  | inl k ↦ (C.1.value, read_one p t ∙ value_by p t k ∙ C.1.at_is)
  | inr k ↦ (line_at C.1.line t, read_one p t ∙ value_past p t k ∙ ap (λ o. line_value o t) C.1.line_is)
]
finite_there r a end low p (q ∷ qs) t C = elim (le_or_lt q.x t) [
  | inl m ↦ let (v, e) = finite_there r a end C.0 q qs t C.2 in (v, read_go p q qs t m ∙ e)
  | inr m ↦ elim (le_or_lt t p.x) [
    | inl k ↦ (C.1.value, read_stop p q qs t m ∙ value_by p t k ∙ C.1.at_is)
    | inr k ↦ (line_at C.1.line t, read_stop p q qs t m ∙ value_past p t k ∙ ap (λ o. line_value o t) C.1.line_is)
  ]
]

-- ---- before the end
pub record Paced (g : List Piece) (r a end : ℚ) : Type 0 where
  pub level : (t : ℚ) → (v : ℚ) × (read g t ≡ Fin v)
  pub most : (s t v w : ℚ) → int (pos 0) ≤ℚ s → s ≤ℚ t → t ≤ℚ end → read g s ≡ Fin v → read g t ≡ Fin w → w ≤ℚ v +ℚ a +ℚ r *ℚ (t -ℚ s)

pub paced : (g : List Piece) (r a end : ℚ) → StartsAtZero g → LowAtStarts g → IsPaceOf r a end g → Paced g r a end
paced [] r a end h L P = absurd h
paced (p ∷ ps) r a end h L P = record {
  level = λ t. finite_there r a end P.low p ps t P.capped;
  most = λ s t v w low later high e f.
      out v w a (r *ℚ s) (r *ℚ t) (r *ℚ (t -ℚ s)) (mul_sub r t s)
      (all_pieces r a end P.low None p ps s t v w P.some h.1 L P.capped (subst (λ x. x ≤ℚ s) (sym h.0) low) later high e f);
}
  where
    out : (v w a m n d : ℚ) → d ≡ n -ℚ m → w -ℚ n ≤ℚ (v -ℚ m) +ℚ a → w ≤ℚ v +ℚ a +ℚ d
    out v w a m n d e h = with6 v w a m n d (λ c. omega (arith, c.le, c.lt, c.same))

-- ---- the loop: one piece more
pub all_seen : (r end until most more : ℚ) (p : Piece) (left rest all : List Piece) (low next first : ℚ) → left ≡ p ∷ rest → until ≡ stretch_end rest end → most ≤ℚ more
    → ((a : ℚ) → more ≤ℚ a → IsCapped r a low until p next) → ((a : ℚ) → most ≤ℚ a → AreCapped r a end low left → AreCapped r a end first all)
    → (a : ℚ) → more ≤ℚ a → AreCapped r a end next rest → AreCapped r a end first all
all_seen r end until most more p left rest all low next first d e l C h a k A =
    h a (le_trans l k) (subst (AreCapped r a end low) (sym d) (next, subst (λ x. IsCapped r a low x p next) e (C a k), A))

pub seen_start : (r end low more : ℚ) (p : Piece) (ps : List Piece) → low ≡ int (pos 0) → more ≡ int (pos 0)
    → (int (pos 0) ≤ℚ more) × ((a : ℚ) → more ≤ℚ a → AreCapped r a end low (p ∷ ps) → AreCapped r a end (int (pos 0)) (p ∷ ps))
seen_start r end low more p ps e f = (subst (λ x. int (pos 0) ≤ℚ x) (sym f) (le_refl (int (pos 0))), λ a h C. subst (λ x. AreCapped r a end x (p ∷ ps)) e C)
