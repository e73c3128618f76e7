-- Two lists of pieces without needless pieces, which read alike below a time, are one below it.
use Rattle.rational.proofs.MinMax.{below_min_in, below_min_out, lt_q_not}
use Rattle.std.specs.Prelude.{◌≡◌, pos, List, [], ◌∷◌, Option, Some, None}
use Rattle.std.proofs.Common.{arith, sym, ap, ap₂, ◌∙◌, refl, subst, inl, inr}
use Rattle.rational.specs.Rational.{ℚ, ◌+ℚ◌, ◌-ℚ◌, ◌*ℚ◌, ◌≤ℚ◌, ◌<ℚ◌, int}
use Rattle.rational.proofs.Linear.{with2, with3, with4, with6}
use Rattle.rational.proofs.Over.{lt_q_out}
use Rattle.rational.proofs.Laws.{antisym, le_trans, le_lt_trans, le_or_lt, le_of_lt, le_refl, mul_sub, mul_cancel, between}
use Rattle.rational.specs.Extended.{Ext}
use Rattle.upp_curve.specs.declared.affine_segment.line.Line.{Line}
use Rattle.upp_curve.specs.declared.affine_segment.line.Piece.{Piece}
use Rattle.rational.specs.MinMax.{min_q}
use Rattle.upp_curve.specs.affine_segment.Reading.{piece_value}
use Rattle.upp_curve.specs.affine_segment.Values.{line_value}
use Rattle.upp_curve.specs.affine_segment.Pieces.{RisesFrom}
use Rattle.upp_curve.specs.Normal.{NoneContinues}
use Rattle.upp_curve.specs.Unrolled.{upto}
use Rattle.rational.proofs.Whole.{not_zero}
use Rattle.upp_curve.proofs.FirstStretch.{end_of, end_at_most, start_before, read_in, on_stretch, at_start}
use Rattle.min_plus.proofs.FiniteValues.{no_inf}
use Rattle.upp_curve.proofs.affine_segment.PieceIn.{piece_in_go}
use Rattle.rational.proofs.ExtendedOrder.{fin_same}

-- ---- two values fix a line
-- two lines that meet at two times have one slope
slopes_same : (k r l q s t : ℚ) → s <ℚ t → k +ℚ r *ℚ s ≡ l +ℚ q *ℚ s → k +ℚ r *ℚ t ≡ l +ℚ q *ℚ t → r ≡ q
slopes_same k r l q s t h e f =
    let gap = t -ℚ s in
    let some : int (pos 0) <ℚ gap = with2 s t (λ c. omega (arith, c.le, c.lt, c.same)) in
    let x = mul_sub r t s in
    let y = mul_sub q t s in
    mul_cancel r q gap (not_zero gap some) (rw (x, y) (with6 k l (r *ℚ s) (r *ℚ t) (q *ℚ s) (q *ℚ t) (λ c. omega (arith, c.le, c.lt, c.same))))

starts_same : (k r l q s : ℚ) → r ≡ q → k +ℚ r *ℚ s ≡ l +ℚ q *ℚ s → k ≡ l
starts_same k r l q s h e =
    let f : r *ℚ s ≡ q *ℚ s = ap (λ x. x *ℚ s) h in
    with4 k l (r *ℚ s) (q *ℚ s) (λ c. omega (arith, c.le, c.lt, c.same))

make_line : ℚ → ℚ → Line
make_line k r = record { icept = k; slope = r }

pub lines_at_two : (l m : Option Line) (s t : ℚ) → s <ℚ t → line_value l s ≡ line_value m s → line_value l t ≡ line_value m t → l ≡ m
lines_at_two None None s t h e f = refl
lines_at_two None (Some m) s t h e f = absurd (no_inf (sym e))
lines_at_two (Some l) None s t h e f = absurd (no_inf e)
lines_at_two (Some l) (Some m) s t h e f =
    let r : l.slope ≡ m.slope = slopes_same l.icept l.slope m.icept m.slope s t h (fin_same e) (fin_same f) in
    let k : l.icept ≡ m.icept = starts_same l.icept l.slope m.icept m.slope s r (fin_same e) in
    ap Some (lines_are l m k r)
  where
    lines_are : (l m : Line) → l.icept ≡ m.icept → l.slope ≡ m.slope → l ≡ m
    lines_are l m k r = ap₂ (λ (x y : ℚ). let z : Line = record { icept = x; slope = y } in z) k r

pub lines_same : (l m : Option Line) (a b : ℚ) → a <ℚ b → ((t : ℚ) → a <ℚ t → t <ℚ b → line_value l t ≡ line_value m t) → l ≡ m
lines_same l m a b h f =
    let (s, p, q) = between a b h in
    let (t, u, v) = between s b q in
    lines_at_two l m s t u (f s p q) (f t (with3 a s t (λ c. omega (arith, c.le, c.lt, c.same))) v)

pieces_are : (p q : Piece) → p.x ≡ q.x → p.at ≡ q.at → p.line ≡ q.line → p ≡ q
pieces_are p q e f g =
    let make : ℚ → Ext → Option Line → Piece = λ x v l. record { x = x; at = v; line = l } in
    ap (λ x. make x p.at p.line) e ∙ ap₂ (λ (v : Ext) (l : Option Line). make q.x v l) f g

-- ---- a list that reads as f up to X
pub record Reads (f : ℚ → Ext) (X : ℚ) (p : Piece) (ps : List Piece) : Type 0 where
  pub rises : RisesFrom p.x ps
  pub none : NoneContinues p ps
  pub is : (t : ℚ) → p.x ≤ℚ t → t <ℚ X → read_in p ps t ≡ f t

rest_reads : (f : ℚ → Ext) (X : ℚ) (p q : Piece) (qs : List Piece) → Reads f X p (q ∷ qs) → Reads f X q qs
rest_reads f X p q qs h = record {
  rises = h.rises.1;
  none = h.none.1;
  is = λ t l k. sym (ap (λ z. piece_value z t) (piece_in_go p q qs t l)) ∙ h.is t (le_trans (le_of_lt h.rises.0) l) k;
}

-- where q is read on past p's next piece, that piece only goes on with p's line
line_under : (f : ℚ → Ext) (X : ℚ) (p : Piece) (ps : List Piece) (q : Piece) (qs : List Piece) → Reads f X p ps → Reads f X q qs
    → q.x ≤ℚ p.x → p.x <ℚ end_of X qs → p.line ≡ q.line
line_under f X p ps q qs F G h k =
    let some = start_before p.x X ps (end_at_most X qs p.x k) F.rises in
    lines_same p.line q.line p.x (min_q (end_of X ps) (end_of X qs)) (below_min_in (end_of X ps) (end_of X qs) p.x some k) (λ t a b.
    let both = below_min_out (end_of X ps) (end_of X qs) t b in
    sym (on_stretch p ps X t a both.0) ∙ F.is t (le_of_lt a) (end_at_most X ps t both.0)
    ∙ sym (G.is t (le_trans h (le_of_lt a)) (end_at_most X ps t both.0)) ∙ on_stretch q qs X t (le_lt_trans h a) both.1)

same_first : (f : ℚ → Ext) (X : ℚ) (p : Piece) (ps : List Piece) (q : Piece) (qs : List Piece) → Reads f X p ps → Reads f X q qs
    → p.x ≡ q.x → p.x <ℚ X → p ≡ q
same_first f X p ps q qs F G e h =
    let hq : q.x <ℚ X = subst (λ x. x <ℚ X) e h in
    let k : p.x <ℚ end_of X qs = subst (λ x. x <ℚ end_of X qs) (sym e) (start_before q.x X qs hq G.rises) in
    let at : p.at ≡ q.at = sym (at_start p ps F.rises) ∙ F.is p.x (le_refl p.x) h ∙ ap f e ∙ sym (G.is q.x (le_refl q.x) hq) ∙ at_start q qs G.rises in
    pieces_are p q e at (line_under f X p ps q qs F G (subst (λ x. q.x ≤ℚ x) (sym e) (le_refl q.x)) k)

-- the lists' first pieces are one, so the next piece of one is no earlier than the other's
no_early : (f : ℚ → Ext) (X : ℚ) (p r : Piece) (rs : List Piece) (q : Piece) (qs : List Piece) → Reads f X p (r ∷ rs) → Reads f X q qs
    → p ≡ q → r.x <ℚ end_of X qs → ⊥
no_early f X p r rs q qs F G e h =
    let R = rest_reads f X p r rs F in
    let past : q.x <ℚ r.x = subst (λ z. z.x <ℚ r.x) e F.rises.0 in
    let line : r.line ≡ p.line = line_under f X r rs q qs R G (le_of_lt past) h ∙ ap (λ z. z.line) (sym e) in
    let before = end_at_most X qs r.x h in
    let at : r.at ≡ line_value p.line r.x =
    sym (at_start r rs R.rises) ∙ R.is r.x (le_refl r.x) before ∙ sym (G.is r.x (le_of_lt past) before) ∙ on_stretch q qs X r.x past h ∙ ap (λ z. line_value z.line r.x) (sym e) in
    F.none.0 (at, line)

pub upto_none : (X : ℚ) (p : Piece) (ps : List Piece) → X ≤ℚ p.x → upto X (p ∷ ps) ≡ []
unfolding upto
upto_none X p ps h = rw (lt_q_not p.x X h) refl

pub upto_some : (X : ℚ) (p : Piece) (ps : List Piece) → p.x <ℚ X → upto X (p ∷ ps) ≡ p ∷ upto X ps
unfolding upto
upto_some X p ps h = rw (lt_q_out p.x X h) refl

pub upto_end : (X : ℚ) → upto X [] ≡ []
unfolding upto
upto_end X = refl

-- the same for lists that differ: r starts before s
differ : (f : ℚ → Ext) (X : ℚ) (p r : Piece) (rs : List Piece) (q s : Piece) (ss : List Piece) → Reads f X p (r ∷ rs) → Reads f X q (s ∷ ss)
    → p ≡ q → r.x <ℚ s.x → upto X (r ∷ rs) ≡ upto X (s ∷ ss)
differ f X p r rs q s ss F G same h = elim (le_or_lt X r.x) [
  | inl l ↦ upto_none X r rs l ∙ sym (upto_none X s ss (le_trans l (le_of_lt h)))
  | inr l ↦ absurd (no_early f X p r rs q (s ∷ ss) F G same (below_min_in X s.x r.x l h))
]

pub same_rests : (f : ℚ → Ext) (X : ℚ) (p : Piece) (ps : List Piece) (q : Piece) (qs : List Piece) → Reads f X p ps → Reads f X q qs
    → p ≡ q → upto X ps ≡ upto X qs
same_rests f X p [] q [] F G same = refl
same_rests f X p (r ∷ rs) q [] F G same = elim (le_or_lt X r.x) [
  | inl l ↦ upto_none X r rs l ∙ sym (upto_end X)
  | inr l ↦ absurd (no_early f X p r rs q [] F G same l)
]
same_rests f X p [] q (s ∷ ss) F G same = elim (le_or_lt X s.x) [
  | inl l ↦ upto_end X ∙ sym (upto_none X s ss l)
  | inr l ↦ absurd (no_early f X q s ss p [] G F (sym same) l)
]
same_rests f X p (r ∷ rs) q (s ∷ ss) F G same = elim (le_or_lt s.x r.x) [
  | inr l ↦ differ f X p r rs q s ss F G same l
  | inl l ↦ elim (le_or_lt r.x s.x) [
    | inr k ↦ sym (differ f X q s ss p r rs G F (sym same) k)
    | inl k ↦ elim (le_or_lt X r.x) [
      | inl n ↦ upto_none X r rs n ∙ sym (upto_none X s ss (le_trans n k))
      | inr n ↦
          let R = rest_reads f X p r rs F in
          let S = rest_reads f X q s ss G in
          let e : r ≡ s = same_first f X r rs s ss R S (antisym (k, l)) n in
          upto_some X r rs n ∙ ap₂ (λ (z : Piece) (zs : List Piece). z ∷ zs) e (same_rests f X r rs s ss R S e)
          ∙ sym (upto_some X s ss (le_lt_trans l n))
    ]
  ]
]

-- the pieces below X are one
pub same_lists : (f : ℚ → Ext) (X : ℚ) (p : Piece) (ps : List Piece) (q : Piece) (qs : List Piece) → Reads f X p ps → Reads f X q qs
    → p.x ≡ q.x → upto X (p ∷ ps) ≡ upto X (q ∷ qs)
same_lists f X p ps q qs F G e = elim (le_or_lt X p.x) [
  | inl l ↦ upto_none X p ps l ∙ sym (upto_none X q qs (subst (λ x. X ≤ℚ x) e l))
  | inr l ↦
      let same = same_first f X p ps q qs F G e l in
      upto_some X p ps l ∙ ap₂ (λ (z : Piece) (zs : List Piece). z ∷ zs) same (same_rests f X p ps q qs F G same) ∙ sym (upto_some X q qs (subst (λ x. x <ℚ X) e l))
]
