-- The pieces of what is left read as what is left: where a stretch goes on with its lines the service has caught up, so that their
-- difference is nowhere below 0.
use Rattle.std.specs.Prelude.{◌≡◌, pos, cond, List, [], ◌∷◌, Option, Some, None}
use Rattle.std.proofs.Common.{arith, sym, ap, ap₂, ◌∙◌, refl, subst, inl, inr}
use Rattle.rational.specs.Rational.{ℚ, ◌+ℚ◌, ◌-ℚ◌, ◌≤ℚ◌, ◌<ℚ◌, int}
use Rattle.rational.specs.MinMax.{min_q}
use Rattle.rational.specs.Extended.{Ext, ◌≤ₑ◌}
use Rattle.rational.specs.declared.Extended.TheVariants.{Fin, Inf}
use Rattle.rational.proofs.Linear.{with1, with2}
use Rattle.rational.proofs.Laws.{le_or_lt, le_refl, le_of_lt, le_trans, lt_le_trans, antisym, zero_mul, add_zero}
use Rattle.rational.proofs.MinMax.{le_q_not, min_q_le_left, min_q_le_right, below_min_in, max_q_right}
use Rattle.rational.proofs.Over.{le_q_out}
use Rattle.rational.proofs.ExtendedOrder.{same_le_ext, fin_same}
use Rattle.upp_curve.specs.declared.affine_segment.line.Line.{Line}
use Rattle.upp_curve.specs.declared.affine_segment.line.Piece.{Piece}
use Rattle.upp_curve.specs.affine_segment.Values.{line_at, line_value}
use Rattle.min_plus.specs.Functions.{zero_q}
use Rattle.min_plus.specs.Pointwise.{excess}
use Rattle.upp_curve.specs.affine_segment.Reading.{read, piece_value}
use Rattle.min_plus.specs.Running.{left_after}
use Rattle.upp_curve.proofs.affine_segment.PieceIn.{value_past, value_at_start}
use Rattle.curve_call.specs.declared.stretch.Both.{Both}
use Rattle.curve_call.specs.Stretches.{IsBothOf, IsOverlay}
use Rattle.curve_call.specs.Pointwise.{mapped}
use Rattle.curve_call.specs.Made.{line_apart, zero_line}
use Rattle.curve_call.proofs.Mapped.{both_in, StartsAt, each_both_in, each_map, each_of, lefts_mapped, rights_mapped, read_mapped}
use Rattle.plain_operators.specs.running.Behind.{IsServed}
use Rattle.plain_operators.specs.running.Parts.{left_piece}
use Rattle.plain_operators.proofs.running.Served.{caught_up}
use Rattle.curve_call.proofs.MadeReads.{apart_at}
use Rattle.curve_call.proofs.FiniteAnswers.{early_left, late_left}

-- ---- the stretch of a time

both_go : (b c : Both) (cs : List Both) (t : ℚ) → c.left.x ≤ℚ t → both_in b (c ∷ cs) t ≡ both_in c cs t
unfolding both_in
both_go b c cs t l = ap (λ v. cond v (both_in c cs t) b) (le_q_out c.left.x t l)

both_stop : (b c : Both) (cs : List Both) (t : ℚ) → t <ℚ c.left.x → both_in b (c ∷ cs) t ≡ b
unfolding both_in
both_stop b c cs t l = ap (λ v. cond v (both_in c cs t) b) (le_q_not c.left.x t l)

both_end : (b : Both) (t : ℚ) → both_in b [] t ≡ b
unfolding both_in
both_end b t = refl

-- for a while after t it stays the same
record Stays (b : Both) (bs : List Both) (t : ℚ) : Type 0 where
  end : ℚ
  past : t <ℚ end
  same : (u : ℚ) → t ≤ℚ u → u <ℚ end → both_in b bs u ≡ both_in b bs t

both_stays : (b : Both) (bs : List Both) (t : ℚ) → Stays b bs t
both_stays b [] t = record { end = t +ℚ int (pos 1); past = with1 t (λ c. omega (arith, c.le, c.lt, c.same)); same = λ u h l. both_end b u ∙ sym (both_end b t) }
both_stays b (c ∷ cs) t = elim (le_or_lt c.left.x t) [
  | inl l ↦
      let S = both_stays c cs t in
      record { end = S.end; past = S.past; same = λ u h k. both_go b c cs u (le_trans l h) ∙ S.same u h k ∙ sym (both_go b c cs t l) }
  | inr l ↦ record { end = c.left.x; past = l; same = λ u h k. both_stop b c cs u k ∙ sym (both_stop b c cs t l) }
]

both_early : (b : Both) (bs : List Both) (t : ℚ) → b.left.x ≤ℚ t → (both_in b bs t).left.x ≤ℚ t
both_early b [] t h = subst (λ z. z.left.x ≤ℚ t) (sym (both_end b t)) h
both_early b (c ∷ cs) t h = elim (le_or_lt c.left.x t) [
  | inl l ↦ subst (λ z. z.left.x ≤ℚ t) (sym (both_go b c cs t l)) (both_early c cs t l)
  | inr l ↦ subst (λ z. z.left.x ≤ℚ t) (sym (both_stop b c cs t l)) h
]

-- the stretch that t is on, with its readings
record BothAt (f g : List Piece) (m : Both → Piece) (bs : List Both) (t : ℚ) : Type 0 where
  both : Both
  of : IsBothOf f g both
  start : both.left.x ≤ℚ t
  end : ℚ
  past : t <ℚ end
  left : (u : ℚ) → t ≤ℚ u → u <ℚ end → read f u ≡ piece_value both.left u
  right : read g t ≡ piece_value both.right t
  made : read (mapped m bs) t ≡ piece_value (m both) t

both_at : (f g : List Piece) (m : Both → Piece) (bs : List Both) (t : ℚ) → IsOverlay f g bs → ((b : Both) → StartsAt m b) → zero_q ≤ℚ t → BothAt f g m bs t
both_at f g m [] t O s low = absurd O.starts
both_at f g m (b ∷ bs) t O s low =
    let S = both_stays b bs t in
    record {
      both = both_in b bs t;
      of = each_both_in (IsBothOf f g) b bs t O.each.0 O.each.1;
      start = both_early b bs t (subst (λ x. x ≤ℚ t) (sym O.starts.0) low);
      end = S.end;
      past = S.past;
      left = λ u h k.
          sym (O.left u (le_trans low h)) ∙ ap (λ z. read z u) (lefts_mapped (b ∷ bs)) ∙ read_mapped (λ z. z.left) b bs u (each_of (StartsAt (λ z. z.left)) bs (λ z. refl))
          ∙ ap (λ z. piece_value z.left u) (S.same u h k);
      right = sym (O.right t low) ∙ ap (λ z. read z t) (rights_mapped (b ∷ bs))
          ∙ read_mapped (λ z. z.right) b bs t (each_map (IsBothOf f g) (StartsAt (λ z. z.right)) bs (λ z k. sym k.together) O.each.1);
      made = read_mapped m b bs t (each_of (StartsAt m) bs s);
    }

-- ---- the excess on a stretch

zero_value : (t : ℚ) → line_at zero_line t ≡ zero_q
zero_value t = ap (λ y. zero_q +ℚ y) (zero_mul t) ∙ add_zero zero_q

excess_none : (v : Ext) → excess v Inf ≡ Fin zero_q
excess_none Inf = refl
excess_none (Fin v) = refl

-- where the first line is a number, and no less than the second where that is one
apart_value : (l m : Option Line) (t v : ℚ) → line_value l t ≡ Fin v → ((w : ℚ) → line_value m t ≡ Fin w → w ≤ℚ v) → line_value (line_apart l m) t ≡ excess (line_value l t) (line_value m t)
apart_value l None t v e h = ap Fin (zero_value t) ∙ sym (excess_none (line_value l t))
apart_value None (Some m) t v e h = absurd (same_le_ext e)
apart_value (Some l) (Some m) t v e h =
    let p = line_at l t in
    let q = line_at m t in
    let less : q ≤ℚ p = subst (λ x. q ≤ℚ x) (sym (fin_same e)) (h q refl) in
    ap Fin (apart_at l m t ∙ sym (max_q_right zero_q (p -ℚ q) (with2 p q (λ c. omega (arith, c.le, c.lt, c.same)))))

-- ---- what is read
-- f and g are those of the curves up to the end, g moved right by theta and infinite up to it
pub record IsLeftOf (f g : ℚ → Ext) (theta end : ℚ) (ls rs : List Piece) : Type 0 where
  pub served : IsServed f g theta
  pub left : (t : ℚ) → zero_q ≤ℚ t → t <ℚ end → read ls t ≡ f t
  pub early : (t : ℚ) → zero_q ≤ℚ t → t ≤ℚ theta → t <ℚ end → read rs t ≡ Inf
  pub late : (t : ℚ) → theta <ℚ t → t <ℚ end → read rs t ≡ g (t -ℚ theta)

excess_read : (f g : ℚ → Ext) (theta end : ℚ) (ls rs : List Piece) (bs : List Both) (t : ℚ) → IsLeftOf f g theta end ls rs → IsOverlay ls rs bs → zero_q ≤ℚ t → t <ℚ end
    → read (mapped left_piece bs) t ≡ excess (read ls t) (read rs t)
excess_read f g theta end ls rs bs t L O low early =
    let B = both_at ls rs left_piece bs t O (λ b. refl) low in
    let b = B.both in
    elim (le_or_lt t b.left.x) [
      | inl h ↦
          let same : b.left.x ≡ t = antisym (B.start, h) in
          let other : b.right.x ≡ t = sym B.of.together ∙ same in
          B.made ∙ ap (piece_value (left_piece b)) (sym same) ∙ value_at_start (left_piece b)
          ∙ ap₂ excess (B.of.left.at ∙ ap (read ls) same) (B.of.right.at ∙ ap (read rs) other)
      | inr h ↦
          let other : b.right.x <ℚ t = subst (λ x. x <ℚ t) B.of.together h in
          let right : read rs t ≡ line_value b.right.line t = B.right ∙ value_past b.right t other in
          let left : read ls t ≡ line_value b.left.line t = B.left t (le_refl t) B.past ∙ value_past b.left t h in
          let (v, e) = L.served.finite t low in
          let here : line_value b.left.line t ≡ Fin v = sym left ∙ L.left t low early ∙ e in
          B.made ∙ value_past (left_piece b) t h
          ∙ apart_value b.left.line b.right.line t v here (λ w k. ahead b B.end B.past h (λ u a c. B.left u a c) v w e (right ∙ k))
          ∙ sym (ap₂ excess left right)
    ]
  where
    ahead : (b : Both) (far : ℚ) → t <ℚ far → b.left.x <ℚ t → ((u : ℚ) → t ≤ℚ u → u <ℚ far → read ls u ≡ piece_value b.left u) → (v w : ℚ) → f t ≡ Fin v → read rs t ≡ Fin w → w ≤ℚ v
    ahead b far past h on v w e k = elim (le_or_lt t theta) [
      | inl l ↦ absurd (same_le_ext (sym (L.early t low l early) ∙ k))
      | inr l ↦
          let stop = min_q far end in
          let bound = caught_up f g theta t stop b.left.line L.served (le_of_lt l) (below_min_in far end t past early)
          (λ u a c. sym (L.left u (le_trans low a) (lt_le_trans c (min_q_le_right far end))) ∙ on u a (lt_le_trans c (min_q_le_left far end)) ∙ value_past b.left u (lt_le_trans h a)) in
          subst (λ x. Fin w ≤ₑ x) e (subst (λ x. x ≤ₑ f t) (sym (L.late t l early) ∙ k) bound)
    ]

pub left_reads : (f g : ℚ → Ext) (theta end : ℚ) (ls rs : List Piece) (bs : List Both) (t : ℚ) → IsLeftOf f g theta end ls rs → IsOverlay ls rs bs → zero_q ≤ℚ t → t <ℚ end
    → read (mapped left_piece bs) t ≡ left_after f g theta t
left_reads f g theta end ls rs bs t L O low early = elim (le_or_lt t theta) [
  | inl l ↦ excess_read f g theta end ls rs bs t L O low early ∙ ap (excess (read ls t)) (L.early t low l early) ∙ excess_none (read ls t) ∙ sym (early_left f g theta t l)
  | inr l ↦ excess_read f g theta end ls rs bs t L O low early ∙ ap₂ excess (L.left t low early) (L.late t l early) ∙ sym (late_left f g theta t l)
]
