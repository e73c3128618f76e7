-- A copy of an operand's window bends nowhere between the times of the grid.
use Rattle.std.specs.Prelude.{◌≡◌, pos, List, ◌∷◌}
use Rattle.std.proofs.Common.{arith, sym, ap, ap₂, ◌∙◌, refl, subst, inl, inr}
use Rattle.rational.specs.Rational.{ℚ, ◌+ℚ◌, ◌-ℚ◌, ◌≤ℚ◌, ◌<ℚ◌, int}
use Rattle.rational.specs.Extended.{Ext, ◌≤ₑ◌, ◌+ₑ◌}
use Rattle.rational.specs.declared.Extended.TheVariants.{Fin, Inf}
use Rattle.rational.specs.Grid.{Whole}
use Rattle.rational.proofs.Grid.{whole_add, within_weaken}
use Rattle.rational.proofs.Linear.{with2, with3, with4}
use Rattle.rational.proofs.Laws.{le_or_lt, le_of_lt, le_trans, le_lt_trans}
use Rattle.rational.proofs.ExtendedOrder.{same_le_ext, le_inf, le_ext_trans, le_ext_refl, add_le_ext}
use Rattle.upp_curve.specs.declared.affine_segment.line.Piece.{Piece}
use Rattle.upp_curve.specs.declared.affine_segment.element.Element.{Element}
use Rattle.upp_curve.specs.declared.affine_segment.element.Element.TheVariants.{Point, Open}
use Rattle.upp_curve.specs.affine_segment.Elements.{element_value}
use Rattle.upp_curve.specs.affine_segment.Reading.{read}
use Rattle.upp_curve.proofs.affine_segment.ElementValues.{value_in, value_cases}
use Rattle.upp_limits.specs.Limits.{Sizes}
use Rattle.upp_limits.specs.Sized.{times_largest}
use Rattle.element_envelope.specs.ConvolutionWindows.{WindowPieces}
use Rattle.upp_normal.proofs.AnswerRoom.{more_largest}
use Rattle.element_envelope.specs.Arches.{IsAround, Arches}
use Rattle.element_envelope.specs.PieceElements.{elements_of, Among}
use Rattle.element_envelope.specs.ElementRoom.{WindowTime, WindowEnd, OperandElement, SumTime, SumEnd, SumElement}
use Rattle.element_envelope.proofs.Arching.{around_low, infinite_middle, element_arches}
use Rattle.element_envelope.proofs.Cover.{cover}
use Rattle.element_envelope.proofs.CopyReads.{copy_pieces, copy_before, copy_after}
use Rattle.element_envelope.proofs.Rests.{EndsIn}
use Rattle.element_envelope.proofs.OperandElements.{window_elements_stand}
use Rattle.element_envelope.proofs.WindowConvolution.{endless}

-- ---- a window
sum_time : (z : Sizes) (end t : ℚ) → WindowTime z end t → SumTime z end t
sum_time z end t T = record { whole = T.whole; nonneg = T.nonneg; early = twice t end T.nonneg T.early }
  where
    twice : (t end : ℚ) → int (pos 0) ≤ℚ t → t ≤ℚ end → t ≤ℚ end +ℚ end
    twice t end h k = with2 t end (λ c. omega (arith, c.le, c.lt, c.same))

sum_end : (z : Sizes) (end : ℚ) (to : Ext) → WindowEnd z end to → SumEnd z end to
sum_end z end Inf T = tt
sum_end z end (Fin t) T = sum_time z end t T

sum_element : (z : Sizes) (end : ℚ) (e : Element) → OperandElement z end e → SumElement z end e
sum_element z end (Point x v) E = record {
  time = sum_time z end x E.time;
  value = record { whole = E.value.whole; within = within_weaken (times_largest 3 z) (times_largest 6 z) v (more_largest z 3 6 (omega arith)) E.value.within };
}
sum_element z end (Open from to l) E = record {
  start = sum_time z end from E.start;
  until = sum_end z end to E.until;
  line = record {
    slope = E.line.slope;
    icept = E.line.icept;
    within = within_weaken (times_largest 2 z) (times_largest 6 z) l.icept (more_largest z 2 6 (omega arith)) E.line.within;
  };
}

pub operand_arches : (z : Sizes) (end last : ℚ) (g : List Piece) → WindowPieces z end g → Arches z.dt last (read g)
operand_arches z end last g G low high y h A = by (read g y) refl
  where
    below : (e : Element) → Among e (elements_of g Inf) → (t : ℚ) → read g t ≤ₑ element_value e t
    below e k t = elim (value_cases e t) [
      | inl n ↦ subst (λ v. read g t ≤ₑ v) (sym n) (le_inf (read g t))
      | inr c ↦ same_le_ext ((cover g Inf G.starts (endless g)).reads t record { element = e; among = k; covers = c } ∙ sym (value_in e t c))
    ]

    by : (v : Ext) → read g y ≡ v → read g (y -ℚ h) +ₑ read g (y +ℚ h) ≤ₑ read g y +ₑ read g y
    by Inf e = infinite_middle (read g (y -ℚ h) +ₑ read g (y +ℚ h)) (read g y) e
    by (Fin v) e =
        let b = around_low z.dt last low high y h A in
        let C = cover g Inf G.starts (endless g) in
        let d = C.found y v (le_trans A.nonneg (le_of_lt b.0)) tt e in
        let m = d.element in
        let here : read g y ≡ element_value m y = C.reads y d ∙ sym (value_in m y d.covers) in
        le_ext_trans (read g (y -ℚ h) +ₑ read g (y +ℚ h)) (element_value m (y -ℚ h) +ₑ element_value m (y +ℚ h)) (read g y +ₑ read g y)
        (add_le_ext (read g (y -ℚ h)) (element_value m (y -ℚ h)) (read g (y +ℚ h)) (element_value m (y +ℚ h)) (below m d.among (y -ℚ h)) (below m d.among (y +ℚ h)))
        (subst (λ w. element_value m (y -ℚ h) +ₑ element_value m (y +ℚ h) ≤ₑ w +ₑ w) (sym here)
        (element_arches z end last m (sum_element z end m (window_elements_stand z end g Inf m G tt d.among)) low high y h A))

-- ---- the copy
regroup : (a b : Ext) (v : ℚ) → (a +ₑ Fin v) +ₑ (b +ₑ Fin v) ≡ (a +ₑ b) +ₑ Fin (v +ℚ v)
regroup Inf b v = refl
regroup (Fin a) Inf v = refl
regroup (Fin a) (Fin b) v = ap Fin (with3 a b v (λ c. omega (arith, c.le, c.lt, c.same)))

around_moved : (z : Sizes) (end low high y h x : ℚ) → Whole z.dt x → int (pos 0) ≤ℚ x → x ≤ℚ low → IsAround z.dt end low high y h → IsAround z.dt end (low -ℚ x) (high -ℚ x) (y -ℚ x) h
around_moved z end low high y h x on nonneg first A = record {
  bare = λ t a b w. A.bare (t +ℚ x) (up_low low x t a) (up_high high x t b) (whole_add z.dt t x w on);
  nonneg = down low x first;
  most = shorter high x end nonneg A.most;
  before = moved_before low x y h A.before;
  after = moved_after high x y h A.after;
  some = A.some;
}
  where
    up_low : (low x t : ℚ) → low -ℚ x <ℚ t → low <ℚ t +ℚ x
    up_low low x t a = with3 low x t (λ c. omega (arith, c.le, c.lt, c.same))

    up_high : (high x t : ℚ) → t <ℚ high -ℚ x → t +ℚ x <ℚ high
    up_high high x t a = with3 high x t (λ c. omega (arith, c.le, c.lt, c.same))

    down : (low x : ℚ) → x ≤ℚ low → int (pos 0) ≤ℚ low -ℚ x
    down low x a = with2 low x (λ c. omega (arith, c.le, c.lt, c.same))

    shorter : (high x end : ℚ) → int (pos 0) ≤ℚ x → high ≤ℚ end → high -ℚ x ≤ℚ end
    shorter high x end a b = with3 high x end (λ c. omega (arith, c.le, c.lt, c.same))

    moved_before : (low x y h : ℚ) → low <ℚ y -ℚ h → low -ℚ x <ℚ y -ℚ x -ℚ h
    moved_before low x y h a = with4 low x y h (λ c. omega (arith, c.le, c.lt, c.same))

    moved_after : (high x y h : ℚ) → y +ℚ h <ℚ high → y -ℚ x +ℚ h <ℚ high -ℚ x
    moved_after high x y h a = with4 high x y h (λ c. omega (arith, c.le, c.lt, c.same))

pub copy_arches : (z : Sizes) (end x v : ℚ) (g : List Piece) (p : Piece) (ps : List Piece) → WindowTime z end x → Whole z.dt p.x → WindowPieces z end g → EndsIn g p ps
    → Arches z.dt end (read (copy_pieces x v (p ∷ ps)))
copy_arches z end x v g p ps X on G E low high y h A = elim (le_or_lt (p.x +ℚ x) low) [
  | inl k ↦
      let some = A.some in
      let b = around_low z.dt end low high y h A in
      let left = at_most low (p.x +ℚ x) (y -ℚ h) k A.before in
      let mid = at_most low (p.x +ℚ x) y k b.0 in
      let right = at_most low (p.x +ℚ x) (y +ℚ h) k (further low y h b.0 some) in
      let inner = operand_arches z end end g G (low -ℚ x) (high -ℚ x) (y -ℚ x) h (around_moved z end low high y h x X.whole X.nonneg (le_trans (sooner p.x x E.nonneg) k) A) in
      let before : read W (y -ℚ h) ≡ read g (y -ℚ x -ℚ h) +ₑ Fin v = at left ∙ ap (λ t. read g t +ₑ Fin v) (swap_less y h x) in
      let after : read W (y +ℚ h) ≡ read g (y -ℚ x +ℚ h) +ₑ Fin v = at right ∙ ap (λ t. read g t +ₑ Fin v) (swap_more y h x) in
      let a = read g (y -ℚ x -ℚ h) in
      let q = read g (y -ℚ x +ℚ h) in
      let r = read g (y -ℚ x) in
      subst (λ w. w ≤ₑ read W y +ₑ read W y) (sym (ap₂ (λ (s t : Ext). s +ₑ t) before after ∙ regroup a q v))
      (subst (λ w. (a +ₑ q) +ₑ Fin (v +ℚ v) ≤ₑ w) (sym (ap₂ (λ (s t : Ext). s +ₑ t) (at mid) (at mid) ∙ regroup r r v))
      (add_le_ext (a +ₑ q) (r +ₑ r) (Fin (v +ℚ v)) (Fin (v +ℚ v)) inner (le_ext_refl (Fin (v +ℚ v)))))
  | inr k ↦
      let b = around_low z.dt end low high y h A in
      infinite_middle (read W (y -ℚ h) +ₑ read W (y +ℚ h)) (read W y)
      (copy_before x v g p ps y E (le_trans A.nonneg (le_of_lt b.0)) (elim (le_or_lt (p.x +ℚ x) y) [
        | inl l ↦ absurd (A.bare (p.x +ℚ x) k (le_lt_trans l b.1) (whole_add z.dt p.x x on X.whole))
        | inr l ↦ l
      ]))
]
  where
    W : List Piece
    W = copy_pieces x v (p ∷ ps)

    sooner : (p x : ℚ) → int (pos 0) ≤ℚ p → x ≤ℚ p +ℚ x
    sooner p x h = with2 p x (λ c. omega (arith, c.le, c.lt, c.same))

    at : {t : ℚ} → p.x +ℚ x ≤ℚ t → read W t ≡ read g (t -ℚ x) +ₑ Fin v
    at {t} l = copy_after x v g p ps t E (le_trans X.nonneg (le_trans (sooner p.x x E.nonneg) l)) l

    at_most : (low x t : ℚ) → x ≤ℚ low → low <ℚ t → x ≤ℚ t
    at_most low x t a b = le_trans a (le_of_lt b)

    further : (low y h : ℚ) → low <ℚ y → int (pos 0) ≤ℚ h → low <ℚ y +ℚ h
    further low y h a b = with3 low y h (λ c. omega (arith, c.le, c.lt, c.same))

    swap_less : (y h x : ℚ) → y -ℚ h -ℚ x ≡ y -ℚ x -ℚ h
    swap_less y h x = with3 y h x (λ c. omega (arith, c.le, c.lt, c.same))

    swap_more : (y h x : ℚ) → y +ℚ h -ℚ x ≡ y -ℚ x +ℚ h
    swap_more y h x = with3 y h x (λ c. omega (arith, c.le, c.lt, c.same))
