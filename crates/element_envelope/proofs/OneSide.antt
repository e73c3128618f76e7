-- Of two windows of which one gains no more than the lines of the other rise that rise at all, and never falls, the other's starts count alone.
use Rattle.std.specs.Prelude.{◌≡◌, ◌⊎◌, pos, List, [], ◌∷◌, Option, Some, None}
use Rattle.std.proofs.Common.{arith, sym, ap, ap₂, ◌∙◌, refl, subst, inl, inr}
use Rattle.rational.specs.Rational.{ℚ, ◌+ℚ◌, ◌-ℚ◌, ◌*ℚ◌, ◌≤ℚ◌, int}
use Rattle.rational.specs.Extended.{Ext, ◌≤ₑ◌, ◌+ₑ◌, min_ext}
use Rattle.rational.specs.Families.{either}
use Rattle.rational.specs.declared.Extended.TheVariants.{Fin}
use Rattle.rational.proofs.Linear.{with2, with3, with4, with5}
use Rattle.rational.proofs.Laws.{le_or_lt, le_of_lt, le_refl, le_trans, antisym, zero_mul, mul_sub, mul_le_mul_right}
use Rattle.rational.proofs.ExtendedOrder.{same_le_ext, le_ext_trans, fin_same, finite_sum, finite_below, add_ext_comm}
use Rattle.rational.proofs.Bounds.{infimum_union}
use Rattle.upp_curve.specs.declared.affine_segment.line.Line.{Line}
use Rattle.upp_curve.specs.declared.affine_segment.line.Piece.{Piece}
use Rattle.upp_curve.specs.affine_segment.Values.{line_at, line_value}
use Rattle.upp_curve.specs.affine_segment.Pieces.{Each, RisesFrom, StartsAtZero}
use Rattle.upp_curve.specs.affine_segment.Reading.{read, piece_value}
use Rattle.upp_curve.specs.Shapes.{EndsBelow, PiecesRise, end_before}
use Rattle.min_plus.specs.Functions.{IsRising}
use Rattle.min_plus.specs.Convolution.{Split}
use Rattle.upp_curve.proofs.affine_segment.PieceIn.{value_past, value_by, value_at_start, read_first, read_go, read_one, read_stop}
use Rattle.upp_curve.proofs.affine_segment.LineValues.{line_found}
use Rattle.upp_curve.proofs.RisingCurves.{plain_rises}
use Rattle.element_envelope.specs.Copies.{IsPieceOf, StartSplit, start_sum, LowAfter, LowAtStarts}
use Rattle.element_envelope.specs.NearStarts.{RisesWithin, IsWithout}
use Rattle.element_envelope.specs.OneSide.{IsReached, NeverFalls, IsApart, OneSideSuffices}
use Rattle.element_envelope.proofs.Growth.{Gains, gains, line_gains}
use Rattle.element_envelope.proofs.Members.{Matched, matched_out}
use Rattle.element_envelope.proofs.NearCopies.{without_in}
use Rattle.element_envelope.proofs.StartSplits.{start_is, turned_split, start_split, second_late, rest}

-- ---- what never falls
ends_below : (p : Piece) (ps : List Piece) (r : ℚ) → RisesWithin r p → NeverFalls p.line ps → EndsBelow p.line (end_before ps None)
ends_below p [] r R N = tt
ends_below p (q ∷ qs) r R N = subst (λ o. IsReached o q → line_value o q.x ≤ₑ q.at) (sym R.line_is) (λ h. h) N.0

pieces_rise : (before : Option Line) (ps : List Piece) (r : ℚ) → LowAfter before ps → Each (RisesWithin r) ps → NeverFalls before ps → PiecesRise None ps
pieces_rise before [] r L E N = tt
pieces_rise before (p ∷ ps) r L E N = (record { first = L.1; slope = N.1; last = ends_below p ps r E.0 N.2 }, pieces_rise p.line ps r L.2 E.1 N.2)

never_falls : (g : List Piece) (r : ℚ) → StartsAtZero g → LowAtStarts g → Each (RisesWithin r) g → NeverFalls None g → IsRising (read g)
never_falls g r h L E N = plain_rises g (read g) h (λ t low. refl) (pieces_rise None g r L E N)

-- ---- from a time of a piece: its line is nowhere later above a, or its start is as far below a as something of slope r gains in between
record IsLevel (p : Piece) (s a : ℚ) : Type 0 where
  line : Line
  line_is : p.line ≡ Some line
  most : (y : ℚ) → s ≤ℚ y → line_at line y ≤ℚ a

record IsAbove (r : ℚ) (p : Piece) (s a : ℚ) : Type 0 where
  value : ℚ
  at_is : p.at ≡ Fin value
  far : value +ℚ r *ℚ (s -ℚ p.x) ≤ℚ a

falls : (l : Line) (s y : ℚ) → l.slope ≤ℚ int (pos 0) → s ≤ℚ y → line_at l y ≤ℚ line_at l s
falls l s y h k =
    let run = mul_le_mul_right (y -ℚ s) (with2 s y (λ c. omega (arith, c.le, c.lt, c.same))) h in
    down (line_at l y) (line_at l s) (l.slope *ℚ (y -ℚ s)) (line_gains l s y) (subst (λ z. l.slope *ℚ (y -ℚ s) ≤ℚ z) (zero_mul (y -ℚ s)) run)
  where
    down : (a b m : ℚ) → a ≡ b +ℚ m → m ≤ℚ int (pos 0) → a ≤ℚ b
    down a b m e h = with3 a b m (λ c. omega (arith, c.le, c.lt, c.same))

level_of_flat : (p : Piece) (s a : ℚ) → RisesWithin (int (pos 0)) p → p.x ≤ℚ s → piece_value p s ≡ Fin a → IsLevel p s a
level_of_flat p s a R low e = elim (le_or_lt s p.x) [
  | inl k ↦
      let here : R.value ≡ a = fin_same {y = a} (sym R.at_is ∙ sym (value_by p s k) ∙ e) in
      record {
        line = R.line;
        line_is = R.line_is;
        most = λ y later. subst (λ z. line_at R.line y ≤ℚ z) here (le_trans (falls R.line p.x y R.slope (le_trans low later)) R.after);
      }
  | inr k ↦
      let here : line_at R.line s ≡ a = fin_same {y = a} (sym (value_past p s k ∙ ap (λ o. line_value o s) R.line_is) ∙ e) in
      record { line = R.line; line_is = R.line_is; most = λ y later. subst (λ z. line_at R.line y ≤ℚ z) here (falls R.line s y R.slope later) }
]

no_more : (r x s a : ℚ) → s ≤ℚ x → x ≤ℚ s → a +ℚ r *ℚ (s -ℚ x) ≤ℚ a
no_more r x s a h k =
    let p = r *ℚ s in
    let q = r *ℚ x in
    let m = r *ℚ (s -ℚ x) in
    let d : m ≡ p -ℚ q = mul_sub r s x in
    let e : p ≡ q = ap (λ z. r *ℚ z) (antisym (h, k)) in
    with4 m p q a (λ c. omega (arith, c.le, c.lt, c.same))

turn_of_kept : (r : ℚ) (p : Piece) (s a : ℚ) → IsApart r p.line → p.at ≤ₑ line_value p.line p.x → p.x ≤ℚ s → piece_value p s ≡ Fin a → IsLevel p s a ⊎ IsAbove r p s a
turn_of_kept r p s a A L low e = elim (le_or_lt s p.x) [
  | inl k ↦ inr record { value = a; at_is = sym (value_by p s k) ∙ e; far = no_more r p.x s a k low }
  | inr k ↦
      let (l, is) = line_found p.line s a (sym (value_past p s k) ∙ e) in
      let here : line_at l s ≡ a = fin_same {y = a} (sym (value_past p s k ∙ ap (λ o. line_value o s) is) ∙ e) in
      let by : (l.slope ≤ℚ int (pos 0)) ⊎ (r ≤ℚ l.slope) = subst (IsApart r) is A in
      elim by [
        | inl h ↦ inl record { line = l; line_is = is; most = λ y later. subst (λ z. line_at l y ≤ℚ z) here (falls l s y h later) }
        | inr h ↦
            let below : p.at ≤ₑ Fin (line_at l p.x) = subst (λ o. p.at ≤ₑ line_value o p.x) is L in
            let (v, at) = finite_below p.at (line_at l p.x) below in
            let start : v ≤ℚ line_at l p.x = subst (λ z. z ≤ₑ Fin (line_at l p.x)) at below in
            let run = mul_le_mul_right (s -ℚ p.x) (gap p.x s low) h in
            inr record { value = v; at_is = at; far = up v (line_at l p.x) (line_at l s) a (r *ℚ (s -ℚ p.x)) (l.slope *ℚ (s -ℚ p.x)) start (line_gains l p.x s) run here }
      ]
]
  where
    gap : (x s : ℚ) → x ≤ℚ s → int (pos 0) ≤ℚ s -ℚ x
    gap x s h = with2 x s (λ c. omega (arith, c.le, c.lt, c.same))

    up : (v b c a m n : ℚ) → v ≤ℚ b → c ≡ b +ℚ n → m ≤ℚ n → c ≡ a → v +ℚ m ≤ℚ a
    up v b c a m n h e k is = subst (λ z. v +ℚ m ≤ℚ z) (sym e ∙ is) (with4 v b m n (λ c. omega (arith, c.le, c.lt, c.same)))

-- ---- a sum that is as low: at a start that is left, or z
abbrev IsSideBelow : (ks g : List Piece) (z : Ext) (t v : ℚ) → Type 0
IsSideBelow ks g z t v = ((i : StartSplit ks t) × (start_sum ks g t i ≤ₑ Fin v)) ⊎ (z ≤ₑ Fin v)

weaker : (ks g : List Piece) (z : Ext) (t v w : ℚ) → v ≤ℚ w → IsSideBelow ks g z t v → IsSideBelow ks g z t w
weaker ks g z t v w l (inl (i, h)) = inl (i, le_ext_trans (start_sum ks g t i) (Fin v) (Fin w) h l)
weaker ks g z t v w l (inr h) = inr (le_ext_trans z (Fin v) (Fin w) h l)

-- what g is, and that z is the sum at the first start of g
record Sided (f g : List Piece) (r t : ℚ) (z : Ext) : Type 0 where
  gains : Gains g r
  rises : IsRising (read g)
  end : (c d : ℚ) → read f t ≡ Fin c → read g (int (pos 0)) ≡ Fin d → z ≤ₑ Fin (c +ℚ d)

less : (f g : List Piece) (r t v u d b : ℚ) (z : Ext) → Sided f g r t z → int (pos 0) ≤ℚ v → v ≤ℚ u → read g v ≡ Fin d → read g u ≡ Fin b → d ≤ℚ b
less f g r t v u d b z S low h e k = subst (λ x. Fin d ≤ₑ x) k (subst (λ x. x ≤ₑ read g u) e (S.rises v u low h))

both_less : (c d a b : ℚ) → c ≤ℚ a → d ≤ℚ b → c +ℚ d ≤ℚ a +ℚ b
both_less c d a b h k = with4 c d a b (λ m. omega (arith, m.le, m.lt, m.same))

-- a part of t is at most t
reached : (s u t : ℚ) → s +ℚ u ≡ t → int (pos 0) ≤ℚ u → s ≤ℚ t
reached s u t e h = subst (λ q. s ≤ℚ q) e (with2 s u (λ c. omega (arith, c.le, c.lt, c.same)))

-- to the first start of g
to_end : (f g ks : List Piece) (r t u a b c : ℚ) (z : Ext) → Sided f g r t z → int (pos 0) ≤ℚ u → read g u ≡ Fin b → read f t ≡ Fin c → c ≤ℚ a → IsSideBelow ks g z t (a +ℚ b)
to_end f g ks r t u a b c z S low y e h =
    let (d, k) = S.gains.level (int (pos 0)) (le_refl (int (pos 0))) in
    inr (le_ext_trans z (Fin (c +ℚ d)) (Fin (a +ℚ b)) (S.end c d e k) (both_less c d a b h (less f g r t (int (pos 0)) u d b z S (le_refl (int (pos 0))) low k y)))

-- to the start of f that is left
to_start : (f g ks : List Piece) (r t s u a b : ℚ) (z : Ext) (p : Piece) → Sided f g r t z → p.x ≤ℚ s → int (pos 0) ≤ℚ u → s +ℚ u ≡ t → read g u ≡ Fin b → IsPieceOf p ks → IsAbove r p s a → IsSideBelow ks g z t (a +ℚ b)
to_start f g ks r t s u a b z p S low high whole y among A =
    let x = p.x in
    let later : u ≤ℚ t -ℚ x = second_late s u t x u whole low (le_refl u) in
    let (d, e) = S.gains.level (t -ℚ x) (le_trans high later) in
    let gain : d ≤ℚ b +ℚ r *ℚ ((t -ℚ x) -ℚ u) = S.gains.most u (t -ℚ x) b d high later y e in
    let same : (t -ℚ x) -ℚ u ≡ s -ℚ x = subst (λ q. (q -ℚ x) -ℚ u ≡ s -ℚ x) whole (with3 s u x (λ c. omega (arith, c.le, c.lt, c.same))) in
    let sum : p.at +ₑ read g (t -ℚ x) ≡ Fin (A.value +ℚ d) = ap₂ (λ (i j : Ext). i +ₑ j) A.at_is e in
    inl (
      record { piece = p; among = among; late = le_trans low (reached s u t whole high) },
      subst (λ q. q ≤ₑ Fin (a +ℚ b)) (sym sum) (sums A.value d a b (r *ℚ (s -ℚ x)) A.far (subst (λ q. d ≤ℚ b +ℚ r *ℚ q) same gain)),
    )
  where
    sums : (v d a b m : ℚ) → v +ℚ m ≤ℚ a → d ≤ℚ b +ℚ m → v +ℚ d ≤ℚ a +ℚ b
    sums v d a b m h k = with5 v d a b m (λ c. omega (arith, c.le, c.lt, c.same))

-- ---- pieces one after another
-- what is left of the pieces after the first
record Rest (ps qs : List Piece) : Type 0 where
  starts : List Piece
  without : IsWithout (RisesWithin (int (pos 0))) ps starts
  among : (k : Piece) → IsPieceOf k starts → IsPieceOf k qs

rest_of : (p : Piece) (ps qs : List Piece) → IsWithout (RisesWithin (int (pos 0))) (p ∷ ps) qs → Rest ps qs
rest_of p ps qs (inl W) = record { starts = qs; without = W.1; among = λ k m. m }
rest_of p ps qs (inr W) = record { starts = W.0; without = W.2; among = λ k m. subst (IsPieceOf k) (sym W.1) (inr m) }

turn_of : (r : ℚ) (p : Piece) (ps qs : List Piece) (s a : ℚ) → IsWithout (RisesWithin (int (pos 0))) (p ∷ ps) qs → IsApart r p.line → p.at ≤ₑ line_value p.line p.x → p.x ≤ℚ s → piece_value p s ≡ Fin a
    → IsLevel p s a ⊎ (IsPieceOf p qs × IsAbove r p s a)
turn_of r p ps qs s a (inl W) A L low e = inl (level_of_flat p s a W.0 low e)
turn_of r p ps qs s a (inr W) A L low e = elim (turn_of_kept r p s a A L low e) [
  | inl k ↦ inl k
  | inr k ↦ inr (subst (IsPieceOf p) (sym W.1) (inl refl), k)
]

-- the rest of f reads as the pieces from p on; those of them that are left are among all
record Reads (f ks : List Piece) (p : Piece) (ps qs : List Piece) : Type 0 where
  rises : RisesFrom p.x ps
  without : IsWithout (RisesWithin (int (pos 0))) (p ∷ ps) qs
  among : (k : Piece) → IsPieceOf k qs → IsPieceOf k ks
  same : (y : ℚ) → p.x ≤ℚ y → read f y ≡ read (p ∷ ps) y

next_reads : (f ks : List Piece) (p n : Piece) (ns qs : List Piece) → (R : Reads f ks p (n ∷ ns) qs) → Reads f ks n ns (rest_of p (n ∷ ns) qs R.without).starts
next_reads f ks p n ns qs R =
    let T = rest_of p (n ∷ ns) qs R.without in
    record {
      rises = R.rises.1;
      without = T.without;
      among = λ k m. R.among k (T.among k m);
      same = λ y l. R.same y (le_trans (le_of_lt R.rises.0) l) ∙ read_go p n ns y l;
    }

-- where the piece at s goes on up to t: f at t
end_value : (f : List Piece) (p : Piece) (s u t a : ℚ) → s +ℚ u ≡ t → int (pos 0) ≤ℚ u → p.x ≤ℚ s → piece_value p s ≡ Fin a → (V : IsLevel p s a) → read f t ≡ piece_value p t → (c : ℚ) × (read f t ≡ Fin c) × (c ≤ℚ a)
end_value f p s u t a whole high low e V same = elim (le_or_lt t p.x) [
  | inl k ↦ (a, same ∙ ap (piece_value p) (antisym (le_trans k low, after)) ∙ e, le_refl a)
  | inr k ↦ (line_at V.line t, same ∙ value_past p t k ∙ ap (λ o. line_value o t) V.line_is, V.most t after)
]
  where
    after : s ≤ℚ t
    after = reached s u t whole high

side : (f g ks : List Piece) (r t : ℚ) (z : Ext) → Sided f g r t z → (before : Option Line) (p : Piece) (ps qs : List Piece) → LowAfter before (p ∷ ps) → Each (λ q. IsApart r q.line) (p ∷ ps) → Reads f ks p ps qs
    → (s u a b : ℚ) → p.x ≤ℚ s → int (pos 0) ≤ℚ u → s +ℚ u ≡ t → read (p ∷ ps) s ≡ Fin a → read g u ≡ Fin b → IsSideBelow ks g z t (a +ℚ b)
side f g ks r t z S before p [] qs L A R s u a b low high whole x y =
    let here : piece_value p s ≡ Fin a = sym (read_one p s) ∙ x in
    elim (turn_of r p [] qs s a R.without A.0 L.1 low here) [
      | inl V ↦
          let T = end_value f p s u t a whole high low here V (R.same t (le_trans low (reached s u t whole high)) ∙ read_one p t) in
          to_end f g ks r t u a b T.0 z S high y T.1 T.2
      | inr B ↦ to_start f g ks r t s u a b z p S low high whole y (R.among p B.0) B.1
    ]
side f g ks r t z S before p (n ∷ ns) qs L A R s u a b low high whole x y = elim (le_or_lt n.x s) [
  | inl k ↦
      side f g ks r t z S p.line n ns (rest_of p (n ∷ ns) qs R.without).starts L.2 A.1 (next_reads f ks p n ns qs R) s u a b k high whole (sym (read_go p n ns s k) ∙ x) y
  | inr k ↦
      let here : piece_value p s ≡ Fin a = sym (read_stop p n ns s k) ∙ x in
      elim (turn_of r p (n ∷ ns) qs s a R.without A.0 L.1 low here) [
        | inr B ↦ to_start f g ks r t s u a b z p S low high whole y (R.among p B.0) B.1
        | inl V ↦ elim (le_or_lt n.x t) [
          | inr m ↦
              let T = end_value f p s u t a whole high low here V (R.same t (le_trans low (reached s u t whole high)) ∙ read_stop p n ns t m) in
              to_end f g ks r t u a b T.0 z S high y T.1 T.2
          | inl m ↦
              let limit : n.at ≤ₑ Fin (line_at V.line n.x) = subst (λ o. n.at ≤ₑ line_value o n.x) V.line_is L.2.0 in
              let (c, at) = finite_below n.at (line_at V.line n.x) limit in
              let start : c ≤ℚ line_at V.line n.x = subst (λ q. q ≤ₑ Fin (line_at V.line n.x)) at limit in
              let v_low : int (pos 0) ≤ℚ t -ℚ n.x = left n.x t m in
              let (d, e) = S.gains.level (t -ℚ n.x) v_low in
              weaker ks g z t (c +ℚ d) (a +ℚ b)
              (both_less c d a b (le_trans start (V.most n.x (le_of_lt k))) (less f g r t (t -ℚ n.x) u d b z S v_low (earlier s u n.x t whole (le_of_lt k)) e y))
              (side f g ks r t z S p.line n ns (rest_of p (n ∷ ns) qs R.without).starts L.2 A.1 (next_reads f ks p n ns qs R) n.x (t -ℚ n.x) c d (le_refl n.x) v_low (again n.x t)
              (read_first n ns n.x n.x R.rises.1 (le_refl n.x) ∙ value_at_start n ∙ at) e)
        ]
      ]
]
  where
    left : (x t : ℚ) → x ≤ℚ t → int (pos 0) ≤ℚ t -ℚ x
    left x t h = with2 x t (λ c. omega (arith, c.le, c.lt, c.same))

    again : (x t : ℚ) → x +ℚ (t -ℚ x) ≡ t
    again x t = with2 x t (λ c. omega (arith, c.le, c.lt, c.same))

    earlier : (s u x t : ℚ) → s +ℚ u ≡ t → s ≤ℚ x → t -ℚ x ≤ℚ u
    earlier s u x t e h = subst (λ q. q -ℚ x ≤ℚ u) e (with3 s u x (λ c. omega (arith, c.le, c.lt, c.same)))

side_of : (f g ks : List Piece) (r t : ℚ) (z : Ext) → Sided f g r t z → StartsAtZero f → LowAtStarts f → Each (λ q. IsApart r q.line) f → IsWithout (RisesWithin (int (pos 0))) f ks
    → (s u a b : ℚ) → int (pos 0) ≤ℚ s → int (pos 0) ≤ℚ u → s +ℚ u ≡ t → read f s ≡ Fin a → read g u ≡ Fin b → IsSideBelow ks g z t (a +ℚ b)
side_of [] g ks r t z S h L A W s u a b low high whole x y = absurd h
side_of (p ∷ ps) g ks r t z S h L A W s u a b low high whole x y =
    side (p ∷ ps) g ks r t z S None p ps ks L A record { rises = h.1; without = W; among = λ k m. m; same = λ y l. refl } s u a b (subst (λ q. q ≤ℚ s) (sym h.0) low) high whole x y

-- ---- the law
only_in : (p : Piece) (rest : List Piece) (k : Piece) → IsPieceOf k (p ∷ []) → IsPieceOf k (p ∷ rest)
only_in p rest k (inl e) = inl e
only_in p rest k (inr m) = absurd m

pub one_side_suffices : OneSideSuffices
unfolding turned_split
one_side_suffices f g ks more p t v w hf hg lf lg O e low A B =
    matched_out {I = Split t} (λ s. read f s.first +ₑ read g s.second) (either (start_sum ks g t) (start_sum (p ∷ []) f t)) (min_ext v w) matched
    (infimum_union (start_sum ks g t) (start_sum (p ∷ []) f t) v w A B)
  where
    among : IsPieceOf p g
    among = subst (IsPieceOf p) (sym e) (inl refl)

    at_zero : p.x ≡ int (pos 0)
    at_zero = (subst StartsAtZero e hg).0

    first : StartSplit (p ∷ []) t
    first = record { piece = p; among = inl refl; late = subst (λ x. x ≤ℚ t) (sym at_zero) low }

    whole : (t : ℚ) → t -ℚ int (pos 0) ≡ t
    whole t = rest (int (pos 0)) t t (with2 (int (pos 0)) t (λ c. omega (arith, c.le, c.lt, c.same)))

    end : (c d : ℚ) → read f t ≡ Fin c → read g (int (pos 0)) ≡ Fin d → start_sum (p ∷ []) f t first ≤ₑ Fin (c +ℚ d)
    end c d x y =
        let at : p.at ≡ Fin d = sym (start_is g p hg among).1 ∙ ap (read g) at_zero ∙ y in
        let there : read f (t -ℚ p.x) ≡ Fin c = ap (λ q. read f (t -ℚ q)) at_zero ∙ ap (read f) (whole t) ∙ x in
        same_le_ext (ap₂ (λ (i j : Ext). i +ₑ j) at there ∙ add_ext_comm (Fin d) (Fin c))

    sided : Sided f g O.slope t (start_sum (p ∷ []) f t first)
    sided = record { gains = gains g O.slope hg lg O.within; rises = never_falls g O.slope hg lg O.within O.rising; end = end }

    chosen : (q : ℚ) → IsSideBelow ks g (start_sum (p ∷ []) f t first) t q → (j : StartSplit ks t ⊎ StartSplit (p ∷ []) t) × (either (start_sum ks g t) (start_sum (p ∷ []) f t) j ≤ₑ Fin q)
    chosen q (inl (i, h)) = (inl i, h)
    chosen q (inr h) = (inr first, h)

    down : (s : Split t) (q : ℚ) → read f s.first +ₑ read g s.second ≡ Fin q → (j : StartSplit ks t ⊎ StartSplit (p ∷ []) t) × (either (start_sum ks g t) (start_sum (p ∷ []) f t) j ≤ₑ Fin q)
    down s q is =
        let (a, b, x, y) = finite_sum (read f s.first) (read g s.second) q is in
        let sum : a +ℚ b ≡ q = fin_same {y = q} (sym (ap₂ (λ (i j : Ext). i +ₑ j) x y) ∙ is) in
        chosen q (subst (IsSideBelow ks g (start_sum (p ∷ []) f t first) t) sum
        (side_of f g ks O.slope t (start_sum (p ∷ []) f t first) sided hf lf O.apart O.starts s.first s.second a b s.first_nonneg s.second_nonneg s.whole x y))

    up : (i : StartSplit ks t ⊎ StartSplit (p ∷ []) t) → (s : Split t) × (read f s.first +ₑ read g s.second ≤ₑ either (start_sum ks g t) (start_sum (p ∷ []) f t) i)
    up (inl i) =
        let s = start_split f g t hf record { piece = i.piece; among = without_in (RisesWithin (int (pos 0))) i.piece f ks O.starts i.among; late = i.late } in
        (s.0, same_le_ext s.1)
    up (inr i) =
        let s = start_split g f t hg record { piece = i.piece; among = subst (IsPieceOf i.piece) (sym e) (only_in p more i.piece i.among); late = i.late } in
        (turned_split t s.0, same_le_ext (add_ext_comm (read f s.0.second) (read g s.0.first) ∙ s.1))

    matched : Matched {I = Split t} (λ s. read f s.first +ₑ read g s.second) (either (start_sum ks g t) (start_sum (p ∷ []) f t))
    matched = record { down = down; up = up }
