-- The pieces that mark how long the first operand is infinite: what they read, that they stand where what elements make stands, and what
-- their sum with such a window is.
use Rattle.std.specs.Prelude.{◌≡◌, ◌⊎◌, ◌*◌, Bool, true, false, pos, cond, List, [], ◌∷◌, Option, Some, None}
use Rattle.std.proofs.Common.{arith, sym, ap, ap₂, ◌∙◌, refl, subst, inl, inr}
use Rattle.rational.specs.Rational.{ℚ, ◌+ℚ◌, ◌-ℚ◌, ◌*ℚ◌, ◌≤ℚ◌, ◌<ℚ◌, neg_ℚ, int, lt_q}
use Rattle.rational.specs.Ratio.{SumFits}
use Rattle.rational.specs.Grid.{Whole}
use Rattle.rational.specs.Extended.{Ext, ◌≤ₑ◌, ◌+ₑ◌}
use Rattle.rational.specs.declared.Extended.TheVariants.{Fin, Inf}
use Rattle.rational.proofs.Grid.{whole_int, within_nonneg}
use Rattle.rational.proofs.Linear.{with1, with3}
use Rattle.rational.proofs.Laws.{le_or_lt, le_refl, le_of_lt, lt_le_trans, le_lt_trans, lt_trans, lt_irrefl, zero_mul, add_zero}
use Rattle.rational.proofs.MinMax.{lt_q_not}
use Rattle.rational.proofs.Over.{lt_q_out}
use Rattle.rational.proofs.ExtendedOrder.{add_zero_ext}
use Rattle.upp_curve.specs.declared.affine_segment.line.Line.{Line}
use Rattle.upp_curve.specs.declared.affine_segment.line.Piece.{Piece}
use Rattle.upp_curve.specs.affine_segment.Values.{line_value}
use Rattle.upp_curve.specs.affine_segment.Reading.{read, piece_in, piece_value, line_in}
use Rattle.upp_limits.specs.Limits.{Sizes}
use Rattle.upp_normal.specs.Operand.{AreLimited}
use Rattle.upp_limits.specs.Sized.{times_largest}
use Rattle.upp_curve.proofs.affine_segment.PieceIn.{value_past, read_go, read_one, read_stop, value_by}
use Rattle.upp_curve.proofs.affine_segment.PieceOrder.{each_map}
use Rattle.curve_call.specs.Pointwise.{ValueSumFits, LineSumFits, SumsFit, IsSumPiece, IsWindowSum, sum_line}
use Rattle.curve_call.specs.Made.{ValueApartFits, LineApartFits, zero_line}
use Rattle.element_envelope.specs.SumWindows.{SumStart, SumValueAt, SumLineAt, SumPiece, SumWindow}
use Rattle.element_envelope.specs.Arches.{Arches}
use Rattle.element_envelope.proofs.SumSteps.{start_in, sum_line_in, sum_read}
use Rattle.element_envelope.proofs.SumLower.{values_apart, lines_apart, zero_is}
use Rattle.curve_deconv.specs.declared.marks.Last.{Last}
use Rattle.curve_deconv.specs.Marks.{nothing_yet, mark_after, after_pieces, mark_pieces}
use Rattle.curve_call.proofs.MadeStands.{some_largest}

-- ---- what they read
zero_value : (t : ℚ) → line_value (Some zero_line) t ≡ Fin (int (pos 0))
zero_value t =
    let run = int (pos 0) *ℚ t in
    let e : run ≡ int (pos 0) = zero_mul t in
    ap Fin (with1 run (λ c. omega (arith, c.le, c.lt, c.same)))

nothing_value : (t : ℚ) → piece_value nothing_yet t ≡ Inf
nothing_value t = elim (le_or_lt t (int (pos 0))) [
  | inl k ↦ value_by nothing_yet t k
  | inr k ↦ value_past nothing_yet t k
]

pub after_some : (x : ℚ) (at : Ext) (end : ℚ) → x <ℚ end → after_pieces x at end ≡ mark_after x at ∷ []
after_some x at end h = ap (λ b. cond b (mark_after x at ∷ []) []) (lt_q_out x end h)

pub after_none : (x : ℚ) (at : Ext) (end : ℚ) → end ≤ℚ x → after_pieces x at end ≡ []
after_none x at end h = ap (λ b. cond b (mark_after x at ∷ []) []) (lt_q_not x end h)

pub marks_two : (last : Last) (reach end : ℚ) → last.until +ℚ reach <ℚ end → mark_pieces last reach end ≡ nothing_yet ∷ mark_after (last.until +ℚ reach) last.at ∷ []
marks_two last reach end h = ap (λ us. nothing_yet ∷ us) (after_some (last.until +ℚ reach) last.at end h)

pub marks_one : (last : Last) (reach end : ℚ) → end ≤ℚ last.until +ℚ reach → mark_pieces last reach end ≡ nothing_yet ∷ []
marks_one last reach end h = ap (λ us. nothing_yet ∷ us) (after_none (last.until +ℚ reach) last.at end h)

two_before : (x : ℚ) (at : Ext) (t : ℚ) → t <ℚ x → read (nothing_yet ∷ mark_after x at ∷ []) t ≡ Inf
two_before x at t h = read_stop nothing_yet (mark_after x at) [] t h ∙ nothing_value t

two_at : (x : ℚ) (at : Ext) → read (nothing_yet ∷ mark_after x at ∷ []) x ≡ at
two_at x at = read_go nothing_yet (mark_after x at) [] x (le_refl x) ∙ read_one (mark_after x at) x ∙ value_by (mark_after x at) x (le_refl x)

two_after : (x : ℚ) (at : Ext) (t : ℚ) → x <ℚ t → read (nothing_yet ∷ mark_after x at ∷ []) t ≡ Fin (int (pos 0))
two_after x at t h = read_go nothing_yet (mark_after x at) [] t (le_of_lt h) ∙ read_one (mark_after x at) t ∙ value_past (mark_after x at) t h ∙ zero_value t

-- infinity before that time, its value at it, and 0 after it
pub record MarksRead (last : Last) (reach end : ℚ) : Type 0 where
  pub before : (t : ℚ) → t <ℚ last.until +ℚ reach → read (mark_pieces last reach end) t ≡ Inf
  pub at : last.until +ℚ reach <ℚ end → read (mark_pieces last reach end) (last.until +ℚ reach) ≡ last.at
  pub after : (t : ℚ) → last.until +ℚ reach <ℚ t → t <ℚ end → read (mark_pieces last reach end) t ≡ Fin (int (pos 0))

pub marks_read : (last : Last) (reach end : ℚ) → MarksRead last reach end
marks_read last reach end =
    let x = last.until +ℚ reach in
    elim (le_or_lt end x) [
      | inl h ↦ record {
        before = λ t l. ap (λ us. read us t) (marks_one last reach end h) ∙ read_one nothing_yet t ∙ nothing_value t;
        at = λ k. absurd (lt_irrefl end (le_lt_trans h k));
        after = λ t l k. absurd (lt_irrefl end (le_lt_trans h (lt_trans l k)));
      }
      | inr h ↦ record {
        before = λ t l. ap (λ us. read us t) (marks_two last reach end h) ∙ two_before x last.at t l;
        at = λ k. ap (λ us. read us x) (marks_two last reach end h) ∙ two_at x last.at;
        after = λ t l k. ap (λ us. read us t) (marks_two last reach end h) ∙ two_after x last.at t l;
      }
    ]

-- ---- they stand
-- a mark's value is infinity or 0
abbrev pub IsMarkValue : Ext → Type 0
IsMarkValue v = (v ≡ Inf) ⊎ (v ≡ Fin (int (pos 0)))

abbrev pub IsMarkLine : Option Line → Type 0
IsMarkLine o = (o ≡ None) ⊎ (o ≡ Some zero_line)

pub record MarkStands (z : Sizes) (reach end : ℚ) (last : Last) : Type 0 where
  pub whole : Whole z.dt (last.until +ℚ reach)
  pub low : int (pos 0) ≤ℚ last.until +ℚ reach
  pub past : int (pos 0) <ℚ last.until +ℚ reach
  pub some : int (pos 0) <ℚ end
  pub at : IsMarkValue last.at

zero_sum_value : (z : Sizes) (x : ℚ) → SumValueAt z x (Fin (int (pos 0)))
zero_sum_value z x = record { whole = λ grid base on. whole_int (grid * z.ds) (pos 0); within = within_nonneg (times_largest 7 z) (int (pos 0)) (le_refl (int (pos 0))) (some_largest z 7) }

mark_value : (z : Sizes) (x : ℚ) (v : Ext) → IsMarkValue v → SumValueAt z x v
mark_value z x v (inl e) = subst (SumValueAt z x) (sym e) tt
mark_value z x v (inr e) = subst (SumValueAt z x) (sym e) (zero_sum_value z x)

first_stands : (z : Sizes) (end : ℚ) → int (pos 0) <ℚ end → SumPiece z end nothing_yet
first_stands z end some = record { start = record { place = inl (whole_int z.dt (pos 0)); nonneg = le_refl (int (pos 0)); before = some }; at = tt; line = tt }

pub marks_stand : (z : Sizes) (reach end : ℚ) (last : Last) → MarkStands z reach end last → SumWindow z end (mark_pieces last reach end)
marks_stand z reach end last M =
    let x = last.until +ℚ reach in
    elim (le_or_lt end x) [
      | inl h ↦ subst (SumWindow z end) (sym (marks_one last reach end h)) record { starts = (refl, tt); each = (first_stands z end M.some, tt) }
      | inr h ↦ subst (SumWindow z end) (sym (marks_two last reach end h)) record {
        starts = (refl, (M.past, tt));
        each = (
          first_stands z end M.some,
          (record { start = record { place = inl M.whole; nonneg = M.low; before = h }; at = mark_value z x last.at M.at; line = zero_is z }, tt),
        );
      }
    ]

-- ---- what they read is infinity or 0, and so are their lines
pub mark_reads_one : (last : Last) (reach end t : ℚ) → IsMarkValue last.at → IsMarkValue (read (mark_pieces last reach end) t)
mark_reads_one last reach end t A =
    let x = last.until +ℚ reach in
    elim (le_or_lt end x) [
      | inl h ↦ inl (ap (λ us. read us t) (marks_one last reach end h) ∙ read_one nothing_yet t ∙ nothing_value t)
      | inr h ↦ subst (λ us. IsMarkValue (read us t)) (sym (marks_two last reach end h)) (elim (le_or_lt x t) [
        | inr k ↦ inl (two_before x last.at t k)
        | inl k ↦ elim (le_or_lt t x) [
          | inl m ↦
              subst IsMarkValue (sym (read_go nothing_yet (mark_after x last.at) [] t k ∙ read_one (mark_after x last.at) t ∙ value_by (mark_after x last.at) t m)) A
          | inr m ↦ inr (two_after x last.at t m)
        ]
      ])
    ]

piece_or : (q : Piece) (qs : List Piece) (p : Piece) (t : ℚ) (b : Bool) → IsMarkLine p.line → IsMarkLine q.line → IsMarkLine (cond b q p).line
piece_or q qs p t true P Q = Q
piece_or q qs p t false P Q = P

pub mark_lines : (last : Last) (reach end t : ℚ) → IsMarkLine (line_in (mark_pieces last reach end) t)
unfolding piece_in
mark_lines last reach end t = by (lt_q (last.until +ℚ reach) end)
  where
    by : (b : Bool) → IsMarkLine (line_in (nothing_yet ∷ cond b (mark_after (last.until +ℚ reach) last.at ∷ []) []) t)
    by true = piece_or (mark_after (last.until +ℚ reach) last.at) [] nothing_yet t _ (inl refl) (inr refl)
    by false = inl refl

-- ---- the steps of the sum
zero_neg : neg_ℚ (int (pos 0)) ≡ int (pos 0)
zero_neg = with1 (int (pos 0)) (λ c. omega (arith, c.le, c.lt, c.same))

value_sums : (v w : Ext) → IsMarkValue w → ValueApartFits v w → ValueSumFits v w
value_sums Inf w M h = tt
value_sums (Fin v) w (inl e) h = subst (ValueSumFits (Fin v)) (sym e) tt
value_sums (Fin v) w (inr e) h = subst (ValueSumFits (Fin v)) (sym e) (subst (SumFits v) zero_neg (subst (ValueApartFits (Fin v)) e h))

line_sums : (l m : Option Line) → IsMarkLine m → LineApartFits l m → LineSumFits l m
line_sums None m M h = tt
line_sums (Some l) m (inl e) h = subst (LineSumFits (Some l)) (sym e) tt
line_sums (Some l) m (inr e) h =
    let k = subst (LineApartFits (Some l)) e h in
    subst (LineSumFits (Some l)) (sym e) (subst (SumFits l.icept) zero_neg k.0, subst (SumFits l.slope) zero_neg k.1)

pub mark_sums_fit : (z : Sizes) (reach end : ℚ) (last : Last) (ps : List Piece) → AreLimited z end → MarkStands z reach end last → SumWindow z end ps → SumsFit ps (mark_pieces last reach end)
mark_sums_fit z reach end last ps A M P b B =
    let ms = mark_pieces last reach end in
    let x = b.left.x in
    let W = marks_stand z reach end last M in
    let T : SumStart z end x = elim B.start [ inl h ↦ start_in z end x ps P.each h | inr h ↦ start_in z end x ms W.each h ] in
    let right_x : b.right.x ≡ x = sym B.together in
    let left_at : b.left.at ≡ read ps x = B.left.at in
    let right_at : b.right.at ≡ read ms x = B.right.at ∙ ap (read ms) right_x in
    let right_line : b.right.line ≡ line_in ms x = B.right.line ∙ ap (line_in ms) right_x in
    let lv = subst (SumValueAt z x) (sym left_at) (sum_read z end x ps A P T) in
    let rv = subst (SumValueAt z x) (sym right_at) (sum_read z end x ms A W T) in
    let ll = subst (SumLineAt z) (sym B.left.line) (sum_line_in z end x ps P) in
    let rl = subst (SumLineAt z) (sym right_line) (sum_line_in z end x ms W) in
    record {
      value = value_sums b.left.at b.right.at (subst IsMarkValue (sym right_at) (mark_reads_one last reach end x M.at)) (values_apart z end x b.left.at b.right.at A T lv rv);
      line = line_sums b.left.line b.right.line (subst IsMarkLine (sym right_line) (mark_lines last reach end x)) (lines_apart z end b.left.line b.right.line A ll rl);
    }

-- ---- the sum stands
sum_value : (z : Sizes) (x : ℚ) (v w : Ext) → IsMarkValue w → SumValueAt z x v → SumValueAt z x (v +ₑ w)
sum_value z x v w (inl e) h = subst (λ y. SumValueAt z x (v +ₑ y)) (sym e) (infinite v)
  where
    infinite : (v : Ext) → SumValueAt z x (v +ₑ Inf)
    infinite Inf = tt
    infinite (Fin v) = tt
sum_value z x v w (inr e) h = subst (λ y. SumValueAt z x (v +ₑ y)) (sym e) (subst (SumValueAt z x) (sym (add_zero_ext v)) h)

unfoldable make_line : ℚ → ℚ → Line
make_line i s = record { icept = i; slope = s }

same_sum : (l : Line) → sum_line (Some l) (Some zero_line) ≡ Some l
unfolding make_line
same_sum l = ap (λ i. Some (make_line i (l.slope +ℚ int (pos 0)))) (add_zero l.icept) ∙ ap (λ s. Some (make_line l.icept s)) (add_zero l.slope)

sum_line_stands : (z : Sizes) (l m : Option Line) → IsMarkLine m → SumLineAt z l → SumLineAt z (sum_line l m)
sum_line_stands z None m M h = tt
sum_line_stands z (Some l) m (inl e) h = subst (λ y. SumLineAt z (sum_line (Some l) y)) (sym e) tt
sum_line_stands z (Some l) m (inr e) h = subst (λ y. SumLineAt z (sum_line (Some l) y)) (sym e) (subst (SumLineAt z) (sym (same_sum l)) h)

pub sum_stands : (z : Sizes) (reach end : ℚ) (last : Last) (ps rs : List Piece) → AreLimited z end → MarkStands z reach end last → SumWindow z end ps → IsWindowSum ps (mark_pieces last reach end) rs → SumWindow z end rs
sum_stands z reach end last ps rs A M P S =
    let ms = mark_pieces last reach end in
    let W = marks_stand z reach end last M in
    record {
      starts = S.starts;
      each = each_map (IsSumPiece ps ms) (SumPiece z end)
          (λ p h.
          let x = p.x in
          let T : SumStart z end x = elim h.start [ inl k ↦ start_in z end x ps P.each k | inr k ↦ start_in z end x ms W.each k ] in
          record {
            start = T;
            at = subst (SumValueAt z x) (sym h.at) (sum_value z x (read ps x) (read ms x) (mark_reads_one last reach end x M.at) (sum_read z end x ps A P T));
            line = subst (SumLineAt z) (sym h.line) (sum_line_stands z (line_in ps x) (line_in ms x) (mark_lines last reach end x) (sum_line_in z end x ps P));
          })
          rs S.each;
    }

-- ---- the sum bends only downwards
pub plus_inf : (v : Ext) → v +ₑ Inf ≡ Inf
plus_inf Inf = refl
plus_inf (Fin v) = refl

pub sum_arches : (z : Sizes) (reach end : ℚ) (last : Last) (f : ℚ → Ext) → MarkStands z reach end last → Arches z.dt end f → Arches z.dt end (λ t. f t +ₑ read (mark_pieces last reach end) t)
sum_arches z reach end last f M F low high y h A = elim (le_or_lt x low) [
  | inl l ↦ after l
  | inr l ↦ elim (le_or_lt high x) [
    | inl k ↦ before k
    | inr k ↦ absurd (A.bare x l k M.whole)
  ]
]
  where
    x : ℚ
    x = last.until +ℚ reach

    m : ℚ → Ext
    m t = read (mark_pieces last reach end) t

    R : MarksRead last reach end
    R = marks_read last reach end

    mid : (low <ℚ y) × (y <ℚ high)
    mid =
        let a = A.before in
        let b = A.after in
        let c = A.some in
        (with3 low y h (λ c. omega (arith, c.le, c.lt, c.same)), with3 high y h (λ c. omega (arith, c.le, c.lt, c.same)))

    below : y -ℚ h <ℚ high
    below =
        let a = A.some in
        let b = mid.1 in
        with3 high y h (λ c. omega (arith, c.le, c.lt, c.same))

    above : low <ℚ y +ℚ h
    above =
        let a = A.some in
        let b = mid.0 in
        with3 low y h (λ c. omega (arith, c.le, c.lt, c.same))

    before : high ≤ℚ x → (f (y -ℚ h) +ₑ m (y -ℚ h)) +ₑ (f (y +ℚ h) +ₑ m (y +ℚ h)) ≤ₑ (f y +ₑ m y) +ₑ (f y +ₑ m y)
    before k =
        let e : f y +ₑ m y ≡ Inf = ap (λ v. f y +ₑ v) (R.before y (lt_le_trans mid.1 k)) ∙ plus_inf (f y) in
        subst (λ v. (f (y -ℚ h) +ₑ m (y -ℚ h)) +ₑ (f (y +ℚ h) +ₑ m (y +ℚ h)) ≤ₑ v +ₑ v) (sym e) tt

    none : (t : ℚ) → x ≤ℚ low → low <ℚ t → t <ℚ high → f t +ₑ m t ≡ f t
    none t l a b = ap (λ v. f t +ₑ v) (R.after t (le_lt_trans l a) (lt_le_trans b A.most)) ∙ add_zero_ext (f t)

    after : x ≤ℚ low → (f (y -ℚ h) +ₑ m (y -ℚ h)) +ₑ (f (y +ℚ h) +ₑ m (y +ℚ h)) ≤ₑ (f y +ₑ m y) +ₑ (f y +ₑ m y)
    after l =
        let left = none (y -ℚ h) l A.before below in
        let right = none (y +ℚ h) l above A.after in
        let here = none y l mid.0 mid.1 in
        subst (λ v. v ≤ₑ (f y +ₑ m y) +ₑ (f y +ₑ m y)) (ap₂ (λ (p q : Ext). p +ₑ q) (sym left) (sym right))
        (subst (λ v. f (y -ℚ h) +ₑ f (y +ℚ h) ≤ₑ v) (ap₂ (λ (p q : Ext). p +ₑ q) (sym here) (sym here)) (F low high y h A))
