-- A convolution by starts, with the limits beside them in place of the values there.
use Rattle.std.specs.Prelude.{◌≡◌, ◌⊎◌, pos, List, [], ◌∷◌, Option, None}
use Rattle.std.proofs.Common.{arith, sym, ap, ap₂, ◌∙◌, refl, subst, inl, inr}
use Rattle.rational.specs.Rational.{ℚ, ◌+ℚ◌, ◌-ℚ◌, ◌*ℚ◌, ◌≤ℚ◌, ◌<ℚ◌, int}
use Rattle.rational.specs.Extended.{Ext, ◌≤ₑ◌, ◌<ₑ◌, ◌+ₑ◌, min_ext}
use Rattle.rational.specs.Families.{either}
use Rattle.rational.specs.Bounds.{IsInfimum}
use Rattle.rational.specs.Line.{line_at as at_line}
use Rattle.rational.specs.MinMax.{min_q}
use Rattle.rational.specs.Stretch.{Between}
use Rattle.rational.specs.declared.Extended.TheVariants.{Fin, Inf}
use Rattle.rational.proofs.Linear.{sub_nonneg, sub_pos, with2, with3, with4}
use Rattle.rational.proofs.Laws.{le_or_lt, le_of_lt, le_refl, le_trans, lt_le_trans, le_lt_trans, antisym, add_comm, half, half_is, half_pos, mul_zero, add_zero, sub_add, sub_mul}
use Rattle.rational.proofs.MinMax.{min_q_le_left}
use Rattle.rational.proofs.Stretch.{line_infimum}
use Rattle.rational.proofs.ExtendedOrder.{same_le_ext, le_ext_trans, le_lt_ext, fin_same, finite_sum, add_le_ext, add_ext_comm}
use Rattle.rational.proofs.Bounds.{infimum_union}
use Rattle.upp_curve.specs.declared.affine_segment.line.Line.{Line}
use Rattle.upp_curve.specs.declared.affine_segment.line.Piece.{Piece}
use Rattle.upp_curve.specs.affine_segment.Values.{line_at, line_value}
use Rattle.upp_curve.specs.affine_segment.Pieces.{RisesFrom, StartsAtZero}
use Rattle.upp_curve.specs.affine_segment.Reading.{piece_value, read}
use Rattle.upp_curve.proofs.affine_segment.PieceIn.{value_past, value_by, read_first, read_stop, read_go, read_one}
use Rattle.upp_curve.proofs.affine_segment.LineValues.{line_found}
use Rattle.min_plus.specs.Convolution.{Split, IsConvolution}
use Rattle.min_plus.proofs.best_splits.LineSplits.{least_at_ends}
use Rattle.element_envelope.specs.Copies.{IsPieceOf, StartSplit, start_sum}
use Rattle.element_envelope.specs.LimitCopies.{afters, befores_from, befores, LimitsSuffice}
use Rattle.element_envelope.proofs.Members.{at_most_finite, number_below}
use Rattle.element_envelope.proofs.StartSplits.{start_is, IsStart, IsStartBelow, swapped, first_at, sum_at, turned, lower, second_late, flipped, rest, turned_split, start_split}
use Rattle.element_envelope.proofs.ArchBends.{smaller}
use Rattle.element_envelope.proofs.StartTurns.{line_down, line_up, one_pos, Before, After, after_more, before_more, before_start}

-- ---- the lists with limits
unfoldable pub after_of : Piece → Piece
after_of p = record { x = p.x; at = line_value p.line p.x; line = p.line }

pub rises_afters : (x : ℚ) (ps : List Piece) → RisesFrom x ps → RisesFrom x (afters ps)
rises_afters x [] h = tt
rises_afters x (p ∷ ps) h = (h.0, rises_afters p.x ps h.1)

pub starts_afters : (ps : List Piece) → StartsAtZero ps → StartsAtZero (afters ps)
starts_afters [] h = h
starts_afters (p ∷ ps) h = (h.0, rises_afters p.x ps h.1)

pub rises_befores : (before : Option Line) (x : ℚ) (ps : List Piece) → RisesFrom x ps → RisesFrom x (befores_from before ps)
rises_befores before x [] h = tt
rises_befores before x (p ∷ ps) h = (h.0, rises_befores p.line p.x ps h.1)

pub starts_befores : (ps : List Piece) → StartsAtZero ps → StartsAtZero (befores ps)
starts_befores [] h = h
starts_befores (p ∷ ps) h = (h.0, rises_befores p.line p.x ps h.1)

-- ---- what is read of them
-- past a time at which the limit after it is v the pieces follow a line from there
abbrev IsAfter : List Piece → ℚ → ℚ → Type 0
IsAfter ps w v = (slope : ℚ) × After (read ps) w v slope

abbrev IsBefore : List Piece → ℚ → ℚ → ℚ → Type 0
IsBefore ps first w v = (slope : ℚ) × Before (read ps) first w v slope

-- inside a piece
inside_after : (p : Piece) (ps : List Piece) (l : Line) (w v h : ℚ) → p.x ≤ℚ w → int (pos 0) <ℚ h → ((y : ℚ) → p.x <ℚ y → y ≤ℚ w +ℚ h → read (p ∷ ps) y ≡ Fin (line_at l y)) → v ≡ line_at l w
    → After (read (p ∷ ps)) w v l.slope
inside_after p ps l w v h late some on is = record {
  h = h;
  some = some;
  below = λ d a b. same_le_ext (on (w +ℚ d) (further p.x w d late a) (least w d h b) ∙ ap Fin (line_up l w d v is));
}
  where
    further : (x s d : ℚ) → x ≤ℚ s → int (pos 0) <ℚ d → x <ℚ s +ℚ d
    further x s d h k = with3 x s d (λ c. omega (arith, c.le, c.lt, c.same))

    least : (w d h : ℚ) → d ≤ℚ h → w +ℚ d ≤ℚ w +ℚ h
    least w d h k = with3 w d h (λ c. omega (arith, c.le, c.lt, c.same))

inside_before : (p : Piece) (ps : List Piece) (l : Line) (w v : ℚ) → p.x <ℚ w → ((y : ℚ) → p.x <ℚ y → y <ℚ w → read (p ∷ ps) y ≡ Fin (line_at l y)) → v ≡ line_at l w
    → Before (read (p ∷ ps)) p.x w v l.slope
inside_before p ps l w v late on is =
    let room = half (w -ℚ p.x) in
    let some = half_pos (sub_pos p.x w late) in
    let e = half_is (w -ℚ p.x) in
    record {
      h = room;
      some = some;
      room = le_of_lt (within p.x w room room e some (le_refl room));
      below = λ d a b. same_le_ext (on (w -ℚ d) (within p.x w d room e some b) (down w d a) ∙ ap Fin (line_down l w d v is));
    }
  where
    within : (p r d room : ℚ) → room +ℚ room ≡ r -ℚ p → int (pos 0) <ℚ room → d ≤ℚ room → p <ℚ r -ℚ d
    within p r d room e a b = with4 p r d room (λ c. omega (arith, c.le, c.lt, c.same))

    down : (x d : ℚ) → int (pos 0) <ℚ d → x -ℚ d <ℚ x
    down x d h = with2 x d (λ c. omega (arith, c.le, c.lt, c.same))

pub after_value : (p : Piece) (w : ℚ) → p.x ≤ℚ w → piece_value (after_of p) w ≡ line_value p.line w
unfolding after_of
after_value p w h = elim (le_or_lt w p.x) [
  | inl k ↦ value_by (after_of p) w k ∙ ap (line_value p.line) (antisym (h, k))
  | inr k ↦ value_past (after_of p) w k
]

afters_read : (p : Piece) (ps : List Piece) (w v : ℚ) → RisesFrom p.x ps → p.x ≤ℚ w → read (afters (p ∷ ps)) w ≡ Fin v → IsAfter (p ∷ ps) w v
unfolding after_of
afters_read p [] w v r late is =
    let value = sym (read_one (after_of p) w ∙ after_value p w late) ∙ is in
    let (l, line) = line_found p.line w v value in (
      l.slope,
      inside_after p [] l w v (int (pos 1)) late one_pos (λ y a b. read_one p y ∙ value_past p y a ∙ ap (λ o. line_value o y) line)
          (fin_same (sym value ∙ ap (λ o. line_value o w) line)),
    )
afters_read p (q ∷ qs) w v r late is = elim (le_or_lt q.x w) [
  | inl h ↦
      let A = afters_read q qs w v r.1 h (sym (read_go (after_of p) (after_of q) (afters qs) w h) ∙ is) in
      (A.0, after_more p q qs w v A.0 h A.1)
  | inr h ↦
      let value = sym (read_stop (after_of p) (after_of q) (afters qs) w h ∙ after_value p w late) ∙ is in
      let (l, line) = line_found p.line w v value in
      let room = half (q.x -ℚ w) in
      let some = half_pos (sub_pos w q.x h) in (
        l.slope,
        inside_after p (q ∷ qs) l w v room late some
            (λ y a b. read_stop p q qs y (before y w q.x room (half_is (q.x -ℚ w)) some b) ∙ value_past p y a ∙ ap (λ o. line_value o y) line)
            (fin_same (sym value ∙ ap (λ o. line_value o w) line)),
      )
]
  where
    before : (y w n room : ℚ) → room +ℚ room ≡ n -ℚ w → int (pos 0) <ℚ room → y ≤ℚ w +ℚ room → y <ℚ n
    before y w n room e p q = with4 y w n room (λ c. omega (arith, c.le, c.lt, c.same))

unfoldable pub before_of : Option Line → Piece → Piece
before_of before p = record { x = p.x; at = line_value before p.x; line = p.line }

befores_read : (p : Piece) (ps : List Piece) (b : Option Line) (w v : ℚ) → RisesFrom p.x ps → p.x <ℚ w → read (befores_from b (p ∷ ps)) w ≡ Fin v → IsBefore (p ∷ ps) p.x w v
unfolding before_of
befores_read p [] b w v r late is =
    let value = sym (read_one (before_of b p) w ∙ value_past (before_of b p) w late) ∙ is in
    let (l, line) = line_found p.line w v value in (
      l.slope,
      inside_before p [] l w v late (λ y a c. read_one p y ∙ value_past p y a ∙ ap (λ o. line_value o y) line) (fin_same (sym value ∙ ap (λ o. line_value o w) line)),
    )
befores_read p (q ∷ qs) b w v r late is = elim (le_or_lt q.x w) [
  | inl h ↦ elim (le_or_lt w q.x) [
    | inl k ↦
        let same : q.x ≡ w = antisym (h, k) in
        let value =
        sym (read_go (before_of b p) (before_of p.line q) (befores_from q.line qs) w h
        ∙ read_first (before_of p.line q) (befores_from q.line qs) q.x w (rises_befores q.line q.x qs r.1) k ∙ value_by (before_of p.line q) w k) ∙ is in
        let (l, line) = line_found p.line q.x v value in (
          l.slope,
          subst (λ z. Before (read (p ∷ q ∷ qs)) p.x z v l.slope) same
              (before_start p q qs l v r.0 line (fin_same (sym value ∙ ap (λ o. line_value o q.x) line))),
        )
    | inr k ↦
        let B = befores_read q qs p.line w v r.1 k (sym (read_go (before_of b p) (before_of p.line q) (befores_from q.line qs) w h) ∙ is) in
        (B.0, before_more p q qs w v B.0 (le_of_lt r.0) B.1)
  ]
  | inr h ↦
      let value = sym (read_stop (before_of b p) (before_of p.line q) (befores_from q.line qs) w h ∙ value_past (before_of b p) w late) ∙ is in
      let (l, line) = line_found p.line w v value in (
        l.slope,
        inside_before p (q ∷ qs) l w v late
            (λ y a c. read_stop p q qs y (lt_le_trans c (le_of_lt h)) ∙ value_past p y a ∙ ap (λ o. line_value o y) line)
            (fin_same (sym value ∙ ap (λ o. line_value o w) line)),
      )
]

after_at : (ps : List Piece) (w v : ℚ) → StartsAtZero ps → int (pos 0) ≤ℚ w → read (afters ps) w ≡ Fin v → IsAfter ps w v
after_at [] w v h low is = absurd h
after_at (p ∷ ps) w v h low is = afters_read p ps w v h.1 (subst (λ z. z ≤ℚ w) (sym h.0) low) is

before_at : (ps : List Piece) (w v : ℚ) → StartsAtZero ps → read (befores ps) w ≡ Fin v → IsBefore ps (int (pos 0)) w v
unfolding before_of
before_at [] w v h is = absurd h
before_at (p ∷ ps) w v h is = elim (le_or_lt w p.x) [
  | inl k ↦
      absurd (same_le_ext
      (sym (read_first (before_of None p) (befores_from p.line ps) p.x w (rises_befores p.line p.x ps h.1) k ∙ value_by (before_of None p) w k) ∙ is))
  | inr k ↦ subst (λ z. IsBefore (p ∷ ps) z w v) h.0 (befores_read p ps None w v h.1 k is)
]

-- ---- splits near
soon : (k r h y : ℚ) → int (pos 0) <ℚ h → k <ℚ y → (d : ℚ) × (int (pos 0) <ℚ d) × (d ≤ℚ h) × (at_line k r d <ℚ y)
soon k r h y some l =
    let F : Between (int (pos 0)) h → Ext = λ s. Fin (at_line k r s.at) in
    let I : IsInfimum F (Fin (min_q (at_line k r (int (pos 0))) (at_line k r h))) = line_infimum (int (pos 0)) h k r some in
    let start : at_line k r (int (pos 0)) ≡ k = ap (λ z. k +ℚ z) (mul_zero r) ∙ add_zero k in
    let low : min_q (at_line k r (int (pos 0))) (at_line k r h) <ℚ y = le_lt_trans (min_q_le_left (at_line k r (int (pos 0))) (at_line k r h)) (subst (λ z. z <ℚ y) (sym start) l) in
    let (s, m) = I.near y low in
    (s.at, s.above, le_of_lt s.below, m)

near_split : (F G : ℚ → Ext) (t s u v w a b y : ℚ) → s +ℚ u ≡ t → int (pos 0) ≤ℚ u → Before F (int (pos 0)) s v a → After G u w b → v +ℚ w <ℚ y
    → (i : Split t) × (F i.first +ₑ G i.second <ₑ Fin y)
near_split F G t s u v w a b y whole nonneg B A l =
    let k = smaller B.h A.h B.some A.some in
    let n = soon (v +ℚ w) (b -ℚ a) k.0 y k.1 l in
    let d = n.0 in (
      record { first = s -ℚ d; second = u +ℚ d; first_nonneg = down s d B.h B.room (le_trans n.2 k.2); second_nonneg = up u d nonneg n.1; whole = same s u d ∙ whole },
      le_lt_ext (F (s -ℚ d) +ₑ G (u +ℚ d)) (Fin ((v -ℚ a *ℚ d) +ℚ (w +ℚ b *ℚ d))) (Fin y)
          (add_le_ext (F (s -ℚ d)) (Fin (v -ℚ a *ℚ d)) (G (u +ℚ d)) (Fin (w +ℚ b *ℚ d)) (B.below d n.1 (le_trans n.2 k.2)) (A.below d n.1 (le_trans n.2 k.3)))
          (subst (λ z. z <ℚ y) (ap (λ z. (v +ℚ w) +ℚ z) (sub_mul b a d) ∙ regroup v w (a *ℚ d) (b *ℚ d)) n.3),
    )
  where
    up : (u d : ℚ) → int (pos 0) ≤ℚ u → int (pos 0) <ℚ d → int (pos 0) ≤ℚ u +ℚ d
    up u d x y = with2 u d (λ c. omega (arith, c.le, c.lt, c.same))

    down : (u d h : ℚ) → int (pos 0) ≤ℚ u -ℚ h → d ≤ℚ h → int (pos 0) ≤ℚ u -ℚ d
    down u d h x y = with3 u d h (λ c. omega (arith, c.le, c.lt, c.same))

    same : (s u d : ℚ) → (s -ℚ d) +ℚ (u +ℚ d) ≡ s +ℚ u
    same s u d = with3 s u d (λ c. omega (arith, c.le, c.lt, c.same))

    regroup : (v w p q : ℚ) → (v +ℚ w) +ℚ (q -ℚ p) ≡ (v -ℚ p) +ℚ (w +ℚ q)
    regroup v w p q = with4 v w p q (λ c. omega (arith, c.le, c.lt, c.same))

-- a copy by limits has splits below each number above it
near_limits : (f g : List Piece) (t y : ℚ) → StartsAtZero f → StartsAtZero g → (i : StartSplit (befores f) t ⊎ StartSplit (afters g) t)
    → either (start_sum (befores f) (afters g) t) (start_sum (afters g) (befores f) t) i <ₑ Fin y → (s : Split t) × (read f s.first +ₑ read g s.second <ₑ Fin y)
near_limits f g t y hf hg (inl i) l =
    let c = i.piece in
    let (m, e) = number_below (start_sum (befores f) (afters g) t i) y l in
    let (v, w, p, q) = finite_sum c.at (read (afters g) (t -ℚ c.x)) m e in
    let sum : Fin (v +ℚ w) <ₑ Fin y = subst (λ z. z <ₑ Fin y) (ap₂ (λ (a b : Ext). a +ₑ b) p q) l in
    let B = before_at f c.x v hf ((start_is (befores f) c (starts_befores f hf) i.among).1 ∙ p) in
    let A = after_at g (t -ℚ c.x) w hg (sub_nonneg c.x t i.late) q in
    near_split (read f) (read g) t c.x (t -ℚ c.x) v w B.0 A.0 y (add_comm c.x (t -ℚ c.x) ∙ sub_add t c.x) (sub_nonneg c.x t i.late) B.1 A.1 sum
near_limits f g t y hf hg (inr i) l =
    let c = i.piece in
    let (m, e) = number_below (start_sum (afters g) (befores f) t i) y l in
    let (w, v, q, p) = finite_sum c.at (read (befores f) (t -ℚ c.x)) m e in
    let sum : Fin (w +ℚ v) <ₑ Fin y = subst (λ z. z <ₑ Fin y) (ap₂ (λ (a b : Ext). a +ₑ b) q p) l in
    let k = start_is (afters g) c (starts_afters g hg) i.among in
    let A = after_at g c.x w hg k.0 (k.1 ∙ q) in
    let B = before_at f (t -ℚ c.x) v hf p in
    near_split (read f) (read g) t (t -ℚ c.x) c.x v w B.0 A.0 y (sub_add t c.x) k.0 B.1 A.1 (subst (λ z. z <ℚ y) (add_comm w v) sum)

-- ---- a time on a line
-- its line from a start on, up to the next one: after the start what is read after, and before the next what is read before
record OnLine (ps rights lefts : List Piece) (first s : ℚ) : Type 0 where
  line : Line
  low : ℚ
  high : Ext
  from : first ≤ℚ low
  early : low <ℚ s
  late : Fin s <ₑ high
  value : read ps s ≡ Fin (line_at line s)
  low_in : (q : Piece) × IsPieceOf q rights × (q.x ≡ low) × (q.at ≡ Fin (line_at line low))
  high_in : (x : ℚ) → high ≡ Fin x → (q : Piece) × IsPieceOf q lefts × (q.x ≡ x) × (q.at ≡ Fin (line_at line x))
  after : (y : ℚ) → low ≤ℚ y → Fin y <ₑ high → read rights y ≡ Fin (line_at line y)
  before : (y : ℚ) → low <ℚ y → Fin y ≤ₑ high → read lefts y ≡ Fin (line_at line y)

found_line : (p : Piece) (ps : List Piece) (b : Option Line) (s a : ℚ) → RisesFrom p.x ps → p.x ≤ℚ s → read (p ∷ ps) s ≡ Fin a
    → IsStart (p ∷ ps) s ⊎ OnLine (p ∷ ps) (afters (p ∷ ps)) (befores_from b (p ∷ ps)) p.x s
unfolding after_of before_of
found_line p [] b s a r low is = elim (le_or_lt s p.x) [
  | inl h ↦ inl (p, inl refl, antisym (low, h))
  | inr h ↦
      let (l, line) = line_found p.line s a (sym (read_one p s ∙ value_past p s h) ∙ is) in
      inr record {
        line = l;
        low = p.x;
        high = Inf;
        from = le_refl p.x;
        early = h;
        late = tt;
        value = read_one p s ∙ value_past p s h ∙ ap (λ o. line_value o s) line;
        low_in = (after_of p, inl refl, refl, ap (λ o. line_value o p.x) line);
        high_in = λ x e. absurd (same_le_ext e);
        after = λ y k m. read_one (after_of p) y ∙ after_value p y k ∙ ap (λ o. line_value o y) line;
        before = λ y k m. read_one (before_of b p) y ∙ value_past (before_of b p) y k ∙ ap (λ o. line_value o y) line;
      }
]
found_line p (q ∷ qs) b s a r low is = elim (le_or_lt q.x s) [
  | inl h ↦ elim (found_line q qs p.line s a r.1 h (sym (read_go p q qs s h) ∙ is)) [
    | inl k ↦ inl (k.0, inr k.1, k.2)
    | inr I ↦ inr record {
      line = I.line;
      low = I.low;
      high = I.high;
      from = le_trans (le_of_lt r.0) I.from;
      early = I.early;
      late = I.late;
      value = read_go p q qs s h ∙ I.value;
      low_in = let k = I.low_in in (k.0, inr k.1, k.2, k.3);
      high_in = λ x e. let k = I.high_in x e in (k.0, inr k.1, k.2, k.3);
      after = λ y k m. read_go (after_of p) (after_of q) (afters qs) y (le_trans I.from k) ∙ I.after y k m;
      before = λ y k m. read_go (before_of b p) (before_of p.line q) (befores_from q.line qs) y (le_trans I.from (le_of_lt k)) ∙ I.before y k m;
    }
  ]
  | inr h ↦ elim (le_or_lt s p.x) [
    | inl k ↦ inl (p, inl refl, antisym (low, k))
    | inr k ↦
        let (l, line) = line_found p.line s a (sym (read_stop p q qs s h ∙ value_past p s k) ∙ is) in
        inr record {
          line = l;
          low = p.x;
          high = Fin q.x;
          from = le_refl p.x;
          early = k;
          late = h;
          value = read_stop p q qs s h ∙ value_past p s k ∙ ap (λ o. line_value o s) line;
          low_in = (after_of p, inl refl, refl, ap (λ o. line_value o p.x) line);
          high_in = λ x e. (before_of p.line q, inr (inl refl), fin_same e, ap (λ o. line_value o q.x) line ∙ ap (λ z. Fin (line_at l z)) (fin_same e));
          after = λ y m n. read_stop (after_of p) (after_of q) (afters qs) y n ∙ after_value p y m ∙ ap (λ o. line_value o y) line;
          before = λ y m n. elim (le_or_lt q.x y) [
            | inl w ↦
                let same : q.x ≡ y = antisym (w, n) in
                read_go (before_of b p) (before_of p.line q) (befores_from q.line qs) y w
                ∙ read_first (before_of p.line q) (befores_from q.line qs) q.x y (rises_befores q.line q.x qs r.1) n ∙ value_by (before_of p.line q) y n
                ∙ ap (λ o. line_value o q.x) line ∙ ap (λ z. Fin (line_at l z)) same
            | inr w ↦
                read_stop (before_of b p) (before_of p.line q) (befores_from q.line qs) y w ∙ value_past (before_of b p) y m ∙ ap (λ o. line_value o y) line
          ];
        }
  ]
]

abbrev Lies : List Piece → ℚ → Type 0
Lies ps s = OnLine ps (afters ps) (befores ps) (int (pos 0)) s

line_in : (ps : List Piece) (s a : ℚ) → StartsAtZero ps → int (pos 0) ≤ℚ s → read ps s ≡ Fin a → IsStart ps s ⊎ Lies ps s
line_in [] s a h low is = absurd h
line_in (p ∷ ps) s a h low is =
    subst (λ z. IsStart (p ∷ ps) s ⊎ OnLine (p ∷ ps) (afters (p ∷ ps)) (befores (p ∷ ps)) z s) h.0 (found_line p ps None s a h.1 (subst (λ z. z ≤ℚ s) (sym h.0) low) is)

-- a copy by the limits after the one and before the other is as low as the sum of two lines at s or before
abbrev IsLimitEnd : (f g : List Piece) (l m : Line) (t s : ℚ) → Type 0
IsLimitEnd f g l m t s = (x : ℚ) × (x ≤ℚ s) × IsStartBelow (afters f) (befores g) t (sum_at l m t x)

limit_end : (f g : List Piece) (t s u : ℚ) (F : Lies f s) (G : Lies g u) → s +ℚ u ≡ t → IsLimitEnd f g F.line G.line t s
limit_end f g t s u F G whole = by G.high refl
  where
    below_low : (x t y : ℚ) → int (pos 0) ≤ℚ y → y ≤ℚ t -ℚ x → x ≤ℚ t
    below_low x t y h k = with3 x t y (λ c. omega (arith, c.le, c.lt, c.same))

    later_than : (x s u t low : ℚ) → s +ℚ u ≡ t → x <ℚ s → low <ℚ u → low <ℚ t -ℚ x
    later_than x s u t low e h k = subst (λ z. low <ℚ z -ℚ x) e (with4 x s u low (λ c. omega (arith, c.le, c.lt, c.same)))

    first_before : (s u t y : ℚ) → s +ℚ u ≡ t → u <ℚ y → t -ℚ y <ℚ s
    first_before s u t y e h = subst (λ z. z -ℚ y <ℚ s) e (with3 s u y (λ c. omega (arith, c.le, c.lt, c.same)))

    here : Fin (t -ℚ F.low) ≤ₑ G.high → IsLimitEnd f g F.line G.line t s
    here k =
        let q = F.low_in in
        let late : G.low <ℚ t -ℚ F.low = later_than F.low s u t G.low whole F.early G.early in
        let sum : q.0.at +ₑ read (befores g) (t -ℚ q.0.x) ≡ Fin (sum_at F.line G.line t F.low) =
        ap₂ (λ (v w : Ext). v +ₑ w) q.3 (ap (λ z. read (befores g) (t -ℚ z)) q.2 ∙ G.before (t -ℚ F.low) late k) in (
          F.low,
          le_of_lt F.early,
          (inl record { piece = q.0; among = q.1; late = subst (λ z. z ≤ℚ t) (sym q.2) (below_low F.low t G.low G.from (le_of_lt late)) }, same_le_ext sum),
        )

    there : (y : ℚ) → G.high ≡ Fin y → F.low ≤ℚ t -ℚ y → IsLimitEnd f g F.line G.line t s
    there y e k =
        let q = G.high_in y e in
        let until : u <ℚ y = subst (λ z. Fin u <ₑ z) e G.late in
        let early : t -ℚ y <ℚ s = first_before s u t y whole until in
        let inside : Fin (t -ℚ y) <ₑ F.high = lt_of (t -ℚ y) s F.high early F.late in
        let sum : q.0.at +ₑ read (afters f) (t -ℚ q.0.x) ≡ Fin (sum_at G.line F.line t y) =
        ap₂ (λ (v w : Ext). v +ₑ w) q.3 (ap (λ z. read (afters f) (t -ℚ z)) q.2 ∙ F.after (t -ℚ y) k inside) in (
          t -ℚ y,
          le_of_lt early,
          subst (IsStartBelow (afters f) (befores g) t) (turned F.line G.line t y)
              (inr record { piece = q.0; among = q.1; late = subst (λ z. z ≤ℚ t) (sym q.2) (below_low y t F.low F.from k) }, same_le_ext sum),
        )
      where
        lt_of : (x s : ℚ) (h : Ext) → x <ℚ s → Fin s <ₑ h → Fin x <ₑ h
        lt_of x s Inf l m = tt
        lt_of x s (Fin h) l m = lt_le_trans l (le_of_lt m)

    by : (v : Ext) → G.high ≡ v → IsLimitEnd f g F.line G.line t s
    by Inf e = here (subst (λ z. Fin (t -ℚ F.low) ≤ₑ z) (sym e) tt)
    by (Fin y) e = elim (le_or_lt (t -ℚ y) F.low) [
      | inl k ↦ here (subst (λ z. Fin (t -ℚ F.low) ≤ₑ z) (sym e) (flipped t F.low y k))
      | inr k ↦ there y e (le_of_lt k)
    ]

-- ---- any split
abbrev IsLimitBelow : (f g : List Piece) (t v : ℚ) → Type 0
IsLimitBelow f g t v = IsStartBelow f g t v ⊎ (IsStartBelow (befores f) (afters g) t v ⊎ IsStartBelow (afters f) (befores g) t v)

lines_below : (f g : List Piece) (t s u : ℚ) (F : Lies f s) (G : Lies g u) → s +ℚ u ≡ t → IsLimitBelow f g t (line_at F.line s +ℚ line_at G.line u)
lines_below f g t s u F G whole =
    let l = F.line in
    let m = G.line in
    let low = limit_end f g t s u F G whole in
    let high = limit_end g f t u s G F (add_comm u s ∙ whole) in
    let other : IsStartBelow (befores f) (afters g) t (sum_at l m t (t -ℚ high.0)) =
    subst (IsStartBelow (befores f) (afters g) t) (turned l m t high.0) (swapped (befores f) (afters g) t (sum_at m l t high.0) high.2) in
    let after : s ≤ℚ t -ℚ high.0 = second_late u s t high.0 s (add_comm u s ∙ whole) high.1 (le_refl s) in
    let here : sum_at l m t s ≡ line_at l s +ℚ line_at m u = ap (λ z. line_at l s +ℚ line_at m z) (rest s u t whole) in
    subst (IsLimitBelow f g t) here (elim (least_at_ends l.icept l.slope m.icept m.slope t low.0 s (t -ℚ high.0) low.1 after) [
      | inl k ↦ inr (inr (lower (afters f) (befores g) t (sum_at l m t low.0) (sum_at l m t s) k low.2))
      | inr k ↦ inr (inl (lower (befores f) (afters g) t (sum_at l m t (t -ℚ high.0)) (sum_at l m t s) k other))
    ])

any_below : (f g : List Piece) (t a b : ℚ) (s : Split t) → StartsAtZero f → StartsAtZero g → read f s.first ≡ Fin a → read g s.second ≡ Fin b → IsLimitBelow f g t (a +ℚ b)
unfolding turned_split
any_below f g t a b s hf hg x y = by (line_in f s.first a hf s.first_nonneg x) (line_in g s.second b hg s.second_nonneg y)
  where
    by : IsStart f s.first ⊎ Lies f s.first → IsStart g s.second ⊎ Lies g s.second → IsLimitBelow f g t (a +ℚ b)
    by (inl k) G = inl (first_at f g t a b s hf k x y)
    by (inr F) (inl k) =
        inl (swapped f g t (a +ℚ b) (subst (IsStartBelow g f t) (add_comm b a) (first_at g f t b a (turned_split t s) hg k y x)))
    by (inr F) (inr G) =
        subst (IsLimitBelow f g t) (ap₂ (λ (v w : ℚ). v +ℚ w) (fin_same (sym F.value ∙ x)) (fin_same (sym G.value ∙ y))) (lines_below f g t s.first s.second F G s.whole)

-- ---- the law
-- a sum of which one time is a start, by values or by the limits beside both times
abbrev pub LimitStart : (f g : List Piece) → ℚ → Type 0
LimitStart f g t =
    (StartSplit f t ⊎ StartSplit g t) ⊎ ((StartSplit (befores f) t ⊎ StartSplit (afters g) t) ⊎ (StartSplit (afters f) t ⊎ StartSplit (befores g) t))

abbrev pub limit_sum : (f g : List Piece) (t : ℚ) → LimitStart f g t → Ext
limit_sum f g t =
    either (either (start_sum f g t) (start_sum g f t))
    (either (either (start_sum (befores f) (afters g) t) (start_sum (afters g) (befores f) t)) (either (start_sum (afters f) (befores g) t) (start_sum (befores g) (afters f) t)))

-- their infimum is the convolution
pub limits_convolve : (f g : List Piece) (t : ℚ) (v : Ext) → StartsAtZero f → StartsAtZero g → IsInfimum (limit_sum f g t) v → IsConvolution (read f) (read g) t v
unfolding turned_split
limits_convolve f g t v hf hg U =
    let F = λ (s : Split t). read f s.first +ₑ read g s.second in
    record {
      below = λ s. at_most_finite v (F s) (λ q is. under s q is);
      near = λ y l. let (i, k) = U.near y l in close i y k;
    }
  where
    one : StartSplit f t ⊎ StartSplit g t → Ext
    one = either (start_sum f g t) (start_sum g f t)

    two : StartSplit (befores f) t ⊎ StartSplit (afters g) t → Ext
    two = either (start_sum (befores f) (afters g) t) (start_sum (afters g) (befores f) t)

    three : StartSplit (afters f) t ⊎ StartSplit (befores g) t → Ext
    three = either (start_sum (afters f) (befores g) t) (start_sum (befores g) (afters f) t)

    under_one : (q : ℚ) → IsLimitBelow f g t q → v ≤ₑ Fin q
    under_one q (inl (i, k)) = le_ext_trans v (one i) (Fin q) (U.below (inl i)) k
    under_one q (inr (inl (i, k))) = le_ext_trans v (two i) (Fin q) (U.below (inr (inl i))) k
    under_one q (inr (inr (i, k))) = le_ext_trans v (three i) (Fin q) (U.below (inr (inr i))) k

    under : (s : Split t) (q : ℚ) → read f s.first +ₑ read g s.second ≡ Fin q → v ≤ₑ Fin q
    under s q is =
        let (x, y, p, r) = finite_sum (read f s.first) (read g s.second) q is in
        under_one q (subst (IsLimitBelow f g t) (fin_same (sym (ap₂ (λ (m n : Ext). m +ₑ n) p r) ∙ is)) (any_below f g t x y s hf hg p r))

    close_one : (i : StartSplit f t ⊎ StartSplit g t) (y : ℚ) → one i <ₑ Fin y → (s : Split t) × (read f s.first +ₑ read g s.second <ₑ Fin y)
    close_one (inl i) y l = let s = start_split f g t hf i in (s.0, subst (λ z. z <ₑ Fin y) (sym s.1) l)
    close_one (inr i) y l =
        let s = start_split g f t hg i in
        (turned_split t s.0, subst (λ z. z <ₑ Fin y) (sym (add_ext_comm (read f s.0.second) (read g s.0.first) ∙ s.1)) l)

    close_three : (i : StartSplit (afters f) t ⊎ StartSplit (befores g) t) (y : ℚ) → three i <ₑ Fin y → (s : Split t) × (read f s.first +ₑ read g s.second <ₑ Fin y)
    close_three i y l =
        let s = near_limits g f t y hg hf (other i) (same i l) in
        (turned_split t s.0, subst (λ z. z <ₑ Fin y) (add_ext_comm (read g s.0.first) (read f s.0.second)) s.1)
      where
        other : StartSplit (afters f) t ⊎ StartSplit (befores g) t → StartSplit (befores g) t ⊎ StartSplit (afters f) t
        other (inl i) = inr i
        other (inr i) = inl i

        same : (i : StartSplit (afters f) t ⊎ StartSplit (befores g) t) → three i <ₑ Fin y
            → either (start_sum (befores g) (afters f) t) (start_sum (afters f) (befores g) t) (other i) <ₑ Fin y
        same (inl i) l = l
        same (inr i) l = l

    close : (i : (StartSplit f t ⊎ StartSplit g t) ⊎ ((StartSplit (befores f) t ⊎ StartSplit (afters g) t) ⊎ (StartSplit (afters f) t ⊎ StartSplit (befores g) t))) (y : ℚ)
        → either one (either two three) i <ₑ Fin y → (s : Split t) × (read f s.first +ₑ read g s.second <ₑ Fin y)
    close (inl i) y l = close_one i y l
    close (inr (inl i)) y l = near_limits f g t y hf hg i l
    close (inr (inr i)) y l = close_three i y l

pub limits_suffice : LimitsSuffice
limits_suffice f g t a b c d e h hf hg low P Q R =
    limits_convolve f g t (min_ext (min_ext a b) (min_ext (min_ext c d) (min_ext e h))) hf hg
    (infimum_union one (either two three) (min_ext a b) (min_ext (min_ext c d) (min_ext e h))
    (infimum_union (start_sum f g t) (start_sum g f t) a b P.first P.second)
    (infimum_union two three (min_ext c d) (min_ext e h)
    (infimum_union (start_sum (befores f) (afters g) t) (start_sum (afters g) (befores f) t) c d Q.first Q.second)
    (infimum_union (start_sum (afters f) (befores g) t) (start_sum (befores g) (afters f) t) e h R.first R.second)))
  where
    one : StartSplit f t ⊎ StartSplit g t → Ext
    one = either (start_sum f g t) (start_sum g f t)

    two : StartSplit (befores f) t ⊎ StartSplit (afters g) t → Ext
    two = either (start_sum (befores f) (afters g) t) (start_sum (afters g) (befores f) t)

    three : StartSplit (afters f) t ⊎ StartSplit (befores g) t → Ext
    three = either (start_sum (afters f) (befores g) t) (start_sum (befores g) (afters f) t)
