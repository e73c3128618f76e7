-- A continuous curve is affine but where its pieces start.
use Rattle.std.specs.Prelude.{◌≡◌, pos, List, [], ◌∷◌, Option, Some, None}
use Rattle.std.proofs.Common.{arith, refl, sym, subst, ap, ◌∙◌, inl, inr}
use Rattle.rational.specs.Rational.{ℚ, int, neg_ℚ, ◌+ℚ◌, ◌-ℚ◌, ◌*ℚ◌, ◌/ℚ◌, ◌≤ℚ◌, ◌<ℚ◌}
use Rattle.rational.specs.MinMax.{min_q, max_q}
use Rattle.rational.specs.Extended.{Ext, ◌≤ₑ◌, ◌+ₑ◌}
use Rattle.rational.specs.declared.Extended.TheVariants.{Fin, Inf}
use Rattle.rational.proofs.Laws.{le_refl, le_trans, le_or_lt, le_of_lt, lt_le_trans, le_lt_trans, antisym, between, half, half_is, half_pos, div_mul, mul_comm, mul_sub, mul_le_mul_right, neg_mul, not_zero, lt_of_mul, zero_mul}
use Rattle.rational.proofs.MinMax.{below_min_in, below_min_out, max_q_ge_left, max_q_ge_right, max_q_lt}
use Rattle.rational.proofs.Linear.{with1, with2, with3, with4, with5, with6}
use Rattle.upp_curve.specs.declared.affine_segment.line.Line.{Line}
use Rattle.upp_curve.specs.declared.affine_segment.line.Piece.{Piece}
use Rattle.upp_curve.specs.affine_segment.Values.{line_value}
use Rattle.upp_curve.specs.Curve.{SpecCurve, value_at}
use Rattle.min_plus.specs.Functions.{zero_q, IsFinite}
use Rattle.min_plus.specs.Continuity.{IsContinuous}
use Rattle.upp_curve.specs.affine_segment.Pieces.{HasStart, StartsAtZero}
use Rattle.upp_curve.specs.Normal.{IsNormal}
use Rattle.upp_curve.specs.affine_segment.Reading.{read, piece_in, piece_value}
use Rattle.upp_curve.specs.Unrolled.{unroll}
use Rattle.upp_curve.proofs.affine_segment.PieceIn.{piece_in_stop, piece_in_go, piece_in_end, value_past}
use Rattle.upp_normal.proofs.Below.{unroll_reads}
use Rattle.upp_normal.proofs.UnrolledPieces.{unroll_starts}
use Rattle.flow_watch.specs.watch_laws.Affine.{IsLineOn, NoneInside, IsAffineOff, EachTime, IsPiecewise}
use Rattle.flow_watch.specs.watch_laws.Breaks.{IsBreak}
use Rattle.flow_watch.specs.watch_laws.Segments.{number_at, slope_of}
use Rattle.upp_normal.proofs.NormaliseRoomy.{found_early}

-- ---- near a time
-- there are times between x and y as near to z as one likes
abbrev IsNextTo : ℚ → ℚ → ℚ → Type 0
IsNextTo x y z = (w : ℚ) → zero_q <ℚ w → (t : ℚ) × (x <ℚ t) × (t <ℚ y) × (t ≤ℚ z +ℚ w) × (z ≤ℚ t +ℚ w)

next_to_first : (x y : ℚ) → x <ℚ y → IsNextTo x y x
next_to_first x y l w some =
    let far : x <ℚ x +ℚ w = with2 x w (λ c. omega (arith, c.le, c.lt, c.same)) in
    let (t, past, before) = between x (min_q (x +ℚ w) y) (below_min_in (x +ℚ w) y x far l) in
    let both = below_min_out (x +ℚ w) y t before in
    (t, past, both.1, le_of_lt both.0, with3 x t w (λ c. omega (arith, c.le, c.lt, c.same)))

next_to_last : (x y : ℚ) → x <ℚ y → IsNextTo x y y
next_to_last x y l w some =
    let close : y -ℚ w <ℚ y = with2 y w (λ c. omega (arith, c.le, c.lt, c.same)) in
    let (t, past, before) = between (max_q x (y -ℚ w)) y (max_q_lt x (y -ℚ w) y l close) in
    let after : x <ℚ t = le_lt_trans (max_q_ge_left x (y -ℚ w)) past in
    let near : y -ℚ w <ℚ t = le_lt_trans (max_q_ge_right x (y -ℚ w)) past in
    (t, after, before, with3 y t w (λ c. omega (arith, c.le, c.lt, c.same)), with3 y t w (λ c. omega (arith, c.le, c.lt, c.same)))

-- a slope over a short time: r (t - z) is no further from 0 than e, where (r + 1) w = e for r at least 0, and so for -r
record IsSlight (x e : ℚ) : Type 0 where
  above : neg_ℚ e ≤ℚ x
  below : x ≤ℚ e

steep : (r : ℚ) → (m : ℚ) × (zero_q <ℚ m) × (r ≤ℚ m) × (neg_ℚ r ≤ℚ m)
steep r = elim (le_or_lt (int (pos 0)) r) [
  | inl h ↦ (r +ℚ int (pos 1), with1 r (λ c. omega (arith, c.le, c.lt, c.same)), with1 r (λ c. omega (arith, c.le, c.lt, c.same)), with1 r (λ c. omega (arith, c.le, c.lt, c.same)))
  | inr h ↦ (int (pos 1) -ℚ r, with1 r (λ c. omega (arith, c.le, c.lt, c.same)), with1 r (λ c. omega (arith, c.le, c.lt, c.same)), with1 r (λ c. omega (arith, c.le, c.lt, c.same)))
]

-- r d is slight where d is short
slight_later : (r m d w e : ℚ) → zero_q <ℚ m → r ≤ℚ m → neg_ℚ r ≤ℚ m → zero_q ≤ℚ d → d ≤ℚ w → w *ℚ m ≡ e → IsSlight (r *ℚ d) e
slight_later r m d w e some h k low up is =
    let a = mul_le_mul_right d low h in
    let b = mul_le_mul_right d low k in
    let n = neg_mul r d in
    let c2 = mul_le_mul_right m (le_of_lt some) up in
    let f = mul_comm m d in
    record {
      above = with5 (r *ℚ d) (neg_ℚ r *ℚ d) (m *ℚ d) (d *ℚ m) (w *ℚ m) (λ c. omega (arith, c.le, c.lt, c.same));
      below = with4 (r *ℚ d) (m *ℚ d) (d *ℚ m) (w *ℚ m) (λ c. omega (arith, c.le, c.lt, c.same));
    }

slight_between : (r m t z w e : ℚ) → zero_q <ℚ m → r ≤ℚ m → neg_ℚ r ≤ℚ m → t ≤ℚ z +ℚ w → z ≤ℚ t +ℚ w → w *ℚ m ≡ e
    → IsSlight (r *ℚ t -ℚ r *ℚ z) e
slight_between r m t z w e some h k up low is = elim (le_or_lt z t) [
  | inl l ↦ subst (λ x. IsSlight x e) (mul_sub r t z) (slight_later r m (t -ℚ z) w e some h k (with2 z t (λ c. omega (arith, c.le, c.lt, c.same))) (with3 z t w (λ c. omega (arith, c.le, c.lt, c.same))) is)
  | inr l ↦
      let g = slight_later r m (z -ℚ t) w e some h k (with2 z t (λ c. omega (arith, c.le, c.lt, c.same))) (with3 z t w (λ c. omega (arith, c.le, c.lt, c.same))) is in
      let n = mul_sub r z t in
      let a = g.above in
      let b = g.below in
      record {
        above = with4 (r *ℚ t) (r *ℚ z) (r *ℚ (z -ℚ t)) e (λ c. omega (arith, c.le, c.lt, c.same));
        below = with4 (r *ℚ t) (r *ℚ z) (r *ℚ (z -ℚ t)) e (λ c. omega (arith, c.le, c.lt, c.same));
      }
]

-- ---- limits
squeezed : (v l : ℚ) → ((e : ℚ) → zero_q <ℚ e → v ≤ℚ l +ℚ (e +ℚ e)) → v ≤ℚ l
squeezed v l f = elim (le_or_lt v l) [
  | inl h ↦ h
  | inr h ↦
      let some : zero_q <ℚ v -ℚ l = with2 v l (λ c. omega (arith, c.le, c.lt, c.same)) in
      let g = half (v -ℚ l) in
      let g_some = half_pos some in
      absurd (apart v l g (half g) (half_is (v -ℚ l)) (half_is g) g_some (f (half g) (half_pos g_some)))
]
  where
    apart : (v l g e : ℚ) → g +ℚ g ≡ v -ℚ l → e +ℚ e ≡ g → zero_q <ℚ g → v ≤ℚ l +ℚ (e +ℚ e) → ⊥
    apart v l g e a b some k = with4 v l g e (λ c. omega (arith, c.le, c.lt, c.same))

record IsClose (v l e : ℚ) : Type 0 where
  one : v ≤ℚ l +ℚ (e +ℚ e)
  other : l ≤ℚ v +ℚ (e +ℚ e)

-- what is k + r t at the times next to z, and continuous, is so at z
limit_at : (f : ℚ → Ext) (k r x y z v : ℚ) → IsContinuous f → zero_q ≤ℚ x → x ≤ℚ z → IsNextTo x y z
    → ((t : ℚ) → x <ℚ t → t <ℚ y → f t ≡ Fin (k +ℚ r *ℚ t)) → f z ≡ Fin v → v ≡ k +ℚ r *ℚ z
limit_at f k r x y z v smooth low on next is at_z =
    antisym (squeezed v (k +ℚ r *ℚ z) (λ e some. (close e some).one), squeezed (k +ℚ r *ℚ z) v (λ e some. (close e some).other))
  where
    finish : (k v rt rz e : ℚ) → IsSlight (rt -ℚ rz) e → k +ℚ rt ≤ℚ v +ℚ e → v ≤ℚ (k +ℚ rt) +ℚ e → IsClose v (k +ℚ rz) e
    finish k v rt rz e s a b =
        let up = s.below in
        let down = s.above in
        record {
          one = with5 k v rt rz e (λ c. omega (arith, c.le, c.lt, c.same));
          other = with5 k v rt rz e (λ c. omega (arith, c.le, c.lt, c.same));
        }

    more : (z w d : ℚ) → w <ℚ d → z +ℚ w ≤ℚ z +ℚ d
    more z w d l = with3 z w d (λ c. omega (arith, c.le, c.lt, c.same))

    close : (e : ℚ) → zero_q <ℚ e → IsClose v (k +ℚ r *ℚ z) e
    close e some =
        let (d, N) = smooth z e (le_trans low on) some in
        let (m, m_some, above, below) = steep r in
        let w0 = e /ℚ m in
        let is_w0 : w0 *ℚ m ≡ e = div_mul e m (not_zero m m_some) in
        let w0_some : zero_q <ℚ w0 = lt_of_mul m zero_q w0 m_some (subst (λ q. q <ℚ w0 *ℚ m) (sym (zero_mul m)) (subst (λ q. zero_q <ℚ q) (sym is_w0) some)) in
        let (w, w_some, w_most) = between zero_q (min_q d w0) (below_min_in d w0 zero_q N.some w0_some) in
        let both = below_min_out d w0 w w_most in
        let (t, after, before, up, down) = next w w_some in
        let n = N.near t (le_trans low (le_of_lt after)) (le_trans up (more z w d both.0)) (le_trans down (more t w d both.0)) in
        let at_t = is t after before in
        finish k v (r *ℚ t) (r *ℚ z) e
        (slight_between r m t z w0 e m_some above below (le_trans up (more z w w0 both.1)) (le_trans down (more t w w0 both.1)) is_w0)
        (subst (λ q. Fin (k +ℚ r *ℚ t) ≤ₑ q +ₑ Fin e) at_z (subst (λ q. q ≤ₑ f z +ₑ Fin e) at_t n.first))
        (subst (λ q. Fin v ≤ₑ q +ₑ Fin e) at_t (subst (λ q. q ≤ₑ f t +ₑ Fin e) at_z n.second))

-- ---- the piece that is read
abbrev starts : List Piece → List ℚ
starts [] = []
starts (p ∷ ps) = p.x ∷ starts ps

piece_stays : (p : Piece) (ps : List Piece) (x t y : ℚ) → NoneInside x y (starts ps) → x ≤ℚ t → x <ℚ y → t <ℚ y → piece_in p ps t ≡ piece_in p ps x
piece_stays p [] x t y none i j k = piece_in_end p t ∙ sym (piece_in_end p x)
piece_stays p (q ∷ qs) x t y none i j k = elim none.0 [
  | inl l ↦ piece_in_go p q qs t (le_trans l i) ∙ piece_stays q qs x t y none.1 i j k ∙ sym (piece_in_go p q qs x l)
  | inr l ↦ piece_in_stop p q qs t (lt_le_trans k l) ∙ sym (piece_in_stop p q qs x (lt_le_trans j l))
]

read_past : (p : Piece) (ps : List Piece) (x t y : ℚ) → p.x ≤ℚ x → NoneInside x y (starts ps) → x <ℚ t → t <ℚ y
    → read (p ∷ ps) t ≡ line_value (piece_in p ps x).line t
unfolding read
read_past p ps x t y h none i j =
    ap (λ q. piece_value q t) (piece_stays p ps x t y none (le_of_lt i) (le_trans_lt i j) j) ∙ value_past (piece_in p ps x) t (le_lt_trans (found_early p ps x h) i)
  where
    le_trans_lt : {a b c : ℚ} → a <ℚ b → b <ℚ c → a <ℚ c
    le_trans_lt l m = lt_le_trans l (le_of_lt m)

-- ---- a curve
pub is_number : (f : ℚ → Ext) (t : ℚ) → IsFinite f → zero_q ≤ℚ t → f t ≡ Fin (number_at (f t))
is_number f t fin h = let (v, e) = fin t h in e ∙ ap Fin (sym (ap number_at e))

-- a finite, continuous function that is read from one line between two times is that line there
pub one_line : (f : ℚ → Ext) (l : Option Line) (x y : ℚ) → IsFinite f → IsContinuous f → zero_q ≤ℚ x → x <ℚ y
    → ((t : ℚ) → x <ℚ t → t <ℚ y → f t ≡ line_value l t) → IsLineOn (λ t. number_at (f t)) (slope_of l) x y
one_line f None x y fin smooth low i is =
    let (t, a, b) = between x y i in
    let e : Inf ≡ Fin (number_at (f t)) = sym (is t a b) ∙ is_number f t fin (le_trans low (le_of_lt a)) in
    absurd (cc)
one_line f (Some l) x y fin smooth low i is = along
  where
    k : ℚ
    k = l.icept

    r : ℚ
    r = l.slope

    at : (z : ℚ) → x ≤ℚ z → z ≤ℚ y → number_at (f z) ≡ k +ℚ r *ℚ z
    at z a b = elim (le_or_lt z x) [
      | inl h ↦
          let e : z ≡ x = antisym (h, a) in
          limit_at f k r x y z (number_at (f z)) smooth low a (subst (IsNextTo x y) (sym e) (next_to_first x y i)) is (is_number f z fin (le_trans low a))
      | inr h ↦ elim (le_or_lt y z) [
        | inl g ↦
            let e : z ≡ y = antisym (b, g) in
            limit_at f k r x y z (number_at (f z)) smooth low a (subst (IsNextTo x y) (sym e) (next_to_last x y i)) is (is_number f z fin (le_trans low a))
        | inr g ↦ ap number_at (is z h g)
      ]
    ]

    along : IsLineOn (λ t. number_at (f t)) r x y
    along z a b =
        let e = at z a b in
        let g = at x (le_refl x) (le_of_lt i) in
        let m = mul_sub r z x in
        with6 (number_at (f z)) (number_at (f x)) k (r *ℚ z) (r *ℚ x) (r *ℚ (z -ℚ x)) (λ c. omega (arith, c.le, c.lt, c.same))

at_once : (f : ℚ → ℚ) (x y : ℚ) → y ≤ℚ x → IsLineOn f (int (pos 0)) x y
at_once f x y l z i j =
    let e : z ≡ x = antisym (le_trans j l, i) in
    let none = zero_mul (z -ℚ x) in
    let same : f z ≡ f x = ap f e in
    with3 (f x) (f z) (int (pos 0) *ℚ (z -ℚ x)) (λ c. omega (arith, c.le, c.lt, c.same))

each_start : (P : ℚ → Type 0) (ps : List Piece) → ((x : ℚ) → HasStart x ps → P x) → EachTime P (starts ps)
each_start P [] f = tt
each_start P (p ∷ ps) f = (f p.x (inl refl), each_start P ps (λ x h. f x (inr h)))

starts_affine : (f : ℚ → Ext) (ps : List Piece) (hi : ℚ) → StartsAtZero ps → ((t : ℚ) → zero_q ≤ℚ t → t <ℚ hi → read ps t ≡ f t)
    → IsFinite f → IsContinuous f → IsAffineOff (λ t. number_at (f t)) (starts ps) zero_q hi
starts_affine f [] hi at0 is fin smooth x y i j k none = absurd at0
starts_affine f (p ∷ ps) hi at0 is fin smooth x y i j k none = elim (le_or_lt y x) [
  | inl l ↦ (int (pos 0), at_once (λ t. number_at (f t)) x y l)
  | inr l ↦ (
    slope_of (piece_in p ps x).line,
    one_line f (piece_in p ps x).line x y fin smooth i l
        (λ t a b. sym (is t (le_trans i (le_of_lt a)) (lt_le_trans b k)) ∙ read_past p ps x t y (subst (λ z. z ≤ℚ x) (sym at0.0) i) none.1 a b),
  )
]

pub curve_pieces : (c : SpecCurve) (hi : ℚ) → IsNormal c → IsFinite (value_at c) → IsContinuous (value_at c)
    → IsPiecewise (λ t. number_at (value_at c t)) (IsBreak c) zero_q hi
curve_pieces c hi n fin smooth =
    let far = max_q hi zero_q +ℚ int (pos 1) in
    let m = max_q hi zero_q in
    let low = max_q_ge_right hi zero_q in
    let high = max_q_ge_left hi zero_q in
    let some : zero_q <ℚ far = with1 m (λ c. omega (arith, c.le, c.lt, c.same)) in
    let past : hi ≤ℚ far = with2 m hi (λ c. omega (arith, c.le, c.lt, c.same)) in
    record {
      times = starts (unroll c far);
      are = each_start (IsBreak c) (unroll c far) (λ x h. (far, h));
      affine = λ x y i j k none. starts_affine (value_at c) (unroll c far) far (unroll_starts c far some n) (λ t a b. unroll_reads c far t n a b) fin smooth x y i j (le_trans k past) none;
    }
