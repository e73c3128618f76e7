-- Pairs of elements that are nowhere below pieces, and what is left of the first operand's elements without idle ones.
use Rattle.std.specs.Prelude.{◌≡◌, [], ◌∷◌, Option, Some, None, IfSome}
use Rattle.std.proofs.Common.{arith, sym, ap, ◌∙◌, subst}
use Rattle.rational.specs.Rational.{ℚ, ◌+ℚ◌, ◌-ℚ◌, ◌*ℚ◌, ◌≤ℚ◌, ◌<ℚ◌}
use Rattle.rational.specs.Extended.{Ext, ◌≤ₑ◌}
use Rattle.rational.specs.declared.Extended.TheVariants.{Fin}
use Rattle.rational.proofs.Linear.{with2, with4, with_atoms}
use Rattle.rational.proofs.Laws.{le_refl, le_of_lt, le_trans, mul_sub, mul_add, mul_le_mul_right}
use Rattle.rational.proofs.ExtendedOrder.{le_ext_trans}
use Rattle.upp_curve.specs.declared.affine_segment.line.Line.{Line}
use Rattle.upp_curve.specs.declared.affine_segment.element.Element.{Element}
use Rattle.upp_curve.specs.declared.affine_segment.element.Element.TheVariants.{Point, Open}
use Rattle.upp_curve.specs.affine_segment.Values.{line_at}
use Rattle.upp_curve.specs.affine_segment.Elements.{Covers, level, start_of, pair_sum}
use Rattle.element_envelope.proofs.Envelopes.{from_start}
use Rattle.min_plus.specs.Functions.{zero_q}
use Rattle.subadd_closure.specs.Useful.{IsOrigin, MakesOver, HasSegment, IsFloor, IsLimit, EndsBy, IsFloorLine}

-- ---- one element
pub point_floor : (m x v : ℚ) (e : Element) → e ≡ Point x v → IsFloor m e v
point_floor m x v e is = subst (λ z. IsFloor m z v) (sym is) (λ t c. here t c)
  where
    none : (a t : ℚ) → t ≡ x → a ≡ m *ℚ t -ℚ m *ℚ x → v +ℚ a ≤ℚ v
    none a t same run =
        let run_is : m *ℚ t ≡ m *ℚ x = ap (λ z. m *ℚ z) same in
        with4 v a (m *ℚ t) (m *ℚ x) (λ c. omega (arith, c.le, c.lt, c.same))

    here : (t : ℚ) → t ≡ x → v +ℚ m *ℚ (t -ℚ x) ≤ℚ v
    here t same = none (m *ℚ (t -ℚ x)) t same (mul_sub m t x)

pub segment_floor : (m from v : ℚ) (to : Ext) (line : Line) (e : Element) → e ≡ Open from to line → v ≡ line_at line from
    → m ≤ℚ line.slope → IsFloor m e v
segment_floor m from v to line e is at steep = subst (λ z. IsFloor m z v) (sym is) (λ t c. up t c.past)
  where
    plain : (k a b whole begun : ℚ) → v ≡ k +ℚ begun → a ≤ℚ b → b ≡ whole -ℚ begun → v +ℚ a ≤ℚ k +ℚ whole
    plain k a b whole begun p q o = with_atoms (v ∷ k ∷ a ∷ b ∷ whole ∷ begun ∷ []) (λ c. omega (arith, c.le, c.lt, c.same))

    up : (t : ℚ) → from <ℚ t → v +ℚ m *ℚ (t -ℚ from) ≤ℚ line_at line t
    up t past =
        let r = line.slope in
        plain line.icept (m *ℚ (t -ℚ from)) (r *ℚ (t -ℚ from)) (r *ℚ t) (r *ℚ from) at
        (mul_le_mul_right (t -ℚ from) (with2 t from (λ c. omega (arith, c.le, c.lt, c.same))) steep) (mul_sub r t from)

pub some_floor : (o : Option ℚ) (m from : ℚ) (to : Ext) (line : Line) (e : Element) → e ≡ Open from to line
    → IfSome o (λ v. v ≡ line_at line from) → IfSome o (λ v. m ≤ℚ line.slope) → IfSome o (IsFloor m e)
some_floor None m from to line e is at steep = at
some_floor (Some v) m from to line e is at steep = segment_floor m from v to line e is at steep

pub origin_is : (x v : ℚ) (e : Element) → e ≡ Point x v → x ≤ℚ zero_q → zero_q ≤ℚ v → IsOrigin e
origin_is x v e is early low = subst IsOrigin (sym is) (early, low)

-- ---- two elements
pub sum_is : (a b x y from : ℚ) → from ≡ a +ℚ b → a ≡ x → b ≡ y → from ≡ x +ℚ y
sum_is a b x y from is p q = is ∙ ap (λ z. z +ℚ b) p ∙ ap (λ z. x +ℚ z) q

pub through : (v run icept m x : ℚ) → run ≡ m *ℚ x → icept ≡ v -ℚ run → icept +ℚ m *ℚ x ≡ v
through v run icept m x p q =
    let w = m *ℚ x in
    with4 v run icept w (λ c. omega (arith, c.le, c.lt, c.same))

pub floor_line_is : (x y : Element) (from m a b v : ℚ) (l : Line) → from ≡ start_of x +ℚ start_of y → IsFloor m x a
    → IsFloor m y b → v ≡ a +ℚ b → l.slope ≡ m → l.icept +ℚ m *ℚ from ≡ v → IsFloorLine x y l
floor_line_is x y from m a b v l start p q sum slope at s u c d =
    let low = p s c in
    let high = q u d in
    let left : m *ℚ (s -ℚ start_of x) ≡ m *ℚ s -ℚ m *ℚ start_of x = mul_sub m s (start_of x) in
    let right : m *ℚ (u -ℚ start_of y) ≡ m *ℚ u -ℚ m *ℚ start_of y = mul_sub m u (start_of y) in
    let begin : m *ℚ from ≡ m *ℚ start_of x +ℚ m *ℚ start_of y = ap (λ z. m *ℚ z) start ∙ mul_add m (start_of x) (start_of y) in
    let whole : l.slope *ℚ (s +ℚ u) ≡ m *ℚ s +ℚ m *ℚ u = ap (λ z. z *ℚ (s +ℚ u)) slope ∙ mul_add m s u in
    plain l.icept (l.slope *ℚ (s +ℚ u)) (level x s) (level y u) (m *ℚ (s -ℚ start_of x)) (m *ℚ (u -ℚ start_of y)) (m *ℚ s) (m *ℚ u)
    (m *ℚ start_of x) (m *ℚ start_of y) (m *ℚ from) low high left right begin whole at
  where
    plain : (k w lx ly i j ms mu mx my mf : ℚ) → a +ℚ i ≤ℚ lx → b +ℚ j ≤ℚ ly → i ≡ ms -ℚ mx → j ≡ mu -ℚ my → mf ≡ mx +ℚ my
        → w ≡ ms +ℚ mu → k +ℚ mf ≡ v → k +ℚ w ≤ℚ lx +ℚ ly
    plain k w lx ly i j ms mu mx my mf h1 h2 h3 h4 h5 h6 h7 =
        with_atoms (k ∷ w ∷ lx ∷ ly ∷ i ∷ j ∷ ms ∷ mu ∷ mx ∷ my ∷ mf ∷ a ∷ b ∷ v ∷ []) (λ c. omega (arith, c.le, c.lt, c.same))

pub some_line : (o : Option Line) (x y : Element) (from m a b v : ℚ) → from ≡ start_of x +ℚ start_of y → IsFloor m x a
    → IsFloor m y b → v ≡ a +ℚ b → IfSome o (λ l. l.slope ≡ m) → IfSome o (λ l. l.icept +ℚ m *ℚ from ≡ v)
    → IfSome o (IsFloorLine x y)
some_line None x y from m a b v start p q sum slope at = slope
some_line (Some l) x y from m a b v start p q sum slope at = floor_line_is x y from m a b v l start p q sum slope at

pub point_ends : (x v t : ℚ) (e : Element) → e ≡ Point x v → Covers e t → EndsBy e t (Fin x)
point_ends x v t e is = subst (λ z. Covers z t → EndsBy z t (Fin x)) (sym is) (λ c. subst (λ z. z ≤ℚ x) (sym c) (le_refl x))

pub segment_ends : (from t : ℚ) (to : Ext) (line : Line) (e : Element) → e ≡ Open from to line → Covers e t → EndsBy e t to
segment_ends from t to line e is = subst (λ z. Covers z t → EndsBy z t to) (sym is) (λ c. c.before)

pub limit_sum : (x y : Element) (a b end limit : ℚ) (p q : Ext) → p ≡ Fin a → q ≡ Fin b → limit ≡ a +ℚ b
    → ((t : ℚ) → Covers x t → EndsBy x t p) → ((t : ℚ) → Covers y t → EndsBy y t q) → IsLimit x y end limit
limit_sum x y a b end limit p q e f is left right s u c d segment early =
    subst (λ z. s +ℚ u <ℚ z) (sym is)
    (by x y segment (subst (EndsBy x s) e (left s c)) (subst (EndsBy y u) f (right u d)))
  where
    first : s <ℚ a → u ≤ℚ b → s +ℚ u <ℚ a +ℚ b
    first h k = with4 s u a b (λ c. omega (arith, c.le, c.lt, c.same))

    second : s ≤ℚ a → u <ℚ b → s +ℚ u <ℚ a +ℚ b
    second h k = with4 s u a b (λ c. omega (arith, c.le, c.lt, c.same))

    by : (x y : Element) → HasSegment x y → EndsBy x s (Fin a) → EndsBy y u (Fin b) → s +ℚ u <ℚ a +ℚ b
    by (Open i j l) (Open m n o) h k r = first k (le_of_lt r)
    by (Open i j l) (Point m n) h k r = first k r
    by (Point i j) (Open m n o) h k r = second k r
    by (Point i j) (Point m n) h k r = absurd h

-- two points make one at the sum of their times
pub points_make : (F : ℚ → Ext) (end x v y w from top : ℚ) (d e : Element) → d ≡ Point x v → e ≡ Point y w
    → from ≡ start_of d +ℚ start_of e → top ≡ v +ℚ w → F from ≤ₑ Fin top → MakesOver F end d e
points_make F end x v y w from top d e p q start sum under =
    subst (λ z. MakesOver F end z e) (sym p)
    (subst (λ z. MakesOver F end (Point x v) z) (sym q)
    (at (subst (λ z. from ≡ z +ℚ y) (ap start_of p) (subst (λ z. from ≡ start_of d +ℚ z) (ap start_of q) start))))
  where
    at : from ≡ x +ℚ y → MakesOver F end (Point x v) (Point y w)
    at start t s early =
        let here : from ≡ t =
        start ∙ sym (ap (λ z. z +ℚ y) s.first_in) ∙ sym (ap (λ z. s.first +ℚ z) s.second_in) ∙ s.whole in
        subst (λ z. F z ≤ₑ Fin (v +ℚ w)) here (subst (λ z. F from ≤ₑ Fin z) sum under)

-- with a segment they are above what is under a line that is nowhere above them
after_starts : (x y : Element) (s u : ℚ) → HasSegment x y → Covers x s → Covers y u → start_of x +ℚ start_of y <ℚ s +ℚ u
after_starts (Open i j l) y s u h c d =
    let past = c.past in
    let late = from_start y u d in
    let b = start_of y in
    with4 i b s u (λ c. omega (arith, c.le, c.lt, c.same))
after_starts (Point i v) (Open m n o) s u h c d =
    let same : s ≡ i = c in
    let past = d.past in
    with4 i m s u (λ c. omega (arith, c.le, c.lt, c.same))
after_starts (Point i v) (Point m w) s u h c d = absurd h

pub segments_make : (F : ℚ → Ext) (end from limit : ℚ) (x y : Element) (line : Line) → from ≡ start_of x +ℚ start_of y
    → zero_q ≤ℚ from → HasSegment x y → IsFloorLine x y line → IsLimit x y end limit
    → ((t : ℚ) → zero_q ≤ℚ t → from <ℚ t → t <ℚ limit → F t ≤ₑ Fin (line_at line t)) → MakesOver F end x y
segments_make F end from limit x y line start late segment floor within under t s early =
    let a = s.first in
    let b = s.second in
    let past : from <ℚ a +ℚ b =
    subst (λ z. z <ℚ a +ℚ b) (sym start) (after_starts x y a b segment s.first_in s.second_in) in
    let soon : a +ℚ b <ℚ limit = within a b s.first_in s.second_in segment (subst (λ z. z <ℚ end) (sym s.whole) early) in
    subst (λ z. F z ≤ₑ pair_sum x y t s) s.whole
    (le_ext_trans (F (a +ℚ b)) (Fin (line_at line (a +ℚ b))) (pair_sum x y t s)
    (under (a +ℚ b) (le_trans late (le_of_lt past)) past soon) (floor a b s.first_in s.second_in))
