-- The first time from a start on at which a finite curve that rises reaches a level: it is found among the curve's pieces, or there is none.
use Rattle.std.specs.Prelude.{◌≡◌, pos, List, [], ◌∷◌, Option, Some, None, ◌⊎◌}
use Rattle.std.proofs.Common.{arith, sym, ap, ◌∙◌, refl, subst, inl, inr}
use Rattle.rational.specs.Rational.{ℚ, ◌+ℚ◌, ◌-ℚ◌, ◌*ℚ◌, ◌/ℚ◌, ◌≤ℚ◌, ◌<ℚ◌, int}
use Rattle.rational.specs.Extended.{Ext, ◌≤ₑ◌, ◌<ₑ◌, ◌+ₑ◌}
use Rattle.rational.specs.declared.Extended.TheVariants.{Fin}
use Rattle.rational.specs.MinMax.{max_q}
use Rattle.rational.proofs.Linear.{with1, with3, with4}
use Rattle.rational.proofs.Laws.{le_refl, le_trans, le_of_lt, le_or_lt, lt_le_trans, le_lt_trans, lt_trans, lt_irrefl, antisym, between, mul_comm, div_mul, not_zero, mul_nonneg, mul_le_mul, mul_zero}
use Rattle.rational.proofs.Lines.{line_moved}
use Rattle.rational.proofs.Integers.{nat_nonneg}
use Rattle.rational.proofs.Quotients.{times_above}
use Rattle.rational.proofs.MinMax.{max_q_ge_left, max_q_ge_right}
use Rattle.rational.proofs.ExtendedOrder.{le_ext_trans, le_lt_ext, le_or_lt_ext}
use Rattle.upp_curve.specs.declared.affine_segment.line.Line.{Line}
use Rattle.upp_curve.specs.declared.affine_segment.line.Piece.{Piece}
use Rattle.upp_curve.specs.affine_segment.Values.{line_at, line_value}
use Rattle.upp_curve.specs.affine_segment.Reading.{read, piece_value}
use Rattle.upp_curve.specs.affine_segment.Pieces.{RisesFrom, StartsAtZero}
use Rattle.upp_curve.specs.Curve.{SpecCurve, value_at}
use Rattle.upp_curve.specs.Curves.{IsCurve}
use Rattle.min_plus.specs.Functions.{IsFinite, IsRising}
use Rattle.upp_curve.specs.Steady.{Repeats}
use Rattle.upp_curve.specs.Unrolled.{unroll}
use Rattle.min_plus.proofs.FiniteValues.{no_inf}
use Rattle.upp_curve.proofs.affine_segment.PieceIn.{piece_in_stop, piece_in_go, piece_in_end, value_past, read_is}
use Rattle.upp_curve.proofs.FirstStretch.{read_in}
use Rattle.upp_normal.proofs.Below.{unroll_reads}
use Rattle.upp_normal.proofs.UnrolledPieces.{unroll_starts}
use Rattle.curve_call.proofs.Shifts.{later_value}
use Rattle.curve_deviation.specs.Rises.{RisesOn}
use Rattle.curve_deviation.proofs.CellLag.{rises_more, gets_higher, before_both}
use Rattle.curve_deviation.proofs.RisingParts.{rises_on}
use Rattle.upp_curve.proofs.affine_segment.LineValues.{value_later, value_rises}

-- x is the first time from t on at which g has reached v, or the limit of such times
pub record IsReached (g : ℚ → Ext) (v t x : ℚ) : Type 0 where
  pub low : t ≤ℚ x
  pub before : (u : ℚ) → t ≤ℚ u → u <ℚ x → g u <ₑ Fin v
  pub near : (y : ℚ) → x <ℚ y → (u : ℚ) × (t ≤ℚ u) × (u <ℚ y) × (Fin v ≤ₑ g u)

-- from t on g stays below v
abbrev pub StaysBelow : (ℚ → Ext) → ℚ → ℚ → Type 0
StaysBelow g v t = (u : ℚ) → t ≤ℚ u → g u <ₑ Fin v

pub at_once : (g : ℚ → Ext) (v t : ℚ) → Fin v ≤ₑ g t → IsReached g v t t
at_once g v t h = record {
  low = le_refl t;
  before = λ u a b. absurd (lt_irrefl t (le_lt_trans a b));
  near = λ y l. (t, le_refl t, l, h);
}

-- ---- on one stretch
-- the time at which a line that rises has a value
level_time : (l : Line) (t v : ℚ) → int (pos 0) <ℚ l.slope → (x : ℚ) × (line_at l x ≡ v)
level_time l t v some =
    let q = (v -ℚ line_at l t) /ℚ l.slope in
    (t +ℚ q, line_moved l.icept l.slope t q ∙ close (line_at l t) v (l.slope *ℚ q) (mul_comm l.slope q ∙ div_mul (v -ℚ line_at l t) l.slope (not_zero l.slope some)))
  where
    close : (a b g : ℚ) → g ≡ b -ℚ a → a +ℚ g ≡ b
    close a b g e = with3 a b g (λ c. omega (arith, c.le, c.lt, c.same))

on_line : (g : ℚ → Ext) (l : Line) (v t e : ℚ) → RisesOn g l t e → g t <ₑ Fin v → v ≤ℚ line_at l e → (x : ℚ) × IsReached g v t x
on_line g l v t e R low high = elim (le_or_lt v (line_at l t)) [
  | inl h ↦ (
    t,
    record {
      low = le_refl t;
      before = λ u a b. absurd (lt_irrefl t (le_lt_trans a b));
      near = λ y k.
          let (u, a, b, d) = before_both t e y R.some k in
          (u, le_of_lt a, d, subst (λ w. Fin v ≤ₑ w) (sym (R.inside u a b)) (le_trans h (value_rises l t u R.slope (le_of_lt a))));
    },
  )
  | inr h ↦
      let some : int (pos 0) <ℚ l.slope = gets_higher l t e R.slope (lt_le_trans h high) in
      let (x, is) = level_time l t v some in
      let past : t <ℚ x = value_later l t x R.slope (subst (λ w. line_at l t <ℚ w) (sym is) h) in (
        x,
        record {
          low = le_of_lt past;
          before = λ u a b. elim (le_or_lt u t) [
            | inl m ↦ subst (λ w. g w <ₑ Fin v) (antisym (a, m)) low
            | inr m ↦ subst (λ w. w <ₑ Fin v) (sym (R.inside u m (inner x u some is b))) (subst (λ w. line_at l u <ℚ w) is (rises_more l u x some b))
          ];
          near = λ y k. elim (le_or_lt e x) [
            | inl m ↦ (e, le_of_lt R.some, le_lt_trans m k, le_ext_trans (Fin v) (Fin (line_at l e)) (g e) high R.end)
            | inr m ↦ (x, le_of_lt past, k, subst (λ w. Fin v ≤ₑ w) (sym (R.inside x past m)) (subst (λ w. v ≤ℚ w) (sym is) (le_refl v)))
          ];
        },
      )
]
  where
    -- before the line has the value, the stretch goes on
    inner : (x u : ℚ) → int (pos 0) <ℚ l.slope → line_at l x ≡ v → u <ℚ x → u <ℚ e
    inner x u some is b = value_later l u e R.slope (lt_le_trans (subst (λ w. line_at l u <ℚ w) is (rises_more l u x some b)) high)

pub on_stretch : (g : ℚ → Ext) (l : Line) (v t e : ℚ) → RisesOn g l t e → v ≤ℚ line_at l e → (x : ℚ) × IsReached g v t x
on_stretch g l v t e R high = elim (le_or_lt_ext (Fin v) (g t)) [
  | inl h ↦ (t, at_once g v t h)
  | inr h ↦ on_line g l v t e R h high
]

-- where it is reached within the stretch, the line reaches it by the end
within : (g : ℚ → Ext) (l : Line) (v t e X : ℚ) → RisesOn g l t e → IsRising g → int (pos 0) ≤ℚ t → t ≤ℚ X → X <ℚ e → Fin v ≤ₑ g X → v ≤ℚ line_at l e
within g l v t e X R up some low early h =
    let (u, a, b) = between X e early in
    let past = le_lt_trans low a in
    let far : Fin v ≤ₑ g u = le_ext_trans (Fin v) (g X) (g u) h (up X u (le_trans some low) (le_of_lt a)) in
    le_trans (subst (λ w. Fin v ≤ₑ w) (R.inside u past b) far) (value_rises l u e R.slope (le_of_lt b))

-- the times before a later start are below too
sooner : (g : ℚ → Ext) (v t s x : ℚ) → t ≤ℚ s → ((u : ℚ) → t ≤ℚ u → u <ℚ s → g u <ₑ Fin v) → IsReached g v s x → IsReached g v t x
sooner g v t s x h low R = record {
  low = le_trans h R.low;
  before = λ u a b. elim (le_or_lt s u) [ inl m ↦ R.before u m b | inr m ↦ low u a m ];
  near = λ y k. let (u, a, b, d) = R.near y k in (u, le_trans h a, b, d);
}

-- ---- among the pieces
-- g is as the pieces read from t on, before the end
abbrev ReadsFrom : (ℚ → Ext) → Piece → List Piece → ℚ → ℚ → Type 0
ReadsFrom g p ps t end = (u : ℚ) → t ≤ℚ u → u <ℚ end → g u ≡ read_in p ps u

a_line : (g : ℚ → Ext) (l : Option Line) (u : ℚ) → IsFinite g → int (pos 0) ≤ℚ u → g u ≡ line_value l u → (m : Line) × (l ≡ Some m)
a_line g None u finite some e = let (v, k) = finite u some in absurd (no_inf (sym k ∙ e))
a_line g (Some m) u finite some e = (m, refl)

-- up to e the first piece is what is read
stretch_of : (g : ℚ → Ext) (p : Piece) (t e : ℚ) → IsFinite g → IsRising g → int (pos 0) ≤ℚ t → t <ℚ e → ((u : ℚ) → t <ℚ u → u <ℚ e → g u ≡ line_value p.line u) → (l : Line) × RisesOn g l t e
stretch_of g p t e finite up some h is =
    let (u, a, b) = between t e h in
    let (l, f) = a_line g p.line u finite (le_trans some (le_of_lt a)) (is u a b) in
    (l, rises_on g l t e some h up (λ w c d. is w c d ∙ ap (λ m. line_value m w) f))

last_value : (g : ℚ → Ext) (p : Piece) (t end : ℚ) → p.x ≤ℚ t → ReadsFrom g p [] t end → (u : ℚ) → t <ℚ u → u <ℚ end → g u ≡ line_value p.line u
last_value g p t end low is u a b = is u (le_of_lt a) b ∙ ap (λ q. piece_value q u) (piece_in_end p u) ∙ value_past p u (le_lt_trans low a)

first_value : (g : ℚ → Ext) (p q : Piece) (qs : List Piece) (t end : ℚ) → p.x ≤ℚ t → ReadsFrom g p (q ∷ qs) t end → (u : ℚ) → t <ℚ u → u <ℚ end → u <ℚ q.x → g u ≡ line_value p.line u
first_value g p q qs t end low is u a b d = is u (le_of_lt a) b ∙ ap (λ r. piece_value r u) (piece_in_stop p q qs u d) ∙ value_past p u (le_lt_trans low a)

pub among : (g : ℚ → Ext) (p : Piece) (ps : List Piece) (v t X end : ℚ) → IsFinite g → IsRising g → int (pos 0) ≤ℚ t → p.x ≤ℚ t → RisesFrom p.x ps → ReadsFrom g p ps t end → t ≤ℚ X → X <ℚ end → Fin v ≤ₑ g X
    → (x : ℚ) × IsReached g v t x
among g p [] v t X end finite up some low rising is h early reach =
    let (l, R) = stretch_of g p t end finite up some (le_lt_trans h early) (last_value g p t end low is) in
    on_stretch g l v t end R (within g l v t end X R up some h early reach)
among g p (q ∷ qs) v t X end finite up some low rising is h early reach = elim (le_or_lt q.x t) [
  | inl k ↦ among g q qs v t X end finite up some k rising.1 (λ u a b. is u a b ∙ ap (λ r. piece_value r u) (piece_in_go p q qs u (le_trans k a))) h early reach
  | inr k ↦ elim (le_or_lt q.x X) [
    | inr m ↦
        let (e, a, b, d) = before_both X q.x end m early in
        let (l, R) = stretch_of g p t e finite up some (le_lt_trans h a) (λ u c f. first_value g p q qs t end low is u c (lt_trans f d) (lt_trans f b)) in
        on_stretch g l v t e R (within g l v t e X R up some h a reach)
    | inl m ↦
        let (l, R) = stretch_of g p t q.x finite up some k (λ u a b. first_value g p q qs t end low is u a (lt_trans b (le_lt_trans m early)) b) in
        elim (le_or_lt v (line_at l q.x)) [
          | inl n ↦ on_stretch g l v t q.x R n
          | inr n ↦
              let (x, found) = among g q qs v q.x X end finite up (le_trans some (le_of_lt k)) (le_refl q.x) rising.1
              (λ u a b. is u (le_trans (le_of_lt k) a) b ∙ ap (λ r. piece_value r u) (piece_in_go p q qs u a)) m early reach in
              (x, sooner g v t q.x x (le_of_lt k) (λ u a b. under l u k a b R n) found)
        ]
  ]
]
  where
    under : (l : Line) (u : ℚ) → t <ℚ q.x → t ≤ℚ u → u <ℚ q.x → RisesOn g l t q.x → line_at l q.x <ℚ v → g u <ₑ Fin v
    under l u k a b R n = elim (le_or_lt u t) [
      | inl e ↦ subst (λ w. g w <ₑ Fin v) (antisym (a, e)) (le_lt_ext (g t) (Fin (line_at l t)) (Fin v) R.start (le_lt_trans (value_rises l t q.x R.slope (le_of_lt k)) n))
      | inr e ↦ subst (λ w. w <ₑ Fin v) (sym (R.inside u e b)) (le_lt_trans (value_rises l u q.x R.slope (le_of_lt b)) n)
    ]

-- ---- a curve
by_then : (c : SpecCurve) (v t X : ℚ) → IsCurve c → IsFinite (value_at c) → IsRising (value_at c) → int (pos 0) ≤ℚ t → t ≤ℚ X → Fin v ≤ₑ value_at c X → (x : ℚ) × IsReached (value_at c) v t x
by_then c v t X curve finite up some h reach =
    let end = X +ℚ int (pos 1) in
    let early : X <ℚ end = with1 X (λ c. omega (arith, c.le, c.lt, c.same)) in
    let low : int (pos 0) <ℚ end = le_lt_trans (le_trans some h) early in
    by_list (unroll c end) (unroll_starts c end low curve.normal) (λ u a b. sym (unroll_reads c end u curve.normal (le_trans some a) b)) early
  where
    by_list : (ps : List Piece) → StartsAtZero ps → ((u : ℚ) → t ≤ℚ u → u <ℚ X +ℚ int (pos 1) → value_at c u ≡ read ps u) → X <ℚ X +ℚ int (pos 1) → (x : ℚ) × IsReached (value_at c) v t x
    by_list [] starts is early = absurd starts
    by_list (p ∷ ps) starts is early =
        among (value_at c) p ps v t X (X +ℚ int (pos 1)) finite up some (subst (λ x. x ≤ℚ t) (sym starts.0) some) starts.1 (λ u a b. is u a b ∙ read_is p ps u) h early reach

-- it is reached, or never will be: past the time from which on the curve repeats it rises by the same for each period
pub reached_or : (c : SpecCurve) (from d b v t : ℚ) → IsCurve c → IsFinite (value_at c) → IsRising (value_at c) → int (pos 0) <ℚ d → int (pos 0) ≤ℚ from → Repeats (value_at c) from d b → int (pos 0) ≤ℚ t
    → ((x : ℚ) × IsReached (value_at c) v t x) ⊎ StaysBelow (value_at c) v t
reached_or c from d b v t curve finite up some low R nonneg =
    let late = max_q from t in
    let a = max_q_ge_left from t in
    let h = max_q_ge_right from t in
    let (w, e) = finite late (le_trans low a) in
    elim (le_or_lt_ext (Fin v) (value_at c late)) [
      | inl k ↦ inl (by_then c v t late curve finite up nonneg h k)
      | inr k ↦ elim (le_or_lt b (int (pos 0))) [
        | inr rise ↦
            let (n, over) = times_above (v -ℚ w) b rise in
            let N = int (pos n) in
            let y = N *ℚ d in
            let more : int (pos 0) ≤ℚ y = mul_nonneg (nat_nonneg n) (le_of_lt some) in
            let is : value_at c (late +ℚ y) ≡ Fin (w +ℚ N *ℚ b) = later_value (value_at c) from d b late n (le_of_lt some) R a ∙ ap (λ x. x +ₑ Fin (N *ℚ b)) e in
            inl (by_then c v t (late +ℚ y) curve finite up nonneg (with3 t late y (λ c. omega (arith, c.le, c.lt, c.same))) (subst (λ x. Fin v ≤ₑ x) (sym is) (above v w (N *ℚ b) over)))
        | inl level ↦ inr (λ u g.
            let (n, over) = times_above (u -ℚ late) d some in
            let N = int (pos n) in
            let y = N *ℚ d in
            let is : value_at c (late +ℚ y) ≡ Fin (w +ℚ N *ℚ b) = later_value (value_at c) from d b late n (le_of_lt some) R a ∙ ap (λ x. x +ₑ Fin (N *ℚ b)) e in
            let value_rises : value_at c u ≤ₑ value_at c (late +ℚ y) = up u (late +ℚ y) (le_trans nonneg g) (with3 u late y (λ c. omega (arith, c.le, c.lt, c.same))) in
            let flat : N *ℚ b ≤ℚ N *ℚ int (pos 0) = mul_le_mul N (nat_nonneg n) level in
            le_lt_ext (value_at c u) (value_at c (late +ℚ y)) (Fin v) value_rises (subst (λ x. x <ₑ Fin v) (sym is) (below v w (N *ℚ b) (N *ℚ int (pos 0)) (mul_zero N) flat (subst (λ x. x <ₑ Fin v) e k))))
      ]
    ]
  where
    above : (v w y : ℚ) → v -ℚ w <ℚ y → v ≤ℚ w +ℚ y
    above v w y h = with3 v w y (λ c. omega (arith, c.le, c.lt, c.same))

    below : (v w y z : ℚ) → z ≡ int (pos 0) → y ≤ℚ z → w <ℚ v → w +ℚ y <ℚ v
    below v w y z e h k = with4 v w y z (λ c. omega (arith, c.le, c.lt, c.same))
