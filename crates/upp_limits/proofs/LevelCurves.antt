-- A curve of rate 0 that rises ends at one value; and when one curve ends above another.
use Rattle.std.specs.Prelude.{◌≡◌, ℕ, suc, pos, List, Option, Some, None, ◌↔◌}
use Rattle.std.proofs.Common.{arith, sym, ap, ◌∙◌, refl, subst}
use Rattle.rational.specs.Rational.{ℚ, ◌+ℚ◌, ◌*ℚ◌, ◌/ℚ◌, ◌≤ℚ◌, ◌<ℚ◌, int}
use Rattle.rational.specs.Extended.{Ext, ◌≤ₑ◌, ◌<ₑ◌, ◌+ₑ◌}
use Rattle.rational.specs.declared.Extended.TheVariants.{Fin, Inf}
use Rattle.rational.proofs.Linear.{with2, with4}
use Rattle.rational.proofs.Laws.{le_refl, le_trans, le_of_lt, le_lt_trans, lt_le_trans, mul_comm, mul_zero, div_mul}
use Rattle.rational.specs.MinMax.{max_q}
use Rattle.rational.proofs.MinMax.{max_q_ge_left, max_q_ge_right}
use Rattle.rational.proofs.Whole.{not_zero, periods_high, one_more_times}
use Rattle.rational.specs.Whole.{periods}
use Rattle.upp_curve.specs.declared.affine_segment.line.Line.{Line}
use Rattle.upp_curve.specs.declared.affine_segment.line.Piece.{Piece}
use Rattle.upp_curve.specs.affine_segment.Values.{line_value}
use Rattle.upp_curve.specs.declared.curve.Tail.{Tail}
use Rattle.upp_curve.specs.declared.curve.Tail.TheVariants.{Periodic, Affine, Infinite}
use Rattle.upp_curve.specs.affine_segment.Reading.{read}
use Rattle.upp_curve.specs.Curve.{SpecCurve, value_at}
use Rattle.upp_curve.specs.Steady.{last_line, rate, slope_of, Repeats}
use Rattle.upp_curve.specs.affine_segment.Pieces.{Each}
use Rattle.upp_curve.specs.Curves.{IsCurve}
use Rattle.min_plus.specs.Functions.{zero_q, IsRising}
use Rattle.upp_limits.specs.Levels.{icept_of, level_of, IsLevelAbove}
use Rattle.upp_limits.specs.Gauges.{ValueAbove, EndsAbove}
use Rattle.upp_curve.proofs.Steady.{read_past}
use Rattle.upp_curve.proofs.Repeats.{repeated_rule, repeats_times}
use Rattle.rational.proofs.ExtendedOrder.{antisym_ext, fin_same}

-- f is nowhere above x, and is x from some time on
pub record EndsAt (x : ℚ) (f : ℚ → Ext) : Type 0 where
  pub most : (t : ℚ) → zero_q ≤ℚ t → f t ≤ₑ Fin x
  pub from : ℚ
  pub nonneg : zero_q ≤ℚ from
  pub reached : f from ≡ Fin x

-- ---- which ends above
below_and_most : (a b : Ext) (x y : ℚ) → a <ₑ b → a ≡ Fin y → b ≤ₑ Fin x → y <ℚ x
below_and_most Inf b x y h e k = absurd h
below_and_most (Fin a) Inf x y h e k = absurd k
below_and_most (Fin a) (Fin b) x y h e k = subst (λ z. z <ℚ x) (fin_same e) (lt_le_trans h k)

most_and_below : (a b : Ext) (x y : ℚ) → y <ℚ x → a ≤ₑ Fin y → b ≡ Fin x → a <ₑ b
most_and_below Inf b x y h l e = absurd l
most_and_below (Fin a) Inf x y h l e = tt
most_and_below (Fin a) (Fin b) x y h l e = subst (λ z. a <ℚ z) (sym (fin_same e)) (le_lt_trans l h)

pub above_in : (f g : ℚ → Ext) (x y : ℚ) → EndsAt x f → EndsAt y g → y <ℚ x → ValueAbove f g
above_in f g x y F G h = record { at = F.from; nonneg = F.nonneg; above = λ u s. most_and_below (g u) (f F.from) x y h (G.most u s) F.reached }

pub above_out : (f g : ℚ → Ext) (x y : ℚ) → EndsAt x f → EndsAt y g → ValueAbove f g → y <ℚ x
above_out f g x y F G v = below_and_most (g G.from) (f v.at) x y (v.above G.from G.nonneg) G.reached (F.most v.at v.nonneg)

-- ---- a curve that rises with rate 0
-- a line of slope 0 past the rank
level_line : (l : Line) (t : ℚ) → l.slope ≡ zero_q → line_value (Some l) t ≡ Fin l.icept
level_line l t e =
    let z : l.slope *ℚ t ≡ zero_q = ap (λ s. s *ℚ t) e ∙ mul_comm zero_q t ∙ mul_zero t in
    let k = l.icept in
    ap Fin (with2 k (l.slope *ℚ t) (λ c. omega (arith, c.le, c.lt, c.same)))

affine_value : (ps : List Piece) (rank t : ℚ) → value_at record { pieces = ps; tail = Affine rank } t ≡ read ps t
unfolding value_at
affine_value ps rank t = refl

affine_level : (ps : List Piece) (rank : ℚ) (l : Line) → zero_q ≤ℚ rank → Each (λ q. q.x ≤ℚ rank) ps → IsRising (value_at record { pieces = ps; tail = Affine rank }) → last_line ps ≡ Some l
    → l.slope ≡ zero_q → EndsAt l.icept (value_at record { pieces = ps; tail = Affine rank })
affine_level ps rank l nonneg starts rises e s =
    record {
      most = λ t h. subst (λ v. value_at record { pieces = ps; tail = Affine rank } t ≤ₑ v) (late t) (rises t (later t) h (later_than t));
      from = later rank;
      nonneg = le_trans nonneg (later_than rank);
      reached = late rank;
    }
  where
    later : ℚ → ℚ
    later t = max_q t rank +ℚ int (pos 1)

    later_than : (t : ℚ) → t ≤ℚ later t
    later_than t = let a = max_q_ge_left t rank in with2 t (max_q t rank) (λ c. omega (arith, c.le, c.lt, c.same))

    late : (t : ℚ) → value_at record { pieces = ps; tail = Affine rank } (later t) ≡ Fin l.icept
    late t =
        let a = max_q_ge_right t rank in
        affine_value ps rank (later t) ∙ read_past ps rank (later t) starts (with2 rank (max_q t rank) (λ c. omega (arith, c.le, c.lt, c.same)))
        ∙ ap (λ m. line_value m (later t)) e ∙ level_line l (later t) s

slope_some : (l : Option Line) (x : ℚ) → slope_of l ≡ Fin x → (m : Line) × (l ≡ Some m) × (m.slope ≡ x)
slope_some None x e = absurd (inf_fin x e)
  where
    inf_fin : (x : ℚ) → Inf ≡ Fin x → ⊥
    inf_fin x e = cc
slope_some (Some m) x e = (m, refl, fin_same e)

-- a periodic tail that does not rise would be one line
no_rise : (c d : ℚ) → zero_q <ℚ d → c /ℚ d ≡ zero_q → c ≡ zero_q
no_rise c d some e = sym (div_mul c d (not_zero d some)) ∙ ap (λ x. x *ℚ d) e ∙ mul_comm zero_q d ∙ mul_zero d

ext_zero : (v : Ext) (n : ℕ) → v +ₑ Fin (int (pos n) *ℚ zero_q) ≡ v
ext_zero Inf n = refl
ext_zero (Fin v) n =
    let z = mul_zero (int (pos n)) in
    ap Fin (with2 v (int (pos n) *ℚ zero_q) (λ c. omega (arith, c.le, c.lt, c.same)))

flat : (f : ℚ → Ext) (rank d t : ℚ) → zero_q ≤ℚ rank → zero_q <ℚ d → IsRising f → Repeats f rank d zero_q → rank ≤ℚ t → f t ≡ f rank
flat f rank d t nonneg some rises rule h =
    let n = suc (periods rank d t) in
    let far = rank +ℚ int (pos n) *ℚ d in
    let high = periods_high rank d t some in
    let o = one_more_times (periods rank d t) d in
    let l : t ≤ℚ far = with4 rank d t (int (pos (periods rank d t)) *ℚ d) (λ c. omega (arith, c.le, c.lt, c.same)) in
    let same : f far ≡ f rank = (repeats_times f rank d zero_q n (le_of_lt some) rule).rule rank (le_refl rank) ∙ ext_zero (f rank) n in
    antisym_ext (f t) (f rank) (subst (λ v. f t ≤ₑ v) same (rises t far (le_trans nonneg h) l)) (rises rank t nonneg h)

one_line : (f : ℚ → Ext) (rank : ℚ) (v : Ext) → ((t : ℚ) → rank ≤ℚ t → f t ≡ v) → (l : Option Line) × ((t : ℚ) → rank ≤ℚ t → f t ≡ line_value l t)
one_line f rank Inf h = (None, h)
one_line f rank (Fin x) h =
    let l : Line = record { icept = x; slope = zero_q } in
    (Some l, λ t k. h t k ∙ sym (level_line l t refl))

infinite_rate : (ps : List Piece) (rank : ℚ) → rate record { pieces = ps; tail = Infinite rank } ≡ Fin zero_q → ⊥
unfolding rate
infinite_rate ps rank e = cc

affine_rate : (ps : List Piece) (rank : ℚ) → slope_of (last_line ps) ≡ rate record { pieces = ps; tail = Affine rank }
unfolding rate
affine_rate ps rank = refl

periodic_rate : (ps : List Piece) (rank d c : ℚ) → Fin (c /ℚ d) ≡ rate record { pieces = ps; tail = Periodic rank d c }
unfolding rate
periodic_rate ps rank d c = refl

periodic_rule : (ps : List Piece) (rank d c : ℚ) → zero_q <ℚ d → Repeats (value_at record { pieces = ps; tail = Periodic rank d c }) rank d c
unfolding value_at
periodic_rule ps rank d c some = repeated_rule (read ps) rank d c some

-- so the tail is affine, and its line is the level
pub level_found : (c : SpecCurve) → IsCurve c → IsRising (value_at c) → rate c ≡ Fin zero_q → (x : ℚ) × (level_of c ≡ Some x) × EndsAt x (value_at c)
level_found c is rises e = by_tail c.pieces c.tail is rises e
  where
    by_tail : (ps : List Piece) (tail : Tail) → IsCurve record { pieces = ps; tail = tail } → IsRising (value_at record { pieces = ps; tail = tail })
        → rate record { pieces = ps; tail = tail } ≡ Fin zero_q → (x : ℚ) × (level_of record { pieces = ps; tail = tail } ≡ Some x) × EndsAt x (value_at record { pieces = ps; tail = tail })
    by_tail ps (Infinite rank) is rises e = absurd (infinite_rate ps rank e)
    by_tail ps (Affine rank) is rises e =
        let (l, last, s) = slope_some (last_line ps) zero_q (affine_rate ps rank ∙ e) in
        let h = is.normal.raw.tail in
        (l.icept, ap icept_of last, affine_level ps rank l h.nonneg h.starts rises last s)
    by_tail ps (Periodic rank d c) is rises e =
        let f = value_at record { pieces = ps; tail = Periodic rank d c } in
        let h = is.normal.raw.tail in
        let level : c ≡ zero_q = no_rise c d h.some (fin_same (periodic_rate ps rank d c ∙ e)) in
        let rule : Repeats f rank d zero_q = subst (λ k. Repeats f rank d k) level (periodic_rule ps rank d c h.some) in
        let (l, line) = one_line f rank (f rank) (λ t k. flat f rank d t h.nonneg h.some rises rule k) in
        absurd (is.normal.tail.not_one_line l line)

-- ---- by the levels
pub levels_above : (f g : SpecCurve) → IsCurve f → IsCurve g → IsRising (value_at f) → IsRising (value_at g) → rate f ≡ Fin zero_q → rate g ≡ Fin zero_q
    → IsLevelAbove (level_of f) (level_of g) ↔ EndsAbove f g
levels_above f g F G rf rg ef eg =
    let (x, p, a) = level_found f F rf ef in
    let (y, q, b) = level_found g G rg eg in (
      λ h. record { rising = (rf, rg); level = (ef, eg); above = above_in (value_at f) (value_at g) x y a b (rw (p, q) at h) },
      λ h. rw (p, q) (above_out (value_at f) (value_at g) x y a b h.above),
    )
