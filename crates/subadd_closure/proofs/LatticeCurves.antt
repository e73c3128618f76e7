-- The lattice and the value 0 at 0 as curves.
use Rattle.std.specs.Prelude.{◌≡◌, ℕ, ◌≤◌, pos, List, [], ◌∷◌, Option, Some, None}
use Rattle.std.proofs.Common.{arith, sym, refl, ap, ◌∙◌, subst, inl, inr}
use Rattle.rational.specs.Rational.{ℚ, ◌+ℚ◌, ◌-ℚ◌, ◌*ℚ◌, ◌/ℚ◌, ◌≤ℚ◌, ◌<ℚ◌, int}
use Rattle.rational.specs.Ratio.{IsSmall}
use Rattle.rational.specs.Extended.{Ext, ◌+ₑ◌}
use Rattle.rational.specs.declared.Extended.TheVariants.{Fin, Inf}
use Rattle.rational.proofs.Linear.{with1, with2, with3}
use Rattle.rational.proofs.Laws.{le_refl, le_of_lt, le_or_lt, lt_irrefl, antisym, between, mul_one, mul_lt_mul, zero_mul, lt_of_mul, div_mul, not_zero}
use Rattle.rational.proofs.Integers.{nat_lt}
use Rattle.rational.proofs.Over.{le_q_out}
use Rattle.rational.proofs.MinMax.{le_q_not}
use Rattle.rational.proofs.Whole.{periods_unique}
use Rattle.upp_curve.specs.declared.affine_segment.line.Line.{Line}
use Rattle.upp_curve.specs.declared.affine_segment.line.Piece.{Piece}
use Rattle.upp_curve.specs.affine_segment.Values.{line_value}
use Rattle.upp_curve.specs.declared.curve.Tail.TheVariants.{Periodic, Infinite}
use Rattle.upp_curve.specs.Curve.{SpecCurve, value_at, repeated, cut}
use Rattle.upp_curve.specs.Curves.{IsCurve}
use Rattle.min_plus.specs.Functions.{zero_q}
use Rattle.upp_curve.specs.Normal.{IsNormal}
use Rattle.upp_curve.specs.Readable.{SumFitsAt}
use Rattle.upp_curve.specs.affine_segment.Reading.{read}
use Rattle.upp_curve.specs.Steady.{Repeats}
use Rattle.upp_curve.proofs.Repeats.{repeated_first}
use Rattle.min_plus.specs.closure_laws.Star.{origin, nat_times}
use Rattle.min_plus.specs.closure_laws.ClosureLaws.{IsLattice}
use Rattle.subadd_closure.specs.Lattices.{lattice_curve, origin_curve, LatticeValues}
use Rattle.subadd_closure.proofs.ClosureValues.{Left, left_of}
use Rattle.subadd_closure.proofs.FlatLines.{zero_sum}
use Rattle.subadd_closure.proofs.PointAnswers.{point_piece, zero_curve}
use Rattle.upp_curve.proofs.affine_segment.PieceIn.{read_one, value_by, value_past}

-- ---- how they read
here : (t v : ℚ) → t ≤ℚ zero_q → read (point_piece zero_q v ∷ []) t ≡ Fin v
here t v h = read_one (point_piece zero_q v) t ∙ value_by (point_piece zero_q v) t h

past : (t v : ℚ) → zero_q <ℚ t → read (point_piece zero_q v ∷ []) t ≡ Inf
past t v h = read_one (point_piece zero_q v) t ∙ value_past (point_piece zero_q v) t h

no_fin : (q : ℚ) → Inf ≡ Fin q → ⊥
no_fin q e = cc

-- ---- the lattice's values
module _ (d c : ℚ) (some : zero_q <ℚ d) where
  f : ℚ → Ext
  f = read (point_piece zero_q zero_q ∷ [])

  at_times : (n : ℕ) → value_at (lattice_curve d c) (nat_times n d) ≡ Fin (nat_times n c)
  unfolding value_at repeated f
  at_times n =
      let t = nat_times n d in
      let e = periods_unique zero_q d t n some (with1 t (λ o. omega (arith, o.le, o.lt, o.same))) (with2 t d (λ o. omega (arith, o.le, o.lt, o.same))) in
      let none : t -ℚ t ≤ℚ zero_q = with1 t (λ o. omega (arith, o.le, o.lt, o.same)) in
      ap (λ k. read (point_piece zero_q zero_q ∷ []) (t -ℚ nat_times k d) +ₑ Fin (nat_times k c)) e
      ∙ ap (λ z. z +ₑ Fin (nat_times n c)) (here (t -ℚ t) zero_q none)
      ∙ ap Fin (zero_more (nat_times n c))
    where
      zero_more : (x : ℚ) → zero_q +ℚ x ≡ x
      zero_more x = antisym (with1 x (λ o. omega (arith, o.le, o.lt, o.same)))

  only_times : (t q : ℚ) → zero_q ≤ℚ t → value_at (lattice_curve d c) t ≡ Fin q → (n : ℕ) × (t ≡ nat_times n d)
  unfolding value_at repeated f
  only_times t q low e =
      let s = left_of zero_q d t some low in
      let L = s.low in
      let B = s.back in
      elim (le_or_lt s.left zero_q) [
        | inl zero ↦ (s.number, placed s.left (nat_times s.number d) zero L B)
        | inr later ↦ absurd (no_fin q (sym (gone s later) ∙ e))
      ]
    where
      placed : (s k : ℚ) → s ≤ℚ zero_q → zero_q ≤ℚ s → t ≡ s +ℚ k → t ≡ k
      placed s k h l b = antisym (with3 t s k (λ o. omega (arith, o.le, o.lt, o.same)))

      gone : (s : Left zero_q d t) → zero_q <ℚ s.left → repeated (read (point_piece zero_q zero_q ∷ [])) zero_q d c t ≡ Inf
      gone s h =
          ap (λ n. read (point_piece zero_q zero_q ∷ []) (t -ℚ nat_times n d) +ₑ Fin (nat_times n c)) (sym s.is)
          ∙ ap (λ z. read (point_piece zero_q zero_q ∷ []) z +ₑ Fin (nat_times s.number c)) (sym s.left_is)
          ∙ ap (λ z. z +ₑ Fin (nat_times s.number c)) (past s.left zero_q h)

  lattice_is : IsLattice d c (value_at (lattice_curve d c))
  lattice_is = record { at = at_times; only = only_times }

  -- ---- its normal form
  first : (t : ℚ) → t <ℚ zero_q +ℚ d → value_at (lattice_curve d c) t ≡ read (point_piece zero_q zero_q ∷ []) t
  unfolding value_at
  first t h = repeated_first (read (point_piece zero_q zero_q ∷ [])) zero_q d c t some h

  pub lattice_normal : IsNormal (lattice_curve d c)
  lattice_normal =
      let g = value_at (lattice_curve d c) in
      let zero : g zero_q ≡ Fin zero_q = first zero_q (with1 d (λ o. omega (arith, o.le, o.lt, o.same))) ∙ here zero_q zero_q (le_refl zero_q) in
      let none : (t : ℚ) → zero_q <ℚ t → t <ℚ d → g t ≡ Inf = λ t h k. first t (with2 t d (λ o. omega (arith, o.le, o.lt, o.same))) ∙ past t zero_q h in
      record {
        raw = record { starts = (refl, tt); tail = record { nonneg = le_refl zero_q; some = some; starts = (with1 d (λ o. omega (arith, o.le, o.lt, o.same)), tt) } };
        rank_is_start = inl refl;
        no_merge = tt;
        tail = record {
          least_period = λ n two r. no_part g n two zero none r;
          least_rank = ((λ k. absurd (lt_irrefl zero_q k)), tt);
          not_one_line = λ m r. no_line g zero none m r;
        };
      }
    where
      no_part : (g : ℚ → Ext) (n : ℕ) → 2 ≤ n → g zero_q ≡ Fin zero_q → ((t : ℚ) → zero_q <ℚ t → t <ℚ d → g t ≡ Inf)
          → ¬ (Repeats g zero_q (d /ℚ int (pos n)) (c /ℚ int (pos n)))
      no_part g n two zero none r =
          let M = int (pos n) in
          let positive : zero_q <ℚ M = nat_lt 0 n (omega arith) in
          let share = d /ℚ M in
          let back : share *ℚ M ≡ d = div_mul d M (not_zero M positive) in
          let low : zero_q <ℚ share = lt_of_mul M zero_q share positive (subst (λ z. zero_q *ℚ M <ℚ z) (sym back) (subst (λ z. z <ℚ d) (sym (zero_mul M)) some)) in
          let one : int (pos 1) <ℚ M = nat_lt 1 n (omega arith) in
          let longer : share *ℚ int (pos 1) <ℚ share *ℚ M = mul_lt_mul share low one in
          let high : share <ℚ d = subst (λ z. z <ℚ d) (mul_one share) (subst (λ z. share *ℚ int (pos 1) <ℚ z) back longer) in
          let value = none (zero_q +ℚ share) (with1 share (λ o. omega (arith, o.le, o.lt, o.same))) (with2 share d (λ o. omega (arith, o.le, o.lt, o.same))) in
          no_fin (zero_q +ℚ c /ℚ M) (sym value ∙ r.rule zero_q (le_refl zero_q) ∙ ap (λ z. z +ₑ Fin (c /ℚ M)) zero)

      no_line : (g : ℚ → Ext) → g zero_q ≡ Fin zero_q → ((t : ℚ) → zero_q <ℚ t → t <ℚ d → g t ≡ Inf) → (m : Option Line)
          → ¬ ((t : ℚ) → zero_q ≤ℚ t → g t ≡ line_value m t)
      no_line g zero none None r = no_fin zero_q (sym (r zero_q (le_refl zero_q)) ∙ zero)
      no_line g zero none (Some l) r =
          let (t, p, q) = between zero_q d some in
          no_fin _ (sym (none t p q) ∙ r t (le_of_lt p))

  pub lattice_is_curve : IsSmall d → IsSmall c → IsSmall (c /ℚ d) → IsCurve (lattice_curve d c)
  lattice_is_curve small_d small_c rate = record {
    normal = lattice_normal;
    readable = record {
      end = zero_sum d small_d;
      rate = rate;
      next = subst (λ z. SumFitsAt z c) (sym (here zero_q zero_q (le_refl zero_q))) (zero_sum c small_c);
      lines = (tt, tt, tt);
    };
  }

-- ---- 0 at 0
origin_is : (t : ℚ) → zero_q ≤ℚ t → value_at origin_curve t ≡ origin t
unfolding value_at cut
origin_is t low = elim (le_or_lt t zero_q) [
  | inl zero ↦ rw (le_q_out t zero_q zero) (here t zero_q zero)
  | inr later ↦ rw (le_q_not t zero_q later) refl
]

pub lattice_values : LatticeValues
lattice_values = record { lattice = λ d c some. lattice_is d c some; origin = origin_is }

pub origin_is_curve : IsCurve origin_curve
origin_is_curve = zero_curve zero_q

-- ---- as code makes them
pub lattice_made : (z : ℚ) (d c : ℚ) (ps : List Piece) → z ≡ zero_q → ps ≡ point_piece z z ∷ []
    → (let k : SpecCurve = record { pieces = ps; tail = Periodic z d c } in k ≡ lattice_curve d c)
lattice_made z d c ps e g =
    let one = λ (y : List Piece). let k : SpecCurve = record { pieces = y; tail = Periodic z d c } in k in
    let two = λ (y : ℚ). let k : SpecCurve = record { pieces = point_piece y y ∷ []; tail = Periodic y d c } in k in
    ap one g ∙ ap two e

pub origin_made : (z : ℚ) (ps : List Piece) → z ≡ zero_q → ps ≡ point_piece z z ∷ []
    → (let k : SpecCurve = record { pieces = ps; tail = Infinite z } in k ≡ origin_curve)
origin_made z ps e g =
    let one = λ (y : List Piece). let k : SpecCurve = record { pieces = y; tail = Infinite z } in k in
    let two = λ (y : ℚ). let k : SpecCurve = record { pieces = point_piece y y ∷ []; tail = Infinite y } in k in
    ap one g ∙ ap two e
