-- The parts of a finite curve that rises: their lines, and their limits at both ends.
use Rattle.std.specs.Prelude.{◌≡◌, pos, Option, Some, None}
use Rattle.std.proofs.Common.{arith, sym, ap, ◌∙◌, subst, inl, inr}
use Rattle.rational.specs.Rational.{ℚ, ◌*ℚ◌, ◌≤ℚ◌, ◌<ℚ◌, int, neg_ℚ}
use Rattle.rational.specs.MinMax.{min_q}
use Rattle.rational.specs.Grid.{Whole}
use Rattle.rational.specs.Stretch.{Between}
use Rattle.rational.specs.Extended.{Ext, ◌≤ₑ◌}
use Rattle.rational.specs.declared.Extended.TheVariants.{Fin}
use Rattle.rational.proofs.Linear.{with1, with3, with4}
use Rattle.rational.proofs.Laws.{le_refl, le_trans, le_of_lt, le_or_lt, lt_le_trans, lt_trans, between, mul_lt_mul, neg_mul}
use Rattle.rational.proofs.Bounds.{greatest, smallest}
use Rattle.rational.proofs.Stretch.{rising_infimum, rising_supremum}
use Rattle.rational.proofs.MinMax.{min_q_le_left, min_q_le_right, min_q_one, below_min_in}
use Rattle.upp_curve.specs.declared.affine_segment.line.Line.{Line}
use Rattle.upp_curve.specs.affine_segment.Values.{line_at, line_value}
use Rattle.upp_curve.specs.Curve.{SpecCurve, value_at}
use Rattle.min_plus.specs.Functions.{IsFinite, IsRising}
use Rattle.upp_curve.specs.Shapes.{IsLine}
use Rattle.upp_limits.specs.Limits.{Sizes}
use Rattle.upp_normal.specs.Operand.{OperandLine, OperandLineAt}
use Rattle.upp_normal.specs.Ahead.{IsTimeIn}
use Rattle.min_plus.proofs.FiniteValues.{no_inf}
use Rattle.curve_deviation.specs.declared.cells.Cell.{Cell}
use Rattle.curve_deviation.specs.declared.parts.Part.{Part}
use Rattle.curve_deviation.specs.Cells.{RisingCell, CellSizes, IsTimeTo}
use Rattle.curve_deviation.specs.Parts.{IsFiniteInSizes, GoesTo, PartStands}
use Rattle.curve_deviation.specs.declared.walks.Rise.{Rise}
use Rattle.curve_deviation.specs.Rises.{RisesOn, IsCellOf, IsRiseFrom}

-- ---- a finite part has a line
pub part_line : (f : ℚ → Ext) (t end : ℚ) (p : Part) → int (pos 0) ≤ℚ t → IsFinite f → GoesTo f t end p → IsLine p.line
part_line f t end p low finite goes =
    let (u, a, b) = between t p.until goes.past in
    let (v, e) = finite u (le_trans low (le_of_lt a)) in
    by_line v u p.line (sym e ∙ goes.line u a b)
  where
    by_line : (v u : ℚ) (l : Option Line) → Fin v ≡ line_value l u → IsLine l
    by_line v u None e = no_inf e
    by_line v u (Some l) e = tt

-- ---- it does not fall
falls_more : (r s u : ℚ) → r <ℚ int (pos 0) → s <ℚ u → r *ℚ u <ℚ r *ℚ s
falls_more r s u h k =
    let m = mul_lt_mul (neg_ℚ r) (with1 r (λ c. omega (arith, c.le, c.lt, c.same))) k in
    turn (neg_ℚ r *ℚ s) (neg_ℚ r *ℚ u) (r *ℚ s) (r *ℚ u) (neg_mul r s) (neg_mul r u) m
  where
    turn : (a b p q : ℚ) → a ≡ neg_ℚ p → b ≡ neg_ℚ q → a <ℚ b → q <ℚ p
    turn a b p q e f h = with4 a b p q (λ c. omega (arith, c.le, c.lt, c.same))

level_or : (l : Line) (s u : ℚ) → s <ℚ u → line_at l s ≤ℚ line_at l u → int (pos 0) ≤ℚ l.slope
level_or l s u h k = elim (le_or_lt (int (pos 0)) l.slope) [
  | inl m ↦ m
  | inr m ↦
      let n = falls_more l.slope s u m h in
      let i = l.icept in
      let p = l.slope *ℚ s in
      let q = l.slope *ℚ u in
      absurd (with3 i p q (λ c. omega (arith, c.le, c.lt, c.same)))
]

part_slope : (f : ℚ → Ext) (l : Line) (t e : ℚ) → int (pos 0) ≤ℚ t → t <ℚ e → IsRising f → ((u : ℚ) → t <ℚ u → u <ℚ e → f u ≡ Fin (line_at l u)) → int (pos 0) ≤ℚ l.slope
part_slope f l t e low some rises is =
    let (s, a, b) = between t e some in
    let (u, c, d) = between s e b in
    let up : f s ≤ₑ f u = rises s u (le_trans low (le_of_lt a)) (le_of_lt c) in
    level_or l s u c (subst (λ x. x ≤ₑ Fin (line_at l u)) (is s a b) (subst (λ x. f s ≤ₑ x) (is u (lt_trans a c) d) up))

pub rises_on : (f : ℚ → Ext) (l : Line) (t e : ℚ) → int (pos 0) ≤ℚ t → t <ℚ e → IsRising f → ((u : ℚ) → t <ℚ u → u <ℚ e → f u ≡ Fin (line_at l u)) → RisesOn f l t e
rises_on f l t e low some rises is =
    let slope = part_slope f l t e low some rises is in
    record {
      some = some;
      inside = is;
      slope = slope;
      start = greatest {I = Between t e} (λ s. Fin (line_at l s.at)) (Fin (line_at l t)) (f t) (rising_infimum t e l.icept l.slope some slope)
          (λ s. subst (λ x. f t ≤ₑ x) (is s.at s.above s.below) (rises t s.at low (le_of_lt s.above)));
      end = smallest {I = Between t e} (λ s. Fin (line_at l s.at)) (Fin (line_at l e)) (f e) (rising_supremum t e l.icept l.slope some slope)
          (λ s. subst (λ x. x ≤ₑ f e) (is s.at s.above s.below) (rises s.at e (le_trans low (le_of_lt s.above)) (le_of_lt s.below)));
    }

-- ---- a cell
part_rises : (f : ℚ → Ext) (l : Line) (t e end : ℚ) (p : Part) → int (pos 0) ≤ℚ t → t <ℚ e → e ≤ℚ p.until → IsRising f → GoesTo f t end p → p.line ≡ Some l → RisesOn f l t e
part_rises f l t e end p low some early rises goes is = rises_on f l t e low some rises (λ u a b. goes.line u a (lt_le_trans b early) ∙ ap (λ m. line_value m u) is)

pub cell_of : (f g : ℚ → Ext) (t x until end : ℚ) (p q : Part) (c : Cell) → int (pos 0) ≤ℚ t → int (pos 0) ≤ℚ x → t <ℚ until → IsRising f → IsRising g → GoesTo f t end p → GoesTo g x end q
    → p.line ≡ Some c.first → q.line ≡ Some c.second → c.start ≡ t → c.from ≡ x → c.end ≡ min_q until p.until → c.until ≡ q.until → IsCellOf f g t x until end c
cell_of f g t x until end p q c low nonneg before up rise goes on first second s r e u =
    let past : t <ℚ c.end = subst (λ y. t <ℚ y) (sym e) (below_min_in until p.until t before goes.past) in
    let early : c.end ≤ℚ p.until = subst (λ y. y ≤ℚ p.until) (sym e) (min_q_le_right until p.until) in
    let over : x <ℚ c.until = subst (λ y. x <ℚ y) (sym u) on.past in
    let high : c.until ≤ℚ q.until = subst (λ y. y ≤ℚ q.until) (sym u) (le_refl q.until) in
    record {
      start = s;
      from = r;
      first = subst (λ y. RisesOn f c.first y c.end) (sym s) (part_rises f c.first t c.end end p low past early up goes first);
      second = subst (λ y. RisesOn g c.second y c.until) (sym r) (part_rises g c.second x c.until end q nonneg over high rise on second);
      early = subst (λ y. y ≤ℚ until) (sym e) (min_q_le_left until p.until);
      high = le_trans high on.high;
    }

-- ---- its sizes
pub time_to : (z : Sizes) (end t : ℚ) → IsTimeIn z end t → IsTimeTo z end t
time_to z end t h = record { whole = h.whole; nonneg = h.nonneg; high = le_of_lt h.before }

operand : (z : Sizes) (l : Line) (m : Option Line) → m ≡ Some l → OperandLineAt z m → OperandLine z l
operand z l m e h = subst (OperandLineAt z) e h

pub cell_sizes : (z : Sizes) (f g : SpecCurve) (t x until end : ℚ) (p q : Part) (c : Cell) → IsFiniteInSizes z end f → IsTimeIn z end t → IsTimeIn z end x → IsTimeTo z end until → t <ℚ until
    → GoesTo (value_at f) t end p → GoesTo (value_at g) x end q → PartStands z p → PartStands z q
    → p.line ≡ Some c.first → q.line ≡ Some c.second → c.start ≡ t → c.from ≡ x → c.end ≡ min_q until p.until → c.until ≡ q.until → CellSizes z end c
cell_sizes z f g t x until end p q c S T X U before goes on P Q first second s r e u =
    let low = T.nonneg in
    record {
      limited = S.limited;
      first = operand z c.first p.line first P.line;
      second = operand z c.second q.line second Q.line;
      start = subst (IsTimeTo z end) (sym s) (time_to z end t T);
      from = subst (IsTimeTo z end) (sym r) (time_to z end x X);
      end = subst (IsTimeTo z end) (sym e) record {
        whole = elim (min_q_one until p.until) [ inl i ↦ subst (Whole z.dt) (sym i) U.whole | inr i ↦ subst (Whole z.dt) (sym i) P.until ];
        nonneg = le_trans low (le_of_lt (below_min_in until p.until t before goes.past));
        high = le_trans (min_q_le_left until p.until) U.high;
      };
      until = subst (IsTimeTo z end) (sym u) record { whole = Q.until; nonneg = le_trans X.nonneg (le_of_lt on.past); high = on.high };
    }

pub cell_rises : (f g : ℚ → Ext) (t x until end : ℚ) (c : Cell) → IsCellOf f g t x until end c → RisingCell c
cell_rises f g t x until end c C = record { first = C.first.slope; second = C.second.slope; start = C.first.some; from = C.second.some }

-- ---- a stretch, with the values at its ends
pub rise_of : (f : ℚ → Ext) (t until end : ℚ) (p : Part) (r : Rise) → int (pos 0) ≤ℚ t → t <ℚ until → IsRising f → GoesTo f t end p → p.line ≡ Some r.line → r.until ≡ min_q until p.until
    → r.low ≡ line_at r.line t → r.high ≡ line_at r.line r.until → IsRiseFrom f t until r
rise_of f t until end p r low before up goes line e a b =
    let past : t <ℚ r.until = subst (λ y. t <ℚ y) (sym e) (below_min_in until p.until t before goes.past) in
    let early : r.until ≤ℚ p.until = subst (λ y. y ≤ℚ p.until) (sym e) (min_q_le_right until p.until) in
    record { rises = part_rises f r.line t r.until end p low past early up goes line; early = subst (λ y. y ≤ℚ until) (sym e) (min_q_le_left until p.until); low = a; high = b }

pub rise_sizes : (z : Sizes) (c : SpecCurve) (t until end last : ℚ) (p : Part) (l : Line) → IsTimeIn z end t → IsTimeTo z end until → t <ℚ until → GoesTo (value_at c) t end p → PartStands z p → p.line ≡ Some l
    → last ≡ min_q until p.until → OperandLine z l × IsTimeTo z end last
rise_sizes z c t until end last p l T U before goes P line e = (
  operand z l p.line line P.line,
  subst (IsTimeTo z end) (sym e) record {
    whole = elim (min_q_one until p.until) [ inl i ↦ subst (Whole z.dt) (sym i) U.whole | inr i ↦ subst (Whole z.dt) (sym i) P.until ];
    nonneg = le_trans T.nonneg (le_of_lt (below_min_in until p.until t before goes.past));
    high = le_trans (min_q_le_left until p.until) U.high;
  },
)
