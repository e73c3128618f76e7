-- A gate: what its gauge says of its numbers, and that it has few pieces.
use Rattle.std.specs.Prelude.{◌≡◌, ◌<◌, ◌≤◌, ◌^◌, [], ◌∷◌}
use Rattle.std.proofs.Common.{arith, sym, refl, subst, inl, inr}
use Rattle.rational.specs.Rational.{ℚ, ◌+ℚ◌, ◌-ℚ◌, ◌*ℚ◌, ◌≤ℚ◌, ◌<ℚ◌, neg_ℚ}
use Rattle.rational.specs.Ratio.{IsSmall, SumFits}
use Rattle.rational.specs.Grid.{Whole}
use Rattle.rational.proofs.Grid.{whole_sub}
use Rattle.rational.proofs.Linear.{with2}
use Rattle.rational.proofs.Laws.{antisym, le_of_lt, le_or_lt, lt_irrefl, lt_le_trans}
use Rattle.rational.proofs.MinMax.{le_q_not}
use Rattle.rational.proofs.Over.{le_q_out}
use Rattle.min_plus.specs.Functions.{zero_q}
use Rattle.upp_curve.specs.Kinds.{flat, piece, bucket, gated, gate}
use Rattle.upp_limits.specs.Spans.{spans}
use Rattle.upp_limits.specs.Limits.{own_gauge, own_sizes, own_tally, own_end}
use Rattle.upp_limits.specs.Sized.{IsSlope, IsValue}
use Rattle.upp_limits.proofs.CurveStands.{starts_below_own_end}
use Rattle.upp_curve.proofs.KindForms.{gated_normal}
use Rattle.curve_library.specs.Causes.{NoSlot}
use Rattle.curve_library.proofs.LateParts.{line_few}
use Rattle.curve_library.proofs.OwnParts.{Held, held, too_wide, run_small, value_small, gap_fits}
use Rattle.upp_limits.proofs.FewCopies.{end_is, periodic_few}

-- ---- which curve it is
pub no_rate : (R c s : ℚ) → R ≤ℚ zero_q → bucket zero_q R ≡ gate R c s
no_rate R c s h = rw (le_q_out R zero_q h) refl

pub never_closed : (R c s : ℚ) → zero_q <ℚ R → c ≤ℚ s → bucket zero_q R ≡ gate R c s
never_closed R c s h k = rw (le_q_not R zero_q h, le_q_out c s k) refl

pub is_gated : (R c s : ℚ) → zero_q <ℚ R → s <ℚ c → gated R c s ≡ gate R c s
is_gated R c s h k = rw (le_q_not R zero_q h, le_q_not c s k) refl

-- ---- its numbers
record GateStands (R c s : ℚ) : Type 0 where
  cycle : Whole (own_sizes (gated R c s)).dt c
  closed : Whole (own_sizes (gated R c s)).dt (c -ℚ s)
  slope : IsSlope (own_sizes (gated R c s)) R
  rise : IsValue (own_sizes (gated R c s)) (R *ℚ s)

gate_stands : (R c s : ℚ) → Held (gated R c s) → GateStands R c s
unfolding spans
gate_stands R c s H = record { cycle = H.stands.tail.whole; closed = H.stands.spans.1.0.start; slope = H.stands.spans.1.0.slope; rise = H.stands.tail.value }

-- all of them fit where the gauge is below its limit
pub record GateFits (R c s : ℚ) : Type 0 where
  pub closed : SumFits c (neg_ℚ s)
  pub missed : IsSmall (R *ℚ (c -ℚ s))
  pub rise : IsSmall (R *ℚ s)

gate_fits : (R c s : ℚ) → zero_q <ℚ R → zero_q <ℚ s → s <ℚ c → own_gauge (gated R c s) < 2 ^ 120 → GateFits R c s
gate_fits R c s rate slot closes small =
    let k = gated R c s in
    let raw = (gated_normal R c s rate slot closes).raw in
    let H = held k raw small in
    let S = gate_stands R c s H in
    let end : own_end k ≡ zero_q +ℚ c = end_is k.pieces zero_q c (R *ℚ s) in
    let at_end : c ≤ℚ own_end k = subst (λ x. c ≤ℚ x) (sym end) (with2 c s (λ z. omega (arith, z.le, z.lt, z.same))) in
    let early : s ≤ℚ own_end k = subst (λ x. s ≤ℚ x) (sym end) (with2 c s (λ z. omega (arith, z.le, z.lt, z.same))) in
    let some : zero_q ≤ℚ c = with2 c s (λ z. omega (arith, z.le, z.lt, z.same)) in
    let up : zero_q ≤ℚ c -ℚ s = with2 c s (λ z. omega (arith, z.le, z.lt, z.same)) in
    let back : c -ℚ (c -ℚ s) ≡ s = with2 c s (λ z. omega (arith, z.le, z.lt, z.same)) in
    let whole : Whole (own_sizes k).dt s = subst (λ x. Whole (own_sizes k).dt x) back (whole_sub (own_sizes k).dt c (c -ℚ s) S.cycle S.closed) in
    record {
      closed = gap_fits k c s H S.cycle whole some (le_of_lt slot) at_end early;
      missed = run_small k R (c -ℚ s) H S.slope S.closed up (le_of_lt (starts_below_own_end k raw).1.0);
      rise = value_small k (R *ℚ s) H S.rise;
    }

pub gate_wide : (R c s : ℚ) → zero_q <ℚ R → zero_q <ℚ s → s <ℚ c → (GateFits R c s → ⊥) → 2 ^ 120 ≤ own_gauge (gated R c s)
gate_wide R c s rate slot closes not_fit = too_wide (gated R c s) (GateFits R c s) (gate_fits R c s rate slot closes) not_fit

-- ---- few pieces
pub gate_few : (R c s : ℚ) → zero_q ≤ℚ R → zero_q <ℚ s → s ≤ℚ c → own_tally (gate R c s) ≤ 2 ^ 20
gate_few R c s rate slot fits = elim (le_or_lt R zero_q) [
  | inl h ↦ subst (λ k. own_tally k ≤ 2 ^ 20) (no_rate R c s h) (line_few zero_q R)
  | inr l ↦ elim (le_or_lt c s) [
    | inl h ↦ subst (λ k. own_tally k ≤ 2 ^ 20) (never_closed R c s l h) (line_few zero_q R)
    | inr h ↦
        let some : zero_q <ℚ c = with2 c s (λ z. omega (arith, z.le, z.lt, z.same)) in
        let k = periodic_few (flat zero_q zero_q ∷ piece (c -ℚ s) zero_q (neg_ℚ (R *ℚ (c -ℚ s))) R ∷ []) zero_q c (R *ℚ s) some (gated_normal R c s l slot h).raw.starts in
        subst (λ k. own_tally k ≤ 2 ^ 20) (is_gated R c s l h) (omega (arith, k))
  ]
]

-- ---- a slot that fits
pub slot_fits : (c s : ℚ) → zero_q <ℚ c → zero_q <ℚ s → s ≤ℚ c → NoSlot c s → ⊥
slot_fits c s h k l (inl m) = lt_irrefl zero_q (lt_le_trans h m)
slot_fits c s h k l (inr (inl m)) = lt_irrefl zero_q (subst (λ x. zero_q <ℚ x) m k)
slot_fits c s h k l (inr (inr m)) = lt_irrefl c (lt_le_trans m l)

pub record Slots (c s : ℚ) : Type 0 where
  pub some : zero_q <ℚ s
  pub fits : s ≤ℚ c

pub slots_of : (c s : ℚ) → (zero_q ≤ℚ s) → (NoSlot c s → ⊥) → Slots c s
slots_of c s nonneg never = record {
  some = elim (le_or_lt s zero_q) [ inl h ↦ absurd (never (inr (inl (antisym (h, nonneg))))) | inr h ↦ h ];
  fits = elim (le_or_lt s c) [ inl h ↦ h | inr h ↦ absurd (never (inr (inr h))) ];
}
