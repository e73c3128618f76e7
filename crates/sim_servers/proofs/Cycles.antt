-- Cycles of a gate.
use Rattle.std.specs.Prelude.{Some, None, ◌≡◌, ℕ, suc, pos}
use Rattle.std.proofs.Common.{arith, refl, sym, ap, ◌∙◌, subst, inl, inr}
use Rattle.rational.specs.Rational.{ℚ, int, ◌+ℚ◌, ◌*ℚ◌, ◌/ℚ◌, ◌≤ℚ◌, ◌<ℚ◌}
use Rattle.rational.specs.Ratio.{IsSmall, SumFits}
use Rattle.rational.specs.Whole.{whole_part}
use Rattle.rational.proofs.Whole.{whole_le, whole_gt}
use Rattle.rational.proofs.Linear.{with3, with4}
use Rattle.rational.proofs.Laws.{le_refl, le_trans, le_of_lt, lt_le_trans, lt_irrefl}
use Rattle.rational.proofs.Quotients.{le_div, div_lt, div_nonneg}
use Rattle.rational.proofs.Grid.{whole_times}
use Rattle.run_laws.specs.Cards.{whole}
use Rattle.net_model.specs.stated_runs.Setups.{GateTimes, IsGate, IsGateOpen, IsFirstGateOpen, StaysTo}
use Rattle.net_model.specs.stated_runs.TimeGrids.{HasRoom, IsTime}
use Rattle.net_model.proofs.stated_runs.Opens.{next_whole, closed_after, cycle_of}
use Rattle.sim_servers.specs.Openings.{BeginsAt, GateRoom}
use Rattle.sim_servers.proofs.GridSteps.{sum_fits, time_fits}

pub long : (g : GateTimes) → IsGate g → int (pos 0) <ℚ g.cycle
long g ok = lt_le_trans ok.some_slot ok.within

pub begins_at : (g : GateTimes) → IsGate g → (t : ℚ) → int (pos 0) ≤ℚ t → BeginsAt g t (whole (whole_part (t /ℚ g.cycle)) *ℚ g.cycle)
begins_at g ok t h =
    let q = t /ℚ g.cycle in
    let n = whole_part q in
    let some = long g ok in
    record {
      count = n;
      is = refl;
      begun = (le_div t g.cycle (whole n) some).0 (whole_le q (div_nonneg t g.cycle some h));
      goes_on = subst (λ y. t <ℚ y) (next_whole n g.cycle) ((div_lt t g.cycle (whole (suc n)) some).0 (whole_gt q));
    }

-- its begin is a time of the grid
pub begin_is_time : (g : GateTimes) (D : ℕ) (E t b : ℚ) → IsGate g → BeginsAt g t b → IsTime D E g.cycle → IsTime D E t → IsTime D E b
begin_is_time g D E t b ok h c i = record {
  on_grid = subst (λ y. Rattle.rational.specs.Grid.Whole D y) (sym h.is) (whole_times D (pos h.count) g.cycle c.on_grid);
  from_zero = subst (λ y. int (pos 0) ≤ℚ y) (sym h.is) (Rattle.rational.proofs.Laws.mul_nonneg (Rattle.rational.proofs.Integers.nat_nonneg h.count) (le_of_lt (long g ok)));
  by = le_trans h.begun i.by;
}

-- and its close fits
pub close_fits : (g : GateTimes) (from b : ℚ) → IsGate g → GateRoom (Some g) from → BeginsAt g from b → SumFits b g.slot
close_fits g from b ok r is =
    sum_fits r.grid r.most b g.slot r.room (begin_is_time g r.grid r.most from b ok is r.gate_is.0 r.time) r.gate_is.1

-- ---- when it is open
pub opens_now : (g : GateTimes) (t b : ℚ) → BeginsAt g t b → t <ℚ b +ℚ g.slot → IsFirstGateOpen (Some g) t t
opens_now g t b h l = record {
  not_before = le_refl t;
  open_then = (h.count, subst (λ y. y ≤ℚ t) h.is h.begun, subst (λ y. t <ℚ y +ℚ g.slot) h.is l);
  closed_before = λ x a c. absurd (lt_irrefl x (lt_le_trans c a));
}

pub opens_next : (g : GateTimes) → IsGate g → (t b : ℚ) → BeginsAt g t b → b +ℚ g.slot ≤ℚ t → IsFirstGateOpen (Some g) t (b +ℚ g.cycle)
opens_next g ok t b h l =
    let n = h.count in
    let next : b +ℚ g.cycle ≡ whole (suc n) *ℚ g.cycle = ap (λ y. y +ℚ g.cycle) h.is ∙ sym (next_whole n g.cycle) in
    let s = ok.some_slot in
    record {
      not_before = le_of_lt h.goes_on;
      open_then = (
        suc n,
        subst (λ y. y ≤ℚ b +ℚ g.cycle) next (le_refl (b +ℚ g.cycle)),
        subst (λ y. b +ℚ g.cycle <ℚ y +ℚ g.slot) next (with3 b g.cycle g.slot (λ c. omega (arith, c.le, c.lt, c.same))),
      );
      closed_before = λ x a c. closed_after g ok n x (le_trans (subst (λ y. y +ℚ g.slot ≤ℚ t) h.is l) a) (subst (λ y. x <ℚ y) next c);
    }

-- ---- how long it stays so
pub stays_always : (g : GateTimes) → IsGate g → (a h : ℚ) → g.cycle ≤ℚ g.slot → int (pos 0) ≤ℚ a → a <ℚ h → StaysTo (IsGateOpen (Some g)) a h h
stays_always g ok a h full z l = record {
  forward = l;
  within = le_refl h;
  holds = λ x b c.
      let k = cycle_of g.cycle x (long g ok) (le_trans z b) in
      let next = subst (λ y. x <ℚ y) (next_whole k.0 g.cycle) k.1.goes_on in
      (k.0, k.1.begun, with4 x (whole k.0 *ℚ g.cycle) g.cycle g.slot (λ c. omega (arith, c.le, c.lt, c.same)));
  ends = inl refl;
}

-- an open time lies in the slot of its own cycle
in_slot : (g : GateTimes) → IsGate g → (a b : ℚ) → BeginsAt g a b → IsGateOpen (Some g) a → a <ℚ b +ℚ g.slot
in_slot g ok a b h o = elim (Rattle.rational.proofs.Laws.le_or_lt (b +ℚ g.slot) a) [
  | inl past ↦ absurd (closed_after g ok h.count a (subst (λ y. y +ℚ g.slot ≤ℚ a) h.is past)
      (subst (λ y. a <ℚ y) (ap (λ y. y +ℚ g.cycle) h.is ∙ sym (next_whole h.count g.cycle)) h.goes_on) o)
  | inr l ↦ l
]

holds_in_slot : (g : GateTimes) (a b e : ℚ) → BeginsAt g a b → e ≤ℚ b +ℚ g.slot → (x : ℚ) → a ≤ℚ x → x <ℚ e → IsGateOpen (Some g) x
holds_in_slot g a b e h l x c d = (
  h.count,
  le_trans (subst (λ y. y ≤ℚ a) h.is h.begun) c,
  subst (λ y. x <ℚ y +ℚ g.slot) h.is (lt_le_trans d l),
)

pub stays_to_close : (g : GateTimes) → IsGate g → (a b h : ℚ) → g.slot <ℚ g.cycle → BeginsAt g a b → IsGateOpen (Some g) a → b +ℚ g.slot <ℚ h
    → StaysTo (IsGateOpen (Some g)) a h (b +ℚ g.slot)
stays_to_close g ok a b h shorter k o l =
    let close = b +ℚ g.slot in
    let next : b +ℚ g.cycle ≡ whole (suc k.count) *ℚ g.cycle = ap (λ y. y +ℚ g.cycle) k.is ∙ sym (next_whole k.count g.cycle) in
    record {
      forward = in_slot g ok a b k o;
      within = le_of_lt l;
      holds = holds_in_slot g a b close k (le_refl close);
      ends = inr (closed_after g ok k.count close (subst (λ y. y +ℚ g.slot ≤ℚ close) k.is (le_refl close))
          (subst (λ y. close <ℚ y) next (with3 b g.slot g.cycle (λ c. omega (arith, c.le, c.lt, c.same)))));
    }

pub stays_to_end : (g : GateTimes) (a b h : ℚ) → BeginsAt g a b → a <ℚ h → h ≤ℚ b +ℚ g.slot → StaysTo (IsGateOpen (Some g)) a h h
stays_to_end g a b h k l near = record { forward = l; within = le_refl h; holds = holds_in_slot g a b h k near; ends = inl refl }

-- ---- the begin of a cycle fits
pub begin_fits : (g : GateTimes) (D : ℕ) (E t : ℚ) → IsGate g → HasRoom D E → IsTime D E g.cycle → IsTime D E t
    → IsSmall (whole (whole_part (t /ℚ g.cycle)) *ℚ g.cycle)
begin_fits g D E t ok r c i =
    let b = whole (whole_part (t /ℚ g.cycle)) *ℚ g.cycle in
    time_fits D E b r (begin_is_time g D E t b ok (begins_at g ok t i.from_zero) c i)

-- ---- without a gate
pub opens_without : (t : ℚ) → IsFirstGateOpen None t t
opens_without t = record { not_before = le_refl t; open_then = tt; closed_before = λ x a b. absurd (lt_irrefl x (lt_le_trans b a)) }

pub stays_without : (a h : ℚ) → a <ℚ h → StaysTo (IsGateOpen None) a h h
stays_without a h l = record { forward = l; within = le_refl h; holds = λ x b c. tt; ends = inl refl }
