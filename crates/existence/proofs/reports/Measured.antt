-- Packets that are over no limit have a least arrival curve.
use Rattle.std.proofs.Common.{ℕ, zero, suc, ◌≤◌, ◌<◌, ◌^◌, List, [], ◌∷◌, length, map, get_or, All, AllPairs, refl, arith, inl, inr}
use Rattle.std.specs.Prelude.{nat_eq}
use Rattle.std.specs.List.Sorted.{IsPermutation, IsNonDecreasingBy}
use Rattle.std.proofs.lemmas.Bool.{cases_lt}
use Rattle.std.proofs.lemmas.List.Elements.{All-filter}
use Rattle.std.proofs.lemmas.List.Kept.{AllPairs-filter}
use Rattle.std.proofs.lemmas.List.Sorted.{IsPermutation-refl, IsPermutation-cons, IsPermutation-middle, IsPermutation-trans}
use Rattle.rational.specs.Rational.{◌≤ℚ◌}
use Rattle.net_model.specs.declared.trace.TracePacket.{TracePacket}
use Rattle.net_model.specs.Traces.{SpecTrace, IsTracePacket}
use Rattle.measure_curve.specs.Grids.{IsNarrow, width_of}
use Rattle.measure_curve.specs.Limits.{grid_of}
use Rattle.packet_windows.specs.Scans.{windows, steps_after, no_window}
use Rattle.packet_windows.proofs.Loops.{lengthen}
use Rattle.measure_curve.specs.Scans.{entry_of}
use Rattle.measure_curve.specs.Staircases.{staircase}
use Rattle.measure_curve.specs.Windows.{of_flow}
use Rattle.measure_curve.proofs.Measured.{AreSorted, measured, steps_fit}
use Rattle.measure_curve.proofs.Rising.{tell_rises}
use Rattle.measure_curve.proofs.Stairs.{stairs_curve}
use Rattle.measure_curve.proofs.StepLevels.{are_steps}
use Rattle.measure_curve.proofs.Widths.{stand}
use Rattle.upp_curve.specs.Curve.{SpecCurve}
use Rattle.commands.specs.measure.OnMeasures.{IsMeasured}

-- ---- in the order of a number
-- numbers from one on do not fall
abbrev IsUp : {A : Type 0} → (A → ℕ) → ℕ → List A → Type 0
IsUp key from [] = Unit {0}
IsUp key from (x ∷ xs) = (from ≤ key x) × IsUp key (key x) xs

record IsOrdered {A : Type 0} (key : A → ℕ) (from : ℕ) (xs : List A) : Type 0 where
  all : List A
  moved : IsPermutation xs all
  ordered : IsUp key from all

-- one more among those that are in order
placed : {A : Type 0} (key : A → ℕ) (from : ℕ) (x : A) (ys : List A) → from ≤ key x → IsUp key from ys → IsOrdered key from (x ∷ ys)
placed key from x [] low h = record { all = x ∷ []; moved = IsPermutation-refl (x ∷ []); ordered = (low, tt) }
placed key from x (y ∷ ys) low h = elim (cases_lt (key x) (key y)) [
  | inl less ↦ record {
    all = x ∷ y ∷ ys;
    moved = IsPermutation-refl (x ∷ y ∷ ys);
    ordered = (low, ((let l : key x ≤ key y = omega arith in l), h.1));
  }
  | inr more ↦
      let rest = placed key (key y) x ys more h.1 in
      record {
        all = y ∷ rest.all;
        moved = IsPermutation-trans (x ∷ y ∷ ys) (y ∷ x ∷ ys) (y ∷ rest.all) (IsPermutation-middle (x ∷ []) y ys)
            (IsPermutation-cons y (x ∷ ys) rest.all rest.moved);
        ordered = (h.0, rest.ordered);
      }
]

in_order : {A : Type 0} (xs : List A) (key : A → ℕ) → IsOrdered key 0 xs
in_order [] key = record { all = []; moved = IsPermutation-refl []; ordered = tt }
in_order (x ∷ xs) key =
    let rest = in_order xs key in
    let more = placed key 0 x rest.all (let l : 0 ≤ key x = omega arith in l) rest.ordered in
    record {
      all = more.all;
      moved = IsPermutation-trans (x ∷ xs) (x ∷ rest.all) more.all (IsPermutation-cons x xs rest.all rest.moved) more.moved;
      ordered = more.ordered;
    }

from_on : {A : Type 0} (key : A → ℕ) (from : ℕ) (xs : List A) (j : ℕ) (d : A) → IsUp key from xs → j < length xs → from ≤ key (get_or xs j d)
from_on key from [] j d h l = absurd (omega arith)
from_on key from (x ∷ xs) zero d h l = h.0
from_on key from (x ∷ xs) (suc j) d h l =
    let low = h.0 in
    let more = from_on key (key x) xs j d h.1 (omega arith) in
    omega arith

non_decreasing : {A : Type 0} (key : A → ℕ) (from : ℕ) (xs : List A) → IsUp key from xs → IsNonDecreasingBy key xs
non_decreasing key from [] h i j d le l = absurd (omega arith)
non_decreasing key from (x ∷ xs) h zero zero d le l = omega arith
non_decreasing key from (x ∷ xs) h zero (suc j) d le l = from_on key (key x) xs j d h.1 (omega arith)
non_decreasing key from (x ∷ xs) h (suc i) zero d le l = absurd (omega arith)
non_decreasing key from (x ∷ xs) h (suc i) (suc j) d le l = non_decreasing key (key x) xs h.1 i j d (omega arith) (omega arith)

-- ---- their curve
apart : (a b : ℕ) → a < b → b ≤ a → ⊥
apart a b l m = omega arith

pub measured_curve : (flow : ℕ) (trace : SpecTrace) → All IsTracePacket trace.packets
    → AllPairs (λ p q. p.time ≤ℚ q.time) trace.packets → length (of_flow flow trace.packets) ≤ 1024
    → width_of (of_flow flow trace.packets) < 2 ^ 120 → (c : SpecCurve) × IsMeasured (of_flow flow trace.packets) c
measured_curve flow trace packets order few narrow =
    let own = of_flow flow trace.packets in
    let grid = grid_of own in
    let ws = in_order (windows (map (entry_of grid) own)) (λ w. w.length) in
    let steps = steps_after no_window ws.all in
    let n : IsNarrow grid own = record {
      few = few;
      packets = All-filter (λ (p : TracePacket). nat_eq p.flow flow) IsTracePacket trace.packets packets;
      in_order = AllPairs-filter (λ (p q : TracePacket). p.time ≤ℚ q.time) (λ (p : TracePacket). nat_eq p.flow flow) trace.packets order;
      grid_is = refl;
      narrow = narrow;
    } in
    let sorted : AreSorted grid own ws.all = record {
      moved = ws.moved;
      ordered = lengthen ws.all 0 (non_decreasing (λ w. w.length) 0 ws.all ws.ordered) (λ w vs e. omega arith);
    } in (
      staircase grid steps,
      record {
        few = λ many. apart 1024 (length own) many few;
        narrow = λ wide. apart (width_of own) (2 ^ 120) narrow wide.wide;
        curve = stairs_curve grid steps (steps_fit grid own ws.all n sorted);
        least = measured grid own ws.all n sorted;
        rises = tell_rises grid steps (are_steps ws.all sorted.ordered) (stand grid own n).some;
      },
    )
