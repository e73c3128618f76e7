-- A flow's arrival curve can be read at the time between two of its packets.
use Rattle.std.specs.Prelude.{◌≡◌, ℕ, zero, suc, ◌<◌, ◌≤◌, ◌==◌, List, [], ◌∷◌, length}
use Rattle.std.specs.List.{AllByRecursion}
use Rattle.std.proofs.Common.{arith, sym, subst, inl, inr}
use Rattle.std.proofs.lemmas.Bool.{cases_Bool}
use Rattle.rational.specs.Rational.{ℚ, ◌-ℚ◌}
use Rattle.upp_curve.specs.Curve.{SpecCurve}
use Rattle.upp_curve.specs.Curves.{IsCurve}
use Rattle.upp_limits.specs.Limits.{Sizes, curve_numbers}
use Rattle.upp_limits.specs.Sized.{Stands}
use Rattle.upp_limits.proofs.Operands.{curve_period}
use Rattle.upp_normal.specs.Operand.{AreLimited}
use Rattle.upp_normal.specs.Unrolling.{IsOperandTo}
use Rattle.upp_normal.proofs.GaugeRises.{curve_earlier}
use Rattle.run_laws.specs.declared.steps.Step.{Step}
use Rattle.run_laws.specs.declared.steps.Step.TheVariants.{Enter, Reach, Work, Leave, Visit}
use Rattle.flow_watch.specs.declared.watch_laws.entering.Entering.{Entering}
use Rattle.flow_watch.specs.watch_laws.Entries.{entries, entering}
use Rattle.flow_watch.specs.watch_laws.MarkSizes.{IsTime}
use Rattle.flow_watch.proofs.watch_laws.Crowds.{times_rise}
use Rattle.flow_watch.specs.Flows.{FlowReads}
use Rattle.run_watch.specs.FirstOf.{EnterInOrder}
use Rattle.run_watch.proofs.HeldSizes.{length_time, times_differ}
use Rattle.curve_call.proofs.OwnPeriods.{limited_less}
use Rattle.run_watch.specs.first_breaches.Sizes.{StepStands}

-- ---- the times of a flow's packets
abbrev AreTimes : Sizes → ℚ → List Entering → Type 0
AreTimes z end es = AllByRecursion (λ (e : Entering). IsTime z end e.time) es

entries_stand : (z : Sizes) (end : ℚ) (flow : ℕ) (xs : List Step) → AllByRecursion (StepStands z end) xs → AreTimes z end (entries flow xs)
entries_stand z end flow [] h = tt
entries_stand z end flow (Enter f p t b ∷ xs) h =
    let rest = entries_stand z end flow xs h.1 in
    elim (cases_Bool (f == flow)) [ inl e ↦ rw e (h.0, rest) | inr e ↦ rw e rest ]
entries_stand z end flow (Reach s p t ∷ xs) h = entries_stand z end flow xs h.1
entries_stand z end flow (Work s p a b w ∷ xs) h = entries_stand z end flow xs h.1
entries_stand z end flow (Leave s p t ∷ xs) h = entries_stand z end flow xs h.1
entries_stand z end flow (Visit s q t ∷ xs) h = entries_stand z end flow xs h.1

entry_at : (z : Sizes) (end : ℚ) (es : List Entering) (k : ℕ) → AreTimes z end es → k < length es → IsTime z end (entering es k).time
entry_at z end [] k h l = absurd (omega arith)
entry_at z end (e ∷ es) zero h l = h.0
entry_at z end (e ∷ es) (suc k) h l = entry_at z end es k h.1 (omega arith)

-- ---- a flow
record IsOfFlow (z : Sizes) (end : ℚ) (es : List Entering) : Type 0 where
  limited : AreLimited z end
  times : AreTimes z end es
  order : EnterInOrder es

of_flow : (z : Sizes) (end : ℚ) (flow : ℕ) (xs : List Step) (es : List Entering) → AreLimited z end → AllByRecursion (StepStands z end) xs → EnterInOrder (entries flow xs) → es ≡ entries flow xs → IsOfFlow z end es
of_flow z end flow xs es A h order e = record {
  limited = A;
  times = subst (AreTimes z end) (sym e) (entries_stand z end flow xs h);
  order = subst EnterInOrder (sym e) order;
}

-- the time between two packets
gap_at : (z : Sizes) (end : ℚ) (es : List Entering) (i j : ℕ) → IsOfFlow z end es → i ≤ j → j < length es → IsTime z end ((entering es j).time -ℚ (entering es i).time)
gap_at z end es i j F l m =
    let (from, rise) = F.order in
    length_time z end (entering es i).time (entering es j).time (entry_at z end es i F.times (omega arith)) (entry_at z end es j F.times m) (times_rise from es i j rise l m)

-- the curve's numbers up to a time of the run
operand_at : (z : Sizes) (end t : ℚ) (c : SpecCurve) → AreLimited z end → IsCurve c → Stands z (curve_numbers end c) → IsTime z end t → IsOperandTo t c
operand_at z end t c A C S T = record {
  sizes = z;
  limited = limited_less z end t A T.whole T.low T.high;
  stands = curve_earlier z t end c (curve_period c C) T.high S;
}

-- ---- what is asked
pub flow_reads : (z : Sizes) (end : ℚ) (flow : ℕ) (c : SpecCurve) (xs : List Step) (es : List Entering) → AreLimited z end → IsCurve c → Stands z (curve_numbers end c)
    → AllByRecursion (StepStands z end) xs → EnterInOrder (entries flow xs) → es ≡ entries flow xs → FlowReads c es
flow_reads z end flow c xs es A C S h order e i j l m =
    let F = of_flow z end flow xs es A h order e in
    let (from, rise) = F.order in
    let first = entry_at z end es i F.times (omega arith) in
    let last = entry_at z end es j F.times m in
    record {
      forward = times_rise from es i j rise l m;
      fits = times_differ z end (entering es j).time (entering es i).time A last first;
      operand = operand_at z end ((entering es j).time -ℚ (entering es i).time) c A C S (gap_at z end es i j F l m);
    }
