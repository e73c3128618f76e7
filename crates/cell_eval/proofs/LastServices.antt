-- What serves a queue above those before it, once it is shared.
use Rattle.std.proofs.Common.{◌≡◌, ℕ, ◌+◌, ◌-◌, subst, arith}
use Rattle.std.specs.Prelude.{Result, Ok, IfErr}
use Rattle.upp_limits.specs.declared.op_kind.OpFault.{OpFault}
use Rattle.upp_curve.specs.Curve.{SpecCurve}
use Rattle.outcomes.specs.Spending.{Counts}
use Rattle.residuals.specs.calls.PriorityCalls.{MakesPriority}
use Rattle.residuals.specs.calls.InTurn.{PriorityRefused}
use Rattle.net_cells.specs.Meanings.{curve}
use Rattle.net_cells.specs.Answers.{Answer, MakesCurve}
use Rattle.net_cells.specs.declared.cell_table.value.Value.{Value}
use Rattle.net_cells.specs.cell_table.Values.{answer_of, meaning_of}
use Rattle.cell_eval.specs.Sharing.{IsShared}
use Rattle.cell_eval.specs.Recent.{IsMadeOf, ServesAbove}
use Rattle.cell_eval.proofs.Handing.{priority_out, shared_makes}
use Rattle.cell_eval.proofs.OperatorStopping.{priority_full, shared_refused, ok_map}
use Rattle.cell_eval.proofs.SharedCounts.{shared_counts}

-- of the same what was made is the same
pub made_of_same : (β f higher g : SpecCurve) (m n : ℕ) (c : SpecCurve) → β ≡ f → higher ≡ g → m ≡ n → IsMadeOf β higher m c → IsMadeOf f g n c
made_of_same β f higher g m n c same before after made =
    subst (λ h. IsMadeOf h g n c) same (subst (λ h. IsMadeOf β h n c) before (subst (λ k. IsMadeOf β higher k c) after made))

-- by an answer that is this curve
pub made_by : (β higher : SpecCurve) (lower : ℕ) (r : Answer) (f : SpecCurve) → r ≡ Ok (curve f) → MakesCurve (MakesPriority β higher lower) r
    → IsMadeOf β higher lower f
made_by β higher lower r f e made = subst (MakesCurve (MakesPriority β higher lower)) e made

module _ (β higher : SpecCurve) (lower : ℕ) (r : Result Value OpFault) (old new : ℕ) where
  -- made now
  pub serves_above : (made : Result SpecCurve OpFault) → MakesPriority β higher lower made
      → IfErr made (λ fault. PriorityRefused β higher lower fault (new - old)) → Counts 3 old new made
      → IsShared made (answer_of meaning_of r) → ServesAbove β higher lower old new r
  serves_above made is refused counts shared = record {
    answer = shared_makes (MakesPriority β higher lower) made (answer_of meaning_of r) (priority_out β higher lower) is shared;
    refused = shared_refused meaning_of (MakesPriority β higher lower) (PriorityRefused β higher lower) made r (new - old) 3
        (priority_full β higher lower) is refused
        (ok_map made (new ≡ old + 3) (new - old ≡ 3) (λ e. omega (arith, e)) counts.exact) shared;
    counts = shared_counts 3 old new made (answer_of meaning_of r) counts shared;
  }

  -- made before
  pub still_serves : (c : SpecCurve) → IsMadeOf β higher lower c → new ≡ old + 3 → IsShared (Ok c) (answer_of meaning_of r)
      → ServesAbove β higher lower old new r
  still_serves c is e shared =
      serves_above (Ok c) is tt (record { exact = e; least = omega (arith, e); most = omega (arith, e) }) shared
