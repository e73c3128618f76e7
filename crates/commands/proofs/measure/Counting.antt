-- The steps of an answer.
use Rattle.std.specs.Prelude.{◌≡◌, ◌≢◌, ℕ, zero, suc, ◌+◌, ◌≤◌, List}
use Rattle.std.proofs.Common.{arith, refl, subst}
use Rattle.commands.specs.FileCounts.{CountsOnFolds}
use Rattle.commands.specs.measure.MeasureCounts.{CountsOn, CountsOnTrace}

-- without a report
pub no_burst : (status old new : ℕ) → status ≢ 0 → old ≤ new → new ≤ old + 1 → CountsOnTrace status old new
no_burst zero old new other rises most = absurd (other refl)
no_burst (suc n) old new other rises most = record { exact = tt; least = rises; most = most }

-- at another status, that of a report only where the first one is
pub burst_at : (status other old new : ℕ) → (other ≡ 0 → status ≡ 0) → CountsOnTrace status old new → CountsOnTrace other old new
burst_at status zero old new same c = subst (λ k. CountsOnTrace k old new) (same refl) c
burst_at status (suc n) old new same c = record { exact = tt; least = c.least; most = c.most }

pub counts_without : (bytes : List ℕ) (status old new : ℕ) → CountsOnFolds bytes status old new → status ≢ 0
    → CountsOn bytes status old new
counts_without bytes status old new folds other = record {
  between = new;
  folds = folds;
  burst = no_burst status new new other (omega arith) (omega arith);
}
