-- How many operators a call counts, and where it ends for want of memory. Own choice.
use Rattle.std.specs.Prelude.{◌≡◌, ℕ, ◌+◌, ◌-◌, ◌≤◌, Result, Err, OnOk}

-- n operators are counted where there is an answer, and at most so many where it is refused
pub record Counts {A E : Type 0} (n old new : ℕ) (r : Result A E) : Type 0 where
  pub exact : OnOk r (new ≡ old + n)
  pub least : old ≤ new
  pub most : new ≤ old + n

-- The cost of a call with something that counts, as it was before and as it is after; count tells how many operators it
-- has counted, and counter in which counter. Works tells what the work of the call is, lacking is the refusal for want of
-- memory, and Ends tells where the call ended, by how many operators it had counted by then.
pub record Spends {A E S : Type 0} (count counter : S → ℕ) (Works : ℕ → Type 0) (lacking : E) (Ends : ℕ → Type 0) (old new : S)
    (r : Result A E) : Type 0 where
  -- what is counted is the work
  pub counts : (n : ℕ) → Works n → Counts n (count old) (count new) r
  -- what was counted before stays counted, whether or not anything tells the work
  pub rises : count old ≤ count new
  -- want of memory has its place, so no limit of a counted operator is told as that
  pub memory : r ≡ Err lacking → Ends (count new - count old)
  -- it is the same counter that counts
  pub same : counter new ≡ counter old

-- the same of a call that is given the counter itself: there is but that one
abbrev pub SpendsSteps : {A E : Type 0} → (ℕ → Type 0) → E → (ℕ → Type 0) → (old new : ℕ) → Result A E → Type 0
SpendsSteps Works lacking Ends old new r = Spends (λ (n : ℕ). n) (λ (n : ℕ). 0) Works lacking Ends old new r
