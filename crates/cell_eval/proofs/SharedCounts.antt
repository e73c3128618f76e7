-- What is counted stays where a curve is shared, and where a value is read as what it means.
use Rattle.std.proofs.Common.{◌≡◌, ℕ, ◌-◌, subst}
use Rattle.std.specs.Prelude.{Result, Ok, Err}
use Rattle.upp_limits.specs.declared.op_kind.OpFault.{OpFault}
use Rattle.upp_limits.specs.declared.op_kind.OpFault.TheVariants.{NoMemory}
use Rattle.upp_curve.specs.Curve.{SpecCurve}
use Rattle.outcomes.specs.Stages.{IsEqual}
use Rattle.outcomes.specs.Spending.{Counts, Spends}
use Rattle.net_cells.specs.Answers.{Answer}
use Rattle.net_cells.specs.Meanings.{Meaning}
use Rattle.net_cells.specs.cell_table.Values.{answer_of}
use Rattle.cell_eval.specs.Sharing.{IsShared}

pub shared_counts : (n old new : ℕ) (made : Result SpecCurve OpFault) (r : Answer) → Counts n old new made → IsShared made r
    → Counts n old new r
shared_counts n old new (Ok f) (Ok v) c s = record { exact = c.exact; least = c.least; most = c.most }
shared_counts n old new (Ok f) (Err fault) c s = record { exact = tt; least = c.least; most = c.most }
shared_counts n old new (Err e) (Ok v) c s = absurd s
shared_counts n old new (Err e) (Err fault) c s = record { exact = tt; least = c.least; most = c.most }

value_counts : {V : Type 0} (meaning : V → Meaning) (r : Result V OpFault) (n old new : ℕ) → Counts n old new (answer_of meaning r)
    → Counts n old new r
value_counts meaning (Ok v) n old new c = record { exact = c.exact; least = c.least; most = c.most }
value_counts meaning (Err fault) n old new c = record { exact = tt; least = c.least; most = c.most }

-- by what counts, of which that value was made
pub value_spends : {V S : Type 0} (meaning : V → Meaning) (r : Result V OpFault) (n : ℕ) (count counter : S → ℕ) (old new : S) (Ends : ℕ → Type 0)
    → Counts n (count old) (count new) (answer_of meaning r) → (r ≡ Err NoMemory → Ends (count new - count old)) → counter new ≡ counter old
    → Spends count counter (IsEqual n) NoMemory Ends old new r
value_spends {V} meaning r n count counter old new Ends c memory same =
    let counts = value_counts meaning r n (count old) (count new) c in
    record {
      counts = λ m is. subst (λ (k : ℕ). Counts {A = V} {E = OpFault} k (count old) (count new) r) is counts;
      rises = counts.least;
      memory = memory;
      same = same;
    }
