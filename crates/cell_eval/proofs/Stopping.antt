-- Where making the value of a cell ends for want of memory.
use Rattle.std.proofs.Common.{◌≡◌, ℕ, ◌+◌, ◌-◌, refl, subst, arith, inl, inr}
use Rattle.std.specs.Prelude.{Result, Ok, Err, IfErr}
use Rattle.upp_limits.specs.declared.op_kind.OpFault.{OpFault}
use Rattle.upp_limits.specs.declared.op_kind.OpFault.TheVariants.{NoMemory}
use Rattle.net_cells.specs.Meanings.{Meaning, CellTable}
use Rattle.net_cells.specs.Formulas.{Formula}
use Rattle.net_cells.specs.Answers.{Answer}
use Rattle.net_cells.specs.Refusals.{RefusedAt, Stops}
use Rattle.net_cells.specs.cell_table.Values.{answer_of}

-- ---- no operator, and one
pub none_stops : (at : CellTable) (F : Formula) (n : ℕ) → Stops at F NoMemory (n - n)
none_stops at F n = inl (omega arith, refl)

pub one_stops : (at : CellTable) (F : Formula) (old new : ℕ) → new ≡ old + 1 → RefusedAt at F NoMemory 1 → Stops at F NoMemory (new - old)
one_stops at F old new e r =
    let same : 1 ≡ new - old = omega (arith, e) in
    inr (subst (λ n. RefusedAt at F NoMemory n) same r)

-- ---- what holds of each refusal holds of want of memory
pub at_refusal : {V : Type 0} (meaning : V → Meaning) (r : Result V OpFault) (R : OpFault → Type 0) → IfErr r R
    → answer_of meaning r ≡ Err NoMemory → R NoMemory
at_refusal {V} meaning (Ok v) R h is = absurd (let bad : Ok (meaning v) ≡ Err NoMemory = is in cc)
at_refusal {V} meaning (Err e) R h is = let one : e ≡ NoMemory = cc in subst R one h

-- an answer that is a value is no want of memory
abbrev pub lack : Answer
lack = Err NoMemory

pub ok_stops : (v : Meaning) (P : Type 0) → Ok v ≡ lack → P
ok_stops v P is = absurd (let bad : Ok v ≡ lack = is in cc)
