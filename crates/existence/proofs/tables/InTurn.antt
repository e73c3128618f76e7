-- A call and then another have an answer.
use Rattle.std.specs.Prelude.{◌≢◌, Result, Ok, Err}
use Rattle.std.proofs.Common.{refl}
use Rattle.upp_limits.specs.declared.op_kind.OpFault.{OpFault}
use Rattle.upp_limits.specs.declared.op_kind.OpFault.TheVariants.{NoMemory}
use Rattle.outcomes.specs.Calls.{Then, goes_on, stops}
use Rattle.existence.specs.curves.Answered.{HasAnswer}

turn_from : {A B : Type 0} (P : Result A OpFault → Type 0) (Q : A → Result B OpFault → Type 0) → ((x : A) → P (Ok x) → HasAnswer (Q x)) → (r : Result A OpFault) → P r → r ≢ Err NoMemory
    → HasAnswer (Then P Q)
turn_from {A} {B} P Q next (Ok x) h k = let q = next x h in record { answer = q.answer; is = goes_on x h q.is; found = q.found }
turn_from {A} {B} P Q next (Err fault) h k = record { answer = Err fault; is = stops fault h refl; found = λ e. k cc }

pub in_turn : {A B : Type 0} (P : Result A OpFault → Type 0) (Q : A → Result B OpFault → Type 0) → HasAnswer P → ((x : A) → P (Ok x) → HasAnswer (Q x)) → HasAnswer (Then P Q)
in_turn {A} {B} P Q first next = turn_from P Q next first.answer first.is first.found
