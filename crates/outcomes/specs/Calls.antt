-- Two calls of which the second takes the first one's answer, and when what they answer is determined. Own choice.
use Rattle.std.specs.Prelude.{◌≡◌, ◌≢◌, Result, Ok, Err}

-- r is the answer of a call P and then a call Q on what P answers: Q's answer, or P's refusal
pub data Then {A B E : Type 0} (P : Result A E → Type 0) (Q : A → Result B E → Type 0) (r : Result B E) : Type 0 where
  goes_on : (x : A) → P (Ok x) → Q x r → Then P Q r
  stops : (fault : E) → P (Err fault) → r ≡ Err fault → Then P Q r

-- two answers that P allows are one, where neither is this fault
abbrev pub IsDeterminedBut : {A E : Type 0} → E → (Result A E → Type 0) → Type 0
IsDeterminedBut {A} {E} fault P = (r s : Result A E) → P r → P s → r ≢ Err fault → s ≢ Err fault → r ≡ s
