-- Where calls that are made one after the other are refused.
use Rattle.std.specs.Prelude.{◌≡◌, ◌≢◌, ℕ, ◌+◌, ◌<◌, ◌≤◌, Result, Ok, Err, IfErr}
use Rattle.std.proofs.Common.{refl, subst, arith}
use Rattle.upp_limits.specs.declared.op_kind.OpKind.{OpKind}
use Rattle.upp_limits.specs.declared.op_kind.OpKind.TheVariants.{PosDiff, PosMinus, RunSup, Scale}
use Rattle.upp_limits.specs.declared.op_kind.OpFault.{OpFault}
use Rattle.upp_limits.specs.declared.op_kind.OpFault.TheVariants.{TooMany, TooWide, NoMemory}
use Rattle.upp_limits.specs.Outcome.{IsWithin, IsCauseOf}
use Rattle.upp_curve.specs.Curve.{SpecCurve}
use Rattle.run_laws.specs.Cards.{whole}
use Rattle.plain_operators.specs.CurveCalls.{Applies, AppliesTo, IsDetermined}
use Rattle.outcomes.specs.Calls.{Then, goes_on, stops}
use Rattle.plain_operators.proofs.CurveCalls.{applies_determined}
use Rattle.outcomes.proofs.Calls.{then_determined}
use Rattle.residuals.specs.calls.PriorityCalls.{LeavesPriority}
use Rattle.residuals.specs.calls.DrrCalls.{share_in, owed_in}
use Rattle.residuals.specs.calls.InTurn.{AtCall, InTurn, on_the_way, past, IsPlaced, LeftRefused, ServicesArePlaced}

-- ---- one call
-- a call is not refused both for want of memory and for a limit
pub call_placed : {A : Type 0} (P : Result A OpFault → Type 0) → ((fault : OpFault) → fault ≢ NoMemory → P (Err NoMemory) → ¬ (P (Err fault)))
    → IsPlaced (AtCall P) P 1
call_placed {A} P apart = record {
  place = λ fault p. (1, (refl, p));
  refused = λ fault n r. r.1;
  most = λ n r. let e = r.0 in omega (arith, e);
  least = λ fault n limit r. let e = r.0 in omega (arith, e);
  sooner = λ fault n m limit r s. absurd (apart fault limit r.1 s.1);
}

pub within_apart : (op : OpKind) (f g : SpecCurve) (fault : OpFault) → fault ≢ NoMemory → IsWithin op f g → ¬ (IsCauseOf op f g fault)
within_apart op f g TooMany limit within cause = within.few cause
within_apart op f g TooWide limit within cause = within.narrow cause
within_apart op f g NoMemory limit within cause = limit refl

pub applies_placed : (op : OpKind) (f g : SpecCurve) → IsPlaced (AtCall (Applies op f g)) (Applies op f g) 1
applies_placed op f g = call_placed (Applies op f g) (within_apart op f g)

-- what holds of each refusal
pub if_err : {A : Type 0} (r : Result A OpFault) (P : OpFault → Type 0) → ((fault : OpFault) → r ≡ Err fault → P fault) → IfErr r P
if_err {A} (Ok x) P h = tt
if_err {A} (Err fault) P h = h fault refl

-- ---- calls that follow from the answers of others
module _ {A B : Type 0} (before : OpFault → ℕ → Type 0) (P : Result A OpFault → Type 0) (k : ℕ)
    (after : A → OpFault → ℕ → Type 0) (Q : A → Result B OpFault → Type 0) (j : ℕ) (p : IsPlaced before P k)
    (q : (x : A) → IsPlaced (after x) (Q x) j) where
  then_place : (fault : OpFault) → Then P Q (Err fault) → (n : ℕ) × InTurn before P k after fault n
  then_place fault (goes_on x a b) = let found = (q x).place fault b in (k + found.0, past x found.0 a refl found.1)
  then_place fault (stops e a is) =
      let one : e ≡ fault = cc in
      let found = p.place e a in
      (found.0, on_the_way (subst (λ f. before f found.0) one found.1))

  then_refused : (fault : OpFault) (n : ℕ) → InTurn before P k after fault n → Then P Q (Err fault)
  then_refused fault n (on_the_way a) = stops fault (p.refused fault n a) refl
  then_refused fault n (past x m a is b) = goes_on x a ((q x).refused fault m b)

  then_most : (n : ℕ) → InTurn before P k after NoMemory n → n ≤ k + j
  then_most n (on_the_way a) = let few = p.most n a in omega (arith, few)
  then_most n (past x m a is b) = let few = (q x).most m b in omega (arith, few, is)

  then_least : (fault : OpFault) (n : ℕ) → fault ≢ NoMemory → InTurn before P k after fault n → 1 ≤ n
  then_least fault n limit (on_the_way a) = p.least fault n limit a
  then_least fault n limit (past x m a is b) = let some = (q x).least fault m limit b in omega (arith, some, is)

  then_sooner : IsDetermined P → (fault : OpFault) (n m : ℕ) → fault ≢ NoMemory → InTurn before P k after NoMemory n
      → InTurn before P k after fault m → n < m
  then_sooner one fault n m limit (on_the_way a) (on_the_way b) = p.sooner fault n m limit a b
  then_sooner one fault n m limit (on_the_way a) (past y l b is c) =
      let few = p.most n a in
      let some = (q y).least fault l limit c in
      omega (arith, few, some, is)
  then_sooner one fault n m limit (past x l a is b) (on_the_way c) =
      absurd (let bad : Ok x ≡ Err fault = one (Ok x) (Err fault) a (p.refused fault m c) (λ e. cc) (λ e. limit cc) in cc)
  then_sooner one fault n m limit (past x l a is b) (past y i c same d) =
      let both : Ok x ≡ Ok y = one (Ok x) (Ok y) a c (λ e. cc) (λ e. cc) in
      let alike : y ≡ x = cc in
      let less = (q x).sooner fault l i limit b (subst (λ z. after z fault i) alike d) in
      omega (arith, less, is, same)

  pub then_placed : IsDetermined P → IsPlaced (InTurn before P k after) (Then P Q) (k + j)
  then_placed one = record { place = then_place; refused = then_refused; most = then_most; least = then_least; sooner = then_sooner one }

-- as many as there may be
pub placed_within : {A : Type 0} (R : OpFault → ℕ → Type 0) (P : Result A OpFault → Type 0) (k j : ℕ) → k ≤ j → IsPlaced R P k
    → IsPlaced R P j
placed_within {A} R P k j h p = record {
  place = p.place;
  refused = p.refused;
  most = λ n r. let few = p.most n r in omega (arith, few, h);
  least = p.least;
  sooner = p.sooner;
}

-- ---- the services of queues
left_placed : (β higher : SpecCurve) (lower : ℕ) → IsPlaced (LeftRefused β higher lower) (LeavesPriority β higher lower) 2
left_placed β higher lower =
    then_placed (AtCall (Applies PosDiff β higher)) (Applies PosDiff β higher) 1 (λ c. AtCall (AppliesTo (PosMinus (whole lower)) c))
    (AppliesTo (PosMinus (whole lower))) 1 (applies_placed PosDiff β higher) (λ c. applies_placed (PosMinus (whole lower)) c c)
    (applies_determined.answer PosDiff β higher)

pub services_placed : ServicesArePlaced
services_placed = record {
  priority = λ β higher lower.
      then_placed (LeftRefused β higher lower) (LeavesPriority β higher lower) 2 (λ c. AtCall (AppliesTo RunSup c)) (AppliesTo RunSup) 1
      (left_placed β higher lower) (λ c. applies_placed RunSup c c)
      (then_determined (Applies PosDiff β higher) (AppliesTo (PosMinus (whole lower))) (applies_determined.answer PosDiff β higher)
      (λ d. applies_determined.answer (PosMinus (whole lower)) d d));
  deficit = λ β quanta longest i.
      let first = Scale (share_in quanta i) in
      let second = PosMinus (owed_in quanta longest i) in
      then_placed (AtCall (AppliesTo first β)) (AppliesTo first β) 1 (λ c. AtCall (AppliesTo second c)) (AppliesTo second) 1
      (applies_placed first β β) (λ c. applies_placed second c c) (applies_determined.answer first β β);
}
