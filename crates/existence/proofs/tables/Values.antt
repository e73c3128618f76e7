-- Calls on the values of formulas have answers.
use Rattle.std.specs.Prelude.{◌≡◌, ◌≢◌, Result, Ok, Err}
use Rattle.std.proofs.Common.{refl}
use Rattle.rational.specs.Extended.{Ext}
use Rattle.upp_curve.specs.Curve.{SpecCurve}
use Rattle.upp_limits.specs.declared.op_kind.OpFault.{OpFault}
use Rattle.upp_limits.specs.declared.op_kind.OpFault.TheVariants.{NoMemory}
use Rattle.net_cells.specs.Answers.{Answer, MakesCurve, MakesNumber, OnCurve, OnNumber, ThenCurve, ThenNumber, ThenCurves, ThenNumbers}
use Rattle.net_cells.specs.Meanings.{Meaning, curve, number, IsCurveIn, IsNumberIn}
use Rattle.existence.specs.curves.Answered.{HasAnswer}
use Rattle.existence.specs.tables.Formulas.{GivesCurve, GivesNumber}
use Rattle.existence.proofs.tables.InTurn.{in_turn}

pub found_as : {A : Type 0} (P Q : Result A OpFault → Type 0) → ((r : Result A OpFault) → P r → Q r) → HasAnswer P → HasAnswer Q
found_as {A} P Q k h = record { answer = h.answer; is = k h.answer h.is; found = h.found }

ok_found : (r : Answer) (v : Meaning) → r ≡ Ok v → r ≢ Err NoMemory
ok_found r v e h = cc

pub value_found : (P : Answer → Type 0) (v : Meaning) → P (Ok v) → HasAnswer P
value_found P v h = record { answer = Ok v; is = h; found = ok_found (Ok v) v refl }

err_found : {A : Type 0} (fault : OpFault) (r : Result A OpFault) (s : Answer) → r ≡ Err fault → s ≡ Err fault → r ≢ Err NoMemory → s ≢ Err NoMemory
err_found {A} fault r s e h k g = k cc

-- ---- what a call makes, as a value
curve_from : (P : Result SpecCurve OpFault → Type 0) (r : Result SpecCurve OpFault) → P r → r ≢ Err NoMemory → HasAnswer (MakesCurve P)
curve_from P (Ok f) h k = value_found (MakesCurve P) (curve f) h
curve_from P (Err fault) h k = record { answer = Err fault; is = h; found = err_found fault (Err fault) (Err fault) refl refl k }

pub curve_found : (P : Result SpecCurve OpFault → Type 0) → HasAnswer P → HasAnswer (MakesCurve P)
curve_found P h = curve_from P h.answer h.is h.found

number_from : (P : Result Ext OpFault → Type 0) (r : Result Ext OpFault) → P r → r ≢ Err NoMemory → HasAnswer (MakesNumber P)
number_from P (Ok x) h k = value_found (MakesNumber P) (number x) h
number_from P (Err fault) h k = record { answer = Err fault; is = h; found = err_found fault (Err fault) (Err fault) refl refl k }

pub number_found : (P : Result Ext OpFault → Type 0) → HasAnswer P → HasAnswer (MakesNumber P)
number_found P h = number_from P h.answer h.is h.found

-- ---- sorts of values
curve_of : (P Q : SpecCurve → Type 0) → ((f : SpecCurve) → P f → Q f) → (v : Meaning) → IsCurveIn P v → IsCurveIn Q v
curve_of P Q k (curve f) h = k f h
curve_of P Q k (number x) h = absurd h

number_of : (P Q : Ext → Type 0) → ((x : Ext) → P x → Q x) → (v : Meaning) → IsNumberIn P v → IsNumberIn Q v
number_of P Q k (curve f) h = absurd h
number_of P Q k (number x) h = k x h

pub gives_curve : (R : Answer → Type 0) (P Q : SpecCurve → Type 0) → ((f : SpecCurve) → P f → Q f) → GivesCurve R P → GivesCurve R Q
gives_curve R P Q k h v a = curve_of P Q k v (h v a)

pub gives_number : (R : Answer → Type 0) (P Q : Ext → Type 0) → ((x : Ext) → P x → Q x) → GivesNumber R P → GivesNumber R Q
gives_number R P Q k h v a = number_of P Q k v (h v a)

-- of what a call makes
pub made_gives : (P : Result SpecCurve OpFault → Type 0) (Q : SpecCurve → Type 0) → ((f : SpecCurve) → P (Ok f) → Q f) → GivesCurve (MakesCurve P) Q
made_gives P Q k (curve f) a = k f a
made_gives P Q k (number x) a = absurd a

-- ---- calls on values
on_curve : (Q : SpecCurve → Answer → Type 0) (v : Meaning) → IsCurveIn (λ f. HasAnswer (Q f)) v → HasAnswer (OnCurve Q v)
on_curve Q (curve f) h = record { answer = h.answer; is = h.is; found = h.found }
on_curve Q (number x) h = absurd h

on_number : (Q : Ext → Answer → Type 0) (v : Meaning) → IsNumberIn (λ x. HasAnswer (Q x)) v → HasAnswer (OnNumber Q v)
on_number Q (curve f) h = absurd h
on_number Q (number x) h = record { answer = h.answer; is = h.is; found = h.found }

pub then_curve : (P : Answer → Type 0) (Q : SpecCurve → Answer → Type 0) → HasAnswer P → GivesCurve P (λ f. HasAnswer (Q f)) → HasAnswer (ThenCurve P Q)
then_curve P Q h gives = let t = in_turn P (OnCurve Q) h (λ v a. on_curve Q v (gives v a)) in record { answer = t.answer; is = t.is; found = t.found }

pub then_number : (P : Answer → Type 0) (Q : Ext → Answer → Type 0) → HasAnswer P → GivesNumber P (λ x. HasAnswer (Q x)) → HasAnswer (ThenNumber P Q)
then_number P Q h gives = let t = in_turn P (OnNumber Q) h (λ v a. on_number Q v (gives v a)) in record { answer = t.answer; is = t.is; found = t.found }

pub then_curves : (P Q : Answer → Type 0) (R : SpecCurve → SpecCurve → Answer → Type 0) → HasAnswer P → HasAnswer Q
    → GivesCurve P (λ f. GivesCurve Q (λ g. HasAnswer (R f g))) → HasAnswer (ThenCurves P Q R)
then_curves P Q R h k gives =
    let t = then_curve P (λ f. ThenCurve Q (R f)) h (gives_curve P (λ f. GivesCurve Q (λ g. HasAnswer (R f g))) (λ f. HasAnswer (ThenCurve Q (R f))) (λ f m. then_curve Q (R f) k m) gives) in
    record { answer = t.answer; is = t.is; found = t.found }

pub then_numbers : (P Q : Answer → Type 0) (R : Ext → Ext → Answer → Type 0) → HasAnswer P → HasAnswer Q
    → GivesNumber P (λ x. GivesNumber Q (λ y. HasAnswer (R x y))) → HasAnswer (ThenNumbers P Q R)
then_numbers P Q R h k gives =
    let t = then_number P (λ x. ThenNumber Q (R x)) h (gives_number P (λ x. GivesNumber Q (λ y. HasAnswer (R x y))) (λ x. HasAnswer (ThenNumber Q (R x))) (λ x m. then_number Q (R x) k m) gives) in
    record { answer = t.answer; is = t.is; found = t.found }
