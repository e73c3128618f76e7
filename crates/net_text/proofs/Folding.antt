-- What the fold answers is what the reader of files asks of a closure.
use Rattle.std.specs.Prelude.{◌≡◌, Result, Ok, Err}
use Rattle.upp_curve.specs.Curve.{SpecCurve, value_at}
use Rattle.upp_curve.specs.Curves.{IsCurve}
use Rattle.min_plus.specs.Functions.{IsFinite, IsNonnegative}
use Rattle.upp_limits.specs.declared.own_limits.OverLimit.{OverLimit}
use Rattle.upp_limits.specs.declared.own_limits.OverLimit.TheVariants as limits
use Rattle.upp_limits.specs.declared.op_kind.OpFault.{OpFault}
use Rattle.upp_limits.specs.declared.op_kind.OpFault.TheVariants.{TooMany, TooWide, NoMemory}
use Rattle.outcomes.specs.Calls.{goes_on, stops}
use Rattle.subadd_closure.specs.Folds.{CloseAnswer}
use Rattle.subadd_closure.proofs.FoldStars.{close_answer}
use Rattle.subadd_closure.proofs.OneFold.{close_once}
use Rattle.net_text.specs.Closing.{OverFold, KeepsClosing}

apart : (c : SpecCurve) (fault : OpFault) → (let r : Result SpecCurve OpFault = Ok c in r) ≡ Err fault → ⊥
apart c fault h = cc

many : (let r : Result SpecCurve OpFault = Err TooMany in r) ≡ Err NoMemory → ⊥
many h = cc

wide : (let r : Result SpecCurve OpFault = Err TooWide in r) ≡ Err NoMemory → ⊥
wide h = cc

-- a fold that answers a curve is over no limit
within : (f c : SpecCurve) → CloseAnswer f (Ok c) → (limit : OverLimit) → OverFold f limit → ⊥
within f c a limits.TooMany b = apart c TooMany (close_once f (Ok c) (Err TooMany) a b (apart c NoMemory) many)
within f c a limits.TooWide b = apart c TooWide (close_once f (Ok c) (Err TooWide) a b (apart c NoMemory) wide)

-- what it answers is a curve
answers_curve : (f c : SpecCurve) → CloseAnswer f (Ok c) → IsCurve c
answers_curve f c (goes_on d a b) = b.curve
answers_curve f c (stops fault a b) = absurd (apart c fault b)

pub keeps_closing : (f : SpecCurve) (r : Result SpecCurve OpFault) → IsCurve f → IsFinite (value_at f)
    → IsNonnegative (value_at f) → CloseAnswer f r → KeepsClosing f r
keeps_closing f (Ok c) own finite nonneg a = record {
  curve = answers_curve f c a;
  value = λ t late. close_answer f c t own.normal finite nonneg a late;
  within = within f c a;
}
keeps_closing f (Err TooMany) own finite nonneg a = a
keeps_closing f (Err TooWide) own finite nonneg a = a
keeps_closing f (Err NoMemory) own finite nonneg a = tt
