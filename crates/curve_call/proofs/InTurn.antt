-- The answers of one call are determined.
use Rattle.std.proofs.Common.{◌≡◌, ◌≢◌, arith, refl, ap}
use Rattle.std.specs.Prelude.{Result, Ok, Err}
use Rattle.upp_limits.specs.declared.op_kind.OpKind.{OpKind}
use Rattle.upp_limits.specs.declared.op_kind.OpFault.{OpFault}
use Rattle.upp_limits.specs.declared.op_kind.OpFault.TheVariants.{TooMany, TooWide, NoMemory}
use Rattle.upp_curve.specs.Curve.{SpecCurve}
use Rattle.upp_limits.specs.Gauges.{IsTooMany, IsTooWide}
use Rattle.curve_call.specs.Calls.{Applies}
use Rattle.curve_call.specs.Determined.{AppliesIsDetermined}
use Rattle.curve_call.proofs.SameAnswers.{made_unique}

pub not_both : (op : OpKind) (f g : SpecCurve) → IsTooMany op f g → IsTooWide op f g → ⊥
not_both op f g m w = let wide = w.gauge m.first m.second m.are_least in let few = m.gauge in omega arith

applies_once : (op : OpKind) (f g : SpecCurve) (r s : Result SpecCurve OpFault) → Applies op f g r → Applies op f g s
    → r ≢ Err NoMemory → s ≢ Err NoMemory → r ≡ s
applies_once op f g (Ok h) (Ok k) a b m n = ap Ok (made_unique op f g h k a.made b.made)
applies_once op f g (Ok h) (Err TooMany) a b m n = absurd (a.within.few b)
applies_once op f g (Ok h) (Err TooWide) a b m n = absurd (a.within.narrow b)
applies_once op f g (Ok h) (Err NoMemory) a b m n = absurd (n refl)
applies_once op f g (Err TooMany) (Ok k) a b m n = absurd (b.within.few a)
applies_once op f g (Err TooWide) (Ok k) a b m n = absurd (b.within.narrow a)
applies_once op f g (Err NoMemory) (Ok k) a b m n = absurd (m refl)
applies_once op f g (Err TooMany) (Err TooMany) a b m n = refl
applies_once op f g (Err TooMany) (Err TooWide) a b m n = absurd (not_both op f g a b)
applies_once op f g (Err TooMany) (Err NoMemory) a b m n = absurd (n refl)
applies_once op f g (Err TooWide) (Err TooMany) a b m n = absurd (not_both op f g b a)
applies_once op f g (Err TooWide) (Err TooWide) a b m n = refl
applies_once op f g (Err TooWide) (Err NoMemory) a b m n = absurd (n refl)
applies_once op f g (Err NoMemory) (Err e) a b m n = absurd (m refl)

pub applies_determined : AppliesIsDetermined
applies_determined = record {
  curve = made_unique;
  limits = λ op f g m w. not_both op f g m w;
  many = λ op f g i m. i.few m;
  wide = λ op f g i w. i.narrow w;
  answer = applies_once;
}
