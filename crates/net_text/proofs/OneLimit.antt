-- A fold is over one limit at most, since it has one answer.
use Rattle.std.specs.Prelude.{◌≡◌, refl, Result, Err}
use Rattle.std.proofs.Common.{subst}
use Rattle.upp_curve.specs.Curve.{SpecCurve}
use Rattle.upp_limits.specs.declared.own_limits.OverLimit.{OverLimit}
use Rattle.upp_limits.specs.declared.own_limits.OverLimit.TheVariants as limits
use Rattle.upp_limits.specs.declared.op_kind.OpFault.{OpFault}
use Rattle.upp_limits.specs.declared.op_kind.OpFault.TheVariants as faults
use Rattle.subadd_closure.specs.Folds.{CloseAnswer}
use Rattle.subadd_closure.proofs.OneFold.{close_once}
use Rattle.net_text.specs.Closing.{OverFold}

abbrev IsMany : Result SpecCurve OpFault → Type 0
IsMany (Err faults.TooMany) = Unit {0}
IsMany _ = ⊥

abbrev IsWide : Result SpecCurve OpFault → Type 0
IsWide (Err faults.TooWide) = Unit {0}
IsWide _ = ⊥

many_or_wide : (f : SpecCurve) → CloseAnswer f (Err faults.TooMany) → CloseAnswer f (Err faults.TooWide) → ⊥
many_or_wide f a b =
    subst IsMany
    (close_once f (Err faults.TooMany) (Err faults.TooWide) a b (λ e. subst IsMany e tt) (λ e. subst IsWide e tt)) tt

pub fold_has_one_limit : (f : SpecCurve) (l m : OverLimit) → OverFold f l → OverFold f m → l ≡ m
fold_has_one_limit f limits.TooMany limits.TooMany a b = refl
fold_has_one_limit f limits.TooMany limits.TooWide a b = absurd (many_or_wide f a b)
fold_has_one_limit f limits.TooWide limits.TooMany a b = absurd (many_or_wide f b a)
fold_has_one_limit f limits.TooWide limits.TooWide a b = refl
