-- What is found by a call or a kind of curve whose answer is kept.
use Rattle.std.specs.Prelude.{◌≡◌, ◌⊎◌, ◌↔◌, ℕ, Result, Ok, Err, IfOk, IfErr}
use Rattle.std.proofs.Common.{refl, sym, ap, subst, ◌∙◌, inl, inr}
use Rattle.rational.specs.Rational.{ℚ, ◌≤ℚ◌}
use Rattle.min_plus.specs.Functions.{zero_q}
use Rattle.min_plus.specs.Convolution.{IsSubadditiveClosure}
use Rattle.upp_curve.specs.Curve.{SpecCurve, value_at}
use Rattle.upp_curve.specs.Curves.{IsCurve}
use Rattle.upp_limits.specs.declared.op_kind.OpKind.{OpKind}
use Rattle.upp_limits.specs.declared.op_kind.OpFault.{OpFault}
use Rattle.upp_limits.specs.declared.op_kind.OpFault.TheVariants as calls
use Rattle.upp_limits.specs.Outcome.{IsCauseOf}
use Rattle.curve_call.specs.Answers.{IsMadeBy}
use Rattle.curve_call.specs.Calls.{Applies}
use Rattle.outcomes.specs.Stages.{IsEqual}
use Rattle.outcomes.specs.Spending.{SpendsSteps}
use Rattle.curve_library.specs.declared.fault.CurveFault.{CurveFault}
use Rattle.curve_library.specs.declared.fault.CurveFault.TheVariants as kinds
use Rattle.subadd_closure.specs.Folds.{CloseAnswer}
use Rattle.subadd_closure.specs.FoldMemory.{CloseWants}
use Rattle.subadd_closure.specs.FoldWork.{fold_work}
use Rattle.curve_lang.specs.Finding.{Found, Gives, CallFinds, CurveFinds, BucketFinds, CloseFinds}
use Rattle.curve_lang.specs.Sharing.{KindKept, CallKept, told_kind, told_call}

-- ---- calls
-- a refused call finds nothing, for the limit that it is over
pub refused : {A : Type 0} (op : OpKind) (f g : SpecCurve) (Q : A → Type 0) (fault : OpFault) → IsCauseOf op f g fault
    → CallFinds op f g Q (Err (told_call fault))
refused op f g Q calls.TooMany h = h
refused op f g Q calls.TooWide h = h
refused op f g Q calls.NoMemory h = h

-- what is kept of a call
pub call_found : (op : OpKind) (f g : SpecCurve) (made : Result SpecCurve OpFault) (r : Found)
    → Applies op f g made → CallKept made r → CurveFinds op f g r
call_found op f g (Ok c) r a (inl e) = subst (CurveFinds op f g) (sym e) (a.within, a.made)
call_found op f g (Ok c) r a (inr e) = subst (CurveFinds op f g) (sym e) a.within
call_found op f g (Err fault) r a e = subst (CurveFinds op f g) (sym e) (refused op f g (IsMadeBy op f g) fault a)

-- and of a closure
abbrev CloseSpends : SpecCurve → (old new : ℕ) → Result SpecCurve OpFault → Type 0
CloseSpends f old new made = SpendsSteps (IsEqual (fold_work f)) calls.NoMemory (CloseWants f) old new made

close_refused : (f : SpecCurve) (fault : OpFault) (old new : ℕ) → CloseAnswer f (Err fault) → CloseSpends f old new (Err fault)
    → CloseFinds f (Err (told_call fault)) old new
close_refused f calls.TooMany old new h n = (h, (n.counts (fold_work f) refl).most)
close_refused f calls.TooWide old new h n = (h, (n.counts (fold_work f) refl).most)
close_refused f calls.NoMemory old new h n = inl (n.rises, n.memory refl)

pub close_found : (f : SpecCurve) (made : Result SpecCurve OpFault) (r : Found) (old new : ℕ) → CloseAnswer f made → IfOk made IsCurve
    → IfOk made (λ h. (t : ℚ) → zero_q ≤ℚ t → IsSubadditiveClosure (value_at f) t (value_at h t)) → CloseSpends f old new made → CallKept made r
    → CloseFinds f r old new
close_found f (Ok h) r old new a kept values n (inl e) = subst (λ s. CloseFinds f s old new) (sym e) (a, kept, values, (n.counts (fold_work f) refl).exact)
close_found f (Ok h) r old new a kept values n (inr e) = subst (λ s. CloseFinds f s old new) (sym e) (inr (h, a, (n.counts (fold_work f) refl).exact))
close_found f (Err fault) r old new a kept values n e = subst (λ s. CloseFinds f s old new) (sym e) (close_refused f fault old new a n)

-- ---- kinds
-- a token bucket
pub bucket_found : (N : Type 0) (c : SpecCurve) (made : Result SpecCurve CurveFault) (r : Found) → IfOk made (λ d. d ≡ c)
    → ((made ≡ Err kinds.Negative) ↔ N) → IfErr made (λ e. (e ≡ kinds.Negative) ⊎ (e ≡ kinds.NoMemory)) → KindKept made r → BucketFinds N c r
bucket_found N c (Ok d) r is negative faults (inl e) = inr ((λ n. absurd (cc (negative.1 n))), inl (e ∙ ap Ok is))
bucket_found N c (Ok d) r is negative faults (inr e) = inr ((λ n. absurd (cc (negative.1 n))), inr e)
bucket_found N c (Err fault) r is negative (inl k) e =
    inl (negative.0 (ap Err k), e ∙ ap (λ x. Err (told_kind x)) k)
bucket_found N c (Err fault) r is negative (inr k) e =
    inr ((λ n. absurd (cc (negative.1 n, k))), inr (e ∙ ap (λ x. Err (told_kind x)) k))

-- the zero curve is a bucket that is not refused
pub zero_kept : (N : Type 0) (c : SpecCurve) (r : Found) → ¬ N → BucketFinds N c r → Gives c r
zero_kept N c r none (inl h) = absurd (none h.0)
zero_kept N c r none (inr h) = h.1
