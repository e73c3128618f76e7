-- What the reader makes of an answer to the text of a curve.
use Rattle.std.proofs.Common.{◌≡◌, ℕ, List, Option, Some, None, Ok, Err, sym, ap, subst, ◌∙◌}
use Rattle.upp_limits.specs.declared.own_limits.OverLimit.{OverLimit}
use Rattle.curve_library.specs.declared.fault.CurveFault.{CurveFault}
use Rattle.curve_library.specs.declared.fault.CurveFault.TheVariants as faults
use Rattle.net_model.specs.declared.fault.CurveRefusal.{CurveRefusal}
use Rattle.net_model.specs.declared.fault.CurveRefusal.TheVariants as causes
use Rattle.net_model.specs.declared.fault.NetKind.TheVariants.{M9}
use Rattle.net_draft.specs.declared.fault.DraftFault.{DraftFault}
use Rattle.net_draft.specs.declared.fault.DraftFault.TheVariants as answers
use Rattle.net_draft.specs.Faults.{Fault, Read, IsFault, Fails, fault_of}
use Rattle.net_draft.specs.Texts.{CurveText}
use Rattle.net_draft.specs.Made.{CurveAnswers, IsToldAs, limit_of}
use Rattle.net_draft.specs.Tables.{unless_refused, curve_at}
use Rattle.net_draft.specs.Refusals.{refusal_of}
use Rattle.net_draft.proofs.Told.{answers_tell}

pub taken : (place : List ℕ) (t : CurveText) → refusal_of t ≡ None → curve_at place t ≡ Ok t
taken place t e = ap (unless_refused place t) e

pub fault_is : (f g : Fault) → f.kind ≡ g.kind → f.place ≡ g.place → f ≡ g
fault_is f g p q = ap (λ k. let r : Fault = record { kind = k; place = f.place } in r) p ∙ ap (λ l. let r : Fault = record { kind = g.kind; place = l } in r) q

abbrev pub stopped : {A : Type 0} → Fault → Read A
stopped f = Err f

pub refused_at : (place : List ℕ) (t : CurveText) (r : CurveRefusal) (e : DraftFault) → refusal_of t ≡ Some r → IsFault (M9 r) place e → Fails e (curve_at place t)
refused_at place t r answers.NoMemory h i = tt
refused_at place t r (answers.Fault f) h i =
    ap (unless_refused place t) h ∙ ap stopped (fault_is (record { kind = M9 r; place = place }) (fault_of f) (sym i.0) (sym i.1))

-- ---- a fault that is a limit, or none
no_limit : (l : OverLimit) → (let o : Option OverLimit = None in o) ≡ Some l → ⊥
no_limit l e = cc

pub of_limit : (f : CurveFault) (l : OverLimit) → limit_of f ≡ Some l → f ≡ faults.Op l
of_limit faults.Negative l e = absurd (no_limit l e)
of_limit faults.ZeroPeriod l e = absurd (no_limit l e)
of_limit faults.NotRising l e = absurd (no_limit l e)
of_limit faults.NotContinuous l e = absurd (no_limit l e)
of_limit faults.NotZeroAtStart l e = absurd (no_limit l e)
of_limit (faults.Op m) l e = let same : m ≡ l = cc in ap faults.Op same
of_limit faults.NoMemory l e = absurd (no_limit l e)

pub told_fails : (place : List ℕ) (t : CurveText) (f : CurveFault) (e : DraftFault) → CurveAnswers t (Err f) → IsToldAs f place e
    → Fails e (curve_at place t)
told_fails place t faults.Negative e a h = refused_at place t causes.Negative e (answers_tell t (Err faults.Negative) a) h
told_fails place t faults.ZeroPeriod e a h = refused_at place t causes.ZeroPeriod e (answers_tell t (Err faults.ZeroPeriod) a) h
told_fails place t faults.NotRising e a h = refused_at place t causes.NotRising e (answers_tell t (Err faults.NotRising) a) h
told_fails place t faults.NotContinuous e a h = refused_at place t causes.NotContinuous e (answers_tell t (Err faults.NotContinuous) a) h
told_fails place t faults.NotZeroAtStart e a h = refused_at place t causes.NotZeroAtStart e (answers_tell t (Err faults.NotZeroAtStart) a) h
told_fails place t (faults.Op l) e a h = absurd h
told_fails place t faults.NoMemory e a h = subst (λ (d : DraftFault). Fails d (curve_at place t)) (sym h) tt
