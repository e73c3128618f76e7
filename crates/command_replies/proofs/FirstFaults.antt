-- The first fault of a file is a rule that its tables break, or a curve over a limit.
use Rattle.std.proofs.Common.{◌≡◌, ◌≢◌, ℕ, List, [], ◌∷◌, Result, Ok, Err, IfOk, inl, inr, refl, sym, ap, ◌∙◌, subst}
use Rattle.upp_limits.specs.declared.own_limits.OverLimit.{OverLimit}
use Rattle.upp_limits.specs.declared.own_limits.OverLimit.TheVariants.{TooMany, TooWide}
use Rattle.net_model.specs.declared.fault.NetFault.{NetFault}
use Rattle.net_model.specs.declared.fault.NetKind.{NetKind}
use Rattle.net_model.specs.declared.fault.NetKind.TheVariants.{M1, M2, M3, M4, M5, M6, M7, M8, M9, M10, M11, M12}
use Rattle.net_model.specs.declared.fault.NetKind.TheVariants.{CurveTooMany, CurveTooWide, NoMemory}
use Rattle.net_draft.specs.FaultKinds.{IsOfTables}
use Rattle.net_draft.specs.Faults.{Fault, fault_of}
use Rattle.net_draft.proofs.KindsOfTables.{faults_are_of_tables}
use Rattle.net_text.specs.Becoming.{limit_fault}
use Rattle.net_text.specs.Firsts.{PlacedCurve, FirstCurveOver, curves_of}
use Rattle.net_text.specs.Reading.{CurveFault, FirstFault, IsAnswered}
use Rattle.command_replies.specs.Replies.{Reply, breaks_rule, curve_over}
use Rattle.command_replies.specs.Faults.{reply_of_kind, fault_reply}
use Rattle.command_replies.specs.OnFiles.{IsBroken, IsNoNetwork}
use Rattle.replies.specs.declared.answer.Answer.{Answer}
use Rattle.command_replies.specs.View.{reply_of}

-- ---- the reply on a fault
-- a curve over a limit at a place
record IsLimit (f : Fault) : Type 0 where
  limit : OverLimit
  place : List ℕ
  is : f ≡ limit_fault limit place

of_curves : (es : List PlacedCurve) (f : Fault) → FirstCurveOver es f → IsLimit f
of_curves [] f h = absurd h
of_curves (e ∷ es) f (inl here) = record { limit = here.limit; place = e.place; is = here.is }
of_curves (e ∷ es) f (inr later) = of_curves es f later.1

pub on_limit : (file place : List ℕ) (limit : OverLimit)
    → fault_reply file (limit_fault limit place) ≡ curve_over limit place
on_limit file place TooMany = refl
on_limit file place TooWide = refl

of_tables : (file : List ℕ) (f : Fault) (kind : NetKind) → IsOfTables kind
    → reply_of_kind file f kind ≡ breaks_rule file f
of_tables file f M1 h = refl
of_tables file f M2 h = refl
of_tables file f M3 h = refl
of_tables file f M4 h = refl
of_tables file f M5 h = refl
of_tables file f M6 h = refl
of_tables file f M7 h = refl
of_tables file f M8 h = refl
of_tables file f (M9 why) h = refl
of_tables file f M10 h = refl
of_tables file f M11 h = refl
of_tables file f M12 h = refl
of_tables file f CurveTooMany h = absurd h
of_tables file f CurveTooWide h = absurd h
of_tables file f NoMemory h = absurd h

pub on_broken : (file bytes : List ℕ) (reply : Reply) (h : IsBroken file bytes reply) → reply ≡ fault_reply file h.fault
on_broken file bytes reply h =
    h.is ∙ sym (of_tables file h.fault h.fault.kind (faults_are_of_tables bytes h.fault h.first))

on_curve : (file bytes : List ℕ) (f : Fault) → CurveFault bytes f → IsLimit f
    → IsNoNetwork file bytes (fault_reply file f)
on_curve file bytes f h l = inr (
  l.limit,
  record {
    place = l.place;
    first = subst (CurveFault bytes) l.is h;
    is = ap (fault_reply file) l.is ∙ on_limit file l.place l.limit;
  },
)

pub on_first : (file bytes : List ℕ) (f : Fault) → FirstFault bytes f
    → IsNoNetwork file bytes (fault_reply file f)
on_first file bytes f (inl tables) =
    inl (record { fault = f; first = tables; is = of_tables file f f.kind (faults_are_of_tables bytes f tables) })
on_first file bytes f (inr curve) = on_curve file bytes f curve (of_curves (curves_of curve.draft) f curve.first)

-- where a fault is told, it is the first
pub first_told : (bytes : List ℕ) (f : NetFault) → IsAnswered bytes f → f.kind ≢ NoMemory
    → FirstFault bytes (fault_of f)
first_told bytes f (inl wants) told = absurd (told wants)
first_told bytes f (inr first) told = first

-- a call that answers on a fault, if anything, answers that the file gives no network
pub on_told : {E : Type 0} (file bytes : List ℕ) (f : NetFault) (r : Result Answer E) → IsAnswered bytes f
    → IfOk r (λ a. reply_of a ≡ fault_reply file (fault_of f)) → IfOk r (λ a. f.kind ≢ NoMemory)
    → IfOk r (λ a. IsNoNetwork file bytes (reply_of a))
on_told file bytes f (Ok a) answered is told =
    subst (IsNoNetwork file bytes) (sym is) (on_first file bytes (fault_of f) (first_told bytes f answered told))
on_told file bytes f (Err e) answered is told = tt
