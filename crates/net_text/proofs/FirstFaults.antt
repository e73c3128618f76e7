-- No first fault of a file is want of memory.
use Rattle.std.specs.Prelude.{◌≡◌, List, [], ◌∷◌}
use Rattle.std.proofs.Common.{sym, ap, ◌∙◌, subst, inl, inr}
use Rattle.upp_limits.specs.declared.own_limits.OverLimit.{OverLimit}
use Rattle.upp_limits.specs.declared.own_limits.OverLimit.TheVariants.{TooMany, TooWide}
use Rattle.net_model.specs.declared.fault.NetKind.TheVariants.{NoMemory}
use Rattle.net_draft.specs.FaultKinds.{IsOfTables}
use Rattle.net_draft.specs.Faults.{Fault}
use Rattle.net_draft.proofs.KindsOfTables.{faults_are_of_tables}
use Rattle.net_text.specs.Becoming.{limit_kind}
use Rattle.net_text.specs.Firsts.{PlacedCurve, FirstCurveOver, curves_of}
use Rattle.net_text.specs.Laws.{NoFaultIsWantOfMemory}

no_limit : (limit : OverLimit) → limit_kind limit ≡ NoMemory → ⊥
no_limit TooMany h = cc
no_limit TooWide h = cc

no_curve : (es : List PlacedCurve) (f : Fault) → FirstCurveOver es f → f.kind ≡ NoMemory → ⊥
no_curve [] f a h = a
no_curve (e ∷ es) f (inl over) h = no_limit over.limit (sym (ap (λ x. x.kind) over.is) ∙ h)
no_curve (e ∷ es) f (inr later) h = no_curve es f later.1 h

pub no_fault_is_want_of_memory : NoFaultIsWantOfMemory
no_fault_is_want_of_memory bytes f (inl tables) h = subst IsOfTables h (faults_are_of_tables bytes f tables)
no_fault_is_want_of_memory bytes f (inr curves) h = no_curve (curves_of curves.draft) f curves.first h
