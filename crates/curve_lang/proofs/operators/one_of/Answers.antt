use Rattle.std.proofs.Common.{subst, sym}
use Rattle.std.specs.Prelude.{IfOk}
use Rattle.upp_curve.specs.Curves.{IsCurve}
use Rattle.upp_limits.specs.declared.op_kind.OpKind.TheVariants as calls
use Rattle.curve_call.proofs.Applied.{applied_seen}
use Rattle.curve_lang.specs.Finding.{OneFinds}
use Rattle.curve_lang.specs.Sharing.{CallKept}
use Rattle.curve_lang.specs.Views.{found}
use Rattle.curve_lang.proofs.Kept.{call_found, close_found}
use Rattle.curve_lang.proofs.operators.one_of.Goals as goal

pub returns-in-Close : goal.returns-in-Close
returns-in-Close g c =
    subst (λ k. OneFinds k c.args.f.now (found c.kept_call.result) c.args.steps.now c.close.new.steps) (sym c.in-Close.is)
    (close_found c.args.f.now c.close.result (found c.kept_call.result) c.args.steps.now c.close.new.steps c.close.ensures.answer
    (subst (λ x. IfOk x IsCurve) c.intact.ensures.same c.intact.ensures.kept) c.close.ensures.value
    c.close.ensures.spends
    (subst (λ x. CallKept x (found c.kept_call.result)) c.intact.ensures.same c.kept_call.ensures))

pub returns-in-RunSup : goal.returns-in-RunSup
returns-in-RunSup g c =
    subst (λ k. OneFinds k c.args.f.now (found c.kept_call-in-RunSup.result) c.args.steps.now c.run_sup.new.steps) (sym c.in-RunSup.is) (
      call_found calls.RunSup c.args.f.now c.args.f.now c.intact-in-RunSup.result (found c.kept_call-in-RunSup.result)
          (applied_seen calls.RunSup c.args.f.now c.args.f.now c.run_sup.result c.intact-in-RunSup.result c.intact-in-RunSup.ensures.same c.run_sup.ensures.value c.run_sup.ensures.limits
          c.intact-in-RunSup.ensures.kept)
          c.kept_call-in-RunSup.ensures,
      c.run_sup.ensures.count,
    )

pub returns-in-RunInf : goal.returns-in-RunInf
returns-in-RunInf g c =
    subst (λ k. OneFinds k c.args.f.now (found c.kept_call-in-RunInf.result) c.args.steps.now c.run_inf.new.steps) (sym c.in-RunInf.is) (
      call_found calls.RunInf c.args.f.now c.args.f.now c.intact-in-RunInf.result (found c.kept_call-in-RunInf.result)
          (applied_seen calls.RunInf c.args.f.now c.args.f.now c.run_inf.result c.intact-in-RunInf.result c.intact-in-RunInf.ensures.same c.run_inf.ensures.value c.run_inf.ensures.limits
          c.intact-in-RunInf.ensures.kept)
          c.kept_call-in-RunInf.ensures,
      c.run_inf.ensures.count,
    )
