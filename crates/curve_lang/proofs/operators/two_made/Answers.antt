use Rattle.std.proofs.Common.{inl, inr, refl, sym, true≢false}
use Rattle.curve_call.proofs.Applied.{applied_seen}
use Rattle.curve_lang.specs.Meaning.{call_of_two}
use Rattle.curve_lang.specs.Views.{found}
use Rattle.curve_lang.proofs.Kept.{call_found}
use Rattle.curve_lang.proofs.operators.two_made.Goals as goal

pub returns-then-not-may_call : goal.returns-then-not-may_call
returns-then-not-may_call g c = inr ((λ h. true≢false (sym (c.if-not-may_call.ensures.1 h))), (refl, refl))

pub called-requires : goal.called-requires
called-requires g c = c.may_call.ensures.0 c.if-not-may_call.false

pub returns : goal.returns
returns g c = inl (
  c.may_call.ensures.0 c.if-not-may_call.false,
  (
    call_found (call_of_two c.args.operator) c.args.f.now c.args.g.now c.intact.result (found c.kept_call.result)
        (applied_seen (call_of_two c.args.operator) c.args.f.now c.args.g.now c.called.result c.intact.result c.intact.ensures.same c.called.ensures.value c.called.ensures.limits c.intact.ensures.kept)
        c.kept_call.ensures,
    c.called.ensures.count,
  ),
)
