use Rattle.std.proofs.Common.{inl, inr, refl, sym, true≢false}
use Rattle.curve_call.proofs.Applied.{applied_seen}
use Rattle.curve_lang.specs.Meaning.{call_with}
use Rattle.curve_lang.specs.Views.{found}
use Rattle.curve_lang.proofs.Kept.{call_found}
use Rattle.curve_lang.proofs.operators.number_made.Goals as goal

pub returns-then-not-may_call_with : goal.returns-then-not-may_call_with
returns-then-not-may_call_with g c = inr ((λ h. true≢false (sym (c.if-not-may_call_with.ensures.1 h))), (refl, refl))

pub called_with-requires : goal.called_with-requires
called_with-requires g c = c.may_call_with.ensures.0 c.if-not-may_call_with.false

pub returns : goal.returns
returns g c = inl (
  c.may_call_with.ensures.0 c.if-not-may_call_with.false,
  (
    call_found (call_with c.args.operator c.args.x) c.args.f.now c.args.f.now c.intact.result (found c.kept_call.result)
        (applied_seen (call_with c.args.operator c.args.x) c.args.f.now c.args.f.now c.called_with.result c.intact.result c.intact.ensures.same c.called_with.ensures.value c.called_with.ensures.limits c.intact.ensures.kept)
        c.kept_call.ensures,
    c.called_with.ensures.count,
  ),
)
