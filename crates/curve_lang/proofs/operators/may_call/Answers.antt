use Rattle.std.specs.Prelude.{◌↔◌, IsTrue}
use Rattle.std.proofs.Common.{subst, sym}
use Rattle.curve_lang.specs.Finding.{MayCall}
use Rattle.curve_lang.proofs.operators.may_call.Goals as goal

pub returns-in-PosDiff : goal.returns-in-PosDiff
returns-in-PosDiff c =
    subst (λ k. IsTrue c.is_finite.result ↔ MayCall k c.args.f.now c.args.g.now) (sym c.in-PosDiff.is) c.is_finite.ensures

pub returns-in-Deconv : goal.returns-in-Deconv
returns-in-Deconv c =
    subst (λ k. IsTrue c.is_finite-in-Deconv.result ↔ MayCall k c.args.f.now c.args.g.now) (sym c.in-Deconv.is)
    c.is_finite-in-Deconv.ensures
