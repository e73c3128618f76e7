use Rattle.std.specs.Prelude.{◌↔◌, IsTrue}
use Rattle.std.proofs.Common.{subst, sym}
use Rattle.curve_lang.specs.Finding.{MayCallWith}
use Rattle.curve_lang.proofs.operators.may_call_with.Goals as goal

pub returns-in-PosMinus : goal.returns-in-PosMinus
returns-in-PosMinus c =
    subst (λ k. IsTrue c.are_within.result ↔ MayCallWith k c.args.f.now c.args.x) (sym c.in-PosMinus.is) c.are_within.ensures

pub returns-in-Scale : goal.returns-in-Scale
returns-in-Scale c =
    subst (λ k. IsTrue c.are_within-in-Scale.result ↔ MayCallWith k c.args.f.now c.args.x) (sym c.in-Scale.is)
    c.are_within-in-Scale.ensures
