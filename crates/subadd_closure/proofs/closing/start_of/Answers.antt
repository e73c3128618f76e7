use Rattle.std.proofs.Common.{◌≡◌, sym, ◌∙◌}
use Rattle.rational.specs.declared.Extended.TheVariants.{Fin, Inf}
use Rattle.rational.proofs.Laws.{le_refl}
use Rattle.min_plus.specs.Functions.{zero_q}
use Rattle.subadd_closure.proofs.FirstElements.{start_value}
use Rattle.subadd_closure.proofs.closing.start_of.Goals as goal

pub unreachable-requires : goal.unreachable-requires
unreachable-requires c =
    let (q, is) = c.requires zero_q (le_refl zero_q) in
    let both : Fin q ≡ Inf =
    sym is ∙ start_value c.args.f.now c.pieces.result.now _ c.pieces.ensures.pieces c.pieces.ensures.kept.normal.raw
    c.requires ∙ c.in-Inf.is in
    cc

pub returns : goal.returns
returns c =
    start_value c.args.f.now c.pieces.result.now _ c.pieces.ensures.pieces c.pieces.ensures.kept.normal.raw
    c.requires ∙ c.in-Fin.is
