use Rattle.std.proofs.Common.{sym, ◌∙◌}
use Rattle.curve_library.proofs.ListedParts.{starts_with}
use Rattle.curve_library.proofs.listing.starts_at_zero.Goals as goal

pub returns-in-len1-up : goal.returns-in-len1-up
returns-in-len1-up c =
    let e = starts_with c.args.c.now c.pieces.result.now c.first-item.result c.pieces.ensures.kept.normal c.pieces.ensures.pieces c.in-len1-up.len_at_least c.first-item.is in
    (λ h. e ∙ c.is_zero.ensures.0 h, λ h. c.is_zero.ensures.1 (sym e ∙ h))
