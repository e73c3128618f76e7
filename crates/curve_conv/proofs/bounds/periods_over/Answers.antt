use Rattle.std.specs.Prelude.{◌≤◌, ◌+◌}
use Rattle.std.proofs.Common.{arith, sym, true≢false}
use Rattle.rational.proofs.Laws.{not_zero, le_of_not_lt}
use Rattle.curve_conv.proofs.BoundsFound.{over_up, over_one}
use Rattle.curve_conv.proofs.bounds.periods_over.Goals as goal

pub returns-then-not-is_less : goal.returns-then-not-is_less
returns-then-not-is_less c = over_one c.args.gap c.args.lead (le_of_not_lt (λ h. true≢false (sym (c.if-not-is_less.ensures.less.1 h))))

pub div-requires : goal.div-requires
div-requires c = not_zero c.args.lead c.requires

pub returns-in-Ok : goal.returns-in-Ok
returns-in-Ok c =
    let less = c.saturating_sub.ensures in
    let most : c.size_up.result ≤ c.saturating_sub.result + 1 = omega (arith, less) in
    over_up c.args.gap c.args.lead c.in-Ok.number c.size_up.result (c.saturating_sub.result + 1) c.requires c.in-Ok.ensures.value c.size_up.ensures most
