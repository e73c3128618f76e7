use Rattle.std.specs.Prelude.{◌<◌, ◌^◌}
use Rattle.std.proofs.Common.{◌∙◌, sym, true≢false, inl, inr}
use Rattle.std.proofs.lemmas.Bool.{cases_lt}
use Rattle.measure_curve.specs.Grids.{width_of}
use Rattle.measure_curve.specs.Windows.{of_flow}
use Rattle.measure_curve.proofs.Answers.{grid_known}
use Rattle.measure_curve.proofs.packets.grid_of_flow.Goals as goal

pub returns : goal.returns
returns c =
    let ps = of_flow c.args.flow c.args.packets.now in
    let told = c.is_wide.ensures ps c.sizes_of-sizes.ensures c.bits_of.ensures in
    let narrow : width_of ps < 2 ^ 120 = elim (cases_lt (width_of ps) (2 ^ 120)) [
      | inl l ↦ l
      | inr g ↦ absurd (true≢false (sym (told.1 g) ∙ c.if-is_wide.false))
    ] in
    (grid_known c.sizes_of-sizes.result ps c.sizes_of-sizes.ensures narrow, narrow)
