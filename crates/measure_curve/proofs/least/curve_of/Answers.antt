use Rattle.std.proofs.Common.{subst, sym, ap, ◌∙◌}
use Rattle.packet_windows.specs.declared.windows.Window.{Window}
use Rattle.std.specs.Prelude.{List}
use Rattle.packet_windows.specs.Scans.{EnterFrom, steps_after, no_window}
use Rattle.measure_curve.specs.Staircases.{Fit}
use Rattle.measure_curve.proofs.Measured.{sorted_of, steps_fit, measured_ok, rises_ok}
use Rattle.measure_curve.proofs.Widths.{stand}
use Rattle.measure_curve.proofs.least.curve_of.Goals as goal

pub windows_of-requires-clause-ordered : goal.windows_of-requires-clause-ordered
windows_of-requires-clause-ordered c =
    subst (EnterFrom 0) (sym (c.deref.ensures.value ∙ c.in_ok-entries.ensures)) (stand c.args.grid c.args.packets.now c.requires).up

pub staircase-requires : goal.staircase-requires
staircase-requires c =
    let ws = c.put_in_order.new.windows.items in
    let sorted = sorted_of c.args.grid c.args.packets.now c.deref.result.now c.in_ok-entries.entries.items c.in_ok-windows.windows.items ws c.deref.ensures.value c.in_ok-entries.ensures
    c.in_ok-windows.ensures c.put_in_order.ensures.permutation c.in_ok-put_in_order.ensures.ordered in
    let are = c.deref-3.ensures.value ∙ c.in_ok-steps.ensures ∙ ap (steps_after no_window) c.deref-2.ensures.value in
    subst (λ (ss : List Window). Fit c.args.grid ss) (sym are) (steps_fit c.args.grid c.args.packets.now ws c.requires sorted)

pub returns-clause-least : goal.returns-clause-least
returns-clause-least c =
    let ws = c.put_in_order.new.windows.items in
    let sorted = sorted_of c.args.grid c.args.packets.now c.deref.result.now c.in_ok-entries.entries.items c.in_ok-windows.windows.items ws c.deref.ensures.value c.in_ok-entries.ensures
    c.in_ok-windows.ensures c.put_in_order.ensures.permutation c.in_ok-put_in_order.ensures.ordered in
    let are = c.deref-3.ensures.value ∙ c.in_ok-steps.ensures ∙ ap (steps_after no_window) c.deref-2.ensures.value in
    measured_ok c.args.grid c.args.packets.now ws c.deref-3.result.now c.staircase.result c.requires sorted are c.staircase.ensures

pub returns-clause-rises : goal.returns-clause-rises
returns-clause-rises c =
    let ws = c.put_in_order.new.windows.items in
    let sorted = sorted_of c.args.grid c.args.packets.now c.deref.result.now c.in_ok-entries.entries.items c.in_ok-windows.windows.items ws c.deref.ensures.value c.in_ok-entries.ensures
    c.in_ok-windows.ensures c.put_in_order.ensures.permutation c.in_ok-put_in_order.ensures.ordered in
    let are = c.deref-3.ensures.value ∙ c.in_ok-steps.ensures ∙ ap (steps_after no_window) c.deref-2.ensures.value in
    rises_ok c.args.grid c.args.packets.now ws c.deref-3.result.now c.staircase.result c.requires sorted are c.staircase.ensures
