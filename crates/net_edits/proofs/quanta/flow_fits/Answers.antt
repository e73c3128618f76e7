use Rattle.std.proofs.Common.{List, ℕ, Some, sym, ap, ◌∙◌}
use Rattle.net_model.specs.Networks.{NetServer}
use Rattle.net_model.specs.Views.{flow_of}
use Rattle.net_edits.specs.Values.{fits_along}
use Rattle.net_edits.proofs.Flows.{changed_fits}
use Rattle.net_edits.proofs.FlowEdits.{live_place}
use Rattle.net_edits.proofs.quanta.flow_fits.Goals as goal

pub returns : goal.returns
returns c = λ i live.
    let net = c.args.net.now in
    let flow = flow_of c.args.flow.now in
    let old = live_place net i c.servers.ensures.kept live in
    c.fits_along.ensures
    ∙ ap (λ (ss : List NetServer). fits_along ss flow.packet c.deref.result.now c.deref-2.result.now) c.servers.ensures.servers
    ∙ ap (λ (xs : List ℕ). fits_along net.servers flow.packet xs c.deref-2.result.now) c.deref.ensures.value
    ∙ ap (λ (xs : List ℕ). fits_along net.servers flow.packet flow.path xs) c.deref-2.ensures.value
    ∙ sym (changed_fits net i old.flow (Some flow) c.servers.ensures.kept old.at)
