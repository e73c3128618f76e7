use Rattle.std.proofs.Common.{map, ap, ◌∙◌, sym, arith}
use Rattle.std.proofs.lemmas.List.{take_all}
use Rattle.std.proofs.lemmas.Option.{get_or_from_slice_get}
use Rattle.document_tables.specs.Grids.{node_of}
use Rattle.document_tables.specs.Ports.{ports_view}
use Rattle.document_tables.proofs.GridSteps.{made_next}
use Rattle.document_tables.proofs.grid.nodes_of.Goals as goal

pub loop-place-preserved : goal.loop-place-preserved
loop-place-preserved c =
    let entries = c.args.tree.now.stops in
    let k = c.loop-place.place in
    let stop = c.stop-port.result in
    let make = node_of (ports_view c.args.ports.now).ports c.args.priority entries in
    let is = get_or_from_slice_get entries k stop stop c.stop-port.ensures in
    made_next make c.loop-place.nodes.items c.push.new.self.items c.node_of.result entries k stop (omega (arith, c.len-place-end.ensures, c.loop-place-test.true)) c.loop-place.invariant c.in_ok-push.ensures.items
    (c.node_of.ensures ∙ ap make (sym is))

pub returns : goal.returns
returns c =
    let entries = c.args.tree.now.stops in
    let make = node_of (ports_view c.args.ports.now).ports c.args.priority entries in
    c.loop-place.invariant ∙ ap (map make) (take_all c.loop-place.place entries (omega (arith, c.len-place-end.ensures, c.loop-place-test.false)))

pub node_of-requires : goal.node_of-requires
node_of-requires c = c.requires c.loop-place.place c.stop-port.result c.stop-port.ensures
