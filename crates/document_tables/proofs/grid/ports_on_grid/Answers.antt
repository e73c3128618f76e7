use Rattle.std.proofs.Common.{List, ◌≡◌, map, get_or, sym, ap, subst, ◌∙◌, arith}
use Rattle.std.proofs.lemmas.List.{get_or-map, length-map, take_all}
use Rattle.document_rows.specs.PortRows.{port_view}
use Rattle.document_tables.specs.Ranges.{IsPortText}
use Rattle.document_rows.specs.declared.port_rows.PortRow.{PortRow}
use Rattle.document_tables.specs.Grids.{grid_port, port_on_grid}
use Rattle.document_tables.proofs.GridSteps.{seen_next}
use Rattle.document_tables.proofs.grid.ports_on_grid.Goals as goal

pub port_of-requires : goal.port_of-requires
port_of-requires c =
    let rows = c.args.rows.now in
    let k = c.loop-place.place in
    let row = c.index-rows-place.result in
    let n = length-map rows port_view in
    let below = c.loop-place-test.true in
    let at : get_or (map port_view rows) k (port_view row) ≡ port_view row = get_or-map port_view rows k row (port_view row) (omega arith) ∙ ap port_view (sym c.index-rows-place.is) in
    subst IsPortText at (c.requires k (port_view row) (omega (arith, n, below)))

pub loop-place-preserved : goal.loop-place-preserved
loop-place-preserved c =
    let rows = c.args.rows.now in
    let row = c.index-rows-place.result in
    seen_next grid_port port_on_grid port_view c.loop-place.ports.items c.push.new.self.items c.in_ok-port_of.field-0 rows c.loop-place.place row c.loop-place-test.true
    c.loop-place.invariant c.in_ok-push.ensures.items
    (c.in_ok-port_of.ensures ∙ ap (λ (r : PortRow). port_on_grid (port_view r)) c.index-rows-place.is)

pub returns : goal.returns
returns c =
    c.loop-place.invariant ∙ ap (λ (rs : List PortRow). map port_on_grid (map port_view rs)) (take_all c.loop-place.place c.args.rows.now c.loop-place-test.false)
