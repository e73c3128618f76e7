use Rattle.std.proofs.Common.{◌≡◌, suc, ◌+◌, ◌-◌, length, sym, ap, subst, arith}
use Rattle.std.proofs.lemmas.List.{length-map}
use Rattle.net_model.specs.Views.{server_of}
use Rattle.outcomes.specs.Spending.{Counts}
use Rattle.cell_eval.specs.Parts.{MakesPart, AreMade, part_answer, part_work}
use Rattle.cell_eval.proofs.PartSteps.{none_made, next_made, refused_made}
use Rattle.std.specs.Prelude.{IfErr}
use Rattle.net_cells.specs.QueueParts.{in_part}
use Rattle.net_cells.specs.CellFormulas.{part_sum}
use Rattle.net_cells.specs.Refusals.{RefusedAt}
use Rattle.cell_eval.proofs.parts.parts_made.Goals as goal

pub part_made-requires-clause-curves : goal.part_made-requires-clause-curves
part_made-requires-clause-curves g c =
    let count = ap length c.servers.ensures.servers in
    let every = length-map c.servers.result.now server_of in
    λ i k e. c.requires c.loop-part.part i k (omega (arith, count, every, c.loop-part-test.true)) e

pub loop-part-init : goal.loop-part-init
loop-part-init g c =
    let at = g.T.Table.at c.args.inputs.now.table.now in
    subst (λ ps. AreMade at c.args.inputs.now.net.now c.args.place.0 c.args.place.1 0 ps c.args.steps.now c.args.steps.now) (sym c.new-parts.ensures)
    (none_made at c.args.inputs.now.net.now c.args.place.0 c.args.place.1 c.args.steps.now)

pub loop-part-preserved : goal.loop-part-preserved
loop-part-preserved g c =
    let at = g.T.Table.at c.args.inputs.now.table.now in
    let net = c.args.inputs.now.net.now in
    let s = c.args.place.0 in
    let q = c.args.place.1 in
    let n = c.loop-part.part in
    let part = subst (MakesPart at net s q n) c.in-Ok.is c.part_made.ensures.part in
    let counts = subst (λ r. Counts (part_work net s q n) c.loop-part.steps c.part_made.new.steps (part_answer at r)) c.in-Ok.is c.part_made.ensures.counts in
    subst (λ ps. AreMade at net s q (n + 1) ps c.args.steps.now c.part_made.new.steps) (sym c.keep.ensures)
    (next_made at net s q n c.loop-part.parts.items c.in-Ok.made c.args.steps.now c.loop-part.steps c.part_made.new.steps c.loop-part.invariant part counts.exact)

pub returns-in-Err-clause-refused : goal.returns-in-Err-clause-refused
returns-in-Err-clause-refused g c =
    let at = g.T.Table.at c.args.inputs.now.table.now in
    let net = c.args.inputs.now.net.now in
    let s = c.args.place.0 in
    let q = c.args.place.1 in
    let n = c.loop-part.part in
    let part = subst (MakesPart at net s q n) c.in-Err.is c.part_made.ensures.part in
    let counts = subst (λ r. Counts (part_work net s q n) c.loop-part.steps c.part_made.new.steps (part_answer at r)) c.in-Err.is c.part_made.ensures.counts in
    let refused = subst (λ r. IfErr r (λ e. RefusedAt at (part_sum net n (in_part net s q n)) e (c.part_made.new.steps - c.loop-part.steps)))
    c.in-Err.is c.part_made.ensures.refused in
    let count = ap length c.servers.ensures.servers in
    let every = length-map c.servers.result.now server_of in
    refused_made at net s q n c.loop-part.parts.items c.in-Err.fault c.args.steps.now c.loop-part.steps c.part_made.new.steps c.loop-part.invariant part
    refused counts
    (omega (arith, count, every, c.loop-part-test.true))

pub returns-clause-made : goal.returns-clause-made
returns-clause-made g c =
    let at = g.T.Table.at c.args.inputs.now.table.now in
    let count = ap length c.servers.ensures.servers in
    let every = length-map c.servers.result.now server_of in
    let last : c.loop-part.part ≡ suc (length c.args.inputs.now.net.now.servers) =
    omega (arith, count, every, c.loop-part-test.false, c.loop-part.auto.part-end) in
    let net = c.args.inputs.now.net.now in
    subst (λ n. AreMade at net c.args.place.0 c.args.place.1 n c.loop-part.parts.items c.args.steps.now c.loop-part.steps) last c.loop-part.invariant
