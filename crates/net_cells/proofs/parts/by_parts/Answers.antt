use Rattle.std.proofs.Common.{◌≡◌, ℕ, suc, map, length, eqb, ap, ◌∙◌, arith}
use Rattle.std.specs.List.{filter, flat_map, range_with_len}
use Rattle.std.proofs.lemmas.List.{length-map}
use Rattle.net_model.specs.Views.{server_of}
use Rattle.net_cells.specs.declared.cell.Kind.TheVariants.{In}
use Rattle.net_cells.specs.Order.{at_visit}
use Rattle.net_cells.specs.Visits.{Visit}
use Rattle.net_cells.specs.QueueParts.{part_of}
use Rattle.net_cells.proofs.PartCounts.{more_cells}
use Rattle.net_cells.proofs.parts.by_parts.Goals as goal

pub loop-part-preserved : goal.loop-part-preserved
loop-part-preserved c =
    more_cells (λ (k : ℕ). filter (λ (x : Visit). eqb (part_of c.args.net.now x) k) c.args.here.now) c.loop-part.part
    c.loop-part.cells.items c.push_part.new.cells.items c.loop-part.invariant c.in_ok-push_part.ensures

pub returns : goal.returns
returns c =
    let count = ap length c.servers.ensures.servers in
    let all = length-map c.servers.result.now server_of in
    let last : c.loop-part.part ≡ suc (length c.args.net.now.servers) =
    omega (arith, count, all, c.loop-part-test.false, c.loop-part.auto.part-end) in
    c.loop-part.invariant
    ∙ ap (λ (n : ℕ). map (at_visit In) (flat_map (λ (k : ℕ). filter (λ (x : Visit). eqb (part_of c.args.net.now x) k) c.args.here.now) (range_with_len 0 n))) last
