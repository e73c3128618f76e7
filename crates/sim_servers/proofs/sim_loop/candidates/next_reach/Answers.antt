use Rattle.std.specs.Prelude.{Some, ◌<◌, length, get_or}
use Rattle.std.proofs.Common.{arith, sym, ap, ◌∙◌}
use Rattle.std.proofs.lemmas.List.{get_or_default}
use Rattle.rational.specs.Rational.{int}
use Rattle.std.specs.Prelude.{pos}
use Rattle.queue_sched.specs.index_links.Chains.{list_at}
use Rattle.sim_servers.specs.declared.due.Due.{Due}
use Rattle.sim_servers.specs.declared.due.DueKind.TheVariants.{Reach}
use Rattle.sim_servers.specs.declared.sim_states.arrival.Arrival.{Arrival}
use Rattle.sim_servers.specs.sim_states.Running.{arrival_at, reach_first}
use Rattle.sim_servers.proofs.sim_loop.Merged.{first_has}
use Rattle.sim_servers.proofs.sim_loop.candidates.next_reach.Goals as goal

pub bounds-arrivals-packet : goal.bounds-arrivals-packet
bounds-arrivals-packet c =
    let h = c.are_disjoint.ensures.known c.args.link c.in-Some.packet (first_has (list_at c.args.links.now c.args.link) c.in-Some.packet (sym c.in-Some.ensures)) in
    omega (arith, h, c.requires.long)

pub bounds-arrivals-packet-in-Some : goal.bounds-arrivals-packet-in-Some
bounds-arrivals-packet-in-Some c =
    let h = c.are_disjoint.ensures.known c.args.link c.in-Some.packet (first_has (list_at c.args.links.now c.args.link) c.in-Some.packet (sym c.in-Some.ensures)) in
    omega (arith, h, c.requires.long)

pub bounds-arrivals-packet-in-Some-2 : goal.bounds-arrivals-packet-in-Some-2
bounds-arrivals-packet-in-Some-2 c =
    let h = c.are_disjoint.ensures.known c.args.link c.in-Some.packet (first_has (list_at c.args.links.now c.args.link) c.in-Some.packet (sym c.in-Some.ensures)) in
    omega (arith, h, c.requires.long)

pub bounds-arrivals-packet-in-Some-3 : goal.bounds-arrivals-packet-in-Some-3
bounds-arrivals-packet-in-Some-3 c =
    let h = c.are_disjoint.ensures.known c.args.link c.in-Some.packet (first_has (list_at c.args.links.now c.args.link) c.in-Some.packet (sym c.in-Some.ensures)) in
    omega (arith, h, c.requires.long)

pub returns-in-Some : goal.returns-in-Some
returns-in-Some c =
    let xs = c.args.arrivals.now in
    let p = c.in-Some.packet in
    let h = c.are_disjoint.ensures.known c.args.link p (first_has (list_at c.args.links.now c.args.link) p (sym c.in-Some.ensures)) in
    let known : p < length xs = omega (arith, h, c.requires.long) in
    let none : Arrival = record { server = 0; time = int (pos 0) } in
    let one = get_or_default xs p c.index-arrivals-packet.result none known in
    let two = get_or_default xs p c.index-arrivals-packet-in-Some.result none known in
    ap (λ (x : Arrival). let d : Due = record { time = x.time; kind = Reach; server = (get_or xs p c.index-arrivals-packet-in-Some.result).server; packet = p } in Some d) one
    ∙ ap (λ (x : Arrival). let d : Due = record { time = (arrival_at xs p).time; kind = Reach; server = x.server; packet = p } in Some d) two
    ∙ ap (reach_first xs) c.in-Some.ensures
