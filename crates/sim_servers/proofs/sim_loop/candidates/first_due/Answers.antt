use Rattle.std.specs.Prelude.{Some, ◌≡◌, length, slice_get}
use Rattle.std.proofs.Common.{arith, sym, ap, ◌∙◌, subst}
use Rattle.sim_servers.specs.Firsts.{IsFirstOf}
use Rattle.sim_servers.specs.sim_states.Running.{enter_first, IsFirstCandidate}
use Rattle.sim_servers.proofs.sim_loop.Merged.{first_entry, merged, found_at}
use Rattle.sim_servers.proofs.sim_loop.candidates.first_due.Goals as goal

pub loop-server-init : goal.loop-server-init
loop-server-init c = λ S e.
    let n = c.args.entered in
    first_entry S c.args.stations.now c.args.links.now c.args.arrivals.now n c.next_enter-first.result
    (c.next_enter-first.ensures ∙ ap (λ ps. enter_first (slice_get ps n) n) (sym e))

pub loop-server-preserved : goal.loop-server-preserved
loop-server-preserved c = λ S e.
    let xs = c.args.stations.now in
    let k = c.loop-server.server in
    let x = c.index-stations-server.result in
    let here = subst (λ o. IsFirstOf c.loop-server.first o c.keep_first.new.first) c.due_of.ensures c.keep_first.ensures in
    let both = subst (λ o. IsFirstOf c.keep_first.new.first o c.keep_first-in-loop-server.new.first) c.next_reach.ensures c.keep_first-in-loop-server.ensures in
    merged S xs c.args.links.now c.args.arrivals.now c.args.entered k x c.loop-server.first c.keep_first.new.first c.keep_first-in-loop-server.new.first
    (found_at xs k x c.loop-server-test.true ∙ ap (λ z. Some z) (sym c.index-stations-server.is)) (c.loop-server.invariant S e) here both

pub returns : goal.returns
returns c = λ S e.
    let k : c.loop-server.server ≡ length c.args.stations.now = omega (arith, c.loop-server-test.false, c.loop-server.auto.server-end) in
    subst (λ j. IsFirstCandidate S c.args.stations.now c.args.links.now c.args.arrivals.now c.args.entered j c.loop-server.first) k (c.loop-server.invariant S e)
