use Rattle.std.specs.Prelude.{Some, ◌≡◌, slice_get, ◌<◌, length, ℕ}
use Rattle.std.proofs.Common.{sym, ◌∙◌, subst, arith}
use Rattle.std.proofs.lemmas.List.{with_items_is}
use Rattle.net_model.specs.NetRoutes.{routes_of}
use Rattle.run_laws.specs.Lawful.{state_at}
use Rattle.run_check.specs.Sites.{IsOut}
use Rattle.run_check.proofs.WalkSteps.{changed_lists}
use Rattle.run_check.proofs.ReachRows.{is_out, not_out, known_entrance, enter_early, enter_takes, enter_told}
use Rattle.run_check.proofs.walk.Walk.enter.Goals as goal

pub returns-then-is_out_at : goal.returns-then-is_out_at
returns-then-is_out_at c = λ k.
    let net = routes_of c.args.net.now in
    let w = c.args.self.now in
    let s = c.entrance-server.result in
    let known : s < length net.servers = subst (λ (j : ℕ). j < length net.servers) (sym c.entrance-server.ensures) (known_entrance net w c.args.flow c.args.packet c.args.time c.args.bits k) in
    enter_early net w w c.args.flow c.args.packet c.args.time c.args.bits k c.args.end
    (subst (λ j. IsOut (state_at k.state j) c.args.end c.args.time) c.entrance-server.ensures
    (is_out net _ w k s c.args.end c.args.time c.is_out_at.result c.deref.ensures.value known c.is_out_at.ensures c.if-is_out_at.true))

pub arrive_row-requires-clause-take : goal.arrive_row-requires-clause-take
arrive_row-requires-clause-take c = λ x e.
    let net = routes_of c.args.net.now in
    let w = c.args.self.now in
    let k = c.requires in
    let s = c.entrance-server.result in
    let known : s < length net.servers = subst (λ (j : ℕ). j < length net.servers) (sym c.entrance-server.ensures) (known_entrance net w c.args.flow c.args.packet c.args.time c.args.bits k) in
    enter_takes net w c.args.flow c.args.packet c.args.time c.args.bits k c.args.end s c.queue_of-queue.result c.entrance-server.ensures
    (not_out net _ w k s c.args.end c.args.time c.is_out_at.result c.deref.ensures.value known c.is_out_at.ensures c.if-is_out_at.false)
    c.queue_of-queue.ensures x (subst (λ xs. slice_get xs s ≡ Some x) (c.deref_mut.ensures.value ∙ c.admit.ensures.sites) e)

pub returns : goal.returns
returns c = λ k.
    let net = routes_of c.args.net.now in
    let w = c.args.self.now in
    let v = c.admit.new.self in
    let s = c.entrance-server.result in
    let known : s < length net.servers = subst (λ (j : ℕ). j < length net.servers) (sym c.entrance-server.ensures) (known_entrance net w c.args.flow c.args.packet c.args.time c.args.bits k) in
    enter_told net w record { flows = v.flows; bits = v.bits; places = v.places; sites = Rattle.std.specs.Vec.with_items v.sites c.arrive_row.new.sites }
    c.args.flow c.args.packet c.args.time c.args.bits k c.args.end s c.queue_of-queue.result c.entrance-server.ensures
    (not_out net _ w k s c.args.end c.args.time c.is_out_at.result c.deref.ensures.value known c.is_out_at.ensures c.if-is_out_at.false)
    c.queue_of-queue.ensures
    (changed_lists c.arrive_row.ensures (c.deref_mut.ensures.value ∙ c.admit.ensures.sites) (with_items_is v.sites c.arrive_row.new.sites (omega (arith, c.arrive_row.auto.sites, c.deref_mut.ensures.len))))
    c.in_ok-admit.ensures.places c.in_ok-admit.ensures.flows c.in_ok-admit.ensures.bits
