use Rattle.std.proofs.Common.{◌≡◌, None, Some, length, arith, sym, ap, ◌∙◌, subst}
use Rattle.run_laws.specs.Servers.{Drr}
use Rattle.queue_sched.specs.index_links.Chains.{list_at, first_of}
use Rattle.queue_sched.proofs.index_links.Popped.{first_has}
use Rattle.queue_sched.specs.DrrStates.{DrrState, WaitsInTurn}
use Rattle.queue_sched.specs.Turns.{Sends}
use Rattle.queue_sched.proofs.WaitingLemmas.{known_queue}
use Rattle.queue_sched.proofs.DrrSteps.{some_first, ready_head, first_waits, drr_sends, drr_visits, drr_none}
use Rattle.queue_sched.proofs.drr.DrrSchedScheduler.start.Goals as goal

pub first-requires : goal.first-requires
first-requires c =
    let r = c.requires in
    let visit : c.args.self.now.visited ≡ Some c.in-Some.queue = ap (λ (v : DrrState). v.visited) (sym c.self.view_is) ∙ c.in-Some.is in
    let k = r.stands.turn.ready c.in-Some.queue visit r.idle in
    let known = known_queue c.args.self.now.waiting r.state c.in-Some.queue k.0 r.stands.waits k.1 in
    omega (arith, known, ap (λ (v : DrrState). length v.waiting.lists) c.self.view_is)

pub returns-in_err-packet-in-Some-clause-turn : goal.returns-in_err-packet-in-Some-clause-turn
returns-in_err-packet-in-Some-clause-turn c = λ σ is idle.
    let visit : c.args.self.now.visited ≡ Some c.in-Some.queue = ap (λ (v : DrrState). v.visited) (sym c.self.view_is) ∙ c.in-Some.is in
    let k = is.turn.ready c.in-Some.queue visit idle in
    let first = some_first c.args.self.now σ c.in-Some.queue k.0 is k.1 in
    let none : first_of (list_at c.args.self.now.waiting c.in-Some.queue) ≡ None =
    ap (λ (v : DrrState). first_of (list_at v.waiting c.in-Some.queue)) (sym c.self.view_is) ∙ sym c.in_err-packet-in-Some.ensures in
    absurd (let f : None ≡ Some k.0.packet = sym none ∙ first in cc)

pub spend-requires-clause-packet : goal.spend-requires-clause-packet
spend-requires-clause-packet c =
    let first : first_of (list_at c.self.inside.queues c.in-Some.queue) ≡ Some c.in_ok-packet-in-Some.packet = sym c.in_ok-packet-in-Some.ensures in
    let k = c.are_disjoint.ensures.known c.in-Some.queue c.in_ok-packet-in-Some.packet
    (first_has (list_at c.self.inside.queues c.in-Some.queue) c.in_ok-packet-in-Some.packet first) in
    omega (arith, k, c.requires.stands.room.lengths, ap (λ (v : DrrState). v.waiting.nodes) c.self.view_is)

pub spend-requires-clause-enough : goal.spend-requires-clause-enough
spend-requires-clause-enough c =
    let r = c.requires in
    let visit : c.args.self.now.visited ≡ Some c.in-Some.queue = ap (λ (v : DrrState). v.visited) (sym c.self.view_is) ∙ c.in-Some.is in
    let first : first_of (list_at c.args.self.now.waiting c.in-Some.queue) ≡ Some c.in_ok-packet-in-Some.packet =
    ap (λ (v : DrrState). first_of (list_at v.waiting c.in-Some.queue)) (sym c.self.view_is) ∙ sym c.in_ok-packet-in-Some.ensures in
    let f = ready_head c.args.self.now r.state c.in-Some.queue c.in_ok-packet-in-Some.packet r.stands r.idle visit first in
    omega (arith, f.length_is, f.fits_now)

pub returns-in_err-queue-in-None-clause-turn : goal.returns-in_err-queue-in-None-clause-turn
returns-in_err-queue-in-None-clause-turn c = λ σ is idle.
    let none : first_of (list_at c.args.self.now.turns 0) ≡ None =
    ap (λ (v : DrrState). first_of (list_at v.turns 0)) (sym c.self.view_is) ∙ sym c.in_err-queue-in-None.ensures in
    rw c.from_residual-in_err-queue-in-None.ensures (drr_none c.args.self.now σ is none, is)

pub turn_to-requires-clause-queue : goal.turn_to-requires-clause-queue
turn_to-requires-clause-queue c =
    let r = c.requires in
    let first : first_of (list_at c.args.self.now.turns 0) ≡ Some c.in_ok-queue-in-None.queue =
    ap (λ (v : DrrState). first_of (list_at v.turns 0)) (sym c.self.view_is) ∙ sym c.in_ok-queue-in-None.ensures in
    let f = first_waits c.args.self.now r.state c.in_ok-queue-in-None.queue r.stands first in
    omega (arith, f.known, r.stands.turn.long)

pub returns-in_ok-packet-in-Some-clause-turn : goal.returns-in_ok-packet-in-Some-clause-turn
returns-in_ok-packet-in-Some-clause-turn c = λ σ is idle.
    let v : DrrState = c.args.self.now in
    let visit : v.visited ≡ Some c.in-Some.queue = ap (λ (v : DrrState). v.visited) (sym c.self.view_is) ∙ c.in-Some.is in
    let first : first_of (list_at v.waiting c.in-Some.queue) ≡ Some c.in_ok-packet-in-Some.packet =
    ap (λ (v : DrrState). first_of (list_at v.waiting c.in-Some.queue)) (sym c.self.view_is) ∙ sym c.in_ok-packet-in-Some.ensures in
    subst (λ w. Sends (Drr v.quanta) (WaitsInTurn w) σ c.in_ok-packet-in-Some.packet) (sym c.spend.ensures)
    (drr_sends v σ c.in-Some.queue c.in_ok-packet-in-Some.packet is idle visit first)

pub returns-in_ok-queue-in-None-clause-turn : goal.returns-in_ok-queue-in-None-clause-turn
returns-in_ok-queue-in-None-clause-turn c = λ σ is idle.
    let v : DrrState = c.args.self.now in
    let visit : v.visited ≡ None = ap (λ (v : DrrState). v.visited) (sym c.self.view_is) ∙ c.in-None.is in
    let first : first_of (list_at v.turns 0) ≡ Some c.in_ok-queue-in-None.queue =
    ap (λ (v : DrrState). first_of (list_at v.turns 0)) (sym c.self.view_is) ∙ sym c.in_ok-queue-in-None.ensures in
    let k = drr_visits v σ c.in_ok-queue-in-None.queue is idle visit first in
    (k.0, λ t. subst (λ w. WaitsInTurn w (Rattle.run_laws.specs.Next.next (Drr v.quanta) σ (Rattle.run_laws.specs.Cards.Visits c.in_ok-queue-in-None.queue t))) (sym c.turn_to.ensures) (k.1 t), k.2)
