use Rattle.std.proofs.Common.{◌≡◌, None, arith, sym, ap, ◌∙◌, subst}
use Rattle.run_laws.specs.Servers.{Drr}
use Rattle.run_laws.specs.Next.{next}
use Rattle.run_laws.specs.Cards.{Arrives}
use Rattle.queue_sched.specs.index_links.Chains.{list_at, first_of, IsFree}
use Rattle.queue_sched.specs.DrrStates.{DrrState, WaitsInTurn, arrived}
use Rattle.queue_sched.proofs.WaitingLemmas.{is_free, same_packets}
use Rattle.queue_sched.specs.Waiting.{HasPacket}
use Rattle.queue_sched.proofs.DrrSteps.{state_of, turn_free, drr_joined, no_first, head_cases, none_of, some_not_none}
use Rattle.queue_sched.proofs.drr.DrrSchedScheduler.arrive.Goals as goal

pub join-requires-clause-free : goal.join-requires-clause-free
join-requires-clause-free c = λ e.
    let v : DrrState = c.args.self.now in
    let r = c.requires in
    let none : first_of (list_at v.waiting c.args.queue) ≡ None =
    ap (λ (s : DrrState). first_of (list_at s.waiting c.args.queue)) (sym c.self.view_is) ∙ sym c.first.ensures
    ∙ none_of c.first.result (sym c.is_some-waits.ensures ∙ e) in
    subst (λ (s : DrrState). IsFree s.turns c.args.queue) (sym c.self.view_is)
    (turn_free v r.state c.args.queue r.stands (head_cases v r.state c.args.queue r.stands none))

pub push_tail-requires-clause-free : goal.push_tail-requires-clause-free
push_tail-requires-clause-free c =
    subst (λ (v : DrrState). IsFree v.waiting c.args.packet) (sym c.self.view_is)
    (is_free c.args.self.now.waiting c.requires.state c.args.packet c.requires.stands.waits c.requires.not_there)

pub returns-clause-joined : goal.returns-clause-joined
returns-clause-joined c = λ σ card t is card_is.
    let v : DrrState = c.args.self.now in
    let waits = c.is_some-waits.result in
    let inside : DrrState =
    state_of c.self.inside.queues c.self.inside.turns c.self.inside.quanta.items c.self.inside.deficits.items c.self.inside.lengths.items c.self.inside.visited in
    let now : DrrState = record {
      waiting = c.push_tail.new.self;
      turns = c.join.new.turns;
      quanta = c.self.inside.quanta.items;
      deficits = c.self.inside.deficits.items;
      lengths = Rattle.std.proofs.Math.ListN.set c.self.inside.lengths.items c.args.packet c.args.bits;
      visited = c.self.inside.visited;
    } in
    let as_made : now ≡ arrived inside c.args.packet c.args.queue c.args.bits waits = cc (c.push_tail.ensures, c.join.ensures) in
    let same : now ≡ arrived v card.packet card.queue c.args.bits waits =
    as_made ∙ ap (λ s. arrived s c.args.packet c.args.queue c.args.bits waits) c.self.view_is
    ∙ ap (λ p. arrived v p c.args.queue c.args.bits waits) (sym card_is.packet_is)
    ∙ ap (λ q. arrived v card.packet q c.args.bits waits) (sym card_is.queue_is) in
    let result : c.first.result ≡ first_of (list_at v.waiting card.queue) =
    c.first.ensures ∙ ap (λ (s : DrrState). first_of (list_at s.waiting c.args.queue)) c.self.view_is
    ∙ ap (λ q. first_of (list_at v.waiting q)) (sym card_is.queue_is) in
    subst (λ w. WaitsInTurn w (next (Drr v.quanta) σ (Arrives card t))) (sym same)
    (drr_joined v σ card t c.args.bits waits is
    (λ has. c.requires.not_there (subst (λ p. HasPacket c.requires.state.inside p) card_is.packet_is (same_packets v.waiting σ c.requires.state card.packet is.waits c.requires.stands.waits has)))
    (omega (arith, card_is.queue_is, c.requires.known_queue))
    (omega (arith, card_is.packet_is, c.requires.known_packet, is.room.lengths)) card_is.bits_are (omega (arith, c.ranges.bits.fits))
    (λ e n. some_not_none c.first.result (sym c.is_some-waits.ensures ∙ e) (result ∙ no_first v σ card.queue is n))
    (λ e. head_cases v σ card.queue is (sym result ∙ none_of c.first.result (sym c.is_some-waits.ensures ∙ e))))
