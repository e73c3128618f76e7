use Rattle.std.proofs.Common.{◌≡◌, ◌<◌, ◌∷◌, [], ◌++◌, length, arith, sym, ap, ◌∙◌, subst}
use Rattle.run_laws.specs.Servers.{Fifo}
use Rattle.run_laws.specs.Next.{next}
use Rattle.run_laws.specs.Cards.{Arrives}
use Rattle.queue_sched.specs.index_links.Chains.{Chains, list_at, IsFree, with_list}
use Rattle.queue_sched.specs.Waiting.{Waits}
use Rattle.queue_sched.proofs.WaitingLemmas.{is_free, waits_joined}
use Rattle.queue_sched.proofs.fifo.FifoSchedScheduler.arrive.Goals as goal

pub push_tail-requires-clause-free : goal.push_tail-requires-clause-free
push_tail-requires-clause-free c =
    subst (λ t. IsFree t c.args.packet) (sym c.self.view_is) (is_free c.args.self.now c.requires.state c.args.packet c.requires.stands c.requires.not_there)

pub returns-clause-joined : goal.returns-clause-joined
returns-clause-joined c = λ σ card t is card_is.
    let zero_queue : card.queue ≡ 0 = omega (arith, card_is.queue_is, c.requires.known_queue) in
    let one : card.queue < length c.args.self.now.lists =
    omega (arith, zero_queue, c.self.invariant, ap (λ (v : Chains). length v.lists) c.self.view_is) in
    let same : c.push_tail.new.self ≡ with_list c.args.self.now card.queue (list_at c.args.self.now card.queue ++ card.packet ∷ []) =
    c.push_tail.ensures ∙ ap (λ v. with_list v 0 (list_at v 0 ++ c.args.packet ∷ [])) c.self.view_is
    ∙ ap (λ q. with_list c.args.self.now q (list_at c.args.self.now q ++ c.args.packet ∷ [])) (sym zero_queue)
    ∙ ap (λ p. with_list c.args.self.now card.queue (list_at c.args.self.now card.queue ++ p ∷ [])) (sym card_is.packet_is) in
    subst (λ v. Waits v (next Fifo σ (Arrives card t))) (sym same) (waits_joined Fifo c.args.self.now σ card t is one)
