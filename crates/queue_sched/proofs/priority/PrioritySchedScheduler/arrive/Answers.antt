use Rattle.std.proofs.Common.{◌≡◌, ◌<◌, ◌∷◌, [], ◌++◌, length, arith, sym, ap, ◌∙◌, subst}
use Rattle.run_laws.specs.Servers.{Priority}
use Rattle.run_laws.specs.Next.{next}
use Rattle.run_laws.specs.Cards.{Arrives}
use Rattle.queue_sched.specs.index_links.Chains.{Chains, list_at, IsFree, with_list}
use Rattle.queue_sched.specs.Waiting.{Waits, PriorityState}
use Rattle.queue_sched.proofs.WaitingLemmas.{is_free, waits_joined}
use Rattle.queue_sched.proofs.priority.PrioritySchedScheduler.arrive.Goals as goal

pub push_tail-requires-clause-free : goal.push_tail-requires-clause-free
push_tail-requires-clause-free c =
    subst (λ (t : PriorityState). IsFree t.waiting c.args.packet) (sym c.self.view_is)
    (is_free c.args.self.now.waiting c.requires.state c.args.packet c.requires.stands.waits c.requires.not_there)

pub returns-clause-joined : goal.returns-clause-joined
returns-clause-joined c = λ σ card t is card_is.
    let v : Chains = c.args.self.now.waiting in
    let d = Priority (length v.lists) in
    let known : card.queue < length v.lists = omega (arith, card_is.queue_is, c.requires.known_queue) in
    let inside : c.self.inside.queues ≡ v = ap (λ (s : PriorityState). s.waiting) c.self.view_is in
    let same : c.push_tail.new.self ≡ with_list v card.queue (list_at v card.queue ++ card.packet ∷ []) =
    c.push_tail.ensures ∙ ap (λ w. with_list w c.args.queue (list_at w c.args.queue ++ c.args.packet ∷ [])) inside
    ∙ ap (λ q. with_list v q (list_at v q ++ c.args.packet ∷ [])) (sym card_is.queue_is)
    ∙ ap (λ p. with_list v card.queue (list_at v card.queue ++ p ∷ [])) (sym card_is.packet_is) in
    record {
      waits = subst (λ w. Waits w (next d σ (Arrives card t))) (sym same) (waits_joined d v σ card t is.waits known);
      served = λ u e. is.served u e ∙ ap (λ (s : PriorityState). s.serving) (sym c.self.view_is);
    }
