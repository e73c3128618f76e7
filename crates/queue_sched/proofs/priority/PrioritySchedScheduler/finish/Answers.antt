use Rattle.std.proofs.Common.{◌≡◌, ◌<◌, None, Some, length, drop, arith, sym, ap, ◌∙◌, subst}
use Rattle.run_laws.specs.Servers.{Priority}
use Rattle.run_laws.specs.Next.{next}
use Rattle.run_laws.specs.Cards.{Leaves}
use Rattle.queue_sched.specs.index_links.Chains.{Chains, list_at, first_of, with_list}
use Rattle.queue_sched.specs.Waiting.{Waits, PriorityState}
use Rattle.queue_sched.proofs.WaitingLemmas.{waits_left, known_queue, head_first}
use Rattle.queue_sched.proofs.priority.PrioritySchedScheduler.finish.Goals as goal
use Rattle.queue_sched.proofs.priority.PrioritySchedScheduler.finish.Goals.{in-Some, in-None}

pub pop_head-requires : goal.pop_head-requires
pop_head-requires c =
    let r = c.requires in
    let known : r.under.card.queue < length c.args.self.now.waiting.lists =
    known_queue c.args.self.now.waiting r.state r.under.card.queue r.under.card r.stands.waits (r.stands.waits.first r.under r.busy) in
    omega (
      arith,
      known,
      r.stands.served r.under r.busy,
      ap (λ (s : PriorityState). s.serving) c.self.view_is,
      ap (λ (s : PriorityState). length s.waiting.lists) c.self.view_is,
    )

pub returns-clause-left : goal.returns-clause-left
returns-clause-left c = λ σ u is busy.
    let v : Chains = c.args.self.now.waiting in
    let d = Priority (length v.lists) in
    let known : u.card.queue < length v.lists = known_queue v σ u.card.queue u.card is.waits (is.waits.first u busy) in
    let inside : c.self.inside.queues ≡ v = ap (λ (s : PriorityState). s.waiting) c.self.view_is in
    let one : u.card.queue ≡ c.self.inside.serving = is.served u busy ∙ ap (λ (s : PriorityState). s.serving) (sym c.self.view_is) in
    let head : first_of (list_at c.self.inside.queues c.self.inside.serving) ≡ Some u.card.packet =
    ap (λ w. first_of (list_at w c.self.inside.serving)) inside ∙ ap (λ q. first_of (list_at v q)) (sym one)
    ∙ ap first_of (sym (is.waits.queues u.card.queue)) ∙ head_first u.card.queue σ.inside u.card (is.waits.first u busy) in
    let answer : c.pop_head.result ≡ Some u.card.packet = c.pop_head.ensures.first ∙ head in
    let rest : c.pop_head.new.self ≡ with_list v u.card.queue (drop 1 (list_at v u.card.queue)) =
    c.pop_head.ensures.rest ∙ ap (λ w. with_list w c.self.inside.serving (drop 1 (list_at w c.self.inside.serving))) inside
    ∙ ap (λ q. with_list v q (drop 1 (list_at v q))) (sym one) in
    record {
      packet_is = elim c.match-pop_head.branch [
        | in-Some w ↦ let e : Some w.in-Some.packet ≡ Some u.card.packet = sym w.in-Some.is ∙ answer in cc
        | in-None w ↦ absurd (let e : None ≡ Some u.card.packet = sym w.in-None.is ∙ answer in cc)
      ];
      moved = λ t. record {
        waits = subst (λ w. Waits w (next d σ (Leaves u.card t))) (sym rest) (waits_left d v σ u.card t is.waits known);
        served = λ s e. absurd (let f : None ≡ Some s = e in cc);
      };
    }
