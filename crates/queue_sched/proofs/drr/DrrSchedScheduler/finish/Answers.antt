use Rattle.std.proofs.Common.{◌≡◌, None, Some, length, drop, arith, sym, ap, ◌∙◌, subst}
use Rattle.run_laws.specs.Servers.{Drr}
use Rattle.run_laws.specs.Next.{next}
use Rattle.run_laws.specs.Cards.{Leaves}
use Rattle.queue_sched.specs.index_links.Chains.{list_at, first_of, with_list}
use Rattle.queue_sched.specs.DrrStates.{DrrState, WaitsInTurn, left_with, with_waiting}
use Rattle.queue_sched.proofs.DrrSteps.{state_of, is_visiting, drr_left}
use Rattle.queue_sched.proofs.drr.DrrSchedScheduler.finish.Goals as goal

pub pop_head-requires : goal.pop_head-requires
pop_head-requires c =
    let r = c.requires in
    let v : DrrState = c.args.self.now in
    let k = is_visiting v r.state r.under r.stands r.busy in
    let visit : v.visited ≡ Some c.in-Some.queue = ap (λ (v : DrrState). v.visited) (sym c.self.view_is) ∙ c.in-Some.is in
    let same : r.under.card.queue ≡ c.in-Some.queue = let f : Some r.under.card.queue ≡ Some c.in-Some.queue = sym k.visited ∙ visit in cc in
    omega (arith, same, k.known, r.stands.room.queues, ap (λ (v : DrrState). length v.waiting.lists) c.self.view_is)

pub returns-in-Some-pop_head-clause-left : goal.returns-in-Some-pop_head-clause-left
returns-in-Some-pop_head-clause-left c = λ σ u is busy.
    let v : DrrState = c.args.self.now in
    let q = c.in-Some.queue in
    let k = is_visiting v σ u is busy in
    let visit : v.visited ≡ Some q = ap (λ (v : DrrState). v.visited) (sym c.self.view_is) ∙ c.in-Some.is in
    let same : u.card.queue ≡ q = let f : Some u.card.queue ≡ Some q = sym k.visited ∙ visit in cc in
    let first : first_of (list_at v.waiting q) ≡ Some c.in-Some-pop_head.packet =
    ap (λ (v : DrrState). first_of (list_at v.waiting q)) (sym c.self.view_is) ∙ sym c.in-Some-pop_head.ensures.first in
    record {
      packet_is = (let f : Some u.card.packet ≡ Some c.in-Some-pop_head.packet = sym k.first ∙ ap (λ i. first_of (list_at v.waiting i)) same ∙ first in cc);
      moved = λ t.
          let inside : DrrState =
          state_of c.self.inside.queues c.self.inside.turns c.self.inside.quanta.items c.self.inside.deficits.items c.self.inside.lengths.items c.self.inside.visited in
          let popped : with_waiting inside c.pop_head.new.self ≡ with_waiting v (with_list v.waiting u.card.queue (drop 1 (list_at v.waiting u.card.queue))) =
          ap (with_waiting inside) c.pop_head.ensures.rest
          ∙ ap (λ (s : DrrState). with_waiting s (with_list s.waiting q (drop 1 (list_at s.waiting q)))) c.self.view_is
          ∙ ap (λ i. with_waiting v (with_list v.waiting i (drop 1 (list_at v.waiting i)))) (sym same) in
          let settled : c.settle.new.self ≡ left_with (first_of (list_at c.pop_head.new.self q)) (with_waiting inside c.pop_head.new.self) q = c.settle.ensures in
          subst (λ w. WaitsInTurn w (next (Drr v.quanta) σ (Leaves u.card t)))
          (sym (settled ∙ ap (λ (s : DrrState). left_with (first_of (list_at s.waiting q)) s q) popped
          ∙ ap (λ i. left_with (first_of (list_at (with_list v.waiting u.card.queue (drop 1 (list_at v.waiting u.card.queue))) i))
          (with_waiting v (with_list v.waiting u.card.queue (drop 1 (list_at v.waiting u.card.queue)))) i) (sym same)))
          (drr_left v σ u t is busy);
    }

pub returns-in-None-pop_head-clause-left : goal.returns-in-None-pop_head-clause-left
returns-in-None-pop_head-clause-left c = λ σ u is busy.
    let v : DrrState = c.args.self.now in
    let q = c.in-Some.queue in
    let k = is_visiting v σ u is busy in
    let visit : v.visited ≡ Some q = ap (λ (v : DrrState). v.visited) (sym c.self.view_is) ∙ c.in-Some.is in
    let same : u.card.queue ≡ q = let f : Some u.card.queue ≡ Some q = sym k.visited ∙ visit in cc in
    let first : first_of (list_at v.waiting q) ≡ None =
    ap (λ (v : DrrState). first_of (list_at v.waiting q)) (sym c.self.view_is) ∙ sym c.in-None-pop_head.ensures.first in
    absurd (let f : Some u.card.packet ≡ None = sym k.first ∙ ap (λ i. first_of (list_at v.waiting i)) same ∙ first in cc)
