use Rattle.std.specs.Prelude.{◌+◌}
use Rattle.std.proofs.Common.{sym, subst, ap, ◌∙◌}
use Rattle.std.proofs.lemmas.List.{length_push}
use Rattle.rational.proofs.Laws.{le_trans}
use Rattle.run_laws.specs.Cards.{Arrives}
use Rattle.run_laws.specs.Next.{next}
use Rattle.run_laws.specs.Routes.{server_at}
use Rattle.sim_servers.specs.Queues.{StandFor}
use Rattle.sim_servers.specs.Stations.{IsVacant, IsNextOf}
use Rattle.sim_servers.proofs.Openings.{same_server}
use Rattle.sim_servers.proofs.StationSteps.{arrive_next}
use Rattle.sim_servers.proofs.station.Station.arrive.Goals as goal

pub next_with_one_more-self-requires-clause-over : goal.next_with_one_more-self-requires-clause-over
next_with_one_more-self-requires-clause-over c = λ e k d h.
    let t = c.requires.take in
    let v : IsVacant t.state c.args.self.now.opening = subst (λ n. IsNextOf t.setup t.server t.state c.args.self.now.opening n) e t.keeps.next in
    le_trans (v.over k d h) t.in_time

pub returns-clause-joined : goal.returns-clause-joined
returns-clause-joined c = λ S s σ k keeps card now before. record {
  discipline = c.arrive.ensures.discipline ∙ keeps.discipline;
  queues = subst (λ d. StandFor c.arrive.new.self (next d σ (Arrives k c.args.time))) keeps.discipline
      (c.arrive.ensures.joined σ k c.args.time keeps.queues card);
  opening = same_server S s c.args.self.now.opening c.next_with_one_more-self.new.opening keeps.opening
      c.next_with_one_more-self.ensures.same c.next_with_one_more-self.ensures.order;
  rate = keeps.rate;
  inside = ap (λ n. n + 1) keeps.inside ∙ sym (length_push σ.inside k);
  next = arrive_next S s (server_at S.net s).discipline σ k c.args.time c.args.self.now.opening c.next_with_one_more-self.new.opening
      c.args.self.now.next c.next_with_one_more-self.result keeps.opening now before keeps.next c.next_with_one_more-self.ensures.next;
}
