use Rattle.std.specs.Prelude.{◌-◌}
use Rattle.std.proofs.Common.{arith, subst, ◌∙◌}
use Rattle.run_laws.specs.Cards.{Leaves}
use Rattle.run_laws.specs.Next.{next}
use Rattle.run_laws.specs.Routes.{server_at}
use Rattle.sim_servers.specs.Queues.{StandFor}
use Rattle.sim_servers.specs.Stations.{WillLeave, IsNextOf}
use Rattle.sim_servers.proofs.Openings.{same_server}
use Rattle.sim_servers.proofs.StationSteps.{stand_head, one_less, leave_next}
use Rattle.sim_servers.proofs.station.Station.leave.Goals as goal

pub finish-packet-requires : goal.finish-packet-requires
finish-packet-requires c =
    let l = c.requires.lose in
    let w : WillLeave l.state c.args.self.now.opening l.packet c.args.time =
    subst (λ n. IsNextOf l.setup l.server l.state c.args.self.now.opening n) l.due l.keeps.next in
    record { state = l.state; stands = l.keeps.queues; under = w.under; busy = w.is_under }

pub overflow_sub-self : goal.overflow_sub-self
overflow_sub-self c =
    let l = c.requires.lose in
    let w : WillLeave l.state c.args.self.now.opening l.packet c.args.time =
    subst (λ n. IsNextOf l.setup l.server l.state c.args.self.now.opening n) l.due l.keeps.next in
    let n = one_less w.under.card.queue l.state.inside w.under.card (stand_head c.args.self.now.queues l.state w.under l.keeps.queues w.is_under) in
    omega (arith, l.keeps.inside, n)

pub next_with_one_less-self-requires-clause-over : goal.next_with_one_less-self-requires-clause-over
next_with_one_less-self-requires-clause-over c =
    let l = c.requires.lose in
    let w : WillLeave l.state c.args.self.now.opening l.packet c.args.time =
    subst (λ n. IsNextOf l.setup l.server l.state c.args.self.now.opening n) l.due l.keeps.next in
    w.over

pub returns-clause-left : goal.returns-clause-left
returns-clause-left c = λ S s σ u keeps e.
    let f = c.finish-packet.ensures.left σ u keeps.queues e in
    let n = one_less u.card.queue σ.inside u.card (stand_head c.args.self.now.queues σ u keeps.queues e) in (
      f.packet_is,
      record {
        discipline = c.finish-packet.ensures.discipline ∙ keeps.discipline;
        queues = subst (λ d. StandFor c.finish-packet.new.self (next d σ (Leaves u.card c.args.time))) keeps.discipline (f.moved c.args.time);
        opening = same_server S s c.args.self.now.opening c.next_with_one_less-self.new.opening keeps.opening
            c.next_with_one_less-self.ensures.same c.next_with_one_less-self.ensures.order;
        rate = keeps.rate;
        inside = omega (arith, keeps.inside, n);
        next = leave_next S s (server_at S.net s).discipline σ u.card c.args.time c.args.self.now.opening c.next_with_one_less-self.new.opening
            (c.args.self.now.inside - 1) c.next_with_one_less-self.result keeps.opening (omega (arith, keeps.inside, n)) c.next_with_one_less-self.ensures.next;
      },
    )
