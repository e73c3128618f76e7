use Rattle.std.proofs.Common.{sym, subst}
use Rattle.sim_servers.specs.declared.station.Next.TheVariants.{Start}
use Rattle.sim_servers.specs.Stations.{IsWithOneMore}
use Rattle.sim_servers.proofs.StationSteps.{one_more_same}
use Rattle.sim_servers.proofs.station.next_with_one_more.Goals as goal

pub returns-in-Nothing-clause-next : goal.returns-in-Nothing-clause-next
returns-in-Nothing-clause-next c =
    subst (λ n. IsWithOneMore c.args.opening.now c.opens.new.self n c.args.time (Start c.opens.result)) (sym c.in-Nothing.is)
    (c.opens.ensures.opens, c.opens.ensures.opened)

pub returns-in_default-clause-next : goal.returns-in_default-clause-next
returns-in_default-clause-next c = one_more_same c.args.opening.now c.args.next c.args.time c.in_default.not-Nothing
