use Rattle.std.specs.Prelude.{get_or}
use Rattle.std.proofs.Common.{refl}
use Rattle.sim_servers.proofs.sim_loop.Merged.{found_at}
use Rattle.sim_servers.proofs.sim_loop.moves.work_at.Goals as goal

pub work-requires : goal.work-requires
work-requires c =
    let m = c.requires.may (get_or c.args.stations.now c.args.server c.index-stations-server.result)
    (found_at c.args.stations.now c.args.server c.index-stations-server.result c.requires.known) in
    record { order = m.order; some = m.some; opened = m.opened; room = m.room }

pub returns : goal.returns
returns c = record {
  old = get_or c.args.stations.now c.args.server c.index-stations-server.result;
  new = c.work.new.self;
  was = found_at c.args.stations.now c.args.server c.index-stations-server.result c.requires.known;
  is = refl;
  queues = c.work.ensures.queues;
  rate = c.work.ensures.rate;
  inside = c.work.ensures.inside;
  order = c.work.ensures.order;
  same = c.work.ensures.same;
  work = c.work.ensures.work;
  next = c.work.ensures.next;
}
