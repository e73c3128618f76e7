use Rattle.std.specs.Prelude.{get_or}
use Rattle.std.proofs.Common.{refl}
use Rattle.sim_servers.proofs.sim_loop.Merged.{found_at}
use Rattle.sim_servers.proofs.sim_loop.moves.arrive_at.Goals as goal

pub returns : goal.returns
returns c = record {
  old = get_or c.args.stations.now c.args.server c.index-stations-server.result;
  new = c.arrive.new.self;
  moved = record {
    was = found_at c.args.stations.now c.args.server c.index-stations-server.result c.requires.known;
    is = refl;
    room = c.arrive.ensures.room;
  };
  same = c.arrive.ensures.same;
  joined = c.arrive.ensures.joined;
}
