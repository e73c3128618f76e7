use Rattle.std.specs.Prelude.{get_or}
use Rattle.std.proofs.Common.{refl}
use Rattle.sim_servers.proofs.sim_loop.Merged.{found_at}
use Rattle.sim_servers.proofs.sim_loop.moves.leave_at.Goals as goal

pub returns : goal.returns
returns c = record {
  old = get_or c.args.stations.now c.args.server c.index-stations-server.result;
  new = c.leave.new.self;
  moved = record {
    was = found_at c.args.stations.now c.args.server c.index-stations-server.result c.requires.known;
    is = refl;
    room = c.leave.ensures.room;
  };
  same = c.leave.ensures.same;
  left = c.leave.ensures.left;
}
