use Rattle.std.specs.Prelude.{get_or}
use Rattle.std.proofs.Common.{refl}
use Rattle.sim_servers.proofs.sim_loop.Merged.{found_at}
use Rattle.sim_servers.proofs.sim_loop.moves.turn_at.Goals as goal

pub start-requires : goal.start-requires
start-requires c =
    c.requires.idle (get_or c.args.stations.now c.args.server c.index-stations-server.result)
    (found_at c.args.stations.now c.args.server c.index-stations-server.result c.requires.known)

pub returns : goal.returns
returns c =
    let old = get_or c.args.stations.now c.args.server c.index-stations-server.result in
    record {
      old = old;
      new = record { queues = c.start.new.self; opening = old.opening; rate = old.rate; inside = old.inside; next = old.next };
      moved = record {
        was = found_at c.args.stations.now c.args.server c.index-stations-server.result c.requires.known;
        is = refl;
        room = c.start.ensures.room;
      };
      discipline = c.start.ensures.discipline;
      opening = refl;
      rate = refl;
      inside = refl;
      next = refl;
      turned = c.start.ensures.turn;
    }
