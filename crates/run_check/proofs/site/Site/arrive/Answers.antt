use Rattle.std.specs.Prelude.{ℕ, ◌<◌}
use Rattle.std.proofs.Common.{sym, subst}
use Rattle.run_laws.specs.Servers.{queue_count}
use Rattle.run_check.proofs.site.Site.arrive.Goals as goal

pub arrive-requires : goal.arrive-requires
arrive-requires c =
    let k = c.requires.some.keeps in
    record {
      state = c.requires.some.state;
      stands = k.queues;
      not_there = c.requires.not_there;
      known_queue = subst (λ d. c.args.queue < queue_count d) (sym k.serves) c.requires.known_queue;
      known_packet = subst (λ (n : ℕ). c.args.packet < n) (sym k.has_room) c.requires.known_packet;
    }
