-- What the worked networks are made of: servers with 100 bits a unit of time after a latency of 10, and flows that are
-- token buckets. (Own choice.)
use Rattle.std.specs.Prelude.{ℕ, List, [], ◌∷◌, codes}
use Rattle.upp_curve.specs.Kinds.{bucket, rate_latency}
use Rattle.run_laws.specs.Cards.{whole}
use Rattle.run_laws.specs.Servers.{Discipline}
use Rattle.net_model.specs.declared.server.ServiceKind.TheVariants.{Latency}
use Rattle.net_model.specs.Networks.{NetServer, NetFlow}

-- by its name, its link and its discipline
abbrev pub late_server : List ℕ → ℕ → Discipline → NetServer
late_server name link discipline = record {
  name = name;
  rate = whole 100;
  kind = Latency (whole 10);
  service = rate_latency (whole 100) (whole 10);
  link = whole link;
  discipline = discipline;
}

-- by its name, the servers on its way, its queue at each, the bits of its longest packet, which are its burst too, and
-- its bits a unit of time
abbrev pub bucket_flow : List ℕ → (path queues : List ℕ) → (packet rate : ℕ) → NetFlow
bucket_flow name path queues packet rate = record {
  name = name;
  path = path;
  queues = queues;
  packet = packet;
  arrival = bucket (whole packet) (whole rate);
}

-- two flows over server 0 alone, in its queue 0
abbrev pub first_flow : NetFlow
first_flow = bucket_flow (codes "f1") (0 ∷ []) (0 ∷ []) 12000 10

abbrev pub second_flow : NetFlow
second_flow = bucket_flow (codes "f2") (0 ∷ []) (0 ∷ []) 6000 5
