-- The network that stored fields stand for.
use Rattle.std.specs.Prelude.{ℕ, List, map, Option}
use Rattle.std.specs.Option.{option_map}
use Rattle.std.specs.String.{string_bytes}
use Rattle.run_laws.specs.Servers as spec
use Rattle.net_model.specs.declared.server.Discipline.{Discipline}
use Rattle.net_model.specs.declared.server.Discipline.TheVariants.{Fifo, Priority, Drr}
use Rattle.net_model.specs.declared.server.Server.{Server}
use Rattle.net_model.specs.declared.flow.Flow.{Flow}
use Rattle.net_model.specs.Networks.{Net, NetServer, NetFlow}

abbrev pub discipline_of : Discipline → spec.Discipline
discipline_of Fifo = spec.Fifo
discipline_of (Priority queues) = spec.Priority queues
discipline_of (Drr quanta) = spec.Drr quanta.items

abbrev pub server_of : Server → NetServer
server_of s = record {
  name = string_bytes s.name;
  rate = s.rate;
  kind = s.kind;
  service = s.service;
  link = s.link;
  discipline = discipline_of s.discipline;
}

abbrev pub flow_of : Flow → NetFlow
flow_of f = record {
  name = string_bytes f.name;
  path = f.path.items;
  queues = f.queues.items;
  packet = f.packet;
  arrival = f.arrival;
}

abbrev pub servers_of : List Server → List NetServer
servers_of = map server_of

abbrev pub flows_of : List (Option Flow) → List (Option NetFlow)
flows_of = map (option_map flow_of)

abbrev pub net_of : ℕ → List Server → List (Option Flow) → Net
net_of version servers flows = record {
  version = version;
  servers = servers_of servers;
  flows = flows_of flows;
}
