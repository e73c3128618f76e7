-- The table of one flow over one server.
use Rattle.std.specs.Prelude.{codes}
use Rattle.std.proofs.Common.{refl}
use Rattle.rational.specs.declared.Extended.TheVariants.{Fin}
use Rattle.net_model.specs.declared.server.ServiceKind.TheVariants.{Latency}
use Rattle.run_laws.specs.Cards.{whole}
use Rattle.net_cells.specs.Equations.{MeetsEquations}
use Rattle.net_cells.specs.Meanings.{CellTable}
use Rattle.worked_runs.specs.OneFlow.{one_flow}
use Rattle.worked_runs.proofs.OneQueueTable.{OneQueue, table_of, meets_all}
use Rattle.worked_runs.proofs.Operators.{no_delay}
use Rattle.worked_runs.proofs.Rows.{nothing, after_10, service, packets, first_arrival, whole_packets, alone, first_delay_is, first_backlog_is}

abbrev one : OneQueue
one = record {
  server = codes "s1";
  rate = whole 100;
  kind = Latency (whole 10);
  served = service;
  flow = codes "f1";
  bits = 12000;
  come = first_arrival;
  packets = packets;
  delay = Fin (whole 130);
  backlog = Fin (whole 13300);
}

abbrev pub table : CellTable
table = table_of one

pub meets : MeetsEquations one_flow table
meets = meets_all one record {
  longest_is = refl;
  no_wait = no_delay (whole 100) (whole 10) after_10 nothing;
  left = alone;
  delay = first_delay_is;
  in_packets = whole_packets;
  backlog = first_backlog_is;
}
