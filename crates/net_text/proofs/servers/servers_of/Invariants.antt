use Rattle.std.specs.List.{AllZip}
use Rattle.std.proofs.Common.{map, take, drop}
use Rattle.net_model.specs.Views.{servers_of}
use Rattle.net_draft.specs.Views.{server_text}
use Rattle.net_text.specs.Built.{IsServerOf}
use Rattle.net_text.specs.Firsts.{services_from}
use Rattle.net_text.proofs.Firsts.{Leads}
use Rattle.net_text.proofs.servers.servers_of.Given as goal

abbrev pub invariant-loop-number : goal.invariant-loop-number
invariant-loop-number l = record {
  built : AllZip IsServerOf (map server_text (take l.number l.drafts)) (servers_of l.servers.items);
  leads : Leads (services_from l.number (map server_text (drop l.number l.drafts))) (services_from 0 (map server_text l.drafts));
}
