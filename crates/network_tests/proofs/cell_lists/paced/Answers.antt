use Rattle.std.proofs.Common.{arith, sym, subst}
use Rattle.net_model.specs.Accepted.{IsAccepted}
use Rattle.net_model.specs.Views.{flows_of}
use Rattle.network_tests.proofs.cell_lists.paced.Goals as goal

pub of_version-requires : goal.of_version-requires
of_version-requires c =
    let e = c.into_parts-servers.ensures in
    let a = e.kept in
    let net = c.args.net in
    subst (λ s. IsAccepted record { version = 2; servers = s; flows = flows_of c.into_parts-servers.result.1.items }) (sym e.servers)
    (subst (λ f. IsAccepted record { version = 2; servers = net.servers; flows = f }) (sym e.flows) record {
      version = (omega arith, omega arith);
      few_servers = a.few_servers;
      few_flows = a.few_flows;
      names = a.names;
      servers = a.servers;
      flows = a.flows;
    })
