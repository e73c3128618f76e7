use Rattle.std.proofs.Common.{List, Option, ap₂, ◌∙◌}
use Rattle.std.specs.Prelude.{slice_set}
use Rattle.std.specs.List.{list_all}
use Rattle.net_model.specs.Networks.{NetServer, NetFlow}
use Rattle.net_model.specs.Views.{server_of}
use Rattle.net_edits.specs.Values.{place_fits}
use Rattle.net_edits.proofs.quanta.server_fits.Goals as goal

pub returns : goal.returns
returns c =
    c.all_fit.ensures
    ∙ ap₂ (λ (ss : List NetServer) (fs : List (Option NetFlow)).
    list_all (place_fits (slice_set ss c.args.number (server_of c.args.server.now))) fs) c.servers.ensures.servers c.flows.ensures.flows
