use Rattle.std.proofs.Common.{Some, sym, ap, ◌∙◌}
use Rattle.net_model.specs.Views.{server_of}
use Rattle.cell_rules.proofs.edit_sites.PutBack.{server_back}
use Rattle.cell_rules.proofs.edit_sites.replaced.server_at.Goals as goal

pub returns-in_ok-copy-in-Some : goal.returns-in_ok-copy-in-Some
returns-in_ok-copy-in-Some c = λ new made.
    server_back c.args.net.now new c.args.number (server_of c.in_ok-copy-in-Some.field-0)
    (sym c.in-Some.ensures.server ∙ ap Some (sym c.in_ok-copy-in-Some.ensures)) made
