use Rattle.std.proofs.Common.{ap, ◌∙◌, sym}
use Rattle.std.specs.Prelude.{not}
use Rattle.net_edits.proofs.Found.{free_told, not_not}
use Rattle.net_edits.proofs.names.is_free.Goals as goal

pub returns : goal.returns
returns c =
    sym (not_not c.is_none.result) ∙ ap not (sym c.is_none.ensures)
    ∙ free_told c.args.net.now c.args.name.now c.flow_named.result c.keeps.ensures.names.1 c.flow_named.ensures
