use Rattle.std.proofs.Common.{sym, ◌∙◌}
use Rattle.cell_store.proofs.edit_store.PutBack.{is_present}
use Rattle.cell_store.proofs.edit_store.spare.Spare.take.Goals as goal

pub returns-in-Some-clause-same : goal.returns-in-Some-clause-same
returns-in-Some-clause-same c =
    is_present c.args.self.now.net c.args.present.now c.in-Some.net c.requires (sym c.take.ensures.value ∙ c.in-Some.is)
