use Rattle.std.proofs.Common.{length, refl, ◌∙◌}
use Rattle.std.proofs.lemmas.List.{get_or_default, length-set}
use Rattle.std.proofs.lemmas.Option.{slice_get_read}
use Rattle.document_tables.proofs.GridSteps.{set_later}
use Rattle.document_tables.proofs.grid.take_tree.Goals as goal

pub returns-clause-tree : goal.returns-clause-tree
returns-clause-tree c =
    let trees = c.args.trees.now.items in
    slice_get_read trees (length trees) c.args.number c.replace.result refl c.requires
    (c.replace.ensures.value ∙ c.index_mut.ensures.value ∙ get_or_default trees c.args.number c.index_mut.result.now c.replace.result c.requires)

pub returns-clause-count : goal.returns-clause-count
returns-clause-count c = length-set c.args.trees.now.items c.args.number c.replace.new.dest

pub returns-clause-later : goal.returns-clause-later
returns-clause-later c = λ k h. set_later c.args.trees.now.items c.args.number k c.replace.new.dest h
