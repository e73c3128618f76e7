use Rattle.input_texts.proofs.table_text.PathTexts.{name_is_text}
use Rattle.input_texts.proofs.table_text.paths.name_text.Goals as goal

pub unreachable-requires : goal.unreachable-requires
unreachable-requires c = c.in-Err.ensures.cases.0 (name_is_text c.args.name.now c.requires)
