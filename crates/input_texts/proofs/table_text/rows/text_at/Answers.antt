use Rattle.std.proofs.Common.{sym}
use Rattle.csv.specs.Records.{fields_of}
use Rattle.input_texts.proofs.table_text.PlainTexts.{plain_is_text}
use Rattle.input_texts.proofs.table_text.rows.text_at.Goals as goal

pub unreachable-requires : goal.unreachable-requires
unreachable-requires c = c.in-Err.ensures.cases.0 (plain_is_text (fields_of c.args.row.now) c.args.place c.in-Some.bytes.now c.requires (sym c.in-Some.ensures.value))
