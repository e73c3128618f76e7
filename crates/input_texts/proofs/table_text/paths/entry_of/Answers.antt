use Rattle.std.proofs.Common.{◌≡◌, true, string_bytes, sym, ◌∙◌}
use Rattle.input_texts.specs.table_text.Paths.{is_name}
use Rattle.input_texts.proofs.table_text.PathTexts.{entry_is}
use Rattle.input_texts.proofs.table_text.paths.entry_of.Goals as goal

pub returns : goal.returns
returns c =
    let named : is_name c.args.name.now ≡ true = sym c.is_name.ensures ∙ c.if-not-is_name.false in
    entry_is c.args.name.now c.args.digits.now (string_bytes c.in_ok-server.server) c.in-Some.number c.queue_number.result named c.in-Some.ensures.0 c.in-Some.ensures.1 c.queue_number.ensures
    (c.in_ok-server.ensures.ok ∙ c.name_text.ensures)
