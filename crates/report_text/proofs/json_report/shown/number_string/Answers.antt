use Rattle.std.proofs.Common.{sym, subst}
use Rattle.std.specs.Str.{IsUtf8}
use Rattle.report_text.proofs.json_report.AsciiTexts.{number_is_text}
use Rattle.report_text.proofs.json_report.shown.number_string.Goals as goal

pub text_of-requires : goal.text_of-requires
text_of-requires c =
    subst IsUtf8 (sym (rw c.new-bytes.ensures.items at c.in_ok-push_number.ensures))
    (number_is_text c.args.number.now c.is_printable.ensures)
