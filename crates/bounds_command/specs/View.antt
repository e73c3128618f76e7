-- What the code's form and answer stand for.
use Rattle.std.specs.Prelude.{ℕ, List}
pub use Rattle.replies.specs.View.{code_of, reply_of}
use Rattle.bounds_report.specs.Data.{report_json}
use Rattle.bounds_report.specs.Lines.{report_lines}
use Rattle.bounds_report.specs.declared.rows.Report.{Report}
use Rattle.bounds_command.specs.declared.form.Form.{Form}
use Rattle.bounds_command.specs.declared.form.Form.TheVariants.{Lines, Json}

-- the text of a report
abbrev pub text_in : Form → Report → List ℕ
text_in Lines report = report_lines report
text_in Json report = report_json report
