-- How it is told what was found in a simulation.
use Rattle.report_text.specs.RunReport.{run_report_of}
use Rattle.exercise_load.specs.exercise_report.Summary.{summary_of}
use Rattle.command_replies.specs.run_findings.Findings.{FoundText}
use Rattle.commands.specs.declared.simulated.Telling.{Telling}
use Rattle.commands.specs.declared.simulated.Telling.TheVariants.{Report, Summary}

-- the text of it
abbrev pub text_by : Telling → FoundText
text_by Report = run_report_of
text_by (Summary seed) = summary_of seed
