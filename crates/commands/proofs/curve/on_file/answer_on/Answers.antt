use Rattle.std.proofs.Common.{map, inl, inr, refl}
use Rattle.std.proofs.lemmas.Result.{IfOk-weaker}
use Rattle.input_texts.specs.curve_script.Scripts.{line_view}
use Rattle.outcomes.specs.Stages.{stops, goes_on}
use Rattle.commands.proofs.curve.OnFaults.{on_misread, fault_is_no_report}
use Rattle.commands.proofs.curve.on_file.answer_on.Goals as goal

pub returns-in-Ok-clause-reply : goal.returns-in-Ok-clause-reply
returns-in-Ok-clause-reply g c =
    IfOk-weaker c.on_lines.result _ _ (λ r on. goes_on _ c.in-Ok.ensures.ok on) c.on_lines.ensures.reply

pub returns-in-Ok-clause-counts : goal.returns-in-Ok-clause-counts
returns-in-Ok-clause-counts g c = inr record {
  lines = map line_view c.in-Ok.script.lines.items;
  script = c.in-Ok.ensures.ok;
  counts = c.on_lines.ensures.counts;
}

pub returns-in-Err-clause-reply : goal.returns-in-Err-clause-reply
returns-in-Err-clause-reply g c =
    IfOk-weaker c.on_script_fault.result _ _ (λ r bad. stops bad)
    (on_misread c.args.file.now c.args.bytes.now c.in-Err.fault c.on_script_fault.result
    c.in-Err.ensures.fault c.on_script_fault.ensures.reply c.on_script_fault.ensures.told)

pub returns-in-Err-clause-counts : goal.returns-in-Err-clause-counts
returns-in-Err-clause-counts g c =
    inl (fault_is_no_report c.args.file.now c.in-Err.fault c.on_script_fault.result c.on_script_fault.ensures.reply, refl)
