use Rattle.std.proofs.Common.{map, Ok, Err, refl}
use Rattle.input_texts.specs.curve_script.Scripts.{line_view}
use Rattle.curve_lang.specs.Views.{answer_view}
use Rattle.commands.proofs.curve.OnFaults.{on_found, on_answers, fault_is_no_report}
use Rattle.commands.proofs.curve.on_file.on_lines.Goals as goal

pub returns-in-Ok-clause-reply : goal.returns-in-Ok-clause-reply
returns-in-Ok-clause-reply g c =
    on_answers c.args.file.now (map line_view c.args.script.now.lines.items) (map answer_view c.in-Ok.answers.items)
    c.answered.result record { old = c.args.steps.now; new = c.eval_script.new.steps; finds = c.in-Ok.ensures.found } c.in-Ok.ensures.meaning (rw c.deref.ensures.value at c.answered.ensures)

pub returns-in-Ok-clause-counts : goal.returns-in-Ok-clause-counts
returns-in-Ok-clause-counts g c = record {
  told = Ok (map answer_view c.in-Ok.answers.items);
  finds = c.in-Ok.ensures.found;
  report = λ zero. (map answer_view c.in-Ok.answers.items, refl);
}

pub returns-in-Err-clause-reply : goal.returns-in-Err-clause-reply
returns-in-Err-clause-reply g c =
    on_found c.args.file.now (map line_view c.args.script.now.lines.items) c.in-Err.fault c.on_script_fault.result
    record { old = c.args.steps.now; new = c.eval_script.new.steps; finds = c.in-Err.ensures.found } c.on_script_fault.ensures.reply c.on_script_fault.ensures.told

pub returns-in-Err-clause-counts : goal.returns-in-Err-clause-counts
returns-in-Err-clause-counts g c = record {
  told = Err c.in-Err.fault;
  finds = c.in-Err.ensures.found;
  report = λ zero. absurd (fault_is_no_report c.args.file.now c.in-Err.fault c.on_script_fault.result c.on_script_fault.ensures.reply zero);
}
