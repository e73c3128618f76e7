use Rattle.std.specs.Prelude.{codes}
use Rattle.std.proofs.lemmas.Result.{on_ok_weaker}
use Rattle.input_texts.specs.plain_text.Numbers.{number_text}
use Rattle.exercise_load.specs.exercise_report.Summary.{bound_line}
use Rattle.exercise_load.proofs.exercise_report.Parts.{three_more}
use Rattle.exercise_load.proofs.exercise_report.summary.push_bound.Goals as goal

pub returns : goal.returns
unfolding bound_line
returns c =
    on_ok_weaker c.push_text-2.result
    (λ third. three_more c.args.into.now.items (codes "largest bound ") (number_text c.args.most.now) (codes "\n")
    c.push_text.new.into.items c.push_number.new.into.items c.push_text-2.new.into.items
    c.in_ok-push_text.ensures c.in_ok-push_number.ensures third)
    c.push_text-2.ensures
