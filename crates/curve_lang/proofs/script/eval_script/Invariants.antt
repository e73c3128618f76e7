use Rattle.std.proofs.Common.{ℕ, drop, map, []}
use Rattle.input_texts.specs.curve_script.Scripts.{line_view}
use Rattle.curve_lang.specs.Found.{Told, ScriptFinds}
use Rattle.curve_lang.specs.Views.{let_view, answer_view}
use Rattle.curve_lang.proofs.script.eval_script.Given as goal

-- what the lines that are left find is what the script finds
abbrev pub invariant-loop-line : goal.invariant-loop-line
invariant-loop-line g l = (r : Told) (n : ℕ)
    → ScriptFinds (map let_view l.lets.items) (map answer_view l.answers.items) (map line_view (drop l.line-index l.line-items)) r l.steps n
    → ScriptFinds [] [] (map line_view l.line-items) r l.fn.steps n
