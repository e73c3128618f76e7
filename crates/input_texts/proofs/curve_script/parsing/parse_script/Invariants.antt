use Rattle.std.proofs.Common.{ℕ, ◌+◌, ◌-◌, ◌≤◌, List, ◌++◌, length, map}
use Rattle.input_texts.specs.declared.curve_script.fault.LangKind.{LangKind}
use Rattle.input_texts.specs.curve_script.Scripts.{Numbered, line_view, IsScriptFrom, IsScript, IsFaultFrom, IsFirstFault}
use Rattle.input_texts.proofs.curve_script.ScriptSteps.{lines_from}
use Rattle.input_texts.proofs.curve_script.parsing.parse_script.Given as goal

abbrev pub invariant-loop-start : goal.invariant-loop-start
invariant-loop-start l = record {
  near : l.start ≤ length l.text + 1;
  counted : l.number ≤ l.start;
  script : (out : List Numbered) → IsScriptFrom (l.number + 1) (length (map line_view l.lines.items)) (lines_from l.text l.start) out → IsScript l.text (map line_view l.lines.items ++ out);
  fault : (kind : LangKind) (at : ℕ) → IsFaultFrom (l.number + 1) (length (map line_view l.lines.items)) (lines_from l.text l.start) kind at → IsFirstFault l.text kind at;
}

abbrev pub decreases-loop-start : goal.decreases-loop-start
decreases-loop-start l = length l.text + 1 - l.start
