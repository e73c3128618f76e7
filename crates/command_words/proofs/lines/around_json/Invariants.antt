use Rattle.std.proofs.Common.{◌≡◌, None, take}
use Rattle.command_words.specs.Lines.{texts, without_json}
use Rattle.command_words.proofs.lines.around_json.Given as goal

abbrev pub invariant-loop-place : goal.invariant-loop-place
invariant-loop-place l = without_json (texts (take l.place l.words)) ≡ None
