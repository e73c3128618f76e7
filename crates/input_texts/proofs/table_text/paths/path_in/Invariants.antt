use Rattle.std.proofs.Common.{◌≡◌, ◌≤◌, ◌+◌, ◌-◌, map, length}
use Rattle.input_texts.specs.table_text.Paths.{entry_view, path_in}
use Rattle.input_texts.proofs.table_text.PathTexts.{joined, read_in, words_from}
use Rattle.input_texts.proofs.table_text.paths.path_in.Given as goal

abbrev pub invariant-loop-start : goal.invariant-loop-start
invariant-loop-start l = record {
  near : l.start ≤ length l.text + 1;
  read : joined (map entry_view l.entries.items) (read_in (words_from l.text l.start)) ≡ path_in l.text;
}

abbrev pub decreases-loop-start : goal.decreases-loop-start
decreases-loop-start l = length l.text + 1 - l.start
