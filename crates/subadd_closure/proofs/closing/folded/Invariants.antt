use Rattle.std.proofs.Common.{◌≡◌, ◌+◌, map, take}
use Rattle.std.specs.Prelude.{Ok}
use Rattle.subadd_closure.specs.CurveParts.{part_of}
use Rattle.subadd_closure.specs.Folds.{PartsAnswer}
use Rattle.subadd_closure.specs.FoldWork.{parts_work}
use Rattle.subadd_closure.proofs.closing.folded.Given as goal

abbrev pub invariant-loop-i : goal.invariant-loop-i
invariant-loop-i g l = record {
  answer : PartsAnswer l.f (map (part_of l.f.tail) (take l.i l.es)) (Ok l.sofar);
  count : l.steps ≡ l.fn.steps + parts_work (map (part_of l.f.tail) (take l.i l.es));
}
