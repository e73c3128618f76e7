use Rattle.std.proofs.Common.{◌≡◌, ◌≤◌, length, map, take, drop}
use Rattle.commands.specs.edit_report.Said.{said_view}
use Rattle.commands.specs.edit.NetHistories.{history_of}
use Rattle.commands.specs.edit.Answered.{AreAnswered}
use Rattle.commands.proofs.edit.InTurn.{LeavesWork}
use Rattle.commands.proofs.edit.rows.all_answered.Given as goal

abbrev pub invariant-loop-edit : goal.invariant-loop-edit
invariant-loop-edit g l = record {
  answered : AreAnswered (history_of l.fn.store) (take l.edit-index l.edits) (map said_view l.answers.items)
      (history_of l.store);
  deep : length l.store.before ≤ l.edit-index;
  rises : g.E.Evaluator.count l.fn.eval ≤ g.E.Evaluator.count l.eval;
  left : LeavesWork (history_of l.fn.store) l.edits (history_of l.store) (drop l.edit-index l.edits)
      (g.E.Evaluator.count l.fn.eval) (g.E.Evaluator.count l.eval);
  same : g.E.Evaluator.counter l.eval ≡ g.E.Evaluator.counter l.fn.eval;
}
