use Rattle.std.proofs.Common.{arith, sym, subst, map, drop, length, [], ◌<◌, ◌≤◌, ◌+◌}
use Rattle.std.specs.Prelude.{Ok, Err, ◌∷◌}
use Rattle.input_texts.specs.curve_script.Views.{statement_view}
use Rattle.input_texts.specs.curve_script.Scripts.{line_view}
use Rattle.curve_lang.specs.Answers.{ScriptMeans}
use Rattle.curve_lang.specs.Found.{ScriptFinds}
use Rattle.curve_lang.specs.Scripts.{IsAdded}
use Rattle.curve_lang.specs.Views.{let_view, answer_view}
use Rattle.curve_lang.proofs.Scripting.{found_at_end, found_again, from_line, script_goes_on, script_stops}
use Rattle.curve_lang.proofs.script.eval_script.Goals as goal

pub returns-in-Err-clause-found : goal.returns-in-Err-clause-found
returns-in-Err-clause-found g c =
    let xs = c.deref-line-items.result.now in
    let i = c.loop-line.line-index in
    let line = c.line-item.result in
    let ls = map let_view c.loop-line.lets.items in
    let out = map answer_view c.loop-line.answers.items in
    let rest = map line_view (drop (i + 1) xs) in
    let ms = map let_view c.add.new.lets.items in
    let more = map answer_view c.add.new.answers.items in
    let old = c.loop-line.steps in
    let new = c.add.new.steps in
    let within : i < length xs = omega arith in
    let added = subst (λ x. IsAdded ls out (statement_view line.stat) ms more x old new) c.in-Err.is c.add.ensures in
    let told = subst (λ e. ScriptFinds ls out (line_view line ∷ rest) (Err e) old new) (sym c.fault_at.ensures)
    (script_stops (Unit {0}) (line_view line) ls ms out more rest c.in-Err.kind old new added) in
    subst (λ ys. ScriptFinds [] [] (map line_view ys) (Err c.fault_at.result) c.args.steps.now new) c.deref-line-items.ensures.value
    (c.loop-line.invariant (Err c.fault_at.result) new (from_line ls out xs i line (Err c.fault_at.result) old new within c.line-item.is told))

pub loop-line-preserved : goal.loop-line-preserved
loop-line-preserved g c = λ r n h.
    let ls = map let_view c.loop-line.lets.items in
    let ms = map let_view c.add.new.lets.items in
    let out = map answer_view c.loop-line.answers.items in
    let more = map answer_view c.add.new.answers.items in
    let xs = c.deref-line-items.result.now in
    let line = c.line-item.result in
    let i = c.loop-line.line-index in
    let within : i < length xs = omega arith in
    let between = c.add.new.steps in
    let added = subst (λ x. IsAdded ls out (statement_view line.stat) ms more x c.loop-line.steps between) c.in_default.is c.add.ensures in
    c.loop-line.invariant r n
    (from_line ls out xs i line r c.loop-line.steps n within c.line-item.is
    (script_goes_on c.in_default.field-0 (line_view line) ls ms out more (map line_view (drop (i + 1) xs)) r c.loop-line.steps between n added h))

pub returns-clause-found : goal.returns-clause-found
returns-clause-found g c =
    let xs = c.deref-line-items.result.now in
    let i = c.loop-line.line-index in
    let past : length xs ≤ i = omega arith in
    subst (λ ys. ScriptFinds [] [] (map line_view ys) (Ok (map answer_view c.loop-line.answers.items)) c.args.steps.now c.loop-line.steps) c.deref-line-items.ensures.value
    (found_at_end (map let_view c.loop-line.lets.items) (map answer_view c.loop-line.answers.items) xs i c.args.steps.now c.loop-line.steps past c.loop-line.invariant)

pub returns-clause-meaning : goal.returns-clause-meaning
returns-clause-meaning g c =
    let xs = c.deref-line-items.result.now in
    let i = c.loop-line.line-index in
    let past : length xs ≤ i = omega arith in
    subst (λ ys. ScriptMeans [] (map line_view ys) (map answer_view c.loop-line.answers.items)) c.deref-line-items.ensures.value
    (found_again (map let_view c.loop-line.lets.items) (map answer_view c.loop-line.answers.items) xs i c.args.steps.now c.loop-line.steps past c.loop-line.invariant)
