use Rattle.std.proofs.Common.{◌+◌, [], length, map, refl, sym, ap, subst, inl, inr, ⊎_elim, arith}
use Rattle.std.proofs.lemmas.List.{take_rest, length-map, length-drop, append-nil}
use Rattle.std.specs.List.{slice_range}
use Rattle.input_texts.specs.curve_script.Scripts.{line_view, IsScript, IsScriptFrom, Refuses}
use Rattle.input_texts.proofs.curve_script.ScriptSteps.{lines_over, next_line, script_kept, fault_kept, fault_found}
use Rattle.input_texts.proofs.curve_script.parsing.parse_script.Goals as goal

pub returns-in-Err-clause-fault : goal.returns-in-Err-clause-fault
returns-in-Err-clause-fault c =
    let lines = next_line c.args.text.now _ c.loop-start.start c.line_len.result c.loop-start-test.true (take_rest c.args.text.now c.loop-start.start) c.line_len.ensures.within c.line_len.ensures.none c.line_len.ensures.ends in
    ⊎_elim
    (λ memory. inl memory)
    (λ refused. inr (fault_found c.loop-start.number c.args.text.now _ _ _ (length (map line_view c.loop-start.lines.items)) c.in-Err.fault lines
    (subst (λ k. Refuses (c.loop-start.number + 1) k (slice_range c.args.text.now c.loop-start.start (c.loop-start.start + c.line_len.result)) c.in-Err.fault) (sym (length-map c.loop-start.lines.items line_view)) refused) c.loop-start.invariant.fault))
    c.in-Err.ensures.fault

pub loop-start-preserved : goal.loop-start-preserved
loop-start-preserved c =
    let lines = next_line c.args.text.now _ c.loop-start.start c.line_len.result c.loop-start-test.true (take_rest c.args.text.now c.loop-start.start) c.line_len.ensures.within c.line_len.ensures.none c.line_len.ensures.ends in
    let rest = ap length (take_rest c.args.text.now c.loop-start.start) in
    let within = c.line_len.ensures.within in
    record {
      near = omega (arith, length-drop c.loop-start.start c.args.text.now);
      counted = omega arith;
      script = script_kept c.loop-start.number c.args.text.now _ _ _ (map line_view c.loop-start.lines.items) (map line_view c.take_line.new.lines.items) lines c.in-Ok.ensures.ok c.loop-start.invariant.script;
      fault = fault_kept c.loop-start.number c.args.text.now _ _ _ (map line_view c.loop-start.lines.items) (map line_view c.take_line.new.lines.items) lines c.in-Ok.ensures.ok c.loop-start.invariant.fault;
    }

pub returns-clause-ok : goal.returns-clause-ok
returns-clause-ok c =
    let over = lines_over c.args.text.now c.loop-start.start c.loop-start-test.false in
    subst (λ l. IsScript c.args.text.now l) (append-nil (map line_view c.loop-start.lines.items))
    (c.loop-start.invariant.script [] (subst (λ ls. IsScriptFrom (c.loop-start.number + 1) (length (map line_view c.loop-start.lines.items)) ls []) (sym over) refl))
