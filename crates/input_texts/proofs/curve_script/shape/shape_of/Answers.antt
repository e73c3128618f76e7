use Rattle.std.proofs.Common.{[], ◌≡◌, ◌<◌, length, Bool, true, false, reverse, map, drop, ◌∙◌, sym, ap, arith}
use Rattle.std.specs.Prelude.{◌&&◌}
use Rattle.std.proofs.lemmas.Bool.{eqb-true, eqb-false}
use Rattle.std.proofs.lemmas.List.{drop_all, length-map}
use Rattle.input_texts.specs.curve_script.Lexing.{view}
use Rattle.input_texts.specs.curve_script.Shapes.{run}
use Rattle.input_texts.proofs.curve_script.Runs.{run_past, run_refused, run_kept, no_token, run_end, run_left, no_symbol}
use Rattle.input_texts.proofs.curve_script.shape.shape_of.Goals as goal
use Rattle.input_texts.proofs.curve_script.shape.shape_of.Goals.{then-numbers, else-numbers, then-is_empty, else-is_empty}

both_written : (n r m : Bool) → n ≡ true → m ≡ r → m ≡ (n && r)
both_written n r m e f = f ∙ ap (λ b. b && r) (sym e)

not_written : (n r m : Bool) → n ≡ false → m ≡ false → m ≡ (n && r)
not_written n r m e f = f ∙ ap (λ b. b && r) (sym e)

pub returns-in_default : goal.returns-in_default
returns-in_default c =
    let none : length c.loop-token.stack.items ≡ 0 = omega (arith, c.loop-token.stack.ok.0, c.in_default.ensures.cases.0) in
    sym (run_past c.loop-token.stack.items c.loop-token.numbers c.args.tokens.now c.loop-token.token-index (no_symbol _ none) c.loop-token-test.true) ∙ c.loop-token.invariant

pub returns-in_default-after : goal.returns-in_default-after
returns-in_default-after c =
    sym (run_refused c.loop-token.stack.items c.pop.new.self.items c.in-Some.symbol c.loop-token.numbers c.args.tokens.now c.loop-token.token-index no_token c.in-Some.ensures.items c.loop-token-test.true c.in_default-after.ensures) ∙ c.loop-token.invariant

pub loop-token-preserved : goal.loop-token-preserved
loop-token-preserved c =
    run_kept c.loop-token.stack.items c.pop.new.self.items c.push_all-in-loop-token.new.stack.items c.in-Some-after.behind.now c.in-Some.symbol c.loop-token.numbers c.if-numbers.numbers
    c.args.tokens.now c.loop-token.token-index no_token c.in-Some.ensures.items c.loop-token-test.true c.in-Some-after.ensures c.in_ok-push_all-2.ensures
    (elim c.if-numbers.branch [
      | then-numbers w ↦ both_written c.loop-token.numbers _ _ w.if-numbers.true (w.numbers-is ∙ w.writes_number-numbers.ensures)
      | else-numbers w ↦ not_written c.loop-token.numbers _ _ w.if-numbers.false (w.numbers-is ∙ w.if-numbers.false)
    ])
    ∙ c.loop-token.invariant

-- all tokens were read
all_read : (c : goal.After-drop-stack-2) → drop c.loop-token.token-index (map view c.args.tokens.now) ≡ []
all_read c = drop_all c.loop-token.token-index (map view c.args.tokens.now) (let e = length-map c.args.tokens.now view in let h = c.loop-token-test.false in omega arith)

pub returns : goal.returns
returns c = elim c.if-is_empty.branch [
  | then-is_empty w ↦
      let none : length c.loop-token.stack.items ≡ 0 = omega (arith, c.loop-token.stack.ok.0, eqb-true _ _ (sym c.is_empty.ensures ∙ w.if-is_empty.true)) in
      w.result-is ∙ sym (ap (run (reverse c.loop-token.stack.items) c.loop-token.numbers) (all_read c) ∙ run_end c.loop-token.stack.items c.loop-token.numbers (no_symbol _ none)) ∙ c.loop-token.invariant
  | else-is_empty w ↦
      let some = eqb-false _ _ (sym c.is_empty.ensures ∙ w.if-is_empty.false) in
      let left : 0 < length c.loop-token.stack.items = omega (arith, c.loop-token.stack.ok.0, some) in
      w.result-is ∙ sym (ap (run (reverse c.loop-token.stack.items) c.loop-token.numbers) (all_read c) ∙ run_left c.loop-token.stack.items c.loop-token.numbers left) ∙ c.loop-token.invariant
]
