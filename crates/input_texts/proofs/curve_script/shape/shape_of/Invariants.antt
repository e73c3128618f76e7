use Rattle.std.proofs.Common.{◌≡◌, true, reverse, map, drop}
use Rattle.input_texts.specs.curve_script.Lexing.{view}
use Rattle.input_texts.specs.curve_script.Shapes.{run}
use Rattle.input_texts.proofs.curve_script.shape.shape_of.Given as goal

abbrev pub invariant-loop-token : goal.invariant-loop-token
invariant-loop-token l =
    run (reverse l.stack.items) l.numbers (drop l.token-index (map view l.tokens)) ≡ run l.fn.symbols true (map view l.tokens)
