use Rattle.std.proofs.Common.{◌≡◌, ◌≤◌, ◌-◌, ◌++◌, length, drop}
use Rattle.std.specs.Prelude.{option_map, map}
use Rattle.input_texts.specs.curve_script.Lexing.{lex, view}
use Rattle.input_texts.proofs.curve_script.token.tokens_of.Given as goal

abbrev pub invariant-loop-at : goal.invariant-loop-at
invariant-loop-at l = record {
  within : l.at ≤ length l.line;
  same : lex l.line ≡ option_map (λ ts. map view l.tokens.items ++ ts) (lex (drop l.at l.line));
}

abbrev pub decreases-loop-at : goal.decreases-loop-at
decreases-loop-at l = length l.line - l.at
