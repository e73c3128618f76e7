use Rattle.std.proofs.Common.{String, rules, tests, sym, ◌∙◌}
use Rattle.std.specs.Prelude.{string_bytes}
use Rattle.std.specs.declared.alloc.Global.{Global}
use Rattle.std.proofs.lemmas.Iterator.{YieldsList-from_slice}
use Rattle.std.proofs.lemmas.Iterator.Search.{all_from_yields_List}
use Rattle.std.proofs.lemmas.List.Folds.{list_all-map}
use Rattle.command_words.specs.Lines.{is_operand}
use Rattle.netcalc_cli.proofs.words.are_operands.Goals as goal

pub returns : goal.returns
returns c =
    all_from_yields_List (λ (w : String Global). is_operand (string_bytes w)) _ _ _ c.all.ensures.ran
    (YieldsList-from_slice c.args.words.now cc) (λ x b q k. search (rules, tests))
    ∙ sym (list_all-map is_operand string_bytes c.args.words.now)
