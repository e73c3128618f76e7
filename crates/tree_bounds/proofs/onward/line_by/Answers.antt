use Rattle.std.proofs.Common.{◌∙◌, None, ap, sym}
use Rattle.std.proofs.lemmas.List.{get_or_default}
use Rattle.tree_bounds.specs.Lines.{line_of}
use Rattle.tree_bounds.proofs.onward.line_by.Goals as goal

pub line_above-requires : goal.line_above-requires
line_above-requires c =
    (c.requires.stairs.each c.args.n c.in-Some.stair (get_or_default c.args.stairs.now c.args.n None _ c.requires.inside ∙ c.in-Some.is)).some_gap

pub returns-in-None : goal.returns-in-None
returns-in-None c = ap line_of (sym (get_or_default c.args.stairs.now c.args.n None _ c.requires.inside ∙ c.in-None.is))

pub returns-in-Some : goal.returns-in-Some
returns-in-Some c = c.line_above.ensures ∙ ap line_of (sym (get_or_default c.args.stairs.now c.args.n None _ c.requires.inside ∙ c.in-Some.is))
