use Rattle.std.proofs.Common.{◌≡◌, ◌∙◌, ap, length, get_or, replicate, Bool, List, false}
use Rattle.std.proofs.lemmas.List.{length-replicate}
use Rattle.cell_rules.proofs.Found.{not_set}
use Rattle.cell_rules.proofs.finding.no_flags.Goals as goal

pub returns-clause-room : goal.returns-clause-room
returns-clause-room c =
    let all : c.in_ok-flags.flags.items ≡ replicate c.args.count false =
    c.in_ok-flags.ensures.items_if_clones_equal (λ y h. h) in
    ap length all ∙ length-replicate c.args.count false

pub returns-clause-none : goal.returns-clause-none
returns-clause-none c = λ i.
    let all : c.in_ok-flags.flags.items ≡ replicate c.args.count false =
    c.in_ok-flags.ensures.items_if_clones_equal (λ y h. h) in
    ap (λ (fs : List Bool). get_or fs i false) all ∙ not_set c.args.count i
