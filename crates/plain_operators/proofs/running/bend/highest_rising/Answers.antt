use Rattle.rational.proofs.Compared.{is_greater, is_less, not_less, not_greater}
use Rattle.plain_operators.proofs.running.Bending.{sup_turning, sup_level, sup_rising}
use Rattle.plain_operators.proofs.running.bend.highest_rising.Goals as goal

pub returns-in-Less-clause-follows : goal.returns-in-Less-clause-follows
returns-in-Less-clause-follows c =
    let low = is_greater c.cmp.result c.cmp.ensures.ranks c.in-Greater.is in
    let high = is_less c.cmp-in-Greater.result c.cmp-in-Greater.ensures.ranks c.in-Less.is in
    rw (c.turned.ensures, c.level_line.ensures)
    (sup_turning c.args.level c.args.s.now c.meeting-x.result c.requires.rises c.requires.right c.requires.left low high c.meeting-x.ensures).follows

pub returns-in-Less-clause-made : goal.returns-in-Less-clause-made
returns-in-Less-clause-made c =
    let low = is_greater c.cmp.result c.cmp.ensures.ranks c.in-Greater.is in
    let high = is_less c.cmp-in-Greater.result c.cmp-in-Greater.ensures.ranks c.in-Less.is in
    rw (c.turned.ensures, c.level_line.ensures)
    (sup_turning c.args.level c.args.s.now c.meeting-x.result c.requires.rises c.requires.right c.requires.left low high c.meeting-x.ensures).made

pub returns-in_default-cmp : goal.returns-in_default-cmp
returns-in_default-cmp c =
    let high = not_less c.cmp-in-Greater.result c.cmp-in-Greater.ensures.ranks c.in_default-cmp.not-Less in
    let r = sup_level c.args.level c.args.s.now c.requires.rises c.requires.left high in
    rw (c.straight.ensures, c.level_line-in_default-cmp.ensures) record { follows = r.follows; made = r.made }

pub returns-in_default : goal.returns-in_default
returns-in_default c =
    let low = not_greater c.cmp.result c.cmp.ensures.ranks c.in_default.not-Greater in
    let r = sup_rising c.args.level c.args.s.now c.requires.rises c.requires.right low in
    rw c.straight-in_default.ensures record { follows = r.follows; made = r.made }
