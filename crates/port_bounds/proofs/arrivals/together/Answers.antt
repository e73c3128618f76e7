use Rattle.std.proofs.Common.{◌∙◌, ap, sym, Some}
use Rattle.port_bounds.specs.Incoming.{incoming, both, joined_parts}
use Rattle.port_bounds.proofs.Queues.{adds_known, adds_unknown, all_known, first_unknown, second_unknown}
use Rattle.port_bounds.proofs.arrivals.together.Goals as goal

pub returns-then-not-branch : goal.returns-then-not-branch
returns-then-not-branch c =
    first_unknown (incoming c.args.before.now) (incoming c.args.behind.now)
    (adds_unknown (incoming c.args.before.now) _ _ _ c.in_ok-add_parts.ensures c.if-not-branch.true)

pub returns-then-not-branch-2 : goal.returns-then-not-branch-2
returns-then-not-branch-2 c =
    second_unknown (incoming c.args.before.now) (incoming c.args.behind.now)
    (adds_unknown (incoming c.args.behind.now) _ _ _ c.in_ok-add_parts-2.ensures c.if-not-branch-2.true)

pub returns : goal.returns
returns c =
    let first = adds_known (incoming c.args.before.now) _ _ _ c.in_ok-add_parts.ensures c.if-not-branch.false in
    let second = adds_known (incoming c.args.behind.now) _ _ _ c.in_ok-add_parts-2.ensures c.if-not-branch-2.false in
    all_known (incoming c.args.before.now) (incoming c.args.behind.now) c.add_parts.new.all.items c.add_parts-2.new.all.items
    (ap (λ xs. both (Some xs) (joined_parts (incoming c.args.before.now))) (sym c.new-all.ensures.items) ∙ first) second
