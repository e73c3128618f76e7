use Rattle.std.proofs.Common.{sym, ◌∙◌, true, false}
use Rattle.cell_rules.proofs.SameHops.{total_tells}
use Rattle.cell_rules.proofs.SameParts.{versions_differ, total_same, other_bits, same_bits}
use Rattle.cell_rules.proofs.lists.same_total.Goals as goal

pub returns-then-by_links-is_by_links : goal.returns-then-by_links-is_by_links
returns-then-by_links-is_by_links c =
    total_same c.args.old.now c.args.new.now c.args.server c.args.queue c.is_by_links-by_links.result c.is_by_links.result false
    (sym c.is_by_links-by_links.ensures) (sym c.is_by_links.ensures)
    (versions_differ c.args.old.now c.args.new.now c.args.server c.args.queue c.is_by_links-by_links.result c.is_by_links.result
    (other_bits c.is_by_links-by_links.result c.is_by_links.result c.if-by_links-is_by_links.true))

pub returns-then-by_links : goal.returns-then-by_links
returns-then-by_links c =
    let one = c.if-by_links.true in
    total_same c.args.old.now c.args.new.now c.args.server c.args.queue true true c.same_parts.result
    (sym c.is_by_links-by_links.ensures ∙ one)
    (sym c.is_by_links.ensures ∙ sym (same_bits c.is_by_links-by_links.result c.is_by_links.result c.if-by_links-is_by_links.false) ∙ one)
    c.same_parts.ensures

pub returns : goal.returns
returns c =
    let one = c.if-by_links.false in
    total_same c.args.old.now c.args.new.now c.args.server c.args.queue false false c.same_meant.result
    (sym c.is_by_links-by_links.ensures ∙ one)
    (sym c.is_by_links.ensures ∙ sym (same_bits c.is_by_links-by_links.result c.is_by_links.result c.if-by_links-is_by_links.false) ∙ one)
    (total_tells c.args.old.now c.args.new.now c.args.server c.args.queue c.same_meant.result c.same_meant.ensures)
