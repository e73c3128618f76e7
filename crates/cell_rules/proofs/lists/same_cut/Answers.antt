use Rattle.std.proofs.Common.{refl, sym, subst}
use Rattle.std.proofs.lemmas.Bool.{ne_eqb}
use Rattle.net_cells.specs.Numbered.{rate}
use Rattle.cell_rules.specs.Rules.{TellsSame, link_of}
use Rattle.cell_rules.proofs.SameParts.{links_tell, links_differ}
use Rattle.cell_rules.proofs.lists.same_cut.Goals as goal

pub returns-then-bits-new_bits : goal.returns-then-bits-new_bits
returns-then-bits-new_bits c =
    links_tell c.args.old.now c.args.new.now c.args.server c.args.pick c.args.before c.longest_at-bits.result c.longest_at-new_bits.result
    c.rate.result c.rate-then-bits-new_bits.result c.longest_at-bits.ensures c.longest_at-new_bits.ensures c.rate.ensures
    c.rate-then-bits-new_bits.ensures c.same_number.result c.if-bits-new_bits.true c.same_number.ensures

pub returns-else-bits-new_bits : goal.returns-else-bits-new_bits
returns-else-bits-new_bits c =
    let old = c.args.old.now in
    let new = c.args.new.now in
    let s = c.args.server in
    let p = c.args.before in
    subst (TellsSame (link_of old s c.args.pick p) (link_of new s c.args.pick p))
    (sym (ne_eqb c.longest_at-bits.result c.longest_at-new_bits.result c.if-bits-new_bits.false))
    (links_differ old new s c.args.pick p c.longest_at-bits.result c.longest_at-new_bits.result (rate old p) (rate new p)
    c.longest_at-bits.ensures c.longest_at-new_bits.ensures refl refl c.if-bits-new_bits.false)
