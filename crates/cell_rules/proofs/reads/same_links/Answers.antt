use Rattle.std.proofs.Common.{◌≡◌, ◌∙◌, sym, ℕ, arith, below_more}
use Rattle.net_cells.specs.Numbered.{link, server_of_hop}
use Rattle.cell_rules.proofs.Tells.{tells_yes, tells_no}
use Rattle.cell_rules.proofs.SameMade.{same_links, other_link}
use Rattle.cell_rules.proofs.reads.same_links.Goals as goal

pub returns-then-not-same_number : goal.returns-then-not-same_number
returns-then-not-same_number c =
    other_link c.args.old.now c.args.new.now c.args.flow c.loop-hop.hop
    (omega (arith, c.loop-hop-test.true, c.hops-count.ensures.hops))
    (sym c.hops-count.ensures.hops ∙ c.if-count-hops.false ∙ c.hops.ensures.hops)
    (λ e. tells_no c.link_at-here.result c.link_at-there.result c.same_number.result c.same_number.ensures
    c.if-not-same_number.true (c.link_at-here.ensures ∙ e ∙ sym c.link_at-there.ensures))

pub loop-hop-preserved : goal.loop-hop-preserved
loop-hop-preserved c =
    let old = c.args.old.now in
    let new = c.args.new.now in
    let i = c.args.flow in
    below_more (λ (k : ℕ). link old (server_of_hop old i k) ≡ link new (server_of_hop new i k)) c.loop-hop.hop c.loop-hop.invariant
    (sym c.link_at-here.ensures
    ∙ tells_yes c.link_at-here.result c.link_at-there.result c.same_number.result c.same_number.ensures c.if-not-same_number.false
    ∙ c.link_at-there.ensures)

pub returns : goal.returns
returns c =
    same_links c.args.old.now c.args.new.now c.args.flow
    (sym c.hops-count.ensures.hops ∙ c.if-count-hops.false ∙ c.hops.ensures.hops)
    (λ k h. c.loop-hop.invariant k (omega (arith, h, c.loop-hop-test.false, c.hops-count.ensures.hops)))
