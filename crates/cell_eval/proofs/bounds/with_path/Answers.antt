use Rattle.std.proofs.Common.{map, sym, ap, ◌∙◌, subst, arith, append-nil}
use Rattle.std.proofs.lemmas.List.{take_all}
use Rattle.net_cells.specs.Numbered.{link, path}
use Rattle.net_cells.specs.Means.{with_links}
use Rattle.cell_eval.specs.Tallies.{AreAdded}
use Rattle.cell_eval.proofs.PathSums.{link_added}
use Rattle.cell_eval.proofs.bounds.with_path.Goals as goal

pub loop-hop-init : goal.loop-hop-init
loop-hop-init c = λ xs h. subst (λ ys. AreAdded ys c.args.numbers) (sym (append-nil xs)) h

pub loop-hop-preserved : goal.loop-hop-preserved
loop-hop-preserved c = λ xs h.
    link_added c.args.net.now c.args.flow c.loop-hop.hop c.loop-hop.all c.and-all.result xs c.link.result
    (let t = c.loop-hop-test.true in let e = c.hops-hop-end.ensures.hops in omega (arith, t, e))
    (c.link.ensures ∙ ap (link c.args.net.now) c.server_of_hop-number.ensures)
    (c.loop-hop.invariant xs h) c.and-all.ensures

pub returns : goal.returns
returns c = λ xs h.
    let net = c.args.net.now in
    let i = c.args.flow in
    let stops = c.loop-hop-test.false in
    let count = c.hops-hop-end.ensures.hops in
    let all = take_all c.loop-hop.hop (path net i) (omega (arith, stops, count)) in
    subst (λ servers. AreAdded (with_links xs (map (link net) servers)) c.loop-hop.all) all (c.loop-hop.invariant xs h)
