use Rattle.std.proofs.Common.{length, sym, ap, ◌∙◌, arith, ◌≤◌}
use Rattle.std.proofs.lemmas.List.{drop_all}
use Rattle.rational.specs.MinMax.{max_q}
use Rattle.net_model.specs.declared.server.Server.{Server}
use Rattle.net_model.specs.Networks.{NetServer}
use Rattle.net_model.specs.Views.{servers_of}
use Rattle.sim_bounds.specs.Horizons.{latest_of}
use Rattle.run_check.proofs.check_gauge.Loops.{one_before}
use Rattle.run_check.proofs.check_gauge.times.longest.Goals as goal

pub loop-i-init : goal.loop-i-init
loop-i-init c =
    let xs = c.args.servers.now in
    let all : length xs ≤ length xs = omega arith in
    c.zero-longest.ensures ∙ ap (λ ys. latest_of (λ (s : NetServer). s.link) (servers_of ys)) (sym (drop_all (length xs) xs all))

pub loop-i-preserved : goal.loop-i-preserved
loop-i-preserved c =
    let xs = c.args.servers.now in
    let x = c.index-servers-i.result in
    c.greater-longest.ensures ∙ ap (λ (t : Server). max_q t.link c.loop-i.longest) (sym c.index-servers-i.is) ∙ ap (max_q x.link) c.loop-i.invariant
    ∙ ap (λ ys. latest_of (λ (s : NetServer). s.link) (servers_of ys)) (sym (one_before xs c.loop-i.i x c.loop-i-test.true c.loop-i.auto.i c.index-servers-i.is))
