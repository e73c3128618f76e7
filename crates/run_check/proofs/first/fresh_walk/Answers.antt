use Rattle.std.specs.Prelude.{◌≡◌, length}
use Rattle.std.proofs.Common.{ap, arith}
use Rattle.run_check.proofs.Started.{follows_start}
use Rattle.run_check.proofs.first.fresh_walk.Goals as goal

pub returns : goal.returns
returns c =
    let run = c.args.run.now in
    let steps : length c.run.inside.steps.items ≡ length run.steps = ap (λ r. length r.steps) c.run.view_is in
    let many = c.len-packets.ensures in
    let long = c.run.inside.steps.ok.0 in
    follows_start c.args.net.now run record { flows = c.new.result; bits = c.new-2.result; places = c.new-3.result; sites = c.in_ok-sites.sites } c.len-packets.result c.keeps.ensures
    c.requires.recorded (omega (arith, steps, many, long)) c.requires.numbers c.in_ok-sites.ensures c.new.ensures.items c.new-2.ensures.items c.new-3.ensures.items
