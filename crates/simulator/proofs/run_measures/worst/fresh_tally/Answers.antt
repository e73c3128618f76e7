use Rattle.std.specs.Prelude.{◌≡◌, length, replicate, pos}
use Rattle.std.proofs.Common.{arith, sym, ap, ◌∙◌}
use Rattle.std.proofs.lemmas.List.{length-map}
use Rattle.std.specs.Option.{option_map}
use Rattle.rational.specs.Rational.{int}
use Rattle.net_model.specs.NetRoutes.{routes_of}
use Rattle.net_model.specs.Views.{flow_of}
use Rattle.simulator.proofs.run_measures.Telling.{told_nothing}
use Rattle.simulator.proofs.run_measures.worst.fresh_tally.Goals as goal

pub returns-clause-told : goal.returns-clause-told
returns-clause-told c =
    let flows = c.in_ok-flows.flows in
    let many : length c.flows-many.result.now ≡ length c.args.net.now.flows =
    sym (length-map c.flows-many.result.now (option_map flow_of)) ∙ ap length c.flows-many.ensures.flows in
    let delivered : c.in_ok-delivered.delivered.items ≡ replicate (length flows.items) c.args.end =
    c.in_ok-delivered.ensures.items_if_clones_equal (λ y e. e) ∙ ap (λ n. replicate n c.args.end) (omega (arith, flows.ok.0)) in
    let worst : c.in_ok-worst.worst.items ≡ replicate (length c.args.net.now.flows) (int (pos 0)) =
    c.in_ok-worst.ensures.items_if_clones_equal (λ y e. e) ∙ ap (λ n. replicate n c.zero.result) (omega (arith, many)) ∙ ap (replicate (length c.args.net.now.flows)) c.zero.ensures in
    told_nothing (routes_of c.args.net.now) c.args.end flows.items c.in_ok-delivered.delivered.items (length c.args.net.now.flows) c.in_ok-worst.worst.items
    delivered worst (omega (arith, c.in_ok-delivered.ensures.len, c.in_ok-delivered.delivered.ok.0, flows.ok.0))
    (omega (arith, c.in_ok-worst.ensures.len, c.in_ok-worst.worst.ok.0, many))
