use Rattle.std.proofs.Common.{◌≡◌, ◌+◌, ◌-◌, subst, arith}
use Rattle.std.specs.Prelude.{Ok, Err}
use Rattle.net_cells.specs.Meanings.{curve}
use Rattle.net_cells.specs.Formulas.{operators}
use Rattle.net_cells.specs.CellFormulas.{packets_to}
use Rattle.net_cells.specs.Answers.{Answers}
use Rattle.net_cells.specs.Refusals.{RefusedAt}
use Rattle.cell_eval.proofs.PathSteps.{packets_fail, next_packets, packets_refused, packets_operators, first_formula, next_formula}
use Rattle.cell_eval.proofs.inputs.Inputs.to_hop.Goals as goal

pub in_packets-requires : goal.in_packets-requires
in_packets-requires g c = c.requires 0 (omega arith)

pub returns-in-Err-clause-answer : goal.returns-in-Err-clause-answer
returns-in-Err-clause-answer g c =
    let at = g.T.Table.at c.args.self.now.table.now in
    packets_fail at c.args.self.now.net.now c.args.flow 0 c.args.last c.in-Err.fault (omega arith)
    (first_formula (λ F. Answers at F (Err c.in-Err.fault)) c.args.self.now.net.now c.args.flow c.packet-bits.result c.packet-bits.ensures
    c.in-Err.ensures.answer)

pub loop-hop-init : goal.loop-hop-init
loop-hop-init g c =
    let k = c.in-Ok.ensures.count in
    record {
      answers =
          first_formula (λ F. Answers (g.T.Table.at c.args.self.now.table.now) F (Ok (curve c.in-Ok.made))) c.args.self.now.net.now c.args.flow c.packet-bits.result
          c.packet-bits.ensures c.in-Ok.ensures.answer;
      count = omega (arith, k);
    }

pub with_hop-requires : goal.with_hop-requires
with_hop-requires g c = c.requires (c.loop-hop.hop + 1) (let t = c.loop-hop-test.true in omega (arith, t))

pub loop-hop-preserved : goal.loop-hop-preserved
loop-hop-preserved g c =
    let at = g.T.Table.at c.args.self.now.table.now in
    let inv = c.loop-hop.invariant in
    let F = packets_to c.args.self.now.net.now c.args.flow c.loop-hop.hop in
    let more = c.in-Ok-with_hop.ensures.answer F inv.answers in
    let n = inv.count in
    let exact = c.in-Ok-with_hop.ensures.counts.exact in
    record {
      answers = next_packets at c.args.self.now.net.now c.args.flow c.loop-hop.hop c.packet-bits.result (Ok (curve c.in-Ok-with_hop.more)) c.packet-bits.ensures more;
      count = omega (arith, n, exact);
    }

pub returns-in-Err-with_hop-clause-answer : goal.returns-in-Err-with_hop-clause-answer
returns-in-Err-with_hop-clause-answer g c =
    let at = g.T.Table.at c.args.self.now.table.now in
    let inv = c.loop-hop.invariant in
    let F = packets_to c.args.self.now.net.now c.args.flow c.loop-hop.hop in
    let fail = c.in-Err-with_hop.ensures.answer F inv.answers in
    packets_fail at c.args.self.now.net.now c.args.flow (c.loop-hop.hop + 1) c.args.last c.in-Err-with_hop.fault
    (let t = c.loop-hop-test.true in omega (arith, t))
    (next_packets at c.args.self.now.net.now c.args.flow c.loop-hop.hop c.packet-bits.result (Err c.in-Err-with_hop.fault) c.packet-bits.ensures fail)

pub returns-in-Err-clause-refused : goal.returns-in-Err-clause-refused
returns-in-Err-clause-refused g c =
    let at = g.T.Table.at c.args.self.now.table.now in
    let net = c.args.self.now.net.now in
    let i = c.args.flow in
    let first = c.in-Err.ensures.count in
    let count : 1 ≡ c.in_packets.new.steps - c.args.steps.now = omega (arith, first) in
    subst (λ n. RefusedAt at (packets_to net i c.args.last) c.in-Err.fault n) count
    (packets_refused at net i 0 c.args.last c.in-Err.fault 1 (omega arith)
    (first_formula (λ F. RefusedAt at F c.in-Err.fault 1) net i c.packet-bits.result c.packet-bits.ensures c.in-Err.ensures.refused))

pub returns-in-Err-with_hop-clause-refused : goal.returns-in-Err-with_hop-clause-refused
returns-in-Err-with_hop-clause-refused g c =
    let at = g.T.Table.at c.args.self.now.table.now in
    let net = c.args.self.now.net.now in
    let i = c.args.flow in
    let fault = c.in-Err-with_hop.fault in
    let inv = c.loop-hop.invariant in
    let F = packets_to net i c.loop-hop.hop in
    let here = c.in-Err-with_hop.ensures.refused F inv.answers in
    let before = inv.count in
    let own = packets_operators net i c.loop-hop.hop in
    let least = c.in-Err-with_hop.ensures.counts.least in
    let count : operators F + (c.with_hop.new.steps - c.loop-hop.steps) ≡ c.with_hop.new.steps - c.args.steps.now =
    omega (arith, before, own, least) in
    subst (λ n. RefusedAt at (packets_to net i c.args.last) fault n) count
    (packets_refused at net i (c.loop-hop.hop + 1) c.args.last fault (operators F + (c.with_hop.new.steps - c.loop-hop.steps))
    (let t = c.loop-hop-test.true in omega (arith, t))
    (next_formula (λ G. RefusedAt at G fault (operators F + (c.with_hop.new.steps - c.loop-hop.steps))) net i c.loop-hop.hop c.packet-bits.result
    c.packet-bits.ensures here))
