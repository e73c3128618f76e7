use Rattle.std.proofs.Common.{arith, sym, refl, ap, ◌∙◌}
use Rattle.std.specs.Prelude.{◌<◌, length}
use Rattle.std.proofs.lemmas.List.{get_or_default}
use Rattle.sim_servers.specs.declared.opening.Span.{Span}
use Rattle.sim_servers.specs.Openings.{gate_for}
use Rattle.sim_servers.proofs.Stalls.{ahead_from, stays_to_gate, stays_to_stall}
use Rattle.sim_servers.proofs.opening.Opening.stays.Goals as goal
use Rattle.rational.proofs.Compared.{least_by_test}

pub returns-then-self-len : goal.returns-then-self-len
returns-then-self-len c =
    let o = c.args.self.now in
    stays_to_gate (gate_for o.gate) o.stalls.items o.passed c.args.from c.args.until c.gate_stays-end.result
    record { over = c.requires.opened.over; ahead = c.requires.opened.ahead } c.gate_stays-end.ensures
    (λ k d h l. absurd (omega (arith, h, l, c.if-self-len.true, c.len.ensures)))

pub returns-then-is_less : goal.returns-then-is_less
returns-then-is_less c =
    let o = c.args.self.now in
    let known : o.passed < length o.stalls.items = omega (arith, c.requires.order.within, c.if-self-len.false, c.len.ensures) in
    stays_to_stall (gate_for o.gate) o.stalls.items o.passed c.args.from c.args.until c.gate_stays-end.result c.index.result.now.start
    record { over = c.requires.opened.over; ahead = c.requires.opened.ahead } c.requires.order.stalls.sorted c.requires.order.stalls.forward
    c.gate_stays-end.ensures known
    (λ d. ap (λ (x : Span). x.start) (get_or_default o.stalls.items o.passed d c.index.result.now known ∙ sym c.index.ensures))
    (c.if-is_less.ensures.less.0 refl)

pub returns : goal.returns
returns c =
    let o = c.args.self.now in
    let known : o.passed < length o.stalls.items = omega (arith, c.requires.order.within, c.if-self-len.false, c.len.ensures) in
    stays_to_gate (gate_for o.gate) o.stalls.items o.passed c.args.from c.args.until c.gate_stays-end.result
    record { over = c.requires.opened.over; ahead = c.requires.opened.ahead } c.gate_stays-end.ensures
    (ahead_from o.stalls.items o.passed c.gate_stays-end.result c.index.result.now.start c.requires.order.stalls.sorted
    (λ d. ap (λ (x : Span). x.start) (get_or_default o.stalls.items o.passed d c.index.result.now known ∙ sym c.index.ensures))
    (least_by_test c.index.result.now.start c.gate_stays-end.result c.if-is_less.ensures.less))
