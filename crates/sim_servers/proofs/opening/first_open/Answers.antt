use Rattle.std.specs.Prelude.{◌+◌, get_or}
use Rattle.std.proofs.Common.{arith, sym, subst, refl, ap, inl, inr}
use Rattle.std.proofs.lemmas.List.{get_or_default}
use Rattle.rational.specs.Rational.{◌≤ℚ◌, ◌<ℚ◌}
use Rattle.rational.proofs.Laws.{le_or_lt}
use Rattle.sim_servers.specs.declared.opening.Span.{Span}
use Rattle.sim_servers.specs.Openings.{gate_for}
use Rattle.sim_servers.proofs.Stalls.{IsOpened, opened_first, opened_over, opened_after, opened_here, ahead_of, stall_end_is_time}
use Rattle.sim_servers.proofs.opening.first_open.Goals as goal
use Rattle.rational.proofs.Compared.{least_by_test}

pub loop-index-init : goal.loop-index-init
loop-index-init c = opened_first (gate_for c.args.gate.now) c.args.stalls.now c.args.from c.args.passed c.gate_opens-time.result c.gate_opens-time.ensures c.requires.over

pub returns-then-is_less-clause-opens : goal.returns-then-is_less-clause-opens
returns-then-is_less-clause-opens c =
    let xs = c.args.stalls.now in
    opened_here (gate_for c.args.gate.now) xs c.args.from c.loop-index.index c.loop-index.time c.loop-index.invariant
    (ahead_of xs c.loop-index.index c.loop-index.time c.requires.order.sorted (λ d. subst (λ (x : Span). c.loop-index.time <ℚ x.start)
    (get_or_default xs c.loop-index.index c.index-stalls-index.result d c.loop-index-test.true) (c.if-is_less.ensures.less.0 refl)))

pub returns-then-is_less-clause-ahead : goal.returns-then-is_less-clause-ahead
returns-then-is_less-clause-ahead c =
    let xs = c.args.stalls.now in
    ahead_of xs c.loop-index.index c.loop-index.time c.requires.order.sorted (λ d. subst (λ (x : Span). c.loop-index.time <ℚ x.start)
    (get_or_default xs c.loop-index.index c.index-stalls-index.result d c.loop-index-test.true) (c.if-is_less.ensures.less.0 refl))

pub past_stall-time-requires-clause-room : goal.past_stall-time-requires-clause-room
past_stall-time-requires-clause-room c =
    let r = c.requires.room in
    record {
      grid = r.grid;
      most = r.most;
      room = r.room;
      gate_is = r.gate;
      time = stall_end_is_time r.grid r.most c.args.stalls.now c.loop-index.index c.index-stalls-index-in-loop-index.result r.stalls c.loop-index-test.true;
    }

pub loop-index-preserved : goal.loop-index-preserved
loop-index-preserved c =
    let xs = c.args.stalls.now in
    let i = c.loop-index.index in
    let t = c.loop-index.time in
    let g = gate_for c.args.gate.now in
    let end = (get_or xs i c.index-stalls-index-in-loop-index.result).end in
    elim (le_or_lt end t) [
      | inl over ↦ subst (λ u. IsOpened g xs c.args.from (i + 1) u) (sym (c.past_stall-time.ensures.over over))
          (opened_over g xs c.args.from i t c.loop-index.invariant (λ d. subst (λ (x : Span). x.end ≤ℚ t)
          (get_or_default xs i c.index-stalls-index-in-loop-index.result d c.loop-index-test.true) over))
      | inr stalled ↦ opened_after g xs c.args.from i t end c.past_stall-time.result c.loop-index.invariant c.loop-index-test.true
          (λ d. subst (λ (x : Span). x.start ≤ℚ t) (get_or_default xs i c.index-stalls-index.result d c.loop-index-test.true)
          (least_by_test t (get_or xs i c.index-stalls-index.result).start c.if-is_less.ensures.less))
          (λ d. ap (λ (x : Span). x.end) (get_or_default xs i d c.index-stalls-index-in-loop-index.result c.loop-index-test.true))
          stalled (c.past_stall-time.ensures.stalled stalled)
    ]

pub returns-clause-opens : goal.returns-clause-opens
returns-clause-opens c =
    opened_here (gate_for c.args.gate.now) c.args.stalls.now c.args.from c.loop-index.index c.loop-index.time c.loop-index.invariant
    (λ k d h l. absurd (omega (arith, h, l, c.loop-index-test.false)))
