use Rattle.std.specs.Prelude.{◌≡◌, ◌<◌, ℕ, pos, List, Some, length, get_or, slice_get}
use Rattle.std.proofs.Common.{arith, refl, ap, ◌∙◌, subst}
use Rattle.std.proofs.lemmas.List.{get_or_read}
use Rattle.std.proofs.lemmas.Option.{slice_get_within, get_or_from_slice_get}
use Rattle.rational.specs.Rational.{ℚ, int, ◌-ℚ◌, ◌≤ℚ◌, ◌<ℚ◌}
use Rattle.rational.proofs.Compared.{least_by_test}
use Rattle.simulator.proofs.run_measures.Telling.{enter_unknown, enter_less, enter_more}
use Rattle.simulator.proofs.run_measures.worst.Tally.enter.Goals as goal

-- how long the packet took
record IsDelay (flows : List ℕ) (delivered : List ℚ) (p flow : ℕ) (time delay : ℚ) : Type 0 where
  inside : p < length flows
  flow_is : get_or flows p 0 ≡ flow
  is : delay ≡ get_or delivered p (int (pos 0)) -ℚ time

delay_of : (flows : List ℕ) (delivered : List ℚ) (p flow : ℕ) (time end delay : ℚ) → slice_get flows p ≡ Some flow → length delivered ≡ length flows
    → end ≡ get_or delivered p end → delay ≡ end -ℚ time → IsDelay flows delivered p flow time delay
delay_of flows delivered p flow time end delay known long end_is delay_is =
    let inside : p < length flows = slice_get_within flows p flow known in
    let there : p < length delivered = omega (arith, inside, long) in
    record {
      inside = inside;
      flow_is = get_or_from_slice_get flows p flow 0 known;
      is = delay_is ∙ ap (λ u. u -ℚ time) (get_or_read delivered p end there end_is (int (pos 0)));
    }

pub returns-then-place-len-clause-told : goal.returns-then-place-len-clause-told
returns-then-place-len-clause-told c = λ net b end xs many h.
    let v = c.args.self.now in
    enter_unknown net end xs v.flows.items v.delivered.items many v.worst.items c.args.flow c.args.packet c.args.time b
    (omega (arith, c.if-place-len.true, c.len.ensures, v.worst.ok.0)) h

pub returns-then-not-is_less-clause-told : goal.returns-then-not-is_less-clause-told
returns-then-not-is_less-clause-told c = λ net b end xs many h.
    let v = c.args.self.now in
    let p = c.args.packet in
    let told = delay_of v.flows.items v.delivered.items p c.args.flow c.args.time c.index.result.now c.difference-delay.result c.requires.known c.requires.long c.index.ensures c.difference-delay.ensures in
    let known : c.args.flow < length v.worst.items = omega (arith, c.if-place-len.false, c.len.ensures, v.worst.ok.0) in
    let small : c.difference-delay.result ≤ℚ get_or v.worst.items c.args.flow (int (pos 0)) =
    subst (λ u. c.difference-delay.result ≤ℚ u) (get_or_read v.worst.items c.args.flow c.index-2.result.now known c.index-2.ensures (int (pos 0)))
    (least_by_test c.index-2.result.now c.difference-delay.result c.if-not-is_less.ensures.less) in
    enter_less net end xs v.flows.items v.delivered.items many v.worst.items c.args.flow p c.args.time c.difference-delay.result b told.inside told.flow_is told.is small h

pub returns-clause-told : goal.returns-clause-told
returns-clause-told c = λ net b end xs many h.
    let v = c.args.self.now in
    let p = c.args.packet in
    let told = delay_of v.flows.items v.delivered.items p c.args.flow c.args.time c.index.result.now c.difference-delay.result c.requires.known c.requires.long c.index.ensures c.difference-delay.ensures in
    let known : c.args.flow < length v.worst.items = omega (arith, c.if-place-len.false, c.len.ensures, v.worst.ok.0) in
    let big : get_or v.worst.items c.args.flow (int (pos 0)) <ℚ c.difference-delay.result =
    subst (λ u. u <ℚ c.difference-delay.result) (get_or_read v.worst.items c.args.flow c.index-2.result.now known c.index-2.ensures (int (pos 0)))
    (c.if-not-is_less.ensures.less.0 refl) in
    enter_more net end xs v.flows.items v.delivered.items many v.worst.items c.args.flow p c.args.time c.difference-delay.result b told.inside told.flow_is told.is known big h
