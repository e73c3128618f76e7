use Rattle.std.proofs.Common.{◌≡◌, ℕ, suc, ◌+◌, ◌-◌, ◌≤◌, refl, sym, subst, true≢false, arith}
use Rattle.upp_curve.specs.Curve.{value_at}
use Rattle.flow_watch.specs.watch_laws.Entries.{bits_between}
use Rattle.flow_watch.specs.Flows.{FindsFirst}
use Rattle.flow_watch.proofs.EntryLists.{bits_past}
use Rattle.flow_watch.proofs.LeastFirst.{reads_at, window_reads, bits_grow, crowded_here, none_past, found_here, found_still}
use Rattle.flow_watch.proofs.flows.least_first.Goals as goal
use Rattle.flow_watch.proofs.flows.least_first.Goals.{then-is_over, else-is_over}

pub loop-back-init : goal.loop-back-init
loop-back-init c = (
  sym (bits_past (c.args.last + 1 - 0) c.args.last c.args.entries.now (omega arith)),
  omega arith,
  none_past (value_at c.args.arrival.now) c.args.entries.now (c.args.last + 1 - 0) c.args.last (omega arith),
)

pub difference-requires : goal.difference-requires
difference-requires c =
    (reads_at c.args.arrival.now c.args.entries.now (c.args.last - c.loop-back.back) c.args.last c.index-entries-last.result c.index-entries-first.result c.requires.reads (omega arith) c.requires.in_range c.index-entries-first.is).fits

pub is_over-requires-clause-operand : goal.is_over-requires-clause-operand
is_over-requires-clause-operand c =
    window_reads c.args.arrival.now _ _ c.difference.result
    (reads_at c.args.arrival.now c.args.entries.now (c.args.last - c.loop-back.back) c.args.last c.index-entries-last.result c.index-entries-first.result c.requires.reads (omega arith) c.requires.in_range c.index-entries-first.is)
    c.difference.ensures

pub loop-back-preserved : goal.loop-back-preserved
loop-back-preserved c =
    let es = c.args.entries.now in
    let last = c.args.last in
    let back = c.loop-back.back in
    let first = c.args.last - c.loop-back.back in
    let low : first ≤ last = omega arith in
    let above : last + 1 - back ≡ suc first = omega arith in
    let now : last + 1 - (back + 1) ≡ first = omega arith in
    let α = value_at c.args.arrival.now in
    let d = c.index-entries-first.result in
    let bits = bits_grow first last (last + 1 - back) c.loop-back.bits es d above low c.requires.in_range c.index-entries-first.is c.loop-back.invariant.0 in
    let has = crowded_here α es first last (c.loop-back.bits + d.bits) c.index-entries-last.result d c.difference.result low c.requires.in_range c.index-entries-first.is c.difference.ensures bits in
    let before : FindsFirst α es (suc first) last c.loop-back.found = subst (λ (n : ℕ). FindsFirst α es n last c.loop-back.found) above c.loop-back.invariant.2 in (
      subst (λ (n : ℕ). c.loop-back.bits + d.bits ≡ bits_between n last es) (sym now) bits,
      omega arith,
      subst (λ (n : ℕ). FindsFirst α es n last c.if-is_over.found) (sym now) (elim c.if-is_over.branch [
        | then-is_over w ↦ subst (FindsFirst α es first last) (sym w.found-is) (found_here α es first last (has.0 (w.if-is_over.ensures.0 refl)))
        | else-is_over w ↦ subst (FindsFirst α es first last) (sym w.found-is) (found_still α es first last c.loop-back.found before (λ h. true≢false (sym (w.if-is_over.ensures.1 (has.1 h)))))
      ]),
    )
