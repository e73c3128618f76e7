use Rattle.std.proofs.Common.{◌≡◌, ◌+◌, ◌-◌, map, subst, arith}
use Rattle.std.specs.Prelude.{Ok, Err}
use Rattle.upp_limits.specs.declared.op_kind.OpKind.TheVariants.{Sum}
use Rattle.curve_call.specs.Calls.{Applies}
use Rattle.net_cells.specs.Meanings.{curve}
use Rattle.cell_eval.specs.Parts.{curve_of}
use Rattle.cell_eval.proofs.PartSums.{first_sum, first_refused, next_sum, next_refused, last_sum, held_at}
use Rattle.net_cells.specs.Refusals.{SumsRefused}
use Rattle.cell_eval.proofs.PartSums.{first_sum_refused, first_stops, next_sum_refused, next_stops}
use Rattle.cell_eval.proofs.parts.many_added.Goals as goal

pub curve_of-first-requires : goal.curve_of-first-requires
curve_of-first-requires g c =
    held_at (g.T.Table.at c.args.table.now) c.args.parts.now 0 c.index-parts-0.result c.requires.held (omega (arith, c.requires.many)) c.index-parts-0.is

pub part_added-requires : goal.part_added-requires
part_added-requires g c =
    held_at (g.T.Table.at c.args.table.now) c.args.parts.now 1 c.index-parts-1.result c.requires.held (omega (arith, c.requires.many)) c.index-parts-1.is

pub returns-in-Err-clause-sum : goal.returns-in-Err-clause-sum
returns-in-Err-clause-sum g c =
    let at = g.T.Table.at c.args.table.now in
    let sum = subst (λ f. Applies Sum f (curve_of at c.index-parts-1.result) c.part_added.result) c.curve_of-first.ensures c.part_added.ensures.sum in
    first_refused at c.args.parts.now c.index-parts-0.result c.index-parts-1.result c.in-Err.fault c.requires.many c.index-parts-0.is c.index-parts-1.is
    (subst (λ r. Applies Sum (curve_of at c.index-parts-0.result) (curve_of at c.index-parts-1.result) r) c.in-Err.is sum)

pub loop-k-init : goal.loop-k-init
loop-k-init g c =
    let at = g.T.Table.at c.args.table.now in
    let sum = subst (λ f. Applies Sum f (curve_of at c.index-parts-1.result) c.part_added.result) c.curve_of-first.ensures c.part_added.ensures.sum in
    let made = subst (λ r. Applies Sum (curve_of at c.index-parts-0.result) (curve_of at c.index-parts-1.result) r) c.in-Ok.is sum in
    let count = c.part_added.ensures.count in
    record {
      sums = λ r a. first_sum at c.args.parts.now c.index-parts-0.result c.index-parts-1.result c.in-Ok.made r c.requires.many
          c.index-parts-0.is c.index-parts-1.is made a;
      refusals = λ fault n r. first_sum_refused at c.args.parts.now c.index-parts-0.result c.index-parts-1.result c.in-Ok.made fault n c.requires.many
          c.index-parts-0.is c.index-parts-1.is made r;
      count = omega (arith, count);
    }

pub part_added-requires-in-loop-k : goal.part_added-requires-in-loop-k
part_added-requires-in-loop-k g c =
    held_at (g.T.Table.at c.args.table.now) c.args.parts.now c.loop-k.k c.index-parts-k.result c.requires.held c.loop-k-test.true c.index-parts-k.is

pub loop-k-preserved : goal.loop-k-preserved
loop-k-preserved g c =
    let at = g.T.Table.at c.args.table.now in
    let inv = c.loop-k.invariant in
    let made = subst (λ r. Applies Sum c.loop-k.so_far (curve_of at c.index-parts-k.result) r) c.in-Ok-part_added.is c.part_added-in-loop-k.ensures.sum in
    let count = c.part_added-in-loop-k.ensures.count in
    let before = inv.count in
    record {
      sums = λ r a. inv.sums r (next_sum at c.args.parts.now c.loop-k.k c.index-parts-k.result c.loop-k.so_far c.in-Ok-part_added.more r
          c.loop-k-test.true c.index-parts-k.is made a);
      refusals = λ fault n r. let k = c.loop-k.k in
          let low = c.loop-k.auto.k in
          let same : k - 1 + (1 + n) ≡ k + 1 - 1 + n = omega (arith, low) in
          subst (λ m. SumsRefused (map (curve_of at) c.args.parts.now) fault m) same
          (inv.refusals fault (1 + n) (next_sum_refused at c.args.parts.now k c.index-parts-k.result c.loop-k.so_far c.in-Ok-part_added.more fault n
          c.loop-k-test.true c.index-parts-k.is made r));
      count = omega (arith, count, before);
    }

pub returns-in-Err-part_added-clause-sum : goal.returns-in-Err-part_added-clause-sum
returns-in-Err-part_added-clause-sum g c =
    let at = g.T.Table.at c.args.table.now in
    let fails = subst (λ r. Applies Sum c.loop-k.so_far (curve_of at c.index-parts-k.result) r) c.in-Err-part_added.is c.part_added-in-loop-k.ensures.sum in
    c.loop-k.invariant.sums (Err c.in-Err-part_added.fault)
    (next_refused at c.args.parts.now c.loop-k.k c.index-parts-k.result c.loop-k.so_far c.in-Err-part_added.fault c.loop-k-test.true c.index-parts-k.is fails)

pub returns-clause-sum : goal.returns-clause-sum
returns-clause-sum g c =
    let at = g.T.Table.at c.args.table.now in
    c.loop-k.invariant.sums (Ok (curve c.loop-k.so_far))
    (last_sum at c.args.parts.now c.loop-k.k c.loop-k.so_far (omega (arith, c.loop-k-test.false)) (omega (arith, c.loop-k.auto.k-end, c.requires.many)))

pub returns-in-Err-clause-refused : goal.returns-in-Err-clause-refused
returns-in-Err-clause-refused g c =
    let at = g.T.Table.at c.args.table.now in
    let sum = subst (λ f. Applies Sum f (curve_of at c.index-parts-1.result) c.part_added.result) c.curve_of-first.ensures c.part_added.ensures.sum in
    let one = c.part_added.ensures.count in
    let count : 1 ≡ c.part_added.new.steps - c.args.steps.now = omega (arith, one) in
    subst (λ n. SumsRefused (map (curve_of at) c.args.parts.now) c.in-Err.fault n) count
    (first_stops at c.args.parts.now c.index-parts-0.result c.index-parts-1.result c.in-Err.fault c.requires.many c.index-parts-0.is c.index-parts-1.is
    (subst (λ r. Applies Sum (curve_of at c.index-parts-0.result) (curve_of at c.index-parts-1.result) r) c.in-Err.is sum))

pub returns-in-Err-part_added-clause-refused : goal.returns-in-Err-part_added-clause-refused
returns-in-Err-part_added-clause-refused g c =
    let at = g.T.Table.at c.args.table.now in
    let inv = c.loop-k.invariant in
    let k = c.loop-k.k in
    let fault = c.in-Err-part_added.fault in
    let fails = subst (λ r. Applies Sum c.loop-k.so_far (curve_of at c.index-parts-k.result) r) c.in-Err-part_added.is c.part_added-in-loop-k.ensures.sum in
    let before = inv.count in
    let one = c.part_added-in-loop-k.ensures.count in
    let low = c.loop-k.auto.k in
    let count : k - 1 + 1 ≡ c.part_added-in-loop-k.new.steps - c.args.steps.now = omega (arith, before, one, low) in
    subst (λ n. SumsRefused (map (curve_of at) c.args.parts.now) fault n) count
    (inv.refusals fault 1 (next_stops at c.args.parts.now k c.index-parts-k.result c.loop-k.so_far fault c.loop-k-test.true c.index-parts-k.is fails))
