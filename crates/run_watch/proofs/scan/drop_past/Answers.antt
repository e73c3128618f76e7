use Rattle.std.proofs.Common.{refl, arith, ◌≡◌, ◌<◌, slice_index_or}
use Rattle.std.proofs.lemmas.Grind.{common_steps}
use Rattle.flow_watch.specs.watch_laws.Marks.{MostFits}
use Rattle.run_watch.proofs.Marks.{passed_more, first_of, rest_fit}
use Rattle.run_watch.proofs.scan.drop_past.Goals as goal

pub loop-t-preserved : goal.loop-t-preserved
loop-t-preserved c =
    let some : 0 < c.loop-t.kept.len = grind (arith, common_steps) in
    let at : c.index-first.result.now ≡ slice_index_or c.loop-t.kept.items 0 c.index-first.result.now = grind (arith, common_steps) in
    let e = first_of c.loop-t.kept.items c.pop_front.new.self.items c.index-first.result.now c.pop_front.result c.loop-t.kept.len some at c.pop_front.ensures.value c.pop_front.ensures.items in (
      passed_more c.args.most.now c.args.t c.args.kept.now.items c.loop-t.kept.items c.pop_front.new.self.items c.index-first.result.now c.loop-t.invariant.0 e (c.if-not-is_past.ensures.0 refl),
      rest_fit (λ m. MostFits c.args.most.now m.time) c.loop-t.kept.items c.pop_front.new.self.items c.index-first.result.now c.loop-t.invariant.1 e,
    )
