use Rattle.std.proofs.Common.{refl, true≢false, sym, subst, arith, ◌≡◌, ◌+◌, ℕ, suc, length}
use Rattle.std.proofs.lemmas.Option.{slice_get_read}
use Rattle.rational.specs.Ratio.{SumFits}
use Rattle.flow_watch.specs.watch_laws.Marks.{FitsRule, MostFits}
use Rattle.run_watch.specs.Queue.{Scanned}
use Rattle.run_watch.proofs.Marks.{each_map, scanned_at, scanned_more, kept_fit, passed_at, under_front}
use Rattle.run_watch.proofs.scan.first_under.Goals as goal

pub let_in-requires-clause-scans : goal.let_in-requires-clause-scans
let_in-requires-clause-scans c =
    scanned_at c.args.rule.now c.args.marks.now c.args.ends.now c.loop-k.k c.loop-k.into c.loop-k.kept.items c.index-ends-k.result c.loop-k.invariant c.requires.ends c.loop-k-test.true c.index-ends-k.is

pub drop_past-requires : goal.drop_past-requires
drop_past-requires c =
    kept_fit (λ m. MostFits c.args.rule.now.most m.time) c.args.rule.now c.args.marks.now c.index-ends-k.result c.in_ok-into.into c.let_in.new.kept.items c.in_ok-into.ensures.scans
    (each_map (FitsRule c.args.rule.now) (λ m. MostFits c.args.rule.now.most m.time) (λ m h. h.most) c.args.marks.now c.requires.fits)

pub is_front_under-requires : goal.is_front_under-requires
is_front_under-requires c =
    kept_fit (λ m. SumFits m.start_key c.args.rule.now.gap) c.args.rule.now c.args.marks.now c.index-ends-k.result c.in_ok-into.into c.drop_past.new.kept.items
    (passed_at c.args.rule.now c.args.marks.now c.index-ends-k.result c.in_ok-into.into c.let_in.new.kept.items c.drop_past.new.kept.items c.in_ok-into.ensures.scans c.drop_past.ensures.past)
    (each_map (FitsRule c.args.rule.now) (λ m. SumFits m.start_key c.args.rule.now.gap) (λ m h. h.gap) c.args.marks.now c.requires.fits)

pub returns-then-is_front_under-clause-there : goal.returns-then-is_front_under-clause-there
returns-then-is_front_under-clause-there c =
    let scans = passed_at c.args.rule.now c.args.marks.now c.index-ends-k.result c.in_ok-into.into c.let_in.new.kept.items c.drop_past.new.kept.items c.in_ok-into.ensures.scans c.drop_past.ensures.past in (
      c.index-ends-k.result,
      slice_get_read c.args.ends.now (length c.args.ends.now) c.loop-k.k c.index-ends-k.result refl c.loop-k-test.true c.index-ends-k.is,
      under_front c.args.rule.now c.args.marks.now c.index-ends-k.result c.in_ok-into.into c.drop_past.new.kept.items scans c.drop_past.ensures.near (c.if-is_front_under.ensures.0 refl),
    )

pub loop-k-preserved : goal.loop-k-preserved
loop-k-preserved c =
    let scans = passed_at c.args.rule.now c.args.marks.now c.index-ends-k.result c.in_ok-into.into c.let_in.new.kept.items c.drop_past.new.kept.items c.in_ok-into.ensures.scans c.drop_past.ensures.past in
    let same : suc c.loop-k.k ≡ c.loop-k.k + 1 = omega arith in
    subst (λ (n : ℕ). Scanned c.args.rule.now c.args.marks.now c.args.ends.now n c.in_ok-into.into c.drop_past.new.kept.items) same
    (scanned_more c.args.rule.now c.args.marks.now c.args.ends.now c.loop-k.k c.loop-k.into c.in_ok-into.into c.loop-k.kept.items c.drop_past.new.kept.items c.index-ends-k.result c.loop-k.invariant c.requires.ends c.loop-k-test.true
    c.index-ends-k.is c.in_ok-into.ensures.in_range scans c.in_ok-into.ensures.rest (λ h. true≢false (sym (c.if-is_front_under.ensures.1 h))))
