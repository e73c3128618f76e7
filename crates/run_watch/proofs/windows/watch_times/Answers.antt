use Rattle.std.proofs.Common.{◌++◌, List, sym, subst}
use Rattle.rational.specs.Rational.{ℚ}
use Rattle.run_watch.specs.declared.classes.Side.TheVariants.{Later, Earlier}
use Rattle.run_watch.specs.Classes.{all_moves, AreLeadsBy}
use Rattle.run_watch.specs.WatchTimes.{watched_from, HaveSameTimes}
use Rattle.run_watch.proofs.OrderedTimes.{same_then, same_before}
use Rattle.run_watch.proofs.ClassTimes.{fit_leads, watched_moves}
use Rattle.run_watch.proofs.windows.watch_times.Goals as goal

pub push_all_moves-requires : goal.push_all_moves-requires
push_all_moves-requires c = fit_leads Later c.args.pieces.now c.args.turns.now c.in_ok-first.first.items c.deref.result.now c.args.cycle.now c.args.end c.in_ok-first.ensures c.deref.ensures.value c.requires.fits

pub push_all_moves-requires-2 : goal.push_all_moves-requires-2
push_all_moves-requires-2 c = fit_leads Earlier c.args.pieces.now c.args.turns.now c.in_ok-last.last.items c.deref-2.result.now c.args.cycle.now c.args.end c.in_ok-last.ensures c.deref-2.ensures.value c.requires.fits

pub returns : goal.returns
returns c =
    let s = c.args.s.now in
    let qs = c.args.pieces.now in
    let ts = c.args.turns.now in
    let first = c.deref.result.now in
    let last = c.deref-2.result.now in
    let on = c.push_all_moves.new.times.items in
    let both = c.push_all_moves-2.new.times.items in
    let xs = watched_from s qs ts in
    let A = subst (AreLeadsBy Later c.args.end c.args.cycle.now ts) (sym c.deref.ensures.value) c.in_ok-first.ensures in
    let B = subst (AreLeadsBy Earlier c.args.end c.args.cycle.now ts) (sym c.deref-2.ensures.value) c.in_ok-last.ensures in
    let ys = all_moves Earlier s qs last in
    let W = watched_moves s qs ts first last c.args.cycle.now c.args.end c.requires.recurs A B in
    let moves = all_moves Later s qs first in
    let pushed_first : HaveSameTimes moves on = subst (λ (zs : List ℚ). HaveSameTimes (zs ++ moves) on) c.new-times.ensures.items c.in_ok-push_all_moves.ensures in
    let pushed = same_then xs (on ++ ys) both (same_then xs (all_moves Later s qs first ++ ys) (on ++ ys) W (same_before (all_moves Later s qs first) on ys pushed_first)) c.in_ok-push_all_moves-2.ensures in
    record {
      same = same_then xs both c.put_in_order.new.times.items pushed c.in_ok-put_in_order.ensures.same;
      rise = c.in_ok-put_in_order.ensures.rise;
    }
