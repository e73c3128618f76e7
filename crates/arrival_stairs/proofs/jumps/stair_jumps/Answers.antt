use Rattle.std.proofs.Common.{arith, refl, ◌+◌}
use Rattle.arrival_stairs.proofs.Risen.{all_stair_jumps, jump_late, jump_short, later_quotient, none_yet, one_stair_jump, same_jump}
use Rattle.arrival_stairs.proofs.jumps.stair_jumps.Goals as goal

pub loop-number-init : goal.loop-number-init
loop-number-init c = none_yet c.args.stair c.args.end _ c.args.jumps.now.items

pub jump_time-requires-clause-short : goal.jump_time-requires-clause-short
jump_time-requires-clause-short c = jump_short c.args.stair c.args.end c.loop-number.number c.requires.stair c.requires.end c.loop-number-test.true

pub jump_time-requires-clause-late : goal.jump_time-requires-clause-late
jump_time-requires-clause-late c = jump_late c.args.stair c.loop-number.number c.requires.stair.some_gap c.loop-number.auto.number

pub loop-number-preserved : goal.loop-number-preserved
loop-number-preserved c =
    one_stair_jump c.args.stair c.args.end _ c.loop-number.number c.args.jumps.now.items c.loop-number.jumps.items c.push.new.self.items c.requires.stair refl
    (omega arith) (same_jump c.push.new.self.items c.loop-number.jumps.items _ _ c.args.stair.frame c.jump_time.ensures c.in_ok-push.ensures.items) c.loop-number.invariant

pub returns : goal.returns
returns c =
    let s = c.args.stair in
    let h = later_quotient s.jitter (c.args.end + s.jitter) s.gap c.requires.stair.some_gap (omega arith) in
    let e = c.loop-number.auto.number-end (omega (arith, h)) in
    all_stair_jumps s c.args.end _ c.loop-number.number c.args.jumps.now.items c.loop-number.jumps.items c.requires.stair refl
    (omega (arith, e)) c.loop-number.invariant
