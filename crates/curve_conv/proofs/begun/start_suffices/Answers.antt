use Rattle.std.specs.Prelude.{pos}
use Rattle.std.proofs.Common.{refl, sym, subst, true≢false}
use Rattle.rational.specs.Rational.{int, ◌≤ℚ◌}
use Rattle.rational.proofs.Laws.{le_of_not_lt, le_trans}
use Rattle.curve_conv.proofs.LateNumbers.{late_times}
use Rattle.curve_conv.proofs.BegunMoves.{first_tried, next_tried}
use Rattle.curve_conv.proofs.begun.start_suffices.Goals as goal

pub loop-turn-init : goal.loop-turn-init
loop-turn-init c = let s = c.args.s.now in first_tried s.first.now s.second.now c.args.from c.args.period s.end c.requires.call

pub loop-turn-preserved : goal.loop-turn-preserved
loop-turn-preserved c =
    let s = c.args.s.now in
    next_tried s.first.now s.second.now c.args.from c.args.period s.end c.period_or-own.result c.loop-turn.v c.in-Some.sooner c.requires.call c.period_or-own.ensures c.in-Some.ensures c.loop-turn.invariant

pub start_moves-requires-clause-whole : goal.start_moves-requires-clause-whole
start_moves-requires-clause-whole c = c.loop-turn.invariant.whole

pub start_moves-requires-clause-some : goal.start_moves-requires-clause-some
start_moves-requires-clause-some c =
    let s = c.args.s.now in
    le_trans (subst (λ x. int (pos 0) ≤ℚ x) (sym c.requires.first) (late_times s.first.now s.second.now c.args.from c.args.period s.end c.requires.call).first.nonneg)
    (le_of_not_lt (λ k. true≢false (sym (c.if-is_less.ensures.less.1 k))))

pub start_moves-requires-clause-soon : goal.start_moves-requires-clause-soon
start_moves-requires-clause-soon c = c.loop-turn.invariant.soon

pub returns-then-start_moves : goal.returns-then-start_moves
returns-then-start_moves c = λ h.
    record {
      time = c.loop-turn.v;
      late = le_of_not_lt (λ k. true≢false (sym (c.if-is_less.ensures.less.1 k)));
      soon = c.loop-turn.invariant.soon;
      moved = c.if-start_moves.ensures refl;
    }
