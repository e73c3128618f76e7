use Rattle.std.proofs.Common.{pos}
use Rattle.rational.specs.Rational.{int, ◌≤ℚ◌, ◌<ℚ◌}
use Rattle.rational.proofs.Laws.{not_le_of_lt}
use Rattle.min_plus.specs.Functions.{zero_q}
use Rattle.upp_curve.specs.Kinds.{stair}
use Rattle.net_edits.proofs.Signs.{own_of}
use Rattle.net_edits.proofs.flow_edits.stair_at.Goals as goal

pub within_limits-requires : goal.within_limits-requires
within_limits-requires c =
    let curve = stair (int (pos c.args.packet)) c.args.period c.args.jitter in (
      curve,
      own_of (c.args.jitter <ℚ zero_q) (c.args.period ≤ℚ zero_q) curve c.stair.result (λ h. not_le_of_lt h c.requires.jitter)
          (λ h. not_le_of_lt c.requires.period h) c.stair.ensures.causes,
    )

pub returns : goal.returns
returns c =
    let curve = stair (int (pos c.args.packet)) c.args.period c.args.jitter in
    c.within_limits.ensures curve
    (own_of (c.args.jitter <ℚ zero_q) (c.args.period ≤ℚ zero_q) curve c.stair.result (λ h. not_le_of_lt h c.requires.jitter)
    (λ h. not_le_of_lt c.requires.period h) c.stair.ensures.causes)
