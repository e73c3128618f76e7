use Rattle.std.proofs.Common.{subst}
use Rattle.upp_limits.specs.Limits.{joined, time_alone, values_alone, slopes_alone, line_slope, finite}
use Rattle.upp_limits.specs.ClosedForm.{piece_numbers}
use Rattle.upp_limits.specs.Gathered.{Gathers}
use Rattle.upp_limits.proofs.JoinedNumbers.{joined_span}
use Rattle.upp_limits.proofs.gathered.Gathered.with_span.Goals as goal

pub returns-clause-value : goal.returns-clause-value
returns-clause-value c = λ n h.
    let s = c.in_ok-values.values in
    let p = c.args.piece.now in
    let t = joined n (time_alone p.x) in
    let l = joined t (slopes_alone (line_slope p.line)) in
    let a = joined l (values_alone (finite s.at)) in
    let b = joined a (values_alone (finite s.after)) in
    subst (λ k. Gathers c.with_ext-3.result (joined n (piece_numbers p k))) c.in_ok-values.ensures.value
    (subst (λ k. Gathers c.with_ext-3.result k) (joined_span n p.x (finite s.at) (finite s.after) (finite s.before) (line_slope p.line))
    (c.with_ext-3.ensures b (c.with_ext-2.ensures a (c.with_ext.ensures l (c.with_line-placed.ensures t (c.with_time.ensures n h))))))
