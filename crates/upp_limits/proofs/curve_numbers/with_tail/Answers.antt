use Rattle.std.proofs.Common.{subst, sym}
use Rattle.upp_limits.specs.Limits.{joined, time_alone, value_alone}
use Rattle.upp_limits.specs.ClosedForm.{tail_numbers}
use Rattle.upp_limits.specs.Gathered.{Gathers}
use Rattle.upp_limits.proofs.JoinedNumbers.{joined_three}
use Rattle.upp_limits.proofs.curve_numbers.with_tail.Goals as goal

pub returns-in-Periodic : goal.returns-in-Periodic
returns-in-Periodic c = λ n h.
    let p = c.in-Periodic in
    let a = joined n (time_alone p.rank) in
    let b = joined a (time_alone p.period) in
    subst (λ t. Gathers c.with_value.result (joined n (tail_numbers t))) (sym p.is)
    (subst (λ m. Gathers c.with_value.result m) (joined_three n (time_alone p.rank) (time_alone p.period) (value_alone p.rise))
    (c.with_value.ensures b (c.with_time-in-Periodic.ensures a (c.with_time.ensures n h))))
