use Rattle.std.proofs.Common.{subst, sym}
use Rattle.upp_limits.specs.Limits.{joined, time_alone, value_alone}
use Rattle.upp_limits.specs.ClosedForm.{tail_numbers}
use Rattle.upp_limits.specs.Gathered.{Gathers}
use Rattle.upp_limits.proofs.JoinedNumbers.{joined_three}
use Rattle.curve_library.specs.Listed.{text_tail}
use Rattle.curve_library.proofs.text_limits.with_tail.Goals as goal

pub returns-in-Some : goal.returns-in-Some
returns-in-Some c = λ n h.
    let p = c.in-Some.t in
    let a = joined n (time_alone p.rank) in
    let b = joined a (time_alone p.period) in
    subst (λ o. Gathers c.with_value.result (joined n (tail_numbers (text_tail c.args.texts.now o)))) (sym c.in-Some.is)
    (subst (λ m. Gathers c.with_value.result m) (joined_three n (time_alone p.rank) (time_alone p.period) (value_alone p.rise))
    (c.with_value.ensures b (c.with_time-in-Some.ensures a (c.with_time.ensures n h))))
