use Rattle.std.proofs.Common.{subst}
use Rattle.upp_limits.specs.Limits.{joined, values_alone, finite}
use Rattle.upp_limits.specs.ClosedForm.{seen_values}
use Rattle.upp_limits.specs.Gathered.{Gathers}
use Rattle.upp_limits.proofs.JoinedNumbers.{joined_three}
use Rattle.upp_limits.proofs.gathered.Gathered.with_last.Goals as goal

pub returns-clause-value : goal.returns-clause-value
returns-clause-value c = λ m h.
    let s = c.in_ok-values.values in
    let a = values_alone (finite s.at) in
    let b = values_alone (finite s.after) in
    let d = values_alone (finite s.before) in
    subst (λ k. Gathers c.with_ext-3.result (joined m (values_alone (seen_values k)))) c.in_ok-values.ensures.value
    (subst (λ k. Gathers c.with_ext-3.result k) (joined_three m a b d)
    (c.with_ext-3.ensures (joined (joined m a) b) (c.with_ext-2.ensures (joined m a) (c.with_ext.ensures m h))))
