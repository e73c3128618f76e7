use Rattle.std.proofs.Common.{inr, subst, Option, ℕ, length}
use Rattle.std.specs.Prelude.{IfSome}
use Rattle.arrival_stairs.specs.Horizon.{ArePast}
use Rattle.arrival_stairs.proofs.walks.end_of.Goals as goal

pub are_few-requires-clause-end : goal.are_few-requires-clause-end
are_few-requires-clause-end c =
    let past = subst (λ (o : Option ℕ). IfSome o (ArePast c.args.bundles.now c.args.steps.now c.args.services.now (length c.args.services.now))) c.in-Some.is
    (c.last_horizon.ensures c.args.bundles.now c.requires.onset) in
    past.short

pub returns-then-are_few-clause-short : goal.returns-then-are_few-clause-short
returns-then-are_few-clause-short c =
    let past = subst (λ (o : Option ℕ). IfSome o (ArePast c.args.bundles.now c.args.steps.now c.args.services.now (length c.args.services.now))) c.in-Some.is
    (c.last_horizon.ensures c.args.bundles.now c.requires.onset) in
    past.short

pub returns-then-are_few-clause-ends : goal.returns-then-are_few-clause-ends
returns-then-are_few-clause-ends c = λ k d h.
    let past = subst (λ (o : Option ℕ). IfSome o (ArePast c.args.bundles.now c.args.steps.now c.args.services.now (length c.args.services.now))) c.in-Some.is
    (c.last_horizon.ensures c.args.bundles.now c.requires.onset) in
    record { short = past.short; few = c.are_few.ensures.0 c.if-are_few.true; reaches = inr (past.each k d h) }
