use Rattle.std.proofs.Common.{◌≡◌, ◌∙◌, pos, refl}
use Rattle.std.proofs.lemmas.Option.{IfSome_then}
use Rattle.rational.specs.Rational.{int}
use Rattle.flow_watch.proofs.StairPaces.{has_steps}
use Rattle.flow_watch.proofs.stairs.steps_of.Goals as goal

pub returns-then-eq : goal.returns-then-eq
returns-then-eq c =
    let b = c.in-Some.bucket in
    let flat : b.rate ≡ int (pos 0) = c.if-eq.ensures.same.0 refl ∙ c.zero.ensures in
    IfSome_then c.count_under.result c.count_under.ensures (λ count C. has_steps c.args.height b.burst b.rate count c.args.piece.now c.in-Some.ensures flat C)
