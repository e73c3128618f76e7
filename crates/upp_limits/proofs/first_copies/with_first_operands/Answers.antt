use Rattle.std.proofs.Common.{subst, sym}
use Rattle.upp_limits.specs.Limits.{joined}
use Rattle.upp_limits.specs.Gathered.{Gathers}
use Rattle.upp_limits.specs.ClosedForm.{first_numbers}
use Rattle.upp_limits.specs.Covered.{first_operands}
use Rattle.upp_limits.proofs.JoinedNumbers.{joined_assoc}
use Rattle.upp_limits.proofs.SpanNumbers.{if_some_map}
use Rattle.upp_limits.proofs.first_copies.with_first_operands.Goals as goal

pub returns-in-Some : goal.returns-in-Some
returns-in-Some c =
    let e = c.args.end in
    let f = c.args.f.now in
    let g = c.args.other.now in
    if_some_map c.with_first-in-Some.result _ _
    (λ r w n h.
    subst (λ k. Gathers r (joined n (first_operands k e f g))) (sym c.in-Both.is)
    (subst (Gathers r) (joined_assoc n (first_numbers e f) (first_numbers e g)) (w (joined n (first_numbers e f)) (c.in-Some.ensures n h))))
    c.with_first-in-Some.ensures
