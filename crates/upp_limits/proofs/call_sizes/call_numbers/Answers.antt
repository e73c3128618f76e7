use Rattle.std.proofs.Common.{◌≤◌, ◌^◌, subst, sym}
use Rattle.std.proofs.lemmas.Bool.{true≢false}
use Rattle.upp_limits.specs.CallNumbers.{AreCallNumbers}
use Rattle.upp_limits.specs.Limits.{Sizes, no_numbers, joined, sizes_of, time_alone}
use Rattle.upp_limits.specs.Gathered.{Gathers}
use Rattle.upp_limits.specs.OwnWindow.{AreNumbers}
use Rattle.upp_limits.specs.Sized.{HeldBy}
use Rattle.upp_limits.specs.Gauges.{kind_numbers, operands_of, operand_numbers, numbers_over}
use Rattle.upp_limits.specs.ClosedOperands.{closed_operands}
use Rattle.upp_limits.proofs.Operands.{closed_gauge, unknown_over}
use Rattle.upp_limits.proofs.CallSizes.{closed_sizes, gathered_all}
use Rattle.upp_limits.proofs.call_sizes.call_numbers.Goals.{In-Some}
use Rattle.upp_limits.proofs.call_sizes.call_numbers.Goals as goal

-- all numbers of the call are gathered
found : (c : In-Some)
    → Gathers c.in-Some.found (joined (time_alone c.args.end) (joined (kind_numbers c.args.op.now) (closed_operands (operands_of c.args.op.now) c.args.end c.args.f.now c.args.g.now)))
found c =
    let op = c.args.op.now in
    let e = c.args.end in
    let start = c.with_kind-own.ensures (time_alone e) (c.with_time.ensures no_numbers c.nothing.ensures) in
    gathered_all op c.args.f.now c.args.g.now e c.operands.result c.in-Some.found c.operands.ensures (c.in-Some.ensures.value (joined (time_alone e) (kind_numbers op)) start)

pub returns-in-Some-numbers_of : goal.returns-in-Some-numbers_of
returns-in-Some-numbers_of c =
    let op = c.args.op.now in let f = c.args.f.now in let g = c.args.g.now in let e = c.args.end in
    let P : Sizes → Type 0 = λ z. AreNumbers e z c.in-Some-numbers_of.numbers in
    let is = subst P (closed_sizes op f g e)
    (c.in-Some-numbers_of.ensures (joined (kind_numbers op) (closed_operands (operands_of op) e f g)) (found (goal.at.returns-in-Some-numbers_of c).In-Some)) in
    subst (AreCallNumbers (sizes_of e (numbers_over op f g e))) (sym c.without_end.ensures) record { gauge = is.gauge; times = is.times; values = is.values }

pub returns-in-None-numbers_of : goal.returns-in-None-numbers_of
returns-in-None-numbers_of c =
    let op = c.args.op.now in let f = c.args.f.now in let g = c.args.g.now in let e = c.args.end in
    subst (λ n. 2 ^ 128 ≤ n) (closed_gauge op f g e)
    (c.in-None-numbers_of.ensures (joined (kind_numbers op) (closed_operands (operands_of op) e f g)) (found (goal.at.returns-in-None-numbers_of c).In-Some))

pub returns-in-None : goal.returns-in-None
returns-in-None c =
    let op = c.args.op.now in
    let f = c.args.f.now in
    let g = c.args.g.now in
    let e = c.args.end in
    unknown_over op f g e (λ z h. true≢false (sym (c.in-None.ensures.fits z (subst (λ k. HeldBy z e (operand_numbers k e f g)) (sym c.operands.ensures) h))))
