use Rattle.upp_limits.specs.Limits.{no_numbers, joined, time_alone}
use Rattle.upp_limits.specs.Gauges.{kind_numbers, operands_of}
use Rattle.upp_limits.specs.Covered.{first_operands}
use Rattle.upp_limits.proofs.SpanNumbers.{if_some_map}
use Rattle.upp_limits.proofs.CoveredCalls.{first_gathered, call_covered}
use Rattle.upp_limits.proofs.call_sizes.covered_grids.Goals as goal

pub returns-in-Some-with_rise : goal.returns-in-Some-with_rise
returns-in-Some-with_rise c =
    let op = c.args.op.now in
    let f = c.args.f.now in
    let g = c.args.g.now in
    let e = c.args.end in
    let own = kind_numbers op in
    let start = c.with_kind-own.ensures (time_alone e) (c.with_time.ensures no_numbers c.nothing.ensures) in
    let first = first_gathered op f g e c.operands.result c.in-Some.first c.operands.ensures (c.in-Some.ensures (joined (time_alone e) own) start) in
    let (m, l, k) = c.in-Some-with_rise.ensures (joined own (first_operands (operands_of op) e f g)) e first in
    if_some_map c.grids_of.result _ _
    (λ r A. call_covered op f g e c.operands-in-Some.result c.in-Some-most_rises.rise m r c.operands-in-Some.ensures c.keeps.ensures c.keeps-2.ensures c.in-Some-most_rises.ensures (l, A))
    (c.grids_of.ensures _ k)
