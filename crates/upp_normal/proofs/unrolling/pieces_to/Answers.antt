use Rattle.std.proofs.Common.{arith, ◌≡◌, ◌<◌, ◌^◌, ◌∙◌, pos, refl, subst, sym}
use Rattle.rational.specs.Rational.{◌<ℚ◌, ◌≤ℚ◌, int}
use Rattle.rational.proofs.Laws.{le_of_lt}
use Rattle.upp_limits.specs.declared.op_kind.OpKind.TheVariants.{Itself}
use Rattle.upp_limits.specs.Gauges.{gauge_over}
use Rattle.rational.proofs.Compared.{not_less_out}
use Rattle.upp_normal.proofs.GaugeRises.{first_operand}
use Rattle.upp_normal.proofs.UnrolledPieces.{unroll_none}
use Rattle.upp_normal.proofs.UnrolledCounts.{number_of}
use Rattle.upp_normal.proofs.UnrolledReads.{reads_below}
use Rattle.upp_normal.proofs.unrolling.pieces_to.Goals as goal

pub returns-then-is_less-clause-pieces : goal.returns-then-is_less-clause-pieces
returns-then-is_less-clause-pieces c =
    let f = c.args.c.now in
    let h = c.args.h in
    let early : h <ℚ int (pos 0) = subst (λ x. h <ℚ x) c.zero.ensures (c.is_less.ensures.less.0 c.if-is_less.true) in
    c.new.ensures.items ∙ sym (unroll_none f h (le_of_lt early) c.allocator-alloc.ensures.normal)

pub unrolled-requires : goal.unrolled-requires
unrolled-requires c =
    let f = c.args.c.now in
    let h = c.args.h in
    let late : int (pos 0) ≤ℚ h = subst (λ x. x ≤ℚ h) c.zero.ensures (not_less_out c.is_less.result h c.zero.result c.is_less.ensures.less c.if-is_less.false) in
    let size : c.in-Some.size ≡ gauge_over Itself f f h = c.in-Some.ensures.exact h (λ k. k) refl in
    let small : gauge_over Itself f f h < 2 ^ 120 = omega (arith, c.in_ok-within_limits.ensures.narrow) in
    first_operand Itself f f h late small

pub returns-clause-none : goal.returns-clause-none
returns-clause-none c = λ low. c.in_ok-unrolled.ensures ∙ unroll_none c.args.c.now c.args.h low c.allocator-alloc.ensures.normal

pub returns-then-is_less-clause-number : goal.returns-then-is_less-clause-number
returns-then-is_less-clause-number c =
    let f = c.args.c.now in
    let h = c.args.h in
    let early : h <ℚ int (pos 0) = subst (λ x. h <ℚ x) c.zero.ensures (c.is_less.ensures.less.0 c.if-is_less.true) in
    let normal = c.allocator-alloc.ensures.normal in
    number_of f h c.new.result.items normal (c.new.ensures.items ∙ sym (unroll_none f h (le_of_lt early) normal))

pub returns-clause-number : goal.returns-clause-number
returns-clause-number c =
    number_of c.args.c.now c.args.h c.in_ok-unrolled.field-0.items c.allocator-alloc.ensures.normal c.in_ok-unrolled.ensures

pub returns-then-is_less-clause-reads : goal.returns-then-is_less-clause-reads
returns-then-is_less-clause-reads c = reads_below c.args.c.now c.args.h c.new.result.items c.allocator-alloc.ensures.normal (returns-then-is_less-clause-pieces c)

pub returns-clause-reads : goal.returns-clause-reads
returns-clause-reads c = reads_below c.args.c.now c.args.h c.in_ok-unrolled.field-0.items c.allocator-alloc.ensures.normal c.in_ok-unrolled.ensures
