use Rattle.std.proofs.Common.{refl, sym, subst, true≢false}
use Rattle.rational.specs.Rational.{◌≤ℚ◌}
use Rattle.run_watch.specs.Searches.{FindsIn}
use Rattle.run_watch.proofs.IdleIn.{none_idle_more, first_here, late_from, late_rest, none_at_all}
use Rattle.run_watch.proofs.NearWindows.{looked_at_part, all_of_it}
use Rattle.run_watch.proofs.ClearStretches.{none_found}
use Rattle.run_watch.proofs.HeldTimes.{searched}
use Rattle.run_watch.proofs.service.first_along.Goals as goal

pub part_of-part-requires : goal.part_of-part-requires
part_of-part-requires c = c.requires.rise

pub turns_in-own-requires : goal.turns_in-own-requires
turns_in-own-requires c = c.requires.rise

pub first_in-requires-clause-stretch : goal.first_in-requires-clause-stretch
first_in-requires-clause-stretch c =
    looked_at_part c.args.w.now c.args.until.now c.args.along.now c.loop-s.s-index c.s-item.result c.part_of-part.result c.args.turned.now c.args.sorted.now c.turns_in-own.result.now
    c.requires.along c.loop-s-test.true c.s-item.is c.requires.turned c.requires.same (λ h. true≢false (sym (c.if-is_late.ensures.1 h))) c.part_of-part.ensures
    c.turns_in-own.ensures.holds c.turns_in-own.ensures.rise

pub returns-then-is_late : goal.returns-then-is_late
returns-then-is_late c = λ server V S M.
    late_from server V c.args.w.now c.args.curve.now c.args.until.now c.args.along.now c.loop-s.s-index c.s-item.result S c.requires.along c.loop-s-test.true c.s-item.is
    (c.loop-s.invariant server V S M) (c.if-is_late.ensures.0 refl)

pub returns-in-Some : goal.returns-in-Some
returns-in-Some c = λ server V S M.
    let looks =
    looked_at_part c.args.w.now c.args.until.now c.args.along.now c.loop-s.s-index c.s-item.result c.part_of-part.result c.args.turned.now c.args.sorted.now c.turns_in-own.result.now
    c.requires.along c.loop-s-test.true c.s-item.is c.requires.turned c.requires.same (λ h. true≢false (sym (c.if-is_late.ensures.1 h))) c.part_of-part.ensures
    c.turns_in-own.ensures.holds c.turns_in-own.ensures.rise in
    first_here server V c.args.w.now c.args.curve.now c.args.turned.now c.turns_in-own.result.now c.args.along.now c.loop-s.s-index c.s-item.result c.part_of-part.result c.in-Some.found.0 c.in-Some.found.1
    (searched server V c.args.w.now c.args.curve.now c.args.turned.now c.requires.held S M c.requires.some c.requires.turned) c.requires.along c.loop-s-test.true c.s-item.is
    c.part_of-part.ensures.start (c.loop-s.invariant server V S M) looks
    (subst (FindsIn c.args.w.now c.args.curve.now c.part_of-part.result c.turns_in-own.result.now c.args.turned.now) c.in-Some.is (c.in_ok-found.ensures server V S M))

pub returns-then-is_late-2 : goal.returns-then-is_late-2
returns-then-is_late-2 c = λ server V S M.
    let looks =
    looked_at_part c.args.w.now c.args.until.now c.args.along.now c.loop-s.s-index c.s-item.result c.part_of-part.result c.args.turned.now c.args.sorted.now c.turns_in-own.result.now
    c.requires.along c.loop-s-test.true c.s-item.is c.requires.turned c.requires.same (λ h. true≢false (sym (c.if-is_late.ensures.1 h))) c.part_of-part.ensures
    c.turns_in-own.ensures.holds c.turns_in-own.ensures.rise in
    late_rest server V c.args.w.now c.args.curve.now c.args.until.now c.args.along.now c.loop-s.s-index c.s-item.result c.part_of-part.result S c.requires.along c.loop-s-test.true c.s-item.is
    (c.loop-s.invariant server V S M) c.part_of-part.ensures.start
    (none_found server V c.args.w.now c.args.curve.now c.args.turned.now c.turns_in-own.result.now c.part_of-part.result
    (searched server V c.args.w.now c.args.curve.now c.args.turned.now c.requires.held S M c.requires.some c.requires.turned) looks
    (subst (FindsIn c.args.w.now c.args.curve.now c.part_of-part.result c.turns_in-own.result.now c.args.turned.now) c.in_default.is (c.in_ok-found.ensures server V S M)))
    (c.if-is_late-2.ensures.0 refl)

pub loop-s-preserved : goal.loop-s-preserved
loop-s-preserved c = λ server V S M.
    let looks =
    looked_at_part c.args.w.now c.args.until.now c.args.along.now c.loop-s.s-index c.s-item.result c.part_of-part.result c.args.turned.now c.args.sorted.now c.turns_in-own.result.now
    c.requires.along c.loop-s-test.true c.s-item.is c.requires.turned c.requires.same (λ h. true≢false (sym (c.if-is_late.ensures.1 h))) c.part_of-part.ensures
    c.turns_in-own.ensures.holds c.turns_in-own.ensures.rise in
    let R = searched server V c.args.w.now c.args.curve.now c.args.turned.now c.requires.held S M c.requires.some c.requires.turned in
    let none = none_found server V c.args.w.now c.args.curve.now c.args.turned.now c.turns_in-own.result.now c.part_of-part.result R looks
    (subst (FindsIn c.args.w.now c.args.curve.now c.part_of-part.result c.turns_in-own.result.now c.args.turned.now) c.in_default.is (c.in_ok-found.ensures server V S M)) in
    let whole = all_of_it c.args.until.now c.args.sorted.now c.s-item.result c.part_of-part.result c.part_of-part.ensures (λ h. true≢false (sym (c.if-is_late-2.ensures.1 h))) in
    none_idle_more c.args.w.now.end V c.args.curve.now c.args.along.now c.loop-s.s-index c.s-item.result c.loop-s-test.true c.s-item.is (c.loop-s.invariant server V S M)
    (λ a b idle from upto. none a b idle (subst (λ x. x ≤ℚ a) (sym c.part_of-part.ensures.start) from) (subst (λ x. b ≤ℚ x) (sym whole) upto))

pub returns : goal.returns
returns c = λ server V S M.
    λ a b idle. absurd (none_at_all server V c.args.w.now c.args.curve.now c.args.along.now c.loop-s.s-index S c.requires.along c.loop-s-test.false (c.loop-s.invariant server V S M) a b idle)
