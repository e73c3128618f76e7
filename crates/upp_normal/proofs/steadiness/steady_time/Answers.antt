use Rattle.std.proofs.Common.{◌≡◌, ◌∙◌, sym, subst, ap}
use Rattle.std.specs.Option.{IfSome}
use Rattle.upp_curve.specs.Steady.{later_unless, rank_of}
use Rattle.upp_normal.proofs.SteadyStart.{IsLast, periodic_steady, affine_steady, infinite_steady, affine_line, steady_none, not_answered}
use Rattle.upp_normal.proofs.Repeating.{repeats_at, repeats_if}
use Rattle.upp_normal.proofs.steadiness.steady_time.Goals as goal

pub returns-in-Periodic-clause-value : goal.returns-in-Periodic-clause-value
returns-in-Periodic-clause-value c =
    periodic_steady c.args.c.now c.in-Periodic.rank c.in-Periodic.period c.in-Periodic.rise (sym c.tail.ensures.tail ∙ c.in-Periodic.is)

pub returns-in-Some-clause-value : goal.returns-in-Some-clause-value
returns-in-Some-clause-value c =
    let last : IsLast c.args.c.now c.pieces-pieces.result.now c.index-pieces-pieces.result = record { pieces = c.pieces-pieces.ensures.pieces; place = c.index-pieces-pieces.is } in
    let e = affine_steady c.args.c.now c.pieces-pieces.result.now c.index-pieces-pieces.result c.in-Affine.rank c.tail.ensures.kept last (sym c.tail.ensures.tail ∙ c.in-Affine.is) in
    subst (λ s. IfSome c.later_unless.result (λ t. t ≡ s)) (ap (λ b. later_unless b c.in-Affine.rank) c.in-Some.ensures.value ∙ e) c.later_unless.ensures.value

pub returns-in-None-clause-fits : goal.returns-in-None-clause-fits
returns-in-None-clause-fits c = λ s.
    let last : IsLast c.args.c.now c.pieces-pieces.result.now c.index-pieces-pieces.result = record { pieces = c.pieces-pieces.ensures.pieces; place = c.index-pieces-pieces.is } in
    c.in-None.ensures.fits (affine_line c.args.c.now c.pieces-pieces.result.now c.index-pieces-pieces.result c.in-Affine.rank c.tail.ensures.kept last (sym c.tail.ensures.tail ∙ c.in-Affine.is))

pub returns-in-Infinite-clause-value : goal.returns-in-Infinite-clause-value
returns-in-Infinite-clause-value c =
    let last : IsLast c.args.c.now c.pieces-pieces.result.now c.index-pieces-pieces.result = record { pieces = c.pieces-pieces.ensures.pieces; place = c.index-pieces-pieces.is } in
    let e = infinite_steady c.args.c.now c.pieces-pieces.result.now c.index-pieces-pieces.result c.in-Infinite.rank c.tail.ensures.kept last (sym c.tail.ensures.tail ∙ c.in-Infinite.is) in
    subst (λ s. IfSome c.later_unless-in-Infinite.result (λ t. t ≡ s)) (ap (λ b. later_unless b c.in-Infinite.rank) c.is_infinite_at.ensures ∙ e) c.later_unless-in-Infinite.ensures.value

pub returns-in-Some-clause-none : goal.returns-in-Some-clause-none
returns-in-Some-clause-none c =
    let last : IsLast c.args.c.now c.pieces-pieces.result.now c.index-pieces-pieces.result = record { pieces = c.pieces-pieces.ensures.pieces; place = c.index-pieces-pieces.is } in
    let tail = sym c.tail.ensures.tail ∙ c.in-Affine.is in
    let e = affine_steady c.args.c.now c.pieces-pieces.result.now c.index-pieces-pieces.result c.in-Affine.rank c.tail.ensures.kept last tail in
    steady_none c.later_unless.result c.args.c.now c.in-Some.keeps c.in-Affine.rank (ap rank_of tail)
    (ap (λ b. later_unless b c.in-Affine.rank) c.in-Some.ensures.value ∙ e) c.later_unless.ensures.none

pub returns-in-None-clause-none : goal.returns-in-None-clause-none
returns-in-None-clause-none c =
    let last : IsLast c.args.c.now c.pieces-pieces.result.now c.index-pieces-pieces.result = record { pieces = c.pieces-pieces.ensures.pieces; place = c.index-pieces-pieces.is } in
    absurd (not_answered (c.in-None.ensures.fits (affine_line c.args.c.now c.pieces-pieces.result.now c.index-pieces-pieces.result c.in-Affine.rank c.tail.ensures.kept last (sym c.tail.ensures.tail ∙ c.in-Affine.is))))

pub returns-in-Infinite-clause-none : goal.returns-in-Infinite-clause-none
returns-in-Infinite-clause-none c =
    let last : IsLast c.args.c.now c.pieces-pieces.result.now c.index-pieces-pieces.result = record { pieces = c.pieces-pieces.ensures.pieces; place = c.index-pieces-pieces.is } in
    let tail = sym c.tail.ensures.tail ∙ c.in-Infinite.is in
    let e = infinite_steady c.args.c.now c.pieces-pieces.result.now c.index-pieces-pieces.result c.in-Infinite.rank c.tail.ensures.kept last tail in
    steady_none c.later_unless-in-Infinite.result c.args.c.now c.is_infinite_at.result c.in-Infinite.rank (ap rank_of tail)
    (ap (λ b. later_unless b c.in-Infinite.rank) c.is_infinite_at.ensures ∙ e) c.later_unless-in-Infinite.ensures.none

pub returns-in-Periodic-clause-repeats : goal.returns-in-Periodic-clause-repeats
returns-in-Periodic-clause-repeats c = repeats_at c.args.c.now c.in-Periodic.rank c.tail.ensures.kept (returns-in-Periodic-clause-value c)

pub returns-in-Some-clause-repeats : goal.returns-in-Some-clause-repeats
returns-in-Some-clause-repeats c = repeats_if c.args.c.now c.later_unless.result c.tail.ensures.kept (returns-in-Some-clause-value c)

pub returns-in-Infinite-clause-repeats : goal.returns-in-Infinite-clause-repeats
returns-in-Infinite-clause-repeats c = repeats_if c.args.c.now c.later_unless-in-Infinite.result c.tail.ensures.kept (returns-in-Infinite-clause-value c)
