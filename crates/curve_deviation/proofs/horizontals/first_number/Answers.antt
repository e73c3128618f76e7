use Rattle.std.proofs.Common.{refl, sym, true≢false}
use Rattle.curve_deviation.proofs.PeriodsFound.{first_level, no_level, first_left}
use Rattle.curve_deviation.proofs.horizontals.first_number.Goals as goal

pub returns-then-is_level : goal.returns-then-is_level
returns-then-is_level c = first_level c.args.f.now c.args.g.now c.keeps.ensures c.keeps-2.ensures c.requires (c.if-is_level.ensures.0 refl)

pub returns-in-None : goal.returns-in-None
returns-in-None c =
    no_level c.args.f.now c.args.g.now c.keeps.ensures c.keeps-2.ensures c.requires (λ e. true≢false (sym (c.if-is_level.ensures.1 e)))
    (λ z end S h. true≢false (sym (c.in-None.ensures.fits z end S h)))

pub returns-in-Some : goal.returns-in-Some
returns-in-Some c =
    first_left c.args.f.now c.args.g.now c.in-Some.level c.least_past.result c.keeps.ensures c.keeps-2.ensures c.requires (λ e. true≢false (sym (c.if-is_level.ensures.1 e))) c.in-Some.ensures.value
    c.least_past.ensures.below c.least_past.ensures.past
