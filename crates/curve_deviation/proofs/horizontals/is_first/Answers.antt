use Rattle.std.proofs.Common.{refl, sym, true≢false}
use Rattle.std.proofs.lemmas.Bool.{eqb-true}
use Rattle.curve_deviation.proofs.PeriodsFound.{first_none, first_guessed}
use Rattle.curve_deviation.proofs.horizontals.is_first.Goals as goal

pub returns-then-is_level : goal.returns-then-is_level
returns-then-is_level c = λ yes.
    first_none c.args.f.now c.args.g.now c.args.numbers.now.first c.keeps.ensures c.keeps-2.ensures c.requires.both (c.if-is_level.ensures.0 refl) (eqb-true c.args.numbers.now.first 0 yes)

pub returns-in-Some : goal.returns-in-Some
returns-in-Some c = λ yes.
    first_guessed c.args.f.now c.args.g.now c.in-Some.level c.args.numbers.now.first c.keeps.ensures c.keeps-2.ensures c.requires.both (λ e. true≢false (sym (c.if-is_level.ensures.1 e))) c.in-Some.ensures.value
    (c.leaves_at.ensures.below yes) (c.leaves_at.ensures.left yes)
