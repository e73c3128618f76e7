use Rattle.std.proofs.Common.{sym, subst, []}
use Rattle.std.specs.Prelude.{Ok, Err}
use Rattle.cell_eval.specs.declared.curve_sums.Partial.TheVariants.{Made}
use Rattle.cell_eval.specs.Partial.{Adds, added_curve, partial_of}
use Rattle.cell_eval.proofs.SumSteps.{all_unmade}
use Rattle.cell_eval.proofs.curve_sums.grown.Goals as goal

pub returns-in-Empty-clause-sum : goal.returns-in-Empty-clause-sum
returns-in-Empty-clause-sum c = λ at cells old new h.
    subst (λ p. Adds at [] cells old new (Ok (partial_of p))) c.in-Empty.is h

pub returns-in-Single-clause-sum : goal.returns-in-Single-clause-sum
returns-in-Single-clause-sum c = λ at cells old new h.
    subst (λ p. Adds at [] cells old new (Ok (partial_of p))) c.in-Single.is h

pub returns-in-Ok-clause-sum : goal.returns-in-Ok-clause-sum
returns-in-Ok-clause-sum c = λ at cells old new h.
    subst (λ f. Adds at [] cells old new (Ok (Made f))) (sym c.in-Ok.ensures) (subst (λ p. Adds at [] cells old new (Ok (partial_of p))) c.in-More.is h)

pub returns-in-Err-clause-sum : goal.returns-in-Err-clause-sum
returns-in-Err-clause-sum c = λ at cells old new h.
    subst (λ e. Adds at [] cells old new (Err e)) (sym c.in-Err.ensures)
    (all_unmade at cells old new (added_curve c.in-More.whole) (subst (λ p. Adds at [] cells old new (Ok (partial_of p))) c.in-More.is h))
