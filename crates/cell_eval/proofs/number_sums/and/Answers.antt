use Rattle.std.proofs.Common.{sym, subst, refl, [], ◌∷◌, ◌++◌, true}
use Rattle.cell_eval.specs.declared.number_sums.Added.{Added}
use Rattle.cell_eval.specs.Tallies.{AreAdded}
use Rattle.cell_eval.proofs.Tallying.{added_infinite, added_finite}
use Rattle.cell_eval.proofs.number_sums.and.Goals as goal

pub returns-in-Inf : goal.returns-in-Inf
returns-in-Inf c = λ xs h.
    let b : Added = record { infinite = true; tally = c.args.so_far.tally } in
    subst (λ y. AreAdded (xs ++ y ∷ []) b) (sym c.in-Inf.is) (added_infinite xs c.args.so_far b h refl refl)

pub returns-in-Fin : goal.returns-in-Fin
returns-in-Fin c = λ xs h.
    let b : Added = record { infinite = c.args.so_far.infinite; tally = c.with_finite.result } in
    subst (λ y. AreAdded (xs ++ y ∷ []) b) (sym c.in-Fin.is) (added_finite xs c.in-Fin.y c.args.so_far b h refl c.with_finite.ensures)
