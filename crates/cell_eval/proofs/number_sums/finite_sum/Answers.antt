use Rattle.std.proofs.Common.{sym, subst, [], append-nil}
use Rattle.std.specs.Prelude.{MatchBool}
use Rattle.net_cells.specs.NumberSums.{finite}
use Rattle.cell_eval.specs.Tallies.{IsTallied, IsNarrow}
use Rattle.cell_eval.proofs.Totals.{sums_wide, sums_fine}
use Rattle.cell_eval.proofs.number_sums.finite_sum.Goals as goal

pub returns-then-is_wide : goal.returns-then-is_wide
returns-then-is_wide c = λ xs few e h.
    let t = (subst (IsTallied (finite xs)) c.in-Some.is h).some in
    sums_wide xs e
    (subst (λ b. MatchBool b (¬ (IsNarrow (finite xs))) (IsNarrow (finite xs))) c.if-is_wide.true (c.is_wide.ensures (finite xs) t))

pub returns-else-is_wide : goal.returns-else-is_wide
returns-else-is_wide c = λ xs few e h.
    let t = (subst (IsTallied (finite xs)) c.in-Some.is h).some in
    sums_fine xs c.in-Some.tally.sum e
    (subst (λ b. MatchBool b (¬ (IsNarrow (finite xs))) (IsNarrow (finite xs))) c.if-is_wide.false (c.is_wide.ensures (finite xs) t)) few t.sum

pub returns-in-None : goal.returns-in-None
returns-in-None c = λ xs few e h.
    let t = subst (IsTallied (finite xs)) c.in-None.is h in
    sums_wide xs e (λ n. t.none [] (subst IsNarrow (sym (append-nil (finite xs))) n))
