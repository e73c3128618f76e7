use Rattle.std.proofs.Common.{◌≡◌, ℕ, refl, sym, subst, rules}
use Rattle.std.specs.Prelude.{Result}
use Rattle.outcomes.specs.Spending.{Spends, SpendsSteps}
use Rattle.cell_eval.proofs.flow_analysis.in_order.analyse.Goals as goal

-- what the evaluator spends, the counter spends that comes back from it
handed_back : {A E S : Type 0} (count counter : S → ℕ) (Works : ℕ → Type 0) (lacking : E) (Ends : ℕ → Type 0) (old new : S) (r : Result A E)
    (after : ℕ) → Spends count counter Works lacking Ends old new r → after ≡ count new → SpendsSteps Works lacking Ends (count old) after r
handed_back count counter Works lacking Ends old new r after h is =
    subst (λ (n : ℕ). SpendsSteps Works lacking Ends (count old) n r) (sym is)
    (record { counts = h.counts; rises = h.rises; memory = h.memory; same = refl })

pub returns-clause-table : goal.returns-clause-table
returns-clause-table g c = c.analysed_in_order.ensures.table

pub returns-clause-spends : goal.returns-clause-spends
returns-clause-spends g c =
    let same = sym c.analysed_in_order.ensures.spends.same in
    handed_back _ _ _ _ _ _ _ _ _ c.analysed_in_order.ensures.spends (search rules)
