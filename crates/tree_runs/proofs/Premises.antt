-- What a run keeps by its premises: the sizes of its packets, and the curves with which its flows enter.
use Rattle.std.specs.Prelude.{◌≡◌, ℕ, true}
use Rattle.std.proofs.Common.{arith, sym, ap, ◌∙◌, subst}
use Rattle.rational.specs.Rational.{ℚ, ◌-ℚ◌}
use Rattle.rational.specs.Extended.{Ext, ◌≤ₑ◌}
use Rattle.rational.specs.declared.Extended.TheVariants.{Fin}
use Rattle.rational.proofs.ExtendedOrder.{le_ext_trans}
use Rattle.rational.proofs.Linear.{with2}
use Rattle.run_laws.specs.Routes.{first_server}
use Rattle.run_laws.specs.RunPremises.{entered_in}
use Rattle.run_laws.specs.Runs.{SpecRun}
use Rattle.run_laws.specs.Weaker.{IsNowhereAbove}
use Rattle.net_laws.specs.Orders.{EntersKept}
use Rattle.tree_runs.specs.Trees.{TreeRoutes, tree_of, hops_in, flat, KeepsTreePremises}
use Rattle.tree_runs.specs.Packets.{KeepsTreeSizes}
use Rattle.tree_runs.proofs.Trees.{hops_are, live_is}

pub sizes_kept : (net : TreeRoutes) (packet : ℕ → ℕ) (α β : ℕ → ℚ → Ext) (run : SpecRun) → KeepsTreePremises net packet α β run
    → KeepsTreeSizes net packet run
sizes_kept net packet α β run keeps i live = keeps.sizes i (live_is net i ∙ live)

-- where each flow's curve is nowhere above the one that it is to keep at its first server
pub enters_kept : (net : TreeRoutes) (packet : ℕ → ℕ) (α β : ℕ → ℚ → Ext) (run : SpecRun) (arrival : ℕ → ℕ → ℚ → Ext)
    → KeepsTreePremises net packet α β run
    → ((i : ℕ) → (tree_of net i).live ≡ true → IsNowhereAbove (α i) (arrival i (first_server (hops_in (tree_of net i).nodes))))
    → EntersKept (flat net) run arrival
enters_kept net packet α β run arrival keeps below i live s t l =
    let first = ap first_server (hops_are net i) in
    subst (λ (k : ℕ). Fin (entered_in i s t run.steps) ≤ₑ arrival i k (t -ℚ s)) (sym first)
    (le_ext_trans (Fin (entered_in i s t run.steps)) (α i (t -ℚ s)) (arrival i (first_server (hops_in (tree_of net i).nodes)) (t -ℚ s))
    (keeps.arrivals i live s t l)
    (below i (sym (live_is net i) ∙ live) (t -ℚ s) (with2 s t (λ c. omega (arith, c.le, c.lt, c.same)))))
