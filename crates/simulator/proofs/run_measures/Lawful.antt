-- The packets of a lawful run are numbered in the order in which they enter.
use Rattle.std.specs.Prelude.{◌≡◌, suc, List, [], ◌∷◌, ◌++◌, length}
use Rattle.std.proofs.Common.{arith, subst}
use Rattle.std.proofs.lemmas.List.{length_push}
use Rattle.rational.specs.Rational.{ℚ}
use Rattle.run_laws.specs.declared.steps.Step.{Step}
use Rattle.run_laws.specs.declared.steps.Step.TheVariants.{Enter, Reach, Work, Leave, Visit}
use Rattle.run_laws.specs.Runs.{SpecRun}
use Rattle.run_laws.specs.Routes.{Routes}
use Rattle.run_laws.specs.Views.{Entry}
use Rattle.run_laws.specs.Lawful.{RunState, next_run, run_start, AllAllowedInRun, IsLawful}
use Rattle.simulator.specs.run_measures.Numbered.{AreNumberedFrom}

numbered_from : (net : Routes) (end : ℚ) (r : RunState) (xs : List Step) → AllAllowedInRun net end r xs → AreNumberedFrom (length r.entered) xs
numbered_from net end r [] h = tt
numbered_from net end r (Enter f p t b ∷ xs) h =
    let e : Entry = record { flow = f; bits = b } in
    let one : length (r.entered ++ e ∷ []) ≡ suc (length r.entered) = (let l = length_push r.entered e in omega (arith, l)) in
    (h.0.known.in_turn, subst (λ n. AreNumberedFrom n xs) one (numbered_from net end (next_run net r (Enter f p t b)) xs h.1))
numbered_from net end r (Reach s p t ∷ xs) h = numbered_from net end (next_run net r (Reach s p t)) xs h.1
numbered_from net end r (Work s p a b w ∷ xs) h = numbered_from net end (next_run net r (Work s p a b w)) xs h.1
numbered_from net end r (Leave s p t ∷ xs) h = numbered_from net end (next_run net r (Leave s p t)) xs h.1
numbered_from net end r (Visit s q t ∷ xs) h = numbered_from net end (next_run net r (Visit s q t)) xs h.1

pub lawful_runs_are_numbered : (net : Routes) (run : SpecRun) → IsLawful net run → AreNumberedFrom 0 run.steps
lawful_runs_are_numbered net run h = numbered_from net run.end (run_start net) run.steps h.allowed
