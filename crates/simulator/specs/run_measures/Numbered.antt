-- Packets that are numbered in the order in which they enter.
use Rattle.std.specs.Prelude.{◌≡◌, ℕ, suc, List, [], ◌∷◌}
use Rattle.run_laws.specs.declared.steps.Step.{Step}
use Rattle.run_laws.specs.declared.steps.Step.TheVariants.{Enter, Reach, Work, Leave, Visit}

-- those that enter among these steps have the numbers from n on, in their order
abbrev pub AreNumberedFrom : ℕ → List Step → Type 0
AreNumberedFrom n [] = Unit {0}
AreNumberedFrom n (Enter f p t b ∷ xs) = (p ≡ n) × AreNumberedFrom (suc n) xs
AreNumberedFrom n (Reach s p t ∷ xs) = AreNumberedFrom n xs
AreNumberedFrom n (Work s p a b w ∷ xs) = AreNumberedFrom n xs
AreNumberedFrom n (Leave s p t ∷ xs) = AreNumberedFrom n xs
AreNumberedFrom n (Visit s q t ∷ xs) = AreNumberedFrom n xs

-- the flows of those that enter, in their order
abbrev pub flows_in : List Step → List ℕ
flows_in [] = []
flows_in (Enter f p t b ∷ xs) = f ∷ flows_in xs
flows_in (Reach s p t ∷ xs) = flows_in xs
flows_in (Work s p a b w ∷ xs) = flows_in xs
flows_in (Leave s p t ∷ xs) = flows_in xs
flows_in (Visit s q t ∷ xs) = flows_in xs
