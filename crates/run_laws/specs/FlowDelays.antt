-- The delay of a packet from where it enters to where its flow ends.
use Rattle.std.specs.Prelude.{ℕ, ◌&&◌, ◌==◌, List, [], ◌∷◌, if◌then◌else◌}
use Rattle.rational.specs.Rational.{ℚ, ◌+ℚ◌, ◌-ℚ◌}
use Rattle.run_laws.specs.declared.steps.Step.{Step}
use Rattle.run_laws.specs.declared.steps.Step.TheVariants.{Enter, Reach, Work, Leave, Visit}
use Rattle.run_laws.specs.Runs.{SpecRun}
use Rattle.run_laws.specs.Delays.{kept}
use Rattle.run_laws.specs.Routes.{Routes, link_at, route_of, last_server}

-- when packet p has left server s, its last, and passed that server's link; the end of the run where it does not leave
abbrev pub delivered_at : Routes → ℚ → ℕ → ℕ → List Step → ℚ
delivered_at net end s p [] = end
delivered_at net end s p (Enter f q t b ∷ xs) = delivered_at net end s p xs
delivered_at net end s p (Reach r q t ∷ xs) = delivered_at net end s p xs
delivered_at net end s p (Work r q a b w ∷ xs) = delivered_at net end s p xs
delivered_at net end s p (Leave r q t ∷ xs) =
    if (r == s) && (q == p) then t +ℚ link_at net s else delivered_at net end s p xs
delivered_at net end s p (Visit r q t ∷ xs) = delivered_at net end s p xs

-- of the packets that enter among these steps
abbrev pub delays_from : Routes → ℕ → ℚ → List Step → List ℚ
delays_from net flow end [] = []
delays_from net flow end (Enter f p t b ∷ xs) =
    kept (f == flow) (delivered_at net end (last_server (route_of net f).hops) p xs -ℚ t) (delays_from net flow end xs)
delays_from net flow end (Reach r q t ∷ xs) = delays_from net flow end xs
delays_from net flow end (Work r q a b w ∷ xs) = delays_from net flow end xs
delays_from net flow end (Leave r q t ∷ xs) = delays_from net flow end xs
delays_from net flow end (Visit r q t ∷ xs) = delays_from net flow end xs

-- the delay of each packet of a flow: its last leaving less its entering, and the last server's link
abbrev pub delays : Routes → SpecRun → ℕ → List ℚ
delays net run flow = delays_from net flow run.end run.steps
