-- What a tally tells, and when it may go on.
use Rattle.std.specs.Prelude.{Some, ◌≡◌, ℕ, pos, List, ◌∷◌, slice_get, slice_index_or}
use Rattle.rational.specs.Rational.{ℚ, int, neg_ℚ}
use Rattle.rational.specs.Ratio.{SumFits}
use Rattle.run_laws.specs.declared.steps.Step.{Step}
use Rattle.run_laws.specs.declared.steps.Step.TheVariants.{Enter, Reach, Work, Leave, Visit}
use Rattle.run_laws.specs.Routes.{Routes, link_at}
use Rattle.simulator.specs.declared.run_measures.worst.Tally.{Tally}
use Rattle.simulator.specs.run_measures.Worst.{IsTallied}

-- it tells of these steps
abbrev pub IsTold : Routes → ℚ → List Step → ℕ → Tally → Type 0
IsTold net end xs many v = IsTallied net end xs v.flows.items v.delivered.items many v.worst.items

-- of whatever steps it told before, it now tells of x before them
abbrev pub Tells : Routes → Step → Tally → Tally → Type 0
Tells net x before after = (end : ℚ) (xs : List Step) (many : ℕ) → IsTold net end xs many before
    → IsTold net end (x ∷ xs) many after

-- a packet that enters is one of the flow that is known of it, and the sums of the step have room
abbrev pub MayTell : Routes → Step → Tally → Type 0
MayTell net (Enter f p t b) v =
    (slice_get v.flows.items p ≡ Some f) × SumFits (slice_index_or v.delivered.items p (int (pos 0))) (neg_ℚ t)
MayTell net (Reach s p t) v = Unit {0}
MayTell net (Work s p a b w) v = Unit {0}
MayTell net (Leave s p t) v = SumFits t (link_at net s)
MayTell net (Visit s q t) v = Unit {0}
