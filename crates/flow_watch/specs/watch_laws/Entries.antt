-- The packets of one flow as they enter, and pairs of them between which too many bits enter. Own choice.
use Rattle.std.specs.Prelude.{ℕ, zero, suc, ◌+◌, ◌<◌, ◌≤◌, ◌==◌, pos, List, [], ◌∷◌, length, get_or, if◌then◌else◌}
use Rattle.rational.specs.Rational.{ℚ, int, ◌-ℚ◌, ◌≤ℚ◌}
use Rattle.rational.specs.Extended.{Ext, ◌<ₑ◌}
use Rattle.rational.specs.declared.Extended.TheVariants.{Fin}
use Rattle.run_laws.specs.declared.steps.Step.{Step}
use Rattle.run_laws.specs.declared.steps.Step.TheVariants.{Enter, Reach, Work, Leave, Visit}
use Rattle.run_laws.specs.Cards.{whole}
use Rattle.flow_watch.specs.declared.watch_laws.entering.Entering.{Entering}

-- the packets of a flow as they enter, in their order
abbrev pub entries : ℕ → List Step → List Entering
entries flow [] = []
entries flow (Enter f p t b ∷ xs) =
    if f == flow then record { time = t; bits = b } ∷ entries flow xs else entries flow xs
entries flow (Reach s p t ∷ xs) = entries flow xs
entries flow (Work s p a b w ∷ xs) = entries flow xs
entries flow (Leave s p t ∷ xs) = entries flow xs
entries flow (Visit s q t ∷ xs) = entries flow xs

-- the packet of a number; past the last it means nothing
abbrev pub entering : List Entering → ℕ → Entering
entering es k = get_or es k record { time = int (pos 0); bits = 0 }

-- the bits of the packets up to number `last`, it too
abbrev pub bits_to : ℕ → List Entering → ℕ
bits_to last [] = 0
bits_to zero (e ∷ es) = e.bits
bits_to (suc last) (e ∷ es) = e.bits + bits_to last es

-- the bits of those from number `first` to number `last`, both too
abbrev pub bits_between : ℕ → ℕ → List Entering → ℕ
bits_between first last [] = 0
bits_between zero last (e ∷ es) = bits_to last (e ∷ es)
bits_between (suc first) zero (e ∷ es) = 0
bits_between (suc first) (suc last) (e ∷ es) = bits_between first last es

-- they are more than the curve at the time between the two entries
pub record IsCrowded (α : ℚ → Ext) (es : List Entering) (first last : ℕ) : Type 0 where
  pub in_order : first ≤ last
  pub entered : last < length es
  pub more : α ((entering es last).time -ℚ (entering es first).time) <ₑ Fin (whole (bits_between first last es))

-- the entries don't go back in time
abbrev pub EntersFrom : ℚ → List Entering → Type 0
EntersFrom t [] = Unit {0}
EntersFrom t (e ∷ es) = (t ≤ℚ e.time) × EntersFrom e.time es
