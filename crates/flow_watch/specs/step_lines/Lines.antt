-- Packets that keep a line in whole steps. Own choice.
use Rattle.std.specs.Prelude.{ℕ, suc, pos, ◌<◌, ◌≤◌, List}
use Rattle.rational.specs.Rational.{ℚ, int, ◌+ℚ◌, ◌-ℚ◌, ◌*ℚ◌, ◌≤ℚ◌}
use Rattle.run_laws.specs.Cards.{whole}
use Rattle.flow_watch.specs.declared.watch_laws.entering.Entering.{Entering}
use Rattle.flow_watch.specs.watch_laws.Entries.{entering, bits_between}

-- of the first packets: where the line is at least 0 at the time between two of them, their bits and those that are spared fit in one
-- step more than some whole number that it is at least
abbrev pub KeepsLine : ℚ → ℚ → ℚ → ℚ → List Entering → ℕ → Type 0
KeepsLine height spare slack rate es upto = (i j : ℕ) → i ≤ j → j < upto
    → int (pos 0) ≤ℚ slack +ℚ rate *ℚ ((entering es j).time -ℚ (entering es i).time)
    → (n : ℕ) × (whole (bits_between i j es) +ℚ spare ≤ℚ whole (suc n) *ℚ height)
    × (whole n ≤ℚ slack +ℚ rate *ℚ ((entering es j).time -ℚ (entering es i).time))
