-- Packets against a line over a stair, by the steps that their bits fill. The bits from one packet to another, and those that are spared,
-- need as many steps as are filled between the one's start and the other's end, and one more where less is over at that start than at
-- that end. Own choice.
use Rattle.std.specs.Prelude.{◌≡◌, ℕ, zero, suc, pos, ◌+◌, ◌<◌, ◌≤◌, List, [], ◌∷◌, length, get_or}
use Rattle.rational.specs.Rational.{ℚ, int, ◌+ℚ◌, ◌-ℚ◌, ◌*ℚ◌, ◌≤ℚ◌, ◌<ℚ◌}
use Rattle.run_laws.specs.Cards.{whole}
use Rattle.flow_watch.specs.declared.watch_laws.entering.Entering.{Entering}
use Rattle.flow_watch.specs.watch_laws.Entries.{entering}
use Rattle.flow_watch.specs.declared.step_lines.places.Fill.{Fill}
use Rattle.flow_watch.specs.declared.step_lines.places.Placed.{Placed}
use Rattle.flow_watch.specs.step_lines.Lows.{Covers}

-- the bits of the first k packets
abbrev pub bits_under : ℕ → List Entering → ℕ
bits_under zero es = 0
bits_under (suc k) [] = 0
bits_under (suc k) (e ∷ es) = e.bits + bits_under k es

-- so many whole steps, and a part of one
pub record IsFill (height amount : ℚ) (f : Fill) : Type 0 where
  pub number : ℕ
  pub is : f.steps ≡ whole number
  pub all : (f.steps +ℚ f.over) *ℚ height ≡ amount
  pub low : int (pos 0) ≤ℚ f.over
  pub high : f.over ≤ℚ int (pos 1)

pub record IsBetween (before after : Fill) (rate time : ℚ) (p : Placed) : Type 0 where
  pub before_is : p.before ≡ before.over
  pub lag_is : p.lag ≡ before.steps -ℚ rate *ℚ time
  pub after_is : p.after ≡ after.over
  pub lead_is : p.lead ≡ after.steps -ℚ rate *ℚ time

-- a packet at a time: so much comes before it, and so much up to it
pub record IsPlaced (height rate time under upto : ℚ) (p : Placed) : Type 0 where
  pub before : Fill
  pub after : Fill
  pub fills_under : IsFill height under before
  pub fills_upto : IsFill height upto after
  pub between : IsBetween before after rate time p

-- the place of a number; past the last it means nothing
abbrev pub no_place : Placed
no_place = record { before = int (pos 0); lag = int (pos 0); after = int (pos 0); lead = int (pos 0) }

abbrev pub placed : List Placed → ℕ → Placed
placed ps k = get_or ps k no_place

-- the first packets, each with the bits up to it and those that are spared
pub record ArePlaced (height spare rate : ℚ) (es : List Entering) (ps : List Placed) (upto : ℕ) : Type 0 where
  pub count : length ps ≡ upto
  pub each : (k : ℕ) → k < upto → IsPlaced height rate (entering es k).time (whole (bits_under k es))
      (whole (bits_under (suc k) es) +ℚ spare) (placed ps k)

-- b is within the slack of a
pub record IsNear (slack wide : ℚ) (a b : Placed) : Type 0 where
  pub by_more : b.lead ≤ℚ a.lag +ℚ wide
  pub by_less : a.before <ℚ b.after → b.lead ≤ℚ a.lag +ℚ slack

abbrev pub KeepPlaces : ℚ → ℚ → List Placed → ℕ → Type 0
KeepPlaces slack wide ps upto = (i j : ℕ) → i ≤ j → j < upto → IsNear slack wide (placed ps i) (placed ps j)

-- its lag is let in at its part of a step, in the lower half of the nodes
pub record IsIn (parts nodes : List ℚ) (p : Placed) : Type 0 where
  pub at : ℕ
  pub in_range : at < length parts
  pub is : get_or parts at p.before ≡ p.before
  pub covers : Covers nodes p.lag (length parts + at)
