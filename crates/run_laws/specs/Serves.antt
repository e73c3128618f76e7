-- What it means that a curve serves a class of packets. (Le Boudec and Thiran, minimum service curve.)
use Rattle.std.specs.Prelude.{List}
use Rattle.rational.specs.Rational.{ℚ, ◌-ℚ◌, ◌≤ℚ◌}
use Rattle.rational.specs.Extended.{Ext, ◌≤ₑ◌, ◌+ₑ◌}
use Rattle.rational.specs.declared.Extended.TheVariants.{Fin}
use Rattle.run_laws.specs.Cards.{Class, ServerStep}
use Rattle.run_laws.specs.Counts.{arrived, worked, departed}

-- what arrived before s has left before t, and since s the work kept up with the curve
pub record IsServed (C : Class) (β : ℚ → Ext) (V : List ServerStep) (t s : ℚ) : Type 0 where
  pub earlier : s ≤ℚ t
  pub left : arrived C V s ≤ℚ departed C V t
  pub kept_up : (Fin (arrived C V s) +ₑ β (t -ℚ s)) ≤ₑ Fin (worked C V t)

-- the curve serves the class: at each time up to the end it is served since some earlier one
abbrev pub Serves : Class → (ℚ → Ext) → ℚ → List ServerStep → Type 0
Serves C β end V = (t : ℚ) → t ≤ℚ end → (s : ℚ) × IsServed C β V t s

-- the same for whole packets: what counts is the packets that left
pub record IsPacketServed (C : Class) (γ : ℚ → Ext) (V : List ServerStep) (t s : ℚ) : Type 0 where
  pub earlier : s ≤ℚ t
  pub kept_up : (Fin (arrived C V s) +ₑ γ (t -ℚ s)) ≤ₑ Fin (departed C V t)

abbrev pub ServesPackets : Class → (ℚ → Ext) → ℚ → List ServerStep → Type 0
ServesPackets C γ end V = (t : ℚ) → t ≤ℚ end → (s : ℚ) × IsPacketServed C γ V t s
