-- What is yet to be worked of the packet under way at a server of a recorded run.
use Rattle.std.specs.Prelude.{Option, Some, None, ◌≡◌, ◌≢◌, ℕ, pos}
use Rattle.rational.specs.Rational.{ℚ, int}
use Rattle.run_packets.specs.declared.underway.Underway.{Underway}

abbrev pub IsOther : Option Underway → ℕ → Type 0
IsOther None p = ⊥
IsOther (Some v) p = v.packet ≢ p

-- the packet is under way and worked off, and this is the end of its last work
pub record IsOver (v : Underway) (p : ℕ) (t : ℚ) : Type 0 where
  pub packet : v.packet ≡ p
  pub none_left : v.left ≡ int (pos 0)
  pub at_end : v.end ≡ t

abbrev pub MayGo : Option Underway → ℕ → ℚ → Type 0
MayGo None p t = ⊥
MayGo (Some v) p t = IsOver v p t

abbrev pub is_worked_off : Option Underway → Type 0
is_worked_off None = ⊥
is_worked_off (Some v) = v.left ≡ int (pos 0)

-- what is yet to be worked of a packet
abbrev pub rest_of : Option Underway → ℚ → ℚ
rest_of None fresh = fresh
rest_of (Some v) fresh = v.left
