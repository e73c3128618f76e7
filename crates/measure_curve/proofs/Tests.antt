-- Sums of bits by a test of the time, and the most bits by a test of the length.
use Rattle.std.specs.Prelude.{◌≡◌, ℕ, ◌+◌, ◌≤◌, Bool, true, List, [], ◌∷◌, max, if◌then◌else◌}
use Rattle.packet_windows.specs.declared.windows.Entry.{Entry}
use Rattle.packet_windows.specs.declared.windows.Window.{Window}

-- the bits of the packets whose time passes
abbrev pub passed : (ℕ → Bool) → List Entry → ℕ
passed test [] = 0
passed test (e ∷ es) = (if test e.time then e.bits else 0) + passed test es

-- the most bits of a window whose length passes
abbrev pub most : (ℕ → Bool) → List Window → ℕ
most fits [] = 0
most fits (w ∷ ws) = max (if fits w.length then w.bits else 0) (most fits ws)

-- the bits of the last of some steps whose length passes, and `low` where none does
abbrev pub level : (ℕ → Bool) → ℕ → List Window → ℕ
level fits low [] = low
level fits low (w ∷ ws) = if fits w.length then level fits w.bits ws else low

-- each lesser number passes too
pub record GoesDown (fits : ℕ → Bool) : Type 0 where
  pub down : (m n : ℕ) → m ≤ n → fits n ≡ true → fits m ≡ true
