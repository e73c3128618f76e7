-- The jumps of stairs after 0, up to a time. Own choice.
use Rattle.std.specs.Prelude.{◌≡◌, ℕ, ◌+◌, ◌-◌, ◌/◌, ◌^◌, ◌<◌, ◌≤◌, nat_lt, Bool, List, All, if◌then◌else◌}
use Rattle.std.specs.List.{sum_by}
use Rattle.std.specs.List.Sorted.{IsNonDecreasingBy}
use Rattle.arrival_stairs.specs.Stairs.{bundle_level}
use Rattle.arrival_stairs.specs.declared.jumps.Jump.{Jump}
use Rattle.arrival_stairs.specs.declared.stairs.Bundle.{Bundle}
use Rattle.arrival_stairs.specs.declared.stairs.Stair.{Stair}

-- one by n picoseconds
abbrev pub is_past : ℕ → Jump → Bool
is_past n j = nat_lt j.time (n + 1)

abbrev pub rise_of : ℕ → Jump → ℕ
rise_of n j = if is_past n j then j.frame else 0

-- by how much they rise by n picoseconds
abbrev pub risen : List Jump → ℕ → ℕ
risen jumps n = sum_by (rise_of n) jumps

pub record IsJump (end : ℕ) (j : Jump) : Type 0 where
  pub time : j.time ≤ end
  pub frame : j.frame < 2 ^ 35

-- ---- how many
abbrev pub stair_jump_count : ℕ → Stair → ℕ
stair_jump_count end s = (end + s.jitter) / s.gap - s.jitter / s.gap

abbrev pub bundle_jump_count : ℕ → Bundle → ℕ
bundle_jump_count end b = sum_by (stair_jump_count end) b.stairs.items

abbrev pub jump_count : ℕ → List Bundle → ℕ
jump_count end bundles = sum_by (bundle_jump_count end) bundles

-- all of a bundle's jumps up to a time
pub record AreJumps (bundle : Bundle) (end : ℕ) (jumps : List Jump) : Type 0 where
  pub each : All (IsJump end) jumps
  pub rises : (n : ℕ) → n ≤ end → bundle_level n bundle ≡ bundle_level 0 bundle + risen jumps n

abbrev pub AreInTime : List Jump → Type 0
AreInTime jumps = IsNonDecreasingBy (λ j. j.time) jumps

-- ---- some more
-- those by which f rises
pub record AddsJumps (f : ℕ → ℕ) (end : ℕ) (old new : List Jump) : Type 0 where
  pub rises : (n : ℕ) → n ≤ end → risen new n ≡ risen old n + (f n - f 0)
  pub each : All (IsJump end) old → All (IsJump end) new
