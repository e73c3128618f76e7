-- What is due, as the simulator keeps it, and which comes first.
use Rattle.std.specs.Prelude.{Option, Some, None, ◌≡◌, ◌⊎◌, ℕ}
use Rattle.rational.specs.Rational.{◌≤ℚ◌}
use Rattle.net_model.specs.stated_runs.DueSteps.{Rank, RankAtMost}
use Rattle.sim_servers.specs.declared.due.DueKind.{DueKind}
use Rattle.sim_servers.specs.declared.due.DueKind.TheVariants.{Resume, Leave, Reach, Enter, Start}
use Rattle.sim_servers.specs.declared.due.Due.{Due}

abbrev pub kind_number : DueKind → ℕ
kind_number Resume = 0
kind_number Leave = 1
kind_number Reach = 2
kind_number Enter = 3
kind_number Start = 4

abbrev pub place_of : Due → Rank
place_of d = record { kind = kind_number d.kind; server = d.server; packet = d.packet }

-- a does not come after b
pub record IsNoLater (a b : Due) : Type 0 where
  pub time : a.time ≤ℚ b.time
  pub in_turn : a.time ≡ b.time → RankAtMost (place_of a) (place_of b)

-- d is one of the two
abbrev pub IsEither : Option Due → Option Due → Due → Type 0
IsEither a b d = (a ≡ Some d) ⊎ (b ≡ Some d)

-- the first of the two, none where there is none
abbrev pub IsFirstOf : Option Due → Option Due → Option Due → Type 0
IsFirstOf a b None = (a ≡ None) × (b ≡ None)
IsFirstOf a b (Some d) = IsEither a b d × ((e : Due) → IsEither a b e → IsNoLater d e)
