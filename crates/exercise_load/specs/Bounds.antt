-- What the numbers of each drawn flow keep. Own choice.
use Rattle.std.specs.Prelude.{◌≡◌, ℕ, ◌<◌, ◌≤◌, ◌+◌, ◌*◌, ◌^◌, List, All}
use Rattle.exercise_load.specs.declared.drawn.DrawnFlow.{DrawnFlow}

-- packets of 1 to 12 thousand bits; and a period that is 8,000, once, twice or four times
pub record IsDrawn (f : DrawnFlow) : Type 0 where
  pub number : f.number < 24
  pub some_hops : 1 ≤ f.hops
  pub few_hops : f.hops ≤ 4
  pub servers : f.first + f.hops ≤ 16
  pub thousands : ℕ
  pub few_thousands : thousands < 12
  pub packet : f.packet ≡ 1000 * (1 + thousands)
  pub doublings : ℕ
  pub few_doublings : doublings < 3
  pub period : f.period ≡ 8000 * 2 ^ doublings
  pub queue : f.queue < 2

abbrev pub AreDrawn : List DrawnFlow → Type 0
AreDrawn = All IsDrawn
