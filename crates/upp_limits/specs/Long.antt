-- The number that a `Long` stands for. Own choice.
use Rattle.std.specs.Prelude.{ℕ, ◌+◌, ◌*◌, ◌^◌}
use Rattle.upp_limits.specs.declared.long.Long.{Long}

-- its digits to the base 2 ^ 128, the lowest first
abbrev pub long_value : Long → ℕ
long_value l = l.ones + 2 ^ 128 * (l.twos + 2 ^ 128 * (l.threes + 2 ^ 128 * l.fours))
