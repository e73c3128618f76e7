use Rattle.std.proofs.Common.{◌≡◌, ◌<◌, ◌^◌, drop}
use Rattle.fraction128.specs.wide_sums.Words.{number}
use Rattle.fraction128.proofs.wide_sums.words.small_number.Given as goal

-- of the words from a place on
abbrev pub invariant-loop-place : goal.invariant-loop-place
invariant-loop-place l = record { value : l.value ≡ number (drop l.place l.words); small : l.value < 2 ^ 127 }
