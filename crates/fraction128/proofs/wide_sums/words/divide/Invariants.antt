use Rattle.std.proofs.Common.{◌≡◌, ◌<◌, ◌+◌, ◌*◌, length, drop}
use Rattle.std.specs.Prelude.{reverse}
use Rattle.arrayvec.specs.ArrayVec.{array_vec_len}
use Rattle.fraction128.specs.wide_sums.Words.{number}
use Rattle.fraction128.proofs.wide_sums.words.divide.Given as goal

-- of the words from a place on
abbrev pub invariant-loop-place : goal.invariant-loop-place
invariant-loop-place l = record {
  whole : number (drop l.place l.words) ≡ l.by * number (reverse l.quotient.items) + l.rest;
  rest : l.rest < l.by;
  len : array_vec_len l.quotient + l.place ≡ length l.words;
}
