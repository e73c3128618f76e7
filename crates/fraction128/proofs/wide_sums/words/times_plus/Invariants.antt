use Rattle.std.proofs.Common.{◌≡◌, ◌≤◌, ◌+◌, ◌*◌, ◌^◌, length, drop}
use Rattle.arrayvec.specs.ArrayVec.{array_vec_len}
use Rattle.fraction128.specs.wide_sums.Words.{number}
use Rattle.fraction128.proofs.wide_sums.words.times_plus.Given as goal

abbrev pub invariant-loop-place : goal.invariant-loop-place
invariant-loop-place l = record {
  sum : number l.all.items + (2 ^ 64) ^ length l.all.items * (l.carry + number (drop l.place l.words) * l.factor + number (drop l.place l.more)) ≡ number l.words * l.factor + number l.more;
  carry : l.carry ≤ l.factor;
  len : array_vec_len l.all ≡ l.place;
}
