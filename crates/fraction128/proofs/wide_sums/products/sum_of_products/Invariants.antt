use Rattle.std.proofs.Common.{◌≤◌, ◌+◌, ◌*◌, length, drop}
use Rattle.arrayvec.specs.ArrayVec.{array_vec_len}
use Rattle.fraction128.specs.wide_sums.Sums.{sum_of_products, IsSumOf, HasRoom}
use Rattle.fraction128.proofs.wide_sums.products.sum_of_products.Given as goal

-- of the products from a place on
abbrev pub invariant-loop-place : goal.invariant-loop-place
invariant-loop-place l = record {
  sum : IsSumOf (sum_of_products (drop l.place l.products)) l.sum;
  room : HasRoom l.sum;
  many : array_vec_len l.sum.factors + 2 * l.place ≤ 2 * length l.products;
}
