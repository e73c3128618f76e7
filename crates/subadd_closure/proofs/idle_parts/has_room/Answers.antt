use Rattle.std.specs.Prelude.{ℕ, suc, ◌*◌, ◌<◌, ◌≤◌, ◌^◌}
use Rattle.std.proofs.Common.{arith}
use native.Mathlib.Nat.{mul-le-mul}
use Rattle.subadd_closure.proofs.idle_parts.has_room.Goals as goal

small_product : (own m : ℕ) → m ≤ 2 ^ 17 → own < 2 ^ 49 → 3 * (5 * suc m) * (own * own) < 2 ^ 120
small_product own m few small =
    let own_few : own ≤ 2 ^ 49 = omega (arith, small) in
    let square : own * own ≤ 2 ^ 49 * 2 ^ 49 = mul-le-mul own_few own_few in
    let times : 3 * (5 * suc m) ≤ 2 ^ 21 = omega (arith, few) in
    let all : 3 * (5 * suc m) * (own * own) ≤ 2 ^ 21 * (2 ^ 49 * 2 ^ 49) = mul-le-mul times square in
    omega (arith, all)

pub returns-clause-small : goal.returns-clause-small
returns-clause-small c told = small_product c.args.own c.args.m (omega arith) (omega arith)
