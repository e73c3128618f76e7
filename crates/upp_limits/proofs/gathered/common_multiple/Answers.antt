use Rattle.std.proofs.Common.{arith, ◌≡◌, ℕ, ◌*◌, ◌/◌, ◌∙◌, ap, sym, subst}
use Rattle.rational.specs.Gcd.{gcd}
use Rattle.rational.specs.Gauge.{lcm, Kept}
use Rattle.fraction128.proofs.Coprime.{gcd_comm, gcd_one}
use Rattle.upp_limits.proofs.gathered.common_multiple.Goals as goal

lcm_one : (n : ℕ) → n ≡ lcm 1 n
lcm_one n =
    let e : gcd 1 n ≡ 1 = gcd_comm 1 n ∙ gcd_one n in
    let h : 1 * n ≡ n = omega arith in
    sym (ap (λ g. 1 / g * n) e ∙ h)

pub returns-then-a-eq1 : goal.returns-then-a-eq1
returns-then-a-eq1 c = λ n k. subst (λ a. Kept c.args.b (lcm a n)) (sym c.if-a-eq1.true) (subst (Kept c.args.b) (lcm_one n) k)
