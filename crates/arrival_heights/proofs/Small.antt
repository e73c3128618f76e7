-- What parts come to is a number below 2 ^ 125.
use Rattle.std.specs.Prelude.{◌≡◌, ℕ, ◌+◌, ◌*◌, ◌^◌, ◌<◌, ◌≤◌, min, max, List, [], ◌∷◌, length, get_or, take, Option, Some, None}
use Rattle.std.proofs.Common.{arith, sym, ap, subst, refl}
use Rattle.std.specs.List.{sum_by}
use Rattle.std.proofs.lemmas.List.Sums.{sum_by-cons, sum_by_more_le, get_or-le-sum_by}
use Rattle.std.proofs.lemmas.Nat.{mul-lt}
use Rattle.std.proofs.Math.Nat.{mul-le-mul_right}
use Rattle.arrival_lines.specs.Steps.{most_burst, most_rate}
use Rattle.arrival_lines.specs.declared.grid.Line.{Line}
use Rattle.arrival_lines.specs.declared.grid.Part.{Part}
use Rattle.arrival_heights.specs.Heights.{AreSmall, line_height, lesser_height, part_height, heights}

lesser_le : (over under : ℕ) (sum : Line) (pace : Option Line) (part : Part) → part ≡ record { sum = sum; pace = pace }
    → lesser_height over under sum pace ≤ most_burst part * under + most_rate part * over
lesser_le over under sum None part e =
    subst (λ (p : Part). line_height sum over under ≤ most_burst p * under + most_rate p * over) (sym e) (omega arith)
lesser_le over under sum (Some pace) part e =
    let b : sum.burst * under ≤ max sum.burst pace.burst * under = mul-le-mul_right under (omega arith) in
    let r : sum.rate * over ≤ max sum.rate pace.rate * over = mul-le-mul_right over (omega arith) in
    subst (λ (p : Part). min (line_height sum over under) (line_height pace over under) ≤ most_burst p * under + most_rate p * over) (sym e)
    (omega (arith, b, r))

heights_le : (over under : ℕ) (parts : List Part) → heights parts over under ≤ sum_by most_burst parts * under + sum_by most_rate parts * over
heights_le over under [] = omega arith
heights_le over under (p ∷ ps) =
    let a = lesser_le over under p.sum p.pace p refl in
    let b = heights_le over under ps in
    let e = sum_by-cons (part_height over under) p ps in
    let f = ap (λ n. n * under) (sum_by-cons most_burst p ps) in
    let g = ap (λ n. n * over) (sum_by-cons most_rate p ps) in
    omega (arith, a, b, e, f, g)

pub heights_small : (over under : ℕ) (parts : List Part) → AreSmall parts → over < 2 ^ 62 → under < 2 ^ 62 → heights parts over under < 2 ^ 125
heights_small over under parts small o u =
    let h = heights_le over under parts in
    let a = mul-lt (sum_by most_burst parts) under (2 ^ 62) (2 ^ 62) small.bursts u in
    let b = mul-lt (sum_by most_rate parts) over (2 ^ 62) (2 ^ 62) small.rates o in
    omega (arith, h, a, b)

-- one of them is small alone
pub one_small : (parts : List Part) (i : ℕ) (d p : Part) → i < length parts → p ≡ get_or parts i d → AreSmall parts → AreSmall (p ∷ [])
one_small parts i d p inside e small =
    subst (λ (q : Part). AreSmall (q ∷ [])) (sym e) record {
      bursts = let a = get_or-le-sum_by most_burst parts i d inside in let s = small.bursts in omega (arith, a, s);
      rates = let a = get_or-le-sum_by most_rate parts i d inside in let s = small.rates in omega (arith, a, s);
    }

-- one more of them
pub one_more_fits : (parts : List Part) (i : ℕ) (d : Part) (over under : ℕ) → i < length parts → AreSmall parts → over < 2 ^ 62 → under < 2 ^ 62
    → sum_by (part_height over under) (take i parts) + part_height over under (get_or parts i d) < 2 ^ 125
one_more_fits parts i d over under inside small o u =
    let a = heights_small over under parts small o u in
    let b = sum_by_more_le (part_height over under) parts i d inside in
    omega (arith, a, b)

-- what stands past the end of a list
abbrev pub no_part : Part
no_part = record { sum = record { burst = 0; rate = 0 }; pace = None }
