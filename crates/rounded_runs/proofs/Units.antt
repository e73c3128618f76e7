-- What is written, and the grid: what is rounded up is no less, what is rounded down no more.
use Rattle.std.specs.Prelude.{◌≡◌, ℕ, zero, suc, pred, ◌+◌, ◌-◌, ◌*◌, ◌/◌, ◌%◌, ◌<◌, ◌≤◌, pos, ◌*ℤ◌}
use Rattle.std.proofs.Common.{arith, sym, subst, inl, inr}
use Rattle.std.proofs.lemmas.Bool.{cases_lt}
use Rattle.std.proofs.lemmas.Int.{ints}
use Rattle.std.proofs.lemmas.Nat.{div-add-mod', mod_below}
use Rattle.std.proofs.Math.Nat.{mul-le-mul_left}
use Rattle.rational.specs.Rational.{ℚ, frac, ◌*ℚ◌, ◌≤ℚ◌, ◌<ℚ◌}
use Rattle.rational.proofs.Integers.{mul_whole}
use Rattle.rational.proofs.Over.{le_frac, lt_frac}
use Rattle.rational.proofs.Laws.{antisym}
use Rattle.min_plus.specs.Functions.{zero_q, whole}
use Rattle.arrival_lines.specs.Grid.{grain_a_second, picosecond, speed, micros}
use Rattle.table_cells.specs.declared.amount.Amount.{Amount}
use Rattle.table_cells.specs.Amounts.{rounded_down, rounded_up}
use Rattle.rounded_runs.specs.Written.{exact}

-- ---- rounding
down_most : (n b : ℕ) → n / b * b ≤ n
down_most n b = let e = div-add-mod' n b in omega (arith, e)

up_least : (n b : ℕ) → 0 < b → n ≤ (n + (b - 1)) / b * b
up_least n b some =
    let e = div-add-mod' (n + (b - 1)) b in
    let r = mod_below (n + (b - 1)) b some in
    omega (arith, e, r, some)

up_whole : (n b : ℕ) → 0 < b → n % b ≡ 0 → (n + (b - 1)) / b * b ≤ n
up_whole n b some none =
    let e = div-add-mod' (n + (b - 1)) b in
    let d = div-add-mod' n b in
    elim (cases_lt (n / b) ((n + (b - 1)) / b)) [
      | inl more ↦
          let next : n / b + 1 ≤ (n + (b - 1)) / b = omega (arith, more) in
          let h = mul-le-mul_left b next in
          absurd (omega (arith, h, e, d, none, some))
      | inr few ↦ let h = mul-le-mul_left b few in omega (arith, h, d, none)
    ]

-- ---- fractions of a unit
-- so many parts, u + 1 of which are one, are at least, or at most, p over q
parts_up : (p q k u : ℕ) → 0 < q → p * suc u ≤ k * q → frac (pos p) (pred q) ≤ℚ whole k *ℚ frac (pos 1) u
parts_up p zero k u some h = absurd (omega (arith, some))
parts_up p (suc n) k u some h =
    let P : ℚ → Type 0 = λ x. frac (pos p) n ≤ℚ x in
    subst P (sym (mul_whole (pos k) (pos 1) u)) ((le_frac (pos p) n (pos k *ℤ pos 1) u).1 (omega (arith, ints, h)))

parts_down : (p q k u : ℕ) → 0 < q → k * q ≤ p * suc u → whole k *ℚ frac (pos 1) u ≤ℚ frac (pos p) (pred q)
parts_down p zero k u some h = absurd (omega (arith, some))
parts_down p (suc n) k u some h =
    let P : ℚ → Type 0 = λ x. x ≤ℚ frac (pos p) n in
    subst P (sym (mul_whole (pos k) (pos 1) u)) ((le_frac (pos k *ℤ pos 1) u (pos p) n).1 (omega (arith, ints, h)))

-- ---- times
pub micros_up : (a : Amount) → 0 < a.bottom → exact a ≤ℚ micros (rounded_up 1000000 a)
unfolding micros picosecond
micros_up a some =
    let h = up_least (a.top * 1000000) a.bottom some in
    parts_up a.top a.bottom (rounded_up 1000000 a) 999999 some h

pub micros_down : (a : Amount) → 0 < a.bottom → micros (rounded_down 1000000 a) ≤ℚ exact a
unfolding micros picosecond
micros_down a some =
    let h = down_most (a.top * 1000000) a.bottom in
    parts_down a.top a.bottom (rounded_down 1000000 a) 999999 some h

pub micros_whole : (a : Amount) → 0 < a.bottom → a.top * 1000000 % a.bottom ≡ 0 → micros (rounded_up 1000000 a) ≡ exact a
unfolding micros picosecond
micros_whole a some none =
    let h = up_whole (a.top * 1000000) a.bottom some none in
    antisym (parts_down a.top a.bottom (rounded_up 1000000 a) 999999 some h, micros_up a some)

-- a gap in milliseconds
thousand_parts : (p q k : ℕ) → 0 < q → k * q ≤ p * 1000000000
    → whole k *ℚ frac (pos 1) 999999 ≤ℚ whole 1000 *ℚ frac (pos p) (pred q)
thousand_parts p zero k some h = absurd (omega (arith, some))
thousand_parts p (suc n) k some h =
    let P : ℚ → Type 0 = λ x. x ≤ℚ whole 1000 *ℚ frac (pos p) n in
    let Q : ℚ → Type 0 = λ x. frac (pos k *ℤ pos 1) 999999 ≤ℚ x in
    subst P (sym (mul_whole (pos k) (pos 1) 999999)) (subst Q (sym (mul_whole (pos 1000) (pos p) n))
    ((le_frac (pos k *ℤ pos 1) 999999 (pos 1000 *ℤ pos p) n).1 (omega (arith, ints, h))))

pub gap_down : (a : Amount) → 0 < a.bottom → micros (rounded_down 1000000000 a) ≤ℚ whole 1000 *ℚ exact a
unfolding micros picosecond
gap_down a some =
    thousand_parts a.top a.bottom (rounded_down 1000000000 a) some (down_most (a.top * 1000000000) a.bottom)

-- ---- rates
pub speed_up : (a : Amount) → 0 < a.bottom → exact a ≤ℚ speed (rounded_up 1024000000 a)
unfolding speed grain_a_second
speed_up a some =
    let h = up_least (a.top * 1024000000) a.bottom some in
    parts_up a.top a.bottom (rounded_up 1024000000 a) 1023999999 some h

pub speed_down : (a : Amount) → 0 < a.bottom → speed (rounded_down 1024000000 a) ≤ℚ exact a
unfolding speed grain_a_second
speed_down a some =
    let h = down_most (a.top * 1024000000) a.bottom in
    parts_down a.top a.bottom (rounded_down 1024000000 a) 1023999999 some h

-- ---- what is written is at least 0, or above it
pub exact_on : (a : Amount) → zero_q ≤ℚ exact a
exact_on a = (le_frac (pos 0) 0 (pos a.top) (pred a.bottom)).1 (omega (arith, ints))

pub exact_some : (a : Amount) → 0 < a.top → zero_q <ℚ exact a
exact_some a h = (lt_frac (pos 0) 0 (pos a.top) (pred a.bottom)).1 (omega (arith, ints, h))

over_le : (p q r s : ℕ) → 0 < q → 0 < s → p * s ≤ r * q → frac (pos p) (pred q) ≤ℚ frac (pos r) (pred s)
over_le p zero r s some other h = absurd (omega (arith, some))
over_le p (suc n) r zero some other h = absurd (omega (arith, other))
over_le p (suc n) r (suc m) some other h = (le_frac (pos p) n (pos r) m).1 (omega (arith, ints, h))

pub exact_le : (a b : Amount) → 0 < a.bottom → 0 < b.bottom → a.top * b.bottom ≤ b.top * a.bottom → exact a ≤ℚ exact b
exact_le a b some other h = over_le a.top a.bottom b.top b.bottom some other h
