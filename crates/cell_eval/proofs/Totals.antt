-- Sums of numbers that fit wherever their gauge is over no limit.
use Rattle.std.proofs.Common.{◌≡◌, ℕ, zero, suc, ◌+◌, ◌*◌, ◌^◌, ◌<◌, ◌≤◌, pos, List, [], ◌∷◌, ◌++◌, length, max, refl, sym, ap, ◌∙◌, subst, arith, inl, inr, true, false, append_assoc}
use Rattle.std.specs.Prelude.{Ok, Err}
use Rattle.std.specs.List.{AllByRecursion}
use Rattle.std.proofs.lemmas.Bool.{cases_lt}
use Rattle.upp_limits.specs.declared.op_kind.OpFault.TheVariants.{TooMany, TooWide}
use Rattle.std.proofs.lemmas.Nat.Gcd.{le_of_dvd}
use Rattle.rational.specs.Rational.{ℚ, int, den, ◌+ℚ◌, ◌*ℚ◌, ◌≤ℚ◌, ◌<ℚ◌, neg_ℚ}
use Rattle.rational.specs.Extended.{Ext, ◌+ₑ◌}
use Rattle.rational.specs.declared.Extended.TheVariants.{Fin, Inf}
use Rattle.rational.specs.Grid.{Whole, Within}
use Rattle.rational.specs.Gauge.{common_den, size_up, lcm}
use Rattle.rational.specs.Ratio.{SumFits}
use Rattle.rational.proofs.Grid.{whole_add, whole_neg, whole_int, within_add, within_weaken, within_nonneg}
use Rattle.rational.proofs.Sizes.{sum_on_grid}
use Rattle.rational.proofs.Integers.{nat_le, int_add, int_mul}
use Rattle.rational.proofs.Laws.{le_refl, le_trans, le_or_lt, add_assoc, add_comm, add_zero}
use Rattle.rational.proofs.MinMax.{max_q_ge_left, max_q_ge_right, max_q_one, max_q_right, max_q_is_left}
use Rattle.rational.proofs.Linear.{with1, with2}
use Rattle.min_plus.specs.Functions.{zero_q}
use Rattle.upp_limits.proofs.Every.{every_left}
use Rattle.upp_limits.proofs.CommonDen.{common_den_each, common_den_least, common_den_pos, size_up_within}
use Rattle.upp_limits.proofs.Gathering.{den_more}
use Rattle.net_cells.specs.NumberSums.{sum_of_numbers, has_infinite, finite, sizes, sum_gauge, sum_tally, Sums}
use Rattle.cell_eval.specs.Tallies.{size_of, gauge_of, IsNarrow}
use Rattle.min_plus.specs.Convolution.{sum_of}

-- ---- the parts of a list
every_next : {A : Type 0} (P : A → Type 0) (xs : List A) (x : A) (ys : List A) → AllByRecursion P (xs ++ x ∷ ys) → P x
every_next P [] x ys h = h.0
every_next P (y ∷ xs) x ys h = every_next P xs x ys h.1

-- ---- sizes
pub size_below : (x : ℚ) → x <ℚ zero_q → size_of x ≡ neg_ℚ x
size_below x h = max_q_right x (neg_ℚ x) (with1 x (λ c. omega (arith, c.le, c.lt, c.same)))

pub size_from : (x : ℚ) → zero_q ≤ℚ x → size_of x ≡ x
size_from x h = max_q_is_left x (neg_ℚ x) (with1 x (λ c. omega (arith, c.le, c.lt, c.same)))

size_nonneg : (x : ℚ) → zero_q ≤ℚ size_of x
size_nonneg x = elim (le_or_lt zero_q x) [
  | inl l ↦ le_trans l (max_q_ge_left x (neg_ℚ x))
  | inr l ↦ le_trans (with1 x (λ c. omega (arith, c.le, c.lt, c.same))) (max_q_ge_right x (neg_ℚ x))
]

size_within : (x : ℚ) → Within (size_of x) x
size_within x = record {
  low =
      let right = max_q_ge_right x (neg_ℚ x) in
      with2 x (size_of x) (λ c. omega (arith, c.le, c.lt, c.same));
  high = max_q_ge_left x (neg_ℚ x);
}

size_whole : (d : ℕ) (x : ℚ) → Whole d x → Whole d (size_of x)
size_whole d x w = elim (max_q_one x (neg_ℚ x)) [
  | inl e ↦ subst (Whole d) (sym e) w
  | inr e ↦ subst (Whole d) (sym e) (whole_neg d x w)
]

sizes_nonneg : (xs : List ℚ) → zero_q ≤ℚ sizes xs
sizes_nonneg [] = le_refl zero_q
sizes_nonneg (x ∷ xs) =
    let first = size_nonneg x in
    let rest = sizes_nonneg xs in
    with2 (size_of x) (sizes xs) (λ c. omega (arith, c.le, c.lt, c.same))

pub sizes_append : (xs ys : List ℚ) → sizes (xs ++ ys) ≡ sizes xs +ℚ sizes ys
sizes_append [] ys = sym (add_comm zero_q (sizes ys) ∙ add_zero (sizes ys))
sizes_append (x ∷ xs) ys = ap (λ y. size_of x +ℚ y) (sizes_append xs ys) ∙ sym (add_assoc (size_of x) (sizes xs) (sizes ys))

pub sizes_more : (xs : List ℚ) (x : ℚ) → sizes (xs ++ x ∷ []) ≡ sizes xs +ℚ size_of x
sizes_more xs x = sizes_append xs (x ∷ []) ∙ ap (λ y. sizes xs +ℚ y) (add_zero (size_of x))

sum_within : (xs : List ℚ) → Within (sizes xs) (sum_of xs)
sum_within [] = within_nonneg zero_q zero_q (le_refl zero_q) (le_refl zero_q)
sum_within (x ∷ xs) = within_add (size_of x) (sizes xs) x (sum_of xs) (size_within x) (sum_within xs)

sum_whole : (d : ℕ) (xs : List ℚ) → AllByRecursion (Whole d) xs → Whole d (sum_of xs)
sum_whole d [] h = whole_int d (pos 0)
sum_whole d (x ∷ xs) h = whole_add d x (sum_of xs) h.0 (sum_whole d xs h.1)

sizes_whole : (d : ℕ) (xs : List ℚ) → AllByRecursion (Whole d) xs → Whole d (sizes xs)
sizes_whole d [] h = whole_int d (pos 0)
sizes_whole d (x ∷ xs) h = whole_add d (size_of x) (sizes xs) (size_whole d x h.0) (sizes_whole d xs h.1)

-- ---- what is over no limit fits
small_parts : (v d : ℕ) → 1 ≤ v → 64 * v * d < 2 ^ 120 → (v * d < 2 ^ 114) × (d ≤ v * d)
small_parts zero d one narrow = absurd (omega (arith, one))
small_parts (suc w) d one narrow = (omega (arith, narrow), omega arith)

-- the bound of all numbers together
abbrev bound : List ℚ → ℕ
bound xs = max 1 (size_up (sizes xs))

sizes_bound : (xs : List ℚ) → sizes xs ≤ℚ int (pos (bound xs))
sizes_bound xs =
    let w = size_up_within (sizes xs) in
    le_trans w.high (nat_le (size_up (sizes xs)) (bound xs) (omega arith))

front_bound : (xs ys : List ℚ) → sizes xs ≤ℚ int (pos (bound (xs ++ ys)))
front_bound xs ys =
    let all = sizes_bound (xs ++ ys) in
    let parts = sizes_append xs ys in
    let rest = sizes_nonneg ys in
    le_trans (subst (λ z. sizes xs ≤ℚ z) (sym parts) (with2 (sizes xs) (sizes ys) (λ c. omega (arith, c.le, c.lt, c.same)))) all

next_bound : (xs : List ℚ) (x : ℚ) (ys : List ℚ) → size_of x ≤ℚ int (pos (bound (xs ++ x ∷ ys)))
next_bound xs x ys =
    let front = front_bound (xs ++ x ∷ []) ys in
    let same : (xs ++ x ∷ []) ++ ys ≡ xs ++ x ∷ ys = append_assoc xs (x ∷ []) ys in
    let more = sizes_more xs x in
    let low = sizes_nonneg xs in
    let last : size_of x ≤ℚ sizes (xs ++ x ∷ []) =
    subst (λ z. size_of x ≤ℚ z) (sym more) (with2 (sizes xs) (size_of x) (λ c. omega (arith, c.le, c.lt, c.same))) in
    le_trans last (subst (λ zs. sizes (xs ++ x ∷ []) ≤ℚ int (pos (bound zs))) same front)

narrow_fits : (xs : List ℚ) (a b : ℚ) → IsNarrow xs → Whole (common_den xs) a → Whole (common_den xs) b
    → Within (int (pos (bound xs))) a → Within (int (pos (bound xs))) b → SumFits a b
narrow_fits xs a b narrow wa wb ia ib =
    let d = common_den xs in
    let v = bound xs in
    let some : 0 < d = common_den_pos xs in
    let parts = small_parts v d (omega arith) narrow in
    let small : v * d < 2 ^ 114 = parts.0 in
    let den_small : d ≤ v * d = parts.1 in
    let sum : int (pos v) +ℚ int (pos v) ≡ int (pos (v + v)) = int_add (pos v) (pos v) in
    let product : (int (pos v) +ℚ int (pos v)) *ℚ int (pos d) ≡ int (pos ((v + v) * d)) =
    ap (λ z. z *ℚ int (pos d)) sum ∙ int_mul (pos (v + v)) (pos d) in
    sum_on_grid d (int (pos v)) (int (pos v)) a b some (omega (arith, small, den_small))
    (subst (λ z. z ≤ℚ int (pos 170141183460469231731687303715884105727)) (sym product)
    (nat_le ((v + v) * d) 170141183460469231731687303715884105727 (omega (arith, small)))) wa wb ia ib

pub sizes_fit : (xs : List ℚ) (x : ℚ) (ys : List ℚ) → IsNarrow (xs ++ x ∷ ys) → SumFits (sizes xs) (size_of x)
sizes_fit xs x ys narrow =
    let all = xs ++ x ∷ ys in
    let d = common_den all in
    let each = common_den_each all in
    narrow_fits all (sizes xs) (size_of x) narrow (sizes_whole d xs (every_left (Whole d) xs (x ∷ ys) each))
    (size_whole d x (every_next (Whole d) xs x ys each))
    (within_nonneg (int (pos (bound all))) (sizes xs) (sizes_nonneg xs) (front_bound xs (x ∷ ys)))
    (within_nonneg (int (pos (bound all))) (size_of x) (size_nonneg x) (next_bound xs x ys))

pub sum_fits : (xs : List ℚ) (x : ℚ) (ys : List ℚ) → IsNarrow (xs ++ x ∷ ys) → SumFits (sum_of xs) x
sum_fits xs x ys narrow =
    let all = xs ++ x ∷ ys in
    let d = common_den all in
    let each = common_den_each all in
    narrow_fits all (sum_of xs) x narrow (sum_whole d xs (every_left (Whole d) xs (x ∷ ys) each)) (every_next (Whole d) xs x ys each)
    (within_weaken (sizes xs) (int (pos (bound all))) (sum_of xs) (front_bound xs (x ∷ ys)) (sum_within xs))
    (within_weaken (size_of x) (int (pos (bound all))) x (next_bound xs x ys) (size_within x))

pub den_fits : (xs : List ℚ) (x : ℚ) (ys : List ℚ) → IsNarrow (xs ++ x ∷ ys) → lcm (den x) (common_den xs) < 2 ^ 128
den_fits xs x ys narrow =
    let all = xs ++ x ∷ ys in
    let d = common_den all in
    let same : (xs ++ x ∷ []) ++ ys ≡ all = append_assoc xs (x ∷ []) ys in
    let each = subst (AllByRecursion (Whole d)) (sym same) (common_den_each all) in
    let divides = common_den_least d (xs ++ x ∷ []) (every_left (Whole d) (xs ++ x ∷ []) ys each) in
    let most : common_den (xs ++ x ∷ []) ≤ d = le_of_dvd (common_den_pos all) divides in
    let v = bound all in
    let parts = small_parts v d (omega arith) narrow in
    let small : v * d < 2 ^ 114 = parts.0 in
    let den_small : d ≤ v * d = parts.1 in
    let is = den_more xs x in
    omega (arith, most, small, den_small, is)

-- ---- numbers that may be infinite
pub finite_total : (xs : List Ext) → has_infinite xs ≡ false → sum_of_numbers xs ≡ Fin (sum_of (finite xs))
finite_total [] e = refl
finite_total (Inf ∷ xs) e = absurd (let bad : true ≡ false = e in cc)
finite_total (Fin x ∷ xs) e = ap (λ y. Fin x +ₑ y) (finite_total xs e)

infinite_total : (xs : List Ext) → has_infinite xs ≡ true → sum_of_numbers xs ≡ Inf
infinite_total [] e = absurd (let bad : false ≡ true = e in cc)
infinite_total (Inf ∷ xs) e = refl
infinite_total (Fin x ∷ xs) e = ap (λ y. Fin x +ₑ y) (infinite_total xs e)

pub sums_infinite : (xs : List Ext) → has_infinite xs ≡ true → Sums xs (Ok Inf)
unfolding sum_gauge sum_tally
sums_infinite xs e = (record { narrow = rw e (omega arith); few = rw e (omega arith) }, sym (infinite_total xs e))

pub sums_wide : (xs : List Ext) → has_infinite xs ≡ false → ¬ (IsNarrow (finite xs)) → Sums xs (Err TooWide)
unfolding sum_gauge
sums_wide xs e wide = rw e (le_of_not wide)
  where
    le_of_not : (¬ (gauge_of (finite xs) < 2 ^ 120)) → 2 ^ 120 ≤ gauge_of (finite xs)
    le_of_not n = elim (cases_lt (gauge_of (finite xs)) (2 ^ 120)) [ inl l ↦ absurd (n l) | inr l ↦ l ]

pub sums_many : (xs : List Ext) → has_infinite xs ≡ false → IsNarrow (finite xs) → 2 ^ 20 < length xs → Sums xs (Err TooMany)
unfolding sum_gauge sum_tally
sums_many xs e narrow many = (rw e narrow, rw e many)

pub sums_fine : (xs : List Ext) (x : ℚ) → has_infinite xs ≡ false → IsNarrow (finite xs) → length xs ≤ 2 ^ 20 → x ≡ sum_of (finite xs) → Sums xs (Ok (Fin x))
unfolding sum_gauge sum_tally
sums_fine xs x e narrow few is = (record { narrow = rw e narrow; few = rw e few }, ap Fin is ∙ sym (finite_total xs e))
