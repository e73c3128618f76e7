-- Bundles are nowhere above their lines.
use Rattle.std.specs.Prelude.{◌≡◌, ◌*◌, ◌^◌, List, [], ◌∷◌, All, Option, Some, None}
use Rattle.std.proofs.Common.{arith, sym, ap, ◌∙◌, refl, subst}
use Rattle.std.specs.List.{sum_by}
use Rattle.std.specs.Int.{div_ceil}
use Rattle.std.proofs.lemmas.List.Elements.{All-head, All-tail}
use Rattle.std.proofs.lemmas.List.Sums.{sum_by-cons}
use Rattle.rational.specs.Rational.{ℚ, ◌+ℚ◌, ◌*ℚ◌, ◌≤ℚ◌}
use Rattle.rational.proofs.Laws.{add_mul, add_le_add, le_refl, mul_nonneg}
use Rattle.rational.proofs.MinMax.{min_q_mono}
use Rattle.rational.proofs.Linear.{with2, with_atoms}
use Rattle.min_plus.specs.Functions.{zero_q}
use Rattle.arrival_lines.specs.Grid.{bits, speed, line_value, part_value, parts_value}
use Rattle.arrival_lines.specs.declared.grid.Line.{Line}
use Rattle.arrival_lines.proofs.OnGrid.{stair_on_grid}
use Rattle.arrival_lines.proofs.Units.{bits_add, bits_nonneg, speed_add, speed_nonneg, up_covers}
use Rattle.arrival_stairs.specs.Stairs.{stair_at, stairs_at, capped, bundles_at, IsStair}
use Rattle.arrival_stairs.specs.BelowLines.{stair_rate, stair_burst, line_parts, BundlesBelowLines}
use Rattle.arrival_stairs.specs.declared.stairs.Bundle.{Bundle}
use Rattle.arrival_stairs.specs.declared.stairs.Stair.{Stair}

abbrev stair_line : Stair → Line
stair_line s = record { burst = stair_burst s; rate = stair_rate s }

stair_under : (s : Stair) (t : ℚ) → IsStair s → zero_q ≤ℚ t → stair_at s t ≤ℚ line_value (stair_line s) t
stair_under s t is on =
    let fast = up_covers (s.frame * 10 ^ 12) s.gap (stair_rate s) is.some_gap refl in
    let early = up_covers (stair_rate s * s.jitter) (10 ^ 12) (div_ceil (stair_rate s * s.jitter) (10 ^ 12)) (omega arith) refl in
    (stair_on_grid s.frame s.gap s.jitter (stair_rate s) (div_ceil (stair_rate s * s.jitter) (10 ^ 12)) is.some_gap (omega (arith, fast)) (omega (arith, early))).above t on

abbrev sum_line : List Stair → Line
sum_line ss = record { burst = sum_by stair_burst ss; rate = sum_by stair_rate ss }

line_sum : (s : Stair) (ss : List Stair) (t : ℚ) → line_value (sum_line (s ∷ ss)) t ≡ line_value (stair_line s) t +ℚ line_value (sum_line ss) t
line_sum s ss t =
    let b = ap bits (sum_by-cons stair_burst s ss) ∙ bits_add (stair_burst s) (sum_by stair_burst ss) in
    let r = ap (λ n. speed n *ℚ t) (sum_by-cons stair_rate s ss) ∙ ap (λ z. z *ℚ t) (speed_add (stair_rate s) (sum_by stair_rate ss)) ∙ add_mul (speed (stair_rate s)) (speed (sum_by stair_rate ss)) t in
    joined (bits (stair_burst s)) (bits (sum_by stair_burst ss)) (bits (sum_by stair_burst (s ∷ ss))) (speed (stair_rate s) *ℚ t) (speed (sum_by stair_rate ss) *ℚ t) (speed (sum_by stair_rate (s ∷ ss)) *ℚ t) b r
  where
    joined : (k m n u v w : ℚ) → n ≡ k +ℚ m → w ≡ u +ℚ v → n +ℚ w ≡ (k +ℚ u) +ℚ (m +ℚ v)
    joined k m n u v w e f = with_atoms (k ∷ m ∷ n ∷ u ∷ v ∷ w ∷ []) (λ c. omega (arith, c.le, c.lt, c.same))

stairs_under : (ss : List Stair) (t : ℚ) → All IsStair ss → zero_q ≤ℚ t → stairs_at ss t ≤ℚ line_value (sum_line ss) t
unfolding stairs_at
stairs_under [] t all on =
    let b = bits_nonneg 0 in
    let r = mul_nonneg (speed_nonneg 0) on in
    let x = bits 0 in
    let y = speed 0 *ℚ t in
    with2 x y (λ c. omega (arith, c.le, c.lt, c.same))
stairs_under (s ∷ ss) t all on =
    subst (λ y. stair_at s t +ℚ stairs_at ss t ≤ℚ y) (sym (line_sum s ss t))
    (add_le_add (stair_under s t (All-head IsStair s ss all) on) (stairs_under ss t (All-tail IsStair s ss all) on))

capped_under : (pace : Option Line) (v : ℚ) (line : Line) (t : ℚ) → v ≤ℚ line_value line t → capped pace v t ≤ℚ part_value record { sum = line; pace = pace } t
capped_under None v line t h = h
capped_under (Some pace) v line t h = min_q_mono v (line_value pace t) (line_value line t) (line_value pace t) h (le_refl (line_value pace t))

all_under : (bundles : List Bundle) (t : ℚ) → All (λ b. All IsStair b.stairs.items) bundles → zero_q ≤ℚ t → bundles_at bundles t ≤ℚ parts_value (line_parts bundles) t
unfolding bundles_at parts_value
all_under [] t all on = le_refl zero_q
all_under (b ∷ bs) t all on =
    add_le_add
    (capped_under b.pace (stairs_at b.stairs.items t) (sum_line b.stairs.items) t (stairs_under b.stairs.items t (All-head (λ c. All IsStair c.stairs.items) b bs all) on))
    (all_under bs t (All-tail (λ c. All IsStair c.stairs.items) b bs all) on)

pub bundles_below_lines : BundlesBelowLines
bundles_below_lines bundles t are on = all_under bundles t are.stairs on
