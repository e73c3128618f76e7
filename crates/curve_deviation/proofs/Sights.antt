-- What a walk sees is a cell, and stays so from step to step.
use Rattle.std.specs.Prelude.{◌≡◌, ◌<◌, pos}
use Rattle.std.proofs.Common.{sym, refl, subst, inl, inr}
use Rattle.rational.specs.Rational.{ℚ, ◌≤ℚ◌, ◌<ℚ◌, int}
use Rattle.rational.specs.MinMax.{max_q}
use Rattle.rational.specs.Extended.{Ext, ◌≤ₑ◌}
use Rattle.rational.proofs.Laws.{le_refl, le_or_lt, lt_irrefl, lt_trans}
use Rattle.rational.proofs.Grid.{whole_int}
use Rattle.upp_curve.specs.affine_segment.Values.{line_at}
use Rattle.upp_limits.specs.Limits.{Sizes}
use Rattle.upp_normal.specs.Operand.{AreLimited}
use Rattle.upp_normal.specs.Ahead.{IsTimeIn}
use Rattle.min_plus.specs.Functions.{IsRising}
use Rattle.curve_deviation.specs.declared.cells.Cell.{Cell}
use Rattle.curve_deviation.specs.declared.cells.Levels.{Levels}
use Rattle.curve_deviation.specs.declared.walks.Rise.{Rise}
use Rattle.curve_deviation.specs.declared.walks.Sight.{Sight}
use Rattle.curve_deviation.specs.declared.walks.Walk.{Walk}
use Rattle.curve_deviation.specs.Cells.{CellSizes, AreLevels, IsTimeTo, IsCellLag}
use Rattle.curve_deviation.specs.Rises.{IsCellOf, IsRiseFrom, RiseSizes}
use Rattle.curve_deviation.specs.Sights.{cell_in, levels_in, HasPassed, Sees}
use Rattle.curve_deviation.proofs.RisingParts.{time_to}
use Rattle.curve_deviation.proofs.Walk.{IsWalked, steps_left, one_pass}

-- a time before another on the same grid
pub time_in : (z : Sizes) (until end t : ℚ) → IsTimeTo z until t → IsTimeIn z end until → t <ℚ until → IsTimeIn z end t
time_in z until end t T U before = record { whole = T.whole; nonneg = T.nonneg; before = lt_trans before U.before }

pub zero_in : (z : Sizes) (end t : ℚ) → t ≡ int (pos 0) → int (pos 0) <ℚ end → IsTimeIn z end t
zero_in z end t e some = subst (IsTimeIn z end) (sym e) record { whole = whole_int z.dt (pos 0); nonneg = le_refl (int (pos 0)); before = some }

pub end_to : (z : Sizes) (end : ℚ) → AreLimited z end → IsTimeTo z end end
end_to z end A = record { whole = A.sizes.window; nonneg = A.some; high = le_refl end }

-- ---- the cell
pub cell_seen : (z : Sizes) (f g : ℚ → Ext) (w : Walk) (until end : ℚ) (s : Sight) (c : Cell) → w.time <ℚ until → Sees z f g w until end s → c ≡ cell_in w s → IsCellOf f g w.time w.reached until end c
cell_seen z f g w until end s c before S e =
    let A = (S.first before).0 in
    let B = S.second.0 in
    let here : IsCellOf f g w.time w.reached until end (cell_in w s) = record { start = refl; from = refl; first = A.rises; second = B.rises; early = A.early; high = B.early } in
    subst (IsCellOf f g w.time w.reached until end) (sym e) here

pub sizes_seen : (z : Sizes) (f g : ℚ → Ext) (w : Walk) (until end : ℚ) (s : Sight) (c : Cell) → AreLimited z end → IsTimeIn z end until → IsWalked z f g until end w → w.time <ℚ until → Sees z f g w until end s
    → c ≡ cell_in w s → CellSizes z end c
sizes_seen z f g w until end s c limited U W before S e =
    let A = (S.first before).1 in
    let B = S.second.1 in
    let start = time_to z end w.time (time_in z until end w.time W.time U before) in
    let here : CellSizes z end (cell_in w s) = record { limited = limited; first = A.line; second = B.line; start = start; end = A.until; from = time_to z end w.reached W.reached; until = B.until } in
    subst (CellSizes z end) (sym e) here

pub levels_seen : (z : Sizes) (f g : ℚ → Ext) (w : Walk) (until end : ℚ) (s : Sight) (c : Cell) (l : Levels) → w.time <ℚ until → Sees z f g w until end s → c ≡ cell_in w s → l ≡ levels_in s → AreLevels c l
levels_seen z f g w until end s c l before S e d =
    let A = (S.first before).0 in
    let B = S.second.0 in
    let here : AreLevels (cell_in w s) (levels_in s) = record { start = A.low; end = A.high; from = B.low; until = B.high } in
    subst (λ x. AreLevels c x) (sym d) (subst (λ x. AreLevels x (levels_in s)) (sym e) here)

-- ---- one step
-- where the step leads, by the values at the ends
abbrev LeadsOn : Cell → Walk → Type 0
LeadsOn c v = (line_at c.first c.end ≤ℚ line_at c.second c.until → (v.time ≡ c.end) × (v.reached ≡ c.from)) × (line_at c.second c.until <ℚ line_at c.first c.end → (v.time ≡ c.start) × (v.reached ≡ c.until))

pub one_passed : (w v : Walk) (s : Sight) (c : Cell) → c ≡ cell_in w s → (line_at c.first c.end ≤ℚ line_at c.second c.until → (v.time ≡ c.end) × (v.reached ≡ c.from))
    → (line_at c.second c.until <ℚ line_at c.first c.end → (v.time ≡ c.start) × (v.reached ≡ c.until)) → HasPassed w s v
one_passed w v s c e first second =
    let leads : LeadsOn (cell_in w s) v = subst (λ x. LeadsOn x v) e (first, second) in
    elim (le_or_lt (line_at s.above.line s.above.until) (line_at s.below.line s.below.until)) [ inl h ↦ inl (leads.0 h) | inr h ↦ inr (leads.1 h) ]

pub passed_on : (z : Sizes) (f g : ℚ → Ext) (until end at : ℚ) (w v : Walk) (s : Sight) (c : Cell) → IsRising f → IsRising g → int (pos 0) ≤ℚ at → at <ℚ end → f until ≤ₑ g at → AreLimited z end → IsTimeIn z end until
    → IsWalked z f g until end w → Sees z f g w until end s → w.time <ℚ until → c ≡ cell_in w s → (q : ℚ) × IsCellLag c q × (v.lag ≡ max_q w.lag q)
    → (line_at c.first c.end ≤ℚ line_at c.second c.until → (v.time ≡ c.end) × (v.reached ≡ c.from)) → (line_at c.second c.until <ℚ line_at c.first c.end → (v.time ≡ c.start) × (v.reached ≡ c.until))
    → IsWalked z f g until end v × (steps_left z until end v < steps_left z until end w)
passed_on z f g until end at w v s c up rising low early reached limited U W S before e lag first second =
    one_pass z f g until end at w v c up rising low early reached W (cell_seen z f g w until end s c before S e) (sizes_seen z f g w until end s c limited U W before S e) lag first second

-- the second's stretch was passed
still_first : (w v : Walk) (s : Sight) → HasPassed w s v → w.reached <ℚ v.reached → w.time ≡ v.time
still_first w v s passed past = elim passed [
  | inl p ↦ absurd (lt_irrefl w.reached (subst (λ x. w.reached <ℚ x) p.1 past))
  | inr p ↦ sym p.0
]

pub second_on : (z : Sizes) (f g : ℚ → Ext) (w v : Walk) (until end : ℚ) (s : Sight) (r : Rise) → Sees z f g w until end s → HasPassed w s v → w.reached <ℚ v.reached
    → IsRiseFrom g v.reached end r → RiseSizes z end r → Sees z f g v until end record { above = s.above; below = r }
second_on z f g w v until end s r S passed past rise sizes =
    let same = still_first w v s passed past in
    record {
      first = λ before. subst (λ t. IsRiseFrom f t until s.above × RiseSizes z end s.above) same (S.first (subst (λ t. t <ℚ until) (sym same) before));
      second = (rise, sizes);
    }

-- the first's was
still_second : (z : Sizes) (f g : ℚ → Ext) (w v : Walk) (until end : ℚ) (s : Sight) → Sees z f g w until end s → HasPassed w s v → ¬ (w.reached <ℚ v.reached) → w.reached ≡ v.reached
still_second z f g w v until end s S passed not = elim passed [
  | inl p ↦ sym p.1
  | inr p ↦ absurd (not (subst (λ x. w.reached <ℚ x) (sym p.1) S.second.0.rises.some))
]

second_stays : (z : Sizes) (f g : ℚ → Ext) (w v : Walk) (until end : ℚ) (s : Sight) → Sees z f g w until end s → HasPassed w s v → ¬ (w.reached <ℚ v.reached)
    → IsRiseFrom g v.reached end s.below × RiseSizes z end s.below
second_stays z f g w v until end s S passed not = subst (λ x. IsRiseFrom g x end s.below × RiseSizes z end s.below) (still_second z f g w v until end s S passed not) S.second

pub first_on : (z : Sizes) (f g : ℚ → Ext) (w v : Walk) (until end : ℚ) (s : Sight) (r : Rise) → Sees z f g w until end s → HasPassed w s v → ¬ (w.reached <ℚ v.reached)
    → IsRiseFrom f v.time until r → RiseSizes z end r → Sees z f g v until end record { above = r; below = s.below }
first_on z f g w v until end s r S passed not rise sizes = record { first = λ before. (rise, sizes); second = second_stays z f g w v until end s S passed not }

pub none_on : (z : Sizes) (f g : ℚ → Ext) (w v : Walk) (until end : ℚ) (s : Sight) → Sees z f g w until end s → HasPassed w s v → ¬ (w.reached <ℚ v.reached) → ¬ (v.time <ℚ until) → Sees z f g v until end s
none_on z f g w v until end s S passed not over = record { first = λ before. absurd (over before); second = second_stays z f g w v until end s S passed not }

-- at the start
pub seen_first : (z : Sizes) (f g : ℚ → Ext) (w : Walk) (until end : ℚ) (s : Sight) → IsRiseFrom f w.time until s.above → RiseSizes z end s.above → IsRiseFrom g w.reached end s.below → RiseSizes z end s.below → Sees z f g w until end s
seen_first z f g w until end s a b d e = record { first = λ before. (a, b); second = (d, e) }
