-- Within a picosecond bundles are parts that stay at their levels.
use Rattle.std.specs.Prelude.{◌≡◌, ℕ, suc, pos, ◌+◌, ◌*◌, ◌/◌, ◌<◌, ◌≤◌, List, [], ◌∷◌, All, length, get_or, Option, Some, None}
use Rattle.std.proofs.Common.{arith, sym, ap, ap₂, ◌∙◌, refl, subst, inl, inr}
use Rattle.std.specs.List.{sum_by}
use Rattle.std.proofs.lemmas.Bool.{cases_lt}
use Rattle.std.proofs.lemmas.List.Elements.{All-head, All-tail}
use Rattle.std.proofs.lemmas.List.Sums.{sum_by-cons}
use Rattle.std.proofs.Math.Nat.{lt-mul-div-succ, div-mul-le_self}
use Rattle.rational.specs.Rational.{ℚ, ◌+ℚ◌, ◌*ℚ◌, ◌/ℚ◌, ◌≤ℚ◌, ◌<ℚ◌}
use Rattle.rational.specs.MinMax.{min_q}
use Rattle.rational.specs.Whole.{whole_part}
use Rattle.rational.proofs.Integers.{int_mul}
use Rattle.rational.proofs.Laws.{add_zero, zero_mul, mul_comm, mul_assoc, mul_zero, mul_le_mul_right, mul_lt_mul_right, div_mul, not_zero, le_trans, lt_le_trans, lt_irrefl, le_refl, add_le_add}
use Rattle.rational.proofs.Quotients.{le_div, div_lt, div_nonneg}
use Rattle.rational.proofs.Whole.{whole_le, whole_gt, whole_unique}
use Rattle.rational.proofs.Linear.{with2, with3, with_atoms}
use Rattle.rational.proofs.MinMax.{min_q_mono}
use Rattle.min_plus.specs.Functions.{zero_q, whole}
use Rattle.arrival_lines.specs.Grid.{grain, bits, speed, micros, picosecond, grain_a_second, line_value, part_value, parts_value}
use Rattle.arrival_lines.specs.declared.grid.Line.{Line}
use Rattle.arrival_lines.specs.declared.grid.Part.{Part}
use Rattle.arrival_lines.proofs.Units.{bits_add, bits_le, bits_times, micros_add, micros_le, micros_some}
use Rattle.arrival_stairs.specs.Stairs.{stair_at, stairs_at, capped, bundles_at, stair_level, bundle_level, level_part, levels_at, IsStair}
use Rattle.arrival_stairs.specs.declared.stairs.Bundle.{Bundle}
use Rattle.arrival_stairs.specs.declared.stairs.Stair.{Stair}

-- ---- the picosecond of a time
pub record IsWithin (n : ℕ) (t : ℚ) : Type 0 where
  pub from : micros n ≤ℚ t
  pub before : t <ℚ micros (n + 1)

micros_times : (a b : ℕ) → whole a *ℚ micros b ≡ micros (a * b)
unfolding micros
micros_times a b = sym (mul_assoc (whole a) (whole b) picosecond) ∙ ap (λ z. z *ℚ picosecond) (int_mul (pos a) (pos b))

pub picosecond_of : (t : ℚ) → zero_q ≤ℚ t → (n : ℕ) × IsWithin n t
picosecond_of t on =
    let one = micros_some 1 (omega arith) in
    let q = t /ℚ micros 1 in
    let is : (t /ℚ micros 1) *ℚ micros 1 ≡ t = div_mul t (micros 1) (not_zero (micros 1) one) in
    let low = mul_le_mul_right (micros 1) (le_of one) (whole_le (t /ℚ micros 1) (div_nonneg t (micros 1) one on)) in
    let high = mul_lt_mul_right (micros 1) one (whole_gt (t /ℚ micros 1)) in
    let n = whole_part (t /ℚ micros 1) in
    let e : whole_part (t /ℚ micros 1) * 1 ≡ whole_part (t /ℚ micros 1) = omega arith in
    let f : suc (whole_part (t /ℚ micros 1)) * 1 ≡ whole_part (t /ℚ micros 1) + 1 = omega arith in (
      whole_part (t /ℚ micros 1),
      record {
        from = subst (λ y. y ≤ℚ t) (micros_times n 1 ∙ ap micros e) (subst (λ y. whole n *ℚ micros 1 ≤ℚ y) is low);
        before = subst (λ y. t <ℚ y) (micros_times (suc n) 1 ∙ ap micros f) (subst (λ y. y <ℚ whole (suc n) *ℚ micros 1) is high);
      },
    )
  where
    le_of : zero_q <ℚ micros 1 → zero_q ≤ℚ micros 1
    le_of h = let y = micros 1 in with2 y y (λ c. omega (arith, c.le, c.lt, c.same))

-- in the order of times
pub not_after : (n end : ℕ) (t : ℚ) → IsWithin n t → t ≤ℚ micros end → n ≤ end
not_after n end t is h = elim (cases_lt end n) [
  | inr l ↦ l
  | inl l ↦
      let a = le_trans (micros_le (end + 1) n (omega (arith, l))) (le_trans is.from h) in
      let b = micros_add end 1 in
      let d = micros_some 1 (omega arith) in
      absurd (clash (micros end) (micros 1) (micros (end + 1)) a b d)
]
  where
    clash : (x y z : ℚ) → z ≤ℚ x → z ≡ x +ℚ y → zero_q <ℚ y → ⊥
    clash x y z a b d = with3 x y z (λ c. omega (arith, c.le, c.lt, c.same))

pub not_before : (n begin : ℕ) (t : ℚ) → IsWithin n t → micros begin ≤ℚ t → begin ≤ n
not_before n begin t is h = elim (cases_lt n begin) [
  | inr l ↦ l
  | inl l ↦ absurd (lt_irrefl t (lt_le_trans is.before (le_trans (micros_le (n + 1) begin (omega (arith, l))) h)))
]

pub before_it : (n after : ℕ) (t : ℚ) → IsWithin n t → t <ℚ micros after → n < after
before_it n after t is h = elim (cases_lt n after) [
  | inl l ↦ l
  | inr l ↦ absurd (lt_irrefl t (lt_le_trans h (le_trans (micros_le after n l) is.from)))
]

-- ---- a stair
steps_at : (n jitter gap : ℕ) (t : ℚ) → IsWithin n t → 0 < gap → whole_part ((t +ℚ micros jitter) /ℚ micros gap) ≡ (n + jitter) / gap
steps_at n jitter gap t is some = whole_unique ((t +ℚ micros jitter) /ℚ micros gap) ((n + jitter) / gap)
    ((le_div (t +ℚ micros jitter) (micros gap) (whole ((n + jitter) / gap)) gap_some).1 low)
    ((div_lt (t +ℚ micros jitter) (micros gap) (whole (suc ((n + jitter) / gap))) gap_some).1 high)
  where
    gap_some : zero_q <ℚ micros gap
    gap_some = micros_some gap some

    low : whole ((n + jitter) / gap) *ℚ micros gap ≤ℚ t +ℚ micros jitter
    low =
        let a = micros_le ((n + jitter) / gap * gap) (n + jitter) (div-mul-le_self (n + jitter) gap) in
        joined (micros n) (micros jitter) t (micros (n + jitter)) (whole ((n + jitter) / gap) *ℚ micros gap)
        (micros_add n jitter) is.from (subst (λ y. y ≤ℚ micros (n + jitter)) (sym (micros_times ((n + jitter) / gap) gap)) a)
      where
        joined : (m j u s w : ℚ) → s ≡ m +ℚ j → m ≤ℚ u → w ≤ℚ s → w ≤ℚ u +ℚ j
        joined m j u s w e h k = with_atoms (m ∷ j ∷ u ∷ s ∷ w ∷ []) (λ c. omega (arith, c.le, c.lt, c.same))

    high : t +ℚ micros jitter <ℚ whole (suc ((n + jitter) / gap)) *ℚ micros gap
    high =
        let k : n + jitter < gap * ((n + jitter) / gap + 1) = lt-mul-div-succ (n + jitter) some in
        let a = micros_le (n + 1 + jitter) (suc ((n + jitter) / gap) * gap) (omega (arith, k)) in
        joined (micros (n + 1)) (micros jitter) t (micros (n + 1 + jitter)) (whole (suc ((n + jitter) / gap)) *ℚ micros gap)
        (micros_add (n + 1) jitter) is.before (subst (λ y. micros (n + 1 + jitter) ≤ℚ y) (sym (micros_times (suc ((n + jitter) / gap)) gap)) a)
      where
        joined : (m j u s w : ℚ) → s ≡ m +ℚ j → u <ℚ m → s ≤ℚ w → u +ℚ j <ℚ w
        joined m j u s w e h k = with_atoms (m ∷ j ∷ u ∷ s ∷ w ∷ []) (λ c. omega (arith, c.le, c.lt, c.same))

stair_is : (n : ℕ) (s : Stair) (t : ℚ) → IsWithin n t → 0 < s.gap → stair_at s t ≡ bits (stair_level n s)
stair_is n s t is some =
    let e : suc ((n + s.jitter) / s.gap) * s.frame ≡ stair_level n s = omega arith in
    ap (λ k. bits s.frame *ℚ whole (suc k)) (steps_at n s.jitter s.gap t is some) ∙ mul_comm (bits s.frame) (whole (suc ((n + s.jitter) / s.gap)))
    ∙ bits_times (suc ((n + s.jitter) / s.gap)) s.frame ∙ ap bits e

no_bits : bits 0 ≡ zero_q
unfolding bits
no_bits = mul_comm (whole 0) grain ∙ mul_zero grain

no_speed : speed 0 ≡ zero_q
unfolding speed
no_speed = mul_comm (whole 0) grain_a_second ∙ mul_zero grain_a_second

stairs_are : (n : ℕ) (stairs : List Stair) (t : ℚ) → IsWithin n t → All IsStair stairs → stairs_at stairs t ≡ bits (sum_by (stair_level n) stairs)
unfolding stairs_at
stairs_are n [] t is all = sym no_bits
stairs_are n (s ∷ ss) t is all =
    ap₂ (λ y z. y +ℚ z) (stair_is n s t is (All-head IsStair s ss all).some_gap) (stairs_are n ss t is (All-tail IsStair s ss all))
    ∙ sym (bits_add (stair_level n s) (sum_by (stair_level n) ss)) ∙ ap bits (sym (sum_by-cons (stair_level n) s ss))

-- ---- a part at a level
level_is : (level : ℕ) (t : ℚ) → line_value record { burst = level; rate = 0 } t ≡ bits level
level_is level t = ap (λ z. bits level +ℚ z) (ap (λ z. z *ℚ t) no_speed ∙ zero_mul t) ∙ add_zero (bits level)

capped_is : (level : ℕ) (pace : Option Line) (v t : ℚ) → v ≡ bits level → capped pace v t ≡ part_value (level_part level pace) t
capped_is level None v t e = e ∙ sym (level_is level t)
capped_is level (Some pace) v t e = ap (λ y. min_q y (line_value pace t)) (e ∙ sym (level_is level t))

pub bundles_are : (n : ℕ) (bundles : List Bundle) (t : ℚ) → IsWithin n t → All (λ b. All IsStair b.stairs.items) bundles → bundles_at bundles t ≡ parts_value (levels_at bundles n) t
unfolding bundles_at parts_value
bundles_are n [] t is all = refl
bundles_are n (b ∷ bs) t is all =
    ap₂ (λ y z. y +ℚ z)
    (capped_is (bundle_level n b) b.pace (stairs_at b.stairs.items t) t (stairs_are n b.stairs.items t is (All-head (λ c. All IsStair c.stairs.items) b bs all)))
    (bundles_are n bs t is (All-tail (λ c. All IsStair c.stairs.items) b bs all))

-- ---- a higher level
higher : (a b : ℕ) (pace : Option Line) (t : ℚ) → a ≤ b → part_value (level_part a pace) t ≤ℚ part_value (level_part b pace) t
higher a b None t h = subst (λ y. y ≤ℚ line_value record { burst = b; rate = 0 } t) (sym (level_is a t)) (subst (λ y. bits a ≤ℚ y) (sym (level_is b t)) (bits_le a b h))
higher a b (Some pace) t h =
    min_q_mono (line_value record { burst = a; rate = 0 } t) (line_value pace t) (line_value record { burst = b; rate = 0 } t) (line_value pace t)
    (subst (λ y. y ≤ℚ line_value record { burst = b; rate = 0 } t) (sym (level_is a t)) (subst (λ y. bits a ≤ℚ y) (sym (level_is b t)) (bits_le a b h)))
    (le_refl (line_value pace t))

pub record IsHigher (low high : Part) : Type 0 where
  pub from : ℕ
  pub to : ℕ
  pub pace : Option Line
  pub low_is : low ≡ level_part from pace
  pub high_is : high ≡ level_part to pace
  pub rises : from ≤ to

pub all_higher : (low high : List Part) (t : ℚ) → length low ≡ length high → ((k : ℕ) (d : Part) → k < length low → IsHigher (get_or low k d) (get_or high k d))
    → parts_value low t ≤ℚ parts_value high t
unfolding parts_value
all_higher [] [] t e each = le_refl zero_q
all_higher [] (q ∷ qs) t e each = absurd (omega (arith, e))
all_higher (p ∷ ps) [] t e each = absurd (omega (arith, e))
all_higher (p ∷ ps) (q ∷ qs) t e each =
    let one = each 0 p (omega arith) in
    let a : part_value p t ≤ℚ part_value q t =
    subst (λ (x : Part). part_value x t ≤ℚ part_value q t) (sym one.low_is) (subst (λ (x : Part). part_value (level_part one.from one.pace) t ≤ℚ part_value x t) (sym one.high_is) (higher one.from one.to one.pace t one.rises)) in
    let b = all_higher ps qs t (omega (arith, e)) (λ k d h. each (suc k) d (omega (arith, h))) in
    add_le_add a b
