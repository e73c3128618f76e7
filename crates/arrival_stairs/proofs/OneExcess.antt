-- Of the same stairs and paces there is one excess over a rate.
use Rattle.std.specs.Prelude.{◌≡◌, ℕ, ◌+◌, ◌≤◌, List, [], ◌∷◌, map}
use Rattle.std.proofs.Common.{arith, sym, ap, ◌∙◌, refl, subst, inl, inr}
use Rattle.std.specs.List.{sum_by}
use Rattle.std.proofs.lemmas.Bool.{cases_lt}
use Rattle.std.proofs.lemmas.List.Sums.{sum_by-cons}
use Rattle.rational.specs.Rational.{ℚ, ◌+ℚ◌, ◌*ℚ◌, ◌≤ℚ◌, ◌<ℚ◌}
use Rattle.min_plus.specs.Functions.{zero_q}
use Rattle.arrival_lines.specs.Grid.{grain, bits, speed}
use Rattle.arrival_lines.specs.declared.grid.Part.{Part}
use Rattle.arrival_stairs.specs.Ahead.{IsAheadUpTo}
use Rattle.arrival_stairs.specs.BelowLines.{stair_rate, stair_burst, line_part, line_parts}
use Rattle.arrival_stairs.specs.Jumps.{stair_jump_count, bundle_jump_count, jump_count}
use Rattle.arrival_stairs.specs.Stairs.{stairs_at, capped, bundle_at, bundles_at}
use Rattle.arrival_stairs.specs.StairExcess.{ExcessIsOne, IsLastWalked, IsStairExcess, IsTail}
use Rattle.arrival_stairs.specs.Views.{Bunch, bunch_of, bunches}
use Rattle.arrival_stairs.specs.declared.stairs.Bundle.{Bundle}
use Rattle.arrival_stairs.proofs.Exact.{within_grain, near_below}

-- ---- what bundles are seen by
abbrev pub value_by : Bunch → ℚ → ℚ
value_by w t = capped w.pace (stairs_at w.stairs t) t

abbrev pub part_by : Bunch → Part
part_by w = record { sum = record { burst = sum_by stair_burst w.stairs; rate = sum_by stair_rate w.stairs }; pace = w.pace }

abbrev count_by : ℕ → Bunch → ℕ
count_by n w = sum_by (stair_jump_count n) w.stairs

unfoldable pub values_by : List Bunch → ℚ → ℚ
values_by [] t = zero_q
values_by (w ∷ ws) t = value_by w t +ℚ values_by ws t

pub value_is : (bundles : List Bundle) (t : ℚ) → bundles_at bundles t ≡ values_by (bunches bundles) t
unfolding bundles_at values_by
value_is [] t = refl
value_is (b ∷ bs) t = ap (λ x. bundle_at b t +ℚ x) (value_is bs t)

pub parts_are : (bundles : List Bundle) → line_parts bundles ≡ map part_by (bunches bundles)
parts_are [] = refl
parts_are (b ∷ bs) = ap (λ (ps : List Part). line_part b ∷ ps) (parts_are bs)

count_is : (bundles : List Bundle) (n : ℕ) → jump_count n bundles ≡ sum_by (count_by n) (bunches bundles)
count_is [] n = refl
count_is (b ∷ bs) n =
    sum_by-cons (bundle_jump_count n) b bs ∙ ap (λ m. bundle_jump_count n b + m) (count_is bs n) ∙ sym (sum_by-cons (count_by n) (bunch_of b) (bunches bs))

module _ (one other : List Bundle) (same : bunches one ≡ bunches other) where
  pub same_value : (t : ℚ) → bundles_at one t ≡ bundles_at other t
  same_value t = value_is one t ∙ ap (λ (ws : List Bunch). values_by ws t) same ∙ sym (value_is other t)

  pub same_parts : line_parts one ≡ line_parts other
  same_parts = parts_are one ∙ ap (map part_by) same ∙ sym (parts_are other)

  pub same_count : (n : ℕ) → jump_count n one ≡ jump_count n other
  same_count n = count_is one n ∙ ap (sum_by (count_by n)) same ∙ sym (count_is other n)

-- ---- none is less than the other
module _ (one other : List Bundle) (same : bunches one ≡ bunches other) where
  last_no_later : (last next : ℕ) → IsLastWalked one last → IsLastWalked other next → next ≤ last
  last_no_later last next a b = elim (cases_lt last next) [
    | inr l ↦ l
    | inl l ↦
        let many = a.many next l b.short in
        let few = b.few in
        let e = same_count one other same next in
        absurd (omega (arith, many, few, e))
  ]

  walked_no_less : (rate end x y : ℕ) → IsAheadUpTo one rate end x → IsAheadUpTo other rate end y → x ≤ y
  walked_no_less rate end x y a b = elim (cases_lt 0 x) [
    | inr none ↦ omega (arith, none)
    | inl some ↦
        let at = a.near some in
        within_grain x y (speed rate *ℚ at.at)
        (near_below (bits x +ℚ speed rate *ℚ at.at) (bundles_at one at.at) (bundles_at other at.at) (bits y +ℚ speed rate *ℚ at.at) at.near (same_value one other same at.at)
        (b.over at.at at.begins at.ends))
  ]

  tail_no_less : (rate end x y : ℕ) → IsTail (line_parts one) rate end x → IsTail (line_parts other) rate end y → x ≤ y
  tail_no_less rate end x y a b =
      let c = subst (λ (parts : List Part). IsTail parts rate end y) (sym (same_parts one other same)) b in
      let h = a.least c.line c.step c.slow in
      let e = c.is in
      omega (arith, h, e)

excess_no_less : (one other : List Bundle) (rate x y : ℕ) → bunches one ≡ bunches other → IsStairExcess one rate x → IsStairExcess other rate y → x ≤ y
excess_no_less one other rate x y same a b =
    let i = last_no_later one other same a.last b.last a.until b.until in
    let j = last_no_later other one (sym same) b.last a.last b.until a.until in
    let e : b.last ≡ a.last = omega (arith, i, j) in
    let walked = walked_no_less one other same rate a.last a.walked b.walked a.ahead (subst (λ (n : ℕ). IsAheadUpTo other rate n b.walked) e b.ahead) in
    let later = tail_no_less one other same rate a.last a.later b.later a.tail (subst (λ (n : ℕ). IsTail (line_parts other) rate n b.later) e b.tail) in
    let f = a.is in
    let g = b.is in
    omega (arith, walked, later, f, g)

pub excess_is_one : ExcessIsOne
excess_is_one one other rate x y same a b =
    let h = excess_no_less one other rate x y same a b in
    let k = excess_no_less other one rate y x (sym same) b a in
    omega (arith, h, k)

-- ---- and it is that of both
module _ (one other : List Bundle) (same : bunches one ≡ bunches other) where
  last_moved : (last : ℕ) → IsLastWalked one last → IsLastWalked other last
  last_moved last is = record {
    short = is.short;
    few = let h = is.few in let e = same_count one other same last in omega (arith, h, e);
    many = λ n later short. let h = is.many n later short in let e = same_count one other same n in omega (arith, h, e);
  }

  ahead_moved : (rate end x : ℕ) → IsAheadUpTo one rate end x → IsAheadUpTo other rate end x
  ahead_moved rate end x is = record {
    over = λ t on before. subst (λ (v : ℚ). v ≤ℚ bits x +ℚ speed rate *ℚ t) (same_value one other same t) (is.over t on before);
    near = λ some. let at = is.near some in
        record {
          at = at.at;
          begins = at.begins;
          ends = at.ends;
          near = subst (λ (v : ℚ). bits x +ℚ speed rate *ℚ at.at <ℚ v +ℚ grain) (same_value one other same at.at) at.near;
        };
  }

  pub excess_moved : (rate x : ℕ) → IsStairExcess one rate x → IsStairExcess other rate x
  excess_moved rate x is = record {
    last = is.last;
    until = last_moved is.last is.until;
    walked = is.walked;
    ahead = ahead_moved rate is.last is.walked is.ahead;
    later = is.later;
    tail = subst (λ (parts : List Part). IsTail parts rate is.last is.later) (same_parts one other same) is.tail;
    is = is.is;
  }
