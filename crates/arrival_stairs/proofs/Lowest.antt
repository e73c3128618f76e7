-- The least that the last lines come to at a time, and how far that is above a rate.
use Rattle.std.specs.Prelude.{◌≡◌, ◌⊎◌, ℕ, ◌+◌, ◌-◌, ◌*◌, ◌^◌, ◌<◌, ◌≤◌, min, List, [], ◌∷◌, ◌++◌, length, get_or}
use Rattle.std.proofs.Common.{arith, ap, sym, ◌∙◌, refl, subst, inl, inr}
use Rattle.std.specs.Int.{div_ceil}
use Rattle.std.proofs.lemmas.Bool.{cases_lt}
use Rattle.std.proofs.lemmas.List.{get_or_append_left, get_or_default, get_or_push, length_push}
use Rattle.arrival_lines.specs.declared.grid.Line.{Line}
use Rattle.arrival_stairs.specs.Horizon.{IsTailOfFirst}
use Rattle.arrival_stairs.specs.Lows.{AreLows, IsLow, line_level}
use Rattle.arrival_stairs.specs.StairExcess.{line_ahead}
use Rattle.arrival_heights.proofs.Ceilings.{ceil_order}

-- ---- the least of the last n lines, of which there may be none yet
abbrev pub IsOne : List Line → (end n low : ℕ) → Type 0
IsOne lines end n low = (k : ℕ) × (k < length lines) × (length lines ≤ k + n) × ((d : Line) → low ≡ line_level (get_or lines k d) end)

pub record AreLowsSoFar (lines : List Line) (end n least : ℕ) (lows : List ℕ) : Type 0 where
  pub are : AreLows lines end n lows
  pub under : (k : ℕ) (d : Line) → length lines ≤ k + n → k < length lines → least ≤ line_level (get_or lines k d) end
  pub one : (least ≡ 2 ^ 128 - 1) ⊎ IsOne lines end n least

-- one more of them
pub low_more : (lines : List Line) (end n least level next at : ℕ) (d : Line) (lows more : List ℕ) → n < length lines → at ≡ length lines - 1 - n
    → level ≡ line_level (get_or lines at d) end → level < 2 ^ 127 → next ≡ min least level → more ≡ lows ++ next ∷ []
    → AreLowsSoFar lines end n least lows → AreLowsSoFar lines end (n + 1) next more
low_more lines end n least level next at d lows more inside place is small least_is pushed so_far = record {
  are = record {
    count = let e = ap length pushed ∙ length_push lows next in let c = so_far.are.count in omega (arith, e, c);
    each = λ i h. elim (cases_lt i n) [
      | inl less ↦
          let c = so_far.are.count in
          let e : get_or more i 0 ≡ get_or lows i 0 = ap (λ (l : List ℕ). get_or l i 0) pushed ∙ get_or_append_left lows (next ∷ []) 0 i (omega (arith, c, less)) in
          subst (λ (x : ℕ). IsLow lines end (i + 1) x) (sym e) (so_far.are.each i less)
      | inr last ↦
          let c = so_far.are.count in
          let e : get_or more i 0 ≡ next = ap (λ (l : List ℕ). get_or l i 0) pushed ∙ get_or_push lows next 0 i (omega (arith, c, h, last)) in
          let f : n ≡ i = omega (arith, h, last) in
          subst (λ (x : ℕ). IsLow lines end (i + 1) x) (sym e) (subst (λ (j : ℕ). IsLow lines end (j + 1) next) f is_low)
    ];
  };
  under = under;
  one = inr one;
}
  where
    same : (k : ℕ) (e : Line) → at ≡ k → level ≡ line_level (get_or lines k e) end
    same k e here =
        is ∙ ap (λ (line : Line). line_level line end) (get_or_default lines at d e (omega arith) ∙ ap (λ (i : ℕ). get_or lines i e) here)

    under : (k : ℕ) (e : Line) → length lines ≤ k + (n + 1) → k < length lines → next ≤ line_level (get_or lines k e) end
    under k e h l = elim (cases_lt at k) [
      | inl later ↦ let m = so_far.under k e (omega (arith, place, later)) l in omega (arith, m, least_is)
      | inr here ↦ let m = same k e (omega (arith, place, here, h)) in omega (arith, m, least_is)
    ]

    one : IsOne lines end (n + 1) next
    one = elim (cases_lt level least) [
      | inl less ↦ (at, omega arith, omega arith, λ e. let m = same at e refl in omega (arith, m, least_is, less))
      | inr not_less ↦
          elim so_far.one [
            | inl all ↦ absurd (omega (arith, all, not_less, small))
            | inr (k, l, h, m) ↦ (k, l, omega (arith, h), λ e. let f = m e in omega (arith, f, least_is, not_less))
          ]
    ]

    is_low : IsLow lines end (n + 1) next
    is_low = record { least = under; place = one.0; inside = one.1; last = one.2; is = one.3 }

-- ---- above a rate
ahead_by : (b r q rate end : ℕ) → rate ≡ r + q → b - q * end ≡ (b + r * end) - rate * end
ahead_by b r q rate end e = let f = ap (λ n. n * end) e in omega (arith, f)

ahead_is : (line : Line) (rate end : ℕ) → line.rate ≤ rate → line_ahead line rate end ≡ div_ceil (line_level line end - rate * end) (10 ^ 12)
ahead_is line rate end slow =
    ap (λ n. div_ceil n (10 ^ 12)) (ahead_by (line.burst * 10 ^ 12) line.rate (rate - line.rate) rate end (omega (arith, slow)))

-- of those from the first on that is no faster
pub tail_by : (lines : List Line) (rate most end faster n low x : ℕ) → n + faster ≡ length lines → ((k : ℕ) (d : Line) → k < faster → rate < (get_or lines k d).rate)
    → ((k : ℕ) (d : Line) → faster ≤ k → k < length lines → (get_or lines k d).rate ≤ rate) → IsLow lines end n low
    → x ≡ min (div_ceil (low - rate * end) (10 ^ 12)) most → IsTailOfFirst lines rate most end (length lines) x
tail_by lines rate most end faster n low x all fast slow is_low is = record {
  least = omega (arith, is);
  each = λ k d h slower. elim (cases_lt k faster) [
    | inl less ↦ let l = fast k d less in absurd (omega (arith, l, slower))
    | inr more ↦
        let l = is_low.least k d (omega (arith, all, more)) h in
        let e = ahead_is (get_or lines k d) rate end slower in
        let m = ceil_order (low - rate * end) (line_level (get_or lines k d) end - rate * end) (10 ^ 12) (omega arith) (omega (arith, l)) in
        omega (arith, e, m, is)
  ];
  one = λ less. record {
    line = is_low.place;
    inside = is_low.inside;
    slow = slower;
    is = λ d.
        let e = ahead_is (get_or lines is_low.place d) rate end (slower d) in
        let f = ap (λ n. div_ceil (n - rate * end) (10 ^ 12)) (is_low.is d) in
        omega (arith, e, f, is, less);
  };
}
  where
    slower : (d : Line) → (get_or lines is_low.place d).rate ≤ rate
    slower d = let l = is_low.last in slow is_low.place d (omega (arith, all, l)) is_low.inside
