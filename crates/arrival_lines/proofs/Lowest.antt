-- The lowest step at a time, found by halving: of the steps of a sum of parts none falls after one that does not.
use Rattle.std.specs.Prelude.{◌≡◌, ℕ, zero, suc, ◌+◌, ◌-◌, ◌*◌, ◌<◌, ◌≤◌, min, List, length, get_or}
use Rattle.std.proofs.Common.{arith, sym, ap, ◌∙◌, refl, subst, inl, inr}
use Rattle.std.specs.Int.{div_ceil}
use Rattle.std.proofs.lemmas.Grind.{div_ceil_times}
use Rattle.std.proofs.lemmas.Bool.{cases_lt}
use Rattle.std.proofs.lemmas.List.{get_or_default}
use Rattle.rational.specs.Rational.{ℚ, ◌+ℚ◌, ◌*ℚ◌, ◌≤ℚ◌, ◌<ℚ◌}
use Rattle.rational.proofs.Laws.{le_of_mul, lt_of_mul, mul_comm, mul_assoc, mul_le_mul, mul_lt_mul_right, add_mul}
use Rattle.rational.proofs.Linear.{with2, with3, with5, with6}
use Rattle.min_plus.specs.Functions.{zero_q}
use Rattle.arrival_lines.specs.Grid.{bits, speed, line_value, parts_value}
use Rattle.arrival_lines.specs.Steps.{AreSteps}
use Rattle.arrival_lines.specs.Backlogs.{Falls, IsLowest, IsLeastHeight, height_of}
use Rattle.arrival_lines.specs.declared.grid.Line.{Line}
use Rattle.arrival_lines.specs.declared.grid.Part.{Part}
use Rattle.arrival_lines.specs.declared.grid.Service.{Service}
use Rattle.arrival_lines.proofs.Units.{bits_add, speed_add, speed_nonneg, speed_some, weighs, weighs_before}

-- ---- where two lines are in their order
-- the one with the greater burst is no higher: so far the other has brought as much more
meets_after : (low high : Line) (t : ℚ) → low.burst ≤ high.burst → high.rate ≤ low.rate → line_value high t ≤ℚ line_value low t
    → bits (high.burst - low.burst) ≤ℚ speed (low.rate - high.rate) *ℚ t
meets_after low high t hb hr h =
    let b = ap bits (let e : high.burst ≡ low.burst + (high.burst - low.burst) = omega (arith, hb) in e) ∙ bits_add low.burst (high.burst - low.burst) in
    let r = ap (λ n. speed n *ℚ t) (let e : low.rate ≡ high.rate + (low.rate - high.rate) = omega (arith, hr) in e)
    ∙ ap (λ z. z *ℚ t) (speed_add high.rate (low.rate - high.rate)) ∙ add_mul (speed high.rate) (speed (low.rate - high.rate)) t in
    joined (bits high.burst) (bits low.burst) (bits (high.burst - low.burst)) (speed low.rate *ℚ t) (speed high.rate *ℚ t) (speed (low.rate - high.rate) *ℚ t) b r h
  where
    joined : (hb lb d lr hr f : ℚ) → hb ≡ lb +ℚ d → lr ≡ hr +ℚ f → hb +ℚ hr ≤ℚ lb +ℚ lr → d ≤ℚ f
    joined hb lb d lr hr f e g h = with6 hb lb d lr hr f (λ c. omega (arith, c.le, c.lt, c.same))

-- it is no lower: so far the other has brought no more
meets_before : (low high : Line) (t : ℚ) → low.burst ≤ high.burst → high.rate ≤ low.rate → line_value low t ≤ℚ line_value high t
    → speed (low.rate - high.rate) *ℚ t ≤ℚ bits (high.burst - low.burst)
meets_before low high t hb hr h =
    let b = ap bits (let e : high.burst ≡ low.burst + (high.burst - low.burst) = omega (arith, hb) in e) ∙ bits_add low.burst (high.burst - low.burst) in
    let r = ap (λ n. speed n *ℚ t) (let e : low.rate ≡ high.rate + (low.rate - high.rate) = omega (arith, hr) in e)
    ∙ ap (λ z. z *ℚ t) (speed_add high.rate (low.rate - high.rate)) ∙ add_mul (speed high.rate) (speed (low.rate - high.rate)) t in
    joined (bits high.burst) (bits low.burst) (bits (high.burst - low.burst)) (speed low.rate *ℚ t) (speed high.rate *ℚ t) (speed (low.rate - high.rate) *ℚ t) b r h
  where
    joined : (hb lb d lr hr f : ℚ) → hb ≡ lb +ℚ d → lr ≡ hr +ℚ f → lb +ℚ lr ≤ℚ hb +ℚ hr → f ≤ℚ d
    joined hb lb d lr hr f e g h = with6 hb lb d lr hr f (λ c. omega (arith, c.le, c.lt, c.same))

swapped : (a b c : ℚ) → a *ℚ (b *ℚ c) ≡ b *ℚ (a *ℚ c)
swapped a b c = sym (mul_assoc a b c) ∙ ap (λ z. z *ℚ c) (mul_comm a b) ∙ mul_assoc b a c

-- ---- where the later of two pairs falls the earlier does
-- r w is the time; b1 <= s1 from, s2 to <= b2, from < to, and r b2 < s2 w: so r b1 < s1 w
never : (r w b1 b2 s1 s2 from to : ℚ) → zero_q ≤ℚ r → zero_q <ℚ r → zero_q <ℚ s1 → zero_q <ℚ s2 → b1 ≤ℚ s1 *ℚ from → s2 *ℚ to ≤ℚ b2 → from <ℚ to
    → r *ℚ b2 <ℚ s2 *ℚ w → s1 *ℚ w ≤ℚ r *ℚ b1 → ⊥
never r w b1 b2 s1 s2 from to on some some1 some2 begins ends later falls not =
    let a = mul_le_mul r on begins in
    let b = swapped r s1 from in
    let early = le_of_mul s1 w (r *ℚ from) some1
    (first (w *ℚ s1) ((r *ℚ from) *ℚ s1) (s1 *ℚ w) (r *ℚ b1) (r *ℚ (s1 *ℚ from)) (s1 *ℚ (r *ℚ from)) (mul_comm w s1) (mul_comm (r *ℚ from) s1) not a b) in
    let c = mul_le_mul r on ends in
    let d = swapped r s2 to in
    let late = lt_of_mul s2 (r *ℚ to) w some2
    (second ((r *ℚ to) *ℚ s2) (w *ℚ s2) (s2 *ℚ (r *ℚ to)) (r *ℚ (s2 *ℚ to)) (r *ℚ b2) (s2 *ℚ w) (mul_comm (r *ℚ to) s2) (mul_comm w s2) falls c d) in
    let e = mul_lt_mul_right r some later in
    third w (r *ℚ from) (r *ℚ to) (from *ℚ r) (to *ℚ r) (mul_comm from r) (mul_comm to r) early late e
  where
    first : (ws rfs sw rb rsf srf : ℚ) → ws ≡ sw → rfs ≡ srf → sw ≤ℚ rb → rb ≤ℚ rsf → rsf ≡ srf → ws ≤ℚ rfs
    first ws rfs sw rb rsf srf e f h k g = with6 ws rfs sw rb rsf srf (λ c. omega (arith, c.le, c.lt, c.same))

    second : (rts ws srt rst rb sw : ℚ) → rts ≡ srt → ws ≡ sw → rb <ℚ sw → rst ≤ℚ rb → rst ≡ srt → rts <ℚ ws
    second rts ws srt rst rb sw e f h k g = with6 rts ws srt rst rb sw (λ c. omega (arith, c.le, c.lt, c.same))

    third : (w rf rt fr tr : ℚ) → fr ≡ rf → tr ≡ rt → w ≤ℚ rf → rt <ℚ w → fr <ℚ tr → ⊥
    third w rf rt fr tr e f h k l = with5 w rf rt fr tr (λ c. omega (arith, c.le, c.lt, c.same))

module _ (parts : List Part) (lines : List Line) (waiting rate : ℕ) (d : Line) (are : AreSteps parts lines) (some : 0 < rate) where
  abbrev at : ℕ → Line
  at k = get_or lines k d

  abbrev FallsAt : ℕ → Type 0
  FallsAt k = Falls (at k) (at (suc k)) waiting rate

  slower : (k : ℕ) → suc k < length lines → (at (suc k)).rate < (at k).rate
  slower k h = are.slowing.falling k d h

  higher : (k : ℕ) → suc k < length lines → (at k).burst ≤ (at (suc k)).burst
  higher k h = are.rising k d h

  one_before : (k : ℕ) → suc (suc k) < length lines → FallsAt (suc k) → FallsAt k
  one_before k h falls =
      let i : suc k < length lines = omega (arith, h) in
      let j : k < length lines = omega (arith, h) in
      let low = are.each k d j in
      let mid = are.each (suc k) d i in
      let high = are.each (suc (suc k)) d h in
      let begins = meets_after (at k) (at (suc k)) mid.from (higher k i) (let l = slower k i in omega (arith, l))
      (through (line_value (at (suc k)) mid.from) (parts_value parts mid.from) (line_value (at k) mid.from) mid.begins (low.above.above mid.from mid.on)) in
      let ends = meets_before (at (suc k)) (at (suc (suc k))) mid.to (higher (suc k) h) (let l = slower (suc k) h in omega (arith, l))
      (through (line_value (at (suc k)) mid.to) (parts_value parts mid.to) (line_value (at (suc (suc k))) mid.to) mid.ends
      (high.above.above mid.to (after mid.from mid.to mid.on mid.later))) in
      let b1 = (at (suc k)).burst - (at k).burst in
      let b2 = (at (suc (suc k))).burst - (at (suc k)).burst in
      let s1 = (at k).rate - (at (suc k)).rate in
      let s2 = (at (suc k)).rate - (at (suc (suc k))).rate in
      let l1 = slower k i in let l2 = slower (suc k) h in
      elim (cases_lt (b1 * rate) (s1 * waiting)) [
        | inl less ↦ less
        | inr more ↦
            absurd (never (speed rate) (bits waiting) (bits b1) (bits b2) (speed s1) (speed s2) mid.from mid.to (speed_nonneg rate) (speed_some rate some)
            (speed_some s1 (omega (arith, l1))) (speed_some s2 (omega (arith, l2))) begins ends mid.later
            (weighs_before rate b2 s2 waiting (omega (arith, falls))) (weighs s1 waiting rate b1 (omega (arith, more))))
      ]
    where
      through : (x y z : ℚ) → x ≤ℚ y → y ≤ℚ z → x ≤ℚ z
      through x y z h k = with3 x y z (λ c. omega (arith, c.le, c.lt, c.same))

      after : (x y : ℚ) → zero_q ≤ℚ x → x <ℚ y → zero_q ≤ℚ y
      after x y h k = with2 x y (λ c. omega (arith, c.le, c.lt, c.same))

  all_before : (i k : ℕ) → suc (k + i) < length lines → FallsAt (k + i) → FallsAt k
  all_before zero k h falls = let e : k + 0 ≡ k = omega arith in subst FallsAt e falls
  all_before (suc i) k h falls =
      let e : k + suc i ≡ suc k + i = omega arith in
      one_before k (omega (arith, h)) (all_before i (suc k) (omega (arith, h)) (subst FallsAt e falls))

-- ---- heights
up : (n m q : ℕ) → 0 < m → q ≡ div_ceil n m → (n ≤ q * m) × (q * m < n + m)
up n m q h e = subst (λ x. (n ≤ x * m) × (x * m < n + m)) (sym e) (div_ceil_times n m h)

-- a quotient of more is no less
up_le : (n m q p r : ℕ) → 0 < r → q * r < n + r → m ≤ p * r → n ≤ m → q ≤ p
up_le n m q p r some hq hp h = elim (cases_lt p q) [
  | inr le ↦ omega (arith, le)
  | inl lt ↦
      let e : q ≡ p + (1 + (q - p - 1)) = omega (arith, lt) in
      let f = ap (λ z. z * r) e in
      let g : (p + (1 + (q - p - 1))) * r ≡ p * r + r + (q - p - 1) * r = omega arith in
      absurd (omega (arith, f, g, hq, hp, h))
]

height_le : (one other : Line) (waiting rate : ℕ) → 0 < rate → one.burst * rate + one.rate * waiting ≤ other.burst * rate + other.rate * waiting
    → height_of one waiting rate ≤ height_of other waiting rate
height_le one other waiting rate some h =
    let q = div_ceil (one.rate * waiting) rate in
    let p = div_ceil (other.rate * waiting) rate in
    let a = up (one.rate * waiting) rate q some refl in
    let b = up (other.rate * waiting) rate p some refl in
    let both = up_le (one.burst * rate + one.rate * waiting) (other.burst * rate + other.rate * waiting) (one.burst + q) (other.burst + p) rate some
    (omega (arith, a.1)) (omega (arith, b.0)) h in
    let x = up (one.burst + q) 1024 (div_ceil (one.burst + q) 1024) (omega arith) refl in
    let y = up (other.burst + p) 1024 (div_ceil (other.burst + p) 1024) (omega arith) refl in
    up_le (one.burst + q) (other.burst + p) (div_ceil (one.burst + q) 1024) (div_ceil (other.burst + p) 1024) 1024 (omega arith) x.1 y.0 both

-- with a greater burst and a lesser rate
weights : (a b waiting rate : ℕ) (one other : Line) → one.burst ≤ other.burst → other.rate ≤ one.rate → a ≡ other.burst - one.burst → b ≡ one.rate - other.rate
    → (other.burst * rate ≡ one.burst * rate + a * rate) × (one.rate * waiting ≡ other.rate * waiting + b * waiting)
weights a b waiting rate one other hb hr e f =
    let x : other.burst ≡ one.burst + a = omega (arith, hb, e) in
    let y : one.rate ≡ other.rate + b = omega (arith, hr, f) in
    let u : (one.burst + a) * rate ≡ one.burst * rate + a * rate = omega arith in
    let v : (other.rate + b) * waiting ≡ other.rate * waiting + b * waiting = omega arith in
    (ap (λ z. z * rate) x ∙ u, ap (λ z. z * waiting) y ∙ v)

height_falls : (one other : Line) (waiting rate : ℕ) → 0 < rate → one.burst ≤ other.burst → other.rate ≤ one.rate → Falls one other waiting rate
    → height_of other waiting rate ≤ height_of one waiting rate
height_falls one other waiting rate some hb hr falls =
    let w = weights (other.burst - one.burst) (one.rate - other.rate) waiting rate one other hb hr refl refl in
    height_le other one waiting rate some (omega (arith, w.0, w.1, falls))

height_rises : (one other : Line) (waiting rate : ℕ) → 0 < rate → one.burst ≤ other.burst → other.rate ≤ one.rate → ¬ (Falls one other waiting rate)
    → height_of one waiting rate ≤ height_of other waiting rate
height_rises one other waiting rate some hb hr not =
    let w = weights (other.burst - one.burst) (one.rate - other.rate) waiting rate one other hb hr refl refl in
    elim (cases_lt ((other.burst - one.burst) * rate) ((one.rate - other.rate) * waiting)) [
      | inl less ↦ absurd (not less)
      | inr more ↦ height_le one other waiting rate some (omega (arith, w.0, w.1, more))
    ]

-- ---- what is left to search
pub record IsBetween (steps : List Line) (slow waiting rate low high : ℕ) : Type 0 where
  pub from : slow ≤ low
  pub order : low ≤ high
  pub inside : high < length steps
  -- the steps fall to the first of these, and not from the last one on
  pub before : (j : ℕ) (d : Line) → suc j ≡ low → slow ≤ j → Falls (get_or steps j d) (get_or steps (suc j) d) waiting rate
  pub after : (d : Line) → suc high < length steps → ¬ (Falls (get_or steps high d) (get_or steps (suc high) d) waiting rate)

pub lowest_is : (parts : List Part) (lines : List Line) (slow waiting rate m : ℕ) → AreSteps parts lines → 0 < rate → IsBetween lines slow waiting rate m m
    → IsLowest lines slow waiting rate m
lowest_is parts lines slow waiting rate m are some I = record {
  least = λ k d h inside. elim (cases_lt k m) [
    | inl early ↦
        let e : k + (m - k) ≡ m = omega (arith, early) in
        let down = falling k d h early in
        subst (λ (n : ℕ). height d n ≤ height d k) e (down (m - k) (omega (arith, early)))
    | inr late ↦
        let e : m + (k - m) ≡ k = omega (arith, late) in
        subst (λ (n : ℕ). height d m ≤ height d n) e (rising d (k - m) (omega (arith, inside, late)))
  ];
}
  where
    height : Line → ℕ → ℕ
    height d n = height_of (get_or lines n d) waiting rate

    falls_below : (d : Line) (j : ℕ) → slow ≤ j → j < m → Falls (get_or lines j d) (get_or lines (suc j) d) waiting rate
    falls_below d j h lt =
        let e : j + (m - 1 - j) ≡ m - 1 = omega (arith, lt) in
        let last = I.before (m - 1) d (omega (arith, lt)) (omega (arith, h, lt)) in
        let inside = I.inside in
        all_before parts lines waiting rate d are some (m - 1 - j) j (omega (arith, e, inside, lt))
        (subst (λ (n : ℕ). Falls (get_or lines n d) (get_or lines (suc n) d) waiting rate) (sym e) last)

    falling : (k : ℕ) (d : Line) → slow ≤ k → k < m → (i : ℕ) → k + i ≤ m → height d (k + i) ≤ height d k
    falling k d h early zero le = let e : k + 0 ≡ k = omega arith in subst (λ (n : ℕ). height d n ≤ height d k) (sym e) (omega arith)
    falling k d h early (suc i) le =
        let rest = falling k d h early i (omega (arith, le)) in
        let inside = I.inside in
        let next : suc (k + i) < length lines = omega (arith, le, inside) in
        let s = are.slowing.falling (k + i) d next in
        let one = height_falls (get_or lines (k + i) d) (get_or lines (suc (k + i)) d) waiting rate some (are.rising (k + i) d next) (omega (arith, s))
        (falls_below d (k + i) (omega (arith, h)) (omega (arith, le))) in
        let e : suc (k + i) ≡ k + suc i = omega arith in
        subst (λ (n : ℕ). height d n ≤ height d k) e (omega (arith, rest, one))

    rising : (d : Line) (i : ℕ) → m + i < length lines → height d m ≤ height d (m + i)
    rising d zero le = let e : m + 0 ≡ m = omega arith in subst (λ (n : ℕ). height d m ≤ height d n) (sym e) (omega arith)
    rising d (suc i) le =
        let rest = rising d i (omega (arith, le)) in
        let next : suc (m + i) < length lines = omega (arith, le) in
        let s = are.slowing.falling (m + i) d next in
        let one = height_rises (get_or lines (m + i) d) (get_or lines (suc (m + i)) d) waiting rate some (are.rising (m + i) d next) (omega (arith, s))
        (λ falls. I.after d (omega (arith, next)) (all_before parts lines waiting rate d are some i m next falls)) in
        let e : suc (m + i) ≡ m + suc i = omega arith in
        subst (λ (n : ℕ). height d m ≤ height d n) e (omega (arith, rest, one))

-- ---- and the least height of all
pub least_is : (steps : List Line) (x : ℕ) (service : Service) (longest slow m b : ℕ) (none : Line) → slow ≤ m → m < length steps
    → ((k : ℕ) (d : Line) → k < slow → service.rate < (get_or steps k d).rate)
    → ((k : ℕ) (d : Line) → slow ≤ k → k < length steps → (get_or steps k d).rate ≤ service.rate)
    → IsLowest steps slow (service.debt + longest) service.rate m
    → b ≡ min (div_ceil (x + (service.debt + longest)) 1024) (height_of (get_or steps m none) (service.debt + longest) service.rate)
    → IsLeastHeight steps (length steps) x service longest b
least_is steps x service longest slow m b none from inside fast slower lowest e = record {
  plain = omega (arith, e);
  each = λ k d s.
      elim (cases_lt k slow) [
        | inl early ↦ let f = fast k d early in let g = s.slow d in absurd (omega (arith, f, g))
        | inr late ↦
            let its = lowest.least k d late s.inside in
            let same = ap (λ (l : Line). height_of l (service.debt + longest) service.rate) (here d) in
            omega (arith, e, its, same)
      ];
  one =
      elim (cases_lt (height_of (get_or steps m none) (service.debt + longest) service.rate) (div_ceil (x + (service.debt + longest)) 1024)) [
        | inl less ↦
            let is : b ≡ height_of (get_or steps m none) (service.debt + longest) service.rate = omega (arith, e, less) in
            inr (
              m,
              record { inside = inside; slow = λ d. slower m d from inside },
              λ d. is ∙ sym (ap (λ (l : Line). height_of l (service.debt + longest) service.rate) (here d)),
            )
        | inr more ↦ inl (let is : b ≡ div_ceil (x + (service.debt + longest)) 1024 = omega (arith, e, more) in is)
      ];
}
  where
    here : (d : Line) → get_or steps m d ≡ get_or steps m none
    here d = get_or_default steps m d none inside
