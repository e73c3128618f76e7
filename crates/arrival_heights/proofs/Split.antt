-- Between two times each part is a line or two, so the sum of parts is nowhere further above a rate than at the two times and where its parts
-- bend between.
use Rattle.std.specs.Prelude.{◌≡◌, ℕ, ◌+◌, ◌-◌, ◌*◌, ◌^◌, ◌<◌, ◌≤◌, max, List, [], ◌∷◌, All, length, get_or}
use Rattle.std.specs.Int.{div_ceil}
use Rattle.std.proofs.lemmas.Bool.{cases_lt}
use Rattle.std.proofs.lemmas.List.{get_or_default}
use Rattle.std.proofs.lemmas.List.Elements.{All-head, All-tail}
use Rattle.std.proofs.Common.{arith, sym, ap, ◌∙◌, subst, inl, inr}
use Rattle.rational.specs.Rational.{ℚ, ◌+ℚ◌, ◌-ℚ◌, ◌*ℚ◌, ◌/ℚ◌, ◌≤ℚ◌}
use Rattle.rational.proofs.Laws.{add_zero, add_assoc, add_comm, zero_mul, add_mul, mul_sub, le_refl, le_trans, le_total, le_of_mul, mul_le_mul, mul_le_mul_right, mul_comm, div_mul, not_zero}
use Rattle.rational.proofs.Linear.{with2, with4, with7, with8}
use Rattle.min_plus.specs.Functions.{zero_q}
use Rattle.arrival_lines.specs.Grid.{bits, speed, micros, part_value, parts_value}
use Rattle.arrival_lines.specs.declared.grid.Part.{Part}
use Rattle.arrival_lines.proofs.Stepped.{more_value, no_value}
use Rattle.arrival_lines.proofs.Units.{bits_le, speed_nonneg, speed_some, micros_le, micros_nonneg, brings, brings_less}
use Rattle.arrival_heights.specs.Heights.{heights}
use Rattle.arrival_heights.specs.Bends.{IsUnbent, IsBend}
use Rattle.arrival_heights.specs.Greatest.{IsBelow, IsNear, IsStraight, IsStraightOrKinked, IsBoundAt, IsBoundAtBend, IsGreatestBetween}
use Rattle.arrival_heights.specs.declared.heights.Moment.{Moment}
use Rattle.arrival_heights.proofs.Scaled.{IsAt, ahead_over, ahead_near}

-- ---- one function
narrow : (f : ℚ → ℚ) (from to a b : ℚ) → from ≤ℚ a → b ≤ℚ to → IsStraight f from to → IsStraight f a b
narrow f from to a b h k is = record { base = is.base; slope = is.slope; is = λ t l m. is.is t (le_trans h l) (le_trans m k) }

pub narrow_kink : (f : ℚ → ℚ) (from to a b : ℚ) (B : ℚ → Type 0) → from ≤ℚ a → b ≤ℚ to → IsStraightOrKinked f from to B → IsStraightOrKinked f a b B
narrow_kink f from to a b B h k is = elim is [
  | inl straight ↦ inl (narrow f from to a b h k straight)
  | inr kink ↦ elim (le_total kink.at a) [
    | inl before ↦ inl (narrow f kink.at to a b before k kink.after)
    | inr after ↦ elim (le_total b kink.at) [
      | inl behind ↦ inl (narrow f from kink.at a b h behind kink.before)
      | inr within ↦ inr record {
        at = kink.at;
        begins = after;
        ends = within;
        before = narrow f from kink.at a kink.at h (le_refl kink.at) kink.before;
        after = narrow f kink.at to kink.at b (le_refl kink.at) k kink.after;
        holds = kink.holds;
      }
    ]
  ]
]

pub weaker_kink : (f : ℚ → ℚ) (from to : ℚ) (B C : ℚ → Type 0) → ((t : ℚ) → B t → C t) → IsStraightOrKinked f from to B → IsStraightOrKinked f from to C
weaker_kink f from to B C weaker is = elim is [
  | inl straight ↦ inl straight
  | inr kink ↦ inr record { at = kink.at; begins = kink.begins; ends = kink.ends; before = kink.before; after = kink.after; holds = weaker kink.at kink.holds }
]

-- a line that is not above another at a time is not above it later where it is no faster, and not before where it is no slower
pub later_too : (base slope x r from t : ℚ) → slope ≤ℚ r → from ≤ℚ t → base +ℚ slope *ℚ from ≤ℚ x +ℚ r *ℚ from → base +ℚ slope *ℚ t ≤ℚ x +ℚ r *ℚ t
later_too base slope x r from t slower h first =
    let gap : zero_q ≤ℚ t -ℚ from = with2 t from (λ c. omega (arith, c.le, c.lt, c.same)) in
    let l = mul_le_mul_right (t -ℚ from) gap slower in
    let e = mul_sub slope t from in
    let f = mul_sub r t from in
    joined base x (slope *ℚ from) (slope *ℚ t) (r *ℚ from) (r *ℚ t) (slope *ℚ (t -ℚ from)) (r *ℚ (t -ℚ from)) first l e f
  where
    joined : (b y sf st rf rt sd rd : ℚ) → b +ℚ sf ≤ℚ y +ℚ rf → sd ≤ℚ rd → sd ≡ st -ℚ sf → rd ≡ rt -ℚ rf → b +ℚ st ≤ℚ y +ℚ rt
    joined b y sf st rf rt sd rd h l e f = with8 b y sf st rf rt sd rd (λ c. omega (arith, c.le, c.lt, c.same))

pub before_too : (base slope x r t to : ℚ) → r ≤ℚ slope → t ≤ℚ to → base +ℚ slope *ℚ to ≤ℚ x +ℚ r *ℚ to → base +ℚ slope *ℚ t ≤ℚ x +ℚ r *ℚ t
before_too base slope x r t to faster k last =
    let gap : zero_q ≤ℚ to -ℚ t = with2 t to (λ c. omega (arith, c.le, c.lt, c.same)) in
    let l = mul_le_mul_right (to -ℚ t) gap faster in
    let e = mul_sub slope to t in
    let f = mul_sub r to t in
    back base x (slope *ℚ to) (slope *ℚ t) (r *ℚ to) (r *ℚ t) (slope *ℚ (to -ℚ t)) (r *ℚ (to -ℚ t)) last l e f
  where
    back : (b y su st ru rt sd rd : ℚ) → b +ℚ su ≤ℚ y +ℚ ru → rd ≤ℚ sd → sd ≡ su -ℚ st → rd ≡ ru -ℚ rt → b +ℚ st ≤ℚ y +ℚ rt
    back b y su st ru rt sd rd h l e f = with8 b y su st ru rt sd rd (λ c. omega (arith, c.le, c.lt, c.same))

-- so it is nowhere further above another than at its ends
pub at_ends : (base slope x r from to t : ℚ) → from ≤ℚ t → t ≤ℚ to → base +ℚ slope *ℚ from ≤ℚ x +ℚ r *ℚ from → base +ℚ slope *ℚ to ≤ℚ x +ℚ r *ℚ to
    → base +ℚ slope *ℚ t ≤ℚ x +ℚ r *ℚ t
at_ends base slope x r from to t h k first last = elim (le_total slope r) [
  | inl slower ↦ later_too base slope x r from t slower h first
  | inr faster ↦ before_too base slope x r t to faster k last
]

both_straight : (f g : ℚ → ℚ) (from to : ℚ) → IsStraight f from to → IsStraight g from to → IsStraight (λ t. f t +ℚ g t) from to
both_straight f g from to a b = record {
  base = a.base +ℚ b.base;
  slope = a.slope +ℚ b.slope;
  is = λ t h k. joined (f t) (g t) a.base b.base (a.slope *ℚ t) (b.slope *ℚ t) ((a.slope +ℚ b.slope) *ℚ t) (a.is t h k) (b.is t h k) (add_mul a.slope b.slope t);
}
  where
    joined : (y z k m u v w : ℚ) → y ≡ k +ℚ u → z ≡ m +ℚ v → w ≡ u +ℚ v → y +ℚ z ≡ (k +ℚ m) +ℚ w
    joined y z k m u v w d e f = with7 y z k m u v w (λ c. omega (arith, c.le, c.lt, c.same))

-- ---- some parts
abbrev pub AreKinked : List Part → (from to : ℚ) → (ℚ → Type 0) → Type 0
AreKinked [] from to B = Unit {0}
AreKinked (p ∷ ps) from to B = IsStraightOrKinked (part_value p) from to B × AreKinked ps from to B

narrow_all : (parts : List Part) (from to a b : ℚ) (B : ℚ → Type 0) → from ≤ℚ a → b ≤ℚ to → AreKinked parts from to B → AreKinked parts a b B
narrow_all [] from to a b B h k is = tt
narrow_all (p ∷ ps) from to a b B h k (one, others) = (narrow_kink (part_value p) from to a b B h k one, narrow_all ps from to a b B h k others)

pub each_kinked : (parts : List Part) (from to : ℚ) (B : ℚ → Type 0) → All (λ p. IsStraightOrKinked (part_value p) from to B) parts → AreKinked parts from to B
each_kinked [] from to B all = tt
each_kinked (p ∷ ps) from to B all = (
  All-head (λ q. IsStraightOrKinked (part_value q) from to B) p ps all,
  each_kinked ps from to B (All-tail (λ q. IsStraightOrKinked (part_value q) from to B) p ps all),
)

module _ (f : ℚ → ℚ) (rate x : ℕ) where
  -- f is the sum of one function, which is a line, and of parts that are lines or bend
  split_off : (parts : List Part) (g : ℚ → ℚ) (from to t : ℚ) → IsStraight g from to → AreKinked parts from to (IsBelow f rate x)
      → ((s : ℚ) → f s ≡ g s +ℚ parts_value parts s) → IsBelow f rate x from → IsBelow f rate x to → from ≤ℚ t → t ≤ℚ to → IsBelow f rate x t
  split_off [] g from to t straight kinks is first last h k =
      let on : from ≤ℚ to = le_trans h k in
      let line = λ (s : ℚ) (l : from ≤ℚ s) (m : s ≤ℚ to). is s ∙ ap (λ z. g s +ℚ z) (no_value s) ∙ add_zero (g s) ∙ straight.is s l m in
      subst (λ y. y ≤ℚ bits x +ℚ speed rate *ℚ t) (sym (line t h k))
      (at_ends straight.base straight.slope (bits x) (speed rate) from to t h k
      (subst (λ y. y ≤ℚ bits x +ℚ speed rate *ℚ from) (line from (le_refl from) on) first)
      (subst (λ y. y ≤ℚ bits x +ℚ speed rate *ℚ to) (line to on (le_refl to)) last))
  split_off (p ∷ ps) g from to t straight (one, others) is first last h k = elim one [
    | inl line ↦ split_off ps (λ s. g s +ℚ part_value p s) from to t (both_straight g (part_value p) from to straight line) others moved first last h k
    | inr kink ↦ elim (le_total t kink.at) [
      | inl before ↦
          split_off ps (λ s. g s +ℚ part_value p s) from kink.at t
          (both_straight g (part_value p) from kink.at (narrow g from to from kink.at (le_refl from) kink.ends straight) kink.before)
          (narrow_all ps from to from kink.at (IsBelow f rate x) (le_refl from) kink.ends others) moved first kink.holds h before
      | inr after ↦
          split_off ps (λ s. g s +ℚ part_value p s) kink.at to t
          (both_straight g (part_value p) kink.at to (narrow g from to kink.at to kink.begins (le_refl to) straight) kink.after)
          (narrow_all ps from to kink.at to (IsBelow f rate x) kink.begins (le_refl to) others) moved kink.holds last after k
    ]
  ]
    where
      moved : (s : ℚ) → f s ≡ (g s +ℚ part_value p s) +ℚ parts_value ps s
      moved s = is s ∙ ap (λ z. g s +ℚ z) (more_value p ps s) ∙ sym (add_assoc (g s) (part_value p s) (parts_value ps s))

pub split : (parts : List Part) (rate x : ℕ) (from to t : ℚ) → All (λ p. IsStraightOrKinked (part_value p) from to (IsBelow (parts_value parts) rate x)) parts
    → IsBelow (parts_value parts) rate x from → IsBelow (parts_value parts) rate x to → from ≤ℚ t → t ≤ℚ to → IsBelow (parts_value parts) rate x t
split parts rate x from to t all first last h k =
    split_off (parts_value parts) rate x parts (λ s. zero_q) from to t
    record { base = zero_q; slope = zero_q; is = λ s l m. sym (ap (λ z. zero_q +ℚ z) (zero_mul s) ∙ add_zero zero_q) }
    (each_kinked parts from to (IsBelow (parts_value parts) rate x) all)
    (λ s. sym (add_comm zero_q (parts_value parts s) ∙ add_zero (parts_value parts s))) first last h k

-- ---- the greater of two
pub below_more : (f : ℚ → ℚ) (rate x y : ℕ) (t : ℚ) → x ≤ y → IsBelow f rate x t → IsBelow f rate y t
below_more f rate x y t h k =
    let b = bits_le x y h in
    let u = bits x in
    let v = bits y in
    let w = speed rate *ℚ t in
    let z = f t in
    with4 u v w z (λ c. omega (arith, c.le, c.lt, c.same))

pub nearer : (f : ℚ → ℚ) (rate a b : ℕ) (from to : ℚ) → (0 < a → IsNear f rate a from to) → (0 < b → IsNear f rate b from to)
    → 0 < max a b → IsNear f rate (max a b) from to
nearer f rate a b from to h k some = elim (cases_lt a b) [
  | inl less ↦
      let e : b ≡ max a b = omega (arith, less) in
      subst (λ (n : ℕ). IsNear f rate n from to) e (k (omega (arith, less)))
  | inr more ↦
      let e : a ≡ max a b = omega (arith, more) in
      subst (λ (n : ℕ). IsNear f rate n from to) e (h (omega (arith, more, some)))
]

-- ---- between two times in picoseconds
-- so far: at both ends, and where the first parts bend
pub record IsGreatestSoFar (parts : List Part) (rate begin end i x : ℕ) : Type 0 where
  pub first : IsBelow (parts_value parts) rate x (micros begin)
  pub last : IsBelow (parts_value parts) rate x (micros end)
  pub bends : (k : ℕ) (d : Part) → k < i → IsStraightOrKinked (part_value (get_or parts k d)) (micros begin) (micros end) (IsBelow (parts_value parts) rate x)
  pub near : 0 < x → IsNear (parts_value parts) rate x (micros begin) (micros end)

near_at : (parts : List Part) (rate time x : ℕ) (from to : ℚ) → from ≤ℚ micros time → micros time ≤ℚ to → IsBoundAt parts rate time x
    → 0 < x → IsNear (parts_value parts) rate x from to
near_at parts rate time x from to h k bound some = record { at = micros time; begins = h; ends = k; near = bound.near some }

pub two_ends : (parts : List Part) (rate begin end a b : ℕ) → begin ≤ end → IsBoundAt parts rate begin a → IsBoundAt parts rate end b
    → IsGreatestSoFar parts rate begin end 0 (max a b)
two_ends parts rate begin end a b order one other = record {
  first = below_more (parts_value parts) rate a (max a b) (micros begin) (omega arith) one.over;
  last = below_more (parts_value parts) rate b (max a b) (micros end) (omega arith) other.over;
  bends = λ k d h. absurd (omega (arith, h));
  near = nearer (parts_value parts) rate a b (micros begin) (micros end)
      (near_at parts rate begin a (micros begin) (micros end) (le_refl (micros begin)) (micros_le begin end order) one)
      (near_at parts rate end b (micros begin) (micros end) (micros_le begin end order) (le_refl (micros end)) other);
}

pub one_more_bend : (parts : List Part) (rate begin end i a b : ℕ) (d p : Part) → i < length parts → p ≡ get_or parts i d
    → IsBoundAtBend parts rate p begin end b → IsGreatestSoFar parts rate begin end i a → IsGreatestSoFar parts rate begin end (i + 1) (max a b)
one_more_bend parts rate begin end i a b d p inside at bound so_far = record {
  first = below_more (parts_value parts) rate a (max a b) (micros begin) (omega arith) so_far.first;
  last = below_more (parts_value parts) rate a (max a b) (micros end) (omega arith) so_far.last;
  bends = λ k e h. elim (cases_lt k i) [
    | inl l ↦
        weaker_kink (part_value (get_or parts k e)) (micros begin) (micros end) (IsBelow (parts_value parts) rate a) (IsBelow (parts_value parts) rate (max a b))
        (λ t. below_more (parts_value parts) rate a (max a b) t (omega arith)) (so_far.bends k e l)
    | inr l ↦
        let same : i ≡ k = omega (arith, h, l) in
        let is : p ≡ get_or parts k e = at ∙ get_or_default parts i d e inside ∙ ap (λ (n : ℕ). get_or parts n e) same in
        subst (λ (q : Part). IsStraightOrKinked (part_value q) (micros begin) (micros end) (IsBelow (parts_value parts) rate (max a b))) is
        (weaker_kink (part_value p) (micros begin) (micros end) (IsBelow (parts_value parts) rate b) (IsBelow (parts_value parts) rate (max a b))
        (λ t. below_more (parts_value parts) rate b (max a b) t (omega arith)) bound.over)
  ];
  near = nearer (parts_value parts) rate a b (micros begin) (micros end) so_far.near bound.near;
}

pub all_bends : (parts : List Part) (rate begin end i x : ℕ) → length parts ≤ i → IsGreatestSoFar parts rate begin end i x → IsGreatestBetween parts rate begin end x
all_bends parts rate begin end i x done so_far = record {
  over = λ t h k. split parts rate x (micros begin) (micros end) t (λ n d inside. so_far.bends n d (omega (arith, done, inside))) so_far.first so_far.last h k;
  near = so_far.near;
}

-- ---- the time in which a rate of `u` grains a second brings `o` grains
abbrev pub time_of : (o u : ℕ) → ℚ
time_of o u = bits o /ℚ speed u

pub time_is : (o u : ℕ) → 0 < u → speed u *ℚ time_of o u ≡ bits o
time_is o u some = mul_comm (speed u) _ ∙ div_mul (bits o) (speed u) (not_zero _ (speed_some u some))

pub is_after : (o u begin : ℕ) (t : ℚ) → 0 < u → speed u *ℚ t ≡ bits o → begin * u ≤ o * 10 ^ 12 → micros begin ≤ℚ t
is_after o u begin t some at late =
    le_of_mul (speed u) (micros begin) t (speed_some u some) (rw (mul_comm (micros begin) (speed u), mul_comm t (speed u), at) (brings_less o u begin (omega (arith, late))))

pub is_before : (o u end : ℕ) (t : ℚ) → 0 < u → speed u *ℚ t ≡ bits o → o * 10 ^ 12 ≤ end * u → t ≤ℚ micros end
is_before o u end t some at early =
    le_of_mul (speed u) t (micros end) (speed_some u some) (rw (mul_comm t (speed u), mul_comm (micros end) (speed u), at) (brings o u end (omega (arith, early))))

-- ---- where one part bends
-- nowhere between
pub no_bend : (parts : List Part) (rate : ℕ) (part : Part) (begin end : ℕ) → IsUnbent part → IsBoundAtBend parts rate part begin end 0
no_bend parts rate part begin end one = record {
  over = inl record { base = bits one.line.burst; slope = speed one.line.rate; is = λ t h k. one.is t (le_trans (micros_nonneg begin) h) };
  near = λ some. absurd (omega (arith, some));
}

pub bends_before : (parts : List Part) (rate : ℕ) (part : Part) (begin end : ℕ) (at : Moment) → IsBend part at → at.over * 10 ^ 12 ≤ begin * at.under
    → IsBoundAtBend parts rate part begin end 0
bends_before parts rate part begin end at bend early = record {
  over = inl record {
    base = bits bend.bent.high.burst;
    slope = speed bend.bent.high.rate;
    is = λ t h k. bend.bent.after t (le_trans (micros_nonneg begin) h)
        (le_trans (brings at.over at.under begin (omega (arith, early))) (mul_le_mul (speed at.under) (speed_nonneg at.under) h));
  };
  near = λ some. absurd (omega (arith, some));
}

pub bends_behind : (parts : List Part) (rate : ℕ) (part : Part) (begin end : ℕ) (at : Moment) → IsBend part at → end * at.under ≤ at.over * 10 ^ 12
    → IsBoundAtBend parts rate part begin end 0
bends_behind parts rate part begin end at bend late = record {
  over = inl record {
    base = bits bend.bent.low.burst;
    slope = speed bend.bent.low.rate;
    is = λ t h k. bend.bent.before t (le_trans (micros_nonneg begin) h)
        (le_trans (mul_le_mul (speed at.under) (speed_nonneg at.under) k) (brings_less at.over at.under end (omega (arith, late))));
  };
  near = λ some. absurd (omega (arith, some));
}

-- between: there
pub bends_between : (parts : List Part) (rate : ℕ) (part : Part) (begin end x : ℕ) (at : Moment) → IsBend part at
    → begin * at.under ≤ at.over * 10 ^ 12 → at.over * 10 ^ 12 ≤ end * at.under → x ≡ div_ceil (heights parts at.over at.under - rate * at.over) at.under
    → IsBoundAtBend parts rate part begin end x
bends_between parts rate part begin end x at bend late early is = at_time (time_of at.over at.under) (time_is at.over at.under bend.moment.some)
  where
    at_time : (t : ℚ) → speed at.under *ℚ t ≡ bits at.over → IsBoundAtBend parts rate part begin end x
    at_time t e =
        let there : IsAt at.over at.under t = record { some = bend.moment.some; is = e } in
        let begins = is_after at.over at.under begin t bend.moment.some e late in
        let ends = is_before at.over at.under end t bend.moment.some e early in
        record {
          over = inr record {
            at = t;
            begins = begins;
            ends = ends;
            before = record {
              base = bits bend.bent.low.burst;
              slope = speed bend.bent.low.rate;
              is = λ s h k. bend.bent.before s (le_trans (micros_nonneg begin) h) (up_to s k);
            };
            after = record {
              base = bits bend.bent.high.burst;
              slope = speed bend.bent.high.rate;
              is = λ s h k. bend.bent.after s (le_trans (le_trans (micros_nonneg begin) begins) h) (down_to s h);
            };
            holds = ahead_over at.over at.under t there parts rate x is;
          };
          near = λ positive. record { at = t; begins = begins; ends = ends; near = ahead_near at.over at.under t there parts rate x is positive };
        }
      where
        up_to : (s : ℚ) → s ≤ℚ t → speed at.under *ℚ s ≤ℚ bits at.over
        up_to s k = subst (λ y. speed at.under *ℚ s ≤ℚ y) e (mul_le_mul (speed at.under) (speed_nonneg at.under) k)

        down_to : (s : ℚ) → t ≤ℚ s → bits at.over ≤ℚ speed at.under *ℚ s
        down_to s h = subst (λ y. y ≤ℚ speed at.under *ℚ s) e (mul_le_mul (speed at.under) (speed_nonneg at.under) h)

pub not_between : (parts : List Part) (rate : ℕ) (part : Part) (begin end : ℕ) (at : Moment) → IsBend part at
    → (begin * at.under < at.over * 10 ^ 12 → at.over * 10 ^ 12 < end * at.under → ⊥) → IsBoundAtBend parts rate part begin end 0
not_between parts rate part begin end at bend none = elim (cases_lt (begin * at.under) (at.over * 10 ^ 12)) [
  | inr early ↦ bends_before parts rate part begin end at bend early
  | inl late ↦ elim (cases_lt (at.over * 10 ^ 12) (end * at.under)) [
    | inr behind ↦ bends_behind parts rate part begin end at bend behind
    | inl within ↦ absurd (none late within)
  ]
]
