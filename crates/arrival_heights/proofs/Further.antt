-- Which of two heights is further above a rate, and at which other rates it is so too: the later one falls back sooner as the rate grows.
use Rattle.std.specs.Prelude.{◌≡◌, ℕ, zero, suc, ◌+◌, ◌-◌, ◌*◌, ◌/◌, ◌%◌, ◌<◌, ◌≤◌, List, [], ◌∷◌, ◌++◌, length, get_or, take, drop, map}
use Rattle.std.proofs.Common.{arith, ap, sym, ◌∙◌, refl, subst, inl, inr, append_assoc, length-drop}
use Rattle.std.specs.Int.{div_ceil}
use Rattle.std.proofs.lemmas.Bool.{cases_lt}
use Rattle.std.proofs.lemmas.Grind.{div_ceil_times}
use Rattle.std.proofs.lemmas.List.{drop_more, get_or_default, get_or-drop, get_or-take, length-take-le, map-append, take-append-drop}
use Rattle.std.specs.Cmp.{IsStrictWeakOrder}
use Rattle.std.specs.List.Sorted.{IsNonDecreasing, IsSortedBy}
use Rattle.std.proofs.lemmas.List.Sorted.{All-permutation, IsPermutation-sym, sorted_far}
use Rattle.std.specs.Prelude.{IsPermutation}
use Rattle.std.proofs.Math.Seq.{take-length}
use Rattle.std.proofs.Math.Nat.{le_of_mul-le-mul_right, mul-le-mul_left, mul-le-mul_right}
use Rattle.arrival_heights.specs.Heights.{AreMoments, ahead_of, most_ahead}
use Rattle.arrival_heights.specs.Peaks.{AreTimed, IsFirstGreatest, excess_of}
use Rattle.arrival_heights.specs.declared.heights.Height.{Height}
use Rattle.arrival_heights.proofs.Ceilings.{ceil_most}
use Rattle.arrival_heights.proofs.Orders.{chain_behind, sooner, sooner_order, in_time}
use Rattle.arrival_heights.proofs.Most.{no_height}

-- ---- of heights g and h over u and v, after o over u and p over v
sums_core : (d c o u p v R : ℕ) → (d + R * o) * v + R * (p * u) ≤ (c + R * p) * u + R * (o * v) → d * v ≤ c * u
sums_core d c o u p v R h = omega (arith, h)

by_sums : (g o u h p v R : ℕ) → g * v + R * (p * u) ≤ h * u + R * (o * v) → (g - R * o) * v ≤ (h - R * p) * u
by_sums g o u h p v R sums = elim (cases_lt (R * o) g) [
  | inr none ↦ let e : g - R * o ≡ 0 = omega (arith, none) in let f = ap (λ n. n * v) e in omega (arith, f)
  | inl some ↦ over (g - R * o) (omega (arith, some))
]
  where
    over : (d : ℕ) → g ≡ d + R * o → d * v ≤ (h - R * p) * u
    over d e = elim (cases_lt h (R * p)) [
      | inl none ↦
          let m : h * u ≤ (R * p) * u = mul-le-mul_right u (omega (arith, none)) in
          let f = ap (λ n. n * v) e in
          omega (arith, m, f, sums)
      | inr some ↦ both (h - R * p) (omega (arith, some))
    ]
      where
        both : (c : ℕ) → h ≡ c + R * p → d * v ≤ c * u
        both c k = let f = ap (λ n. n * v) e in let m = ap (λ n. n * u) k in sums_core d c o u p v R (omega (arith, f, m, sums))

to_sums : (g o u h p v R : ℕ) → R * p < h → (g - R * o) * v ≤ (h - R * p) * u → g * v + R * (p * u) ≤ h * u + R * (o * v)
to_sums g o u h p v R some less = both (h - R * p) (omega (arith, some)) less
  where
    both : (c : ℕ) → h ≡ c + R * p → (g - R * o) * v ≤ c * u → g * v + R * (p * u) ≤ h * u + R * (o * v)
    both c k l = elim (cases_lt (R * o) g) [
      | inl over ↦ exact (g - R * o) (omega (arith, over)) l
      | inr none ↦
          let m : g * v ≤ (R * o) * v = mul-le-mul_right v none in
          let f = ap (λ n. n * u) k in
          omega (arith, m, f)
    ]
      where
        exact : (d : ℕ) → g ≡ d + R * o → d * v ≤ c * u → g * v + R * (p * u) ≤ h * u + R * (o * v)
        exact d e n = let f = ap (λ n. n * v) e in let m = ap (λ n. n * u) k in omega (arith, f, m, n)

-- the later one is further above a lesser rate too, where it is further
at_less : (g o u h p v R M : ℕ) → R ≤ M → o * v ≤ p * u → (g - M * o) * v < (h - M * p) * u → (g - R * o) * v ≤ (h - R * p) * u
at_less g o u h p v R M slower later less = moved (M - R) (omega (arith, slower))
  where
    some : M * p < h
    some = elim (cases_lt (M * p) h) [
      | inl l ↦ l
      | inr none ↦ let e : h - M * p ≡ 0 = omega (arith, none) in let f = ap (λ n. n * u) e in absurd (omega (arith, f, less))
    ]

    moved : (q : ℕ) → M ≡ R + q → (g - R * o) * v ≤ (h - R * p) * u
    moved q e =
        let s = to_sums g o u h p v M some (omega (arith, less)) in
        let a = ap (λ n. n * (p * u)) e in
        let b = ap (λ n. n * (o * v)) e in
        let m : q * (o * v) ≤ q * (p * u) = mul-le-mul_left q later in
        by_sums g o u h p v R (omega (arith, s, a, b, m))

-- the later one is no further above a greater rate, where it is no further
at_more : (g o u h p v R M : ℕ) → 0 < v → M ≤ R → p * u ≤ o * v → (g - M * o) * v ≤ (h - M * p) * u → (g - R * o) * v ≤ (h - R * p) * u
at_more g o u h p v R M above faster later less = elim (cases_lt (M * p) h) [
  | inl some ↦ moved (R - M) (omega (arith, faster)) (to_sums g o u h p v M some less)
  | inr none ↦
      let e : h - M * p ≡ 0 = omega (arith, none) in
      let f = ap (λ n. n * u) e in
      let k : g - M * o ≤ 0 = le_of_mul-le-mul_right (let z : (g - M * o) * v ≤ 0 * v = omega (arith, less, f) in z) above in
      let m : M * o ≤ R * o = mul-le-mul_right o faster in
      let z : g - R * o ≡ 0 = omega (arith, k, m) in
      let y = ap (λ n. n * v) z in
      omega (arith, y)
]
  where
    moved : (q : ℕ) → R ≡ M + q → g * v + M * (p * u) ≤ h * u + M * (o * v) → (g - R * o) * v ≤ (h - R * p) * u
    moved q e s =
        let a = ap (λ n. n * (p * u)) e in
        let b = ap (λ n. n * (o * v)) e in
        let m : q * (p * u) ≤ q * (o * v) = mul-le-mul_left q later in
        by_sums g o u h p v R (omega (arith, s, a, b, m))

-- rounded up
rounded : (a u b v : ℕ) → 0 < u → 0 < v → a * v ≤ b * u → div_ceil a u ≤ div_ceil b v
rounded a u b v some above less =
    let c = div_ceil b v in
    let h : b ≤ c * v = (div_ceil_times b v above).0 in
    let m : b * u ≤ (c * v) * u = mul-le-mul_right u h in
    let k : a * v ≤ (c * u) * v = omega (arith, m, less) in
    ceil_most a u c some (le_of_mul-le-mul_right k above)

-- ---- the first that is furthest above a rate
pub at_any : (P : Height → Height → Type 0) (hs : List Height) (j i : ℕ) (e d : Height) → j < length hs → i < length hs → P (get_or hs j e) (get_or hs i e) → P (get_or hs j d) (get_or hs i d)
at_any P hs j i e d one other h =
    subst (λ (x : Height). P (get_or hs j d) x) (get_or_default hs i e d other) (subst (λ (x : Height). P x (get_or hs i e)) (get_or_default hs j e d one) h)

pub none_looked_at : (hs : List Height) (rate : ℕ) → 0 < length hs → IsFirstGreatest hs rate 0 0
none_looked_at hs rate some = record { inside = some; earlier = λ k d h. absurd (omega (arith, h)); later = λ k d h. absurd (omega (arith, h)) }

module _ (hs : List Height) (rate i place : ℕ) (inside : i < length hs) (moments : AreMoments hs) (so_far : IsFirstGreatest hs rate i place) where
  pub is_further : ((d : Height) → excess_of rate (get_or hs place d) * (get_or hs i d).at.under < excess_of rate (get_or hs i d) * (get_or hs place d).at.under)
      → IsFirstGreatest hs rate (i + 1) i
  is_further more = record {
    inside = inside;
    earlier = before;
    later = λ k d h. elim (cases_lt k i) [
      | inl less ↦ let l = before k d less in omega (arith, l)
      | inr last ↦
          let e : i ≡ k = omega (arith, h, last) in
          subst (λ (j : ℕ). excess_of rate (get_or hs j d) * (get_or hs i d).at.under ≤ excess_of rate (get_or hs i d) * (get_or hs j d).at.under) e (omega arith)
    ];
  }
    where
      before : (k : ℕ) (d : Height) → k < i → excess_of rate (get_or hs k d) * (get_or hs i d).at.under < excess_of rate (get_or hs i d) * (get_or hs k d).at.under
      before k d h =
          chain_behind (excess_of rate (get_or hs k d)) (get_or hs k d).at.under (excess_of rate (get_or hs place d)) (get_or hs place d).at.under (excess_of rate (get_or hs i d)) (get_or hs i d).at.under
          (moments k d (omega (arith, h, inside))).some (so_far.later k d h) (more d)

  pub is_no_further : ((d : Height) → excess_of rate (get_or hs i d) * (get_or hs place d).at.under ≤ excess_of rate (get_or hs place d) * (get_or hs i d).at.under)
      → IsFirstGreatest hs rate (i + 1) place
  is_no_further less = record {
    inside = so_far.inside;
    earlier = so_far.earlier;
    later = λ k d h. elim (cases_lt k i) [
      | inl before ↦ so_far.later k d before
      | inr last ↦
          let e : i ≡ k = omega (arith, h, last) in
          subst (λ (j : ℕ). excess_of rate (get_or hs j d) * (get_or hs place d).at.under ≤ excess_of rate (get_or hs place d) * (get_or hs j d).at.under) e (less d)
    ];
  }

-- ---- the greatest of some
most_le : (rate x : ℕ) (hs : List Height) → ((k : ℕ) (d : Height) → k < length hs → ahead_of rate (get_or hs k d) ≤ x) → most_ahead rate hs ≤ x
unfolding most_ahead
most_le rate x [] each = omega arith
most_le rate x (h ∷ hs) each =
    let a = each 0 h (omega arith) in
    let b = most_le rate x hs (λ k d l. each (suc k) d (omega (arith, l))) in
    omega (arith, a, b)

le_most : (rate : ℕ) (hs : List Height) (k : ℕ) (d : Height) → k < length hs → ahead_of rate (get_or hs k d) ≤ most_ahead rate hs
unfolding most_ahead
le_most rate [] k d l = absurd (omega (arith, l))
le_most rate (h ∷ hs) zero d l = omega arith
le_most rate (h ∷ hs) (suc k) d l = let a = le_most rate hs k d (omega (arith, l)) in omega (arith, a)

pub most_moved : (rate : ℕ) (hs ks : List Height) → IsPermutation hs ks → most_ahead rate ks ≡ most_ahead rate hs
most_moved rate hs ks moved =
    let a = most_le rate (most_ahead rate hs) ks (All-permutation (λ (h : Height). ahead_of rate h ≤ most_ahead rate hs) hs ks moved (le_most rate hs)) in
    let b = most_le rate (most_ahead rate ks) hs (All-permutation (λ (h : Height). ahead_of rate h ≤ most_ahead rate ks) ks hs (IsPermutation-sym hs ks moved) (le_most rate ks)) in
    omega (arith, a, b)

-- of those from some place on, or up to it
most_from : (rate p : ℕ) (hs : List Height) → p < length hs → ((k : ℕ) (d : Height) → k < p → ahead_of rate (get_or hs k d) ≤ ahead_of rate (get_or hs p d))
    → most_ahead rate (drop p hs) ≡ most_ahead rate hs
most_from rate p hs inside lower =
    let a = most_le rate (most_ahead rate hs) (drop p hs) (λ k d l.
    let n = length-drop p hs in
    let e = ap (ahead_of rate) (get_or-drop p hs k d) in
    let m = le_most rate hs (p + k) d (omega (arith, n, l)) in
    omega (arith, e, m)) in
    let b = most_le rate (most_ahead rate (drop p hs)) hs (λ k d l. elim (cases_lt k p) [
      | inl before ↦ let m = lower k d before in let n = here p d (omega arith) inside in omega (arith, m, n)
      | inr after ↦ here k d after l
    ]) in
    omega (arith, a, b)
  where
    here : (k : ℕ) (d : Height) → p ≤ k → k < length hs → ahead_of rate (get_or hs k d) ≤ most_ahead rate (drop p hs)
    here k d after l =
        let n = length-drop p hs in
        let at : p + (k - p) ≡ k = omega (arith, after) in
        let e = ap (ahead_of rate) (get_or-drop p hs (k - p) d ∙ ap (λ (j : ℕ). get_or hs j d) at) in
        let m = le_most rate (drop p hs) (k - p) d (omega (arith, n, after, l)) in
        omega (arith, e, m)

most_to : (rate p : ℕ) (hs : List Height) → p < length hs → ((k : ℕ) (d : Height) → p < k → k < length hs → ahead_of rate (get_or hs k d) ≤ ahead_of rate (get_or hs p d))
    → most_ahead rate (take (p + 1) hs) ≡ most_ahead rate hs
most_to rate p hs inside lower =
    let n = length-take-le (p + 1) hs (omega (arith, inside)) in
    let a = most_le rate (most_ahead rate hs) (take (p + 1) hs) (λ k d l.
    let e = ap (ahead_of rate) (get_or-take (p + 1) hs k d (omega (arith, n, l))) in
    let m = le_most rate hs k d (omega (arith, n, l, inside)) in
    omega (arith, e, m)) in
    let b = most_le rate (most_ahead rate (take (p + 1) hs)) hs (λ k d l. elim (cases_lt p k) [
      | inl after ↦ let m = lower k d after l in let j = here p d (omega arith) in omega (arith, m, j)
      | inr before ↦ here k d before
    ]) in
    omega (arith, a, b)
  where
    here : (k : ℕ) (d : Height) → k ≤ p → ahead_of rate (get_or hs k d) ≤ most_ahead rate (take (p + 1) hs)
    here k d before =
        let n = length-take-le (p + 1) hs (omega (arith, inside)) in
        let e = ap (ahead_of rate) (get_or-take (p + 1) hs k d (omega (arith, before))) in
        let m = le_most rate (take (p + 1) hs) k d (omega (arith, n, before)) in
        omega (arith, e, m)

-- ---- at one rate, and at lesser and greater ones
module _ (hs : List Height) (rate place : ℕ) (moments : AreMoments hs) (timed : AreTimed hs) (first : IsFirstGreatest hs rate (length hs) place) where
  some : (k : ℕ) (d : Height) → k < length hs → 0 < (get_or hs k d).at.under
  some k d l = (moments k d l).some

  pub at_least : most_ahead rate hs ≡ ahead_of rate (get_or hs place no_height)
  at_least =
      let a = most_le rate (ahead_of rate (get_or hs place no_height)) hs (λ k d l. subst (λ (h : Height). ahead_of rate (get_or hs k d) ≤ ahead_of rate h) (default d)
      (rounded (excess_of rate (get_or hs k d)) (get_or hs k d).at.under (excess_of rate (get_or hs place d)) (get_or hs place d).at.under (some k d l) (some place d first.inside) (first.later k d l))) in
      let b = le_most rate hs place no_height first.inside in
      omega (arith, a, b)
    where
      default : (d : Height) → get_or hs place d ≡ get_or hs place no_height
      default d = get_or_default hs place d no_height first.inside

  pub slower : (r : ℕ) → r ≤ rate → most_ahead r (drop place hs) ≡ most_ahead r hs
  slower r below = most_from r place hs first.inside (λ k d before.
      let one = get_or hs k d in
      let other = get_or hs place d in
      let l = at_less one.grains one.at.over one.at.under other.grains other.at.over other.at.under r rate below
      (timed.come k place d (omega (arith, before)) first.inside) (first.earlier k d before) in
      let inside = first.inside in
      rounded (excess_of r one) one.at.under (excess_of r other) other.at.under (some k d (omega (arith, before, inside))) (some place d inside) l)

  pub faster : (r : ℕ) → rate ≤ r → most_ahead r (take (place + 1) hs) ≡ most_ahead r hs
  faster r above = most_to r place hs first.inside (λ k d after l.
      let one = get_or hs k d in
      let other = get_or hs place d in
      let m = at_more one.grains one.at.over one.at.under other.grains other.at.over other.at.under r rate (some place d first.inside) above
      (timed.come place k d (omega (arith, after)) l) (first.later k d l) in
      rounded (excess_of r one) one.at.under (excess_of r other) other.at.under (some k d l) (some place d first.inside) m)

-- ---- of rising rates
map_alike : (f g : ℕ → ℕ) (xs : List ℕ) → ((k d : ℕ) → k < length xs → f (get_or xs k d) ≡ g (get_or xs k d)) → map f xs ≡ map g xs
map_alike f g [] same = refl
map_alike f g (x ∷ xs) same = ap (λ y. y ∷ map f xs) (same 0 0 (omega arith)) ∙ ap (λ (ys : List ℕ). g x ∷ ys) (map_alike f g xs (λ k d l. same (suc k) d (omega (arith, l))))

pub in_three : (f low high : ℕ → ℕ) (rates : List ℕ) (m at : ℕ) (old one two all : List ℕ) → m < length rates → one ≡ old ++ map low (take m rates) → two ≡ one ++ at ∷ []
    → all ≡ two ++ map high (drop (m + 1) rates) → ((k d : ℕ) → k < m → low (get_or rates k d) ≡ f (get_or rates k d)) → at ≡ f (get_or rates m 0)
    → ((k d : ℕ) → m < k → k < length rates → high (get_or rates k d) ≡ f (get_or rates k d)) → all ≡ old ++ map f rates
in_three f low high rates m at old one two all inside lesser middle greater lows mid highs =
    greater ∙ ap (λ (l : List ℕ). l ++ map high (drop (m + 1) rates)) (middle ∙ ap (λ (l : List ℕ). l ++ at ∷ []) (lesser ∙ ap (λ (l : List ℕ). old ++ l) low_is))
    ∙ ap (λ (l : List ℕ). ((old ++ map f (take m rates)) ++ at ∷ []) ++ l) high_is ∙ ap (λ n. ((old ++ map f (take m rates)) ++ n ∷ []) ++ map f (drop (m + 1) rates)) mid
    ∙ regroup ∙ ap (λ (l : List ℕ). old ++ l) (sym split)
  where
    low_is : map low (take m rates) ≡ map f (take m rates)
    low_is = map_alike low f (take m rates) (λ k d l.
        let n = length-take-le m rates (omega (arith, inside)) in
        let e = get_or-take m rates k d (omega (arith, n, l)) in
        ap low e ∙ lows k d (omega (arith, n, l)) ∙ ap f (sym e))

    high_is : map high (drop (m + 1) rates) ≡ map f (drop (m + 1) rates)
    high_is = map_alike high f (drop (m + 1) rates) (λ k d l.
        let n = length-drop (m + 1) rates in
        let e = get_or-drop (m + 1) rates k d in
        ap high e ∙ highs (m + 1 + k) d (omega arith) (omega (arith, n, l)) ∙ ap f (sym e))

    split : map f rates ≡ map f (take m rates) ++ f (get_or rates m 0) ∷ map f (drop (m + 1) rates)
    split =
        ap (map f) (sym (take-append-drop m rates) ∙ ap (λ (l : List ℕ). take m rates ++ l) (drop_more rates m 0 inside))
        ∙ map-append f (take m rates) (get_or rates m 0 ∷ drop (m + 1) rates)

    regroup : ((old ++ map f (take m rates)) ++ f (get_or rates m 0) ∷ []) ++ map f (drop (m + 1) rates)
        ≡ old ++ (map f (take m rates) ++ f (get_or rates m 0) ∷ map f (drop (m + 1) rates))
    regroup = simp append_assoc

-- from some place on
rest : {A : Type 0} → (p : ℕ) (xs : List A) → take (length xs - p) (drop p xs) ≡ drop p xs
rest p xs = ap (λ n. take n (drop p xs)) (sym (length-drop p xs)) ∙ take-length (drop p xs)

-- the middle one, the lesser and the greater ones
pub most_of_all : (hs : List Height) (rates : List ℕ) (m place at : ℕ) (old one two all : List ℕ) → AreMoments hs → AreTimed hs → IsNonDecreasing rates → m < length rates
    → IsFirstGreatest hs (get_or rates m 0) (length hs) place → one ≡ old ++ map (λ rate. most_ahead rate (take (length hs - place) (drop place hs))) (take m rates)
    → at ≡ ahead_of (get_or rates m 0) (get_or hs place no_height) → two ≡ one ++ at ∷ []
    → all ≡ two ++ map (λ rate. most_ahead rate (take (place + 1) hs)) (take (length rates - (m + 1)) (drop (m + 1) rates)) → all ≡ old ++ map (λ rate. most_ahead rate hs) rates
most_of_all hs rates m place at old one two all moments timed rising inside first lesser is middle greater =
    in_three (λ rate. most_ahead rate hs) (λ rate. most_ahead rate (drop place hs)) (λ rate. most_ahead rate (take (place + 1) hs)) rates m at old one two all inside
    (lesser ∙ ap (λ (late : List Height). old ++ map (λ rate. most_ahead rate late) (take m rates)) (rest place hs)) middle
    (greater ∙ ap (λ (more : List ℕ). two ++ map (λ rate. most_ahead rate (take (place + 1) hs)) more) (rest (m + 1) rates))
    (λ k d l. slower hs (get_or rates m 0) place moments timed first (get_or rates k d)
    (let r = rising k m d (omega (arith, l)) inside in let e = get_or_default rates m d 0 inside in omega (arith, r, e)))
    (is ∙ sym (at_least hs (get_or rates m 0) place moments timed first))
    (λ k d l n. faster hs (get_or rates m 0) place moments timed first (get_or rates k d)
    (let r = rising m k d (omega (arith, l)) n in let e = get_or_default rates m d 0 inside in omega (arith, r, e)))

-- ---- fractions by their whole parts
whole_less : (a u b v q w : ℕ) → 0 < v → a < u * (q + 1) → w * v ≤ b → q < w → a * v < b * u
whole_less a u b v q w some rest whole less =
    let p : (a + 1) * v ≤ (u * (q + 1)) * v = mul-le-mul_right v (omega (arith, rest)) in
    let s : (q + 1) * (u * v) ≤ w * (u * v) = mul-le-mul_right (u * v) (omega (arith, less)) in
    let t : (w * v) * u ≤ b * u = mul-le-mul_right u whole in
    omega (arith, p, s, t, some)

pub less_by_whole : (a u b v : ℕ) → 0 < u → 0 < v → a / u < b / v → a * v < b * u
less_by_whole a u b v some above less = whole_less a u b v (a / u) (b / v) above (omega (arith, some)) (omega (arith, above)) less

pub same_whole : (a u b v : ℕ) → 0 < u → 0 < v → a / u ≡ b / v → (a % u) * v + b * u ≡ (b % v) * u + a * v
same_whole a u b v some above same = by_rests (a / u) (b / v) (a % u) (b % v) (omega (arith, some)) (omega (arith, above)) same
  where
    by_rests : (q w r s : ℕ) → a ≡ u * q + r → b ≡ v * w + s → q ≡ w → r * v + b * u ≡ s * u + a * v
    by_rests q w r s e f g =
        let m = ap (λ n. n * v) e in
        let k = ap (λ n. n * u) f in
        let h = ap (λ n. u * v * n) g in
        omega (arith, m, k, h)

-- ---- as they are sorted
pub height_order : IsStrictWeakOrder (λ (x : Height) (y : Height). sooner x.at y.at)
height_order = record { one_way = λ x y h. sooner_order.one_way x.at y.at h; chain = λ x y z h l. sooner_order.chain x.at y.at z.at h l }

pub timed : (hs : List Height) → AreMoments hs → IsSortedBy (λ (x : Height) (y : Height). sooner x.at y.at) hs → AreTimed hs
timed hs moments sorted = record {
  come = λ i j d h l.
      in_time (get_or hs i d).at (get_or hs j d).at (moments i d (omega (arith, h, l))) (moments j d l)
      (sorted_far (λ (x : Height) (y : Height). sooner x.at y.at) height_order hs sorted i j d h l);
}
