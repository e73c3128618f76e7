-- A function that is affine but at some times, and below 0 somewhere, is below 0 at one of those times or at an end.
use Rattle.std.specs.Prelude.{◌≡◌, ◌⊎◌, pos, List, [], ◌∷◌}
use Rattle.std.proofs.Common.{arith, refl, sym, subst, inl, inr}
use Rattle.rational.specs.Rational.{ℚ, int, neg_ℚ, ◌-ℚ◌, ◌*ℚ◌, ◌≤ℚ◌, ◌<ℚ◌}
use Rattle.rational.proofs.Laws.{le_refl, le_trans, le_or_lt, le_of_lt, mul_le_mul, mul_nonneg, neg_mul}
use Rattle.rational.proofs.Linear.{with1, with2, with3, with4, with5}
use Rattle.flow_watch.specs.watch_laws.Affine.{IsLineOn, IsAffineOff, EachTime}

-- ---- on one line
-- a line is somewhere between at least as low at an end
slide : (g : ℚ → ℚ) (r x y z : ℚ) → IsLineOn g r x y → x ≤ℚ z → z ≤ℚ y → (g x ≤ℚ g z) ⊎ (g y ≤ℚ g z)
slide g r x y z f h k =
    let at_z = f z h k in
    let at_y = f y (le_trans h k) (le_refl y) in
    let to_z : int (pos 0) ≤ℚ z -ℚ x = with2 x z (λ c. omega (arith, c.le, c.lt, c.same)) in
    let on : z -ℚ x ≤ℚ y -ℚ x = with3 x y z (λ c. omega (arith, c.le, c.lt, c.same)) in
    elim (le_or_lt (int (pos 0)) r) [
      | inl p ↦
          let m = mul_nonneg p to_z in
          inl (with3 (g x) (g z) (r *ℚ (z -ℚ x)) (λ c. omega (arith, c.le, c.lt, c.same)))
      | inr p ↦
          let q : int (pos 0) ≤ℚ int (pos 0) -ℚ r = with1 r (λ c. omega (arith, c.le, c.lt, c.same)) in
          let m = falls r (z -ℚ x) (y -ℚ x) (le_of_lt p) on in
          inr (with5 (g x) (g y) (g z) (r *ℚ (z -ℚ x)) (r *ℚ (y -ℚ x)) (λ c. omega (arith, c.le, c.lt, c.same)))
    ]
  where
    falls : (r s t : ℚ) → r ≤ℚ int (pos 0) → s ≤ℚ t → r *ℚ t ≤ℚ r *ℚ s
    falls r s t h k =
        let up : int (pos 0) ≤ℚ neg_ℚ r = with1 r (λ c. omega (arith, c.le, c.lt, c.same)) in
        let m = mul_le_mul (neg_ℚ r) up k in
        let e = neg_mul r s in
        let f = neg_mul r t in
        with4 (neg_ℚ r *ℚ s) (neg_ℚ r *ℚ t) (r *ℚ s) (r *ℚ t) (λ c. omega (arith, c.le, c.lt, c.same))

-- ---- on several lines
pub record IsLow (g : ℚ → ℚ) (P : ℚ → Type 0) (lo hi z : ℚ) : Type 0 where
  pub from : lo ≤ℚ z
  pub to : z ≤ℚ hi
  pub low : g z <ℚ int (pos 0)
  pub of : z ≡ lo ⊎ z ≡ hi ⊎ P z

pub low_somewhere : (g : ℚ → ℚ) (P : ℚ → Type 0) (ls : List ℚ) (lo hi z : ℚ) → IsAffineOff g ls lo hi → EachTime P ls
    → lo ≤ℚ z → z ≤ℚ hi → g z <ℚ int (pos 0) → (y : ℚ) × IsLow g P lo hi y
low_somewhere g P [] lo hi z f p h k low =
    let (r, is) = f lo hi (le_refl lo) (le_trans h k) (le_refl hi) tt in
    elim (slide g r lo hi z is h k) [
      | inl m ↦ (lo, record { from = le_refl lo; to = le_trans h k; low = with2 (g lo) (g z) (λ c. omega (arith, c.le, c.lt, c.same)); of = inl refl })
      | inr m ↦ (hi, record { from = le_trans h k; to = le_refl hi; low = with2 (g hi) (g z) (λ c. omega (arith, c.le, c.lt, c.same)); of = inr (inl refl) })
    ]
low_somewhere g P (l ∷ ls) lo hi z f p h k low = elim (le_or_lt l lo) [
  | inl m ↦ low_somewhere g P ls lo hi z (λ x y i j n none. f x y i j n (inl (le_trans m i), none)) p.1 h k low
  | inr m ↦ elim (le_or_lt hi l) [
    | inl n ↦ low_somewhere g P ls lo hi z (λ x y i j o none. f x y i j o (inr (le_trans o n), none)) p.1 h k low
    | inr n ↦ elim (le_or_lt z l) [
      | inl o ↦
          let (y, is) = low_somewhere g P ls lo l z (λ x y i j q none. f x y i j (le_trans q (le_of_lt n)) (inr q, none)) p.1 h o low in
          (y, record { from = is.from; to = le_trans is.to (le_of_lt n); low = is.low; of = lower y is.of })
      | inr o ↦
          let (y, is) = low_somewhere g P ls l hi z (λ x y i j q none. f x y (le_trans (le_of_lt m) i) j q (inl i, none)) p.1 (le_of_lt o) k low in
          (y, record { from = le_trans (le_of_lt m) is.from; to = is.to; low = is.low; of = upper y is.of })
    ]
  ]
]
  where
    lower : (y : ℚ) → y ≡ lo ⊎ y ≡ l ⊎ P y → y ≡ lo ⊎ y ≡ hi ⊎ P y
    lower y c = elim c [ inl e ↦ inl e | inr d ↦ elim d [ inl e ↦ inr (inr (subst P (sym e) p.0)) | inr q ↦ inr (inr q) ] ]

    upper : (y : ℚ) → y ≡ l ⊎ y ≡ hi ⊎ P y → y ≡ lo ⊎ y ≡ hi ⊎ P y
    upper y c = elim c [ inl e ↦ inr (inr (subst P (sym e) p.0)) | inr d ↦ elim d [ inl e ↦ inr (inl e) | inr q ↦ inr (inr q) ] ]
