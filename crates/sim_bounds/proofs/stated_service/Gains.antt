-- Work that grows at least as a rate times an open time, in windows that are put together.
use Rattle.std.proofs.Common.{◌≡◌, List, subst, arith, inl, inr}
use Rattle.rational.specs.Rational.{ℚ, ◌+ℚ◌, ◌*ℚ◌, ◌≤ℚ◌, ◌<ℚ◌}
use Rattle.rational.proofs.Linear.{with6}
use Rattle.rational.proofs.Laws.{le_refl, le_of_lt, le_lt_trans, le_or_lt}
use Rattle.run_laws.specs.Cards.{ServerStep, all}
use Rattle.run_laws.specs.Counts.{arrived, worked}

-- from x to y the work W grows by no less than R times the growth of O
abbrev pub Gains : ℚ → (ℚ → ℚ) → (ℚ → ℚ) → ℚ → ℚ → Type 0
Gains R O W x y = R *ℚ O y +ℚ W x ≤ℚ R *ℚ O x +ℚ W y

-- all through the window there is something to work on, where β was there before the steps V
abbrev pub IsBusyWith : ℚ → List ServerStep → ℚ → ℚ → Type 0
IsBusyWith β V x y = (z : ℚ) → x <ℚ z → z <ℚ y → worked all V z <ℚ β +ℚ arrived all V z

pub gains_none : (R : ℚ) (O W : ℚ → ℚ) (x y : ℚ) → x ≡ y → Gains R O W x y
gains_none R O W x y e = subst (λ z. Gains R O W x z) e (le_refl (R *ℚ O x +ℚ W x))

pub gains_join : (R : ℚ) (O W : ℚ → ℚ) (x t y : ℚ) → Gains R O W x t → Gains R O W t y → Gains R O W x y
gains_join R O W x t y h k = with6 (R *ℚ O x) (R *ℚ O t) (R *ℚ O y) (W x) (W t) (W y) (λ c. omega (arith, c.le, c.lt, c.same))

-- in windows before t, and in those after it
pub glue : (R : ℚ) (O W : ℚ → ℚ) (β : ℚ) (V : List ServerStep) (from t : ℚ)
    → ((x y : ℚ) → from ≤ℚ x → x ≤ℚ y → y ≤ℚ t → IsBusyWith β V x y → Gains R O W x y)
    → ((x y : ℚ) → t ≤ℚ x → x ≤ℚ y → IsBusyWith β V x y → Gains R O W x y)
    → (x y : ℚ) → from ≤ℚ x → x ≤ℚ y → IsBusyWith β V x y → Gains R O W x y
glue R O W β V from t low high x y h l b = elim (le_or_lt y t) [
  | inl early ↦ low x y h l early b
  | inr past ↦ elim (le_or_lt t x) [
    | inl late ↦ high x y late l b
    | inr before ↦
        gains_join R O W x t y
        (low x t h (le_of_lt before) (le_refl t) (λ z p q. b z p (le_lt_trans (le_of_lt q) past)))
        (high t y (le_refl t) (le_of_lt past) (λ z p q. b z (le_lt_trans (le_of_lt before) p) q))
  ]
]

-- where no open time is added, any work will do
pub gains_flat : (R : ℚ) (O W : ℚ → ℚ) (x y : ℚ) → R *ℚ O y ≤ℚ R *ℚ O x → W x ≤ℚ W y → Gains R O W x y
gains_flat R O W x y h k = Rattle.rational.proofs.Linear.with4 (R *ℚ O x) (R *ℚ O y) (W x) (W y) (λ c. omega (arith, c.le, c.lt, c.same))
