-- What the fields of a `Frac` say, and how its value gives them back. The law that its `Model` owes stands here, since it is of those fields.
use Rattle.std.specs.Prelude.{◌≡◌, ℕ, zero, suc, ℤ, pos}
use Rattle.std.proofs.Common.{ap, ap₂, sym, ◌∙◌, arith, refl}
use Rattle.rational.specs.Rational.{ℚ}
use Rattle.rational.specs.Fractions.{frac_self, make}
use Rattle.rational.specs.Ratio.{ratio}
use Rattle.fraction128.specs.Parts.{AreLowest}
use Rattle.fraction128.specs.declared.fraction.Frac.TheInside.{Inside}

-- the fields are in lowest terms
abbrev pub IsLowest : Inside → Type 0
IsLowest a = AreLowest a.num a.den

-- the rational that they stand for
abbrev pub value_of : Inside → ℚ
value_of a = ratio a.num (pos a.den)

-- and back
abbrev pub fields_of : ℚ → Inside
fields_of x = record { num = x.num; den = suc x.pre }

back : (n : ℤ) (d : ℕ) → AreLowest n d → (a : Inside) → a.num ≡ n → a.den ≡ d → fields_of (ratio n (pos d)) ≡ a
back n zero h a p q = absurd (omega (arith, h))
back n (suc d) h a p q =
    let x : ℚ = make n d h.lowest in
    let fields = λ (m : ℤ) (k : ℕ). let r : Inside = record { num = m; den = k } in r in
    ap (λ y. fields_of y) (sym (frac_self x)) ∙ ap₂ fields (sym p) (sym q)

pub fields-value : (a : Inside) → IsLowest a → fields_of (value_of a) ≡ a
fields-value a h = back a.num a.den h a refl refl
