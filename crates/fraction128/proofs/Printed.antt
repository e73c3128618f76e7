-- A fraction's text from the numbers that it is made of.
use Rattle.std.specs.Prelude.{◌≡◌, ℕ, ◌-◌, ℤ, pos}
use Rattle.std.proofs.Common.{arith, sym, ap₂, ◌∙◌, to_z, of_z, to_z-of_z}
use mir.Syntax.{w128}
use Rattle.rational.specs.Rational.{ℚ}
use Rattle.rational.specs.Ratio.{ratio}
use Rattle.fraction128.specs.Parts.{AreLowest}
use Rattle.fraction128.specs.Text.{text_over, text_of}
use Rattle.fraction128.proofs.Values.{num_fits, parts_of}

pub text_is : (n : ℤ) (d : ℕ) (x : ℚ) → AreLowest n d → ratio n (pos d) ≡ x → text_over (to_z w128 (of_z w128 n)) (d - 1) ≡ text_of x
text_is n d x h e =
    let parts = parts_of n d x h e in
    let pre : d - 1 ≡ x.pre = omega (arith, parts.1) in
    ap₂ (λ (z : ℤ) (k : ℕ). text_over z k) (to_z-of_z (num_fits h) ∙ sym parts.0) pre
