-- Where two lines meet.
use Rattle.std.specs.Prelude.{◌≡◌, ◌≢◌, pos}
use Rattle.std.proofs.Common.{arith, sym, ap, ap₂, ◌∙◌}
use Rattle.rational.specs.Rational.{ℚ, ◌+ℚ◌, ◌-ℚ◌, ◌*ℚ◌, ◌/ℚ◌, int}
use Rattle.rational.proofs.Linear.{with2, with5}
use Rattle.rational.proofs.Laws.{div_mul, mul_comm, mul_sub}
use Rattle.upp_curve.specs.declared.affine_segment.line.Line.{Line}
use Rattle.upp_curve.specs.affine_segment.Values.{line_at}

-- slopes that differ have a difference that is not 0
pub apart : (r q d : ℚ) → (r ≡ q → ⊥) → d ≡ r -ℚ q → d ≢ int (pos 0)
apart r q d h e z = h (of (e))
  where
    of : d ≡ r -ℚ q → r ≡ q
    of e = let f : int (pos 0) ≡ r -ℚ q = sym z ∙ e in with2 r q (λ c. omega (arith, c.le, c.lt, c.same))

-- the quotient of the differences is a time at which the lines k + r t and l + q t meet
meeting : (k r l q t : ℚ) → r -ℚ q ≢ int (pos 0) → t ≡ (l -ℚ k) /ℚ (r -ℚ q) → k +ℚ r *ℚ t ≡ l +ℚ q *ℚ t
meeting k r l q t h e =
    let d = r -ℚ q in
    let f : t *ℚ d ≡ l -ℚ k = ap (λ x. x *ℚ d) e ∙ div_mul (l -ℚ k) d h in
    let g : t *ℚ d ≡ t *ℚ r -ℚ t *ℚ q = mul_sub t r q in
    let x = mul_comm t r in
    let y = mul_comm t q in
    plain k l (t *ℚ d) (t *ℚ r) (t *ℚ q) (r *ℚ t) (q *ℚ t) f g x y
  where
    plain : (k l m tr tq rt qt : ℚ) → m ≡ l -ℚ k → m ≡ tr -ℚ tq → tr ≡ rt → tq ≡ qt → k +ℚ rt ≡ l +ℚ qt
    plain k l m tr tq rt qt f g x y =
        let e : tr -ℚ tq ≡ rt -ℚ qt = ap₂ (λ (u v : ℚ). u -ℚ v) x y in
        with5 k l m rt qt (λ c. omega (arith, c.le, c.lt, c.same, f, g, e))

pub lines_meet : (a b : Line) (up down t : ℚ) → (a.slope ≡ b.slope → ⊥) → up ≡ b.icept -ℚ a.icept → down ≡ a.slope -ℚ b.slope → t ≡ up /ℚ down
    → line_at a t ≡ line_at b t
lines_meet a b up down t h e f g =
    meeting a.icept a.slope b.icept b.slope t (λ z. apart a.slope b.slope down h f (f ∙ z)) (g ∙ ap₂ (λ (u v : ℚ). u /ℚ v) e f)
