-- In its own window a curve has as many unrolled pieces as it has pieces, or fewer.
use Rattle.std.specs.Prelude.{◌≡◌, ℕ, ◌+◌, ◌≤◌, pos, List, [], ◌∷◌, length, sum_by, cond}
use Rattle.std.proofs.Common.{arith, sym, refl, subst, inl, inr}
use Rattle.std.proofs.lemmas.List.Sums.{sum_by-cons}
use Rattle.rational.specs.Rational.{ℚ, ◌+ℚ◌, ◌-ℚ◌, ◌*ℚ◌, ◌/ℚ◌, ◌≤ℚ◌, ◌<ℚ◌, int}
use Rattle.rational.proofs.Linear.{with3}
use Rattle.rational.proofs.Laws.{one_mul, le_or_lt}
use Rattle.rational.proofs.Quotients.{div_le}
use Rattle.rational.proofs.Over.{lt_q_out}
use Rattle.rational.proofs.MinMax.{lt_q_not}
use Rattle.upp_curve.specs.declared.affine_segment.line.Piece.{Piece}
use Rattle.upp_curve.specs.declared.curve.Tail.TheVariants.{Periodic, Affine}
use Rattle.upp_curve.specs.Curve.{SpecCurve}
use Rattle.min_plus.specs.Functions.{zero_q}
use Rattle.upp_curve.specs.Steady.{steady}
use Rattle.upp_limits.specs.Periods.{own_period}
use Rattle.upp_curve.specs.affine_segment.Pieces.{StartsAtZero}
use Rattle.upp_curve.specs.Unrolled.{copies_below}
use Rattle.upp_limits.specs.Spans.{once, number_below}
use Rattle.upp_limits.specs.Limits.{own_end, own_tally}
use Rattle.upp_limits.proofs.PieceCounts.{count_is_sum}
use Rattle.upp_limits.proofs.CoveredCounts.{once_few}
use Rattle.upp_limits.proofs.Rounding.{whole_up_most}

sum_most : (f : Piece → ℕ) (ps : List Piece) → ((p : Piece) → f p ≤ 1) → sum_by f ps ≤ length ps
sum_most f [] h = omega arith
sum_most f (p ∷ ps) h =
    let first = h p in
    let rest = sum_most f ps h in
    let both : sum_by f (p ∷ ps) ≡ f p + sum_by f ps = sum_by-cons f p ps in
    omega (arith, first, rest, both)

pub affine_few : (ps : List Piece) (rank : ℚ) → StartsAtZero ps → own_tally record { pieces = ps; tail = Affine rank } ≤ length ps
affine_few ps rank h =
    let c : SpecCurve = record { pieces = ps; tail = Affine rank } in
    subst (λ n. n ≤ length ps) (sym (count_is_sum c (own_end c) h)) (sum_most (number_below (Affine rank) (own_end c)) ps (once_few (own_end c)))

-- of a piece one copy starts before the end of the first period
copy_most : (R d c end : ℚ) (p : Piece) → zero_q <ℚ d → end ≡ R +ℚ d → number_below (Periodic R d c) end p ≤ 1
copy_most R d c end p some e = elim (le_or_lt R p.x) [
  | inl past ↦
      let x = p.x in
      let one : int (pos 1) *ℚ d ≡ d = one_mul d in
      let l : end -ℚ p.x ≤ℚ int (pos 1) *ℚ d = subst (λ z. end -ℚ p.x ≤ℚ z) (sym one) (under x past) in
      subst (λ b. cond b (once end p) (copies_below d end p) ≤ 1) (sym (lt_q_not p.x R past))
      (whole_up_most ((end -ℚ p.x) /ℚ d) 1 ((div_le (end -ℚ p.x) d (int (pos 1)) some).1 l))
  | inr early ↦ subst (λ b. cond b (once end p) (copies_below d end p) ≤ 1) (sym (lt_q_out p.x R early)) (once_few end p)
]
  where
    under : (x : ℚ) → R ≤ℚ x → end -ℚ x ≤ℚ d
    under x h = subst (λ z. z -ℚ x ≤ℚ d) (sym e) (with3 x R d (λ c. omega (arith, c.le, c.lt, c.same)))

pub end_is : (ps : List Piece) (R d c : ℚ) → own_end record { pieces = ps; tail = Periodic R d c } ≡ R +ℚ d
unfolding own_end steady own_period
end_is ps R d c = refl

pub periodic_few : (ps : List Piece) (R d c : ℚ) → zero_q <ℚ d → StartsAtZero ps
    → own_tally record { pieces = ps; tail = Periodic R d c } ≤ length ps
periodic_few ps R d c some h =
    let k : SpecCurve = record { pieces = ps; tail = Periodic R d c } in
    subst (λ n. n ≤ length ps) (sym (count_is_sum k (own_end k) h))
    (sum_most (number_below (Periodic R d c) (own_end k)) ps (λ p. copy_most R d c (own_end k) p some (end_is ps R d c)))
