-- What the count of a span's copies, kept up to the largest u128, says of its numbers.
use Rattle.std.specs.Prelude.{◌≡◌, ◌≢◌, ℕ, ◌-◌, ◌<◌, ◌^◌, cond, Option, Some, None, IfSome}
use Rattle.std.proofs.Common.{arith, sym, ap, ◌∙◌, subst}
use Rattle.rational.specs.Rational.{ℚ, ◌≤ℚ◌, ◌<ℚ◌}
use Rattle.rational.specs.Gauge.{cap}
use Rattle.rational.proofs.Over.{lt_q_out}
use Rattle.rational.proofs.MinMax.{lt_q_not}
use Rattle.upp_curve.specs.declared.curve.Tail.{Tail}
use Rattle.upp_curve.specs.declared.curve.Tail.TheVariants.{Periodic}
use Rattle.upp_curve.specs.Unrolled.{copies_below}
use Rattle.upp_limits.specs.Spans.{Span}
use Rattle.upp_limits.specs.Seen.{CopiesFit, Knows}
use Rattle.upp_limits.specs.ClosedForm.{copies_numbers, once_numbers, closed_span}

pub if_some_map : {A : Type 0} (o : Option A) (P Q : A → Type 0) → ((a : A) → P a → Q a) → IfSome o P → IfSome o Q
if_some_map None P Q f h = h
if_some_map (Some a) P Q f h = f a h

pub cap_exact : (m n : ℕ) → m ≡ cap n → m ≢ 2 ^ 128 - 1 → m ≡ n
unfolding cap
cap_exact m n e h = omega (arith, e, h)

pub cap_many : (m n : ℕ) → m ≡ cap n → m ≡ 2 ^ 128 - 1 → n < 2 ^ 127 → ⊥
unfolding cap
cap_many m n e f h = omega (arith, e, f, h)

-- of so many copies a gauge can't be small
pub too_many_known : (tail : Tail) (rank period rise end : ℚ) (s : Span) (copies : ℕ) → tail ≡ Periodic rank period rise → rank ≤ℚ s.piece.x
    → copies ≡ cap (copies_below period end s.piece) → copies ≡ 2 ^ 128 - 1 → ¬ (Knows tail end s)
too_many_known tail rank period rise end s copies e l c m k =
    let known : Knows (Periodic rank period rise) end s = subst (λ t. Knows t end s) e k in
    cap_many copies (copies_below period end s.piece) c m (known.1 l).few

pub copies_value : (tail : Tail) (rank period rise end : ℚ) (s : Span) (copies : ℕ) → tail ≡ Periodic rank period rise → rank ≤ℚ s.piece.x
    → copies ≡ cap (copies_below period end s.piece) → copies ≢ 2 ^ 128 - 1 → copies_numbers rise s copies ≡ closed_span tail end s
copies_value tail rank period rise end s copies e l c m =
    let n = copies_below period end s.piece in
    let same : copies ≡ n = cap_exact copies n c m in
    ap (copies_numbers rise s) same
    ∙ sym (ap (λ b. cond b (once_numbers end s) (copies_numbers rise s n)) (lt_q_not s.piece.x rank l))
    ∙ ap (λ t. closed_span t end s) (sym e)

pub copies_known : (tail : Tail) (rank period rise end : ℚ) (s : Span) (copies : ℕ) → tail ≡ Periodic rank period rise → rank ≤ℚ s.piece.x
    → copies ≡ cap (copies_below period end s.piece) → copies ≢ 2 ^ 128 - 1 → Knows tail end s → CopiesFit s copies rise
copies_known tail rank period rise end s copies e l c m k =
    let known : Knows (Periodic rank period rise) end s = subst (λ t. Knows t end s) e k in
    subst (λ n. CopiesFit s n rise) (sym (cap_exact copies (copies_below period end s.piece) c m)) (known.1 l)

pub early_value : (tail : Tail) (rank period rise end : ℚ) (s : Span) → tail ≡ Periodic rank period rise → s.piece.x <ℚ rank → once_numbers end s ≡ closed_span tail end s
early_value tail rank period rise end s e l =
    sym (ap (λ b. cond b (once_numbers end s) (copies_numbers rise s (copies_below period end s.piece))) (lt_q_out s.piece.x rank l))
    ∙ ap (λ t. closed_span t end s) (sym e)
