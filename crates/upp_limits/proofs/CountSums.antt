-- Counts that stay at the largest u64.
use Rattle.std.specs.Prelude.{◌≡◌, ℕ, suc, ◌+◌, ◌-◌, ◌<◌, ◌≤◌, ◌^◌, min, List, ◌∷◌, length, drop, sum_by}
use Rattle.std.proofs.Common.{arith, sym, ap, ap₂, ◌∙◌, get_or, drop-cons, drop_of_length-le}
use Rattle.std.proofs.lemmas.List.Sums.{sum_by-cons}
use Rattle.rational.specs.Rational.{ℚ, ◌≤ℚ◌}
use Rattle.rational.specs.Gauge.{cap}
use Rattle.upp_curve.specs.declared.affine_segment.line.Piece.{Piece}
use Rattle.upp_curve.specs.declared.curve.Tail.{Tail}
use Rattle.upp_curve.specs.declared.curve.Tail.TheVariants.{Periodic}
use Rattle.upp_curve.specs.Unrolled.{copies_below}
use Rattle.upp_limits.specs.Spans.{once, number_below}
use Rattle.upp_limits.proofs.PieceCounts.{not_below_is}

pub copies_number : (tail : Tail) (rank period rise end : ℚ) (p : Piece) (copies m : ℕ) → tail ≡ Periodic rank period rise → rank ≤ℚ p.x
    → copies ≡ cap (copies_below period end p) → m ≡ min copies (2 ^ 64 - 1) → m ≡ min (number_below tail end p) (2 ^ 64 - 1)
unfolding cap
copies_number tail rank period rise end p copies m e l c f =
    let n = copies_below period end p in
    let k : number_below tail end p ≡ n = ap (λ t. number_below t end p) e ∙ not_below_is p rank (once end p) n l in
    omega (arith, k, c, f)

-- one piece more
pub sum_next : (f : Piece → ℕ) (ps : List Piece) (i : ℕ) (p : Piece) (total n s m : ℕ) → i < length ps → p ≡ get_or ps i p
    → total ≡ min s (2 ^ 64 - 1) → s + sum_by f (drop i ps) ≡ sum_by f ps → n ≡ min (f p) (2 ^ 64 - 1) → m ≡ min (total + n) (2 ^ 64 - 1)
    → (m ≡ min (s + f p) (2 ^ 64 - 1)) × (s + f p + sum_by f (drop (i + 1) ps) ≡ sum_by f ps)
sum_next f ps i p total n s m l e t w k h =
    let j : suc i ≡ i + 1 = omega arith in
    let d : drop i ps ≡ p ∷ drop (i + 1) ps = drop-cons ps i p l ∙ ap₂ (λ x q. x ∷ drop q ps) (sym e) j in
    let c : sum_by f (drop i ps) ≡ f p + sum_by f (drop (i + 1) ps) = ap (sum_by f) d ∙ sum_by-cons f p (drop (i + 1) ps) in
    (omega (arith, t, k, h), omega (arith, w, c))

pub sum_done : (f : Piece → ℕ) (ps : List Piece) (i total s : ℕ) → length ps ≤ i → total ≡ min s (2 ^ 64 - 1) → s + sum_by f (drop i ps) ≡ sum_by f ps
    → total ≡ min (sum_by f ps) (2 ^ 64 - 1)
sum_done f ps i total s l t w =
    let c : sum_by f (drop i ps) ≡ 0 = ap (sum_by f) (drop_of_length-le ps l) in
    omega (arith, t, w, c)
