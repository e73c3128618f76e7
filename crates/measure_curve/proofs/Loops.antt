-- The steps of the loops: what is made, and what the part that is left makes.
use Rattle.std.specs.Prelude.{◌≡◌, ℕ, ◌+◌, ◌<◌, ◌≤◌, List, ◌∷◌, length, drop, get_or, sum_by}
use Rattle.std.proofs.Common.{arith, refl, sym, ap, ◌∙◌}
use Rattle.std.proofs.lemmas.List.{drop_all}
use Rattle.std.proofs.lemmas.Bool.{eq-eqb, ne_eqb}
use Rattle.std.proofs.lemmas.List.Sums.{sum_by-cons}
use Rattle.upp_limits.specs.Limits.{Numbers, joined, value_alone}
use Rattle.upp_limits.proofs.JoinedNumbers.{joined_assoc, joined_nothing}
use Rattle.net_model.specs.declared.trace.TracePacket.{TracePacket}
use Rattle.packet_windows.proofs.Loops.{left}
use Rattle.measure_curve.specs.Grids.{numbers_of}
use Rattle.measure_curve.specs.Windows.{of_flow}

-- ---- the packets of a flow
pub own_left : (flow : ℕ) (ps : List TracePacket) (i : ℕ) (p : TracePacket) → i < length ps → p ≡ get_or ps i p → p.flow ≡ flow
    → of_flow flow (drop i ps) ≡ p ∷ of_flow flow (drop (i + 1) ps)
own_left flow ps i p h is own = let t = eq-eqb p.flow flow own in rw (left ps i p h is, t) refl

pub other_left : (flow : ℕ) (ps : List TracePacket) (i : ℕ) (p : TracePacket) → i < length ps → p ≡ get_or ps i p → (p.flow ≡ flow → ⊥)
    → of_flow flow (drop i ps) ≡ of_flow flow (drop (i + 1) ps)
other_left flow ps i p h is other = let t = ne_eqb p.flow flow other in rw (left ps i p h is, t) refl

pub more_numbers : (flow : ℕ) (ps : List TracePacket) (i : ℕ) (p : TracePacket) (m whole : Numbers) → i < length ps → p ≡ get_or ps i p → p.flow ≡ flow
    → joined m (numbers_of (of_flow flow (drop i ps))) ≡ whole → joined (joined m (value_alone p.time)) (numbers_of (of_flow flow (drop (i + 1) ps))) ≡ whole
more_numbers flow ps i p m whole h is own k =
    joined_assoc m (value_alone p.time) (numbers_of (of_flow flow (drop (i + 1) ps)))
    ∙ ap (λ qs. joined m (numbers_of qs)) (sym (own_left flow ps i p h is own)) ∙ k

pub same_numbers : (flow : ℕ) (ps : List TracePacket) (i : ℕ) (p : TracePacket) (m whole : Numbers) → i < length ps → p ≡ get_or ps i p → (p.flow ≡ flow → ⊥)
    → joined m (numbers_of (of_flow flow (drop i ps))) ≡ whole → joined m (numbers_of (of_flow flow (drop (i + 1) ps))) ≡ whole
same_numbers flow ps i p m whole h is other k = ap (λ qs. joined m (numbers_of qs)) (sym (other_left flow ps i p h is other)) ∙ k

pub all_numbers : (flow : ℕ) (ps : List TracePacket) (i : ℕ) (m whole : Numbers) → length ps ≤ i → joined m (numbers_of (of_flow flow (drop i ps))) ≡ whole → m ≡ whole
all_numbers flow ps i m whole h k =
    sym (joined_nothing m) ∙ ap (λ qs. joined m (numbers_of (of_flow flow qs))) (sym (drop_all i ps h)) ∙ k

abbrev bits_sum : List TracePacket → ℕ
bits_sum ps = sum_by (λ p. p.bits) ps

pub more_bits : (flow : ℕ) (ps : List TracePacket) (i : ℕ) (p : TracePacket) (bits whole : ℕ) → i < length ps → p ≡ get_or ps i p → p.flow ≡ flow
    → bits + bits_sum (of_flow flow (drop i ps)) ≡ whole → (bits + p.bits) + bits_sum (of_flow flow (drop (i + 1) ps)) ≡ whole
more_bits flow ps i p bits whole h is own k =
    let e = ap bits_sum (own_left flow ps i p h is own) ∙ sum_by-cons (λ (p : TracePacket). p.bits) p (of_flow flow (drop (i + 1) ps)) in
    omega arith

pub same_bits : (flow : ℕ) (ps : List TracePacket) (i : ℕ) (p : TracePacket) (bits whole : ℕ) → i < length ps → p ≡ get_or ps i p → (p.flow ≡ flow → ⊥)
    → bits + bits_sum (of_flow flow (drop i ps)) ≡ whole → bits + bits_sum (of_flow flow (drop (i + 1) ps)) ≡ whole
same_bits flow ps i p bits whole h is other k = ap (λ qs. bits + bits_sum qs) (sym (other_left flow ps i p h is other)) ∙ k

pub all_bits : (flow : ℕ) (ps : List TracePacket) (i bits whole : ℕ) → length ps ≤ i → bits + bits_sum (of_flow flow (drop i ps)) ≡ whole → bits ≡ whole
all_bits flow ps i bits whole h k =
    let e = ap (λ qs. bits + bits_sum (of_flow flow qs)) (drop_all i ps h) in
    omega arith
