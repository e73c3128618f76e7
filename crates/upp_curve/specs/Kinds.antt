-- The four kinds of curve that a formula gives, each as a curve in normal form.
-- (Le Boudec and Thiran: token bucket, stair and rate-latency functions. The gate is our own.)
use Rattle.std.specs.Prelude.{pos, suc, [], ◌∷◌, Some, cond, ◌||◌}
use Rattle.rational.specs.Rational.{ℚ, ◌+ℚ◌, ◌-ℚ◌, ◌*ℚ◌, ◌/ℚ◌, int, le_q, neg_ℚ}
use Rattle.rational.specs.Whole.{whole_part}
use Rattle.rational.specs.declared.Extended.TheVariants.{Fin}
use Rattle.upp_curve.specs.declared.affine_segment.line.Piece.{Piece}
use Rattle.upp_curve.specs.declared.curve.Tail.TheVariants.{Periodic, Affine}
use Rattle.upp_curve.specs.Curve.{SpecCurve}
use Rattle.min_plus.specs.Functions.{zero_q}

-- a piece at x with a value and a line
abbrev pub piece : ℚ → ℚ → ℚ → ℚ → Piece
piece x v icept slope = record { x = x; at = Fin v; line = Some record { icept = icept; slope = slope } }

-- a piece of one value
abbrev pub flat : ℚ → ℚ → Piece
flat x v = piece x v v zero_q

abbrev pub bucket : ℚ → ℚ → SpecCurve
bucket burst rate = record { pieces = piece zero_q burst burst rate ∷ []; tail = Affine zero_q }

-- a rate above 0 after a latency above 0
abbrev pub after_latency : ℚ → ℚ → SpecCurve
after_latency rate latency = record {
  pieces = flat zero_q zero_q ∷ piece latency zero_q (neg_ℚ (rate *ℚ latency)) rate ∷ [];
  tail = Affine latency;
}

abbrev pub rate_latency : ℚ → ℚ → SpecCurve
rate_latency rate latency = cond (le_q latency zero_q || le_q rate zero_q) (bucket zero_q rate)
    (after_latency rate latency)

-- a stair with steps of one packet above 0: one piece, or two where a packet may come early by no whole number of
-- periods
abbrev pub steps : ℚ → ℚ → ℚ → ℚ → SpecCurve
steps packet period first late = record {
  pieces = cond (le_q late zero_q) (flat zero_q first ∷ [])
      (flat zero_q first ∷ flat (period -ℚ late) (first +ℚ packet) ∷ []);
  tail = Periodic zero_q period packet;
}

abbrev pub stair : ℚ → ℚ → ℚ → SpecCurve
stair packet period jitter =
    let early = whole_part (jitter /ℚ period) in
    cond (le_q packet zero_q) (bucket zero_q zero_q)
    (steps packet period (packet *ℚ int (pos (suc early))) (jitter -ℚ int (pos early) *ℚ period))

-- a gate with a rate above 0 whose slot is shorter than its cycle
abbrev pub gated : ℚ → ℚ → ℚ → SpecCurve
gated rate cycle slot = record {
  pieces = flat zero_q zero_q ∷ piece (cycle -ℚ slot) zero_q (neg_ℚ (rate *ℚ (cycle -ℚ slot))) rate ∷ [];
  tail = Periodic zero_q cycle (rate *ℚ slot);
}

abbrev pub gate : ℚ → ℚ → ℚ → SpecCurve
gate rate cycle slot = cond (le_q rate zero_q || le_q cycle slot) (bucket zero_q rate) (gated rate cycle slot)
