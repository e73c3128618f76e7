-- Whether a curve in any form rises, and whether one that rises is continuous, from its pieces.
use Rattle.std.specs.Prelude.{List, Some, None}
use Rattle.std.proofs.Common.{refl}
use Rattle.upp_curve.specs.declared.affine_segment.line.Piece.{Piece}
use Rattle.upp_curve.specs.declared.curve.Tail.{Tail}
use Rattle.upp_curve.specs.declared.curve.Tail.TheVariants.{Periodic, Affine, Infinite}
use Rattle.upp_curve.specs.affine_segment.Reading.{read}
use Rattle.upp_curve.specs.Curve.{value_at}
use Rattle.min_plus.specs.Functions.{IsRising}
use Rattle.upp_curve.specs.Normal.{IsRaw}
use Rattle.upp_curve.specs.Shapes.{PiecesRise}
use Rattle.min_plus.specs.Continuity.{IsContinuous}
use Rattle.upp_curve.specs.JoinedPieces.{PiecesJoin}
use Rattle.upp_curve.proofs.RisingCurves.{GoesOn, plain_rises, plain_pieces, periodic_rises, periodic_pieces}
use Rattle.upp_curve.proofs.Joins.{plain_continuous, periodic_continuous, plain_joins, periodic_joins}
use Rattle.net_draft.specs.Refusals.{Next, end_of}

-- ---- what comes next, as a time and a value
abbrev pub Rises : Next → List Piece → Type 0
Rises None ps = PiecesRise None ps
Rises (Some e) ps = PiecesRise (Some record { x = e.0; at = e.1 }) ps

abbrev pub Joins : Next → List Piece → Type 0
Joins None ps = PiecesJoin None ps
Joins (Some e) ps = PiecesJoin (Some record { x = e.0; at = e.1 }) ps

-- ---- by the tail
pub rises_raw : (ps : List Piece) (tail : Tail) → IsRaw record { pieces = ps; tail = tail } → GoesOn tail → Rises (end_of ps tail) ps → IsRising (value_at record { pieces = ps; tail = tail })
unfolding value_at
rises_raw ps (Periodic r d c) N on h = periodic_rises ps r d c N.starts N.tail h
rises_raw ps (Affine r) N on h = plain_rises ps (read ps) N.starts (λ t l. refl) h
rises_raw ps (Infinite r) N on h = absurd on

pub pieces_raw : (ps : List Piece) (tail : Tail) → IsRaw record { pieces = ps; tail = tail } → GoesOn tail → IsRising (value_at record { pieces = ps; tail = tail }) → Rises (end_of ps tail) ps
unfolding value_at
pieces_raw ps (Periodic r d c) N on h = periodic_pieces ps r d c N.starts N.tail h
pieces_raw ps (Affine r) N on h = plain_pieces ps (read ps) N.starts (λ t l. refl) h
pieces_raw ps (Infinite r) N on h = absurd on

pub continuous_raw : (ps : List Piece) (tail : Tail) → IsRaw record { pieces = ps; tail = tail } → GoesOn tail → IsRising (value_at record { pieces = ps; tail = tail })
    → Joins (end_of ps tail) ps → IsContinuous (value_at record { pieces = ps; tail = tail })
unfolding value_at
continuous_raw ps (Periodic r d c) N on rise h = periodic_continuous ps r d c N.starts N.tail h rise
continuous_raw ps (Affine r) N on rise h = plain_continuous ps (read ps) N.starts (λ t l. refl) h rise
continuous_raw ps (Infinite r) N on rise h = absurd on

pub joins_raw : (ps : List Piece) (tail : Tail) → IsRaw record { pieces = ps; tail = tail } → GoesOn tail → Rises (end_of ps tail) ps
    → IsContinuous (value_at record { pieces = ps; tail = tail }) → Joins (end_of ps tail) ps
unfolding value_at
joins_raw ps (Periodic r d c) N on rise h = periodic_joins ps r d c N.starts N.tail rise h
joins_raw ps (Affine r) N on rise h = plain_joins ps (read ps) N.starts (λ t l. refl) rise h
joins_raw ps (Infinite r) N on rise h = absurd on
