-- Pieces of which those are left out that go on with the one before them. Own choice.
use Rattle.std.specs.Prelude.{◌≡◌, ◌⊎◌, ◌-◌, List, [], ◌∷◌, length, slice_get, Some}
use Rattle.upp_curve.specs.declared.affine_segment.line.Piece.{Piece}
use Rattle.upp_curve.specs.Normal.{Continues}

-- q goes on with the last of some pieces
abbrev pub GoesOnLast : List Piece → Piece → Type 0
GoesOnLast kept q = (last : Piece) × (slice_get kept (length kept - 1) ≡ Some last) × Continues last q

-- of the pieces ps after p those of kept are left: each other one goes on with the last that is kept before it
abbrev pub JoinsAfter : Piece → List Piece → List Piece → Type 0
JoinsAfter p [] kept = kept ≡ []
JoinsAfter p (q ∷ ps) kept =
    (Continues p q × JoinsAfter p ps kept) ⊎ ((more : List Piece) × (kept ≡ q ∷ more) × JoinsAfter q ps more)

-- so of any pieces, of which the first is kept
abbrev pub JoinsTo : List Piece → List Piece → Type 0
JoinsTo [] kept = kept ≡ []
JoinsTo (p ∷ ps) kept = (more : List Piece) × (kept ≡ p ∷ more) × JoinsAfter p ps more
