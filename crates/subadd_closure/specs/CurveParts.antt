-- The parts of a curve whose closures make its closure: its points and open segments, those of the period after the
-- rank with their copies. (Bouillard, Boyer and Le Corronc: decomposition into elementary functions.)
use Rattle.std.specs.Prelude.{cond, List, map, Option, Some, None}
use Rattle.rational.specs.Rational.{ℚ, ◌+ℚ◌, le_q}
use Rattle.rational.specs.Extended.{Ext}
use Rattle.rational.specs.declared.Extended.TheVariants.{Fin, Inf}
use Rattle.upp_curve.specs.declared.affine_segment.element.Element.{Element}
use Rattle.upp_curve.specs.affine_segment.Elements.{start_of, element_value}
use Rattle.upp_curve.specs.declared.curve.Tail.{Tail}
use Rattle.upp_curve.specs.declared.curve.Tail.TheVariants.{Periodic, Affine, Infinite}
use Rattle.upp_curve.specs.Curve.{SpecCurve, repeated}
use Rattle.element_envelope.specs.PieceElements.{elements_of}
use Rattle.subadd_closure.specs.declared.part.Copies.{Copies}
use Rattle.subadd_closure.specs.declared.part.Part.{Part}

-- ---- of a curve
-- a periodic tail's pieces are of one period from the rank on; the last piece of another tail goes on without end
abbrev pub pieces_end : Tail → Ext
pieces_end (Periodic rank period rise) = Fin (rank +ℚ period)
pieces_end (Affine rank) = Inf
pieces_end (Infinite rank) = Inf

-- an element has copies where the tail is periodic and it starts at the rank or later
abbrev pub copies_of : Tail → Element → Option Copies
copies_of (Periodic rank period rise) e =
    cond (le_q rank (start_of e)) (Some record { period = period; rise = rise }) None
copies_of (Affine rank) e = None
copies_of (Infinite rank) e = None

abbrev pub part_of : Tail → Element → Part
part_of tail e = record { element = e; copies = copies_of tail e }

-- by their starts, a point before the segment after it
abbrev pub parts_of : SpecCurve → List Part
parts_of c = map (part_of c.tail) (elements_of c.pieces (pieces_end c.tail))

-- ---- read at any time
abbrev pub with_copies : Option Copies → ℚ → (ℚ → Ext) → ℚ → Ext
with_copies None start f t = f t
with_copies (Some k) start f t = repeated f start k.period k.rise t

-- the value of the element or of its copy whose time t is, and infinity elsewhere
abbrev pub part_value : Part → ℚ → Ext
part_value p t = with_copies p.copies (start_of p.element) (element_value p.element) t
