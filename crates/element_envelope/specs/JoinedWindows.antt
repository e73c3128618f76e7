-- What two elements make as a window: pieces from 0 on, infinite where no part is. Own choice.
use Rattle.std.specs.Prelude.{◌≡◌, pos, cond, List, [], ◌∷◌, ◌++◌, Option, Some, None}
use Rattle.rational.specs.Rational.{ℚ, ◌≤ℚ◌, int, le_q}
use Rattle.rational.specs.Extended.{Ext}
use Rattle.rational.specs.declared.Extended.TheVariants.{Fin, Inf}
use Rattle.upp_curve.specs.declared.affine_segment.line.Piece.{Piece}
use Rattle.upp_curve.specs.declared.affine_segment.element.Element.{Element}
use Rattle.upp_curve.specs.declared.affine_segment.element.Element.TheVariants.{Point, Open}
use Rattle.upp_curve.specs.declared.affine_segment.element.Joined.{Joined}
use Rattle.upp_curve.specs.affine_segment.Elements.{start_of, joined_value}
use Rattle.upp_curve.specs.affine_segment.Reading.{read, nothing_at}
use Rattle.upp_curve.specs.affine_segment.Pieces.{StartsAtZero}

-- from an end on
abbrev pub after_end : Ext → List Piece
after_end Inf = []
after_end (Fin e) = nothing_at e ∷ []

-- a part alone
abbrev pub part_pieces : Element → List Piece
part_pieces (Point x v) = record { x = x; at = Fin v; line = None } ∷ []
part_pieces (Open from to line) = record { x = from; at = Inf; line = Some line } ∷ after_end to

-- the point at the end of a first part, and the part after it
abbrev pub turn_pieces : Element → Element → List Piece
turn_pieces (Point x v) (Open y end next) = record { x = x; at = Fin v; line = Some next } ∷ after_end end
turn_pieces (Point x v) (Point y u) = []
turn_pieces (Open y end next) second = []

-- where a first part starts
abbrev pub first_pieces : Element → List Piece
first_pieces (Point x v) = record { x = x; at = Fin v; line = None } ∷ []
first_pieces (Open from to line) = record { x = from; at = Inf; line = Some line } ∷ []

-- the parts, one after another
abbrev pub joined_list : Element → Option Element → Option Element → List Piece
joined_list first None second = part_pieces first
joined_list first (Some join) None = part_pieces first
joined_list first (Some join) (Some second) = first_pieces first ++ turn_pieces join second

-- infinity from 0 on, up to a later start
abbrev pub lead_of : ℚ → List Piece
lead_of start = cond (le_q start (int (pos 0))) [] (nothing_at (int (pos 0)) ∷ [])

abbrev pub window_of : Joined → List Piece
window_of j = lead_of (start_of j.first) ++ joined_list j.first j.join j.second

-- pieces from 0 on that read as the parts at each time from 0 on
pub record IsWindowOf (j : Joined) (ps : List Piece) : Type 0 where
  pub pieces : ps ≡ window_of j
  pub starts : StartsAtZero ps
  pub reads : (t : ℚ) → int (pos 0) ≤ℚ t → read ps t ≡ joined_value j t
