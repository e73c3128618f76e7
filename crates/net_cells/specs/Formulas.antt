-- What a cell is made of: cells, curves and numbers of the network, and operators on them, in the order in which they
-- are made. (Own choice of the form; the operators are those of Le Boudec and Thiran.)
use Rattle.std.specs.Prelude.{ℕ, ◌+◌, Bool, true, false, List, [], ◌∷◌, ◌++◌, if◌then◌else◌}
use Rattle.rational.specs.Rational.{ℚ}
use Rattle.upp_limits.specs.declared.op_kind.OpKind.{OpKind}
use Rattle.upp_curve.specs.Curve.{SpecCurve}
use Rattle.net_cells.specs.declared.cell.Cell.{Cell}

pub data Formula : Type 0 where
  -- ---- no operator
  -- the value of a cell
  value_of : Cell → Formula
  -- a curve of the network
  given : SpecCurve → Formula
  -- the sum over no curve
  empty_sum : Formula
  -- ---- curves
  -- what an operator makes of two curves, or of one
  made : OpKind → Formula → Formula → Formula
  made_of : OpKind → Formula → Formula
  -- a curve later by a number
  moved : Formula → Formula → Formula
  -- a curve, cut by the link over which its flows come: by the server, the bits of their longest packet, and that
  -- server's rate
  cut : Formula → (server bits : ℕ) → ℚ → Formula
  -- a part of a sum and those after it, and the end of them: all are made before they are added up, in this order
  part : Formula → Formula → Formula
  no_part : Formula
  -- what is left of a service when the others' curve, later by a number, is served first
  leftover : (service others theta : Formula) → Formula
  -- the service of a priority queue: of the server's curve, the higher queues' curve and the lower's longest packet
  priority : SpecCurve → Formula → (lower : ℕ) → Formula
  -- the service of a queue of a deficit round robin server: of its curve, and of its queues' quanta and longest packets
  deficit : SpecCurve → (quanta longest : List ℕ) → (queue : ℕ) → Formula
  -- ---- numbers
  -- the deviations of two curves
  horizontal : Formula → Formula → Formula
  vertical : Formula → Formula → Formula
  -- the smaller of two numbers
  smaller : Formula → Formula → Formula
  -- the sum of cells and links; of a number and links
  along : List Cell → List ℚ → Formula
  delayed : Formula → List ℚ → Formula

-- a part comes after another
abbrev pub is_more : Formula → Bool
is_more (part F G) = true
is_more _ = false

-- its cells
abbrev pub leaves : Formula → List Cell
leaves (value_of c) = c ∷ []
leaves (given f) = []
leaves empty_sum = []
leaves (made op F G) = leaves F ++ leaves G
leaves (made_of op F) = leaves F
leaves (moved F T) = leaves F ++ leaves T
leaves (cut F server bits rate) = leaves F
leaves (part F G) = leaves F ++ leaves G
leaves no_part = []
leaves (leftover F G T) = leaves F ++ (leaves G ++ leaves T)
leaves (priority f F lower) = leaves F
leaves (deficit f quanta longest queue) = []
leaves (horizontal F G) = leaves F ++ leaves G
leaves (vertical F G) = leaves F ++ leaves G
leaves (smaller F G) = leaves F ++ leaves G
leaves (along cells links) = cells
leaves (delayed F links) = leaves F

-- how many operators on curves it has
abbrev pub operators : Formula → ℕ
operators (value_of c) = 0
operators (given f) = 0
operators empty_sum = 0
operators (made op F G) = operators F + operators G + 1
operators (made_of op F) = operators F + 1
operators (moved F T) = operators F + operators T + 1
operators (cut F server bits rate) = operators F + 1
operators (part F G) = operators F + operators G + (if is_more G then 1 else 0)
operators no_part = 0
operators (leftover F G T) = operators F + operators G + operators T + 1
operators (priority f F lower) = operators F + 3
operators (deficit f quanta longest queue) = 2
operators (horizontal F G) = operators F + operators G + 1
operators (vertical F G) = operators F + operators G + 1
operators (smaller F G) = operators F + operators G
operators (along cells links) = 0
operators (delayed F links) = operators F
