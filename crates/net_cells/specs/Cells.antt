-- Which cells a network has. (Own choice; what they say is of Le Boudec and Thiran, and of Bouillard, Boyer and Le
-- Corronc: total-flow and separate-flow analysis.)
use Rattle.std.specs.Prelude.{ℕ, ◌+◌, ◌==◌, Bool, ◌&&◌, nat_lt, List, [], ◌∷◌}
use Rattle.net_model.specs.Networks.{Net}
use Rattle.net_cells.specs.declared.cell.Cell.{Cell}
use Rattle.net_cells.specs.declared.cell.Kind.{Kind}
use Rattle.net_cells.specs.declared.cell.Kind.TheVariants.{In, Cross, Total, Higher, QueueService, Theta, Residual, QueueDelay, QueueBacklog, HopDelay, ShiftOut, DeconvOut, Out, PathService, Tfa, Sfa, Bound}
use Rattle.net_cells.specs.declared.cell.Scope.{Scope}
use Rattle.net_cells.specs.declared.cell.Scope.TheVariants.{EachHop, EachHopButLast, EachQueue, EachPriorityQueue, EachPath}
use Rattle.net_cells.specs.Numbered.{hops, is_live, levels, queues}

abbrev pub cell_of : Kind → ℕ → ℕ → Cell
cell_of kind a b = record { kind = kind; a = a; b = b }

-- ---- kinds
-- those at a server, in the order in which they are taken there
abbrev pub server_kinds : List Kind
server_kinds =
    In ∷ Cross ∷ Total ∷ Higher ∷ QueueService ∷ Theta ∷ Residual ∷ QueueDelay ∷ QueueBacklog ∷ HopDelay ∷ ShiftOut
    ∷ DeconvOut ∷ Out ∷ []

-- those of a whole path, in the order in which they are taken
abbrev pub path_kinds : List Kind
path_kinds = PathService ∷ Tfa ∷ Sfa ∷ Bound ∷ []

abbrev pub scope_of : Kind → Scope
scope_of In = EachHop
scope_of Cross = EachHop
scope_of Total = EachQueue
scope_of Higher = EachPriorityQueue
scope_of QueueService = EachQueue
scope_of Theta = EachHop
scope_of Residual = EachHop
scope_of QueueDelay = EachQueue
scope_of QueueBacklog = EachQueue
scope_of HopDelay = EachHop
scope_of ShiftOut = EachHopButLast
scope_of DeconvOut = EachHopButLast
scope_of Out = EachHopButLast
scope_of PathService = EachPath
scope_of Tfa = EachPath
scope_of Sfa = EachPath
scope_of Bound = EachPath

-- ---- cells
-- there is such a hop, queue or live flow
abbrev pub is_in_scope : Net → Scope → ℕ → ℕ → Bool
is_in_scope net EachHop a b = nat_lt b (hops net a)
is_in_scope net EachHopButLast a b = nat_lt (b + 1) (hops net a)
is_in_scope net EachQueue a b = nat_lt b (queues net a)
is_in_scope net EachPriorityQueue a b = nat_lt b (levels net a)
is_in_scope net EachPath a b = is_live net a && (b == 0)

-- the network has this cell
abbrev pub has_cell : Net → Cell → Bool
has_cell net c = is_in_scope net (scope_of c.kind) c.a c.b
