-- What each cell of a network is made of. (Le Boudec and Thiran; Bouillard, Boyer and Le Corronc: total-flow and
-- separate-flow analysis. That the smaller of two delays, the lesser of two output curves and the smaller of the two
-- bounds are taken, and the others' horizontal deviation from the service as theta, is our own choice.)
use Rattle.std.specs.Prelude.{ℕ, zero, suc, ◌-◌, Bool, true, false, ◌==◌, List, [], ◌∷◌, map}
use Rattle.std.specs.List.{range_with_len}
use Rattle.rational.specs.Rational.{ℚ}
use Rattle.upp_limits.specs.declared.op_kind.OpKind.TheVariants.{Sum, Min, PosMinus, Convolve, Deconvolve}
use Rattle.upp_curve.specs.Curve.{SpecCurve}
use Rattle.residuals.specs.left.Left.{Left, all, above, share}
use Rattle.run_laws.specs.Cards.{whole}
use Rattle.run_laws.specs.Servers.{Discipline}
use Rattle.net_model.specs.Networks.{Net}
use Rattle.net_cells.specs.declared.cell.Cell.{Cell}
use Rattle.net_cells.specs.declared.cell.Kind.{Kind}
use Rattle.net_cells.specs.declared.cell.Kind.TheVariants.{In, Cross, Total, Higher, QueueService, Theta, Residual, QueueDelay, QueueBacklog, HopDelay, ShiftOut, DeconvOut, Out, PathService, Tfa, Sfa, Bound}
use Rattle.net_cells.specs.Numbered.{path, packet, arrival, hops, server_of_hop, queue_of_hop, service, rate, link, discipline}
use Rattle.net_cells.specs.Visits.{Visit, visits_in, others, longest_of, longest}
use Rattle.net_cells.specs.QueueParts.{in_part, part_numbers}
use Rattle.net_cells.specs.Cells.{cell_of}
use Rattle.net_cells.specs.Left.{left_of}
use Rattle.net_cells.specs.Order.{at_visit}
use Rattle.net_cells.specs.Formulas.{Formula, value_of, given, empty_sum, made, made_of, moved, cut, part, no_part, leftover, priority, deficit, horizontal, vertical, smaller, along, delayed}

-- ---- words
abbrev pub value : Kind → ℕ → ℕ → Formula
value kind a b = value_of (cell_of kind a b)

-- one packet of so many bits taken off a service: what that serves in whole packets
abbrev pub less : Formula → ℕ → Formula
less F bits = made_of (PosMinus (whole bits)) F

-- cells' curves, added up from the first on; one alone is itself
abbrev pub sum_from : Formula → List Cell → Formula
sum_from F [] = F
sum_from F (c ∷ cs) = sum_from (made Sum F (value_of c)) cs

abbrev pub sum_of_cells : List Cell → Formula
sum_of_cells [] = empty_sum
sum_of_cells (c ∷ cs) = sum_from (value_of c) cs

-- the service of a hop's queue
abbrev pub service_at : Net → ℕ → ℕ → Formula
service_at net i k = value QueueService (server_of_hop net i k) (queue_of_hop net i k)

-- ---- queues
-- the sum of the curves with which some hops come
abbrev pub sum_of_hops : List Visit → Formula
sum_of_hops vs = sum_of_cells (map (at_visit In) vs)

-- of those of a part; cut by the link over which they come, by the longest packet and the rate of the server before
abbrev pub part_sum : Net → ℕ → List Visit → Formula
part_sum net zero vs = sum_of_hops vs
part_sum net (suc p) vs = cut (sum_of_hops vs) p (longest_of net vs) (rate net p)

-- a part that has some, and those after it
abbrev pub with_part : Net → ℕ → List Visit → Formula → Formula
with_part net k [] rest = rest
with_part net k (v ∷ vs) rest = part (part_sum net k (v ∷ vs)) rest

abbrev pub parts_sum : Net → (s q : ℕ) → List ℕ → Formula
parts_sum net s q [] = no_part
parts_sum net s q (k ∷ ks) = with_part net k (in_part net s q k) (parts_sum net s q ks)

-- the sum of a queue's flows; in version 2 that of its parts
abbrev pub total : (by_links : Bool) → Net → (s q : ℕ) → Formula
total false net s q = sum_of_hops (visits_in net s q)
total true net s q = parts_sum net s q (part_numbers net)

-- the sum of the curves of the queues before one
abbrev pub higher : ℕ → ℕ → Formula
higher s q = sum_of_cells (map (cell_of Total s) (range_with_len 0 q))

-- the service of a queue, of the server's and of what that leaves it
abbrev pub left_formula : SpecCurve → Left Cell → Formula
left_formula f all = given f
left_formula f (above before lower) = priority f (value_of before) lower
left_formula f (share quanta longest queue) = deficit f quanta longest queue

abbrev pub queue_service : Net → ℕ → ℕ → Discipline → Formula
queue_service net s q d = left_formula (service net s) (left_of net s q d)

-- ---- hops
-- the flow's own curve at its first hop, and at any other what leaves the one before
abbrev pub arriving : Net → ℕ → ℕ → Formula
arriving net i zero = given (arrival net i)
arriving net i (suc k) = value Out i k

-- ---- paths
-- the convolution of the services of the hops up to one, each in whole packets
abbrev pub packets_to : Net → ℕ → ℕ → Formula
packets_to net i zero = less (value Residual i 0) (packet net i)
packets_to net i (suc k) = made Convolve (packets_to net i k) (less (value Residual i (suc k)) (packet net i))

-- the convolution of that with the last hop's service, which is not in whole packets
abbrev pub served_to : Net → ℕ → ℕ → Formula
served_to net i zero = value Residual i 0
served_to net i (suc k) = made Convolve (packets_to net i k) (value Residual i (suc k))

abbrev pub link_delays : Net → ℕ → List ℚ
link_delays net i = map (link net) (path net i)

abbrev pub hop_delay_cells : Net → ℕ → List Cell
hop_delay_cells net i = map (cell_of HopDelay i) (range_with_len 0 (hops net i))

-- ---- all kinds
abbrev pub formula_of : Net → Kind → ℕ → ℕ → Formula
formula_of net In i k = arriving net i k
formula_of net Cross i k = sum_of_cells
    (map (at_visit In) (others net i (server_of_hop net i k) (queue_of_hop net i k)))
formula_of net Total s q = total (net.version == 2) net s q
formula_of net Higher s q = higher s q
formula_of net QueueService s q = queue_service net s q (discipline net s)
formula_of net Theta i k = horizontal (value Cross i k) (service_at net i k)
formula_of net Residual i k = leftover (service_at net i k) (value Cross i k) (value Theta i k)
formula_of net QueueDelay s q = horizontal (value Total s q) (value QueueService s q)
formula_of net QueueBacklog s q = vertical (value Total s q) (less (value QueueService s q) (longest net s q))
formula_of net HopDelay i k =
    smaller (value QueueDelay (server_of_hop net i k) (queue_of_hop net i k))
    (horizontal (value In i k) (value Residual i k))
formula_of net ShiftOut i k = moved (value In i k) (value HopDelay i k)
formula_of net DeconvOut i k = made Deconvolve (value In i k) (less (value Residual i k) (packet net i))
formula_of net Out i k = made Min (value ShiftOut i k) (value DeconvOut i k)
formula_of net PathService i b = served_to net i (hops net i - 1)
formula_of net Tfa i b = along (hop_delay_cells net i) (link_delays net i)
formula_of net Sfa i b = delayed (horizontal (value In i 0) (value PathService i 0)) (link_delays net i)
formula_of net Bound i b = smaller (value Tfa i 0) (value Sfa i 0)

abbrev pub formula : Net → Cell → Formula
formula net c = formula_of net c.kind c.a c.b
