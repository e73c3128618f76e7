-- How many operators on curves a cell takes. Own choice.
use Rattle.std.specs.Prelude.{ℕ, ◌+◌, ◌-◌, ◌*◌, Bool, true, false, ◌==◌, length}
use Rattle.residuals.specs.left.Left.{left_work}
use Rattle.net_model.specs.Networks.{Net}
use Rattle.net_cells.specs.declared.cell.Cell.{Cell}
use Rattle.net_cells.specs.declared.cell.Kind.{Kind}
use Rattle.net_cells.specs.declared.cell.Kind.TheVariants.{In, Cross, Total, Higher, QueueService, Theta, Residual, QueueDelay, QueueBacklog, HopDelay, ShiftOut, DeconvOut, Out, PathService, Tfa, Sfa, Bound}
use Rattle.net_cells.specs.Numbered.{hops, server_of_hop, queue_of_hop, discipline}
use Rattle.net_cells.specs.Visits.{visits_in, others}
use Rattle.net_cells.specs.Left.{left_of}
use Rattle.net_cells.specs.QueueParts.{by_parts, part_numbers, links_among}

-- of the parts of a queue
abbrev pub parts_work : Net → (s q : ℕ) → ℕ
parts_work net s q = length (by_parts net s q (part_numbers net)) - 1 + links_among net s q (part_numbers net)

-- a sum takes one less than it has terms; in version 2 one more for each part of a queue that comes over a link
abbrev pub total_work : (by_links : Bool) → Net → (s q : ℕ) → ℕ
total_work false net s q = length (visits_in net s q) - 1
total_work true net s q = parts_work net s q

-- a sum takes one less than it has terms
abbrev pub kind_work : Net → Kind → ℕ → ℕ → ℕ
kind_work net In i k = 0
kind_work net Cross i k = length (others net i (server_of_hop net i k) (queue_of_hop net i k)) - 1
kind_work net Total s q = total_work (net.version == 2) net s q
kind_work net Higher s q = q - 1
kind_work net QueueService s q = left_work (left_of net s q (discipline net s))
kind_work net Theta i k = 1
kind_work net Residual i k = 1
kind_work net QueueDelay s q = 1
kind_work net QueueBacklog s q = 2
kind_work net HopDelay i k = 1
kind_work net ShiftOut i k = 1
kind_work net DeconvOut i k = 2
kind_work net Out i k = 1
kind_work net PathService i b = 2 * (hops net i - 1)
kind_work net Tfa i b = 0
kind_work net Sfa i b = 1
kind_work net Bound i b = 0

abbrev pub work : Net → Cell → ℕ
work net c = kind_work net c.kind c.a c.b
