-- How a cell is written. Own choice.
use Rattle.std.specs.Prelude.{ℕ, List, [], ◌++◌, Option, Some, None, codes, slice_get}
use Rattle.std.specs.Fmt.{decimal}
use Rattle.net_model.specs.Networks.{Net, NetServer, NetFlow}
use Rattle.net_cells.specs.declared.cell.Cell.{Cell}
use Rattle.net_cells.specs.declared.cell.Kind.{Kind}
use Rattle.net_cells.specs.declared.cell.Kind.TheVariants.{In, Cross, Total, Higher, QueueService, Theta, Residual, QueueDelay, QueueBacklog, HopDelay, ShiftOut, DeconvOut, Out, PathService, Tfa, Sfa, Bound}
use Rattle.net_cells.specs.declared.cell.Scope.{Scope}
use Rattle.net_cells.specs.declared.cell.Scope.TheVariants.{EachHop, EachHopButLast, EachQueue, EachPriorityQueue, EachPath}
use Rattle.net_cells.specs.Cells.{scope_of}
use Rattle.net_cells.specs.Numbered.{flow_at}

-- ---- names; nothing where there is no such server, or no live flow
abbrev pub name_of_server : Option NetServer → List ℕ
name_of_server None = []
name_of_server (Some s) = s.name

abbrev pub server_name : Net → ℕ → List ℕ
server_name net s = name_of_server (slice_get net.servers s)

abbrev pub name_of_flow : Option NetFlow → List ℕ
name_of_flow None = []
name_of_flow (Some f) = f.name

abbrev pub flow_name : Net → ℕ → List ℕ
flow_name net i = name_of_flow (flow_at net i)

-- ---- kinds
abbrev pub kind_word : Kind → List ℕ
kind_word In = codes "in"
kind_word Cross = codes "cross"
kind_word Total = codes "total"
kind_word Higher = codes "higher"
kind_word QueueService = codes "queue-service"
kind_word Theta = codes "theta"
kind_word Residual = codes "residual"
kind_word QueueDelay = codes "queue-delay"
kind_word QueueBacklog = codes "queue-backlog"
kind_word HopDelay = codes "hop-delay"
kind_word ShiftOut = codes "shift-out"
kind_word DeconvOut = codes "deconv-out"
kind_word Out = codes "out"
kind_word PathService = codes "path-service"
kind_word Tfa = codes "tfa"
kind_word Sfa = codes "sfa"
kind_word Bound = codes "bound"

-- ---- cells
-- a word, and after it a flow and a hop, from 0; a server and a queue; or a flow
abbrev pub words_at : Net → List ℕ → Scope → ℕ → ℕ → List ℕ
words_at net word EachHop i k = word ++ codes " " ++ flow_name net i ++ codes " " ++ decimal k
words_at net word EachHopButLast i k = word ++ codes " " ++ flow_name net i ++ codes " " ++ decimal k
words_at net word EachQueue s q = word ++ codes " " ++ server_name net s ++ codes " " ++ decimal q
words_at net word EachPriorityQueue s q = word ++ codes " " ++ server_name net s ++ codes " " ++ decimal q
words_at net word EachPath i b = word ++ codes " " ++ flow_name net i

-- the word of its kind, and its place
unfoldable pub cell_words : Net → Cell → List ℕ
cell_words net c = words_at net (kind_word c.kind) (scope_of c.kind) c.a c.b
