-- The bytes of the report on a network, from a table of the values of its cells. Own choice.
use Rattle.std.specs.Prelude.{ℕ, List, [], ◌++◌, length, Option, Some, None, codes}
use Rattle.std.specs.Fmt.{decimal}
use Rattle.std.specs.List.{filter, flat_map, range_with_len}
use Rattle.net_model.specs.Networks.{Net, NetFlow}
use Rattle.net_cells.specs.declared.cell.Kind.TheVariants.{QueueDelay, QueueBacklog, Tfa, Sfa, Bound}
use Rattle.net_cells.specs.Meanings.{CellTable}
use Rattle.net_cells.specs.Numbered.{flow_at, is_live, queues}
use Rattle.report_text.specs.CellWords.{server_name}
use Rattle.report_text.specs.Shown.{shown}

-- the numbers of the live flows
abbrev pub live_flows : Net → List ℕ
live_flows net = filter (is_live net) (range_with_len 0 (length net.flows))

-- ---- lines
-- how many servers, and how many live flows
unfoldable pub head_line : Net → List ℕ
head_line net =
    codes "servers " ++ decimal (length net.servers) ++ codes " flows " ++ decimal (length (live_flows net))
    ++ codes "\n"

-- a queue's delay and backlog, of the server with a name and a number
unfoldable pub queue_line : List ℕ → CellTable → ℕ → ℕ → List ℕ
queue_line name at s q =
    codes "queue " ++ name ++ codes " " ++ decimal q
    ++ codes " delay " ++ shown at QueueDelay s q ++ codes " backlog " ++ shown at QueueBacklog s q ++ codes "\n"

-- a flow's delay from end to end: hop by hop, by the service along its path, and the lesser of the two
unfoldable pub flow_line : List ℕ → CellTable → ℕ → List ℕ
flow_line name at i =
    codes "flow " ++ name ++ codes " tfa " ++ shown at Tfa i 0 ++ codes " sfa " ++ shown at Sfa i 0
    ++ codes " bound " ++ shown at Bound i 0 ++ codes "\n"

-- ---- all of them
-- the queues of a server by number
abbrev pub queue_lines : Net → CellTable → ℕ → List ℕ
queue_lines net at s = flat_map (queue_line (server_name net s) at s) (range_with_len 0 (queues net s))

-- no line where the flow was dropped
abbrev pub live_line : CellTable → ℕ → Option NetFlow → List ℕ
live_line at i None = []
live_line at i (Some f) = flow_line f.name at i

abbrev pub flow_lines : Net → CellTable → ℕ → List ℕ
flow_lines net at i = live_line at i (flow_at net i)

-- the servers in the order of their file, and the live flows by number
unfoldable pub report_of : Net → CellTable → List ℕ
report_of net at =
    head_line net ++ flat_map (queue_lines net at) (range_with_len 0 (length net.servers))
    ++ flat_map (flow_lines net at) (range_with_len 0 (length net.flows))
