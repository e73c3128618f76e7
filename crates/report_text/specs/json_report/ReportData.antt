-- The report on a network as JSON: a value, from a table of the values of its cells. Own choice.
use Rattle.std.specs.Prelude.{ℕ, List, [], ◌∷◌, length, Option, Some, None, map, codes}
use Rattle.std.specs.List.{flat_map, range_with_len}
use Rattle.net_model.specs.Networks.{Net, NetFlow}
use Rattle.net_cells.specs.declared.cell.Kind.TheVariants.{QueueDelay, QueueBacklog, Tfa, Sfa, Bound}
use Rattle.net_cells.specs.Meanings.{CellTable}
use Rattle.net_cells.specs.Numbered.{flow_at, queues}
use Rattle.report_text.specs.CellWords.{server_name}
use Rattle.report_text.specs.Shown.{shown}
use Rattle.serde_json.specs.Data.{Data, Members, string, number, unsigned, array, object, no_members, member}
use Rattle.serde_json.specs.View.{items_of}

-- ---- members, in the order of their keys
-- a text, and a text's member before others
abbrev pub text_member : List ℕ → List ℕ → Members → Members
text_member key text rest = member key (string text) rest

-- a queue's backlog and delay, of the server with a name and a number; the queue's own number is a JSON number
unfoldable pub queue_data : List ℕ → CellTable → ℕ → ℕ → Data
queue_data name at s q =
    object (text_member (codes "backlog") (shown at QueueBacklog s q)
    (text_member (codes "delay") (shown at QueueDelay s q)
    (member (codes "queue") (number (unsigned q))
    (text_member (codes "server") name no_members))))

-- a flow's delay from end to end: the lesser of the two others, by the service along its path, and hop by hop
unfoldable pub flow_data : List ℕ → CellTable → ℕ → Data
flow_data name at i =
    object (text_member (codes "bound") (shown at Bound i 0)
    (text_member (codes "name") name
    (text_member (codes "sfa") (shown at Sfa i 0)
    (text_member (codes "tfa") (shown at Tfa i 0) no_members))))

-- ---- all of them
-- the queues of a server by number
abbrev pub server_queues : Net → CellTable → ℕ → List Data
server_queues net at s = map (queue_data (server_name net s) at s) (range_with_len 0 (queues net s))

-- nothing where the flow was dropped
abbrev pub live_data : CellTable → ℕ → Option NetFlow → List Data
live_data at i None = []
live_data at i (Some f) = flow_data f.name at i ∷ []

abbrev pub flow_at_data : Net → CellTable → ℕ → List Data
flow_at_data net at i = live_data at i (flow_at net i)

-- the live flows by number
abbrev pub flows_data : Net → CellTable → List Data
flows_data net at = flat_map (flow_at_data net at) (range_with_len 0 (length net.flows))

-- the servers in the order of their file
abbrev pub queues_data : Net → CellTable → List Data
queues_data net at = flat_map (server_queues net at) (range_with_len 0 (length net.servers))

abbrev pub report_members : Net → CellTable → Members
report_members net at =
    member (codes "flows") (array (items_of (flows_data net at)))
    (member (codes "queues") (array (items_of (queues_data net at))) no_members)

abbrev pub report_data : Net → CellTable → Data
report_data net at = object (report_members net at)
