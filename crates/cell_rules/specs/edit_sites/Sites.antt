-- Where an edit changes a network: at the server or the flow that it names, or at the flow that it adds. Own choice.
use Rattle.std.specs.Prelude.{◌≡◌, ℕ, length, false, IsTrue, Ok, Err, string_bytes}
use Rattle.net_model.specs.declared.edit.Edit.{Edit}
use Rattle.net_model.specs.declared.edit.Edit.TheVariants as edit
use Rattle.net_model.specs.Networks.{Net}
use Rattle.net_cells.specs.declared.cell.Cell.{Cell}
use Rattle.net_cells.specs.Cells.{has_cell}
use Rattle.net_edits.specs.Refusals.{Or}
use Rattle.net_edits.specs.Edited.{edited}
use Rattle.net_edits.specs.Replies.{IsEdited}
use Rattle.net_edits.specs.Lookups.{server_number, flow_number}
use Rattle.cell_rules.specs.cell_changes.Changes.{HasSameRule}
use Rattle.cell_rules.specs.declared.site.Site.{Site}
use Rattle.cell_rules.specs.declared.site.Site.TheVariants.{Anywhere, Server, Flow}
use Rattle.cell_rules.specs.Sites.{IsSameBut, is_candidate}
use Rattle.cell_rules.specs.edit_sites.Replaced.{IsMadeAt}

-- an edit gives this network: what it makes of the present one, where the curve that it makes is over no limit
abbrev pub Gives : Net → Edit → Net → Type 0
Gives present edit net = IsEdited (edited present edit) net

-- ---- sites
-- by a number; a name that none has says nothing
abbrev pub at_server : Or ℕ → Site
at_server (Ok number) = Server number
at_server (Err why) = Anywhere

abbrev pub at_flow : Or ℕ → Site
at_flow (Ok number) = Flow number
at_flow (Err why) = Anywhere

-- that of one flow more
abbrev pub next_site : Net → Site
next_site net = Flow (length net.flows)

abbrev pub site_of : Net → Edit → Site
site_of net (edit.Rate name rate) = at_server (server_number net (string_bytes name))
site_of net (edit.Latency name latency) = at_server (server_number net (string_bytes name))
site_of net (edit.Link name link) = at_server (server_number net (string_bytes name))
site_of net (edit.Quantum name queue bits) = at_server (server_number net (string_bytes name))
site_of net (edit.Bucket name burst rate) = at_flow (flow_number net (string_bytes name))
site_of net (edit.Stair name period jitter) = at_flow (flow_number net (string_bytes name))
site_of net (edit.Packet name bits) = at_flow (flow_number net (string_bytes name))
site_of net (edit.Route name path) = at_flow (flow_number net (string_bytes name))
site_of net (edit.Add name bits burst rate path) = next_site net
site_of net (edit.Drop name) = at_flow (flow_number net (string_bytes name))
site_of net edit.Undo = Anywhere

-- the network that an edit gives came by one change there
abbrev pub EditsAreMadeAtOneSite : Type 0
EditsAreMadeAtOneSite =
    (present net : Net) (edit : Edit) → Gives present edit net → IsMadeAt (site_of present edit) present net

-- so it is the same but there
abbrev pub EditsHaveOneSite : Type 0
EditsHaveOneSite = (present net : Net) (edit : Edit) → Gives present edit net
    → IsSameBut (site_of present edit) present net

-- so each of its cells that may not change there was one before, made of the same
abbrev pub EditsKeepOtherRules : Type 0
EditsKeepOtherRules =
    (present net : Net) (edit : Edit) (c : Cell) → Gives present edit net → IsTrue (has_cell net c)
    → is_candidate (site_of present edit) present net c ≡ false → HasSameRule present net c
