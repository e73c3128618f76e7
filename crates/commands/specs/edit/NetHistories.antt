-- A network, and those that it came of by edits. Own choice.
use Rattle.std.specs.Prelude.{List, []}
use Rattle.net_model.specs.Networks.{Net}
use Rattle.cell_store.specs.edit_store.Stored.{Stored}

-- the present network, and those before it that an undo goes back to, the first one first
pub record NetHistory : Type 0 where
  pub before : List Net
  pub present : Net

-- a network that no edit was made of yet
abbrev pub begun : Net → NetHistory
begun net = record { before = []; present = net }

-- the networks of a store
abbrev pub history_of : {V : Type 0} → Stored V → NetHistory
history_of s = record { before = s.before; present = s.present }
