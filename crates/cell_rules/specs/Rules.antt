-- What tests of two networks tell: whether the two make a cell of the same. Own choice.
use Rattle.std.specs.Prelude.{◌≡◌, ◌≢◌, ℕ, Bool, true, false, length}
use Rattle.std.specs.List.{filter}
use Rattle.rational.specs.Rational.{ℚ}
use Rattle.net_model.specs.Networks.{Net}
use Rattle.net_cells.specs.declared.cell.Kind.{Kind}
use Rattle.net_cells.specs.Formulas.{Formula, no_part}
use Rattle.net_cells.specs.CellFormulas.{formula_of, with_part}
use Rattle.net_cells.specs.Numbered.{server_of_hop, queue_of_hop, rate}
use Rattle.net_cells.specs.Visits.{visits, longest_of}
use Rattle.net_cells.specs.QueueParts.{in_part}
use Rattle.cell_numbers.specs.declared.found.Pick.{Pick}
use Rattle.cell_numbers.specs.Chosen.{picks, all_picked}

-- yes where two things are one, and no where they differ
abbrev pub TellsSame : {X : Type 0} → X → X → Bool → Type 0
TellsSame x y true = x ≡ y
TellsSame x y false = x ≢ y

-- of what a cell is made
abbrev pub TellsFormula : Net → Net → Kind → ℕ → ℕ → Bool → Type 0
TellsFormula old new kind a b tells = TellsSame (formula_of old kind a b) (formula_of new kind a b) tells

-- two networks have the same flows, if that is told of them
abbrev pub HaveSameFlows : Bool → Net → Net → Type 0
HaveSameFlows told old new = told ≡ true → old.flows ≡ new.flows

-- the server and the queue of a hop
abbrev pub hop_queue : Net → ℕ → ℕ → ℕ × ℕ
hop_queue net i k = (server_of_hop net i k, queue_of_hop net i k)

-- the longest packet of the hops at a server that are meant
abbrev pub longest_meant : Net → ℕ → Pick → ℕ
longest_meant net s pick = longest_of net (filter (picks net pick) (visits net s))

-- ---- parts of a queue
-- the longest packet of some hops, and the rate with which they come from a server
abbrev pub link_of : Net → (s : ℕ) → Pick → (p : ℕ) → ℕ × ℚ
link_of net s pick p = (longest_of net (all_picked net s pick (length net.flows)), rate net p)

-- what a part alone is made of
abbrev pub one_part : Net → (s q k : ℕ) → Formula
one_part net s q k = with_part net k (in_part net s q k) no_part
