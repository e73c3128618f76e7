-- Which servers are marked where touched cells are sought server by server, each that has a candidate and each at which a
-- cell is made of a touched one that was found; and which flows, where those of whole paths are sought. Own choice.
use Rattle.std.specs.Prelude.{◌≡◌, ◌⊎◌, ℕ, suc, ◌<◌, List, ◌++◌, Bool, true, false, ◌&&◌, Contains, slice_index, slice_index_or}
use Rattle.net_model.specs.Networks.{Net}
use Rattle.net_model.specs.Orders.{IsOrder}
use Rattle.net_cells.specs.declared.cell.Cell.{Cell}
use Rattle.net_cells.specs.declared.cell.Kind.{Kind}
use Rattle.net_cells.specs.declared.cell.Kind.TheVariants.{Out}
use Rattle.net_cells.specs.declared.cell.Scope.TheVariants.{EachPath}
use Rattle.net_cells.specs.Numbered.{hops, server_of_hop}
use Rattle.net_cells.specs.Cells.{cell_of, scope_of}
use Rattle.net_cells.specs.Formulas.{leaves}
use Rattle.net_cells.specs.CellFormulas.{formula}
use Rattle.net_cells.specs.Order.{server_cells, evaluation_order}
use Rattle.cell_rules.specs.cell_changes.Changes.{Touched, TouchedOf}
use Rattle.cell_rules.specs.declared.site.Site.{Site}
use Rattle.cell_rules.specs.Sites.{is_among, passes, is_candidate}
use Rattle.cell_rules.specs.Finding.{AreFlags, IsBareAtFirst, IsTold, IsNoted, flag_of}

abbrev pub is_output : Kind → Bool
is_output Out = true
is_output _ = false

-- ---- marks
-- by a list of flags; each number past its end is marked
abbrev pub is_marked : List Bool → ℕ → Bool
is_marked marks s = slice_index_or marks s true

-- no mark is taken away
abbrev pub KeepsMarks : List Bool → List Bool → Type 0
KeepsMarks marks more = (s : ℕ) → is_marked marks s ≡ true → is_marked more s ≡ true

-- those of some servers
abbrev pub MarksEach : List ℕ → List Bool → Type 0
MarksEach servers marks = (s : ℕ) → is_among s servers ≡ true → is_marked marks s ≡ true

-- those that a flow passes
abbrev pub MarksPath : Net → ℕ → List Bool → Type 0
MarksPath net i marks = (s : ℕ) → passes net i s ≡ true → is_marked marks s ≡ true

-- those that stand right behind one, among so many hops of a path
abbrev pub MarksBehind : (path : List ℕ) → ℕ → List Bool → (count : ℕ) → Type 0
MarksBehind path s marks count =
    (k : ℕ) → suc k < count → slice_index path k ≡ s → is_marked marks (slice_index path (suc k)) ≡ true

-- on the paths of the flows below a number
abbrev pub MarksNext : Net → ℕ → List Bool → (count : ℕ) → Type 0
MarksNext net s marks count =
    (i k : ℕ) → i < count → suc k < hops net i → server_of_hop net i k ≡ s
    → is_marked marks (server_of_hop net i (suc k)) ≡ true

-- a cell is what leaves a hop, and flagged
abbrev pub goes_on : List Bool → Cell → Bool
goes_on flags c = is_output c.kind && flag_of flags c

-- those at which a flagged output of some cells arrives
abbrev pub MarksOnward : Net → List Cell → (flags : List Bool) → List Bool → Type 0
MarksOnward net cells flags marks =
    (i k : ℕ) → Contains cells (cell_of Out i k) → flag_of flags (cell_of Out i k) ≡ true
    → is_marked marks (server_of_hop net i (suc k)) ≡ true

-- those that have a candidate
abbrev pub MarksCandidates : Site → Net → Net → List Bool → Type 0
MarksCandidates site old net marks =
    (s : ℕ) (c : Cell) → Contains (server_cells net s) c → is_candidate site old net c ≡ true → is_marked marks s ≡ true

-- those that have a cell that is made of a touched one of a front
abbrev pub MarksReached : Net → Net → (front : List Cell) → List Bool → Type 0
MarksReached old net front marks =
    (s : ℕ) (c d : Cell) → Contains (server_cells net s) c → Contains (leaves (formula net c)) d → Contains front d
    → Touched old net d → is_marked marks s ≡ true

-- ---- flows
-- those of which there is one of some cells; the number of a server marks a flow too, of which more is looked at then
abbrev pub MarksOwn : List Cell → List Bool → Type 0
MarksOwn cells marks = (c : Cell) → Contains cells c → is_marked marks c.a ≡ true

-- those below a number that pass a server
abbrev pub MarksPassing : Net → ℕ → List Bool → (count : ℕ) → Type 0
MarksPassing net s marks count = (i : ℕ) → i < count → passes net i s ≡ true → is_marked marks i ≡ true

-- those of whose whole path a cell is a candidate
abbrev pub MarksPaths : Site → Net → Net → List Bool → Type 0
MarksPaths site old net marks =
    (c : Cell) → scope_of c.kind ≡ EachPath → is_candidate site old net c ≡ true → is_marked marks c.a ≡ true

-- cells of whole paths
abbrev pub AreOfPaths : List Cell → Type 0
AreOfPaths cells = (c : Cell) → Contains cells c → scope_of c.kind ≡ EachPath

-- one of these is looked at where its flow is marked, and else is untouched
pub record IsLookedAt (old net : Net) (marks : List Bool) (c : Cell) (flags more : List Bool) (touched longer : List Cell) : Type 0 where
  pub told : Bool
  pub noted : IsNoted c told flags more touched longer
  pub why : ((is_marked marks c.a ≡ true) × IsTold old net flags c told) ⊎ ((is_marked marks c.a ≡ false) × (told ≡ false))

-- ---- searches
-- some cells stand right behind a front, in an order of the cells
pub record StandBehind (net : Net) (front cells : List Cell) : Type 0 where
  pub order : List ℕ
  pub servers : IsOrder net order
  pub back : List Cell
  pub are : evaluation_order net order ≡ front ++ (cells ++ back)

abbrev pub StandSomewhere : Net → List Cell → Type 0
StandSomewhere net cells = (front : List Cell) × StandBehind net front cells

-- the touched ones of a front were found
pub record IsSearched (old net : Net) (front : List Cell) (flags : List Bool) (touched : List Cell) : Type 0 where
  pub flags_are : AreFlags old net front flags
  pub bare : IsBareAtFirst flags touched
  pub list : TouchedOf old net front touched

-- so are then those of some cells behind it
abbrev pub Searches : (old net : Net) → List Cell → (flags : List Bool) → (touched : List Cell)
    → (more : List Bool) → (longer : List Cell) → Type 0
Searches old net cells flags touched more longer =
    (front : List Cell) → StandBehind net front cells → IsSearched old net front flags touched
    → IsSearched old net (front ++ cells) more longer

-- where the servers are marked that the front reaches
abbrev pub SearchesMarked : (old net : Net) → List Cell → (marks : List Bool) → (flags : List Bool)
    → (touched : List Cell) → (more : List Bool) → (longer : List Cell) → Type 0
SearchesMarked old net cells marks flags touched more longer =
    (front : List Cell) → StandBehind net front cells → IsSearched old net front flags touched
    → MarksReached old net front marks → IsSearched old net (front ++ cells) more longer

-- and those are marked then that these cells reach
abbrev pub ReachesOn : (old net : Net) → List Cell → (flags : List Bool) → (touched : List Cell) → (marks : List Bool)
    → (further : List Bool) → Type 0
ReachesOn old net cells flags touched marks further =
    (front : List Cell) → StandBehind net front cells → IsSearched old net front flags touched
    → MarksReached old net front marks → MarksReached old net (front ++ cells) further
