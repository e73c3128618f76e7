-- A store of one network: there was none before it, so all its cells are touched.
use Rattle.std.proofs.Common.{◌≡◌, ℕ, ◌+◌, List, [], ◌∷◌, length, Option, None, true, false, sym, ap, ◌∙◌, subst, refl, arith, inl, inr}
use Rattle.std.proofs.lemmas.Bool.{le-ltb}
use Rattle.std.proofs.lemmas.Option.{slice_get_past}
use Rattle.run_laws.specs.Servers.{queue_count}
use Rattle.net_model.specs.Networks.{Net, NetServer}
use Rattle.net_model.specs.Orders.{IsOrder}
use Rattle.net_cells.specs.declared.cell.Cell.{Cell}
use Rattle.net_cells.specs.declared.cell.Scope.{Scope}
use Rattle.net_cells.specs.declared.cell.Scope.TheVariants.{EachHop, EachHopButLast, EachQueue, EachPriorityQueue, EachPath}
use Rattle.net_cells.specs.Numbered.{hops, queues, levels, levels_of, discipline_of}
use Rattle.net_cells.specs.Cells.{scope_of, is_in_scope, has_cell}
use Rattle.net_cells.specs.Meanings.{Meaning, CellTable}
use Rattle.net_cells.specs.Order.{evaluation_order}
use Rattle.net_cells.proofs.Lists.{Has, contains_has}
use Rattle.net_cells.proofs.Members.{order_has}
use Rattle.version_table.specs.Histories.{History}
use Rattle.cell_rules.specs.cell_changes.Changes.{TouchedOf, changed, no_more, taken}
use Rattle.cell_rules.specs.cell_values.Placed.{placed}
use Rattle.cell_rules.specs.cell_values.Edits.{AllAnswered, IsEditOf, SameButAt}
use Rattle.cell_store.specs.edit_store.Stored.{IsStored}

-- nothing: no server and no flow
abbrev pub no_net : Net
no_net = record { version = 1; servers = []; flows = [] }

none_in : (scope : Scope) (a b : ℕ) → is_in_scope no_net scope a b ≡ false
none_in EachHop a b = le-ltb b (hops no_net a) (omega arith)
none_in EachHopButLast a b = le-ltb (b + 1) (hops no_net a) (omega arith)
none_in EachQueue a b =
    let none : queues no_net a ≡ 0 =
    ap (λ (o : Option NetServer). queue_count (discipline_of o)) (slice_get_past no_net.servers a (omega arith)) in
    le-ltb b (queues no_net a) (omega (arith, none))
none_in EachPriorityQueue a b =
    let none : levels no_net a ≡ 0 =
    ap (λ (o : Option NetServer). levels_of (discipline_of o)) (slice_get_past no_net.servers a (omega arith)) in
    le-ltb b (levels no_net a) (omega (arith, none))
none_in EachPath a b = refl

pub none_here : (c : Cell) → has_cell no_net c ≡ false
none_here c = none_in (scope_of c.kind) c.a c.b

all_touched : (net : Net) (cells : List Cell) → ((c : Cell) → Has cells c → has_cell net c ≡ true)
    → TouchedOf no_net net cells cells
all_touched net [] has = no_more
all_touched net (c ∷ cs) has =
    taken c cs cs (changed c (has c (inl refl)) (inl (none_here c))) (all_touched net cs (λ d h. has d (inr h)))

pub first_edit : (net : Net) (order : List ℕ) (all : List Cell) (at : CellTable) → IsOrder net order
    → all ≡ evaluation_order net order → IsEditOf net all at
first_edit net order all at o e = record {
  old = no_net;
  order = order;
  servers = o;
  are = subst (λ (cs : List Cell). TouchedOf no_net net (evaluation_order net order) cs) (sym e)
      (all_touched net (evaluation_order net order) (order_has net order));
  answered = λ c has. let no : has_cell no_net c ≡ false = none_here c in absurd (let bad : ⊥ = cc in bad);
}

module _ {V : Type 0} (meaning : V → Meaning) where
  pub first_stored : (net : Net) (order : List ℕ) (all : List Cell) (was : CellTable) (values : History V) → IsOrder net order
      → all ≡ evaluation_order net order → values.kept ≡ [] → AllAnswered net (placed meaning values.newest)
      → ((c : Cell) → was c ≡ None) → SameButAt all was (placed meaning values.newest) → IsStored meaning [] net values
  first_stored net order all was values o e none answered nothing same = record {
    many = sym (ap length none);
    each = λ j d v h. absurd (omega (arith, h));
    now = record {
      order = order;
      servers = o;
      answered = answered;
      nothing = λ c absent. same c (λ m. away c absent (subst (λ (cs : List Cell). Has cs c) e (contains_has all c m))) ∙ nothing c;
    };
  }
    where
      away : (c : Cell) → has_cell net c ≡ false → Has (evaluation_order net order) c → ⊥
      away c absent h = let has : has_cell net c ≡ true = order_has net order c h in cc
