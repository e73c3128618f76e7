-- The cells of a network by a number, and that two networks which differ there alone share the others.
use Rattle.std.proofs.Common.{◌≡◌, ◌<◌, ◌≤◌, ℕ, ◌+◌, ◌==◌, List, ◌++◌, length, map, sym, ap, subst, arith, true, Option, None}
use Rattle.std.specs.Prelude.{slice_get, slice_index_or, nat_lt, is_some, ◌&&◌}
use Rattle.std.specs.List.{flat_map, range_with_len}
use Rattle.run_laws.specs.Servers.{queue_count}
use Rattle.net_model.specs.Networks.{Net, NetServer, NetFlow}
use Rattle.net_model.specs.Accepted.{IsAccepted}
use Rattle.net_cells.specs.declared.cell.Cell.{Cell}
use Rattle.net_cells.specs.declared.cell.Kind.{Kind}
use Rattle.net_cells.specs.declared.cell.Scope.{Scope}
use Rattle.net_cells.specs.declared.cell.Scope.TheVariants.{EachHop, EachHopButLast, EachQueue, EachPriorityQueue, EachPath}
use Rattle.net_cells.specs.Numbered.{flow_at, path_of, discipline_of, levels_of}
use Rattle.net_cells.specs.Cells.{cell_of, scope_of, is_in_scope, has_cell, server_kinds, path_kinds}
use Rattle.net_cells.proofs.Lists.{Has, contains_has, has_contains, has_left, has_right, has_map, map_has, has_flat, flat_has, has_filter, filter_has, has_range}
use Rattle.net_cells.proofs.Places.{Side, at_servers, of_paths, side_of}
use Rattle.cell_rules.specs.cell_changes.Slots.{columns_in}
use Rattle.cell_rules.proofs.cell_changes.HasSlots.{slots_are_own}
use Rattle.cell_rules.specs.Finding.{AreCellsOf, kind_cells_of, HaveSameCellsBut}
use Rattle.cell_rules.specs.Sites.{IsSameButServer, IsSameButFlow}

-- ---- all kinds
abbrev pub all_kinds : List Kind
all_kinds = server_kinds ++ path_kinds

each_kind : (k : Kind) → Has all_kinds k
each_kind k = here (side_of k)
  where
    here : Side k → Has (server_kinds ++ path_kinds) k
    here (at_servers m n) = has_left server_kinds path_kinds k m
    here (of_paths m e) = has_right server_kinds path_kinds k m

-- ---- those of a kind
few_columns : (s : Scope) → columns_in s ≤ 16
few_columns EachHop = omega arith
few_columns EachHopButLast = omega arith
few_columns EachQueue = omega arith
few_columns EachPriorityQueue = omega arith
few_columns EachPath = omega arith

module _ (net : Net) (number : ℕ) where
  kind_have : (kind : Kind) (c : Cell) → Has (kind_cells_of net number kind) c → (has_cell net c ≡ true) × (c.a ≡ number)
  kind_have kind c h =
      let found = filter_has (has_cell net) (map (cell_of kind number) (range_with_len 0 16)) c h in
      let made = map_has (cell_of kind number) (range_with_len 0 16) c found.0 in
      (found.1, sym (ap (λ (d : Cell). d.a) made.2))

  has_kind : (c : Cell) → IsAccepted net → has_cell net c ≡ true → c.a ≡ number → Has (kind_cells_of net number c.kind) c
  has_kind c acc h e =
      let column = (slots_are_own.has net c acc h).column in
      let few = few_columns (scope_of c.kind) in
      let within : c.b < 16 = omega (arith, column, few) in
      let same : cell_of c.kind number c.b ≡ c = ap (λ (a : ℕ). cell_of c.kind a c.b) (sym e) in
      has_filter (has_cell net) (map (cell_of c.kind number) (range_with_len 0 16)) c
      (subst (Has (map (cell_of c.kind number) (range_with_len 0 16))) same
      (has_map (cell_of c.kind number) (range_with_len 0 16) c.b (has_range 0 16 c.b (omega arith) (omega (arith, within)))))
      h

  -- ---- all
  pub are_cells : (cells : List Cell) → IsAccepted net → cells ≡ flat_map (kind_cells_of net number) all_kinds
      → AreCellsOf net number cells
  are_cells cells acc e = record {
    only = λ c m. let found = flat_has (kind_cells_of net number) all_kinds c
        (subst (λ (cs : List Cell). Has cs c) e (contains_has cells c m)) in
        kind_have found.0 c found.2;
    all = λ c h here. has_contains cells c (subst (λ (cs : List Cell). Has cs c) (sym e)
        (has_flat (kind_cells_of net number) all_kinds c.kind c (each_kind c.kind) (has_kind c acc h here)));
  }

-- ---- elsewhere
same_in_scope : (old new : Net) (s : Scope) (a b : ℕ) → flow_at old a ≡ flow_at new a
    → slice_get old.servers a ≡ slice_get new.servers a → is_in_scope old s a b ≡ is_in_scope new s a b
same_in_scope old new EachHop a b f s = ap (λ (o : Option NetFlow). nat_lt b (length (path_of o))) f
same_in_scope old new EachHopButLast a b f s = ap (λ (o : Option NetFlow). nat_lt (b + 1) (length (path_of o))) f
same_in_scope old new EachQueue a b f s = ap (λ (o : Option NetServer). nat_lt b (queue_count (discipline_of o))) s
same_in_scope old new EachPriorityQueue a b f s = ap (λ (o : Option NetServer). nat_lt b (levels_of (discipline_of o))) s
same_in_scope old new EachPath a b f s = ap (λ (o : Option NetFlow). is_some o && (b == 0)) f

pub same_but_server : (s : ℕ) (old new : Net) → IsSameButServer s old new → HaveSameCellsBut s old new
same_but_server s old new same = λ c n.
    same_in_scope old new (scope_of c.kind) c.a c.b
    (ap (λ (fs : List (Option NetFlow)). slice_index_or fs c.a None) same.flows) (same.servers c.a n)

pub same_but_flow : (i : ℕ) (old new : Net) → IsSameButFlow i old new → HaveSameCellsBut i old new
same_but_flow i old new same = λ c n.
    same_in_scope old new (scope_of c.kind) c.a c.b (same.flows c.a n)
    (ap (λ (ss : List NetServer). slice_get ss c.a) same.servers)
