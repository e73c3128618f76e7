use Rattle.std.proofs.Common.{◌+◌, ◌++◌, List, take, drop, sym, subst, arith, append-nil}
use Rattle.std.proofs.lemmas.List.{get_or_default}
use Rattle.net_cells.specs.declared.cell.Cell.{Cell}
use Rattle.net_cells.proofs.Precedes.{in_front}
use Rattle.net_cells.proofs.cell_table.Fronts.{no_cell, cell_at}
use Rattle.cell_rules.specs.Marks.{IsSearched}
use Rattle.cell_rules.proofs.Found.{own_slot, part_slots, bare_noted}
use Rattle.cell_rules.proofs.PathMarks.{looked_own, looked_searched}
use Rattle.cell_rules.proofs.Searched.{whole_at, noted_room, searched_all}
use Rattle.cell_rules.proofs.path_search.search_marked.Goals as goal

pub loop-place-init : goal.loop-place-init
loop-place-init c = record {
  room = c.requires.bare.room;
  bare = c.requires.bare.bare;
  own = c.requires.own;
  searched = λ front stand start.
      subst (λ (xs : List Cell). IsSearched c.args.old.now c.args.net.now xs c.args.flags.now.items c.args.touched.now.items)
      (sym (append-nil front)) start;
}

pub look_at-requires-clause-bare : goal.look_at-requires-clause-bare
look_at-requires-clause-bare c = record { room = c.loop-place.invariant.room; bare = c.loop-place.invariant.bare }

pub look_at-requires-clause-cell : goal.look_at-requires-clause-cell
look_at-requires-clause-cell c =
    let cells = c.args.cells.now in
    let i = c.loop-place.place in
    let front = c.requires.place.0 in
    let stand = c.requires.place.1 in
    in_front c.args.net.now stand.order (front ++ take i cells) (cell_at cells i) (drop (i + 1) cells ++ stand.back)
    (whole_at c.args.net.now front cells i stand (omega arith))

pub look_at-requires-clause-places : goal.look_at-requires-clause-places
look_at-requires-clause-places c =
    let cells = c.args.cells.now in
    let i = c.loop-place.place in
    let front = c.requires.place.0 in
    let stand = c.requires.place.1 in
    part_slots c.args.old.now c.args.net.now stand.order (front ++ take i cells) (cell_at cells i)
    (drop (i + 1) cells ++ stand.back) c.keeps.ensures stand.servers
    (whole_at c.args.net.now front cells i stand (omega arith))

pub look_at-requires-clause-place : goal.look_at-requires-clause-place
look_at-requires-clause-place c =
    let cells = c.args.cells.now in
    let i = c.loop-place.place in
    let front = c.requires.place.0 in
    let stand = c.requires.place.1 in
    own_slot c.args.old.now c.args.net.now stand.order (front ++ take i cells) (cell_at cells i)
    (drop (i + 1) cells ++ stand.back) c.keeps.ensures stand.servers
    (whole_at c.args.net.now front cells i stand (omega arith))

pub loop-place-preserved : goal.loop-place-preserved
loop-place-preserved c =
    let old = c.args.old.now in
    let net = c.args.net.now in
    let cells = c.args.cells.now in
    let i = c.loop-place.place in
    let marks = c.args.marks.now in
    let flags = c.loop-place.flags.items in
    let touched = c.loop-place.touched.items in
    let more = c.look_at.new.flags.items in
    let longer = c.look_at.new.touched.items in
    let inv = c.loop-place.invariant in
    let looked = c.in_ok-look_at.ensures in
    let of_path = c.requires.paths (cell_at cells i) (i, omega arith, get_or_default cells i (cell_at cells i) no_cell (omega arith)) in
    record {
      room = noted_room (cell_at cells i) looked.told flags more touched longer looked.noted inv.room;
      bare = bare_noted (cell_at cells i) looked.told flags more touched longer looked.noted inv.bare;
      own = looked_own c.args.site old net cells i marks flags more touched longer looked inv.own;
      searched = λ front stand start.
          looked_searched c.args.site old net cells i marks flags more touched longer looked inv.own front c.keeps.ensures c.requires.same
          stand (omega arith) c.requires.candidates of_path (inv.searched front stand start);
    }

pub returns : goal.returns
returns c = λ front stand start.
    searched_all c.args.old.now c.args.net.now front c.args.cells.now c.loop-place.place c.loop-place.flags.items
    c.loop-place.touched.items (omega arith) (c.loop-place.invariant.searched front stand start)
