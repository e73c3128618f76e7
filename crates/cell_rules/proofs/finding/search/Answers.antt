use Rattle.std.proofs.Common.{◌+◌, List, ◌++◌, take, drop, Bool, sym, subst, arith, append-nil}
use Rattle.net_cells.specs.declared.cell.Cell.{Cell}
use Rattle.net_cells.proofs.Precedes.{in_front}
use Rattle.net_cells.proofs.cell_table.Fronts.{cell_at}
use Rattle.cell_rules.specs.Finding.{IsTold}
use Rattle.cell_rules.specs.Marks.{IsSearched}
use Rattle.cell_rules.proofs.Found.{own_slot, part_slots, bare_noted}
use Rattle.cell_rules.proofs.Searched.{whole_at, noted_room, searched_more, searched_all}
use Rattle.cell_rules.proofs.finding.search.Goals as goal

pub loop-place-init : goal.loop-place-init
loop-place-init c = record {
  room = c.requires.bare.room;
  bare = c.requires.bare.bare;
  searched = λ front stand start.
      subst (λ (xs : List Cell). IsSearched c.args.old.now c.args.net.now xs c.args.flags.now.items c.args.touched.now.items)
      (sym (append-nil front)) start;
}

pub is_touched-requires-clause-cell : goal.is_touched-requires-clause-cell
is_touched-requires-clause-cell c =
    let cells = c.args.cells.now in
    let i = c.loop-place.place in
    let front = c.requires.place.0 in
    let stand = c.requires.place.1 in
    in_front c.args.net.now stand.order (front ++ take i cells) (cell_at cells i) (drop (i + 1) cells ++ stand.back)
    (whole_at c.args.net.now front cells i stand (omega arith))

pub is_touched-requires-clause-places : goal.is_touched-requires-clause-places
is_touched-requires-clause-places c =
    let cells = c.args.cells.now in
    let i = c.loop-place.place in
    let front = c.requires.place.0 in
    let stand = c.requires.place.1 in
    part_slots c.args.old.now c.args.net.now stand.order (front ++ take i cells) (cell_at cells i)
    (drop (i + 1) cells ++ stand.back) c.keeps.ensures stand.servers
    (whole_at c.args.net.now front cells i stand (omega arith))

pub note-requires-clause-place : goal.note-requires-clause-place
note-requires-clause-place c =
    let cells = c.args.cells.now in
    let i = c.loop-place.place in
    let front = c.requires.place.0 in
    let stand = c.requires.place.1 in
    own_slot c.args.old.now c.args.net.now stand.order (front ++ take i cells) (cell_at cells i)
    (drop (i + 1) cells ++ stand.back) c.keeps.ensures stand.servers
    (whole_at c.args.net.now front cells i stand (omega arith))

pub loop-place-preserved : goal.loop-place-preserved
loop-place-preserved c =
    let old = c.args.old.now in
    let net = c.args.net.now in
    let cells = c.args.cells.now in
    let i = c.loop-place.place in
    let flags = c.loop-place.flags.items in
    let touched = c.loop-place.touched.items in
    let more = c.note.new.flags.items in
    let longer = c.note.new.touched.items in
    let here = c.in_ok-here.here in
    let told : IsTold old net flags (cell_at cells i) here =
    subst (λ (fs : List Bool). IsTold old net fs (cell_at cells i) here) c.deref.ensures.value c.in_ok-here.ensures in
    record {
      room = noted_room (cell_at cells i) here flags more touched longer c.in_ok-note.ensures c.loop-place.invariant.room;
      bare = bare_noted (cell_at cells i) here flags more touched longer c.in_ok-note.ensures c.loop-place.invariant.bare;
      searched = λ front stand start.
          searched_more old net front cells i flags more touched longer here c.keeps.ensures stand (omega arith) told
          c.in_ok-note.ensures (c.loop-place.invariant.searched front stand start);
    }

pub returns-clause-searched : goal.returns-clause-searched
returns-clause-searched c = λ front stand start.
    searched_all c.args.old.now c.args.net.now front c.args.cells.now c.loop-place.place c.loop-place.flags.items
    c.loop-place.touched.items (omega arith) (c.loop-place.invariant.searched front stand start)
