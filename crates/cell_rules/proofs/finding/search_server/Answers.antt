use Rattle.std.proofs.Common.{◌≡◌, List, ◌++◌, Bool, true, false, sym, ◌∙◌, subst}
use Rattle.std.specs.Prelude.{Contains}
use Rattle.net_cells.specs.declared.cell.Cell.{Cell}
use Rattle.net_cells.specs.Order.{server_cells}
use Rattle.net_cells.proofs.Lists.{contains_has}
use Rattle.net_cells.proofs.Places.{server_have}
use Rattle.cell_rules.proofs.cell_changes.HasSlots.{slots_are_own}
use Rattle.cell_rules.specs.Marks.{is_marked, StandBehind, IsSearched, MarksOnward}
use Rattle.cell_rules.proofs.Searched.{passed_over, reached_none, reached_on}
use Rattle.cell_rules.proofs.finding.search_server.Goals as goal

pub returns-then-not-is_marked-clause-searched : goal.returns-then-not-is_marked-clause-searched
returns-then-not-is_marked-clause-searched c = λ front stand searched reached.
    passed_over c.args.old.now c.args.net.now c.args.site front c.args.server c.args.marks.now.items
    c.args.flags.now.items c.args.touched.now.items c.keeps.ensures c.requires.same stand searched c.requires.marked
    reached
    (subst (λ (ms : List Bool). is_marked ms c.args.server ≡ false) c.deref.ensures.value
    (sym c.is_marked.ensures ∙ c.if-not-is_marked.true))

pub returns-then-not-is_marked-clause-reached : goal.returns-then-not-is_marked-clause-reached
returns-then-not-is_marked-clause-reached c = λ front stand searched reached.
    reached_none c.args.old.now c.args.net.now c.args.site front c.args.server c.args.marks.now.items
    c.args.flags.now.items c.args.touched.now.items c.keeps.ensures c.requires.same stand searched c.requires.marked
    reached
    (subst (λ (ms : List Bool). is_marked ms c.args.server ≡ false) c.deref.ensures.value
    (sym c.is_marked.ensures ∙ c.if-not-is_marked.true))

pub mark_onward-requires-clause-places : goal.mark_onward-requires-clause-places
mark_onward-requires-clause-places c = λ d m.
    let net = c.args.net.now in
    let own = subst (λ (xs : List Cell). Contains xs d) (c.deref-3.ensures.value ∙ c.in_ok-here.ensures) m in
    slots_are_own.has net d c.keeps.ensures
    (server_have net c.args.server d (contains_has (server_cells net c.args.server) d own)).exists

pub returns-clause-reached : goal.returns-clause-reached
returns-clause-reached c = λ front stand searched reached.
    let old = c.args.old.now in
    let net = c.args.net.now in
    let s = c.args.server in
    let more = c.search.new.flags.items in
    let longer = c.search.new.touched.items in
    let same = c.deref-2.ensures.value ∙ c.in_ok-here.ensures in
    let on : is_marked c.args.marks.now.items s ≡ true =
    subst (λ (ms : List Bool). is_marked ms s ≡ true) c.deref.ensures.value
    (sym c.is_marked.ensures ∙ c.if-not-is_marked.false) in
    let after : IsSearched old net (front ++ server_cells net s) more longer =
    subst (λ (xs : List Cell). IsSearched old net (front ++ xs) more longer) same
    (c.in_ok-search.ensures.searched front (subst (λ (xs : List Cell). StandBehind net front xs) (sym same) stand) searched) in
    let onward : MarksOnward net (server_cells net s) more c.mark_onward.new.marks.items =
    subst (λ (xs : List Cell). MarksOnward net xs more c.mark_onward.new.marks.items)
    (c.deref-3.ensures.value ∙ c.in_ok-here.ensures)
    (subst (λ (fs : List Bool). MarksOnward net c.deref-3.result.now fs c.mark_onward.new.marks.items)
    c.deref-4.ensures.value c.mark_onward.ensures.onward) in
    reached_on old net front s c.args.marks.now.items c.mark_onward.new.marks.items more longer reached on
    c.mark_onward.ensures.kept onward after
