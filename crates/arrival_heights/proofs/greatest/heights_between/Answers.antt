use Rattle.std.proofs.Common.{arith, refl, sym, subst, ap, ◌∙◌, List, length}
use Rattle.arrival_lines.specs.declared.grid.Line.{Line}
use Rattle.arrival_heights.specs.Heights.{height_of}
use Rattle.arrival_heights.specs.Meetings.{AddsMeetings, AreSmallSteps}
use Rattle.arrival_heights.proofs.Small.{no_part}
use Rattle.arrival_heights.proofs.Added.{ends_added, bend_added, all_added}
use Rattle.arrival_heights.proofs.Meetings.{both_added, small_steps}
use Rattle.arrival_heights.proofs.greatest.heights_between.Goals as goal

pub steps-requires : goal.steps-requires
steps-requires c =
    let b = c.requires.parts.bursts in
    let r = c.requires.parts.rates in
    record { bursts = omega (arith, b); rates = omega (arith, r) }

pub add_meetings-requires : goal.add_meetings-requires
add_meetings-requires c =
    subst (λ (lines : List Line). AreSmallSteps lines) (sym c.deref.ensures.value) (small_steps c.args.parts.now c.in_ok-lines.lines.items c.requires.parts c.in_ok-lines.ensures)

pub returns-then-many_bend : goal.returns-then-many_bend
returns-then-many_bend c =
    let parts = c.args.parts.now in
    let begin = c.args.begin in
    let end = c.args.end in
    both_added parts c.in_ok-lines.lines.items begin end c.args.heights.now.items c.add-2.new.heights.items c.add_meetings.new.heights.items c.in_ok-lines.ensures
    (ends_added parts begin end c.height_at.result c.height_at-2.result c.args.heights.now.items c.add.new.heights.items c.add-2.new.heights.items
    c.requires.order c.requires.end (c.height_at.ensures ∙ ap (height_of parts) c.at_picosecond.ensures) (c.height_at-2.ensures ∙ ap (height_of parts) c.at_picosecond-2.ensures)
    c.in_ok-add.ensures c.in_ok-add-2.ensures)
    (subst (λ (ls : List Line). AddsMeetings ls begin end (length ls) c.add-2.new.heights.items c.add_meetings.new.heights.items) c.deref.ensures.value c.in_ok-add_meetings.ensures)

pub loop-part-init : goal.loop-part-init
loop-part-init c =
    let parts = c.args.parts.now in
    ends_added parts c.args.begin c.args.end c.height_at.result c.height_at-2.result c.args.heights.now.items c.add.new.heights.items c.add-2.new.heights.items
    c.requires.order c.requires.end (c.height_at.ensures ∙ ap (height_of parts) c.at_picosecond.ensures) (c.height_at-2.ensures ∙ ap (height_of parts) c.at_picosecond-2.ensures)
    c.in_ok-add.ensures c.in_ok-add-2.ensures

pub loop-part-preserved : goal.loop-part-preserved
loop-part-preserved c =
    bend_added c.args.parts.now c.args.begin c.args.end c.loop-part.part-index no_part _ c.height_at_bend-found.result c.args.heights.now.items c.loop-part.heights.items
    c.add-in-loop-part.new.heights.items c.loop-part-test.true refl c.height_at_bend-found.ensures.bound c.height_at_bend-found.ensures.moment c.in_ok-add-3.ensures c.loop-part.invariant

pub returns : goal.returns
returns c =
    all_added c.args.parts.now c.args.begin c.args.end c.loop-part.part-index c.args.heights.now.items c.loop-part.heights.items c.loop-part-test.false c.loop-part.invariant
