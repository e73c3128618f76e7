use Rattle.std.proofs.Common.{◌≡◌, suc, ◌-◌, [], length, arith}
use Rattle.std.specs.Prelude.{None}
use Rattle.cell_numbers.specs.declared.found.Pick.TheVariants.{InPart}
use Rattle.cell_numbers.specs.Chosen.{all_chosen}
use Rattle.cell_rules.proofs.Tells.{tells_yes, tells_no}
use Rattle.cell_rules.proofs.SameParts.{part_differs, entering_same, unused_same, cut_tells}
use Rattle.cell_rules.proofs.lists.same_part.Goals as goal

pub returns-then-not-same_meant : goal.returns-then-not-same_meant
returns-then-not-same_meant c =
    let old = c.args.old.now in
    let new = c.args.new.now in
    let s = c.args.place.0 in
    let q = c.args.place.1 in
    let k = c.args.part in
    part_differs old new s q k
    (tells_no (all_chosen old s (InPart q k) None (length old.flows)) (all_chosen new s (InPart q k) None (length new.flows))
    c.same_meant.result c.same_meant.ensures c.if-not-same_meant.true)

pub returns-then-part-eq0 : goal.returns-then-part-eq0
returns-then-part-eq0 c =
    let old = c.args.old.now in
    let new = c.args.new.now in
    let s = c.args.place.0 in
    let q = c.args.place.1 in
    let k = c.args.part in
    entering_same old new s q k
    (tells_yes (all_chosen old s (InPart q k) None (length old.flows)) (all_chosen new s (InPart q k) None (length new.flows))
    c.same_meant.result c.same_meant.ensures c.if-not-same_meant.false) c.if-part-eq0.true

pub returns-then-is_unused : goal.returns-then-is_unused
returns-then-is_unused c =
    let old = c.args.old.now in
    let new = c.args.new.now in
    let s = c.args.place.0 in
    let q = c.args.place.1 in
    let k = c.args.part in
    unused_same old new s q k
    (tells_yes (all_chosen old s (InPart q k) None (length old.flows)) (all_chosen new s (InPart q k) None (length new.flows))
    c.same_meant.result c.same_meant.ensures c.if-not-same_meant.false)
    (tells_yes (all_chosen old s (InPart q k) None (length old.flows)) [] c.is_unused.result c.is_unused.ensures c.if-is_unused.true)

pub returns : goal.returns
returns c =
    let old = c.args.old.now in
    let new = c.args.new.now in
    let s = c.args.place.0 in
    let q = c.args.place.1 in
    let k = c.args.part in
    let before : k ≡ suc (k - 1) = omega (arith, c.if-part-eq0.false) in
    cut_tells old new s q k
    (tells_yes (all_chosen old s (InPart q k) None (length old.flows)) (all_chosen new s (InPart q k) None (length new.flows))
    c.same_meant.result c.same_meant.ensures c.if-not-same_meant.false) (k - 1) c.same_cut.result before
    (tells_no (all_chosen old s (InPart q k) None (length old.flows)) [] c.is_unused.result c.is_unused.ensures c.if-is_unused.false)
    c.same_cut.ensures
