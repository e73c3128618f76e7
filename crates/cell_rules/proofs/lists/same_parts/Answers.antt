use Rattle.std.proofs.Common.{◌≡◌, ℕ, arith, below_more}
use Rattle.cell_rules.specs.Rules.{one_part}
use Rattle.cell_rules.proofs.Tells.{tells_yes, tells_no}
use Rattle.cell_rules.proofs.SameParts.{same_all, other_part}
use Rattle.cell_rules.proofs.lists.same_parts.Goals as goal

pub returns-then-not-same_part : goal.returns-then-not-same_part
returns-then-not-same_part c =
    let old = c.args.old.now in
    let new = c.args.new.now in
    let s = c.args.place.0 in
    let q = c.args.place.1 in
    let k = c.loop-part.part in
    other_part old new s q k c.keeps.ensures c.keeps-2.ensures
    (tells_no (one_part old s q k) (one_part new s q k) c.same_part.result c.same_part.ensures c.if-not-same_part.true)

pub loop-part-preserved : goal.loop-part-preserved
loop-part-preserved c =
    let old = c.args.old.now in
    let new = c.args.new.now in
    let s = c.args.place.0 in
    let q = c.args.place.1 in
    let k = c.loop-part.part in
    below_more (λ (j : ℕ). one_part old s q j ≡ one_part new s q j) k c.loop-part.invariant
    (tells_yes (one_part old s q k) (one_part new s q k) c.same_part.result c.same_part.ensures c.if-not-same_part.false)

pub returns : goal.returns
returns c =
    let old = c.args.old.now in
    let new = c.args.new.now in
    same_all old new c.args.place.0 c.args.place.1 c.keeps.ensures c.keeps-2.ensures
    (λ k h. c.loop-part.invariant k (omega (arith, h, c.loop-part-test.false)))
