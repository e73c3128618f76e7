use Rattle.std.proofs.Common.{None, ap, inl}
use Rattle.std.specs.Prelude.{slice_index_or}
use Rattle.cell_rules.specs.Rules.{longest_meant}
use Rattle.cell_rules.proofs.Tells.{tells_numbers}
use Rattle.cell_rules.proofs.SameFlows.{same_longest}
use Rattle.cell_rules.proofs.SameHops.{longest_is}
use Rattle.cell_rules.proofs.lists.same_longest.Goals as goal

pub returns-then-told : goal.returns-then-told
returns-then-told c =
    same_longest c.args.old.now c.args.new.now c.args.server
    (λ j. inl (ap (λ fs. slice_index_or fs j None) (c.requires c.if-told.true))) c.args.pick

pub returns : goal.returns
returns c =
    let old = c.args.old.now in
    let new = c.args.new.now in
    let s = c.args.server in
    let pick = c.args.pick in
    tells_numbers c.longest_at-bits.result c.longest_at-new_bits.result (longest_meant old s pick) (longest_meant new s pick)
    (longest_is old s pick c.longest_at-bits.result c.longest_at-bits.ensures)
    (longest_is new s pick c.longest_at-new_bits.result c.longest_at-new_bits.ensures)
