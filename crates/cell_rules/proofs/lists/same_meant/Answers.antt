use Rattle.std.proofs.Common.{None, ap, inl}
use Rattle.std.specs.Prelude.{slice_index_or}
use Rattle.cell_rules.proofs.SameFlows.{same_chosen}
use Rattle.cell_rules.proofs.lists.same_meant.Goals as goal

pub returns-then-told : goal.returns-then-told
returns-then-told c =
    same_chosen c.args.old.now c.args.new.now c.args.place.0
    (λ j. inl (ap (λ fs. slice_index_or fs j None) (c.requires c.if-told.true))) c.args.place.1 None
