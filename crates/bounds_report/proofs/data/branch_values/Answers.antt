use Rattle.std.proofs.Common.{map, ap, ◌∙◌}
use Rattle.std.proofs.lemmas.List.{take_all}
use Rattle.serde_json.specs.View.{view}
use Rattle.bounds_report.specs.Data.{branch_data}
use Rattle.bounds_report.proofs.Shown.{shown_next}
use Rattle.bounds_report.proofs.data.branch_values.Goals as goal

pub loop-place-preserved : goal.loop-place-preserved
loop-place-preserved c =
    shown_next view branch_data c.loop-place.values.items c.push.new.self.items c.in_ok-branch_value.field-0 c.args.rows.now c.loop-place.place _ c.loop-place-test.true
    c.loop-place.invariant c.in_ok-push.ensures.items c.in_ok-branch_value.ensures

pub returns : goal.returns
returns c = c.loop-place.invariant ∙ ap (map branch_data) (take_all c.loop-place.place c.args.rows.now c.loop-place-test.false)
