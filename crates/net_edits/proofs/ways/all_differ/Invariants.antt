use Rattle.std.proofs.Common.{◌≡◌, drop}
use Rattle.net_model.specs.Plain.{all_differ}
use Rattle.net_edits.proofs.ways.all_differ.Given as goal

abbrev pub invariant-loop-place : goal.invariant-loop-place
invariant-loop-place l = all_differ l.numbers ≡ all_differ (drop l.place l.numbers)
