use Rattle.std.proofs.Common.{◌≡◌, false, take}
use Rattle.cell_rules.specs.Sites.{is_among}
use Rattle.cell_rules.proofs.site.is_among.Given as goal

abbrev pub invariant-loop-other : goal.invariant-loop-other
invariant-loop-other l = is_among l.number (take l.other-index l.numbers) ≡ false
