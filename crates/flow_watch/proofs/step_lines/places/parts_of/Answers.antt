use Rattle.std.proofs.lemmas.List.Filters.{dedup_is}
use Rattle.rational.specs.Compared.{same_q}
use Rattle.flow_watch.proofs.step_lines.SortedParts.{sorted_once}
use Rattle.flow_watch.proofs.step_lines.places.parts_of.Goals as goal

pub returns : goal.returns
returns c =
    let sorted = c.sort.new.self.items in
    let now = c.dedup.new.self.items in
    sorted_once sorted now c.in_ok-sort.ensures.sorted (dedup_is same_q sorted now c.dedup.ensures.filtered)
