use Rattle.std.proofs.Common.{arith, subst, sym, ◌∙◌, List, ℕ}
use Rattle.arrival_lines.specs.declared.grid.Part.{Part}
use Rattle.arrival_heights.specs.Greatest.{AddsHeights, IsGreatestBetween}
use Rattle.arrival_stairs.specs.Stairs.{levels_at}
use Rattle.arrival_heights.proofs.Most.{moments_of_all, greatest_of_all}
use Rattle.arrival_stairs.proofs.horizon.onset_of.Goals as goal

pub returns : goal.returns
returns c =
    let bundles = c.args.bundles.now in
    let at_0 = c.deref-2.ensures.value ∙ c.in_ok-levels.ensures in
    let again = c.deref-3.ensures.value ∙ c.in_ok-levels.ensures in
    let none = c.new-first.ensures.items in
    let none_yet = c.new-heights.ensures.items in
    let first = subst (λ (ps : List Part). AddsHeights ps 0 0 c.new-first.result.items c.heights_between.new.heights.items) at_0 c.in_ok-heights_between.ensures in
    let more = subst (λ (ps : List Part). AddsHeights ps 0 c.min-until.result c.new-heights.result.items c.heights_between-2.new.heights.items) again c.in_ok-heights_between-2.ensures in
    record {
      first_moments = moments_of_all (levels_at bundles 0) 0 0 c.new-first.result.items c.heights_between.new.heights.items none first;
      first = λ rate. greatest_of_all (levels_at bundles 0) 0 0 rate c.new-first.result.items c.heights_between.new.heights.items none first;
      short = omega arith;
      moments = c.in_ok-peaks.ensures.at;
      greatest = λ rate. subst (λ (n : ℕ). IsGreatestBetween (levels_at bundles 0) rate 0 c.min-until.result n) (sym (c.in_ok-peaks.ensures.same rate))
          (greatest_of_all (levels_at bundles 0) 0 c.min-until.result rate c.new-heights.result.items c.heights_between-2.new.heights.items none_yet more);
    }
