use Rattle.std.proofs.Common.{ℕ, List, ◌<◌, ◌^◌, sym, subst}
use Rattle.std.specs.Prelude.{All}
use Rattle.std.proofs.lemmas.List.Elements.{All-map}
use Rattle.std.proofs.lemmas.List.Sorted.{All-permutation, IsNonDecreasingBy-from_sort}
use Rattle.arrival_lines.specs.declared.grid.Service.{Service}
use Rattle.arrival_heights.proofs.peaks.rates_of.Goals as goal

pub returns-clause-small : goal.returns-clause-small
returns-clause-small c =
    All-permutation (λ (rate : ℕ). rate < 2 ^ 62) c.in_ok-rates.rates.items c.sort_unstable.new.self.items c.sort_unstable.ensures.permutation
    (subst (λ (rates : List ℕ). All (λ (rate : ℕ). rate < 2 ^ 62) rates) (sym c.in_ok-rates.ensures) (All-map (λ (rate : ℕ). rate < 2 ^ 62) (λ (s : Service). s.rate) c.args.services.now c.requires))

pub returns-clause-rising : goal.returns-clause-rising
returns-clause-rising c = IsNonDecreasingBy-from_sort (λ (rate : ℕ). rate) c.sort_unstable.new.self.items c.sort_unstable.ensures.sorted
