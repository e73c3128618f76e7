use Rattle.std.proofs.Common.{rules, ◌≡◌, ◌*◌, List, arith, ap, sym, subst, ◌∙◌}
use Rattle.std.specs.Prelude.{IsPermutation}
use Rattle.std.specs.Ordering.{is_lt, nat_cmp}
use Rattle.std.specs.List.Sorted.{IsSortedBy}
use Rattle.std.proofs.lemmas.Fn.{always_returns_same}
use Rattle.std.proofs.lemmas.List.Sorted.{All-permutation, length_permutation}
use Rattle.arrival_lines.proofs.InOrder.{answer_is}
use Rattle.arrival_heights.specs.Heights.{IsMoment}
use Rattle.arrival_heights.specs.declared.heights.Height.{Height}
use Rattle.arrival_heights.proofs.Further.{most_moved, height_order, timed}
use Rattle.arrival_heights.proofs.Orders.{apart, sooner}
use Rattle.arrival_heights.proofs.peaks.peaks_of.Goals as goal

pub add_most-requires-clause-at : goal.add_most-requires-clause-at
add_most-requires-clause-at c =
    let moved = subst (λ (hs : List Height). IsPermutation c.args.heights.items hs) (sym c.deref.ensures.value) c.in_ok-sort_by.ensures.permutation in
    All-permutation (λ (h : Height). IsMoment h.at) c.args.heights.items c.deref.result.now moved c.requires.at

pub add_most-requires-clause-order : goal.add_most-requires-clause-order
add_most-requires-clause-order c =
    let moved = subst (λ (hs : List Height). IsPermutation c.args.heights.items hs) (sym c.deref.ensures.value) c.in_ok-sort_by.ensures.permutation in
    let up = c.in_ok-sort_by.ensures.sorted (λ (x : Height) (y : Height). sooner x.at y.at) height_order (always_returns_same _ (λ a r. is_lt r ≡ sooner a.0.now.at a.1.0.now.at) _ (λ a r f k. let x : Height = a.0.now in let y : Height = a.1.0.now in let e : r ≡ nat_cmp (x.at.over * apart y.at) (y.at.over * apart x.at) = search rules in (ap is_lt e ∙ answer_is (x.at.over * apart y.at) (y.at.over * apart x.at), search rules))) in
    timed c.deref.result.now (All-permutation (λ (h : Height). IsMoment h.at) c.args.heights.items c.deref.result.now moved c.requires.at)
    (subst (λ (hs : List Height). IsSortedBy (λ (x : Height) (y : Height). sooner x.at y.at) hs) (sym c.deref.ensures.value) up)

pub add_most-requires-clause-some : goal.add_most-requires-clause-some
add_most-requires-clause-some c =
    let moved = subst (λ (hs : List Height). IsPermutation c.args.heights.items hs) (sym c.deref.ensures.value) c.in_ok-sort_by.ensures.permutation in
    let e = length_permutation c.args.heights.items c.deref.result.now moved in
    omega (arith, e)

pub returns-clause-same : goal.returns-clause-same
returns-clause-same c = λ rate. most_moved rate c.args.heights.items c.sort_by.new.self.items c.in_ok-sort_by.ensures.permutation
