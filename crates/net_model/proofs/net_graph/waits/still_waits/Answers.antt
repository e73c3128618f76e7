use Rattle.std.proofs.Common.{◌≡◌, ◌<◌, ◌-◌, ℕ, length, List, sym, ◌∙◌, ap, Some}
use Rattle.std.specs.Prelude.{slice_get}
use Rattle.net_model.proofs.net_graph.Members.{all_contains, last_member}
use Rattle.net_model.proofs.net_graph.Losses.{free_of, loses_last}
use Rattle.net_model.proofs.net_graph.waits.still_waits.Goals as goal

-- what `last` found
found : (list now : List ℕ) (last : ℕ) → now ≡ list → slice_get now (length now - 1) ≡ Some last → slice_get list (length list - 1) ≡ Some last
found list now last same is = ap (λ xs. slice_get xs (length xs - 1)) (sym same) ∙ is

pub bounds-is_placed-last : goal.bounds-is_placed-last
bounds-is_placed-last c =
    let is = found c.loop-last.list.items c.deref.result.now c.in-Some.last c.deref.ensures.value (sym c.last.ensures.value ∙ sym c.copied.ensures ∙ c.in-Some.is) in
    all_contains (λ s. s < length c.args.is_placed.now) c.args.list.now.items c.in-Some.last c.requires
    (c.loop-last.invariant.only c.in-Some.last (last_member c.loop-last.list.items c.in-Some.last is))

pub returns-then-not-is_placed-last-clause-waits :
    goal.returns-then-not-is_placed-last-clause-waits
returns-then-not-is_placed-last-clause-waits c =
    let is = found c.loop-last.list.items c.deref.result.now c.in-Some.last c.deref.ensures.value (sym c.last.ensures.value ∙ sym c.copied.ensures ∙ c.in-Some.is) in
    let within = all_contains (λ s. s < length c.args.is_placed.now) c.args.list.now.items c.in-Some.last c.requires
    (c.loop-last.invariant.only c.in-Some.last (last_member c.loop-last.list.items c.in-Some.last is)) in
    record { last = c.in-Some.last; is = is; free = free_of c.args.is_placed.now c.in-Some.last within c.if-not-is_placed-last.true }

pub loop-last-preserved : goal.loop-last-preserved
loop-last-preserved c =
    let is = found c.loop-last.list.items c.deref.result.now c.in-Some.last c.deref.ensures.value (sym c.last.ensures.value ∙ sym c.copied.ensures ∙ c.in-Some.is) in
    loses_last c.args.is_placed.now c.args.list.now.items c.loop-last.list.items c.pop.new.self.items c.pop.result c.in-Some.last c.pop.ensures.items is
    c.if-not-is_placed-last.false c.loop-last.invariant
