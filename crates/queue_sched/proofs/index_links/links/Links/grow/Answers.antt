use Rattle.std.proofs.Common.{◌≡◌, ℕ, List, length, get_or, arith, refl, ◌∙◌, ap}
use Rattle.std.proofs.lemmas.Result.{err_from_is_err_and}
use Rattle.queue_sched.proofs.index_links.Stored.{seen, grown, grown_same, Grows}
use Rattle.queue_sched.proofs.index_links.links.Links.grow.Goals as goal

grows_two : (c : goal.After-from_residual-in_err-resize-2)
    → Grows c.self.inside.next.items c.self.inside.prev.items c.self.inside.owners.items c.resize.new.self.items c.resize-2.new.self.items c.self.inside.owners.items c.self.inside.lists
grows_two c =
    let see = seen _ _ _ _ _ c.self.invariant c.self.view_is in
    record {
      long_next = omega (arith, c.in_ok-resize.ensures.len, c.resize.new.self.ok, see.nodes);
      long_prev = omega (arith, ap (λ (t : List ℕ). length t) c.in_err-resize-2.ensures.items, c.self.invariant.long_prev);
      more = omega arith;
      few = c.self.invariant.few;
      same_next = λ i h. c.in_ok-resize.ensures.by_index.0 i 0 (omega (arith, h, see.nodes)) (omega (arith, h, c.self.invariant.long_next, c.self.inside.next.ok));
      same_prev = λ i h. ap (λ t. get_or t i 0) c.in_err-resize-2.ensures.items;
      same_owner = λ k h. refl;
      no_owner = λ k a b. absurd (omega (arith, a, b));
    }

pub invariant_of-self-in_err-resize-2 : goal.invariant_of-self-in_err-resize-2
invariant_of-self-in_err-resize-2 c = (grown _ _ _ _ _ _ _ _ c.self.invariant c.self.view_is (grows_two c)).0

pub returns-in_err-resize-2-clause-kept : goal.returns-in_err-resize-2-clause-kept
returns-in_err-resize-2-clause-kept c =
    let p = err_from_is_err_and c.from_residual-in_err-resize-2.result c.from_residual-in_err-resize-2.ensures.1 in
    rw (p.1) (grown_same _ _ _ _ _ _ _ _ c.self.invariant c.self.view_is (grows_two c) refl)

grows_three : (c : goal.After-from_residual-in_err-resize-3)
    → Grows c.self.inside.next.items c.self.inside.prev.items c.self.inside.owners.items c.resize.new.self.items c.resize-2.new.self.items c.resize-3.new.self.items c.self.inside.lists
grows_three c =
    let see = seen _ _ _ _ _ c.self.invariant c.self.view_is in
    let same : length c.resize-3.new.self.items ≡ length c.self.inside.owners.items = ap (λ (t : List ℕ). length t) c.in_err-resize-3.ensures.items in
    record {
      long_next = omega (arith, c.in_ok-resize.ensures.len, c.resize.new.self.ok, see.nodes, same);
      long_prev = omega (arith, c.in_ok-resize-2.ensures.len, c.resize-2.new.self.ok, see.nodes, same);
      more = omega (arith, same);
      few = omega (arith, same, c.self.invariant.few);
      same_next = λ i h. c.in_ok-resize.ensures.by_index.0 i 0 (omega (arith, h, see.nodes)) (omega (arith, h, c.self.invariant.long_next, c.self.inside.next.ok));
      same_prev = λ i h. c.in_ok-resize-2.ensures.by_index.0 i 0 (omega (arith, h, see.nodes)) (omega (arith, h, c.self.invariant.long_prev, c.self.inside.prev.ok));
      same_owner = λ k h. ap (λ t. get_or t k 0) c.in_err-resize-3.ensures.items;
      no_owner = λ k a b. absurd (omega (arith, a, b, same));
    }

pub invariant_of-self-in_err-resize-3 : goal.invariant_of-self-in_err-resize-3
invariant_of-self-in_err-resize-3 c = (grown _ _ _ _ _ _ _ _ c.self.invariant c.self.view_is (grows_three c)).0

pub returns-in_err-resize-3-clause-kept : goal.returns-in_err-resize-3-clause-kept
returns-in_err-resize-3-clause-kept c =
    let p = err_from_is_err_and c.from_residual-in_err-resize-3.result c.from_residual-in_err-resize-3.ensures.1 in
    rw (p.1) (grown_same _ _ _ _ _ _ _ _ c.self.invariant c.self.view_is (grows_three c) (ap (λ (t : List ℕ). length t) c.in_err-resize-3.ensures.items))

grows_all : (c : goal.In_ok-resize-3)
    → Grows c.self.inside.next.items c.self.inside.prev.items c.self.inside.owners.items c.resize.new.self.items c.resize-2.new.self.items c.resize-3.new.self.items c.self.inside.lists
grows_all c =
    let see = seen _ _ _ _ _ c.self.invariant c.self.view_is in
    let long : length c.resize-3.new.self.items ≡ c.args.nodes = omega (arith, c.in_ok-resize-3.ensures.len, c.resize-3.new.self.ok) in
    record {
      long_next = omega (arith, c.in_ok-resize.ensures.len, c.resize.new.self.ok, long);
      long_prev = omega (arith, c.in_ok-resize-2.ensures.len, c.resize-2.new.self.ok, long);
      more = omega (arith, long, see.nodes);
      few = omega (arith, long, c.ranges.nodes.fits);
      same_next = λ i h. c.in_ok-resize.ensures.by_index.0 i 0 (omega (arith, h, see.nodes)) (omega (arith, h, c.self.invariant.long_next, c.self.inside.next.ok));
      same_prev = λ i h. c.in_ok-resize-2.ensures.by_index.0 i 0 (omega (arith, h, see.nodes)) (omega (arith, h, c.self.invariant.long_prev, c.self.inside.prev.ok));
      same_owner = λ k h. c.in_ok-resize-3.ensures.by_index.0 k 0 (omega (arith, h, see.nodes)) (omega (arith, h, c.self.inside.owners.ok));
      no_owner = λ k a b. c.in_ok-resize-3.ensures.by_index.1 k 0 refl (omega (arith, a, c.self.inside.owners.ok)) (omega (arith, b, long));
    }

pub invariant_of-self-2 : goal.invariant_of-self-2
invariant_of-self-2 c = (grown _ _ _ _ _ _ _ _ c.self.invariant c.self.view_is (grows_all c)).0

pub returns-clause-grown : goal.returns-clause-grown
returns-clause-grown c =
    let long : length c.resize-3.new.self.items ≡ c.args.nodes = omega (arith, c.in_ok-resize-3.ensures.len, c.resize-3.new.self.ok) in
    (grown _ _ _ _ _ _ _ _ c.self.invariant c.self.view_is (grows_all c)).1 ∙ cc
