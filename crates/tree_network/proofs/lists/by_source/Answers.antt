use Rattle.std.proofs.Common.{ℕ, List, [], sym, ◌∙◌, subst, ◌≡◌, length, ap, arith}
use Rattle.std.proofs.lemmas.List.{length-replicate, get_or-replicate, length-map}
use Rattle.tree_network.specs.Lists.{lists_of, is_from, those}
use Rattle.tree_network.proofs.Those.{BySourceBelow, sources_more, those_zero}
use Rattle.tree_network.proofs.lists.by_source.Goals as goal

pub loop-n-init : goal.loop-n-init
loop-n-init c =
    let P : List (List ℕ) → Type 0 = λ ls. BySourceBelow c.args.spots.now c.args.sources 0 ls in
    subst P (sym c.in_ok-lists.ensures) record {
      count = length-replicate c.args.sources [];
      each = λ k h. get_or-replicate c.args.sources k [] [] h ∙ sym (those_zero (is_from c.args.spots.now k));
    }

pub loop-n-preserved : goal.loop-n-preserved
loop-n-preserved c =
    sources_more c.args.spots.now c.args.sources c.loop-n.n (lists_of c.loop-n.lists.items) (lists_of c.add_to.new.lists.items)
    (c.requires.sources c.loop-n.n c.loop-n-test.true) c.in_ok-add_to.ensures c.loop-n.invariant

pub add_to-requires : goal.add_to-requires
add_to-requires c =
    let inside = c.requires.sources c.loop-n.n c.loop-n-test.true in
    let count = length-map c.loop-n.lists.items (λ v. v.items) in
    omega (arith, inside, count, c.loop-n.invariant.count)

pub returns : goal.returns
returns c =
    let end : c.loop-n.n ≡ length c.args.spots.now = omega (arith, c.loop-n.auto.n-end, c.loop-n-test.false) in
    record {
      count = c.loop-n.invariant.count;
      each = λ k h. c.loop-n.invariant.each k h ∙ ap (those (is_from c.args.spots.now k)) end;
    }
