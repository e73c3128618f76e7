use Rattle.std.proofs.Common.{◌+◌, ◌<◌, ◌++◌, ◌∷◌, [], List, map, length, drop, refl, sym, ap, ◌∙◌, arith}
use Rattle.std.proofs.lemmas.List.{map-append}
use Rattle.std.proofs.lemmas.Option.{slice_get-get_or}
use Rattle.tree_network.specs.declared.network.Link.{Link}
use Rattle.document_tables.specs.Grids.{LinkOnGrid, grid_link, link_on_grid, links_from}
use Rattle.document_tables.specs.Ports.{ports_view}
use Rattle.document_tables.proofs.GridSteps.{links_more, links_all}
use Rattle.document_tables.proofs.grid.links_on_grid.Goals as goal

pub loop-number-init : goal.loop-number-init
loop-number-init c = record {
  count = refl;
  left = λ k h. refl;
  made = λ branches are. ap (λ (links : List Link). map grid_link links ++ links_from (ports_view c.args.ports.now).ports c.args.overhead branches 0 c.args.keys.now) c.in_ok-links.ensures.items;
}

pub take_tree-tree-requires : goal.take_tree-tree-requires
take_tree-tree-requires c = omega (arith, c.loop-number.invariant.count, c.requires.count, c.loop-number-test.true)

pub loop-number-preserved : goal.loop-number-preserved
loop-number-preserved c =
    let ports = (ports_view c.args.ports.now).ports in
    let keys = c.args.keys.now in
    let k = c.loop-number.number in
    let made = map grid_link c.loop-number.links.items in
    let link = c.in_ok-link_of.field-0 in
    let below : k < length keys = omega arith in
    record {
      count = c.take_tree-tree.ensures.count ∙ c.loop-number.invariant.count;
      left = λ j h. c.take_tree-tree.ensures.later j (omega (arith, h)) ∙ c.loop-number.invariant.left j (omega (arith, h));
      made = λ branches are.
          let there = sym (c.loop-number.invariant.left k (omega arith)) ∙ c.take_tree-tree.ensures.tree in
          let rest = links_from ports c.args.overhead branches (k + 1) (drop (k + 1) keys) in
          let one = c.in_ok-link_of.ensures ∙ ap (link_on_grid ports c.args.overhead _) (are.each k c.take_tree-tree.result there).stops in
          ap (λ (links : List Link). map grid_link links ++ rest) c.in_ok-push.ensures.items
          ∙ (ap (λ (front : List LinkOnGrid). front ++ rest) (map-append grid_link c.loop-number.links.items (link ∷ []) ∙ (λ i. made ++ one i ∷ []))
          ∙ (links_more ports c.args.overhead branches made keys k _ below ∙ c.loop-number.invariant.made branches are));
    }

pub returns : goal.returns
returns c = λ branches are.
    let ports = (ports_view c.args.ports.now).ports in
    sym (links_all ports c.args.overhead branches (map grid_link c.loop-number.links.items) c.args.keys.now c.loop-number.number (omega arith))
    ∙ c.loop-number.invariant.made branches are

pub link_of-requires-clause-short : goal.link_of-requires-clause-short
link_of-requires-clause-short c =
    let k = c.loop-number.number in
    let there = sym (c.loop-number.invariant.left k (omega arith)) ∙ c.take_tree-tree.ensures.tree in
    c.requires.short k _ c.take_tree-tree.result (slice_get-get_or c.args.keys.now k _ (omega arith)) there
