use Rattle.std.specs.Prelude.{slice_get}
use Rattle.std.proofs.Common.{◌∷◌, [], List, ℕ, length, Ok, sym, ap, subst, ◌∙◌, arith, length-append}
use Rattle.document_tables.specs.Links.{branches_of, paths_of}
use Rattle.document_tables.specs.Trees.{IsTreeOf}
use Rattle.document_tables.specs.declared.trees.Tree.{Tree}
use Rattle.document_tables.proofs.LinkSteps.{each_push}
use Rattle.document_tables.proofs.links.new_link.Goals as goal

pub returns-clause-value : goal.returns-clause-value
returns-clause-value c =
    let grown = c.in_ok-push_name.ensures in
    let keys = c.in_ok-push.ensures.items in
    λ i. Ok (record { names = sym grown i; keys = sym keys i; branches = branches_of c.args.table.now })

pub returns-clause-kept : goal.returns-clause-kept
returns-clause-kept c =
    let old = c.args.table.now in
    let branches = branches_of old in
    let kept = c.requires.kept in
    let grown = c.in_ok-push_name.ensures in
    let keys = c.in_ok-push.ensures.items in
    let trees = c.in_ok-push-2.ensures.items in
    let more_names = ap length grown in
    let one_name = length-append old.names (c.args.name.now ∷ []) in
    let more_keys = ap length keys in
    let one_key = length-append old.keys.items (c.args.row ∷ []) in
    let more_trees = ap length trees in
    let one_tree = length-append old.trees.items (c.new.result ∷ []) in record {
      names = omega (arith, more_names, one_name, more_keys, one_key, kept.names);
      trees = omega (arith, more_trees, one_tree, more_keys, one_key, kept.trees);
      of_paths = record {
        each = λ k tree h.
            each_push (λ (k : ℕ) (t : Tree). IsTreeOf (paths_of k branches) t) old.trees.items c.new.result kept.of_paths.each
            (subst (λ (paths : List (List ℕ)). IsTreeOf paths c.new.result) (sym (kept.others (length old.trees.items) (omega (arith, kept.trees)))) c.new.ensures)
            k tree (ap (λ (ts : List Tree). slice_get ts k) (sym trees) ∙ h);
      };
      others = λ k h. kept.others k (omega (arith, h, more_keys, one_key));
      hung = kept.hung;
    }
