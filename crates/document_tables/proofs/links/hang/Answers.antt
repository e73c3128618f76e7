use Rattle.std.specs.Prelude.{slice_get}
use Rattle.std.proofs.Common.{◌≡◌, ◌<◌, ◌≤◌, refl, ◌++◌, ◌∷◌, [], List, ℕ, None, map, length, Ok, Err, sym, ap, ap₂, subst, ◌∙◌, arith, length-set}
use Rattle.document_tables.specs.Grids.{end_of}
use Rattle.document_tables.specs.Growing.{Grows}
use Rattle.document_tables.specs.Links.{BranchText, branch_view, links_view, paths_of, with_path}
use Rattle.document_tables.specs.LinkTrees.{IsHung}
use Rattle.document_tables.specs.Trees.{IsTreeOf, hangs_from, last_of}
use Rattle.document_tables.specs.declared.links.Branch.{Branch}
use Rattle.document_tables.specs.declared.trees.Tree.{Tree}
use Rattle.document_tables.proofs.Hung.{newly_hung, still_hung}
use Rattle.document_tables.proofs.LinkSteps.{branch_made, branch_more, each_push, each_set, no_tree, paths_more, paths_same, tree_there}
use Rattle.document_tables.proofs.Steps.{handed_on}
use Rattle.document_tables.proofs.links.hang.Goals as goal

pub index_mut-tree-requires : goal.index_mut-tree-requires
index_mut-tree-requires c = let kept = c.requires.kept in omega (arith, kept.trees, c.requires.there)

pub returns-in_err-grow-clause-value : goal.returns-in_err-grow-clause-value
returns-in_err-grow-clause-value c =
    let before = links_view c.args.table.now in
    let path = c.args.path.items in
    let paths = paths_of c.args.link before.branches in
    let tree = tree_there c.args.table.now c.args.link c.index_mut-tree.result.now c.requires.kept c.requires.there c.index_mut-tree.ensures.value in
    let grown = subst (λ (p : List ℕ). Grows (Err c.in_err-grow.field-0.0) (hangs_from paths 0 None p) (last_of None p) (paths ++ p ∷ []) c.grow.new.self) c.deref.ensures.value
    (c.in_err-grow.ensures paths tree)
    in
    handed_on c.from_residual.result c.in_err-grow.field-0.0 (with_path c.args.link before path c.args.deadline) before c.from_residual.ensures.1
    (no_tree c.args.link before path c.args.deadline c.in_err-grow.field-0.0 (last_of None path) (paths ++ path ∷ []) c.grow.new.self before grown)

pub returns-clause-value : goal.returns-clause-value
returns-clause-value c =
    let before = links_view c.args.table.now in
    let kept = c.requires.kept in
    let passed = c.args.table.now.passed.items in
    let items = c.args.table.now.branches.items in
    let path = c.args.path.items in
    let paths = paths_of c.args.link before.branches in
    let tree = tree_there c.args.table.now c.args.link c.index_mut-tree.result.now kept c.requires.there c.index_mut-tree.ensures.value in
    let grown = subst (λ (p : List ℕ). Grows (Ok tt) (hangs_from paths 0 None p) (last_of None p) (paths ++ p ∷ []) c.grow.new.self) c.deref.ensures.value (c.in_ok-grow.ensures paths tree) in
    let new : Branch = record { link = c.args.link; first = length passed; count = length c.deref-3.result.now; node = c.place_of_last-node.result; deadline = c.args.deadline } in
    let ports = c.in_ok-push_branch.ensures.ports ∙ ap (λ (p : List ℕ). passed ++ p) c.deref-3.ensures.value in
    let branches = ap₂ (λ (ns : List ℕ) (bs : List Branch). map (branch_view ns) bs) ports c.in_ok-push_branch.ensures.branch
    ∙ branch_more passed path items new (λ k b h. (kept.hung k b h).inside) refl (ap length c.deref-3.ensures.value) in
    branch_made c.args.link before path c.args.deadline (last_of None path) grown.0 ∙ (λ i. Ok (record before { branches = sym branches i }))

pub returns-clause-kept : goal.returns-clause-kept
returns-clause-kept c =
    let before = links_view c.args.table.now in
    let kept = c.requires.kept in
    let passed = c.args.table.now.passed.items in
    let items = c.args.table.now.branches.items in
    let trees = c.args.table.now.trees.items in
    let path = c.args.path.items in
    let paths = paths_of c.args.link before.branches in
    let below : c.args.link < length trees = omega (arith, kept.trees, c.requires.there) in
    let tree = tree_there c.args.table.now c.args.link c.index_mut-tree.result.now kept c.requires.there c.index_mut-tree.ensures.value in
    let grown = subst (λ (p : List ℕ). Grows (Ok tt) (hangs_from paths 0 None p) (last_of None p) (paths ++ p ∷ []) c.grow.new.self) c.deref.ensures.value (c.in_ok-grow.ensures paths tree) in
    let new : Branch = record { link = c.args.link; first = length passed; count = length c.deref-3.result.now; node = c.place_of_last-node.result; deadline = c.args.deadline } in
    let text : BranchText = record { link = c.args.link; path = path; deadline = c.args.deadline } in
    let many = ap length c.deref-3.ensures.value in
    let ports = c.in_ok-push_branch.ensures.ports ∙ ap (λ (p : List ℕ). passed ++ p) c.deref-3.ensures.value in
    let branches = ap₂ (λ (ns : List ℕ) (bs : List Branch). map (branch_view ns) bs) ports c.in_ok-push_branch.ensures.branch
    ∙ branch_more passed path items new (λ k b h. (kept.hung k b h).inside) refl many in
    let node = c.place_of_last-node.ensures ∙ ap₂ end_of grown.1.stops c.deref-2.ensures.value in
    let same = length-set trees c.args.link c.grow.new.self in record {
      names = kept.names;
      trees = omega (arith, same, kept.trees);
      of_paths = record {
        each = each_set (λ (k : ℕ) (t : Tree). IsTreeOf (paths_of k (map (branch_view c.push_branch.new.passed.items) c.push_branch.new.branches.items)) t) trees c.args.link c.grow.new.self below
            (λ k t other at. subst (λ (ps : List (List ℕ)). IsTreeOf ps t) (sym (ap (paths_of k) branches ∙ paths_same k before.branches text (λ e. other (sym e)))) (kept.of_paths.each k t at))
            (subst (λ (ps : List (List ℕ)). IsTreeOf ps c.grow.new.self) (sym (ap (paths_of c.args.link) branches ∙ paths_more c.args.link before.branches text refl)) grown.1);
      };
      others = λ k h. ap (paths_of k) branches ∙ (paths_same k before.branches text (λ e. apart c.args.link k (length c.args.table.now.keys.items) c.requires.there h e) ∙ kept.others k h);
      hung = λ k b h.
          subst (λ (ns : List ℕ). IsHung ns (map (branch_view c.push_branch.new.passed.items) c.push_branch.new.branches.items) b) (sym ports)
          (subst (λ (ts : List BranchText). IsHung (passed ++ path) ts b) (sym branches)
          (each_push (λ (k : ℕ) (b : Branch). IsHung (passed ++ path) (before.branches ++ text ∷ []) b) items new
          (λ j a at. still_hung passed path before.branches new a (kept.hung j a at)) (newly_hung passed path before.branches new refl many c.requires.some node)
          k b (ap (λ (bs : List Branch). slice_get bs k) (sym c.in_ok-push_branch.ensures.branch) ∙ h)));
    }
  where
    apart : (a k n : ℕ) → a < n → n ≤ k → a ≡ k → ⊥
    apart a k n below above e = omega arith
