-- Branches on the trees of their links, one more at a time.
use Rattle.std.proofs.Common.{◌≡◌, ℕ, ◌<◌, List, [], ◌∷◌, ◌++◌, length, None, Some, refl, sym, ap, subst, ◌∙◌, arith, length-append, ⊎_elim}
use Rattle.std.proofs.lemmas.Bool.{cases_eq}
use Rattle.document_tables.specs.Grids.{end_of, place_after}
use Rattle.document_tables.specs.Links.{BranchText, passed_by, paths_of}
use Rattle.document_tables.specs.LinkTrees.{IsHung}
use Rattle.document_tables.specs.Stops.{stops_of}
use Rattle.document_tables.specs.Trees.{last_of}
use Rattle.document_tables.specs.declared.links.Branch.{Branch}
use Rattle.document_tables.proofs.LinkSteps.{path_last, paths_more, paths_same, same_path}
use Rattle.document_tables.proofs.StopOrder.{end_kept, end_there}

-- behind these branches comes one over a path
module _ (passed path : List ℕ) (bs : List BranchText) (new : Branch) where
  abbrev text : BranchText
  text = record { link = new.link; path = path; deadline = new.deadline }

  -- an earlier one hangs where it did
  pub still_hung : (b : Branch) → IsHung passed bs b → IsHung (passed ++ path) (bs ++ text ∷ []) b
  still_hung b hung =
      let own = passed_by (passed ++ path) b in
      let before = subst (λ (p : List ℕ). place_after (stops_of (paths_of b.link bs)) (last_of None p) ≡ Some b.node) (same_path passed path b hung.inside) hung.ends in
      let n = length-append passed path in record {
        inside = omega (arith, n, hung.inside);
        ends = ⊎_elim
            (λ (same : new.link ≡ b.link).
            subst (λ (ps : List (List ℕ)). place_after (stops_of ps) (last_of None own) ≡ Some b.node) (sym (paths_more b.link bs text same)) (end_kept (paths_of b.link bs) path (last_of None own) b.node before))
            (λ (other : new.link ≡ b.link → ⊥).
            subst (λ (ps : List (List ℕ)). place_after (stops_of ps) (last_of None own) ≡ Some b.node) (sym (paths_same b.link bs text other)) before)
            (cases_eq new.link b.link);
      }

  -- and it hangs at the end of its path
  pub newly_hung : new.first ≡ length passed → new.count ≡ length path → 0 < length path → new.node ≡ end_of (stops_of (paths_of new.link bs ++ path ∷ [])) path → IsHung (passed ++ path) (bs ++ text ∷ []) new
  newly_hung first count some node =
      let paths = paths_of new.link bs ++ path ∷ [] in
      let n = length-append passed path in record {
        inside = omega (arith, n, first, count);
        ends = subst (λ (ps : List (List ℕ)). place_after (stops_of ps) (last_of None (passed_by (passed ++ path) new)) ≡ Some new.node) (sym (paths_more new.link bs text refl))
            (subst (λ (p : List ℕ). place_after (stops_of paths) (last_of None p) ≡ Some new.node) (sym (path_last passed path new first count))
            (end_there (paths_of new.link bs) path some ∙ ap Some (sym node)));
      }
