-- Links of a table that is read without a fault: each over a tree of ports that take its frames.
use Rattle.std.proofs.Common.{◌≡◌, ℕ, ◌+◌, ◌<◌, ◌≤◌, nat_le, List, [], ◌∷◌, ◌++◌, length, position, All, Option, Some, None, Ok, refl, sym, ap, subst, ◌∙◌, arith, length-append, ⊎_elim, ◌⊎◌}
use Rattle.std.proofs.lemmas.Bool.{cases_eq, leb-false}
use Rattle.std.specs.Prelude.{slice_get}
use Rattle.std.specs.Str.{bytes_eq}
use Rattle.std.proofs.lemmas.List.Quantifiers.{position-Some}
use Rattle.std.proofs.lemmas.Option.{slice_get-get_or}
use Rattle.std.proofs.Math.Seq.{get_or-append_seam}
use Rattle.csv_rows.specs.Rows.{Row}
use Rattle.document_rows.specs.declared.fault.Column.TheVariants as column
use Rattle.document_rows.specs.declared.fault.Wrong.TheVariants.{TooManyLinks}
use Rattle.document_rows.specs.declared.heads.LinkHead.{LinkHead}
use Rattle.document_rows.specs.Heads.{link_head}
use Rattle.document_rows.specs.LinkRows.{LinkText, frame_on_wire}
use Rattle.document_tables.specs.declared.links.LinkKeys.{LinkKeys}
use Rattle.document_tables.specs.Tables.{LineRow}
use Rattle.document_tables.specs.Ranges.{IsLinkText}
use Rattle.document_tables.specs.Ports.{Ports}
use Rattle.document_tables.specs.Links.{Links, BranchText, keys_of, agrees_with, with_link, has_room, number_or_next, with_branch, with_row, no_links, links_of, paths_of, most_links}
use Rattle.document_tables.proofs.Reading.{both_read, not_refused, same_read, inner}
use Rattle.document_tables.proofs.RowRanges.{link_says}
use Rattle.document_tables.proofs.TableRanges.{kept_by_table}
use Rattle.document_tables.proofs.RowTaken.{branched, taken}
use Rattle.document_tables.proofs.LinkSteps.{each_push, paths_more, paths_same}
use Rattle.document_tables.proofs.BranchFacts.{Takes, path_taken, ArePaths, no_paths, path_added, Fits, AreLinksBut, HasKeysOf, same_keys, has_agreed}

whether : (a b : ℕ) → (a ≡ b) ⊎ (a ≡ b → ⊥)
whether a b = cases_eq a b

module _ (ports : Ports) (overhead : ℕ) where
  -- ---- the link of a row
  new_link : (before links : Links) (name : List ℕ) (row : LinkKeys) → AreLinksBut ports overhead before None → length before.names < most_links → with_link before name None row ≡ Ok links
      → AreLinksBut ports overhead links (Some (length before.keys)) × HasKeysOf links (length before.keys) row × (length before.keys < length links.keys)
  new_link before links name row a room h =
      let made : Links = record { names = before.names ++ name ∷ []; keys = before.keys ++ row ∷ []; branches = before.branches } in
      let n = length-append before.names (name ∷ []) in
      let m = length-append before.keys (row ∷ []) in
      let at : slice_get (before.keys ++ row ∷ []) (length before.keys) ≡ Some row =
      slice_get-get_or (before.keys ++ row ∷ []) (length before.keys) row (omega (arith, m)) ∙ ap Some (get_or-append_seam before.keys row [] row)
      in
      let but : AreLinksBut ports overhead made (Some (length before.keys)) = record {
        names = omega (arith, n, m, a.names);
        few = omega (arith, n, room);
        each = each_push (λ (k : ℕ) (keys : LinkKeys). ArePaths (Fits ports overhead keys) (paths_of k before.branches)) before.keys row a.each
            (subst (λ (paths : List (List ℕ)). ArePaths (Fits ports overhead row) paths) (sym (a.others (length before.keys) (omega arith))) (no_paths (Fits ports overhead row)));
        some = λ k below other. a.some k (smaller k (length before.keys) (length (before.keys ++ row ∷ [])) (omega (arith, m)) below (λ e. other (ap Some e))) (λ e. cc);
        others = λ k above. a.others k (omega (arith, above, m));
      }
      in
      let e = same_read made links h in (
        subst (λ (l : Links). AreLinksBut ports overhead l (Some (length before.keys))) e but,
        subst (λ (l : Links). HasKeysOf l (length before.keys) row) e (row, at, same_keys row),
        subst (λ (l : Links). length before.keys < length l.keys) e (omega (arith, m)),
      )
    where
      smaller : (k n m : ℕ) → m ≡ n + 1 → k < m → (n ≡ k → ⊥) → k < n
      smaller k n m e below other = omega (arith, other)

  old_link : (before links : Links) (name : List ℕ) (n : ℕ) (row : LinkKeys) → AreLinksBut ports overhead before None → n < length before.keys → with_link before name (Some n) row ≡ Ok links
      → AreLinksBut ports overhead links (Some n) × HasKeysOf links n row × (n < length links.keys)
  old_link before links name n row a below h =
      let r = both_read (agrees_with (slice_get before.keys n) row) (λ first. Ok before) links h in
      let e = same_read before links r.2 in
      let but : AreLinksBut ports overhead before (Some n) = record { names = a.names; few = a.few; each = a.each; some = λ k below other. a.some k below (λ e. cc); others = a.others } in (
        subst (λ (l : Links). AreLinksBut ports overhead l (Some n)) e but,
        subst (λ (l : Links). HasKeysOf l n row) e (has_agreed before n row r.0 below r.1),
        subst (λ (l : Links). n < length l.keys) e below,
      )

  room : (before : Links) (number : Option ℕ) (found : Option ℕ) → has_room before found ≡ Ok number → (number ≡ found) × (found ≡ None → length before.names < most_links)
  room before number None h =
      let r = not_refused (nat_le most_links (length before.names)) (record { column = column.Name; wrong = TooManyLinks }) (Ok None) number h in
      let less : length before.names < most_links = leb-false most_links (length before.names) r.0 in
      (sym (same_read None number r.1), λ e. less)
  room before number (Some n) h = (sym (same_read (Some n) number h), λ e. cc)

  linked_row : (before links : Links) (name : List ℕ) (number : Option ℕ) (row : LinkKeys) → AreLinksBut ports overhead before None → has_room before (position (bytes_eq name) before.names) ≡ Ok number
      → with_link before name number row ≡ Ok links
      → AreLinksBut ports overhead links (Some (number_or_next before number)) × HasKeysOf links (number_or_next before number) row × (number_or_next before number < length links.keys)
  linked_row before links name None row a r h = let f = room before None (position (bytes_eq name) before.names) r in new_link before links name row a (f.1 (sym f.0)) h
  linked_row before links name (Some n) row a r h =
      let f = room before (Some n) (position (bytes_eq name) before.names) r in
      let w = position-Some (bytes_eq name) before.names n [] (sym f.0) in
      old_link before links name n row a (omega (arith, w, a.names)) h

  -- ---- its branch
  branch_added : (links after : Links) (link : ℕ) (row : LinkText) → IsLinkText row → AreLinksBut ports overhead links (Some link) → HasKeysOf links link (keys_of row) → link < length links.keys
      → with_branch ports overhead link links row ≡ Ok after → AreLinksBut ports overhead after None
  branch_added links after link row says a of below h =
      let b = branched ports overhead link links row after h in
      let path = b.path in
      let takes = path_taken ports row.priority (frame_on_wire row.largest_frame overhead) row.path path b.over in
      let some : 1 ≤ length path = omega (arith, takes.1, says.some_port) in
      let new : BranchText = record { link = link; path = path; deadline = row.deadline } in
      let more = paths_more link links.branches new refl in
      let longer = length-append (paths_of link links.branches) (path ∷ []) in
      let many = ap length more in
      let keys = of.0 in
      let as_row = of.2 in
      let fits : All (Fits ports overhead keys) path =
      subst (λ (priority : ℕ). All (Takes ports priority (frame_on_wire keys.largest_frame overhead)) path) (sym as_row.priority)
      (subst (λ (frame : ℕ). All (Takes ports row.priority (frame_on_wire frame overhead)) path) (sym as_row.largest_frame) takes.0)
      in
      subst (λ (l : Links). AreLinksBut ports overhead l None) b.made (record {
        names = a.names;
        few = a.few;
        each = λ k key there.
            ⊎_elim
            (λ (e : k ≡ link).
            let same : keys ≡ key = inner keys key (sym of.1 ∙ (ap (slice_get links.keys) (sym e) ∙ there)) in
            subst (λ (j : ℕ). ArePaths (Fits ports overhead key) (paths_of j (links.branches ++ new ∷ []))) (sym e)
            (subst (λ (x : LinkKeys). ArePaths (Fits ports overhead x) (paths_of link (links.branches ++ new ∷ []))) same
            (subst (ArePaths (Fits ports overhead keys)) (sym more) (path_added (Fits ports overhead keys) (paths_of link links.branches) path b.last (a.each link keys of.1) some fits b.hangs))))
            (λ (o : k ≡ link → ⊥). subst (ArePaths (Fits ports overhead key)) (sym (paths_same k links.branches new (λ e. o (sym e)))) (a.each k key there))
            (whether k link);
        some = λ k less other.
            ⊎_elim (λ (e : k ≡ link). subst (λ (j : ℕ). 1 ≤ length (paths_of j (links.branches ++ new ∷ []))) (sym e) (omega (arith, many, longer)))
            (λ (o : k ≡ link → ⊥). subst (λ (ps : List (List ℕ)). 1 ≤ length ps) (sym (paths_same k links.branches new (λ e. o (sym e)))) (a.some k less (λ e. o (sym (inner link k e)))))
            (whether k link);
        others = λ k above. paths_same k links.branches new (λ e. apart link k (length links.keys) below above e) ∙ a.others k above;
      })
    where
      apart : (a k n : ℕ) → a < n → n ≤ k → a ≡ k → ⊥
      apart a k n below above e = omega arith

  -- ---- rows and tables
  row_added : (head : LinkHead) (before : Links) (row : Row) (after : Links) → AreLinksBut ports overhead before None → with_row ports overhead head before row ≡ Ok after → AreLinksBut ports overhead after None
  row_added head before row after a h =
      let t = taken ports overhead head before row after h in
      let l = linked_row before t.links t.name t.number (keys_of t.text) a t.is_numbered t.is_linked in
      branch_added t.links after (number_or_next before t.number) t.text (link_says head row t.text t.is_read) l.0 l.1 l.2 t.is_branched

  none_read : AreLinksBut ports overhead no_links None
  none_read = record { names = refl; few = omega arith; each = λ k keys h. cc; some = λ k h other. absurd (omega arith); others = λ k h. refl }

  pub links_are : (rows : List LineRow) (links : Links) → links_of ports overhead rows ≡ Ok links → AreLinksBut ports overhead links None
  links_are rows links h = kept_by_table (λ (links : Links). AreLinksBut ports overhead links None) link_head (with_row ports overhead) no_links none_read row_added rows links h
