-- Links, one row after another.
use Rattle.std.proofs.Common.{◌≡◌, ℕ, ◌+◌, ◌<◌, ◌≤◌, ◌==◌, ◌||◌, Bool, true, false, cond, List, [], ◌∷◌, ◌++◌, map, filter, length, take, drop, suc, set, get_or, position, Option, Some, None, Ok, Err, refl, sym, ap, ap₂, subst, ◌∙◌, arith, length-append, length-set, ⊎_elim, ◌⊎◌, inl, inr}
use Rattle.std.specs.Prelude.{slice_get, nat_le}
use Rattle.std.specs.List.{list_any, position_from}
use Rattle.std.specs.Str.{bytes_eq}
use Rattle.std.proofs.lemmas.Iterator.Adapters.{position_from-zero}
use Rattle.std.proofs.lemmas.List.{take_all, take-append-le, drop_all, drop-append-le, length-drop, get_or_append_left, get_or-set_same, get_or-set_other, map-append, append-nil, length-map}
use Rattle.std.proofs.lemmas.List.Elements.{filter-append}
use Rattle.std.proofs.lemmas.Option.{slice_get-get_or, slice_get_within}
use Rattle.std.proofs.lemmas.Bool.{eq-eqb, ne_eqb, cases_lt, cases_eq, le-leb, lt-leb}
use Rattle.std.proofs.Math.Seq.{get_or-append_seam}
use Rattle.csv_rows.specs.Rows.{Row}
use Rattle.table_cells.specs.declared.amount.Amount.{Amount}
use Rattle.document_rows.specs.declared.fault.CellFault.{CellFault}
use Rattle.document_rows.specs.declared.fault.Column.TheVariants as column
use Rattle.document_rows.specs.declared.fault.RowError.{RowError}
use Rattle.document_rows.specs.declared.fault.RowError.TheVariants.{Cell, NoMemory}
use Rattle.document_rows.specs.declared.fault.Wrong.TheVariants.{TooManyRows}
use Rattle.document_rows.specs.declared.heads.LinkHead.{LinkHead}
use Rattle.document_rows.specs.Reads.{CellRead, RowRead, and_then, at, Tells}
use Rattle.document_rows.specs.Heads.{row_name}
use Rattle.document_rows.specs.LinkRows.{LinkText, link_row, frame_on_wire}
use Rattle.document_tables.specs.declared.links.Branch.{Branch}
use Rattle.document_tables.specs.declared.links.LinkTable.{LinkTable}
use Rattle.document_tables.specs.declared.trees.Tree.{Tree}
use Rattle.document_tables.specs.Growing.{Grows}
use Rattle.document_tables.specs.LinkTrees.{AreTrees, MakesLink}
use Rattle.document_tables.specs.Links.{Links, BranchText, branch_view, branches_of, passed_by, keys_of, with_link, has_room, number_or_next, with_path, with_branch, with_text, with_row, paths_of, most_branches}
use Rattle.document_tables.specs.Paths.{path_ports}
use Rattle.document_tables.specs.Ports.{Ports}
use Rattle.document_tables.specs.Tables.{Makes}
use Rattle.document_tables.specs.Trees.{IsTreeOf, hangs_from}

-- ---- names
from_none : {X : Type 0} (p : X → Bool) (n : ℕ) (xs : List X) → position_from p n xs ≡ None → list_any p xs ≡ false
from_none p n [] h = refl
from_none p n (x ∷ xs) h = at_first p n x xs (p x) refl h (from_none p (n + 1) xs)
  where
    at_first : {X : Type 0} (p : X → Bool) (n : ℕ) (x : X) (xs : List X) (b : Bool) → p x ≡ b → cond b (Some n) (position_from p (n + 1) xs) ≡ None → (position_from p (n + 1) xs ≡ None → list_any p xs ≡ false)
        → p x || list_any p xs ≡ false
    at_first p n x xs true e h rest = cc
    at_first p n x xs false e h rest = rw e (rest h)

-- what stands nowhere is none of them
pub nowhere_any : {X : Type 0} (p : X → Bool) (xs : List X) → position p xs ≡ None → list_any p xs ≡ false
nowhere_any p xs h = from_none p 0 xs (sym (position_from-zero p xs) ∙ h)

-- ---- trees
-- one more at the end
pub each_push : {X : Type 0} (P : ℕ → X → Type 0) (xs : List X) (x : X) → ((k : ℕ) (y : X) → slice_get xs k ≡ Some y → P k y) → P (length xs) x
    → (k : ℕ) (y : X) → slice_get (xs ++ x ∷ []) k ≡ Some y → P k y
each_push P xs x old new k y h =
    let n = length-append xs (x ∷ []) in
    let w = slice_get_within (xs ++ x ∷ []) k y h in
    let is : get_or (xs ++ x ∷ []) k y ≡ y = inside (get_or (xs ++ x ∷ []) k y) y (sym (slice_get-get_or (xs ++ x ∷ []) k y w) ∙ h) in
    ⊎_elim (λ (less : k < length xs). old k y (slice_get-get_or xs k y less ∙ ap Some (sym (get_or_append_left xs (x ∷ []) y k less) ∙ is)))
    (λ (last : k ≡ length xs).
    subst (λ j. P j y) (sym last) (subst (P (length xs)) (sym (get_or-append_seam xs x [] y) ∙ (ap (λ j. get_or (xs ++ x ∷ []) j y) (sym last) ∙ is)) new))
    (place (omega (arith, w, n)))
  where
    inside : {X : Type 0} (a b : X) → Some a ≡ Some b → a ≡ b
    inside a b h = cc

    place : {k n : ℕ} → k ≤ n → (k < n) ⊎ (k ≡ n)
    place {k} {n} l = elim (cases_lt k n) [
      | inl less ↦ inl less
      | inr past ↦ inr (omega arith)
    ]

-- another one at a place
pub each_set : {X : Type 0} (P : ℕ → X → Type 0) (xs : List X) (i : ℕ) (x : X) → i < length xs → ((k : ℕ) (y : X) → (k ≡ i → ⊥) → slice_get xs k ≡ Some y → P k y) → P i x
    → (k : ℕ) (y : X) → slice_get (set xs i x) k ≡ Some y → P k y
each_set P xs i x below old new k y h =
    let n = length-set xs i x in
    let w = slice_get_within (set xs i x) k y h in
    let is : get_or (set xs i x) k y ≡ y = inside (get_or (set xs i x) k y) y (sym (slice_get-get_or (set xs i x) k y w) ∙ h) in
    ⊎_elim (λ (same : k ≡ i). subst (λ j. P j y) (sym same) (subst (P i) (sym (get_or-set_same xs i x y below) ∙ (ap (λ j. get_or (set xs i x) j y) (sym same) ∙ is)) new))
    (λ (other : k ≡ i → ⊥). old k y other (slice_get-get_or xs k y (omega (arith, w, n)) ∙ ap Some (sym (get_or-set_other xs i k x y other) ∙ is)))
    (whether k i)
  where
    inside : {X : Type 0} (a b : X) → Some a ≡ Some b → a ≡ b
    inside a b h = cc

    whether : (a b : ℕ) → (a ≡ b) ⊎ (a ≡ b → ⊥)
    whether a b = cases_eq a b

-- the paths of a link, with a branch more
pub paths_more : (link : ℕ) (bs : List BranchText) (b : BranchText) → b.link ≡ link → paths_of link (bs ++ b ∷ []) ≡ paths_of link bs ++ b.path ∷ []
paths_more link bs b e =
    let p : BranchText → Bool = λ b. b.link == link in
    let t : (b.link == link) ≡ true = eq-eqb b.link link e in
    ap (map (λ (b : BranchText). b.path)) (filter-append p bs (b ∷ []) ∙ ap (λ (more : List BranchText). filter p bs ++ more) (one b t))
    ∙ map-append (λ (b : BranchText). b.path) (filter p bs) (b ∷ [])
  where
    one : (b : BranchText) → (b.link == link) ≡ true → filter (λ (b : BranchText). b.link == link) (b ∷ []) ≡ b ∷ []
    one b t = rw t refl

pub paths_same : (link : ℕ) (bs : List BranchText) (b : BranchText) → (b.link ≡ link → ⊥) → paths_of link (bs ++ b ∷ []) ≡ paths_of link bs
paths_same link bs b e =
    let p : BranchText → Bool = λ b. b.link == link in
    let t : (b.link == link) ≡ false = ne_eqb b.link link e in
    ap (map (λ (b : BranchText). b.path)) (filter-append p bs (b ∷ []) ∙ ap (λ (more : List BranchText). filter p bs ++ more) (one b t))
    ∙ map-append (λ (b : BranchText). b.path) (filter p bs) [] ∙ append-nil (paths_of link bs)
  where
    one : (b : BranchText) → (b.link == link) ≡ false → filter (λ (b : BranchText). b.link == link) (b ∷ []) ≡ []
    one b t = rw t refl

-- ---- the ports of paths
module _ (passed path : List ℕ) where
  path_kept : (b : Branch) → b.first + b.count ≤ length passed → passed_by (passed ++ path) b ≡ passed_by passed b
  path_kept b h =
      let n = length-drop b.first passed in
      ap (take b.count) (drop-append-le b.first passed path (omega (arith, h))) ∙ take-append-le b.count (drop b.first passed) path (omega (arith, n, h))

  pub path_last : (b : Branch) → b.first ≡ length passed → b.count ≡ length path → passed_by (passed ++ path) b ≡ path
  path_last b first count =
      ap (take b.count) (drop-append-le b.first passed path (omega (arith, first)) ∙ ap (λ (ns : List ℕ). ns ++ path) (drop_all b.first passed (omega (arith, first))))
      ∙ take_all b.count path (omega (arith, count))

  abbrev AreInside : List Branch → Type 0
  AreInside bs = (k : ℕ) (b : Branch) → slice_get bs k ≡ Some b → b.first + b.count ≤ length passed

  views_kept : (bs : List Branch) → AreInside bs → map (branch_view (passed ++ path)) bs ≡ map (branch_view passed) bs
  views_kept [] h = refl
  views_kept (b ∷ bs) h =
      ap₂ (λ (p : List ℕ) (ts : List BranchText). record { link = b.link; path = p; deadline = b.deadline } ∷ ts) (path_kept b (h 0 b refl)) (views_kept bs (λ k x e. h (suc k) x e))

  -- a branch over a path more
  pub branch_more : (bs : List Branch) (b : Branch) → AreInside bs → b.first ≡ length passed → b.count ≡ length path
      → map (branch_view (passed ++ path)) (bs ++ b ∷ []) ≡ map (branch_view passed) bs ++ record { link = b.link; path = path; deadline = b.deadline } ∷ []
  branch_more bs b inside first count =
      map-append (branch_view (passed ++ path)) bs (b ∷ [])
      ∙ ap₂ (λ (ts : List BranchText) (p : List ℕ). ts ++ record { link = b.link; path = p; deadline = b.deadline } ∷ []) (views_kept bs inside) (path_last b first count)

  pub same_path : (b : Branch) → b.first + b.count ≤ length passed → passed_by passed b ≡ passed_by (passed ++ path) b
  same_path b h = sym (path_kept b h)

-- ---- branches
module _ (link : ℕ) (before : Links) (path : List ℕ) (deadline : Option Amount) where
  abbrev pub grown : Links
  grown = record before { branches = before.branches ++ record { link = link; path = path; deadline = deadline } ∷ [] }

  pub no_tree : (error : RowError) (last : Option ℕ) (paths : List (List ℕ)) (tree : Tree) (made : Links) → Grows (Err error) (hangs_from (paths_of link before.branches) 0 None path) last paths tree
      → Makes (Err error) (with_path link before path deadline) made
  no_tree (Cell fault) last paths tree made g = ap (λ (r : RowRead (Option ℕ)). and_then r (λ last. Ok grown)) g
  no_tree NoMemory last paths tree made g = tt

  pub branch_made : (last : Option ℕ) → hangs_from (paths_of link before.branches) 0 None path ≡ Ok last → with_path link before path deadline ≡ Ok grown
  branch_made last h = ap (λ (r : CellRead (Option ℕ)). and_then (at column.Path r) (λ last. Ok grown)) h

-- the tree of a link
pub tree_there : (table : LinkTable) (link : ℕ) (tree : Tree) → AreTrees table → link < length table.keys.items → tree ≡ get_or table.trees.items link tree
    → IsTreeOf (paths_of link (branches_of table)) tree
tree_there table link tree kept below is = kept.of_paths.each link tree (slice_get-get_or table.trees.items link tree (omega (arith, kept.trees, below)) ∙ ap Some (sym is))

module _ (ports : Ports) (overhead link : ℕ) (before : Links) (row : LinkText) where
  abbrev pub ports_read : CellRead (List ℕ)
  ports_read = path_ports ports row.priority (frame_on_wire row.largest_frame overhead) row.path

  abbrev pub hung : List ℕ → RowRead Links
  hung path = with_path link before path row.deadline

  same_read : (frame : ℕ) (words : List (List ℕ)) → frame ≡ frame_on_wire row.largest_frame overhead → words ≡ row.path → path_ports ports row.priority frame words ≡ ports_read
  same_read frame words f w = ap₂ (path_ports ports row.priority) f w

  pub no_path : {X : Type 0} (view : X → List ℕ) (error : RowError) (made : Links) (frame : ℕ) (words : List (List ℕ)) → frame ≡ frame_on_wire row.largest_frame overhead → words ≡ row.path
      → Tells view (Err error) (at column.Path (path_ports ports row.priority frame words)) → Makes (Err error) (with_branch ports overhead link before row) made
  unfolding with_branch
  no_path view (Cell fault) made frame words f w t =
      ap (λ (r : RowRead (List ℕ)). and_then r hung) (ap (λ (r : CellRead (List ℕ)). at column.Path r) (sym (same_read frame words f w)) ∙ t)
  no_path view NoMemory made frame words f w t = tt

  pub path_read : (path : List ℕ) (frame : ℕ) (words : List (List ℕ)) → frame ≡ frame_on_wire row.largest_frame overhead → words ≡ row.path
      → at column.Path (path_ports ports row.priority frame words) ≡ Ok path → with_branch ports overhead link before row ≡ hung path
  unfolding with_branch
  path_read path frame words f w read =
      ap (λ (r : RowRead (List ℕ)). and_then r hung) (ap (λ (r : CellRead (List ℕ)). at column.Path r) (sym (same_read frame words f w)) ∙ read)

-- ---- rows
module _ (ports : Ports) (overhead : ℕ) (before : Links) (name : List ℕ) (number : Option ℕ) (text : LinkText) where
  abbrev branched : Links → RowRead Links
  branched links = with_branch ports overhead (number_or_next before number) links text

  pub no_link : (error : RowError) (some made : Links) (link : ℕ) → MakesLink (Err error) (with_link before name number (keys_of text)) some link → Makes (Err error) (with_text ports overhead name number before text) made
  no_link (Cell fault) some made link m = ap (λ (r : RowRead Links). and_then r branched) m
  no_link NoMemory some made link m = tt

  pub to_branch : (links : Links) (link : ℕ) → MakesLink (Ok link) (with_link before name number (keys_of text)) links (number_or_next before number)
      → with_text ports overhead name number before text ≡ with_branch ports overhead link links text
  to_branch links link m = ap (λ (r : RowRead Links). and_then r branched) m.0 ∙ ap (λ (n : ℕ). with_branch ports overhead n links text) (sym m.1)

module _ (ports : Ports) (overhead : ℕ) (head : LinkHead) (before : Links) (row : Row) where
  abbrev pub linked : List ℕ → Option ℕ → LinkText → RowRead Links
  linked name number text = with_text ports overhead name number before text

  abbrev pub roomed : List ℕ → Option ℕ → RowRead Links
  roomed name number = and_then (link_row head row) (linked name number)

  abbrev pub named : List ℕ → RowRead Links
  named name = and_then (has_room before (position (bytes_eq name) before.names)) (roomed name)

  pub too_many : nat_le most_branches (length before.branches) ≡ true → with_row ports overhead head before row ≡ Err (record { column = column.Name; wrong = TooManyRows })
  unfolding with_row
  too_many h = rw h refl

  module _ (few : nat_le most_branches (length before.branches) ≡ false) where
    pub no_name : (fault : CellFault) → row_name head.width head.name row ≡ Err fault → with_row ports overhead head before row ≡ Err fault
    unfolding with_row
    no_name fault h = rw few (ap (λ (r : RowRead (List ℕ)). and_then r named) h)

    pub has_name : (name : List ℕ) → row_name head.width head.name row ≡ Ok name → with_row ports overhead head before row ≡ named name
    unfolding with_row
    has_name name h = rw few (ap (λ (r : RowRead (List ℕ)). and_then r named) h)

    module _ (name : List ℕ) (is_name : row_name head.width head.name row ≡ Ok name) where
      pub no_room : (fault : CellFault) → has_room before (position (bytes_eq name) before.names) ≡ Err fault → with_row ports overhead head before row ≡ Err fault
      no_room fault h = has_name name is_name ∙ ap (λ (r : RowRead (Option ℕ)). and_then r (roomed name)) h

      module _ (number : Option ℕ) (room : has_room before (position (bytes_eq name) before.names) ≡ Ok number) where
        to_room : with_row ports overhead head before row ≡ roomed name number
        to_room = has_name name is_name ∙ ap (λ (r : RowRead (Option ℕ)). and_then r (roomed name)) room

        pub no_text : {X : Type 0} (view : X → LinkText) (error : RowError) (made : Links) → Tells view (Err error) (link_row head row) → Makes (Err error) (with_row ports overhead head before row) made
        no_text view (Cell fault) made t = to_room ∙ ap (λ (r : RowRead LinkText). and_then r (linked name number)) t
        no_text view NoMemory made t = tt

        pub to_text : (text : LinkText) → link_row head row ≡ Ok text → with_row ports overhead head before row ≡ with_text ports overhead name number before text
        to_text text says = to_room ∙ ap (λ (r : RowRead LinkText). and_then r (linked name number)) says

-- ---- tests
pub is_full : (most n : ℕ) → most ≤ n → nat_le most n ≡ true
is_full most n h = le-leb most n h

pub is_not_full : (most n : ℕ) → n < most → nat_le most n ≡ false
is_not_full most n h = lt-leb most n h

-- the rows before one are fewer than a table may have
pub few_rows : (table : LinkTable) → length table.branches.items < most_branches → nat_le most_branches (length (branches_of table)) ≡ false
few_rows table h =
    let n = length-map table.branches.items (branch_view table.passed.items) in
    is_not_full most_branches (length (branches_of table)) (omega (arith, n, h))
