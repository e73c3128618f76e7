-- Tables on the grid, one row after another.
use Rattle.std.specs.Prelude.{slice_get}
use Rattle.std.proofs.Common.{◌≡◌, set, ℕ, zero, suc, ◌+◌, ◌<◌, ◌≤◌, ◌==◌, Bool, true, false, cond, List, [], ◌∷◌, ◌++◌, map, filter, length, take, drop, get_or, refl, sym, ap, ◌∙◌, arith, append_assoc, ◌⊎◌}
use Rattle.std.proofs.lemmas.List.{take_more, drop_more, drop_all, map-append, append-nil}
use Rattle.std.proofs.lemmas.Bool.{eq-eqb, cases_lt}
use Rattle.document_rows.specs.PortRows.{PortText}
use Rattle.document_tables.specs.declared.links.LinkKeys.{LinkKeys}
use Rattle.document_tables.specs.Grids.{LinkOnGrid, link_on_grid, links_from}
use Rattle.document_tables.specs.Links.{BranchText, paths_of}
use Rattle.document_tables.specs.Stops.{stops_of}

-- a branch of a link has a path among those of the link
pub has_path : (bs : List BranchText) (j : ℕ) (d : BranchText) → j < length bs → paths_of (get_or bs j d).link bs ≡ [] → ⊥
has_path [] j d h e = omega arith
has_path (b ∷ bs) zero d h e = own b.link (b.link == b.link) (eq-eqb b.link b.link refl) e
  where
    own : (k : ℕ) (t : Bool) → t ≡ true → map (λ (b : BranchText). b.path) (cond t (b ∷ filter (λ (b : BranchText). b.link == k) bs) (filter (λ (b : BranchText). b.link == k) bs)) ≡ [] → ⊥
    own k true t e = cc
    own k false t e = cc
has_path (b ∷ bs) (suc j) d h e = later (get_or bs j d).link (b.link == (get_or bs j d).link) e (has_path bs j d (omega arith))
  where
    later : (k : ℕ) (t : Bool) → map (λ (b : BranchText). b.path) (cond t (b ∷ filter (λ (b : BranchText). b.link == k) bs) (filter (λ (b : BranchText). b.link == k) bs)) ≡ [] → (paths_of k bs ≡ [] → ⊥) → ⊥
    later k true e f = cc
    later k false e f = f e

module _ (ports : List PortText) (overhead : ℕ) (branches : List BranchText) where
  pub links_more : (made : List LinkOnGrid) (keys : List LinkKeys) (k : ℕ) (d : LinkKeys) → k < length keys
      → (made ++ link_on_grid ports overhead (get_or keys k d) (stops_of (paths_of k branches)) ∷ []) ++ links_from ports overhead branches (k + 1) (drop (k + 1) keys)
      ≡ made ++ links_from ports overhead branches k (drop k keys)
  unfolding links_from
  links_more made keys k d h =
      append_assoc made (link_on_grid ports overhead (get_or keys k d) (stops_of (paths_of k branches)) ∷ []) (links_from ports overhead branches (k + 1) (drop (k + 1) keys))
      ∙ ap (λ (left : List LinkKeys). made ++ links_from ports overhead branches k left) (sym (drop_more keys k d h))

  pub links_all : (made : List LinkOnGrid) (keys : List LinkKeys) (k : ℕ) → length keys ≤ k → made ++ links_from ports overhead branches k (drop k keys) ≡ made
  unfolding links_from
  links_all made keys k h = ap (λ (left : List LinkKeys). made ++ links_from ports overhead branches k left) (drop_all k keys h) ∙ append-nil made

-- what stands behind one that is changed
pub set_later : {X : Type 0} (xs : List X) (n k : ℕ) (x : X) → n < k → slice_get (set xs n x) k ≡ slice_get xs k
set_later [] n k x h = refl
set_later (y ∷ ys) zero zero x h = absurd (omega arith)
set_later (y ∷ ys) zero (suc k) x h = refl
set_later (y ∷ ys) (suc n) zero x h = absurd (omega arith)
set_later (y ∷ ys) (suc n) (suc k) x h = set_later ys n k x (omega arith)

-- one more is made of one more
pub made_next : {X Y : Type 0} (make : X → Y) (ys more : List Y) (y : Y) (xs : List X) (k : ℕ) (d : X) → k < length xs → ys ≡ map make (take k xs) → more ≡ ys ++ y ∷ [] → y ≡ make (get_or xs k d) → more ≡ map make (take (k + 1) xs)
made_next make ys more y xs k d below before is one =
    is
    ∙ ((λ i. before i ++ one i ∷ [])
    ∙ (sym (map-append make (take k xs) (get_or xs k d ∷ [])) ∙ ap (map make) (sym (take_more xs k d below))))

-- the same, of what one more shows and is seen as
pub seen_next : {W X Y Z : Type 0} (show : X → Y) (make : W → Y) (view : Z → W) (xs more : List X) (x : X) (zs : List Z) (k : ℕ) (d : Z) → k < length zs
    → map show xs ≡ map make (map view (take k zs)) → more ≡ xs ++ x ∷ [] → show x ≡ make (view (get_or zs k d)) → map show more ≡ map make (map view (take (k + 1) zs))
seen_next {Z = Z} show make view xs more x zs k d below before is one =
    ap (map show) is
    ∙ (map-append show xs (x ∷ [])
    ∙ ((λ i. before i ++ one i ∷ [])
    ∙ (sym (map-append make (map view (take k zs)) (view (get_or zs k d) ∷ []))
    ∙ (ap (map make) (sym (map-append view (take k zs) (get_or zs k d ∷ []))) ∙ ap (λ (ws : List Z). map make (map view ws)) (sym (take_more zs k d below))))))

pub split : (a n : ℕ) → (a < n) ⊎ (n ≤ a)
split a n = cases_lt a n
