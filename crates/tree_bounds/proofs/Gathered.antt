-- Some spots and their stairs, side by side.
use Rattle.std.proofs.Common.{◌≡◌, ℕ, ◌+◌, ◌<◌, ◌≤◌, Option, Some, None, List, [], ◌∷◌, ◌++◌, get_or, length, map, take, sym, ◌∙◌, ap, arith, ⊎_elim}
use Rattle.std.proofs.lemmas.Bool.{cases_lt}
use Rattle.std.proofs.lemmas.List.{get_or-map, get_or_past, length-map, map_more}
use Rattle.arrival_stairs.specs.declared.stairs.Stair.{Stair}
use Rattle.tree_network.specs.Spots.{no_spot, spot_at}
use Rattle.tree_network.specs.declared.spots.Spot.{Spot}
use Rattle.tree_bounds.specs.Onward.{stair_in}
use Rattle.tree_bounds.specs.Solved.{AreAllStairs}

-- one more
pub one_gathered : {X : Type 0} (f : ℕ → X) (numbers : List ℕ) (i : ℕ) (old new : List X) (one : X) → i < length numbers
    → old ≡ map f (take i numbers) → new ≡ old ++ one ∷ [] → one ≡ f (get_or numbers i 0) → new ≡ map f (take (i + 1) numbers)
one_gathered f numbers i old new one h is more own = more ∙ ((λ k. is k ++ own k ∷ []) ∙ sym (map_more f numbers i 0 h))

-- the one at a place
pub own_spot : (spots : List Spot) (numbers : List ℕ) (near : List Spot) (i : ℕ) → near ≡ map (λ n. spot_at spots n) numbers → i < length numbers
    → get_or near i no_spot ≡ spot_at spots (get_or numbers i 0)
own_spot spots numbers near i are h = ap (λ (l : List Spot). get_or l i no_spot) are ∙ get_or-map (λ (n : ℕ). spot_at spots n) numbers i 0 no_spot h

module _ (stairs : List (Option Stair)) (numbers : List ℕ) where
  abbrev stair : ℕ → Option Stair
  stair n = stair_in stairs n

  -- the one of the spot at a place
  pub own_stair : (own : List (Option Stair)) (i : ℕ) → own ≡ map stair numbers → i < length numbers → stair_in own i ≡ stair (get_or numbers i 0)
  own_stair own i are h = ap (λ (l : List (Option Stair)). stair_in l i) are ∙ get_or-map stair numbers i 0 None h

  -- each is a stair where all are
  pub gathered : AreAllStairs stairs → AreAllStairs (map stair numbers)
  gathered are = record {
    each = λ i found h.
        ⊎_elim (λ (inside : i < length numbers). are.each (get_or numbers i 0) found (sym (get_or-map stair numbers i 0 None inside) ∙ h))
        (λ (past : length numbers ≤ i).
        let n = length-map numbers stair in
        absurd (nothing found (sym (get_or_past (map stair numbers) i None (omega (arith, n, past))) ∙ h)))
        (cases_lt i (length numbers));
  }
    where
      nothing : (found : Stair) → None ≡ Some found → ⊥
      nothing found h = cc
