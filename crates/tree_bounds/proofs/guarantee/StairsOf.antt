-- The stairs that meet the equations are stairs.
use Rattle.std.proofs.Common.{◌≡◌, ℕ, zero, suc, ◌<◌, Option, Some, None, length, refl, sym, ◌∙◌, subst, arith}
use Rattle.std.specs.Prelude.{slice_get}
use Rattle.std.proofs.lemmas.Option.{get_or_from_slice_get}
use Rattle.arrival_lines.specs.declared.grid.Queue.{Queue}
use Rattle.arrival_stairs.specs.Stairs.{IsStair}
use Rattle.arrival_stairs.specs.declared.stairs.Stair.{Stair}
use Rattle.tree_network.specs.Networks.{IsNetwork, IsLink}
use Rattle.tree_network.specs.declared.network.Link.{Link}
use Rattle.tree_network.specs.declared.network.Network.{Network}
use Rattle.tree_network.specs.Spots.{spot_at, spots_of, AreSpots, ComesFrom}
use Rattle.tree_network.proofs.InRange.{in_range}
use Rattle.tree_bounds.specs.Equations.{MeetsEquations}
use Rattle.tree_bounds.specs.Stairs.{first_stair, first_stair_of}
use Rattle.tree_bounds.proofs.Onwards.{first_range, if_range, later_range}

module _ (net : Network) (w : IsNetwork net) (row : ℕ → ℕ → Option Queue) (stair : ℕ → Option Stair) (meets : MeetsEquations net row stair) where
  first_is_one : (o : Option Link) (i : ℕ) (s : Stair) → i < length net.links.items → slice_get net.links.items i ≡ o → first_stair_of o ≡ Some s → IsStair s
  first_is_one None i s inside e f = absurd (let g : None ≡ Some s = f in cc)
  first_is_one (Some link) i s inside e f =
      let L : Link → Type 0 = λ x. IsLink net x in
      let is = subst L (get_or_from_slice_get net.links.items i link link e) (w.links i link inside) in
      if_range (first_stair link) (first_range link is.frame is.some_gap) s f

  ranged : AreSpots net (spots_of net)
  ranged = in_range net w

  below : (m n : ℕ) (s : Stair) → n < m → n < length (spots_of net) → stair n ≡ Some s → IsStair s
  below zero n s early inside e = absurd (omega (arith, early))
  below (suc m) n s early inside e = by_source (λ k t lt within f. below m k t lt within f) (spot_at (spots_of net) n).source refl
    where
      by_source : ((k : ℕ) (t : Stair) → k < m → k < length (spots_of net) → stair k ≡ Some t → IsStair t) → (k : ℕ) → (spot_at (spots_of net) n).source ≡ k → IsStair s
      by_source rest zero from =
          let i = (spot_at (spots_of net) n).link in
          first_is_one (slice_get net.links.items i) i s (ranged.each n inside).link refl (sym (meets.begins n inside from) ∙ e)
      by_source rest (suc a) from =
          let before = (spot_at (spots_of net) n).from in
          let P : ℕ → Type 0 = λ k. ComesFrom (spots_of net) (spot_at (spots_of net) n) n k in
          let c = subst P from (ranged.each n inside).comes in
          later_range (stair before) (row a (spot_at (spots_of net) before).queue) s
          (λ t f. rest before t (let l = c.0 in omega (arith, l, early)) (let l = c.0 in omega (arith, l, inside)) f)
          (sym (meets.goes_on n a inside from) ∙ e)

  pub all_stairs : (n : ℕ) (s : Stair) → n < length (spots_of net) → stair n ≡ Some s → IsStair s
  all_stairs n s inside e = below (suc n) n s (omega arith) inside e
