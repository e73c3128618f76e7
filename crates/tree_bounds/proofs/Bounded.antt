-- The bounds of a link, node by node.
use Rattle.std.proofs.Common.{◌≡◌, ℕ, ◌<◌, ◌≤◌, ◌+◌, ◌*◌, ◌^◌, Option, Some, None, List, [], ◌∷◌, ◌++◌, length, get_or, refl, sym, ◌∙◌, ap, subst, arith, inl, inr, length-append}
use Rattle.std.specs.Prelude.{IfSome, slice_get}
use Rattle.std.proofs.lemmas.Bool.{cases_lt}
use Rattle.std.proofs.lemmas.List.{get_or_append_left, get_or_at}
use Rattle.arrival_lines.specs.declared.grid.Queue.{Queue}
use Rattle.tree_network.specs.Networks.{node_at, port_at, HangsBefore}
use Rattle.tree_network.specs.declared.network.Link.{Link}
use Rattle.tree_network.specs.declared.network.Network.{Network}
use Rattle.tree_bounds.specs.Solved.{HaveBounds}
use Rattle.tree_bounds.specs.Tables.{AreBounds, time_at, time_after, time_before}

-- so far, none of them above so much a node
pub record BoundsBelow (net : Network) (row : ℕ → ℕ → Option Queue) (link : Link) (k : ℕ) (bounds : List (Option ℕ)) : Type 0 where
  pub count : length bounds ≡ k
  pub each : (place : ℕ) → place < k → get_or bounds place None ≡ time_at net row link bounds place
  pub few : (place : ℕ) → place < k → IfSome (get_or bounds place None) (λ b. b ≤ (place + 1) * 2 ^ 65)

-- a bound more changes none of those before
time_same : (net : Network) (row : ℕ → ℕ → Option Queue) (link : Link) (bounds : List (Option ℕ)) (b : Option ℕ) (k place : ℕ) → length bounds ≡ k → place ≤ k
    → HangsBefore place (node_at link place).from → time_at net row link (bounds ++ b ∷ []) place ≡ time_at net row link bounds place
time_same net row link bounds b k place count le h =
    ap (λ t. time_after t (row (node_at link place).port (node_at link place).queue) (port_at net (node_at link place).port).link)
    (by_node (node_at link place).from h)
  where
    by_node : (from : Option ℕ) → HangsBefore place from → time_before (bounds ++ b ∷ []) from ≡ time_before bounds from
    by_node None h = refl
    by_node (Some q) h = get_or_append_left bounds (b ∷ []) None q (omega (arith, h, le, count))

-- the bound of the node before
pub before_few : (net : Network) (row : ℕ → ℕ → Option Queue) (link : Link) (k : ℕ) (bounds : List (Option ℕ)) (from : Option ℕ) → BoundsBelow net row link k bounds
    → HangsBefore k from → IfSome (time_before bounds from) (λ b. b ≤ k * 2 ^ 65)
before_few net row link k bounds None b h = omega arith
before_few net row link k bounds (Some place) b h = by_bound (get_or bounds place None) (b.few place h)
  where
    by_bound : (o : Option ℕ) → IfSome o (λ x. x ≤ (place + 1) * 2 ^ 65) → IfSome o (λ x. x ≤ k * 2 ^ 65)
    by_bound None e = tt
    by_bound (Some x) e = omega (arith, e, h)

pub bound_more : (net : Network) (row : ℕ → ℕ → Option Queue) (link : Link) (k : ℕ) (bounds : List (Option ℕ)) (b : Option ℕ)
    → ((place : ℕ) → place ≤ k → HangsBefore place (node_at link place).from) → b ≡ time_at net row link bounds k
    → IfSome b (λ x. x ≤ k * 2 ^ 65 + 2 ^ 65) → BoundsBelow net row link k bounds → BoundsBelow net row link (k + 1) (bounds ++ b ∷ [])
bound_more net row link k bounds b hangs is small old = record {
  count = length-append bounds (b ∷ []) ∙ ap (λ n. n + 1) old.count;
  each = each;
  few = few;
}
  where
    each : (place : ℕ) → place < k + 1 → get_or (bounds ++ b ∷ []) place None ≡ time_at net row link (bounds ++ b ∷ []) place
    each place h =
        elim (cases_lt place k) [
          | inl l ↦
              get_or_append_left bounds (b ∷ []) None place (omega (arith, l, old.count)) ∙ old.each place l
              ∙ sym (time_same net row link bounds b k place old.count (omega (arith, l)) (hangs place (omega (arith, l))))
          | inr l ↦
              let last : k ≡ place = omega (arith, l, h) in
              let P : ℕ → Type 0 = λ m. get_or (bounds ++ b ∷ []) m None ≡ time_at net row link (bounds ++ b ∷ []) m in
              subst P last (get_or_at bounds b [] None k old.count ∙ is ∙ sym (time_same net row link bounds b k k old.count (omega arith) (hangs k (omega arith))))
        ]

    few : (place : ℕ) → place < k + 1 → IfSome (get_or (bounds ++ b ∷ []) place None) (λ x. x ≤ (place + 1) * 2 ^ 65)
    few place h =
        elim (cases_lt place k) [
          | inl l ↦
              let P : Option ℕ → Type 0 = λ o. IfSome o (λ x. x ≤ (place + 1) * 2 ^ 65) in
              subst P (sym (get_or_append_left bounds (b ∷ []) None place (omega (arith, l, old.count)))) (old.few place l)
          | inr l ↦
              let last : k ≡ place = omega (arith, l, h) in
              let P : Option ℕ → Type 0 = λ o. IfSome o (λ x. x ≤ (place + 1) * 2 ^ 65) in
              subst P (sym (get_or_at bounds b [] None place (old.count ∙ last))) (enough b small last)
        ]
      where
        enough : (o : Option ℕ) → IfSome o (λ x. x ≤ k * 2 ^ 65 + 2 ^ 65) → k ≡ place → IfSome o (λ x. x ≤ (place + 1) * 2 ^ 65)
        enough None e same = tt
        enough (Some x) e same = omega (arith, e, same)

-- ---- of several links
pub link_more : (net : Network) (row : ℕ → ℕ → Option Queue) (k : ℕ) (bounds : List (List (Option ℕ))) (new : List (Option ℕ))
    → ((link : Link) → slice_get net.links.items k ≡ Some link → AreBounds net row link new) → HaveBounds net row k bounds
    → HaveBounds net row (k + 1) (bounds ++ new ∷ [])
link_more net row k bounds new is old = record {
  count = length-append bounds (new ∷ []) ∙ ap (λ n. n + 1) old.count;
  each = each;
}
  where
    each : (i : ℕ) (link : Link) → i < k + 1 → slice_get net.links.items i ≡ Some link → AreBounds net row link (get_or (bounds ++ new ∷ []) i [])
    each i link h e =
        let P : List (Option ℕ) → Type 0 = λ bs. AreBounds net row link bs in
        elim (cases_lt i k) [
          | inl l ↦ subst P (sym (get_or_append_left bounds (new ∷ []) [] i (omega (arith, l, old.count)))) (old.each i link l e)
          | inr l ↦
              let last : i ≡ k = omega (arith, l, h) in
              let S : ℕ → Type 0 = λ j. slice_get net.links.items j ≡ Some link in
              subst P (sym (get_or_at bounds new [] [] i (old.count ∙ sym last))) (is link (subst S last e))
        ]
