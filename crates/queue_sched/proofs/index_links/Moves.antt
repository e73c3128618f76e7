-- Rings after a node is put in or taken out.
use Rattle.std.proofs.Common.{◌≡◌, ℕ, ◌+◌, ◌<◌, List, [], ◌∷◌, ◌++◌, refl, sym, ap, ◌∙◌, subst, arith, inl, inr}
use Rattle.std.specs.Prelude.{◌≢◌}
use Rattle.std.proofs.lemmas.Bool.{cases_eq}
use Rattle.std.proofs.lemmas.List.{append-nil}
use Rattle.queue_sched.specs.index_links.Chains.{Has, Apart, without}
use Rattle.queue_sched.specs.index_links.Rings.{Chain, AreRings}
use Rattle.queue_sched.proofs.index_links.Members.{has_left, has_right, has_either, place_of, apart_parts, apart_tail, without_none, without_place, has_without, without_has, apart_without}
use Rattle.queue_sched.proofs.index_links.Collected.{but_at, at_that, at_other}
use Rattle.queue_sched.proofs.index_links.RingLemmas.{IsCell, chain_split, chain_join, last_cell, first_cell, frame, retarget}

-- no cell is of two rings
pub cells_apart : (nx pv ow : ℕ → ℕ) (m n : ℕ) (xss : ℕ → List ℕ) → AreRings nx pv ow m n xss
    → (l j i : ℕ) → l < m → j < m → j ≢ l → IsCell m l (xss l) i → ¬ (IsCell m j (xss j) i)
cells_apart nx pv ow m n xss r l j i hl hj differ (inl e) (inl f) = differ (sym f ∙ e)
cells_apart nx pv ow m n xss r l j i hl hj differ (inl e) (inr g) = absurd (omega (arith, e, g.2, hl))
cells_apart nx pv ow m n xss r l j i hl hj differ (inr g) (inl f) = absurd (omega (arith, f, g.2, hj))
cells_apart nx pv ow m n xss r l j i hl hj differ (inr g) (inr h) =
    let same : g.0 ≡ h.0 = omega (arith, g.2, h.2) in
    differ (sym (r.known j h.0 hj h.1).1 ∙ ap ow (sym same) ∙ (r.known l g.0 hl g.1).1)

-- a node that is in no list is no cell of a ring
pub new_cell : (m l k : ℕ) (xs : List ℕ) → l < m → ¬ (Has xs k) → ¬ (IsCell m l xs (m + k))
new_cell m l k xs h n (inl e) = absurd (omega (arith, h, e))
new_cell m l k xs h n (inr g) = n (subst (λ t. Has xs t) (let e : g.0 ≡ k = omega (arith, g.2) in e) g.1)

-- ---- the rings that are not changed
pub other_ring : (nx pv nx' pv' : ℕ → ℕ) (m j : ℕ) (xs : List ℕ) → Chain nx pv m j xs j
    → ((i : ℕ) → IsCell m j xs i → (nx' i ≡ nx i) × (pv' i ≡ pv i)) → Chain nx' pv' m j xs j
other_ring nx pv nx' pv' m j xs c same =
    frame nx pv nx' pv' m j xs j c (same j (inl refl)).0 (λ k h. (same (m + k) (inr (k, h, refl))).0)
    (λ k h. (same (m + k) (inr (k, h, refl))).1) (same j (inl refl)).1

-- ---- at the end of list l
pub record PushesTail (nx pv ow nx' pv' ow' : ℕ → ℕ) (m l k : ℕ) : Type 0 where
  pub next_last : nx' (pv l) ≡ m + k
  pub next_node : nx' (m + k) ≡ l
  pub next_others : (i : ℕ) → i ≢ pv l → i ≢ m + k → nx' i ≡ nx i
  pub prev_node : pv' (m + k) ≡ pv l
  pub prev_end : pv' l ≡ m + k
  pub prev_others : (i : ℕ) → i ≢ m + k → i ≢ l → pv' i ≡ pv i
  pub owner_node : ow' k ≡ l
  pub owner_others : (j : ℕ) → j ≢ k → ow' j ≡ ow j

tail_ring : (nx pv ow nx' pv' ow' : ℕ → ℕ) (m l k : ℕ) → PushesTail nx pv ow nx' pv' ow' m l k → l < m
    → (xs : List ℕ) → Chain nx pv m l xs l → Apart xs → ¬ (Has xs k) → Chain nx' pv' m l (xs ++ k ∷ []) l
tail_ring nx pv ow nx' pv' ow' m l k p h xs c apart free =
    chain_join nx' pv' m l xs k [] l
    (retarget nx pv nx' pv' m l xs l (m + k) c (λ j g e. absurd (omega (arith, e, h))) apart p.next_last p.prev_node
    (λ i g differs. p.next_others i differs (λ e. new_cell m l k xs h free (subst (λ t. IsCell m l xs t) e g)))
    (λ j g. p.prev_others (m + j) (λ e. free (subst (λ t. Has xs t) (let q : j ≡ k = omega (arith, e) in q) g)) (λ e. absurd (omega (arith, e, h)))))
    (p.next_node, p.prev_end)

pub tail_rings : (nx pv ow nx' pv' ow' : ℕ → ℕ) (m n : ℕ) (xss : ℕ → List ℕ) (l k : ℕ)
    → AreRings nx pv ow m n xss → l < m → k < n → ((j : ℕ) → j < m → ¬ (Has (xss j) k)) → PushesTail nx pv ow nx' pv' ow' m l k
    → AreRings nx' pv' ow' m n (but_at xss l (xss l ++ k ∷ []))
tail_rings nx pv ow nx' pv' ow' m n xss l k r hl hk free p =
    let to : ℕ → List ℕ = but_at xss l (xss l ++ k ∷ []) in
    let at_l : to l ≡ xss l ++ k ∷ [] = at_that xss l (xss l ++ k ∷ []) in
    let at_j : (j : ℕ) → j ≢ l → to j ≡ xss j = λ j d. at_other xss l (xss l ++ k ∷ []) j d in
    let not_k : (j i : ℕ) → j < m → Has (xss j) i → i ≢ k = λ j i hj h e. free j hj (subst (λ t. Has (xss j) t) e h) in
    let last = last_cell nx pv m l (xss l) l (r.rings l hl) in
    record {
      rings = λ j hj. elim (cases_eq j l) [
        | inl e ↦ subst (λ t. Chain nx' pv' m t (to t) t) (sym e)
            (subst (λ t. Chain nx' pv' m l t l) (sym at_l) (tail_ring nx pv ow nx' pv' ow' m l k p hl (xss l) (r.rings l hl) (r.once l hl) (free l hl)))
        | inr d ↦ subst (λ t. Chain nx' pv' m j t j) (sym (at_j j d))
            (other_ring nx pv nx' pv' m j (xss j) (r.rings j hj)
            (λ i g.
            let not_node : i ≢ m + k = λ e. new_cell m j k (xss j) hj (free j hj) (subst (λ t. IsCell m j (xss j) t) e g) in (
              p.next_others i (λ e. cells_apart nx pv ow m n xss r l j i hl hj d (subst (λ t. IsCell m l (xss l) t) (sym e) last.0) g) not_node,
              p.prev_others i not_node (λ e. cells_apart nx pv ow m n xss r l j i hl hj d (inl e) g),
            )))
      ];
      known = λ j i hj h. elim (cases_eq j l) [
        | inl e ↦
            let g : Has (xss l ++ k ∷ []) i = subst (λ t. Has t i) at_l (subst (λ t. Has (to t) i) e h) in
            elim (has_either (xss l) (k ∷ []) i g) [
              | inl f ↦ let q = r.known l i hl f in (q.0, p.owner_others i (not_k l i hl f) ∙ q.1 ∙ sym e)
              | inr f ↦ elim f [ inl q ↦ (subst (λ t. t < n) q hk, ap ow' (sym q) ∙ p.owner_node ∙ sym e) | inr q ↦ absurd q ]
            ]
        | inr d ↦
            let g : Has (xss j) i = subst (λ t. Has t i) (at_j j d) h in
            let q = r.known j i hj g in (q.0, p.owner_others i (not_k j i hj g) ∙ q.1)
      ];
      once = λ j hj. elim (cases_eq j l) [
        | inl e ↦ subst (λ t. Apart (to t)) (sym e) (subst (λ t. Apart t) (sym at_l) (apart_tail (xss l) k (r.once l hl) (free l hl)))
        | inr d ↦ subst (λ t. Apart t) (sym (at_j j d)) (r.once j hj)
      ];
      owned = λ i hi o. elim (cases_eq i k) [
        | inl e ↦
            let q : ow' i ≡ l = ap ow' e ∙ p.owner_node in
            subst (λ t. Has (to t) i) (sym q) (subst (λ t. Has t i) (sym at_l) (has_right (xss l) (k ∷ []) i (inl (sym e))))
        | inr d ↦
            let q : ow' i ≡ ow i = p.owner_others i d in
            let old : Has (xss (ow i)) i = r.owned i hi (subst (λ t. t < m) q o) in
            subst (λ t. Has (to t) i) (sym q)
            (elim (cases_eq (ow i) l) [
              | inl e ↦ subst (λ t. Has (to t) i) (sym e) (subst (λ t. Has t i) (sym at_l) (has_left (xss l) (k ∷ []) i (subst (λ t. Has (xss t) i) e old)))
              | inr g ↦ subst (λ t. Has t i) (sym (at_j (ow i) g)) old
            ])
      ];
    }

-- ---- at the head of list l
pub record PushesHead (nx pv ow nx' pv' ow' : ℕ → ℕ) (m l k : ℕ) : Type 0 where
  pub next_end : nx' l ≡ m + k
  pub next_node : nx' (m + k) ≡ nx l
  pub next_others : (i : ℕ) → i ≢ l → i ≢ m + k → nx' i ≡ nx i
  pub prev_node : pv' (m + k) ≡ l
  pub prev_first : pv' (nx l) ≡ m + k
  pub prev_others : (i : ℕ) → i ≢ m + k → i ≢ nx l → pv' i ≡ pv i
  pub owner_node : ow' k ≡ l
  pub owner_others : (j : ℕ) → j ≢ k → ow' j ≡ ow j

head_rest : (nx pv ow nx' pv' ow' : ℕ → ℕ) (m l k : ℕ) → PushesHead nx pv ow nx' pv' ow' m l k → l < m
    → (xs : List ℕ) → Chain nx pv m l xs l → Apart xs → ¬ (Has xs k) → Chain nx' pv' m (m + k) xs l
head_rest nx pv ow nx' pv' ow' m l k p h [] c apart free = (p.next_node ∙ c.0, ap pv' (sym c.0) ∙ p.prev_first)
head_rest nx pv ow nx' pv' ow' m l k p h (y ∷ ys) c apart free =
    let not_k : (j : ℕ) → Has (y ∷ ys) j → m + j ≢ m + k = λ j g e. free (subst (λ t. Has (y ∷ ys) t) (let q : j ≡ k = omega (arith, e) in q) g) in
    let not_end : (j : ℕ) → m + j ≢ l = λ j e. absurd (omega (arith, e, h)) in (
      p.next_node ∙ c.0,
      ap pv' (sym c.0) ∙ p.prev_first,
      frame nx pv nx' pv' m (m + y) ys l c.2 (p.next_others (m + y) (not_end y) (not_k y (inl refl)))
          (λ j g. p.next_others (m + j) (not_end j) (not_k j (inr g)))
          (λ j g. p.prev_others (m + j) (not_k j (inr g)) (λ e. apart.0 (subst (λ t. Has ys t) (let q : j ≡ y = omega (arith, e, c.0) in q) g)))
          (p.prev_others l (λ e. absurd (omega (arith, e, h))) (λ e. not_end y (sym c.0 ∙ sym e))),
    )

pub head_rings : (nx pv ow nx' pv' ow' : ℕ → ℕ) (m n : ℕ) (xss : ℕ → List ℕ) (l k : ℕ)
    → AreRings nx pv ow m n xss → l < m → k < n → ((j : ℕ) → j < m → ¬ (Has (xss j) k)) → PushesHead nx pv ow nx' pv' ow' m l k
    → AreRings nx' pv' ow' m n (but_at xss l (k ∷ xss l))
head_rings nx pv ow nx' pv' ow' m n xss l k r hl hk free p =
    let to : ℕ → List ℕ = but_at xss l (k ∷ xss l) in
    let at_l : to l ≡ k ∷ xss l = at_that xss l (k ∷ xss l) in
    let at_j : (j : ℕ) → j ≢ l → to j ≡ xss j = λ j d. at_other xss l (k ∷ xss l) j d in
    let not_k : (j i : ℕ) → j < m → Has (xss j) i → i ≢ k = λ j i hj h e. free j hj (subst (λ t. Has (xss j) t) e h) in
    let first = first_cell nx pv m l (xss l) l (r.rings l hl) in
    record {
      rings = λ j hj. elim (cases_eq j l) [
        | inl e ↦ subst (λ t. Chain nx' pv' m t (to t) t) (sym e)
            (subst (λ t. Chain nx' pv' m l t l) (sym at_l)
            (p.next_end, p.prev_node, head_rest nx pv ow nx' pv' ow' m l k p hl (xss l) (r.rings l hl) (r.once l hl) (free l hl)))
        | inr d ↦ subst (λ t. Chain nx' pv' m j t j) (sym (at_j j d))
            (other_ring nx pv nx' pv' m j (xss j) (r.rings j hj)
            (λ i g.
            let not_node : i ≢ m + k = λ e. new_cell m j k (xss j) hj (free j hj) (subst (λ t. IsCell m j (xss j) t) e g) in (
              p.next_others i (λ e. cells_apart nx pv ow m n xss r l j i hl hj d (inl e) g) not_node,
              p.prev_others i not_node (λ e. cells_apart nx pv ow m n xss r l j i hl hj d (subst (λ t. IsCell m l (xss l) t) (sym e) first.0) g),
            )))
      ];
      known = λ j i hj h. elim (cases_eq j l) [
        | inl e ↦
            let g : Has (k ∷ xss l) i = subst (λ t. Has t i) at_l (subst (λ t. Has (to t) i) e h) in
            elim g [
              | inl q ↦ (subst (λ t. t < n) q hk, ap ow' (sym q) ∙ p.owner_node ∙ sym e)
              | inr f ↦ let q = r.known l i hl f in (q.0, p.owner_others i (not_k l i hl f) ∙ q.1 ∙ sym e)
            ]
        | inr d ↦
            let g : Has (xss j) i = subst (λ t. Has t i) (at_j j d) h in
            let q = r.known j i hj g in (q.0, p.owner_others i (not_k j i hj g) ∙ q.1)
      ];
      once = λ j hj. elim (cases_eq j l) [
        | inl e ↦ subst (λ t. Apart (to t)) (sym e) (subst (λ t. Apart t) (sym at_l) (free l hl, r.once l hl))
        | inr d ↦ subst (λ t. Apart t) (sym (at_j j d)) (r.once j hj)
      ];
      owned = λ i hi o. elim (cases_eq i k) [
        | inl e ↦
            let q : ow' i ≡ l = ap ow' e ∙ p.owner_node in
            subst (λ t. Has (to t) i) (sym q) (subst (λ t. Has t i) (sym at_l) (inl (sym e)))
        | inr d ↦
            let q : ow' i ≡ ow i = p.owner_others i d in
            let old : Has (xss (ow i)) i = r.owned i hi (subst (λ t. t < m) q o) in
            subst (λ t. Has (to t) i) (sym q)
            (elim (cases_eq (ow i) l) [
              | inl e ↦ subst (λ t. Has (to t) i) (sym e) (subst (λ t. Has t i) (sym at_l) (inr (subst (λ t. Has (xss t) i) e old)))
              | inr g ↦ subst (λ t. Has t i) (sym (at_j (ow i) g)) old
            ])
      ];
    }

-- ---- out of list l
pub record TakesOut (nx pv ow nx' pv' ow' : ℕ → ℕ) (m k : ℕ) : Type 0 where
  pub next_before : nx' (pv (m + k)) ≡ nx (m + k)
  pub next_others : (i : ℕ) → i ≢ pv (m + k) → nx' i ≡ nx i
  pub prev_behind : pv' (nx (m + k)) ≡ pv (m + k)
  pub prev_others : (i : ℕ) → i ≢ nx (m + k) → pv' i ≡ pv i
  pub owner_node : ow' k ≡ m
  pub owner_others : (j : ℕ) → j ≢ k → ow' j ≡ ow j

out_ring : (nx pv ow nx' pv' ow' : ℕ → ℕ) (m l k : ℕ) → TakesOut nx pv ow nx' pv' ow' m k → l < m
    → (xs ys : List ℕ) → Chain nx pv m l (xs ++ k ∷ ys) l → Apart (xs ++ k ∷ ys) → Chain nx' pv' m l (xs ++ ys) l
out_ring nx pv ow nx' pv' ow' m l k p h xs [] c apart =
    let parts = apart_parts xs k [] apart in
    let r = chain_split nx pv m l xs k [] l c in
    let to_end : nx (m + k) ≡ l = r.1.0 in
    rw (append-nil)
    (retarget nx pv nx' pv' m l xs (m + k) l r.0 (λ j g e. absurd (omega (arith, e, h))) parts.front
    (p.next_before ∙ to_end) (ap pv' (sym to_end) ∙ p.prev_behind) (λ i g d. p.next_others i d)
    (λ j g. p.prev_others (m + j) (λ e. absurd (omega (arith, e, to_end, h)))))
out_ring nx pv ow nx' pv' ow' m l k p h xs (y ∷ ys) c apart =
    let parts = apart_parts xs k (y ∷ ys) apart in
    let r = chain_split nx pv m l xs k (y ∷ ys) l c in
    let to_y : nx (m + k) ≡ m + y = r.1.0 in
    let last = last_cell nx pv m l xs (m + k) r.0 in
    let not_before : (j : ℕ) → Has (y ∷ ys) j → m + j ≢ pv (m + k) = λ j g e. elim last.0 [
      | inl i ↦ absurd (omega (arith, e, i, h))
      | inr f ↦ parts.no_both j (subst (λ t. Has xs t) (let q : f.0 ≡ j = omega (arith, f.2, e) in q) f.1) g
    ] in
    let not_y : (j : ℕ) → j ≢ y → m + j ≢ nx (m + k) = λ j d e. d (let q : j ≡ y = omega (arith, e, to_y) in q) in
    chain_join nx' pv' m l xs y ys l
    (retarget nx pv nx' pv' m l xs (m + k) (m + y) r.0 (λ j g e. absurd (omega (arith, e, h))) parts.front
    (p.next_before ∙ to_y) (ap pv' (sym to_y) ∙ p.prev_behind) (λ i g d. p.next_others i d)
    (λ j g. p.prev_others (m + j) (not_y j (λ e. parts.no_both j g (inl (sym e))))))
    (frame nx pv nx' pv' m (m + y) ys l r.1.2 (p.next_others (m + y) (not_before y (inl refl)))
    (λ j g. p.next_others (m + j) (not_before j (inr g)))
    (λ j g. p.prev_others (m + j) (not_y j (λ e. parts.back.0 (subst (λ t. Has ys t) e g))))
    (p.prev_others l (λ e. absurd (omega (arith, e, to_y, h)))))

pub out_rings : (nx pv ow nx' pv' ow' : ℕ → ℕ) (m n : ℕ) (xss : ℕ → List ℕ) (l k : ℕ)
    → AreRings nx pv ow m n xss → l < m → Has (xss l) k → TakesOut nx pv ow nx' pv' ow' m k
    → AreRings nx' pv' ow' m n (λ j. without k (xss j))
out_rings nx pv ow nx' pv' ow' m n xss l k r hl has p =
    let owner_k : ow k ≡ l = (r.known l k hl has).1 in
    let not_there : (j : ℕ) → j < m → j ≢ l → ¬ (Has (xss j) k) = λ j hj d h. d (sym (r.known j k hj h).1 ∙ owner_k) in
    let place = place_of (xss l) k has in
    let ring : Chain nx pv m l (place.0 ++ k ∷ place.1) l = subst (λ t. Chain nx pv m l t l) place.2 (r.rings l hl) in
    let apart : Apart (place.0 ++ k ∷ place.1) = subst (λ t. Apart t) place.2 (r.once l hl) in
    let parts = apart_parts place.0 k place.1 apart in
    let is_out : without k (xss l) ≡ place.0 ++ place.1 = ap (without k) place.2 ∙ without_place place.0 k place.1 parts.not_front parts.not_back in
    let split = chain_split nx pv m l place.0 k place.1 l ring in
    let before : IsCell m l (xss l) (pv (m + k)) = elim (last_cell nx pv m l place.0 (m + k) split.0).0 [
      | inl e ↦ inl e
      | inr g ↦ inr (g.0, subst (λ t. Has t g.0) (sym place.2) (has_left place.0 (k ∷ place.1) g.0 g.1), g.2)
    ] in
    let behind : IsCell m l (xss l) (nx (m + k)) = elim (first_cell nx pv m (m + k) place.1 l split.1).0 [
      | inl e ↦ inl e
      | inr g ↦ inr (g.0, subst (λ t. Has t g.0) (sym place.2) (has_right place.0 (k ∷ place.1) g.0 (inr g.1)), g.2)
    ] in
    record {
      rings = λ j hj. elim (cases_eq j l) [
        | inl e ↦ subst (λ t. Chain nx' pv' m t (without k (xss t)) t) (sym e)
            (subst (λ t. Chain nx' pv' m l t l) (sym is_out) (out_ring nx pv ow nx' pv' ow' m l k p hl place.0 place.1 ring apart))
        | inr d ↦ subst (λ t. Chain nx' pv' m j t j) (sym (without_none k (xss j) (not_there j hj d)))
            (other_ring nx pv nx' pv' m j (xss j) (r.rings j hj)
            (λ i g. (
              p.next_others i (λ e. cells_apart nx pv ow m n xss r l j i hl hj d (subst (λ t. IsCell m l (xss l) t) (sym e) before) g),
              p.prev_others i (λ e. cells_apart nx pv ow m n xss r l j i hl hj d (subst (λ t. IsCell m l (xss l) t) (sym e) behind) g),
            )))
      ];
      known = λ j i hj h. let g = has_without k i (xss j) h in let q = r.known j i hj g.0 in (q.0, p.owner_others i g.1 ∙ q.1);
      once = λ j hj. apart_without k (xss j) (r.once j hj);
      owned = λ i hi o. elim (cases_eq i k) [
        | inl e ↦ let q : ow' i ≡ m = ap ow' e ∙ p.owner_node in absurd (omega (arith, q, o))
        | inr d ↦
            let q : ow' i ≡ ow i = p.owner_others i d in
            subst (λ t. Has (without k (xss t)) i) (sym q) (without_has k i (xss (ow i)) (r.owned i hi (subst (λ t. t < m) q o)) d)
      ];
    }
