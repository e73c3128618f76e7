-- Of a network one cycle at most is told.
use Rattle.std.proofs.Common.{◌≡◌, ℕ, zero, suc, ◌≤◌, List, [], ◌∷◌, ◌++◌, reverse, refl, sym, ◌∙◌, ap, ap₂, subst, arith, inl, inr, true, false, nat_eq}
use Rattle.std.specs.List.{AllByRecursion}
use Rattle.std.proofs.lemmas.Bool.{cases_lt}
use Rattle.std.proofs.lemmas.Cmp.{nat_eq_equiv}
use Rattle.std.proofs.lemmas.List.{reverse-reverse}
use Rattle.std.proofs.lemmas.List.Sorted.{IsPermutation-cons, IsPermutation-reverse}
use Rattle.std.proofs.lemmas.Map.Keys.{IsDistinct-head, IsDistinct-IsPermutation}
use Rattle.upp_limits.proofs.LeastNumbers.{least_unique}
use Rattle.run_laws.specs.Members.{Has}
use Rattle.run_laws.proofs.Members.{has_left, has_right, has_contains}
use Rattle.net_model.specs.Walks.{Chain, IsNext, IsBehind, IsRing, IsRingBefore, IsEndless, IsFirstBefore}
use Rattle.net_model.specs.net_graph.OrderLaws.{OneCycle}
use Rattle.net_model.proofs.net_graph.Members.{all_contains}
use Rattle.net_model.proofs.net_graph.Chains.{back, turned}
use Rattle.net_model.proofs.net_graph.Rings.{ends_alike}
use Rattle.net_model.proofs.net_graph.Behind.{IsOneBefore, longer, one_before, from_first}

module _ (R : ℕ → ℕ → Type 0) (one : IsOneBefore R) where
  steps_of : (walk : List ℕ) → (r : IsRing R walk) → Chain R (r.start ∷ (r.between ++ r.start ∷ []))
  steps_of walk r = let P : List ℕ → Type 0 = λ w. Chain R w in subst P r.is r.steps

  -- the one before a place of a ring is on it
  before_on_ring : (walk : List ℕ) (r : IsRing R walk) (c t : ℕ) → Has (r.start ∷ r.between) t → R c t → Has (r.start ∷ r.between) c
  before_on_ring walk r c t h s =
      let P : ℕ → Type 0 = λ x. Has (r.start ∷ r.between) x in
      let p = one_before R r.start r.between r.start t (steps_of walk r) (at_end h) in
      subst P (one p.0 c t p.1 s) p.2
    where
      at_end : Has (r.start ∷ r.between) t → Has (r.between ++ r.start ∷ []) t
      at_end (inl e) = has_right r.between (r.start ∷ []) t (inl e)
      at_end (inr g) = has_left r.between (r.start ∷ []) t g

  stays_on_ring : (walk : List ℕ) (r : IsRing R walk) (n c t : ℕ) → Has (r.start ∷ r.between) t → IsBehind R n c t → Has (r.start ∷ r.between) c
  stays_on_ring walk r zero c t h e = let P : ℕ → Type 0 = λ x. Has (r.start ∷ r.between) x in subst P (sym e) h
  stays_on_ring walk r (suc n) c t h w = stays_on_ring walk r n c w.0 (before_on_ring walk r w.0 t h w.1) w.2

  starts_least : (walk : List ℕ) (r : IsRing R walk) (t : ℕ) → Has (r.start ∷ r.between) t → r.start ≤ t
  starts_least walk r t (inl e) = omega (arith, e)
  starts_least walk r t (inr h) = all_contains (λ s. r.start ≤ s) r.between t r.least (has_contains r.between t h)

  -- where one comes from one ring to the start of the other they start alike
  alike : (x y : List ℕ) (g : IsRing R x) (h : IsRing R y) (n : ℕ) → IsBehind R n h.start g.start → g.start ≡ h.start
  alike x y g h n w =
      let there = stays_on_ring x g n h.start g.start (inl refl) w in
      let round = from_first R g.start (g.between ++ g.start ∷ []) h.start (steps_of x g) (in_walk there) in
      let back_again = stays_on_ring y h round.0 g.start h.start (inl refl) round.1 in
      let low = starts_least x g h.start there in
      let high = starts_least y h g.start back_again in
      omega arith
    where
      in_walk : Has (g.start ∷ g.between) h.start → Has (g.start ∷ (g.between ++ g.start ∷ [])) h.start
      in_walk (inl e) = inl e
      in_walk (inr k) = inr (has_left g.between (g.start ∷ []) h.start k)

  -- from one place back to another there is one way that does not pass it
  one_way : (t s : ℕ) (p q : List ℕ) → Chain (back R) (t ∷ (p ++ s ∷ [])) → Chain (back R) (t ∷ (q ++ s ∷ [])) → ¬ (Has p s) → ¬ (Has q s) → p ≡ q
  one_way t s [] [] c d np nq = refl
  one_way t s [] (y ∷ q) c d np nq = absurd (nq (inl (one y s t d.0 c.0)))
  one_way t s (x ∷ p) [] c d np nq = absurd (np (inl (one x s t c.0 d.0)))
  one_way t s (x ∷ p) (y ∷ q) c d np nq =
      let same : y ≡ x = one y x t d.0 c.0 in
      let P : ℕ → Type 0 = λ z. Chain (back R) (z ∷ (q ++ s ∷ [])) in
      ap₂ (λ (z : ℕ) (zs : List ℕ). z ∷ zs) (sym same) (one_way x s p q c.1 (subst P same d.1) (λ h. np (inr h)) (λ h. nq (inr h)))

  back_way : (walk : List ℕ) (r : IsRing R walk) → Chain (back R) (r.start ∷ (reverse r.between ++ r.start ∷ []))
  back_way walk r =
      let P : List ℕ → Type 0 = λ w. Chain (back R) w in
      subst P (ends_alike r.start r.between) (turned (back R) (r.start ∷ (r.between ++ r.start ∷ [])) (steps_of walk r))

  apart_of : (x : ℕ) (ys : List ℕ) → AllByRecursion (λ y. nat_eq x y ≡ false) ys → ¬ (Has ys x)
  apart_of x [] a h = h
  apart_of x (y ∷ ys) a (inl e) =
      let P : ℕ → Type 0 = λ z. nat_eq x z ≡ false in
      let f : true ≡ false = sym (nat_eq_equiv.refl x) ∙ subst P e a.0 in
      absurd cc
  apart_of x (y ∷ ys) a (inr h) = apart_of x ys a.1 h

  passes_once : (walk : List ℕ) (r : IsRing R walk) → ¬ (Has (reverse r.between) r.start)
  passes_once walk r =
      apart_of r.start (reverse r.between) (IsDistinct-head nat_eq r.start (reverse r.between)
      (IsDistinct-IsPermutation nat_eq nat_eq_equiv.symm (r.start ∷ r.between) (r.start ∷ reverse r.between)
      (IsPermutation-cons r.start r.between (reverse r.between) (IsPermutation-reverse r.between)) r.once))

  same_ring : (x y : List ℕ) (g : IsRing R x) (h : IsRing R y) → g.start ≡ h.start → x ≡ y
  same_ring x y g h e =
      let P : ℕ → Type 0 = λ s. Chain (back R) (s ∷ (reverse h.between ++ s ∷ [])) in
      let Q : ℕ → Type 0 = λ s. ¬ (Has (reverse h.between) s) in
      let turned_alike : reverse g.between ≡ reverse h.between =
      one_way g.start g.start (reverse g.between) (reverse h.between) (back_way x g) (subst P (sym e) (back_way y h)) (passes_once x g)
      (subst Q (sym e) (passes_once y h)) in
      let betweens : g.between ≡ h.between = sym (reverse-reverse g.between) ∙ ap reverse turned_alike ∙ reverse-reverse h.between in
      g.is ∙ ap₂ (λ (s : ℕ) (bs : List ℕ). s ∷ (bs ++ s ∷ [])) e betweens ∙ sym h.is

  one_ring : (K : ℕ → Type 0) (x y : List ℕ) → IsRingBefore K R x → IsRingBefore K R y → x ≡ y
  one_ring K x y g h = same_ring x y g.ring h.ring (elim (cases_lt h.steps g.steps) [ inl l ↦ sym (turned_starts (omega arith)) | inr l ↦ starts l ])
    where
      from_one : h.from ≡ g.from
      from_one = least_unique K h.from g.from h.is_least g.is_least

      comes : IsBehind R h.steps h.ring.start g.from
      comes = let P : ℕ → Type 0 = λ s. IsBehind R h.steps h.ring.start s in subst P from_one h.comes

      starts : g.steps ≤ h.steps → g.ring.start ≡ h.ring.start
      starts l =
          let w = longer R one g.steps h.steps g.ring.start h.ring.start g.from g.comes comes l in
          alike x y g.ring h.ring w.0 w.1

      turned_starts : h.steps ≤ g.steps → h.ring.start ≡ g.ring.start
      turned_starts l =
          let w = longer R one h.steps g.steps h.ring.start g.ring.start g.from comes g.comes l in
          alike y x h.ring g.ring w.0 w.1

pub one_cycle : OneCycle
one_cycle net x y = one_ring (IsFirstBefore net) (λ a b c h k. least_unique (λ s. IsNext net s c × IsEndless net s) a b h k) (IsEndless net) x y
