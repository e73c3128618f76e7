-- Taking out the first node is dropping it from its list.
use Rattle.std.proofs.Common.{◌≡◌, ℕ, ◌<◌, List, [], ◌∷◌, length, get_or, set, map, drop, refl, sym, ap, ◌∙◌, subst, arith, inl, inr, Some}
use Rattle.std.proofs.lemmas.Bool.{cases_eq, eq-eqb}
use Rattle.std.proofs.lemmas.List.{get_or-set_same, get_or-set_other, get_or-map, ext_get_or}
use Rattle.std.proofs.Math.ListN.{length-set, length-map}
use Rattle.queue_sched.specs.index_links.Chains.{Chains, list_at, Has, Apart, first_of, without, with_list, unlinked, AreDisjoint}
use Rattle.queue_sched.proofs.index_links.Members.{without_none}

pub first_has : (xs : List ℕ) (k : ℕ) → first_of xs ≡ Some k → Has xs k
first_has [] k e = absurd (cc)
first_has (x ∷ xs) k e = inl (cc)

without_first : (xs : List ℕ) (k : ℕ) → first_of xs ≡ Some k → Apart xs → without k xs ≡ drop 1 xs
without_first [] k e a = refl
without_first (x ∷ xs) k e a =
    let same : x ≡ k = cc in
    rw (eq-eqb x k same) (without_none k xs (λ h. a.0 (subst (λ t. Has xs t) (sym same) h)))

pub popped : (v : Chains) (l k : ℕ) → AreDisjoint v → l < length v.lists → first_of (list_at v l) ≡ Some k
    → unlinked v k ≡ with_list v l (drop 1 (list_at v l))
popped v l k d h e =
    let ys = drop 1 (list_at v l) in
    let lists : map (without k) v.lists ≡ set v.lists l ys =
    ext_get_or [] (map (without k) v.lists) (set v.lists l ys) (length-map v.lists (without k) ∙ sym (length-set v.lists l ys))
    (λ j g.
    let in_all : j < length v.lists = omega (arith, g, length-map v.lists (without k)) in
    get_or-map (without k) v.lists j [] [] in_all
    ∙ elim (cases_eq j l) [
      | inl q ↦ ap (λ t. without k (list_at v t)) q ∙ without_first (list_at v l) k e (d.once l)
          ∙ sym (ap (λ t. get_or (set v.lists l ys) t []) q ∙ get_or-set_same v.lists l ys [] h)
      | inr n ↦ without_none k (list_at v j) (λ has. n (d.in_one j l k has (first_has (list_at v l) k e)))
          ∙ sym (get_or-set_other v.lists l j ys [] n)
    ])
    in
    ap (λ t. let w : Chains = record { nodes = v.nodes; lists = t } in w) lists
