-- Members of lists, and lists without a node.
use Rattle.std.proofs.Common.{◌≡◌, ℕ, List, [], ◌∷◌, ◌++◌, refl, sym, ap, ◌∙◌, subst, inl, inr, ◌⊎◌}
use Rattle.std.specs.Prelude.{◌≢◌}
use Rattle.std.proofs.lemmas.Bool.{cases_eq, ne_eqb, eq-eqb}
use Rattle.queue_sched.specs.index_links.Chains.{Has, Apart, without}

pub has_left : (xs ys : List ℕ) (k : ℕ) → Has xs k → Has (xs ++ ys) k
has_left [] ys k h = absurd h
has_left (x ∷ xs) ys k (inl e) = inl e
has_left (x ∷ xs) ys k (inr h) = inr (has_left xs ys k h)

pub has_right : (xs ys : List ℕ) (k : ℕ) → Has ys k → Has (xs ++ ys) k
has_right [] ys k h = h
has_right (x ∷ xs) ys k h = inr (has_right xs ys k h)

pub has_either : (xs ys : List ℕ) (k : ℕ) → Has (xs ++ ys) k → Has xs k ⊎ Has ys k
has_either [] ys k h = inr h
has_either (x ∷ xs) ys k (inl e) = inl (inl e)
has_either (x ∷ xs) ys k (inr h) = elim (has_either xs ys k h) [ inl l ↦ inl (inr l) | inr r ↦ inr r ]

-- where it is
pub place_of : (xs : List ℕ) (k : ℕ) → Has xs k → (ys : List ℕ) × (zs : List ℕ) × (xs ≡ ys ++ k ∷ zs)
place_of [] k h = absurd h
place_of (x ∷ xs) k (inl e) = ([], xs, ap (λ y. y ∷ xs) e)
place_of (x ∷ xs) k (inr h) = let p = place_of xs k h in (x ∷ p.0, p.1, ap (λ t. x ∷ t) p.2)

-- the parts of a list without repeats
pub record ApartParts (xs : List ℕ) (k : ℕ) (ys : List ℕ) : Type 0 where
  pub front : Apart xs
  pub back : Apart ys
  pub not_front : ¬ (Has xs k)
  pub not_back : ¬ (Has ys k)
  pub no_both : (j : ℕ) → Has xs j → ¬ (Has ys j)

pub apart_parts : (xs : List ℕ) (k : ℕ) (ys : List ℕ) → Apart (xs ++ k ∷ ys) → ApartParts xs k ys
apart_parts [] k ys a = record {
  front = tt;
  back = a.1;
  not_front = λ h. h;
  not_back = a.0;
  no_both = λ j h. absurd h;
}
apart_parts (x ∷ xs) k ys a =
    let r = apart_parts xs k ys a.1 in
    record {
      front = ((λ h. a.0 (has_left xs (k ∷ ys) x h)), r.front);
      back = r.back;
      not_front = λ h. elim h [ inl e ↦ a.0 (has_right xs (k ∷ ys) x (inl (sym e))) | inr i ↦ r.not_front i ];
      not_back = r.not_back;
      no_both = λ j h b. elim h [ inl e ↦ a.0 (has_right xs (k ∷ ys) x (inr (subst (λ t. Has ys t) (sym e) b))) | inr i ↦ r.no_both j i b ];
    }

-- one more that is new, at the end
pub apart_tail : (xs : List ℕ) (k : ℕ) → Apart xs → ¬ (Has xs k) → Apart (xs ++ k ∷ [])
apart_tail [] k a n = ((λ h. h), tt)
apart_tail (x ∷ xs) k a n =
    ((λ h. elim (has_either xs (k ∷ []) x h) [ inl i ↦ a.0 i | inr i ↦ elim i [ inl e ↦ n (inl (sym e)) | inr j ↦ j ] ]), apart_tail xs k a.1 (λ h. n (inr h)))

-- ---- without k
pub without_none : (k : ℕ) (xs : List ℕ) → ¬ (Has xs k) → without k xs ≡ xs
without_none k [] n = refl
without_none k (x ∷ xs) n = rw (ne_eqb x k (λ e. n (inl e))) (ap (λ t. x ∷ t) (without_none k xs (λ h. n (inr h))))

pub without_place : (xs : List ℕ) (k : ℕ) (ys : List ℕ) → ¬ (Has xs k) → ¬ (Has ys k) → without k (xs ++ k ∷ ys) ≡ xs ++ ys
without_place [] k ys n m = rw (eq-eqb k k refl) (without_none k ys m)
without_place (x ∷ xs) k ys n m =
    rw (ne_eqb x k (λ e. n (inl e))) (ap (λ t. x ∷ t) (without_place xs k ys (λ h. n (inr h)) m))

pub has_without : (k j : ℕ) (xs : List ℕ) → Has (without k xs) j → Has xs j × (j ≢ k)
has_without k j [] h = absurd h
has_without k j (x ∷ xs) h = elim (cases_eq x k) [
  | inl e ↦
      let i : Has (without k xs) j = subst (λ (b : _). Has (Rattle.std.proofs.Common.cond b (without k xs) (x ∷ without k xs)) j) (eq-eqb x k e) h in
      let r = has_without k j xs i in
      (inr r.0, r.1)
  | inr n ↦
      let i : Has (x ∷ without k xs) j = subst (λ (b : _). Has (Rattle.std.proofs.Common.cond b (without k xs) (x ∷ without k xs)) j) (ne_eqb x k n) h in
      elim i [
        | inl e ↦ (inl e, λ q. n (e ∙ q))
        | inr g ↦ let r = has_without k j xs g in (inr r.0, r.1)
      ]
]

pub without_has : (k j : ℕ) (xs : List ℕ) → Has xs j → j ≢ k → Has (without k xs) j
without_has k j [] h n = absurd h
without_has k j (x ∷ xs) h n = elim (cases_eq x k) [
  | inl e ↦
      rw (eq-eqb x k e) (elim h [ inl i ↦ absurd (n (sym i ∙ e)) | inr g ↦ without_has k j xs g n ])
  | inr m ↦
      rw (ne_eqb x k m) (elim h [ inl i ↦ inl i | inr g ↦ inr (without_has k j xs g n) ])
]

pub apart_without : (k : ℕ) (xs : List ℕ) → Apart xs → Apart (without k xs)
apart_without k [] a = tt
apart_without k (x ∷ xs) a = elim (cases_eq x k) [
  | inl e ↦ rw (eq-eqb x k e) (apart_without k xs a.1)
  | inr m ↦ rw (ne_eqb x k m) ((λ h. a.0 (has_without k x xs h).0), apart_without k xs a.1)
]
