-- What a tally tells of one step more.
use Rattle.std.specs.Prelude.{◌≡◌, ◌≢◌, ℕ, pos, ◌<◌, ◌≤◌, List, [], ◌∷◌, length, get_or, set, replicate}
use Rattle.std.proofs.Common.{arith, refl, sym, ap, ◌∙◌, subst, inl, inr}
use Rattle.std.proofs.Math.ListN.{length-set}
use Rattle.std.proofs.lemmas.Bool.{cases_eq, eq-eqb, ne_eqb}
use Rattle.std.proofs.lemmas.List.{get_or-set_same, get_or-set_other}
use Rattle.rational.specs.Rational.{ℚ, int, ◌+ℚ◌, ◌-ℚ◌, ◌≤ℚ◌, ◌<ℚ◌}
use Rattle.run_laws.specs.declared.steps.Step.{Step}
use Rattle.run_laws.specs.declared.steps.Step.TheVariants.{Enter, Reach, Work, Leave, Visit}
use Rattle.run_laws.specs.Delays.{kept}
use Rattle.run_laws.specs.FlowDelays.{delivered_at, delays_from}
use Rattle.run_laws.specs.Routes.{Routes, link_at, route_of, last_server}
use Rattle.simulator.specs.run_measures.Worst.{IsLargest, IsTallied}
use Rattle.simulator.proofs.run_measures.Largest.{largest_none, largest_same, largest_new}

abbrev last_of : Routes → List ℕ → ℕ → ℕ
last_of net flows p = last_server (route_of net (get_or flows p 0)).hops

-- ---- a packet leaves
-- no other packet is delivered then, nor this one at another server
not_then : (net : Routes) (end : ℚ) (s p r q : ℕ) (t : ℚ) (xs : List Step) → (r ≡ s → q ≡ p → ⊥)
    → delivered_at net end s p (Leave r q t ∷ xs) ≡ delivered_at net end s p xs
not_then net end s p r q t xs h = elim (cases_eq r s) [
  | inl e ↦ rw (eq-eqb r s e) (rw (ne_eqb q p (h e)) refl)
  | inr n ↦ rw (ne_eqb r s n) refl
]

delivered_then : (net : Routes) (end : ℚ) (s p r q : ℕ) (t : ℚ) (xs : List Step) → r ≡ s → q ≡ p
    → delivered_at net end s p (Leave r q t ∷ xs) ≡ t +ℚ link_at net s
delivered_then net end s p r q t xs e i = rw (eq-eqb r s e) (rw (eq-eqb q p i) refl)

pub leave_last : (net : Routes) (end : ℚ) (xs : List Step) (flows : List ℕ) (delivered : List ℚ) (many : ℕ) (worst : List ℚ) (r q : ℕ) (t x : ℚ)
    → q < length flows → r ≡ last_of net flows q → x ≡ t +ℚ link_at net r → IsTallied net end xs flows delivered many worst
    → IsTallied net end (Leave r q t ∷ xs) flows (set delivered q x) many worst
leave_last net end xs flows delivered many worst r q t x l e is h = record {
  long = length-set delivered q x ∙ h.long;
  at = λ p k. elim (cases_eq p q) [
    | inl i ↦
        let here : get_or (set delivered q x) q (int (pos 0)) ≡ x = get_or-set_same delivered q x (int (pos 0)) (let long = h.long in omega (arith, l, long)) in
        ap (λ j. get_or (set delivered q x) j (int (pos 0))) i ∙ here ∙ is ∙ ap (λ j. t +ℚ link_at net j) (e ∙ ap (last_of net flows) (sym i))
        ∙ sym (delivered_then net end (last_of net flows p) p r q t xs (e ∙ ap (last_of net flows) (sym i)) (sym i))
    | inr n ↦
        get_or-set_other delivered q p x (int (pos 0)) n ∙ h.at p k
        ∙ sym (not_then net end (last_of net flows p) p r q t xs (λ a i. n (sym i)))
  ];
  largest = record { as_many = h.largest.as_many; each = h.largest.each };
}

-- ---- a packet enters
other_flow : (net : Routes) (end : ℚ) (g f p : ℕ) (t : ℚ) (b : ℕ) (xs : List Step) → f ≢ g
    → delays_from net g end (Enter f p t b ∷ xs) ≡ delays_from net g end xs
other_flow net end g f p t b xs n =
    ap (λ k. kept k (delivered_at net end (last_server (route_of net f).hops) p xs -ℚ t) (delays_from net g end xs)) (ne_eqb f g n)

own_flow : (net : Routes) (end : ℚ) (g f p : ℕ) (t : ℚ) (b : ℕ) (xs : List Step) → f ≡ g
    → delays_from net g end (Enter f p t b ∷ xs) ≡ (delivered_at net end (last_server (route_of net f).hops) p xs -ℚ t) ∷ delays_from net g end xs
own_flow net end g f p t b xs e =
    ap (λ k. kept k (delivered_at net end (last_server (route_of net f).hops) p xs -ℚ t) (delays_from net g end xs)) (eq-eqb f g e)

-- the delay that is known is that of the packet
delay_is : (net : Routes) (end : ℚ) (xs : List Step) (flows : List ℕ) (delivered : List ℚ) (many : ℕ) (worst : List ℚ) (f p : ℕ) (t d : ℚ)
    → IsTallied net end xs flows delivered many worst → p < length flows → get_or flows p 0 ≡ f → d ≡ get_or delivered p (int (pos 0)) -ℚ t
    → d ≡ delivered_at net end (last_server (route_of net f).hops) p xs -ℚ t
delay_is net end xs flows delivered many worst f p t d h l e is =
    is ∙ ap (λ u. u -ℚ t) (h.at p l) ∙ ap (λ g. delivered_at net end (last_server (route_of net g).hops) p xs -ℚ t) e

pub enter_unknown : (net : Routes) (end : ℚ) (xs : List Step) (flows : List ℕ) (delivered : List ℚ) (many : ℕ) (worst : List ℚ) (f p : ℕ) (t : ℚ) (b : ℕ)
    → length worst ≤ f → IsTallied net end xs flows delivered many worst → IsTallied net end (Enter f p t b ∷ xs) flows delivered many worst
enter_unknown net end xs flows delivered many worst f p t b past h = record {
  long = h.long;
  at = h.at;
  largest = record {
    as_many = h.largest.as_many;
    each = λ g l.
        let many_is = h.largest.as_many in
        subst (λ ds. IsLargest ds (get_or worst g (int (pos 0)))) (sym (other_flow net end g f p t b xs (omega (arith, past, l, many_is)))) (h.largest.each g l);
  };
}

pub enter_less : (net : Routes) (end : ℚ) (xs : List Step) (flows : List ℕ) (delivered : List ℚ) (many : ℕ) (worst : List ℚ) (f p : ℕ) (t d : ℚ) (b : ℕ)
    → p < length flows → get_or flows p 0 ≡ f → d ≡ get_or delivered p (int (pos 0)) -ℚ t → d ≤ℚ get_or worst f (int (pos 0))
    → IsTallied net end xs flows delivered many worst → IsTallied net end (Enter f p t b ∷ xs) flows delivered many worst
enter_less net end xs flows delivered many worst f p t d b l e is small h =
    let real = delay_is net end xs flows delivered many worst f p t d h l e is in
    record {
      long = h.long;
      at = h.at;
      largest = record {
        as_many = h.largest.as_many;
        each = λ g k. elim (cases_eq f g) [
          | inl i ↦ subst (λ ds. IsLargest ds (get_or worst g (int (pos 0)))) (sym (own_flow net end g f p t b xs i))
              (largest_same (delivered_at net end (last_server (route_of net f).hops) p xs -ℚ t) (get_or worst g (int (pos 0))) (delays_from net g end xs)
              (h.largest.each g k) (subst (λ u. u ≤ℚ get_or worst g (int (pos 0))) real (subst (λ j. d ≤ℚ get_or worst j (int (pos 0))) i small)))
          | inr n ↦ subst (λ ds. IsLargest ds (get_or worst g (int (pos 0)))) (sym (other_flow net end g f p t b xs n)) (h.largest.each g k)
        ];
      };
    }

pub enter_more : (net : Routes) (end : ℚ) (xs : List Step) (flows : List ℕ) (delivered : List ℚ) (many : ℕ) (worst : List ℚ) (f p : ℕ) (t d : ℚ) (b : ℕ)
    → p < length flows → get_or flows p 0 ≡ f → d ≡ get_or delivered p (int (pos 0)) -ℚ t → f < length worst → get_or worst f (int (pos 0)) <ℚ d
    → IsTallied net end xs flows delivered many worst → IsTallied net end (Enter f p t b ∷ xs) flows delivered many (set worst f d)
enter_more net end xs flows delivered many worst f p t d b l e is known big h =
    let real = delay_is net end xs flows delivered many worst f p t d h l e is in
    let x = delivered_at net end (last_server (route_of net f).hops) p xs -ℚ t in
    record {
      long = h.long;
      at = h.at;
      largest = record {
        as_many = length-set worst f d ∙ h.largest.as_many;
        each = λ g k. elim (cases_eq g f) [
          | inl i ↦
              let here : get_or (set worst f d) g (int (pos 0)) ≡ x =
              ap (λ j. get_or (set worst f d) j (int (pos 0))) i ∙ get_or-set_same worst f d (int (pos 0)) known ∙ real in
              subst (λ ds. IsLargest ds (get_or (set worst f d) g (int (pos 0)))) (sym (own_flow net end g f p t b xs (sym i)))
              (subst (λ u. IsLargest (x ∷ delays_from net g end xs) u) (sym here)
              (largest_new x (get_or worst g (int (pos 0))) (delays_from net g end xs) (h.largest.each g k)
              (subst (λ u. get_or worst g (int (pos 0)) <ℚ u) real (subst (λ j. get_or worst j (int (pos 0)) <ℚ d) (sym i) big))))
          | inr n ↦
              subst (λ ds. IsLargest ds (get_or (set worst f d) g (int (pos 0)))) (sym (other_flow net end g f p t b xs (λ z. n (sym z))))
              (subst (λ u. IsLargest (delays_from net g end xs) u) (sym (get_or-set_other worst f g d (int (pos 0)) n)) (h.largest.each g k))
        ];
      };
    }

-- ---- other steps
pub reach_told : (net : Routes) (end : ℚ) (xs : List Step) (flows : List ℕ) (delivered : List ℚ) (many : ℕ) (worst : List ℚ) (s p : ℕ) (t : ℚ)
    → IsTallied net end xs flows delivered many worst → IsTallied net end (Reach s p t ∷ xs) flows delivered many worst
reach_told net end xs flows delivered many worst s p t h =
    record { long = h.long; at = h.at; largest = record { as_many = h.largest.as_many; each = h.largest.each } }

pub work_told : (net : Routes) (end : ℚ) (xs : List Step) (flows : List ℕ) (delivered : List ℚ) (many : ℕ) (worst : List ℚ) (s p : ℕ) (a b w : ℚ)
    → IsTallied net end xs flows delivered many worst → IsTallied net end (Work s p a b w ∷ xs) flows delivered many worst
work_told net end xs flows delivered many worst s p a b w h =
    record { long = h.long; at = h.at; largest = record { as_many = h.largest.as_many; each = h.largest.each } }

pub visit_told : (net : Routes) (end : ℚ) (xs : List Step) (flows : List ℕ) (delivered : List ℚ) (many : ℕ) (worst : List ℚ) (s q : ℕ) (t : ℚ)
    → IsTallied net end xs flows delivered many worst → IsTallied net end (Visit s q t ∷ xs) flows delivered many worst
visit_told net end xs flows delivered many worst s q t h =
    record { long = h.long; at = h.at; largest = record { as_many = h.largest.as_many; each = h.largest.each } }

-- ---- at first
at_replicate : {X : Type 0} (n p : ℕ) (x d : X) → p < n → get_or (replicate n x) p d ≡ x
at_replicate n p x d l = Rattle.std.proofs.lemmas.List.get_or-replicate n p x d l

pub told_nothing : (net : Routes) (end : ℚ) (flows : List ℕ) (delivered : List ℚ) (many : ℕ) (worst : List ℚ)
    → delivered ≡ replicate (length flows) end → worst ≡ replicate many (int (pos 0)) → length delivered ≡ length flows → length worst ≡ many
    → IsTallied net end [] flows delivered many worst
told_nothing net end flows delivered many worst e i long as_many = record {
  long = long;
  at = λ p l. ap (λ (xs : List ℚ). get_or xs p (int (pos 0))) e ∙ at_replicate (length flows) p end (int (pos 0)) l;
  largest = record {
    as_many = as_many;
    each = λ f l.
        subst (λ u. IsLargest [] u) (sym (ap (λ (xs : List ℚ). get_or xs f (int (pos 0))) i ∙ at_replicate many f (int (pos 0)) (int (pos 0)) l)) largest_none;
  };
}
