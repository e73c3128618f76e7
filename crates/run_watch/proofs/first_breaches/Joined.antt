-- The first of the breaches of more flows or servers, and of more kinds, from the first of each.
use Rattle.std.specs.Prelude.{◌≡◌, ◌⊎◌, ℕ, suc, ◌<◌, List, [], ◌∷◌, length, Option, Some, None}
use Rattle.std.proofs.Common.{arith, refl, sym, subst, ap, ◌∙◌, inl, inr}
use Rattle.std.proofs.lemmas.Bool.{cases_lt}
use Rattle.rational.specs.Rational.{ℚ, ◌≤ℚ◌}
use Rattle.rational.proofs.Laws.{lt_cases, lt_irrefl, lt_le_trans}
use Rattle.run_laws.specs.Runs.{SpecRun}
use Rattle.run_laws.specs.Cards.{whole}
use Rattle.run_laws.proofs.Sizes.{whole_lt}
use Rattle.net_model.specs.declared.breach.Breach.{Breach}
use Rattle.net_model.specs.declared.breach.Breach.TheVariants.{Size, Arrival, Service}
use Rattle.net_model.specs.Networks.{Net}
use Rattle.net_cells.proofs.Places.{live_inside}
use Rattle.flow_watch.specs.watch_laws.Breaches.{order_key, NoLater}
use Rattle.run_watch.specs.declared.found.Found.{Found}
use Rattle.run_watch.specs.FirstOf.{time_of, IsBest, IsBestBefore, time_if_any, earlier, GoesBefore, IsBoth}
use Rattle.run_watch.proofs.FirstOfTwo.{first_of_both, first_of_both_before}
use Rattle.run_watch.specs.first_breaches.Firsts.{IsNetBreach, kind_of, subject_of, IsOne, IsBelow, IsOfKinds}
use Rattle.run_watch.proofs.first_breaches.Routed.{live_is}

-- ---- the order of breaches
rest_of : Breach → List ℚ
rest_of (Size flow p) = whole p ∷ []
rest_of (Arrival flow i j) = whole j ∷ whole i ∷ []
rest_of (Service s a b) = a ∷ []

key_is : (run : SpecRun) (x : Breach) → order_key run x ≡ time_of run x ∷ whole (kind_of x) ∷ whole (subject_of x) ∷ rest_of x
unfolding rest_of
key_is run (Size flow p) = refl
key_is run (Arrival flow i j) = refl
key_is run (Service s a b) = refl

no_later_first : (s t : ℚ) (xs ys : List ℚ) → s ≤ℚ t → NoLater xs ys → NoLater (s ∷ xs) (t ∷ ys)
no_later_first s t xs ys h k = elim (lt_cases s t) [
  | inl l ↦ inl l
  | inr d ↦ elim d [ inl e ↦ inr (e, k) | inr l ↦ absurd (lt_irrefl t (lt_le_trans l h)) ]
]

by_key : (run : SpecRun) (x y : Breach) → time_of run x ≤ℚ time_of run y
    → NoLater (whole (kind_of x) ∷ whole (subject_of x) ∷ rest_of x) (whole (kind_of y) ∷ whole (subject_of y) ∷ rest_of y)
    → NoLater (order_key run x) (order_key run y)
by_key run x y t h =
    subst (λ (k : List ℚ). NoLater k (order_key run y)) (sym (key_is run x))
    (subst (NoLater (time_of run x ∷ whole (kind_of x) ∷ whole (subject_of x) ∷ rest_of x)) (sym (key_is run y))
    (no_later_first (time_of run x) (time_of run y) (whole (kind_of x) ∷ whole (subject_of x) ∷ rest_of x) (whole (kind_of y) ∷ whole (subject_of y) ∷ rest_of y) t h))

kind_before : (run : SpecRun) (x y : Breach) → kind_of x < kind_of y → time_of run x ≤ℚ time_of run y → NoLater (order_key run x) (order_key run y)
kind_before run x y l t = by_key run x y t (inl (whole_lt (kind_of x) (kind_of y) l))

subject_before : (run : SpecRun) (x y : Breach) → kind_of x ≡ kind_of y → subject_of x < subject_of y → time_of run x ≤ℚ time_of run y → NoLater (order_key run x) (order_key run y)
subject_before run x y e l t = by_key run x y t (inr (ap whole e, inl (whole_lt (subject_of x) (subject_of y) l)))

-- ---- the same breaches
pub best_same : (P Q : Breach → Type 0) (run : SpecRun) (o : Option Found) → ((y : Breach) → P y → Q y) → ((y : Breach) → Q y → P y) → IsBest P run o → IsBest Q run o
best_same P Q run None f g h = λ y q. h y (g y q)
best_same P Q run (Some x) f g h = record { is = f x.breach h.is; time = h.time; least = λ y q. h.least y (g y q) }

pub best_before_same : (until : Option ℚ) (P Q : Breach → Type 0) (run : SpecRun) (o : Option Found) → ((y : Breach) → P y → Q y) → ((y : Breach) → Q y → P y) → IsBestBefore until P run o → IsBestBefore until Q run o
best_before_same until P Q run None f g h = λ y q. h y (g y q)
best_before_same until P Q run (Some x) f g h = record { is = f x.breach h.is; time = h.time; least = λ y q. h.least y (g y q) }

-- ---- one flow or server more
pub none_below : (net : Net) (run : SpecRun) (kind : ℕ) → IsBest (IsBelow net run kind 0) run None
none_below net run kind = λ y h. let b = h.below in omega arith

pub one_more : (net : Net) (run : SpecRun) (kind n m : ℕ) (best next : Option Found) → m ≡ suc n → IsBest (IsBelow net run kind n) run best → IsBest (IsOne net run kind n) run next
    → IsBest (IsBelow net run kind m) run (earlier best next)
one_more net run kind n m best next e h k =
    subst (λ (i : ℕ). IsBest (IsBelow net run kind i) run (earlier best next)) (sym e)
    (first_of_both run (IsBelow net run kind n) (IsOne net run kind n) (IsBelow net run kind (suc n)) best next h k both before)
  where
    both : IsBoth (IsBelow net run kind n) (IsOne net run kind n) (IsBelow net run kind (suc n))
    both = record {
      of_one = λ y r. elim (cases_lt (subject_of y) n) [
        | inl l ↦ inl record { kind_is = r.kind_is; below = l; breaks = r.breaks }
        | inr l ↦ let b = r.below in inr record { kind_is = r.kind_is; at = omega arith; breaks = r.breaks }
      ];
      first = λ y r. record { kind_is = r.kind_is; below = let b = r.below in omega arith; breaks = r.breaks };
      other = λ y r. record { kind_is = r.kind_is; below = let b = r.at in omega arith; breaks = r.breaks };
    }

    before : GoesBefore run (IsBelow net run kind n) (IsOne net run kind n)
    before x y p q t = subject_before run x y (p.kind_is ∙ sym q.kind_is) (let a = p.below in let b = q.at in omega arith) t

-- ---- all of a kind
subject_inside : (net : Net) (run : SpecRun) (y : Breach) → kind_of y < 2 → IsNetBreach net run y → subject_of y < length net.flows
subject_inside net run (Size flow p) l h = live_inside net flow (sym (live_is net flow) ∙ h.live)
subject_inside net run (Arrival flow i j) l h = live_inside net flow (sym (live_is net flow) ∙ h.live)
subject_inside net run (Service s a b) l h = absurd (omega arith)

pub sizes_first : (net : Net) (run : SpecRun) (o : Option Found) → IsBest (IsBelow net run 0 (length net.flows)) run o → IsBest (IsOfKinds net run 1) run o
sizes_first net run o h = best_same (IsBelow net run 0 (length net.flows)) (IsOfKinds net run 1) run o
    (λ y p. record { kind_is = let e = p.kind_is in omega arith; breaks = p.breaks })
    (λ y p. let l = p.kind_is in record { kind_is = omega arith; below = subject_inside net run y (omega arith) p.breaks; breaks = p.breaks })
    h

-- one kind more, of which all are below a number
pub kind_more : (net : Net) (run : SpecRun) (kind n : ℕ) (best next : Option Found) → ((y : Breach) → kind_of y ≡ kind → IsNetBreach net run y → subject_of y < n)
    → IsBest (IsOfKinds net run kind) run best → IsBest (IsBelow net run kind n) run next → IsBest (IsOfKinds net run (suc kind)) run (earlier best next)
kind_more net run kind n best next inside h k =
    first_of_both run (IsOfKinds net run kind) (IsBelow net run kind n) (IsOfKinds net run (suc kind)) best next h k both before
  where
    both : IsBoth (IsOfKinds net run kind) (IsBelow net run kind n) (IsOfKinds net run (suc kind))
    both = record {
      of_one = λ y r. elim (cases_lt (kind_of y) kind) [
        | inl l ↦ inl record { kind_is = l; breaks = r.breaks }
        | inr l ↦ let b = r.kind_is in let e : kind_of y ≡ kind = omega arith in inr record { kind_is = e; below = inside y e r.breaks; breaks = r.breaks }
      ];
      first = λ y r. record { kind_is = let b = r.kind_is in omega arith; breaks = r.breaks };
      other = λ y r. record { kind_is = let b = r.kind_is in omega arith; breaks = r.breaks };
    }

    before : GoesBefore run (IsOfKinds net run kind) (IsBelow net run kind n)
    before x y p q t = kind_before run x y (let a = p.kind_is in let b = q.kind_is in omega arith) t

pub arrivals_next : (net : Net) (run : SpecRun) (best next : Option Found) → IsBest (IsOfKinds net run 1) run best → IsBest (IsBelow net run 1 (length net.flows)) run next
    → IsBest (IsOfKinds net run 2) run (earlier best next)
arrivals_next net run best next h k = kind_more net run 1 (length net.flows) best next (λ y e b. subject_inside net run y (omega arith) b) h k

pub best_known : (net : Net) (run : SpecRun) (size arrival two : Option Found) → two ≡ earlier size arrival → IsBest (IsBelow net run 0 (length net.flows)) run size → IsBest (IsBelow net run 1 (length net.flows)) run arrival
    → IsBest (IsOfKinds net run 2) run two
best_known net run size arrival two e h k = subst (λ (o : Option Found). IsBest (IsOfKinds net run 2) run o) (sym e) (arrivals_next net run size arrival (sizes_first net run size h) k)

-- ---- the kinds before, and the servers below a number
abbrev pub IsUpto : Net → SpecRun → ℕ → Breach → Type 0
IsUpto net run n x = IsOfKinds net run 2 x ⊎ IsBelow net run 2 n x

pub upto_none : (net : Net) (run : SpecRun) (o : Option Found) → IsBest (IsOfKinds net run 2) run o → IsBest (IsUpto net run 0) run o
upto_none net run o h = best_same (IsOfKinds net run 2) (IsUpto net run 0) run o (λ y p. inl p) back h
  where
    back : (y : Breach) → IsUpto net run 0 y → IsOfKinds net run 2 y
    back y h = elim h [ inl p ↦ p | inr p ↦ let l = p.below in absurd (omega arith) ]

pub upto_more : (net : Net) (run : SpecRun) (n m : ℕ) (best next : Option Found) → m ≡ suc n → IsBest (IsUpto net run n) run best → IsBestBefore (time_if_any best) (IsOne net run 2 n) run next
    → IsBest (IsUpto net run m) run (earlier best next)
upto_more net run n m best next e h k =
    subst (λ (i : ℕ). IsBest (IsUpto net run i) run (earlier best next)) (sym e)
    (first_of_both_before run (IsUpto net run n) (IsOne net run 2 n) (IsUpto net run (suc n)) best next h k both before)
  where
    both : IsBoth (IsUpto net run n) (IsOne net run 2 n) (IsUpto net run (suc n))
    both = record {
      of_one = λ y r. elim r [
        | inl p ↦ inl (inl p)
        | inr p ↦ elim (cases_lt (subject_of y) n) [
          | inl l ↦ inl (inr record { kind_is = p.kind_is; below = l; breaks = p.breaks })
          | inr l ↦ let b = p.below in inr record { kind_is = p.kind_is; at = omega arith; breaks = p.breaks }
        ]
      ];
      first = λ y r. elim r [
        | inl p ↦ inl p
        | inr p ↦ inr record { kind_is = p.kind_is; below = let b = p.below in omega arith; breaks = p.breaks }
      ];
      other = λ y p. inr record { kind_is = p.kind_is; below = let b = p.at in omega arith; breaks = p.breaks };
    }

    before : GoesBefore run (IsUpto net run n) (IsOne net run 2 n)
    before x y r q t = elim r [
      | inl p ↦ let a = p.kind_is in let b = q.kind_is in kind_before run x y (omega arith) t
      | inr p ↦ let a = p.below in let b = q.at in subject_before run x y (p.kind_is ∙ sym q.kind_is) (omega arith) t
    ]
