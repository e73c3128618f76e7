-- Stalls in another order are the same stalls.
use Rattle.std.specs.Prelude.{◌≡◌, ◌↔◌, ℕ, ◌+◌, ◌<◌, true, false, List, [], ◌∷◌, ◌++◌, length, get_or, map, All, AllPairs}
use Rattle.std.specs.List.Sorted.{IsPermutation, IsSortedByKey}
use Rattle.std.specs.Ordering.{is_lt}
use Rattle.std.proofs.Common.{refl, sym, ap, ◌∙◌, subst, arith, inl, inr, take}
use Rattle.std.proofs.lemmas.Bool.{cases_eq, eq-eqb, ne_eqb}
use Rattle.std.proofs.lemmas.List.{length-map, get_or-map, take_more}
use Rattle.std.proofs.lemmas.List.Sorted.{IsPermutation-sym, All-permutation, Contains-permutation, sorted_far}
use Rattle.std.proofs.lemmas.List.MinMax.{ranks_by}
use Rattle.rational.specs.Rational.{ℚ, ◌≤ℚ◌, ◌<ℚ◌}
use Rattle.rational.specs.Ratio.{cmp_q}
use Rattle.rational.proofs.Compared.{not_less}
use Rattle.rational.proofs.Comparison.{cmp_ranks}
use Rattle.rational.proofs.OrderLaws.{cmp_q_total}
use Rattle.net_model.specs.declared.trace.Stall.{Stall}
use Rattle.net_model.specs.stated_runs.Setups.{StallTimes, IsStalled}
use Rattle.net_model.specs.stated_runs.FromTraces.{stalls_at}
use Rattle.net_model.specs.stated_runs.TimeGrids.{IsTime, AreStallTimes}
use Rattle.net_model.proofs.stated_runs.Lists.{In, contains_in, in_contains}
use Rattle.sim_servers.specs.declared.opening.Span.{Span}
use Rattle.sim_servers.specs.Openings.{stall_times}
use Rattle.simulator.specs.packet_sim.Fresh.{AreSorted}

-- ---- one more stall of the trace
pub stalls_push : (s : ℕ) (xs : List Stall) (x : Stall) → x.server ≡ s
    → stalls_at s (xs ++ x ∷ []) ≡ stalls_at s xs ++ record { start = x.start; end = x.end } ∷ []
stalls_push s [] x e = rw (eq-eqb x.server s e) refl
stalls_push s (y ∷ ys) x e = elim (cases_eq y.server s) [
  | inl i ↦ rw (eq-eqb y.server s i) (ap (λ (v : List StallTimes). record { start = y.start; end = y.end } ∷ v) (stalls_push s ys x e))
  | inr n ↦ rw (ne_eqb y.server s n) (stalls_push s ys x e)
]

pub stalls_skip : (s : ℕ) (xs : List Stall) (x : Stall) → (x.server ≡ s → ⊥) → stalls_at s (xs ++ x ∷ []) ≡ stalls_at s xs
stalls_skip s [] x e = rw (ne_eqb x.server s e) refl
stalls_skip s (y ∷ ys) x e = elim (cases_eq y.server s) [
  | inl i ↦ rw (eq-eqb y.server s i) (ap (λ (v : List StallTimes). record { start = y.start; end = y.end } ∷ v) (stalls_skip s ys x e))
  | inr n ↦ rw (ne_eqb y.server s n) (stalls_skip s ys x e)
]

push_map : (xs : List Span) (x : Span) → map stall_times (xs ++ x ∷ []) ≡ map stall_times xs ++ stall_times x ∷ []
push_map [] x = refl
push_map (y ∷ ys) x = ap (λ (v : List StallTimes). stall_times y ∷ v) (push_map ys x)

pub more_stalls : (s : ℕ) (stalls : List Stall) (i : ℕ) (x : Stall) (spans spans' : List Span) → i < length stalls → x ≡ get_or stalls i x
    → map stall_times spans ≡ stalls_at s (take i stalls) → x.server ≡ s → spans' ≡ spans ++ record { start = x.start; end = x.end } ∷ []
    → map stall_times spans' ≡ stalls_at s (take (i + 1) stalls)
more_stalls s stalls i x spans spans' l at h e p =
    let more : take (i + 1) stalls ≡ take i stalls ++ x ∷ [] = take_more stalls i x l ∙ ap (λ (y : Stall). take i stalls ++ y ∷ []) (sym at) in
    ap (map stall_times) p ∙ push_map spans record { start = x.start; end = x.end }
    ∙ ap (λ (v : List StallTimes). v ++ record { start = x.start; end = x.end } ∷ []) h
    ∙ sym (ap (stalls_at s) more ∙ stalls_push s (take i stalls) x e)

pub same_stalls : (s : ℕ) (stalls : List Stall) (i : ℕ) (x : Stall) (spans spans' : List Span) → i < length stalls → x ≡ get_or stalls i x
    → map stall_times spans ≡ stalls_at s (take i stalls) → (x.server ≡ s → ⊥) → spans' ≡ spans
    → map stall_times spans' ≡ stalls_at s (take (i + 1) stalls)
same_stalls s stalls i x spans spans' l at h e p =
    let more : take (i + 1) stalls ≡ take i stalls ++ x ∷ [] = take_more stalls i x l ∙ ap (λ (y : Stall). take i stalls ++ y ∷ []) (sym at) in
    ap (map stall_times) p ∙ h ∙ sym (ap (stalls_at s) more ∙ stalls_skip s (take i stalls) x e)

-- ---- sorted by their starts
pub by_starts : (xs : List Span) → IsSortedByKey (λ (a : Span). a.start) cmp_q xs → AllPairs (λ (a b : Span). a.start ≤ℚ b.start) xs
by_starts xs up = λ i j d l h.
    let r = cmp_q (get_or xs j d).start (get_or xs i d).start in
    let later : is_lt r ≡ false =
    sorted_far (λ (x y : Span). is_lt (cmp_q x.start y.start)) (ranks_by cmp_q_total (λ (a : Span). a.start)) xs up i j d (omega (arith, l)) h in
    not_less r (cmp_ranks (get_or xs j d).start (get_or xs i d).start) (λ e. let less : true ≡ false = sym (ap is_lt e) ∙ later in cc)

-- ---- members
record IsStalledIn (xs : List Span) (t : ℚ) : Type 0 where
  span : Span
  there : In xs span
  begun : span.start ≤ℚ t
  goes_on : t <ℚ span.end

stalled_in : (xs : List Span) (t : ℚ) → IsStalled (map stall_times xs) t → IsStalledIn xs t
stalled_in [] t h = absurd h
stalled_in (x ∷ xs) t (inl h) = record { span = x; there = inl refl; begun = h.0; goes_on = h.1 }
stalled_in (x ∷ xs) t (inr h) =
    let r = stalled_in xs t h in
    record { span = r.span; there = inr r.there; begun = r.begun; goes_on = r.goes_on }

in_stalled : (xs : List Span) (t : ℚ) (x : Span) → In xs x → x.start ≤ℚ t → t <ℚ x.end → IsStalled (map stall_times xs) t
in_stalled [] t x h a b = absurd h
in_stalled (y ∷ ys) t x (inl e) a b = inl (subst (λ (z : Span). z.start ≤ℚ t) (sym e) a, subst (λ (z : Span). t <ℚ z.end) (sym e) b)
in_stalled (y ∷ ys) t x (inr h) a b = inr (in_stalled ys t x h a b)

moved : (xs ys : List Span) → IsPermutation xs ys → (x : Span) → In xs x → In ys x
moved xs ys p x h = contains_in ys x (Contains-permutation xs ys x p (in_contains xs x h))

still_stalled : (xs ys : List Span) → IsPermutation xs ys → (t : ℚ) → IsStalled (map stall_times xs) t → IsStalled (map stall_times ys) t
still_stalled xs ys p t h = let k = stalled_in xs t h in in_stalled ys t k.span (moved xs ys p k.span k.there) k.begun k.goes_on

-- ---- times
times_in : (D : ℕ) (E : ℚ) (xs : List Span) → AreStallTimes D E (map stall_times xs) → (x : Span) → In xs x → IsTime D E x.start × IsTime D E x.end
times_in D E [] h x i = absurd i
times_in D E (y ∷ ys) h x (inl e) = subst (λ (z : Span). IsTime D E z.start × IsTime D E z.end) e h.0
times_in D E (y ∷ ys) h x (inr i) = times_in D E ys h.1 x i

in_times : (D : ℕ) (E : ℚ) (xs : List Span) → ((x : Span) → In xs x → IsTime D E x.start × IsTime D E x.end) → AreStallTimes D E (map stall_times xs)
in_times D E [] h = tt
in_times D E (y ∷ ys) h = (h y (inl refl), in_times D E ys (λ x i. h x (inr i)))

-- ---- each takes some time
abbrev IsForward : Span → Type 0
IsForward a = a.start <ℚ a.end

forward_spans : (xs : List Span) → All (λ (a : StallTimes). a.start <ℚ a.end) (map stall_times xs) → All IsForward xs
forward_spans xs h = λ k d l.
    let long = length-map xs stall_times in
    let e = get_or-map stall_times xs k d (stall_times d) l in
    subst (λ (z : StallTimes). z.start <ℚ z.end) e (h k (stall_times d) (omega (arith, l, long)))

-- ---- the whole
pub are_sorted : (stalls : List StallTimes) (xs ys : List Span) → map stall_times xs ≡ stalls → IsPermutation xs ys
    → AllPairs (λ (a b : Span). a.start ≤ℚ b.start) ys → AreSorted stalls ys
are_sorted stalls xs ys e p s = record {
  in_order = s;
  stalled = λ t.
      subst (λ (v : List StallTimes). IsStalled (map stall_times ys) t ↔ IsStalled v t) e
      (still_stalled ys xs (IsPermutation-sym xs ys p) t, still_stalled xs ys p t);
  times = λ D E h.
      let k : AreStallTimes D E (map stall_times xs) = subst (AreStallTimes D E) (sym e) h in
      in_times D E ys (λ x i. times_in D E xs k x (moved ys xs (IsPermutation-sym xs ys p) x i));
  forward = λ h. All-permutation IsForward xs ys p (forward_spans xs (subst (All (λ (a : StallTimes). a.start <ℚ a.end)) (sym e) h));
}
