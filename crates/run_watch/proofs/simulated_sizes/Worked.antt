-- A server that is empty at the end has worked off all that arrived.
use Rattle.std.specs.Prelude.{◌≡◌, ◌≤◌, pos, true, List, [], ◌∷◌, ◌++◌}
use Rattle.std.specs.List.{AllByRecursion}
use Rattle.std.proofs.Common.{arith, refl, sym, subst, ap, ◌∙◌}
use Rattle.std.proofs.lemmas.List.{append-nil}
use Rattle.rational.specs.Rational.{ℚ, int, ◌+ℚ◌, ◌-ℚ◌, ◌*ℚ◌, ◌/ℚ◌, ◌≤ℚ◌, ◌<ℚ◌}
use Rattle.rational.proofs.Laws.{le_of_lt, mul_le_mul, mul_le_mul_right, mul_sub, mul_zero, div_mul, not_zero}
use Rattle.rational.proofs.Integers.{nat_nonneg, nat_le_out}
use Rattle.rational.proofs.Linear.{with2, with_atoms}
use Rattle.rational.proofs.Over.{le_q_out}
use Rattle.upp_limits.specs.Limits.{Sizes}
use Rattle.upp_limits.specs.Sized.{IsSlope}
use Rattle.upp_normal.specs.Operand.{AreLimited}
use Rattle.run_laws.specs.Cards.{Card, time_of, all, whole, size, ServerStep, Arrives, Works, Leaves, Visits}
use Rattle.run_laws.specs.Counts.{when, upto, arrived_upto, worked}
use Rattle.run_laws.proofs.Counts.{departed_upto}
use Rattle.run_laws.specs.Servers.{Server, ServerState, start}
use Rattle.run_laws.specs.Next.{next, after}
use Rattle.run_laws.specs.Allows.{AllAllowed, IsLawfulView}
use Rattle.run_laws.proofs.Sizes.{whole_sum}
use Rattle.run_laws.proofs.Sums.{Each}
use Rattle.run_laws.proofs.Heads.{sum_of}
use Rattle.run_laws.proofs.Orders.{at_upto, left_upto_worked}
use Rattle.run_laws.proofs.Cuts.{IsAfter, time_in_order}
use Rattle.run_watch.specs.declared.span.Span.{Span}
use Rattle.run_watch.specs.Ramps.{InOrder}
use Rattle.run_watch.specs.Seen.{work_spans}
use Rattle.run_watch.proofs.SeenLists.{worked_is}
use Rattle.run_watch.proofs.ViewSpans.{works_in_order}
use Rattle.run_watch.specs.first_breaches.Sizes.{bits_in}
use Rattle.run_watch.proofs.first_breaches.Views.{SpanStands, sum_bits, sum_is}

-- ---- all that arrived
bits_by_end : (server : Server) (end : ℚ) (σ : ServerState) (V : List ServerStep) → AllAllowed server end σ V → arrived_upto all V end ≡ whole (bits_in V)
unfolding when
bits_by_end server end σ [] a = refl
bits_by_end server end σ (Arrives c t ∷ V) a =
    let rest = bits_by_end server end (next server.discipline σ (Arrives c t)) V a.1 in
    let in_time = le_q_out t end a.0.0.in_run in
    rw in_time (ap (λ x. size c +ℚ x) rest ∙ sym (whole_sum c.bits (bits_in V)))
bits_by_end server end σ (Works c x y w ∷ V) a = nothing _ _ (bits_by_end server end (next server.discipline σ (Works c x y w)) V a.1)
  where
    nothing : (x y : ℚ) → x ≡ y → int (pos 0) +ℚ x ≡ y
    nothing x y h = with2 x y (λ k. omega (arith, k.le, k.lt, k.same))
bits_by_end server end σ (Leaves c t ∷ V) a = nothing _ _ (bits_by_end server end (next server.discipline σ (Leaves c t)) V a.1)
  where
    nothing : (x y : ℚ) → x ≡ y → int (pos 0) +ℚ x ≡ y
    nothing x y h = with2 x y (λ k. omega (arith, k.le, k.lt, k.same))
bits_by_end server end σ (Visits q t ∷ V) a = nothing _ _ (bits_by_end server end (next server.discipline σ (Visits q t)) V a.1)
  where
    nothing : (x y : ℚ) → x ≡ y → int (pos 0) +ℚ x ≡ y
    nothing x y h = with2 x y (λ k. omega (arith, k.le, k.lt, k.same))

-- no step is after the end
none_after : (server : Server) (end : ℚ) (σ : ServerState) (V : List ServerStep) → AllAllowed server end σ V → Each (IsAfter (upto end)) V → V ≡ []
none_after server end σ [] a h = refl
none_after server end σ (x ∷ V) a h =
    let in_time : upto end (time_of x) ≡ true = le_q_out (time_of x) end (time_in_order server end σ x a.0).in_run in
    let late = h.0 in
    absurd (cc)

-- the packets that are inside at the end
pub all_worked : (server : Server) (end : ℚ) (V : List ServerStep) → IsLawfulView server end V → (after server.discipline (start server.discipline) V).inside ≡ [] → whole (bits_in V) ≤ℚ worked all V end
all_worked server end V h empty =
    let d = server.discipline in
    let a = at_upto server end V end h in
    let cut = a.at in
    let none : cut.back ≡ [] = none_after server end (after d (start d) cut.front) cut.back cut.back_allowed cut.back_after in
    let whole_front : V ≡ cut.front = cut.joined ∙ ap (λ (xs : List ServerStep). cut.front ++ xs) none ∙ append-nil cut.front in
    let inside : (after d (start d) cut.front).inside ≡ [] = subst (λ (xs : List ServerStep). (after d (start d) xs).inside ≡ []) whole_front empty in
    let q = a.queue all in
    let nothing : sum_of all (after d (start d) cut.front).inside ≡ int (pos 0) = ap (λ (cs : List Card). sum_of all cs) inside in
    let left = left_upto_worked server end V all end h in
    let bits = bits_by_end server end (start d) V h.allowed in
    let s = sum_of all (after d (start d) cut.front).inside in
    let L = departed_upto all V end in
    let A = arrived_upto all V end in
    let W = worked all V end in
    let B = whole (bits_in V) in
    with_atoms (s ∷ L ∷ A ∷ W ∷ B ∷ []) (λ k. omega (arith, k.le, k.lt, k.same))

-- ---- how much that is at most
pace_most : (z : Sizes) (s : ℚ) → IsSlope z s → s ≤ℚ int (pos z.steepness)
pace_most z s h =
    let most = h.within.high in
    let some = nat_nonneg z.steepness in
    with2 s (int (pos z.steepness)) (λ k. omega (arith, k.le, k.lt, k.same))

sum_most : (z : Sizes) (end from : ℚ) (ss : List Span) → InOrder from ss → AllByRecursion (SpanStands z end) ss → from ≤ℚ end → (sum_bits ss +ℚ int (pos z.steepness) *ℚ from) ≤ℚ (int (pos z.steepness) *ℚ end)
sum_most z end from [] o h l =
    let k = mul_le_mul (int (pos z.steepness)) (nat_nonneg z.steepness) l in
    let a = int (pos z.steepness) *ℚ from in
    let b = int (pos z.steepness) *ℚ end in
    with2 a b (λ c. omega (arith, c.le, c.lt, c.same))
sum_most z end from (s ∷ ss) o h l =
    let steep = int (pos z.steepness) in
    let long = s.end -ℚ s.start in
    let lower = s.start in
    let upper = s.end in
    let forward = h.0.forward in
    let some : int (pos 0) <ℚ long = with2 lower upper (λ c. omega (arith, c.le, c.lt, c.same)) in
    let bits : s.bits ≤ℚ steep *ℚ long =
    subst (λ x. x ≤ℚ steep *ℚ long) (div_mul s.bits long (not_zero long some)) (mul_le_mul_right long (le_of_lt some) (pace_most z (s.bits /ℚ long) h.0.pace)) in
    let parts : steep *ℚ long ≡ steep *ℚ s.end -ℚ steep *ℚ s.start = mul_sub steep s.end s.start in
    let first = mul_le_mul steep (nat_nonneg z.steepness) o.0 in
    let rest = sum_most z end s.end ss o.2 h.1 h.0.last.high in
    let w = s.bits in
    let r = sum_bits ss in
    let p = steep *ℚ long in
    let a = steep *ℚ from in
    let b = steep *ℚ s.start in
    let c = steep *ℚ s.end in
    let e = steep *ℚ end in
    with_atoms (w ∷ r ∷ p ∷ a ∷ b ∷ c ∷ e ∷ []) (λ k. omega (arith, k.le, k.lt, k.same))

pub bits_most : (z : Sizes) (server : Server) (end : ℚ) (V : List ServerStep) → AreLimited z end → IsLawfulView server end V → (after server.discipline (start server.discipline) V).inside ≡ []
    → AllByRecursion (SpanStands z end) (work_spans V) → bits_in V ≤ z.largest
bits_most z server end V A h empty stand =
    let steep = int (pos z.steepness) in
    let zero = int (pos 0) in
    let ss = work_spans V in
    let W = worked all V end in
    let worked_off = all_worked server end V h empty in
    let same : W ≡ sum_bits ss = worked_is V end ∙ sum_is z end ss stand in
    let most : (sum_bits ss +ℚ steep *ℚ zero) ≤ℚ steep *ℚ end = sum_most z end zero ss (works_in_order server end V h) stand A.some in
    let none : steep *ℚ zero ≡ zero = mul_zero steep in
    let reach = A.sizes.reach in
    let r = sum_bits ss in
    let n = steep *ℚ zero in
    let e = steep *ℚ end in
    let B = whole (bits_in V) in
    let m = int (pos z.largest) in
    nat_le_out (bits_in V) z.largest (with_atoms (W ∷ r ∷ n ∷ e ∷ B ∷ m ∷ []) (λ k. omega (arith, k.le, k.lt, k.same)))
