-- Servers on a path, by places.
use Rattle.std.specs.Prelude.{◌≡◌, ◌≢◌, ℕ, zero, suc, ◌<◌, true, false, List, [], ◌∷◌, length, get_or}
use Rattle.std.proofs.Common.{arith, refl}
use Rattle.std.proofs.lemmas.Bool.{eq-eqb, ne_eqb}
use Rattle.net_model.specs.NetRoutes.{hops_along}
use Rattle.simulator.proofs.sim_routes.Places.{NoneBefore, none_before_tail}
use Rattle.run_check.specs.broken_laws.Tracked.{is_on, is_before}

pub before_stops : (path queues : List ℕ) (h s i : ℕ) → length queues ≡ length path → i < length path → get_or path i 0 ≡ s → NoneBefore path s i → NoneBefore path h i
    → is_before h s (hops_along path queues) ≡ false
before_stops [] queues h s i e l g a b = absurd (omega (arith, l))
before_stops (p ∷ ps) [] h s i e l g a b = absurd (omega (arith, e))
before_stops (p ∷ ps) (q ∷ qs) h s zero e l g a b = rw (eq-eqb p s g) refl
before_stops (p ∷ ps) (q ∷ qs) h s (suc i) e l g a b =
    let n : p ≢ s = a 0 (omega arith) in
    let m : p ≢ h = b 0 (omega arith) in
    rw (ne_eqb p s n, ne_eqb p h m) (before_stops ps qs h s i (omega (arith, e)) (omega (arith, l)) g (none_before_tail p ps s i a) (none_before_tail p ps h i b))

pub before_finds : (path queues : List ℕ) (h s i : ℕ) → length queues ≡ length path → i < length path → get_or path i 0 ≡ h → get_or path i 0 ≢ s → NoneBefore path s i
    → NoneBefore path h i → is_before h s (hops_along path queues) ≡ true
before_finds [] queues h s i e l g d a b = absurd (omega (arith, l))
before_finds (p ∷ ps) [] h s i e l g d a b = absurd (omega (arith, e))
before_finds (p ∷ ps) (q ∷ qs) h s zero e l g d a b = rw (ne_eqb p s d, eq-eqb p h g) refl
before_finds (p ∷ ps) (q ∷ qs) h s (suc i) e l g d a b =
    let n : p ≢ s = a 0 (omega arith) in
    let m : p ≢ h = b 0 (omega arith) in
    rw (ne_eqb p s n, ne_eqb p h m) (before_finds ps qs h s i (omega (arith, e)) (omega (arith, l)) g d (none_before_tail p ps s i a) (none_before_tail p ps h i b))

pub before_none : (path queues : List ℕ) (h s : ℕ) → length queues ≡ length path → NoneBefore path s (length path) → NoneBefore path h (length path)
    → is_before h s (hops_along path queues) ≡ false
before_none [] queues h s e a b = refl
before_none (p ∷ ps) [] h s e a b = absurd (omega (arith, e))
before_none (p ∷ ps) (q ∷ qs) h s e a b =
    let n : p ≢ s = a 0 (omega arith) in
    let m : p ≢ h = b 0 (omega arith) in
    rw (ne_eqb p s n, ne_eqb p h m) (before_none ps qs h s (omega (arith, e)) (λ k l. a (suc k) (omega (arith, l))) (λ k l. b (suc k) (omega (arith, l))))

pub on_finds : (path queues : List ℕ) (s i : ℕ) → length queues ≡ length path → i < length path → get_or path i 0 ≡ s → NoneBefore path s i
    → is_on s (hops_along path queues) ≡ true
on_finds [] queues s i e l g a = absurd (omega (arith, l))
on_finds (p ∷ ps) [] s i e l g a = absurd (omega (arith, e))
on_finds (p ∷ ps) (q ∷ qs) s zero e l g a = rw (eq-eqb p s g) refl
on_finds (p ∷ ps) (q ∷ qs) s (suc i) e l g a =
    let n : p ≢ s = a 0 (omega arith) in
    rw (ne_eqb p s n) (on_finds ps qs s i (omega (arith, e)) (omega (arith, l)) g (none_before_tail p ps s i a))

pub on_none : (path queues : List ℕ) (s : ℕ) → length queues ≡ length path → NoneBefore path s (length path) → is_on s (hops_along path queues) ≡ false
on_none [] queues s e a = refl
on_none (p ∷ ps) [] s e a = absurd (omega (arith, e))
on_none (p ∷ ps) (q ∷ qs) s e a =
    let n : p ≢ s = a 0 (omega arith) in
    rw (ne_eqb p s n) (on_none ps qs s (omega (arith, e)) (λ k l. a (suc k) (omega (arith, l))))
