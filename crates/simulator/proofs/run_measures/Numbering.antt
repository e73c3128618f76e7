-- Where a step stands among others.
use Rattle.std.specs.Prelude.{Some, ◌≡◌, ℕ, zero, suc, ◌+◌, List, [], ◌∷◌, slice_get, drop}
use Rattle.std.proofs.Common.{arith, ap}
use Rattle.rational.specs.Rational.{ℚ}
use Rattle.run_laws.specs.declared.steps.Step.{Step}
use Rattle.run_laws.specs.declared.steps.Step.TheVariants.{Enter, Reach, Work, Leave, Visit}
use Rattle.run_laws.specs.Routes.{Routes}
use Rattle.simulator.specs.run_measures.Numbered.{AreNumberedFrom, flows_in}
use Rattle.simulator.specs.run_measures.Worst.{DelaysFit}

-- a packet that enters: its flow stands at its number
pub record IsNumbered (n : ℕ) (flows : List ℕ) (f p : ℕ) : Type 0 where
  pub place : ℕ
  pub is : p ≡ n + place
  pub flow : slice_get flows place ≡ Some f

pub numbered : (n : ℕ) (xs : List Step) (k : ℕ) (f p : ℕ) (t : ℚ) (b : ℕ) → AreNumberedFrom n xs → slice_get xs k ≡ Some (Enter f p t b)
    → IsNumbered n (flows_in xs) f p
numbered n [] k f p t b h e = absurd (cc)
numbered n (Enter g q u c ∷ xs) zero f p t b h e =
    let same : Enter g q u c ≡ Enter f p t b = cc in
    let flow : g ≡ f = cc in
    let packet : q ≡ p = cc in
    let first = h.0 in
    record { place = 0; is = omega (arith, packet, first); flow = ap (λ i. Some i) flow }
numbered n (Enter g q u c ∷ xs) (suc k) f p t b h e =
    let r = numbered (suc n) xs k f p t b h.1 e in
    let i = r.is in
    record { place = suc r.place; is = omega (arith, i); flow = r.flow }
numbered n (Reach s q u ∷ xs) zero f p t b h e = absurd (let g : Reach s q u ≡ Enter f p t b = cc in cc)
numbered n (Reach s q u ∷ xs) (suc k) f p t b h e = numbered n xs k f p t b h e
numbered n (Work s q u v w ∷ xs) zero f p t b h e = absurd (let g : Work s q u v w ≡ Enter f p t b = cc in cc)
numbered n (Work s q u v w ∷ xs) (suc k) f p t b h e = numbered n xs k f p t b h e
numbered n (Leave s q u ∷ xs) zero f p t b h e = absurd (let g : Leave s q u ≡ Enter f p t b = cc in cc)
numbered n (Leave s q u ∷ xs) (suc k) f p t b h e = numbered n xs k f p t b h e
numbered n (Visit s q u ∷ xs) zero f p t b h e = absurd (let g : Visit s q u ≡ Enter f p t b = cc in cc)
numbered n (Visit s q u ∷ xs) (suc k) f p t b h e = numbered n xs k f p t b h e

fit_rest : (net : Routes) (end : ℚ) (x : Step) (xs : List Step) → DelaysFit net end (x ∷ xs) → DelaysFit net end xs
fit_rest net end (Enter f p t b) xs h = h.1
fit_rest net end (Reach s p t) xs h = h
fit_rest net end (Work s p a b w) xs h = h
fit_rest net end (Leave s p t) xs h = h.1
fit_rest net end (Visit s q t) xs h = h

pub fits_from : (net : Routes) (end : ℚ) (xs : List Step) (k : ℕ) → DelaysFit net end xs → DelaysFit net end (drop k xs)
fits_from net end xs zero h = h
fits_from net end [] (suc k) h = tt
fits_from net end (x ∷ xs) (suc k) h = fits_from net end xs k (fit_rest net end x xs h)
