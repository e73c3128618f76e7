-- Numbers that are added up one after the other, and those of some cells.
use Rattle.std.proofs.Common.{◌≡◌, ℕ, ◌≤◌, ◌^◌, List, [], ◌∷◌, ◌++◌, refl, sym, ap, ◌∙◌, subst, arith, true, false, append_assoc}
use Rattle.std.specs.Prelude.{Option, Some, None, IfSome, IfNone, IsSome, ◌*◌, ◌/◌}
use Rattle.rational.specs.Rational.{ℚ, den, ◌+ℚ◌}
use Rattle.rational.specs.Extended.{Ext}
use Rattle.rational.specs.declared.Extended.TheVariants.{Fin, Inf}
use Rattle.rational.specs.Gauge.{lcm}
use Rattle.upp_limits.proofs.Gathering.{den_more}
use Rattle.net_cells.specs.NumberSums.{has_infinite, finite}
use Rattle.cell_eval.specs.declared.number_sums.Tally.{Tally}
use Rattle.cell_eval.specs.declared.number_sums.Added.{Added}
use Rattle.cell_eval.specs.Tallies.{Tallies, IsTallied, AreAdded, IsNarrow, size_of}
use Rattle.rational.specs.Ratio.{SumFits}
use Rattle.rational.proofs.Multiples.{lcm_swap}
use Rattle.fraction128.proofs.Coprime.{gcd_comm}
use Rattle.cell_eval.proofs.Totals.{sizes_more, sizes_fit, sum_fits, den_fits}
use Rattle.min_plus.proofs.TimeSums.{sum_more}

-- ---- tallies
pub tallies_more : (xs : List ℚ) (x : ℚ) (t u : Tally) → Tallies xs t → u.den ≡ lcm (den x) t.den → u.sizes ≡ t.sizes +ℚ size_of x
    → u.sum ≡ t.sum +ℚ x → Tallies (xs ++ x ∷ []) u
tallies_more xs x t u h d s p = record {
  den = d ∙ ap (lcm (den x)) h.den ∙ sym (den_more xs x);
  sizes = s ∙ ap (λ y. y +ℚ size_of x) h.sizes ∙ sym (sizes_more xs x);
  sum = p ∙ ap (λ y. y +ℚ x) h.sum ∙ sym (sum_more xs x);
}

pub tallied_some : (xs : List ℚ) (t : Tally) → Tallies xs t → IsTallied xs (Some t)
tallied_some xs t h = record { some = h; none = tt }

pub tallied_none : (xs : List ℚ) → ((rest : List ℚ) → ¬ (IsNarrow (xs ++ rest))) → IsTallied xs None
tallied_none xs h = record { some = tt; none = h }

pub none_more : (xs : List ℚ) (x : ℚ) → IsTallied xs None → IsTallied (xs ++ x ∷ []) None
none_more xs x h =
    tallied_none (xs ++ x ∷ []) (λ rest n. h.none (x ∷ rest) (subst IsNarrow (append_assoc xs (x ∷ []) rest) n))

-- from a call that adds x
pub then_some : (xs : List ℚ) (x : ℚ) (r : Option Tally) → IfSome r (Tallies (xs ++ x ∷ []))
    → ((rest : List ℚ) → IfNone r (¬ (IsNarrow (xs ++ x ∷ rest)))) → IsTallied (xs ++ x ∷ []) r
then_some xs x (Some t) s n = tallied_some (xs ++ x ∷ []) t s
then_some xs x None s n =
    tallied_none (xs ++ x ∷ []) (λ rest k. n rest (subst IsNarrow (append_assoc xs (x ∷ []) rest) k))

-- ---- numbers that may be infinite
infinite_more : (xs : List Ext) (x : ℚ) → has_infinite (xs ++ Fin x ∷ []) ≡ has_infinite xs
infinite_more [] x = refl
infinite_more (Inf ∷ xs) x = refl
infinite_more (Fin y ∷ xs) x = infinite_more xs x

infinite_now : (xs : List Ext) → has_infinite (xs ++ Inf ∷ []) ≡ true
infinite_now [] = refl
infinite_now (Inf ∷ xs) = refl
infinite_now (Fin y ∷ xs) = infinite_now xs

finite_more : (xs : List Ext) (x : ℚ) → finite (xs ++ Fin x ∷ []) ≡ finite xs ++ x ∷ []
finite_more [] x = refl
finite_more (Inf ∷ xs) x = finite_more xs x
finite_more (Fin y ∷ xs) x = ap (λ ys. y ∷ ys) (finite_more xs x)

finite_same : (xs : List Ext) → finite (xs ++ Inf ∷ []) ≡ finite xs
finite_same [] = refl
finite_same (Inf ∷ xs) = finite_same xs
finite_same (Fin y ∷ xs) = ap (λ ys. y ∷ ys) (finite_same xs)

pub added_infinite : (xs : List Ext) (a b : Added) → AreAdded xs a → b.infinite ≡ true → b.tally ≡ a.tally → AreAdded (xs ++ Inf ∷ []) b
added_infinite xs a b h i t = record {
  infinite = i ∙ sym (infinite_now xs);
  tally = subst (λ ys. IsTallied ys b.tally) (sym (finite_same xs)) (subst (IsTallied (finite xs)) (sym t) h.tally);
}

pub added_finite : (xs : List Ext) (x : ℚ) (a b : Added) → AreAdded xs a → b.infinite ≡ a.infinite
    → ((ys : List ℚ) → IsTallied ys a.tally → IsTallied (ys ++ x ∷ []) b.tally) → AreAdded (xs ++ Fin x ∷ []) b
added_finite xs x a b h i t = record {
  infinite = i ∙ h.infinite ∙ sym (infinite_more xs x);
  tally = subst (λ ys. IsTallied ys b.tally) (sym (finite_more xs x)) (t (finite xs) h.tally);
}

-- ---- one number more
lcm_turned : (a b : ℕ) → lcm a b ≡ lcm b a
lcm_turned a b = sym (lcm_swap a b) ∙ ap (λ g. b / g * a) (gcd_comm a b)

pub joined_some : (xs : List ℚ) (x : ℚ) (t u : Tally) → Tallies xs t → u.den ≡ lcm t.den (den x) → u.sizes ≡ t.sizes +ℚ size_of x
    → u.sum ≡ t.sum +ℚ x → Tallies (xs ++ x ∷ []) u
joined_some xs x t u h d s p = tallies_more xs x t u h (d ∙ lcm_turned t.den (den x)) s p

pub some_tallies : (xs : List ℚ) (x : ℚ) (t : Tally) (d : ℕ) (r : Option Tally) → Tallies xs t → d ≡ lcm t.den (den x)
    → IfSome r (λ u. (u.den ≡ d) × (u.sizes ≡ t.sizes +ℚ size_of x) × (u.sum ≡ t.sum +ℚ x)) → IfSome r (Tallies (xs ++ x ∷ []))
some_tallies xs x t d (Some u) h e p = joined_some xs x t u h (p.0 ∙ e) p.1 p.2
some_tallies xs x t d None h e p = tt

-- both sums fit where the gauge of all is over no limit
pub both_fit : (xs rest : List ℚ) (x : ℚ) (t : Tally) (r : Option Tally) → Tallies xs t
    → (SumFits t.sizes (size_of x) → SumFits t.sum x → IsSome r) → IfNone r (¬ (IsNarrow (xs ++ x ∷ rest)))
both_fit xs rest x t (Some u) h fit = tt
both_fit xs rest x t None h fit = λ n.
    let one = subst (λ q. SumFits q (size_of x)) (sym h.sizes) (sizes_fit xs x rest n) in
    let two = subst (λ q. SumFits q x) (sym h.sum) (sum_fits xs x rest n) in
    absurd (let bad : false ≡ true = fit one two in cc)

pub den_wide : (xs rest : List ℚ) (x : ℚ) (t : Tally) → Tallies xs t → 2 ^ 128 ≤ lcm t.den (den x) → ¬ (IsNarrow (xs ++ x ∷ rest))
den_wide xs rest x t h wide = λ n.
    let fits = den_fits xs x rest n in
    let same = lcm_turned t.den (den x) ∙ ap (lcm (den x)) h.den in
    absurd (omega (arith, fits, same, wide))
