-- Who keeps a curve in every closed window keeps its subadditive closure.
use Rattle.std.specs.Prelude.{◌≡◌, ℕ, ◌==◌, Bool, ◌&&◌, List, [], ◌∷◌, pos}
use Rattle.std.proofs.Common.{arith, inl, inr, subst}
use Rattle.std.proofs.lemmas.Bool.{and_parts, and_from}
use Rattle.rational.specs.Rational.{ℚ, int, ◌+ℚ◌, ◌-ℚ◌, ◌≤ℚ◌, le_q}
use Rattle.rational.specs.Extended.{Ext, ◌≤ₑ◌, ◌+ₑ◌}
use Rattle.rational.specs.declared.Extended.TheVariants.{Fin}
use Rattle.rational.proofs.Laws.{le_refl, le_of_lt, le_or_lt}
use Rattle.rational.proofs.Bounds.{greatest}
use Rattle.rational.proofs.ExtendedOrder.{le_ext_trans, add_le_ext}
use Rattle.rational.proofs.Linear.{with1, with2, with3, with6, with8}
use Rattle.rational.proofs.Over.{le_q_out}
use Rattle.min_plus.specs.Functions.{zero_q}
use Rattle.min_plus.specs.Convolution.{Parts, AllNonneg, sum_of, sum_at}
use Rattle.min_plus.proofs.TimeSums.{nonneg_total}
use Rattle.run_laws.specs.declared.steps.Step.{Step}
use Rattle.run_laws.specs.declared.steps.Step.TheVariants.{Enter, Reach, Work, Leave, Visit}
use Rattle.run_laws.specs.Cards.{whole, Class, ServerStep}
use Rattle.run_laws.specs.Counts.{when, within, arrived, arrived_upto, arrived_in}
use Rattle.run_laws.specs.RunPremises.{enters, entered_in}
use Rattle.run_laws.specs.Closures.{IsClosureOf, ClosureIsKept, ClosuresKeepPremises}
use Rattle.run_laws.proofs.Sums.{when_nonneg, when_rises}
use Rattle.run_laws.proofs.Sizes.{whole_nonneg}
use Rattle.run_laws.proofs.Counts.{arrived_in_is, window_nonneg}

-- ---- what is counted in windows
-- where a window is cut in two, no more is counted in it than in both
abbrev IsCounted : (ℚ → ℚ → ℚ) → Type 0
IsCounted m = (s u t : ℚ) → s ≤ℚ u → u ≤ℚ t → m s t ≤ℚ m s u +ℚ m u t

-- in each window at most the curve's value at its length is counted
abbrev CountsAtMost : (ℚ → Ext) → (ℚ → ℚ → ℚ) → Type 0
CountsAtMost f m = (s t : ℚ) → s ≤ℚ t → Fin (m s t) ≤ₑ f (t -ℚ s)

parts_counted : (m : ℚ → ℚ → ℚ) (f : ℚ → Ext) (x : ℚ) (xs : List ℚ) (s : ℚ) → IsCounted m → CountsAtMost f m
    → AllNonneg (x ∷ xs) → Fin (m s (s +ℚ sum_of (x ∷ xs))) ≤ₑ sum_at f (x ∷ xs)
parts_counted m f x [] s cut keeps (p, n) =
    let t = s +ℚ (x +ℚ zero_q) in
    let span : t -ℚ s ≡ x = with2 s x (λ c. omega (arith, c.le, c.lt, c.same)) in
    let order : s ≤ℚ t = with2 s x (λ c. omega (arith, c.le, c.lt, c.same)) in
    add_nothing (f x) (subst (λ (y : ℚ). Fin (m s t) ≤ₑ f y) span (keeps s t order))
  where
    add_nothing : (v : Ext) → Fin (m s (s +ℚ (x +ℚ zero_q))) ≤ₑ v → Fin (m s (s +ℚ (x +ℚ zero_q))) ≤ₑ v +ₑ Fin zero_q
    add_nothing v h =
        subst (λ (q : ℚ). Fin q ≤ₑ v +ₑ Fin zero_q)
        (with1 (m s (s +ℚ (x +ℚ zero_q))) (λ c. omega (arith, c.le, c.lt, c.same)))
        (add_le_ext (Fin (m s (s +ℚ (x +ℚ zero_q)))) v (Fin zero_q) (Fin zero_q) h (le_refl zero_q))
parts_counted m f x (y ∷ ys) s cut keeps (p, n) =
    let u = s +ℚ x in
    let later = sum_of (y ∷ ys) in
    let some = nonneg_total (y ∷ ys) n in
    let t = s +ℚ (x +ℚ later) in
    let same : u +ℚ later ≡ t = with3 s x later (λ c. omega (arith, c.le, c.lt, c.same)) in
    let span : u -ℚ s ≡ x = with2 s x (λ c. omega (arith, c.le, c.lt, c.same)) in
    let first_order : s ≤ℚ u = with2 s x (λ c. omega (arith, c.le, c.lt, c.same)) in
    let order : u ≤ℚ t = with3 s x later (λ c. omega (arith, c.le, c.lt, c.same)) in
    let first : Fin (m s u) ≤ₑ f x = subst (λ (z : ℚ). Fin (m s u) ≤ₑ f z) span (keeps s u first_order) in
    let rest : Fin (m u t) ≤ₑ sum_at f (y ∷ ys) =
    subst (λ (z : ℚ). Fin (m u z) ≤ₑ sum_at f (y ∷ ys)) same (parts_counted m f y ys u cut keeps n) in
    le_ext_trans (Fin (m s t)) (Fin (m s u +ℚ m u t)) (sum_at f (x ∷ y ∷ ys)) (cut s u t first_order order)
    (add_le_ext (Fin (m s u)) (f x) (Fin (m u t)) (sum_at f (y ∷ ys)) first rest)

closure_counted : (m : ℚ → ℚ → ℚ) (f F : ℚ → Ext) → IsCounted m → IsClosureOf F f → CountsAtMost f m → CountsAtMost F m
closure_counted m f F cut closed keeps s t l =
    let x = t -ℚ s in
    let low : zero_q ≤ℚ x = with2 s t (λ c. omega (arith, c.le, c.lt, c.same)) in
    let whole : s +ℚ x ≡ t = with2 s t (λ c. omega (arith, c.le, c.lt, c.same)) in
    greatest (λ (p : Parts x). sum_at f (p.first ∷ p.others)) (F x) (Fin (m s t)) (closed x low)
    (λ p. subst (λ (z : ℚ). Fin (m s z) ≤ₑ sum_at f (p.first ∷ p.others)) whole
    (subst (λ (y : ℚ). Fin (m s (s +ℚ y)) ≤ₑ sum_at f (p.first ∷ p.others)) p.whole
    (parts_counted m f p.first p.others s cut keeps p.nonneg)))

-- ---- what arrives at a server
arrivals_counted : (C : Class) (V : List ServerStep) → IsCounted (arrived_in C V)
arrivals_counted C V s u t l m =
    let whole = arrived_in_is C V s t (with3 s u t (λ c. omega (arith, c.le, c.lt, c.same))) in
    let first = arrived_in_is C V s u l in
    let last = arrived_in_is C V u t m in
    let there = arrived_in_is C V u u (le_refl u) in
    let some = window_nonneg C V u u in
    counted (arrived C V s) (arrived C V u) (arrived_upto C V u) (arrived_upto C V t) (arrived_in C V s t)
    (arrived_in C V s u) (arrived_in C V u t) (arrived_in C V u u) whole first last there some
  where
    counted : (As Au Bu Bt st su ut uu : ℚ) → Bt ≡ As +ℚ st → Bu ≡ As +ℚ su → Bt ≡ Au +ℚ ut → Bu ≡ Au +ℚ uu
        → int (pos 0) ≤ℚ uu → st ≤ℚ su +ℚ ut
    counted As Au Bu Bt st su ut uu e f g h k = with8 As Au Bu Bt st su ut uu (λ c. omega (arith, c.le, c.lt, c.same))

pub closure_is_kept : ClosureIsKept
closure_is_kept V C α F closed keeps = closure_counted (arrived_in C V) α F (arrivals_counted C V) closed keeps

-- ---- what enters a run
one_counted : (own : Bool) (s u t v x : ℚ) → int (pos 0) ≤ℚ x
    → when (own && within s t v) x ≤ℚ when (own && within s u v) x +ℚ when (own && within u t v) x
one_counted own s u t v x some = elim (le_or_lt v u) [
  | inl l ↦
      let first = when_rises own (within s t v) (within s u v) x some
      (λ e. and_from (le_q s v) (le_q v u) (and_parts (le_q s v) (le_q v t) e).0 (le_q_out v u l)) in
      let rest = when_nonneg (own && within u t v) x some in
      with3 (when (own && within s t v) x) (when (own && within s u v) x) (when (own && within u t v) x)
      (λ c. omega (arith, c.le, c.lt, c.same))
  | inr l ↦
      let last = when_rises own (within s t v) (within u t v) x some
      (λ e. and_from (le_q u v) (le_q v t) (le_q_out u v (le_of_lt l)) (and_parts (le_q s v) (le_q v t) e).1) in
      let rest = when_nonneg (own && within s u v) x some in
      with3 (when (own && within s t v) x) (when (own && within s u v) x) (when (own && within u t v) x)
      (λ c. omega (arith, c.le, c.lt, c.same))
]

enters_counted : (flow : ℕ) (s u t : ℚ) (xs : List Step)
    → enters flow (within s t) xs ≤ℚ enters flow (within s u) xs +ℚ enters flow (within u t) xs
enters_counted flow s u t [] = with1 (int (pos 0)) (λ c. omega (arith, c.le, c.lt, c.same))
enters_counted flow s u t (Enter f p v b ∷ xs) =
    let one = one_counted (f == flow) s u t v (whole b) (whole_nonneg b) in
    let rest = enters_counted flow s u t xs in
    with6 (when ((f == flow) && within s t v) (whole b)) (when ((f == flow) && within s u v) (whole b))
    (when ((f == flow) && within u t v) (whole b))
    (enters flow (within s t) xs) (enters flow (within s u) xs) (enters flow (within u t) xs)
    (λ c. omega (arith, c.le, c.lt, c.same))
enters_counted flow s u t (Reach r p v ∷ xs) = enters_counted flow s u t xs
enters_counted flow s u t (Work r p a b w ∷ xs) = enters_counted flow s u t xs
enters_counted flow s u t (Leave r p v ∷ xs) = enters_counted flow s u t xs
enters_counted flow s u t (Visit r q v ∷ xs) = enters_counted flow s u t xs

pub closures_keep_premises : ClosuresKeepPremises
closures_keep_premises net run packet α F β closed keeps = record {
  sizes = keeps.sizes;
  arrivals = λ flow live s t l. closure_counted (λ a b. entered_in flow a b run.steps) (α flow) (F flow)
      (λ a u b _ _. enters_counted flow a u b run.steps) (closed flow) (keeps.arrivals flow live) s t l;
  service = keeps.service;
}
