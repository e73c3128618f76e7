-- Numbers gathered part by part, along a list.
use Rattle.std.proofs.Common.{◌≡◌, ℕ, zero, suc, ◌<◌, ◌≤◌, ◌+◌, List, [], ◌∷◌, length, get_or, drop, refl, sym, ap, ◌∙◌, subst, arith, Some, None}
use Rattle.std.specs.Prelude.{Option, map}
use Rattle.std.proofs.lemmas.List.{drop_more, drop_all}
use Rattle.rational.specs.Rational.{ℚ}
use Rattle.upp_limits.specs.Limits.{Numbers, Sizes, no_numbers, joined}
use Rattle.upp_limits.specs.Sized.{HeldBy}
use Rattle.upp_limits.proofs.JoinedNumbers.{joined_assoc, joined_nothing}
use Rattle.upp_limits.proofs.Operands.{held_left, held_right}
use Rattle.net_model.specs.declared.flow.Flow.{Flow}
use Rattle.net_model.specs.declared.server.Server.{Server}
use Rattle.net_model.specs.Networks.{NetServer}
use Rattle.net_model.specs.Views.{flows_of, servers_of}
use Rattle.sim_bounds.specs.Gauge.{numbers_to, numbers_of_curves, arrivals_of}
use Rattle.sim_bounds.proofs.window_numbers.SameGathered.{curves_split}

-- ---- any list whose numbers are those of its elements
pub record IsPartwise {A : Type 0} (all : List A → Numbers) (one : A → Numbers) : Type 0 where
  pub none : all [] ≡ no_numbers
  pub some : (x : A) (xs : List A) → all (x ∷ xs) ≡ joined (one x) (all xs)

pub next_part : {A : Type 0} (all : List A → Numbers) (one : A → Numbers) → IsPartwise all one → (xs : List A) (i : ℕ) (x : A) (m whole : Numbers) → i < length xs → x ≡ get_or xs i x
    → joined m (all (drop i xs)) ≡ whole → joined (joined m (one x)) (all (drop (i + 1) xs)) ≡ whole
next_part all one parts xs i x m whole h is e =
    let rest = drop (i + 1) xs in
    let d : drop i xs ≡ x ∷ rest = drop_more xs i x h ∙ ap (λ y. y ∷ rest) (sym is) in
    joined_assoc m (one x) (all rest) ∙ ap (joined m) (sym (parts.some x rest) ∙ ap all (sym d)) ∙ e

pub last_part : {A : Type 0} (all : List A → Numbers) (one : A → Numbers) → IsPartwise all one → (xs : List A) (i : ℕ) (m whole : Numbers) → length xs ≤ i
    → joined m (all (drop i xs)) ≡ whole → m ≡ whole
last_part all one parts xs i m whole h e =
    sym (joined_nothing m) ∙ ap (joined m) (sym parts.none ∙ ap all (sym (drop_all i xs h))) ∙ e

pub held_part : {A : Type 0} (all : List A → Numbers) (one : A → Numbers) → IsPartwise all one → (z : Sizes) (end : ℚ) (xs : List A) (i : ℕ) (x : A) → i < length xs → x ≡ get_or xs i x
    → HeldBy z end (all xs) → HeldBy z end (one x)
held_part all one parts z end [] i x h is held = absurd (omega (arith, h))
held_part all one parts z end (y ∷ ys) zero x h is held =
    subst (λ t. HeldBy z end (one t)) (sym is) (held_left z end (one y) (all ys) (subst (HeldBy z end) (parts.some y ys) held))
held_part all one parts z end (y ∷ ys) (suc i) x h is held =
    held_part all one parts z end ys i x (omega (arith, h)) is (held_right z end (one y) (all ys) (subst (HeldBy z end) (parts.some y ys) held))

-- ---- curves
pub service_parts : (end : ℚ) → IsPartwise (λ (xs : List Server). numbers_of_curves end (map (λ (s : NetServer). s.service) (servers_of xs))) (λ (x : Server). numbers_to end x.service)
service_parts end = record { none = refl; some = λ x xs. refl }

pub arrival_parts : (end : ℚ) → IsPartwise (λ (xs : List (Option Flow)). numbers_of_curves end (arrivals_of (flows_of xs))) (λ (x : Option Flow). numbers_of_curves end (arrivals_of (flows_of (x ∷ []))))
arrival_parts end = record { none = refl; some = some }
  where
    some : (x : Option Flow) (xs : List (Option Flow)) → numbers_of_curves end (arrivals_of (flows_of (x ∷ xs)))
        ≡ joined (numbers_of_curves end (arrivals_of (flows_of (x ∷ [])))) (numbers_of_curves end (arrivals_of (flows_of xs)))
    some None xs = refl
    some (Some f) xs = sym (curves_split end (f.arrival ∷ []) (arrivals_of (flows_of xs)))
