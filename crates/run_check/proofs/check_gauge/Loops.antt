-- Lists gone over from their start, or from their end.
use Rattle.std.proofs.Common.{◌≡◌, ℕ, ◌<◌, ◌≤◌, ◌+◌, ◌-◌, List, [], ◌∷◌, length, get_or, drop, refl, sym, ap, ◌∙◌, arith}
use Rattle.std.proofs.lemmas.List.{drop_more}
use Rattle.std.specs.Prelude.{true, false}
use Rattle.rational.specs.Rational.{ℚ, ◌-ℚ◌, ◌/ℚ◌, lt_q}
use Rattle.upp_limits.specs.Limits.{Numbers, joined, time_alone, value_alone, slope_alone}
use Rattle.upp_limits.proofs.JoinedNumbers.{joined_assoc, joined_three}
use Rattle.net_model.specs.declared.server.Server.{Server}
use Rattle.net_model.specs.Networks.{NetServer}
use Rattle.net_model.specs.Views.{server_of, servers_of}
use Rattle.sim_bounds.proofs.window_numbers.Loops.{IsPartwise}
use Rattle.run_check.specs.check_gauge.Runs.{work_pace}
use Rattle.run_check.specs.check_gauge.Named.{link_and_rate, links_and_rates, work_numbers, step_numbers, steps_numbers}

-- ---- from the start
pub server_parts : IsPartwise (λ (xs : List Server). links_and_rates (servers_of xs)) (λ (x : Server). link_and_rate (server_of x))
server_parts = record { none = refl; some = λ x xs. refl }

pub step_parts : IsPartwise steps_numbers step_numbers
step_parts = record { none = refl; some = λ x xs. refl }

pub server_joined : (n : Numbers) (x : NetServer) → joined (joined n (time_alone x.link)) (slope_alone x.rate) ≡ joined n (link_and_rate x)
server_joined n x = joined_assoc n (time_alone x.link) (slope_alone x.rate)

-- ---- a work
pub slow_joined : (n : Numbers) (a b w : ℚ) → lt_q a b ≡ false → joined (joined (joined n (time_alone a)) (time_alone b)) (value_alone w) ≡ joined n (work_numbers a b w)
slow_joined n a b w e =
    let none : [] ≡ work_pace a b w = rw e refl in
    joined_three n (time_alone a) (time_alone b) (value_alone w)
    ∙ ap (λ ss. joined n record { times = a ∷ b ∷ []; values = w ∷ []; slopes = ss }) none

pub quick_joined : (n : Numbers) (a b w p : ℚ) → lt_q a b ≡ true → p ≡ w /ℚ (b -ℚ a)
    → joined (joined (joined (joined n (time_alone a)) (time_alone b)) (value_alone w)) (slope_alone p) ≡ joined n (work_numbers a b w)
quick_joined n a b w p e is =
    let own : Numbers = record { times = a ∷ b ∷ []; values = w ∷ []; slopes = [] } in
    let one : p ∷ [] ≡ work_pace a b w = rw e (ap (λ x. x ∷ []) is) in
    ap (λ m. joined m (slope_alone p)) (joined_three n (time_alone a) (time_alone b) (value_alone w))
    ∙ joined_assoc n own (slope_alone p)
    ∙ ap (λ ss. joined n record { times = a ∷ b ∷ []; values = w ∷ []; slopes = ss }) one

-- ---- from the end
pub one_before : {A : Type 0} (xs : List A) (i : ℕ) (x : A) → 0 < i → i ≤ length xs → x ≡ get_or xs (i - 1) x → drop (i - 1) xs ≡ x ∷ drop i xs
one_before xs i x some by is =
    let same : i - 1 + 1 ≡ i = omega (arith, some) in
    drop_more xs (i - 1) x (omega (arith, some, by)) ∙ ap (λ y. y ∷ drop (i - 1 + 1) xs) (sym is) ∙ ap (λ k. x ∷ drop k xs) same
