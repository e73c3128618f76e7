-- The rates of a network are above 0, and so are their numerators.
use Rattle.std.proofs.Common.{◌≡◌, ℕ, zero, suc, ◌<◌, ◌+◌, List, [], ◌∷◌, map, refl, sym, ap, ◌∙◌, subst, arith, inl, inr, length, get_or, drop, ◌-◌, ◌≤◌}
use Rattle.std.specs.Prelude.{pos, nat_abs}
use Rattle.std.specs.List.{AllByRecursion}
use Rattle.std.proofs.lemmas.List.{drop_more}
use Rattle.rational.specs.Gauge.{Kept, lcm}
use Rattle.net_model.specs.declared.server.Server.{Server}
use Rattle.net_model.specs.Views.{servers_of}
use Rattle.rational.specs.Rational.{int, ◌<ℚ◌}
use Rattle.net_model.specs.Networks.{Net, NetServer}
use Rattle.net_model.specs.Accepted.{IsAccepted}
use Rattle.net_model.proofs.stated_runs.Lists.{In, in_contains}
use Rattle.upp_limits.proofs.Every.{every_map}
use Rattle.sim_bounds.specs.Gauge.{rates_of, common_num}
use Rattle.sim_bounds.proofs.Gauged.{common_num_pos}

each_rate : (xs : List NetServer) → ((x : NetServer) → In xs x → int (pos 0) <ℚ x.rate) → AllByRecursion (λ (x : NetServer). int (pos 0) <ℚ x.rate) xs
each_rate [] h = tt
each_rate (x ∷ xs) h = (h x (inl refl), each_rate xs (λ y i. h y (inr i)))

pub server_rates : (net : Net) → IsAccepted net → AllByRecursion (λ (x : NetServer). int (pos 0) <ℚ x.rate) net.servers
server_rates net ok = each_rate net.servers (λ x i. (ok.servers x (in_contains net.servers x i)).rate)

pub common_some : (net : Net) → IsAccepted net → 0 < common_num (rates_of net)
common_some net ok = common_num_pos (rates_of net) (every_map (λ x. int (pos 0) <ℚ x) (λ (s : NetServer). s.rate) net.servers (server_rates net ok))

-- ---- stored servers
pub rate_at : (xs : List Server) (k : ℕ) (x : Server) → AllByRecursion (λ (s : NetServer). int (pos 0) <ℚ s.rate) (servers_of xs) → k < length xs → x ≡ get_or xs k x → int (pos 0) <ℚ x.rate
rate_at [] k x h l e = absurd (omega (arith, l))
rate_at (y ∷ ys) zero x h l e = subst (λ (t : Server). int (pos 0) <ℚ t.rate) (sym e) h.0
rate_at (y ∷ ys) (suc k) x h l e = rate_at ys k x h.1 (omega (arith, l)) e

pub next_rate : (xs : List Server) (i : ℕ) (x : Server) (a m : ℕ) → 0 < i → i ≤ length xs → x ≡ get_or xs (i - 1) x → a ≡ nat_abs x.rate.num
    → Kept m (lcm a (common_num (map (λ (s : NetServer). s.rate) (servers_of (drop i xs))))) → Kept m (common_num (map (λ (s : NetServer). s.rate) (servers_of (drop (i - 1) xs))))
next_rate xs i x a m some by is size h =
    let num : List Server → ℕ = λ ys. common_num (map (λ (s : NetServer). s.rate) (servers_of ys)) in
    let e : drop (i - 1) xs ≡ x ∷ drop i xs =
    drop_more xs (i - 1) x (omega (arith, some, by)) ∙ ap (λ y. y ∷ drop (i - 1 + 1) xs) (sym is) ∙ ap (λ k. x ∷ drop k xs) (let q : i - 1 + 1 ≡ i = omega (arith, some) in q) in
    subst (λ ys. Kept m (num ys)) (sym e) (subst (λ n. Kept m (lcm n (num (drop i xs)))) size h)
