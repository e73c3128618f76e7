-- From end to end hop by hop: no packet takes longer than the delays at the hops and the links.
use Rattle.std.specs.Prelude.{◌≡◌, ℕ, suc, ◌<◌, ◌+◌, List, [], ◌∷◌, ◌++◌, length, map}
use Rattle.std.specs.List.{range_with_len}
use Rattle.std.proofs.Common.{arith, sym, ap, ◌∙◌, refl, subst, get_or}
use Rattle.rational.specs.Rational.{ℚ}
use Rattle.rational.specs.Extended.{Ext, ◌≤ₑ◌, ◌+ₑ◌}
use Rattle.rational.specs.declared.Extended.TheVariants.{Fin}
use Rattle.rational.proofs.ExtendedOrder.{add_ext_comm, add_ext_assoc}
use Rattle.min_plus.specs.Functions.{zero_q}
use Rattle.run_laws.specs.Runs.{SpecRun}
use Rattle.run_laws.specs.Cards.{of_flow}
use Rattle.run_laws.specs.Delays.{hop_delays, AreAtMost}
use Rattle.net_laws.specs.Paths.{StaysAtMost, sum_along}
use Rattle.net_model.specs.Networks.{Net}
use Rattle.net_cells.specs.declared.cell.Kind.TheVariants.{HopDelay}
use Rattle.net_cells.specs.Numbered.{link}
use Rattle.net_cells.specs.Cells.{cell_of}
use Rattle.net_cells.specs.Meanings.{CellTable}
use Rattle.net_cells.specs.NumberSums.{sum_of_numbers}
use Rattle.net_cells.specs.Means.{HaveNumbers, with_links}
use Rattle.net_bounds.specs.NetRuns.{hops_along, routes_of}
use Rattle.net_bounds.specs.Promises.{seen_by}
use Rattle.net_bounds.proofs.Routed.{link_is}
use Rattle.net_bounds.proofs.Cells.{number_is}
use Rattle.net_bounds.proofs.Hops.{AtHop, flow_stays_there, hop_delay_low}

-- ---- sums of numbers
total_between : (xs ys : List Ext) (y : Ext) → sum_of_numbers (xs ++ y ∷ ys) ≡ y +ₑ sum_of_numbers (xs ++ ys)
total_between [] ys y = refl
total_between (x ∷ xs) ys y =
    ap (λ (z : Ext). x +ₑ z) (total_between xs ys y)
    ∙ sym (add_ext_assoc x y (sum_of_numbers (xs ++ ys)))
    ∙ ap (λ (z : Ext). z +ₑ sum_of_numbers (xs ++ ys)) (add_ext_comm x y)
    ∙ add_ext_assoc y x (sum_of_numbers (xs ++ ys))

-- one more hop: its delay and its link
one_more_hop : (d l rest : Ext) (xs ys : List Ext) → rest ≡ sum_of_numbers (xs ++ ys)
    → (d +ₑ l) +ₑ rest ≡ sum_of_numbers ((d ∷ xs) ++ l ∷ ys)
one_more_hop d l rest xs ys e =
    ap (λ (z : Ext). (d +ₑ l) +ₑ z) e
    ∙ add_ext_assoc d l (sum_of_numbers (xs ++ ys))
    ∙ ap (λ (z : Ext). d +ₑ z) (sym (total_between xs ys l))

-- ---- the rest of a path
-- its servers are those of the hops from j on
abbrev pub IsRestFrom : Net → CellTable → SpecRun → ℕ → ℕ → List ℕ → Type 0
IsRestFrom net at run i j path = (k : ℕ) → k < length path → AtHop net at run i (j + k) (get_or path k 0)

pub first_hop : (net : Net) (at : CellTable) (run : SpecRun) (i j s : ℕ) (path : List ℕ)
    → IsRestFrom net at run i j (s ∷ path) → AtHop net at run i j s
first_hop net at run i j s path h =
    let same : j + 0 ≡ j = omega arith in
    subst (λ (k : ℕ). AtHop net at run i k s) same (h 0 (omega arith))

pub rest_from : (net : Net) (at : CellTable) (run : SpecRun) (i j s : ℕ) (path : List ℕ)
    → IsRestFrom net at run i j (s ∷ path)
    → IsRestFrom net at run i (j + 1) path
rest_from net at run i j s path h k l =
    let same : j + suc k ≡ (j + 1) + k = omega arith in
    subst (λ (m : ℕ). AtHop net at run i m (get_or path k 0)) same (h (suc k) (omega (arith, l)))

-- ---- the delays at its hops
pub stays_along : (net : Net) (at : CellTable) (run : SpecRun) (i j : ℕ) (path queues : List ℕ) (xs : List Ext)
    → length queues ≡ length path
    → IsRestFrom net at run i j path → HaveNumbers at (map (cell_of HopDelay i) (range_with_len j (length path))) xs
    → StaysAtMost (routes_of net) run i (hops_along path queues) xs
stays_along net at run i j [] queues [] e h are = tt
stays_along net at run i j [] queues (x ∷ xs) e h are = absurd are
stays_along net at run i j (s ∷ path) [] xs e h are = absurd (omega (arith, e))
stays_along net at run i j (s ∷ path) (q ∷ queues) [] e h are = absurd are
stays_along net at run i j (s ∷ path) (q ∷ queues) (x ∷ xs) e h are =
    let hop = first_hop net at run i j s path h in
    let is = number_is at (cell_of HopDelay i j) x are.0 in (
      subst (λ (d : Ext). Fin zero_q ≤ₑ d) is (hop_delay_low net at run i j s hop),
      subst (λ (d : Ext). AreAtMost d (hop_delays (of_flow i) run.end (seen_by net run s))) is
          (flow_stays_there net at run i j s hop),
      stays_along net at run i (j + 1) path queues xs (omega (arith, e)) (rest_from net at run i j s path h) are.1,
    )

-- ---- and their sum
pub sum_is : (net : Net) (at : CellTable) (i j : ℕ) (path queues : List ℕ) (xs : List Ext) → length queues ≡ length path
    → HaveNumbers at (map (cell_of HopDelay i) (range_with_len j (length path))) xs
    → sum_along (routes_of net) (hops_along path queues) xs ≡ sum_of_numbers (with_links xs (map (link net) path))
sum_is net at i j [] queues [] e are = refl
sum_is net at i j [] queues (x ∷ xs) e are = absurd are
sum_is net at i j (s ∷ path) [] xs e are = absurd (omega (arith, e))
sum_is net at i j (s ∷ path) (q ∷ queues) [] e are = absurd are
sum_is net at i j (s ∷ path) (q ∷ queues) (x ∷ xs) e are =
    let rest = sum_is net at i (j + 1) path queues xs (omega (arith, e)) are.1 in
    ap (λ (l : ℚ). (x +ₑ Fin l) +ₑ sum_along (routes_of net) (hops_along path queues) xs) (link_is net s)
    ∙ one_more_hop x (Fin (link net s)) (sum_along (routes_of net) (hops_along path queues) xs) xs
    (map Fin (map (link net) path)) rest
