-- From end to end by the service along the path.
use Rattle.std.specs.Prelude.{◌≡◌, ℕ, zero, suc, ◌<◌, ◌+◌, List, [], ◌∷◌, ◌++◌, length, map}
use Rattle.std.proofs.Common.{arith, sym, ap, ◌∙◌, refl, subst}
use Rattle.rational.specs.Rational.{ℚ, ◌+ℚ◌, ◌≤ℚ◌}
use Rattle.rational.specs.Extended.{Ext, ◌≤ₑ◌, ◌+ₑ◌}
use Rattle.rational.specs.declared.Extended.TheVariants.{Fin}
use Rattle.rational.proofs.Linear.{with1, with3}
use Rattle.upp_limits.specs.declared.op_kind.OpKind.TheVariants.{PosMinus, Convolve}
use Rattle.upp_curve.specs.Curve.{value_at}
use Rattle.min_plus.specs.Functions.{zero_q, IsNonnegative}
use Rattle.min_plus.specs.Pointwise.{packetised}
use Rattle.min_plus.specs.Convolution.{IsConvolution}
use Rattle.curve_call.specs.Growth.{GrowsFromZero}
use Rattle.curve_call.specs.Answers.{IsMadeBy}
use Rattle.curve_call.proofs.GrowingAnswers.{growing_answers}
use Rattle.curve_call.proofs.Excesses.{excess_nonneg}
use Rattle.run_laws.specs.Runs.{SpecRun}
use Rattle.run_laws.specs.Cards.{whole, of_flow}
use Rattle.run_laws.proofs.Sizes.{whole_nonneg}
use Rattle.run_laws.proofs.Service.{packets_are_served}
use Rattle.run_laws.specs.Routes.{link_at, last_server}
use Rattle.net_laws.specs.Paths.{IsServedAlong, IsWithinSplits, links_between, links_along}
use Rattle.net_model.specs.Networks.{Net}
use Rattle.net_cells.specs.declared.cell.Kind.TheVariants.{Residual}
use Rattle.net_cells.specs.Numbered.{packet, hops, link}
use Rattle.net_cells.specs.Cells.{cell_of}
use Rattle.net_cells.specs.Meanings.{Meaning, curve, CellTable, IsCurveIn}
use Rattle.net_cells.specs.NumberSums.{sum_of_numbers}
use Rattle.net_cells.specs.CellFormulas.{packets_to, served_to}
use Rattle.net_cells.specs.Means.{Means}
use Rattle.net_bounds.specs.NetRuns.{hops_along, routes_of}
use Rattle.net_bounds.specs.TableValues.{HasFunction}
use Rattle.net_bounds.specs.Promises.{seen_by}
use Rattle.net_bounds.proofs.Routed.{link_is}
use Rattle.net_bounds.proofs.Cells.{values, values_are, HasValues, curve_map, same_curve}
use Rattle.net_bounds.proofs.FormulaParts.{a_curve, less_reads}
use Rattle.net_bounds.proofs.Sizes.{flow_sizes}
use Rattle.net_bounds.proofs.Queues.{here, lawful_here}
use Rattle.net_bounds.proofs.Hops.{flow_served_there}
use Rattle.net_bounds.proofs.Hopwise.{IsRestFrom, first_hop, rest_from}
use Rattle.net_bounds.proofs.Splits.{one_split, more_split}

-- ---- the services along a path
-- a flow's service at hop j, and what it is in whole packets
abbrev pub left : CellTable → ℕ → ℕ → ℚ → Ext
left at i j = values at (cell_of Residual i j)

abbrev pub packed : Net → CellTable → ℕ → ℕ → ℚ → Ext
packed net at i j = packetised (left at i j) (whole (packet net i))

-- those of m hops from j on, in whole packets
abbrev pub packs : Net → CellTable → ℕ → (j m : ℕ) → List (ℚ → Ext)
packs net at i j zero = []
packs net at i j (suc m) = packed net at i j ∷ packs net at i (j + 1) m

-- and of the hop after them, the last
abbrev pub services : Net → CellTable → ℕ → (j m : ℕ) → List (ℚ → Ext)
services net at i j m = packs net at i j m ++ left at i (j + m) ∷ []

packs_more : (net : Net) (at : CellTable) (i j m : ℕ)
    → packs net at i j (suc m) ≡ packs net at i j m ++ packed net at i (j + m) ∷ []
packs_more net at i j zero =
    let same : j ≡ j + 0 = omega arith in
    ap (λ (k : ℕ). packed net at i k ∷ []) same
packs_more net at i j (suc m) =
    let same : (j + 1) + m ≡ j + suc m = omega arith in
    ap (λ (fs : List (ℚ → Ext)). packed net at i j ∷ fs)
    (packs_more net at i (j + 1) m ∙ ap (λ (k : ℕ). packs net at i (j + 1) m ++ packed net at i k ∷ []) same)

pub record IsAlong (fs : List (ℚ → Ext)) (f : ℚ → Ext) : Type 0 where
  pub splits : IsWithinSplits f fs
  pub grows : GrowsFromZero f

-- the flow's service at each hop grows from zero
abbrev pub AllGrow : Net → CellTable → ℕ → Type 0
AllGrow net at i = (k : ℕ) → k < hops net i → GrowsFromZero (left at i k)

packed_grows : (net : Net) (at : CellTable) (i k : ℕ) (f : ℚ → Ext) → GrowsFromZero (left at i k)
    → HasValues (packed net at i k) f → GrowsFromZero f
packed_grows net at i k f grows is =
    growing_answers (PosMinus (whole (packet net i))) (left at i k) (left at i k) f
    (whole_nonneg (packet net i), grows) is

-- one more convolution
more_along : (f g h other : ℚ → Ext) (fs : List (ℚ → Ext)) → IsAlong fs f → GrowsFromZero g → HasValues other g
    → ((t : ℚ) → zero_q ≤ℚ t → IsConvolution f g t (h t)) → IsAlong (fs ++ other ∷ []) h
more_along f g h other fs along grows is made = record {
  splits = more_split f other h fs along.splits
      (λ t p u. subst (λ (y : Ext). h t ≤ₑ f u.first +ₑ y) (is u.second u.second_nonneg) ((made t p).below u));
  grows = growing_answers Convolve f g h (along.grows, grows) made;
}

packs_read : (net : Net) (at : CellTable) (i m : ℕ) (w : Meaning) → AllGrow net at i → m < hops net i
    → Means at (packets_to net i m) w
    → IsCurveIn (λ f. IsAlong (packs net at i 0 (suc m)) (value_at f)) w
packs_read net at i zero w grow h means =
    curve_map (λ f. HasValues (packed net at i 0) (value_at f)) (λ f. IsAlong (packs net at i 0 1) (value_at f)) w
    (λ f is. record {
      splits = one_split (packed net at i 0) (value_at f) is;
      grows = packed_grows net at i 0 (value_at f) (grow 0 h) is;
    })
    (less_reads at (cell_of Residual i 0) (packet net i) w means)
packs_read net at i (suc m) w grow h means =
    let f = means.operand in
    let g = means.gives.operand in
    let before : IsAlong (packs net at i 0 (suc m)) (value_at f) =
    packs_read net at i m (curve f) grow (omega (arith, h)) means.is in
    let is : HasValues (packed net at i (suc m)) (value_at g) =
    less_reads at (cell_of Residual i (suc m)) (packet net i) (curve g) means.gives.is in
    let same : 0 + suc m ≡ suc m = omega arith in
    let all : packs net at i 0 (suc m) ++ packed net at i (suc m) ∷ [] ≡ packs net at i 0 (suc (suc m)) =
    ap (λ (k : ℕ). packs net at i 0 (suc m) ++ packed net at i k ∷ []) (sym same) ∙ sym
    (packs_more net at i 0 (suc m)) in
    curve_map (IsMadeBy Convolve f g) (λ c. IsAlong (packs net at i 0 (suc (suc m))) (value_at c)) w
    (λ c made. subst (λ (fs : List (ℚ → Ext)). IsAlong fs (value_at c)) all
    (more_along (value_at f) (value_at g) (value_at c) (packed net at i (suc m)) (packs net at i 0 (suc m)) before
    (packed_grows net at i (suc m) (value_at g) (grow (suc m) h) is) is made.answers))
    means.gives.gives

pub path_reads : (net : Net) (at : CellTable) (i m : ℕ) (w : Meaning) → AllGrow net at i → m < hops net i
    → HasFunction at (cell_of Residual i 0) a_curve → Means at (served_to net i m) w
    → IsCurveIn (λ f. IsAlong (services net at i 0 m) (value_at f)) w
path_reads net at i zero w grow h one means =
    curve_map (λ f. value_at f ≡ left at i 0) (λ f. IsAlong (services net at i 0 0) (value_at f)) w
    (λ f is. subst (IsAlong (left at i 0 ∷ [])) (sym is)
    record { splits = one_split (left at i 0) (left at i 0) (λ t p. refl); grows = grow 0 h })
    (same_curve at (cell_of Residual i 0) w one means)
path_reads net at i (suc m) w grow h one means =
    let f = means.operand in
    let g = means.gives.operand in
    let before : IsAlong (packs net at i 0 (suc m)) (value_at f) =
    packs_read net at i m (curve f) grow (omega (arith, h)) means.is in
    let is : left at i (suc m) ≡ value_at g = values_are at (cell_of Residual i (suc m)) g means.gives.is in
    let same : suc m ≡ 0 + suc m = omega arith in
    let all : packs net at i 0 (suc m) ++ left at i (suc m) ∷ [] ≡ services net at i 0 (suc m) =
    ap (λ (k : ℕ). packs net at i 0 (suc m) ++ left at i k ∷ []) same in
    curve_map (IsMadeBy Convolve f g) (λ c. IsAlong (services net at i 0 (suc m)) (value_at c)) w
    (λ c made. subst (λ (fs : List (ℚ → Ext)). IsAlong fs (value_at c)) all
    (more_along (value_at f) (value_at g) (value_at c) (left at i (suc m)) (packs net at i 0 (suc m)) before
    (subst GrowsFromZero is (grow (suc m) h)) (λ t p. ap (λ (a : ℚ → Ext). a t) (sym is)) made.answers))
    means.gives.gives

-- ---- the flow is served by them
packed_low : (net : Net) (at : CellTable) (i j : ℕ) → IsNonnegative (packed net at i j)
packed_low net at i j t p = excess_nonneg (left at i j t) (Fin (whole (packet net i)))

pub serves_along : (net : Net) (at : CellTable) (run : SpecRun) (i j m : ℕ) (path queues : List ℕ)
    → length path ≡ suc m → length queues ≡ length path
    → IsRestFrom net at run i j path
    → IsServedAlong (routes_of net) run i (hops_along path queues) (services net at i j m)
serves_along net at run i j m [] queues n e h = absurd (omega (arith, n))
serves_along net at run i j m (s ∷ path) [] n e h = absurd (omega (arith, e))
serves_along net at run i j zero (s ∷ []) (q ∷ []) n e h = flow_served_there net at run i (j + 0) s (h 0 (omega arith))
serves_along net at run i j zero (s ∷ []) (q ∷ r ∷ queues) n e h = absurd (omega (arith, e))
serves_along net at run i j (suc m) (s ∷ []) (q ∷ queues) n e h = absurd (omega (arith, n))
serves_along net at run i j m (s ∷ t ∷ path) (q ∷ []) n e h = absurd (omega (arith, e))
serves_along net at run i j zero (s ∷ t ∷ path) (q ∷ r ∷ queues) n e h = absurd (omega (arith, n))
serves_along net at run i j (suc m) (s ∷ t ∷ path) (q ∷ r ∷ queues) n e h =
    let hop = first_hop net at run i j s (t ∷ path) h in
    let V = seen_by net run s in
    let same : (j + 1) + m ≡ j + suc m = omega arith in
    let rest = serves_along net at run i (j + 1) m (t ∷ path) (r ∷ queues) (omega (arith, n)) (omega (arith, e))
    (rest_from net at run i j s (t ∷ path) h) in (
      packed_low net at i j,
      packets_are_served (here net s) run.end V (of_flow i) (left at i j) (packet net i)
          (lawful_here net at run s hop.server)
          (flow_sizes net at run s i hop.server) (flow_served_there net at run i j s hop),
      subst (λ (k : ℕ). IsServedAlong (routes_of net) run i (hops_along (t ∷ path) (r ∷ queues))
          (packs net at i (j + 1) m ++ left at i k ∷ [])) same rest,
    )

-- ---- the links
pub links_are : (net : Net) (s : ℕ) (path queues : List ℕ) → length queues ≡ suc (length path)
    → sum_of_numbers (map Fin (map (link net) (s ∷ path))) ≡ Fin (links_along (routes_of net) (hops_along (s ∷ path) queues))
links_are net s path [] e = absurd (omega (arith, e))
links_are net s [] (q ∷ queues) e =
    let is = link_is net s in
    ap Fin (with1 (link net s) (λ c. omega (arith, c.le, c.lt, c.same))) ∙ ap (λ (x : ℚ). Fin (zero_q +ℚ x)) (sym is)
links_are net s (t ∷ path) (q ∷ []) e = absurd (omega (arith, e))
links_are net s (t ∷ path) (q ∷ r ∷ queues) e =
    let rest = links_are net t path (r ∷ queues) (omega (arith, e)) in
    let hs = hops_along (t ∷ path) (r ∷ queues) in
    ap (λ (x : Ext). Fin (link net s) +ₑ x) rest
    ∙ ap (λ (x : ℚ). Fin (x +ℚ links_along (routes_of net) hs)) (sym (link_is net s))
    ∙ ap Fin (with3 (link_at (routes_of net) s) (links_between (routes_of net) hs)
    (link_at (routes_of net) (last_server hs)) (λ c. omega (arith, c.le, c.lt, c.same)))
