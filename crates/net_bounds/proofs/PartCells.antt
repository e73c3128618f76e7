-- What the equations say of the cell of a queue that is the sum of its parts.
use Rattle.std.specs.Prelude.{◌≡◌, ◌==◌, ◌<◌, ℕ, zero, suc, Bool, true, false, List, [], ◌∷◌, ◌++◌, map}
use Rattle.std.proofs.Common.{sym, ap, ap₂, ◌∙◌, refl, subst}
use Rattle.std.proofs.lemmas.Bool.{lt-ltb}
use Rattle.rational.specs.Rational.{ℚ, ◌≤ℚ◌}
use Rattle.rational.specs.Extended.{Ext, ◌+ₑ◌, min_ext}
use Rattle.rational.specs.declared.Extended.TheVariants.{Fin}
use Rattle.rational.proofs.ExtendedOrder.{add_zero_ext, add_ext_assoc, add_ext_comm}
use Rattle.min_plus.specs.Functions.{zero_q}
use Rattle.min_plus.specs.Formulas.{bucket_value}
use Rattle.upp_limits.specs.declared.op_kind.OpKind.TheVariants.{Min}
use Rattle.upp_curve.specs.Curve.{SpecCurve, value_at}
use Rattle.upp_curve.specs.Kinds.{bucket}
use Rattle.upp_curve.proofs.KindValues.{bucket_is}
use Rattle.run_laws.specs.Cards.{whole}
use Rattle.curve_call.specs.Answers.{IsMadeBy}
use Rattle.net_model.specs.Networks.{Net}
use Rattle.net_cells.specs.declared.cell.Kind.TheVariants.{In, Total}
use Rattle.net_cells.specs.declared.visit.Visit.{Visit}
use Rattle.net_cells.specs.Numbered.{rate, queues}
use Rattle.net_cells.specs.Visits.{visits_in, longest_of}
use Rattle.net_cells.specs.QueueParts.{part_of, in_part, part_numbers}
use Rattle.net_cells.specs.Cells.{cell_of}
use Rattle.net_cells.specs.Order.{at_visit}
use Rattle.net_cells.specs.CellFormulas.{part_sum, with_part, parts_sum, total}
use Rattle.net_cells.specs.Meanings.{Meaning, curve, CellTable, IsCurveIn}
use Rattle.net_cells.specs.Means.{Means, MeansFrom, IsSumOnto, IsSumOf}
use Rattle.net_cells.specs.Equations.{MeetsEquations}
use Rattle.net_cells.proofs.Lists.{filter_has}
use Rattle.net_bounds.specs.TableValues.{HasFunction}
use Rattle.net_bounds.proofs.ListSums.{sum_over}
use Rattle.net_bounds.proofs.Cells.{values, curve_from, curve_map, HasValues, sum_reads}
use Rattle.net_bounds.proofs.QueueCells.{arriving_at, visits_over, AreHops, visit_curves}

-- ---- the parts with some hop, and their curves
abbrev pub with_hops : ℕ → List Visit → List ℕ → List ℕ
with_hops k [] ks = ks
with_hops k (v ∷ vs) ks = k ∷ ks

abbrev pub listed : Net → (s q : ℕ) → List ℕ → List ℕ
listed net s q [] = []
listed net s q (k ∷ ks) = with_hops k (in_part net s q k) (listed net s q ks)

-- the bucket of the longest packet and the rate of server p
abbrev pub link_bucket : Net → (p : ℕ) → List Visit → ℚ → Ext
link_bucket net p vs t = bucket_value (whole (longest_of net vs)) (rate net p) t

abbrev pub part_values : Net → CellTable → ℕ → List Visit → ℚ → Ext
part_values net at zero vs t = sum_over (arriving_at at) vs t
part_values net at (suc p) vs t = min_ext (sum_over (arriving_at at) vs t) (link_bucket net p vs t)

abbrev pub part_over : Net → CellTable → (s q k : ℕ) → ℚ → Ext
part_over net at s q k t = part_values net at k (in_part net s q k) t

abbrev pub parts_over : Net → CellTable → (s q : ℕ) → List ℕ → ℚ → Ext
parts_over net at s q ks t = sum_over (part_over net at s q) (listed net s q ks) t

abbrev pub total_over : Bool → Net → CellTable → (s q : ℕ) → ℚ → Ext
total_over false net at s q t = sum_over (arriving_at at) (visits_in net s q) t
total_over true net at s q t = parts_over net at s q (part_numbers net) t

-- ---- sums of curves
sum_onto_reads : (f : SpecCurve) (gs : List SpecCurve) (v : Meaning) → IsSumOnto f gs v
    → IsCurveIn (λ h. HasValues (λ t. value_at f t +ₑ sum_over value_at gs t) (value_at h)) v
sum_onto_reads f [] v m =
    subst (IsCurveIn (λ h. HasValues (λ t. value_at f t +ₑ Fin zero_q) (value_at h))) (sym m) (λ t p. sym (add_zero_ext (value_at f t)))
sum_onto_reads f (g ∷ gs) v m =
    let h = m.operand in
    let made = m.is in
    curve_map (λ k. HasValues (λ t. value_at h t +ₑ sum_over value_at gs t) (value_at k))
    (λ k. HasValues (λ t. value_at f t +ₑ (value_at g t +ₑ sum_over value_at gs t)) (value_at k)) v
    (λ k e t p. e t p ∙ ap (λ (x : Ext). x +ₑ sum_over value_at gs t) (made.answers t p)
    ∙ add_ext_assoc (value_at f t) (value_at g t) (sum_over value_at gs t))
    (sum_onto_reads h gs v m.gives)

sum_of_reads : (at : CellTable) (fs : List SpecCurve) (v : Meaning) → IsSumOf fs v
    → IsCurveIn (λ h. HasValues (sum_over value_at fs) (value_at h)) v
sum_of_reads at [] v m = sum_reads at [] v tt m
sum_of_reads at (f ∷ fs) v m = sum_onto_reads f fs v m

sum_more : (fs : List SpecCurve) (f : SpecCurve) (t : ℚ) → sum_over value_at (fs ++ f ∷ []) t ≡ sum_over value_at fs t +ₑ value_at f t
sum_more [] f t = add_zero_ext (value_at f t) ∙ sym (zero_add (value_at f t))
  where
    zero_add : (x : Ext) → Fin zero_q +ₑ x ≡ x
    zero_add x = add_ext_comm (Fin zero_q) x ∙ add_zero_ext x
sum_more (g ∷ fs) f t =
    ap (λ (x : Ext). value_at g t +ₑ x) (sum_more fs f t) ∙ sym (add_ext_assoc (value_at g t) (sum_over value_at fs t) (value_at f t))

-- ---- a part
part_reads : (net : Net) (at : CellTable) (k : ℕ) (vs : List Visit) (w : Meaning) → MeetsEquations net at → AreHops net vs
    → Means at (part_sum net k vs) w → IsCurveIn (λ f. HasValues (part_values net at k vs) (value_at f)) w
part_reads net at zero vs w meets are m =
    curve_map (λ f. HasValues (sum_over (values at) (map (at_visit In) vs)) (value_at f))
    (λ f. HasValues (sum_over (arriving_at at) vs) (value_at f)) w (λ f e t p. e t p ∙ visits_over at vs t)
    (sum_reads at (map (at_visit In) vs) w (visit_curves net at vs meets are) m)
part_reads net at (suc p) vs w meets are m =
    let g = m.operand in
    let B = bucket (whole (longest_of net vs)) (rate net p) in
    let sum = sum_reads at (map (at_visit In) vs) (curve g) (visit_curves net at vs meets are) m.is in
    curve_map (IsMadeBy Min g B) (λ f. HasValues (part_values net at (suc p) vs) (value_at f)) w
    (λ f made t on. made.answers t on ∙ ap₂ min_ext (sum t on ∙ visits_over at vs t) ((bucket_is (whole (longest_of net vs)) (rate net p)).is t on))
    m.gives

-- ---- all parts, after those that were made before
abbrev after_parts : Net → CellTable → (s q : ℕ) → List ℕ → List SpecCurve → ℚ → Ext
after_parts net at s q ks fs t = sum_over value_at fs t +ₑ parts_over net at s q ks t

part_hops : (net : Net) (s q k : ℕ) → AreHops net (visits_in net s q) → AreHops net (in_part net s q k)
part_hops net s q k are v m = are v (filter_has (λ (u : Visit). part_of net u == k) (visits_in net s q) v m).0

parts_reads : (net : Net) (at : CellTable) (s q : ℕ) (ks : List ℕ) (fs : List SpecCurve) (v : Meaning) → MeetsEquations net at
    → AreHops net (visits_in net s q) → MeansFrom at (parts_sum net s q ks) fs v
    → IsCurveIn (λ h. HasValues (after_parts net at s q ks fs) (value_at h)) v
parts_reads net at s q [] fs v meets are m =
    curve_map (λ h. HasValues (sum_over value_at fs) (value_at h)) (λ h. HasValues (λ t. sum_over value_at fs t +ₑ Fin zero_q) (value_at h)) v
    (λ h e t p. e t p ∙ sym (add_zero_ext (sum_over value_at fs t))) (sum_of_reads at fs v m)
parts_reads net at s q (k ∷ ks) fs v meets are m = one (in_part net s q k) refl (λ gs n. parts_reads net at s q ks gs v meets are n) m
  where
    one : (vs : List Visit) → in_part net s q k ≡ vs
        → ((gs : List SpecCurve) → MeansFrom at (parts_sum net s q ks) gs v → IsCurveIn (λ h. HasValues (after_parts net at s q ks gs) (value_at h)) v)
        → MeansFrom at (with_part net k vs (parts_sum net s q ks)) fs v
        → IsCurveIn (λ h. HasValues (λ t. sum_over value_at fs t +ₑ sum_over (part_over net at s q) (with_hops k vs (listed net s q ks)) t) (value_at h)) v
    one [] e rest n = rest fs n
    one (u ∷ vs) e rest n =
        let f = n.operand in
        let hops = subst (AreHops net) e (part_hops net s q k are) in
        let own = part_reads net at k (u ∷ vs) (curve f) meets hops n.is in
        let own_here = λ (t : ℚ) (p : zero_q ≤ℚ t). own t p ∙ ap (λ (ws : List Visit). part_values net at k ws t) (sym e) in
        curve_map (λ h. HasValues (after_parts net at s q ks (fs ++ f ∷ [])) (value_at h))
        (λ h. HasValues (λ t. sum_over value_at fs t +ₑ (part_over net at s q k t +ₑ parts_over net at s q ks t)) (value_at h)) v
        (λ h same t p. same t p ∙ ap (λ (x : Ext). x +ₑ parts_over net at s q ks t) (sum_more fs f t ∙ ap (λ (x : Ext). sum_over value_at fs t +ₑ x) (own_here t p))
        ∙ add_ext_assoc (sum_over value_at fs t) (part_over net at s q k t) (parts_over net at s q ks t))
        (rest (fs ++ f ∷ []) n.gives)

pub total_reads : (net : Net) (at : CellTable) (s q : ℕ) (by_links : Bool) (v : Meaning) → MeetsEquations net at
    → AreHops net (visits_in net s q) → Means at (total by_links net s q) v
    → IsCurveIn (λ f. HasValues (total_over by_links net at s q) (value_at f)) v
total_reads net at s q false v meets are m =
    curve_map (λ f. HasValues (sum_over (values at) (map (at_visit In) (visits_in net s q))) (value_at f))
    (λ f. HasValues (sum_over (arriving_at at) (visits_in net s q)) (value_at f)) v (λ f e t p. e t p ∙ visits_over at (visits_in net s q) t)
    (sum_reads at (map (at_visit In) (visits_in net s q)) v (visit_curves net at (visits_in net s q) meets are) m)
total_reads net at s q true v meets are m =
    curve_map (λ f. HasValues (after_parts net at s q (part_numbers net) []) (value_at f))
    (λ f. HasValues (total_over true net at s q) (value_at f)) v
    (λ f e t p. e t p ∙ add_ext_comm (Fin zero_q) (parts_over net at s q (part_numbers net) t) ∙ add_zero_ext (parts_over net at s q (part_numbers net) t))
    (parts_reads net at s q (part_numbers net) [] v meets are m)

pub total_is : (net : Net) (at : CellTable) (s q : ℕ) → MeetsEquations net at → q < queues net s → AreHops net (visits_in net s q)
    → HasFunction at (cell_of Total s q) (HasValues (total_over (net.version == 2) net at s q))
total_is net at s q meets h are =
    let e = meets (cell_of Total s q) (lt-ltb q (queues net s) h) in
    curve_from at (cell_of Total s q) (HasValues (total_over (net.version == 2) net at s q)) e.value e.is
    (total_reads net at s q (net.version == 2) e.value meets are e.means)
