-- The work of a cell is the number of its operators.
use Rattle.std.proofs.Common.{◌≡◌, ℕ, zero, suc, ◌+◌, ◌-◌, ◌*◌, List, [], ◌∷◌, length, map, refl, sym, ap, ◌∙◌, subst, arith, length-append, inl, inr, ◌<◌, Bool, true, false}
use Rattle.std.specs.Prelude.{◌==◌, if◌then◌else◌}
use Rattle.std.proofs.lemmas.Bool.{cases_eq}
use Rattle.std.specs.List.{range_with_len}
use Rattle.std.proofs.lemmas.List.{length-map}
use Rattle.std.proofs.lemmas.List.FromFn.{length-range_with_len}
use Rattle.upp_limits.specs.declared.op_kind.OpKind.TheVariants.{Sum}
use Rattle.upp_curve.specs.Curve.{SpecCurve}
use Rattle.residuals.specs.left.Left.{Left, all, above, share, left_work}
use Rattle.net_model.specs.Networks.{Net}
use Rattle.net_cells.specs.declared.cell.Cell.{Cell}
use Rattle.net_cells.specs.declared.cell.Kind.{Kind}
use Rattle.net_cells.specs.declared.cell.Kind.TheVariants.{In, Cross, Total, Higher, QueueService, Theta, Residual, QueueDelay, QueueBacklog, HopDelay, ShiftOut, DeconvOut, Out, PathService, Tfa, Sfa, Bound}
use Rattle.net_cells.specs.Numbered.{hops, server_of_hop, queue_of_hop, service, discipline}
use Rattle.net_cells.specs.Visits.{Visit, visits_in, others}
use Rattle.net_cells.specs.QueueParts.{in_part, part_numbers, by_parts, link_part, links_among}
use Rattle.net_cells.specs.Cells.{cell_of}
use Rattle.net_cells.specs.Left.{left_of}
use Rattle.net_cells.specs.Order.{at_visit}
use Rattle.net_cells.specs.Formulas.{Formula, operators, is_more, made, value_of}
use Rattle.net_cells.specs.CellFormulas.{formula_of, sum_of_cells, sum_from, part_sum, with_part, parts_sum, total, arriving, packets_to, served_to, left_formula}
use Rattle.net_cells.specs.Work.{kind_work, total_work}
use Rattle.net_cells.specs.Laws.{WorkIsOperators}

more_terms : (F : Formula) (cs : List Cell) → operators (sum_from F cs) ≡ operators F + length cs
more_terms F [] = omega arith
more_terms F (c ∷ cs) = let h = more_terms (made Sum F (value_of c)) cs in omega (arith, h)

pub terms : (cs : List Cell) → length cs - 1 ≡ operators (sum_of_cells cs)
terms [] = refl
terms (c ∷ cs) = let h = more_terms (value_of c) cs in omega (arith, h)

visit_terms : (vs : List Visit) → length vs - 1 ≡ operators (sum_of_cells (map (at_visit In) vs))
visit_terms vs = ap (λ (n : ℕ). n - 1) (sym (length-map vs (at_visit In))) ∙ terms (map (at_visit In) vs)

-- ---- the parts of a queue
pub part_terms : (net : Net) (k : ℕ) (v : Visit) (vs : List Visit) → operators (part_sum net k (v ∷ vs)) ≡ length vs + link_part k (v ∷ vs)
part_terms net zero v vs = let h = visit_terms (v ∷ vs) in omega (arith, h)
part_terms net (suc p) v vs = let h = visit_terms (v ∷ vs) in omega (arith, h)

abbrev more : Formula → ℕ
more F = if is_more F then 1 else 0

record IsCounted (F : Formula) (terms links : ℕ) : Type 0 where
  count : operators F ≡ terms - 1 + links
  none : terms ≡ 0 → more F ≡ 0
  some : 0 < terms → more F ≡ 1

counted_same : (F : Formula) (n m j k : ℕ) → j ≡ n → k ≡ m → IsCounted F n m → IsCounted F j k
counted_same F n m j k e f h = subst (λ (x : ℕ). IsCounted F j x) (sym f) (subst (λ (x : ℕ). IsCounted F x m) (sym e) h)

with_terms : (net : Net) (k n m : ℕ) (vs : List Visit) (rest : Formula) → IsCounted rest n m
    → IsCounted (with_part net k vs rest) (length vs + n) (link_part k vs + m)
with_terms net zero n m [] rest h = counted_same rest n m (0 + n) (0 + m) (omega arith) (omega arith) h
with_terms net (suc p) n m [] rest h = counted_same rest n m (0 + n) (0 + m) (omega arith) (omega arith) h
with_terms net k n m (v ∷ vs) rest h =
    let one = part_terms net k v vs in
    let two = h.count in
    let joined : operators (part_sum net k (v ∷ vs)) + operators rest + more rest ≡ suc (length vs) + n - 1 + (link_part k (v ∷ vs) + m) =
    elim (cases_eq n 0) [
      | inl e ↦ let last = h.none e in omega arith
      | inr e ↦ let last = h.some (omega arith) in omega arith
    ] in
    record { count = joined; none = λ e. absurd (omega arith); some = λ l. refl }

parts_terms : (net : Net) (s q : ℕ) (ks : List ℕ) → IsCounted (parts_sum net s q ks) (length (by_parts net s q ks)) (links_among net s q ks)
parts_terms net s q [] = record { count = refl; none = λ e. refl; some = λ l. absurd (omega arith) }
parts_terms net s q (k ∷ ks) =
    let rest = with_terms net k (length (by_parts net s q ks)) (links_among net s q ks) (in_part net s q k) (parts_sum net s q ks) (parts_terms net s q ks) in
    subst (λ (j : ℕ). IsCounted (parts_sum net s q (k ∷ ks)) j (links_among net s q (k ∷ ks)))
    (sym (length-append (in_part net s q k) (by_parts net s q ks))) rest

total_terms : (net : Net) (s q : ℕ) (by_links : Bool) → total_work by_links net s q ≡ operators (total by_links net s q)
total_terms net s q false = visit_terms (visits_in net s q)
total_terms net s q true = sym (parts_terms net s q (part_numbers net)).count

queue_terms : (s q : ℕ) → q - 1 ≡ operators (sum_of_cells (map (cell_of Total s) (range_with_len 0 q)))
queue_terms s q =
    ap (λ (n : ℕ). n - 1) (sym (length-map (range_with_len 0 q) (cell_of Total s) ∙ length-range_with_len 0 q))
    ∙ terms (map (cell_of Total s) (range_with_len 0 q))

of_service : (f : SpecCurve) (l : Left Cell) → left_work l ≡ operators (left_formula f l)
of_service f all = refl
of_service f (above before lower) = refl
of_service f (share quanta longest queue) = refl

of_arriving : (net : Net) (i k : ℕ) → 0 ≡ operators (arriving net i k)
of_arriving net i zero = refl
of_arriving net i (suc k) = refl

of_packets : (net : Net) (i k : ℕ) → operators (packets_to net i k) ≡ 2 * k + 1
of_packets net i zero = refl
of_packets net i (suc k) = let h = of_packets net i k in omega (arith, h)

of_path : (net : Net) (i k : ℕ) → 2 * k ≡ operators (served_to net i k)
of_path net i zero = refl
of_path net i (suc k) = let h = of_packets net i k in omega (arith, h)

of_kind : (net : Net) (kind : Kind) (a b : ℕ) → kind_work net kind a b ≡ operators (formula_of net kind a b)
of_kind net In i k = of_arriving net i k
of_kind net Cross i k = visit_terms (others net i (server_of_hop net i k) (queue_of_hop net i k))
of_kind net Total s q = total_terms net s q (net.version == 2)
of_kind net Higher s q = queue_terms s q
of_kind net QueueService s q = of_service (service net s) (left_of net s q (discipline net s))
of_kind net Theta i k = refl
of_kind net Residual i k = refl
of_kind net QueueDelay s q = refl
of_kind net QueueBacklog s q = refl
of_kind net HopDelay i k = refl
of_kind net ShiftOut i k = refl
of_kind net DeconvOut i k = refl
of_kind net Out i k = refl
of_kind net PathService i b = of_path net i (hops net i - 1)
of_kind net Tfa i b = refl
of_kind net Sfa i b = refl
of_kind net Bound i b = refl

pub work_is : WorkIsOperators
work_is net c = of_kind net c.kind c.a c.b
