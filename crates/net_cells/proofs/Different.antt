-- The cells that a cell is made of are different ones.
use Rattle.std.proofs.Common.{◌≡◌, ℕ, zero, suc, ◌-◌, List, [], ◌∷◌, length, map, sym, ap, subst, inl, inr, ◌+◌}
use Rattle.std.specs.Prelude.{not, ◌==◌, Bool, true, false}
use Rattle.std.proofs.lemmas.Bool.{eqb-true}
use Rattle.std.specs.List.{range_with_len}
use Rattle.upp_curve.specs.Curve.{SpecCurve}
use Rattle.residuals.specs.left.Left.{Left, all, above, share}
use Rattle.net_model.specs.Networks.{Net}
use Rattle.net_cells.specs.declared.cell.Cell.{Cell}
use Rattle.net_cells.specs.declared.cell.Kind.{Kind}
use Rattle.net_cells.specs.declared.cell.Kind.TheVariants.{In, Cross, Total, Higher, QueueService, Theta, Residual, QueueDelay, QueueBacklog, HopDelay, ShiftOut, DeconvOut, Out, PathService, Tfa, Sfa, Bound}
use Rattle.net_cells.specs.Numbered.{hops, server_of_hop, queue_of_hop, service, discipline}
use Rattle.net_cells.specs.Visits.{Visit, visits, visits_in, others}
use Rattle.net_cells.specs.QueueParts.{part_of, in_part, part_numbers, by_parts}
use Rattle.net_cells.specs.Cells.{cell_of}
use Rattle.net_cells.specs.Left.{left_of}
use Rattle.net_cells.specs.Order.{at_visit}
use Rattle.net_cells.specs.Formulas.{leaves}
use Rattle.net_cells.specs.CellFormulas.{formula, formula_of, sum_of_cells, total, arriving, left_formula}
use Rattle.net_cells.specs.Laws.{OperandsAreDifferent}
use Rattle.net_cells.proofs.Lists.{Apart, apart_pairs, apart_map, apart_filter, apart_flat, apart_range, filter_has}
use Rattle.net_cells.proofs.Places.{apart_visits, at_visit_one, cell_of_one}
use Rattle.net_cells.proofs.LeavesOf.{sum_leaves, parts_leaves, served_leaves}
use Rattle.run_laws.proofs.Members.{Has}

-- ---- one, two, three
one_apart : (x : Cell) → Apart (x ∷ [])
one_apart x = (λ h. h, tt)

not_in : (x y : Cell) → (y.kind ≡ x.kind → ⊥) → ¬ (Has (y ∷ []) x)
not_in x y n (inl e) = n (ap (λ (c : Cell). c.kind) e)
not_in x y n (inr h) = h

two_apart : (x y : Cell) → (y.kind ≡ x.kind → ⊥) → Apart (x ∷ y ∷ [])
two_apart x y n = (not_in x y n, one_apart y)

not_in_two : (x y z : Cell) → (y.kind ≡ x.kind → ⊥) → (z.kind ≡ x.kind → ⊥) → ¬ (Has (y ∷ z ∷ []) x)
not_in_two x y z n m (inl e) = n (ap (λ (c : Cell). c.kind) e)
not_in_two x y z n m (inr h) = not_in x z m h

three_apart : (x y z : Cell) → (y.kind ≡ x.kind → ⊥) → (z.kind ≡ x.kind → ⊥) → (z.kind ≡ y.kind → ⊥)
    → Apart (x ∷ y ∷ z ∷ [])
three_apart x y z n m l = (not_in_two x y z n m, two_apart y z l)

-- ---- many
numbers_apart : (kind : Kind) (a n : ℕ) → Apart (map (cell_of kind a) (range_with_len 0 n))
numbers_apart kind a n = apart_map (cell_of kind a) (range_with_len 0 n) (cell_of_one kind a) (apart_range 0 n)

in_apart : (net : Net) (s q : ℕ) → Apart (visits_in net s q)
in_apart net s q = apart_filter (λ (v : Visit). queue_of_hop net v.flow v.hop == q) (visits net s) (apart_visits net s)

sum_apart : (cs : List Cell) → Apart cs → Apart (leaves (sum_of_cells cs))
sum_apart cs a = subst Apart (sym (sum_leaves cs)) a

-- the parts of a queue have different hops
parts_apart : (net : Net) (s q : ℕ) → Apart (by_parts net s q (part_numbers net))
parts_apart net s q =
    apart_flat (in_part net s q) (part_of net) (part_numbers net)
    (λ k v h. eqb-true (part_of net v) k (filter_has (λ (u : Visit). part_of net u == k) (visits_in net s q) v h).1)
    (λ k. apart_filter (λ (u : Visit). part_of net u == k) (visits_in net s q) (in_apart net s q))
    (apart_range 0 (suc (length net.servers)))

of_total : (net : Net) (s q : ℕ) (by_links : Bool) → Apart (leaves (total by_links net s q))
of_total net s q false =
    sum_apart (map (at_visit In) (visits_in net s q))
    (apart_map (at_visit In) (visits_in net s q) (at_visit_one In) (in_apart net s q))
of_total net s q true =
    subst Apart (sym (parts_leaves net s q (part_numbers net)))
    (apart_map (at_visit In) (by_parts net s q (part_numbers net)) (at_visit_one In) (parts_apart net s q))

-- ---- by kinds
of_arriving : (net : Net) (i k : ℕ) → Apart (leaves (arriving net i k))
of_arriving net i zero = tt
of_arriving net i (suc k) = one_apart (cell_of Out i k)

of_service : (f : SpecCurve) (l : Left Cell) → Apart (leaves (left_formula f l))
of_service f all = tt
of_service f (above before lower) = one_apart before
of_service f (share quanta longest queue) = tt

of_kind : (net : Net) (kind : Kind) (a b : ℕ) → Apart (leaves (formula_of net kind a b))
of_kind net In i k = of_arriving net i k
of_kind net Cross i k =
    let s = server_of_hop net i k in
    let q = queue_of_hop net i k in
    sum_apart (map (at_visit In) (others net i s q))
    (apart_map (at_visit In) (others net i s q) (at_visit_one In)
    (apart_filter (λ (v : Visit). not (v.flow == i)) (visits_in net s q) (in_apart net s q)))
of_kind net Total s q = of_total net s q (net.version == 2)
of_kind net Higher s q = sum_apart (map (cell_of Total s) (range_with_len 0 q)) (numbers_apart Total s q)
of_kind net QueueService s q = of_service (service net s) (left_of net s q (discipline net s))
of_kind net Theta i k = two_apart (cell_of Cross i k) (cell_of QueueService (server_of_hop net i k) (queue_of_hop net i k))
    (λ e. cc)
of_kind net Residual i k =
    three_apart (cell_of QueueService (server_of_hop net i k) (queue_of_hop net i k)) (cell_of Cross i k) (cell_of Theta i k)
    (λ e. cc) (λ e. cc) (λ e. cc)
of_kind net QueueDelay s q = two_apart (cell_of Total s q) (cell_of QueueService s q) (λ e. cc)
of_kind net QueueBacklog s q = two_apart (cell_of Total s q) (cell_of QueueService s q) (λ e. cc)
of_kind net HopDelay i k =
    three_apart (cell_of QueueDelay (server_of_hop net i k) (queue_of_hop net i k)) (cell_of In i k) (cell_of Residual i k)
    (λ e. cc) (λ e. cc) (λ e. cc)
of_kind net ShiftOut i k = two_apart (cell_of In i k) (cell_of HopDelay i k) (λ e. cc)
of_kind net DeconvOut i k = two_apart (cell_of In i k) (cell_of Residual i k) (λ e. cc)
of_kind net Out i k = two_apart (cell_of ShiftOut i k) (cell_of DeconvOut i k) (λ e. cc)
of_kind net PathService i b = subst Apart (sym (served_leaves net i (hops net i - 1)))
    (numbers_apart Residual i (hops net i - 1 + 1))
of_kind net Tfa i b = numbers_apart HopDelay i (hops net i)
of_kind net Sfa i b = two_apart (cell_of In i 0) (cell_of PathService i 0) (λ e. cc)
of_kind net Bound i b = two_apart (cell_of Tfa i 0) (cell_of Sfa i 0) (λ e. cc)

pub operands_are_different : OperandsAreDifferent
operands_are_different net c = apart_pairs (leaves (formula net c)) (of_kind net c.kind c.a c.b)
