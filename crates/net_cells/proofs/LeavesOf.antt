-- The cells of some formulas, as lists.
use Rattle.std.proofs.Common.{◌≡◌, ℕ, zero, suc, ◌+◌, List, [], ◌∷◌, ◌++◌, map, refl, sym, ap, ◌∙◌, arith, append_assoc, append-nil, true, false}
use Rattle.std.specs.List.{range_with_len}
use Rattle.std.proofs.lemmas.List.{map-append}
use Rattle.std.proofs.lemmas.List.FromFn.{map-range_with_len_more}
use Rattle.upp_limits.specs.declared.op_kind.OpKind.TheVariants.{Sum}
use Rattle.run_laws.specs.Servers.{Discipline, Fifo, Priority, Drr}
use Rattle.net_model.specs.Networks.{Net}
use Rattle.net_cells.specs.declared.cell.Cell.{Cell}
use Rattle.net_cells.specs.declared.cell.Kind.TheVariants.{In, Residual}
use Rattle.net_cells.specs.Numbered.{is_by_priority}
use Rattle.net_cells.specs.Visits.{Visit}
use Rattle.net_cells.specs.QueueParts.{in_part, by_parts}
use Rattle.net_cells.specs.Cells.{cell_of}
use Rattle.net_cells.specs.Order.{at_visit}
use Rattle.net_cells.specs.Formulas.{Formula, leaves, made, value_of}
use Rattle.net_cells.specs.CellFormulas.{sum_of_cells, sum_from, part_sum, with_part, parts_sum, packets_to, served_to, queue_service}

sum_from_leaves : (F : Formula) (cs : List Cell) → leaves (sum_from F cs) ≡ leaves F ++ cs
sum_from_leaves F [] = sym (append-nil (leaves F))
sum_from_leaves F (c ∷ cs) = sum_from_leaves (made Sum F (value_of c)) cs ∙ append_assoc (leaves F) (c ∷ []) cs

pub sum_leaves : (cs : List Cell) → leaves (sum_of_cells cs) ≡ cs
sum_leaves [] = refl
sum_leaves (c ∷ cs) = sum_from_leaves (value_of c) cs

-- ---- the parts of a queue
part_leaves : (net : Net) (k : ℕ) (vs : List Visit) → leaves (part_sum net k vs) ≡ map (at_visit In) vs
part_leaves net zero vs = sum_leaves (map (at_visit In) vs)
part_leaves net (suc p) vs = sum_leaves (map (at_visit In) vs)

with_leaves : (net : Net) (k : ℕ) (vs : List Visit) (rest : Formula) → leaves (with_part net k vs rest) ≡ map (at_visit In) vs ++ leaves rest
with_leaves net k [] rest = refl
with_leaves net k (v ∷ vs) rest = ap (λ (xs : List Cell). xs ++ leaves rest) (part_leaves net k (v ∷ vs))

pub parts_leaves : (net : Net) (s q : ℕ) (ks : List ℕ) → leaves (parts_sum net s q ks) ≡ map (at_visit In) (by_parts net s q ks)
parts_leaves net s q [] = refl
parts_leaves net s q (k ∷ ks) =
    with_leaves net k (in_part net s q k) (parts_sum net s q ks)
    ∙ ap (λ (xs : List Cell). map (at_visit In) (in_part net s q k) ++ xs) (parts_leaves net s q ks)
    ∙ sym (map-append (at_visit In) (in_part net s q k) (by_parts net s q ks))

-- ---- the service along a path
packets_leaves : (net : Net) (i k : ℕ)
    → leaves (packets_to net i k) ≡ map (cell_of Residual i) (range_with_len 0 (k + 1))
packets_leaves net i zero = refl
packets_leaves net i (suc k) =
    let same : k + 1 + 1 ≡ suc k + 1 = omega arith in
    ap (λ xs. xs ++ cell_of Residual i (suc k) ∷ []) (packets_leaves net i k)
    ∙ sym (map-range_with_len_more (cell_of Residual i) 0 (k + 1) (suc k) (omega arith))
    ∙ ap (λ n. map (cell_of Residual i) (range_with_len 0 n)) same

pub served_leaves : (net : Net) (i k : ℕ)
    → leaves (served_to net i k) ≡ map (cell_of Residual i) (range_with_len 0 (k + 1))
served_leaves net i zero = refl
served_leaves net i (suc k) =
    let same : k + 1 + 1 ≡ suc k + 1 = omega arith in
    ap (λ xs. xs ++ cell_of Residual i (suc k) ∷ []) (packets_leaves net i k)
    ∙ sym (map-range_with_len_more (cell_of Residual i) 0 (k + 1) (suc k) (omega arith))
    ∙ ap (λ n. map (cell_of Residual i) (range_with_len 0 n)) same

-- ---- the service of a queue
pub other_leaves : (net : Net) (s q : ℕ) (d : Discipline) → is_by_priority d ≡ false
    → [] ≡ leaves (queue_service net s q d)
other_leaves net s q Fifo e = refl
other_leaves net s q (Priority n) e = absurd (let bad : true ≡ false = e in cc)
other_leaves net s q (Drr quanta) e = refl
