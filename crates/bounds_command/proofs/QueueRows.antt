-- The rows of queues, port by port.
use Rattle.std.proofs.Common.{◌≡◌, ℕ, zero, suc, ◌<◌, ◌+◌, Option, None, List, [], ◌∷◌, ◌++◌, length, get_or, map, refl, sym, ◌∙◌, ap, ap₂, arith}
use Rattle.std.specs.List.{flat_map, range_with_len}
use Rattle.std.proofs.lemmas.List.{flat_map_more}
use Rattle.std.proofs.lemmas.List.FromFn.{map-range_with_len_more}
use Rattle.arrival_lines.specs.declared.grid.Queue.{Queue}
use Rattle.tree_network.specs.Networks.{port_at, queues_of}
use Rattle.tree_network.specs.declared.network.Port.{Port}
use Rattle.tree_network.specs.declared.network.Network.{Network}
use Rattle.document_tables.specs.Documents.{DocumentText}
use Rattle.tree_bounds.specs.Tables.{IsTableOf, items_of, row_in}
use Rattle.tree_bounds.specs.declared.analysis.Table.{Table}
use Rattle.tree_bounds.specs.guarantee.Loads.{rates_at}
use Rattle.bounds_command.specs.Loads.{AreRates}
use Rattle.bounds_command.specs.Reports.{QueueText, queue_text, queues_with, queues_at, name_at}

-- ---- lists
same_on : {X : Type 0} (f g : ℕ → X) (a n : ℕ) → ((q : ℕ) → q < a + n → f q ≡ g q)
    → map f (range_with_len a n) ≡ map g (range_with_len a n)
same_on f g a zero h = refl
same_on f g a (suc n) h =
    ap₂ (λ x xs. x ∷ xs) (h a (omega arith)) (same_on f g (a + 1) n (λ q lt. h q (omega (arith, lt))))

map_id : (xs : List ℕ) → map (λ x. x) xs ≡ xs
map_id [] = refl
map_id (x ∷ xs) = ap (λ ys. x ∷ ys) (map_id xs)

range_more : (n : ℕ) → range_with_len 0 (n + 1) ≡ range_with_len 0 n ++ n ∷ []
range_more n =
    sym (map_id (range_with_len 0 (n + 1))) ∙ map-range_with_len_more (λ x. x) 0 n n (omega arith)
    ∙ ap (λ xs. xs ++ n ∷ []) (map_id (range_with_len 0 n))

pub ports_more : {A : Type 0} (f : ℕ → List A) (n : ℕ)
    → flat_map f (range_with_len 0 n) ++ f n ≡ flat_map f (range_with_len 0 (n + 1))
ports_more f n = flat_map_more f [] (range_with_len 0 n) n ∙ ap (flat_map f) (sym (range_more n))

-- ---- of a port
pub port_rows : (d : DocumentText) (net : Network) (table : Table) (rates : List (List ℕ)) (s : ℕ) (name : List ℕ)
    (port : Port)
    (loads : List ℕ) (found : List (Option Queue)) → IsTableOf net table
    → AreRates net.ports.items net.links.items rates
    → s < length net.ports.items → name ≡ name_at d.port_names s → port ≡ port_at net s → loads ≡ get_or rates s []
    → found ≡ get_or (items_of table.rows.items) s []
    → queues_with name port (λ q. get_or loads q 0) (λ q. get_or found q None) (length found) ≡ queues_at d net table s
port_rows d net table rates s name port loads found is are h en ep el ef =
    let count : length found ≡ queues_of (port_at net s).discipline = ap length ef ∙ is.queues s h in
    let f : ℕ → QueueText = λ q. queue_text name port q (get_or loads q 0) (get_or found q None) in
    let g : ℕ → QueueText = λ q. queue_text (name_at d.port_names s) (port_at net s) q (rates_at net s q)
    (row_in table s q) in
    same_on f g 0 (length found) (λ q lt. one q (omega (arith, lt, count)))
    ∙ ap (λ n. map g (range_with_len 0 n)) count
  where
    one : (q : ℕ) → q < queues_of (port_at net s).discipline
        → queue_text name port q (get_or loads q 0) (get_or found q None)
        ≡ queue_text (name_at d.port_names s) (port_at net s) q (rates_at net s q) (row_in table s q)
    one q lt =
        let value : get_or loads q 0 ≡ rates_at net s q = ap (λ (xs : List ℕ). get_or xs q 0) el ∙ are.each s q h lt in
        let row : get_or found q None ≡ row_in table s q = ap (λ (xs : List (Option Queue)). get_or xs q None) ef in
        ap (λ (x : List ℕ). queue_text x port q (get_or loads q 0) (get_or found q None)) en
        ∙ ap (λ (p : Port). queue_text (name_at d.port_names s) p q (get_or loads q 0) (get_or found q None)) ep
        ∙ ap₂ (λ (r : ℕ) (o : Option Queue). queue_text (name_at d.port_names s) (port_at net s) q r o) value row
