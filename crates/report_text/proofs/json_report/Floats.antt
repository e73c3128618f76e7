-- No value of the report has a float.
use Rattle.std.proofs.Common.{◌≡◌, ℕ, zero, suc, List, [], ◌∷◌, ◌++◌, map, length, refl, Bool, true, false, ◌+◌}
use Rattle.std.specs.Prelude.{Option, Some, None, ◌||◌}
use Rattle.std.specs.List.{flat_map, range_with_len}
use Rattle.net_model.specs.Networks.{Net, NetFlow}
use Rattle.net_cells.specs.Meanings.{CellTable}
use Rattle.net_cells.specs.Numbered.{flow_at, queues}
use Rattle.report_text.specs.CellWords.{server_name}
use Rattle.serde_json.specs.Data.{Data}
use Rattle.serde_json.specs.View.{items_of}
use Rattle.serde_json.specs.Written.{has_float, items_have_float, members_have_float}
use Rattle.report_text.specs.json_report.ReportData.{queue_data, flow_data, server_queues, live_data, flow_at_data, report_members, report_data}

-- ---- lists
behind : (b : Bool) (xs ys : List Data)
    → (items_have_float (items_of xs) ≡ false → items_have_float (items_of (xs ++ ys)) ≡ false)
    → (b || items_have_float (items_of xs)) ≡ false → (b || items_have_float (items_of (xs ++ ys))) ≡ false
behind true xs ys more e = e
behind false xs ys more e = more e

joined : (xs ys : List Data) → items_have_float (items_of xs) ≡ false → items_have_float (items_of ys) ≡ false
    → items_have_float (items_of (xs ++ ys)) ≡ false
joined [] ys h k = k
joined (x ∷ xs) ys h k = behind (has_float x) xs ys (λ e. joined xs ys e k) h

flat : (f : ℕ → List Data) (a n : ℕ) → ((k : ℕ) → items_have_float (items_of (f k)) ≡ false)
    → items_have_float (items_of (flat_map f (range_with_len a n))) ≡ false
flat f a zero h = refl
flat f a (suc n) h = joined (f a) (flat_map f (range_with_len (a + 1) n)) (h a) (flat f (a + 1) n h)

mapped : (f : ℕ → Data) (a n : ℕ) → ((k : ℕ) → has_float (f k) ≡ false)
    → items_have_float (items_of (map f (range_with_len a n))) ≡ false
mapped f a zero h = refl
mapped f a (suc n) h = rw (h a) (mapped f (a + 1) n h)

-- ---- the report
of_flow : (name : List ℕ) (at : CellTable) (i : ℕ) → has_float (flow_data name at i) ≡ false
unfolding flow_data
of_flow name at i = refl

of_queue : (name : List ℕ) (at : CellTable) (s q : ℕ) → has_float (queue_data name at s q) ≡ false
unfolding queue_data
of_queue name at s q = refl

of_live : (at : CellTable) (i : ℕ) (o : Option NetFlow) → items_have_float (items_of (live_data at i o)) ≡ false
of_live at i None = refl
of_live at i (Some f) = rw (of_flow f.name at i) refl

-- the members of a report, which may stand beside others
pub members_without_float : (net : Net) (at : CellTable) → members_have_float (report_members net at) ≡ false
members_without_float net at =
    let flows = flat (flow_at_data net at) 0 (length net.flows) (λ i. of_live at i (flow_at net i)) in
    let all = flat (server_queues net at) 0 (length net.servers)
    (λ s. mapped (queue_data (server_name net s) at s) 0 (queues net s) (of_queue (server_name net s) at s)) in
    rw (flows, all) refl

pub no_float : (net : Net) (at : CellTable) → has_float (report_data net at) ≡ false
no_float net at = members_without_float net at
