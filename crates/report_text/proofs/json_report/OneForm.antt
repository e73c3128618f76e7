-- Tables that agree where a report prints give the same report in each form.
use Rattle.std.proofs.Common.{◌≡◌, ℕ, ◌<◌, List, [], ◌∷◌, length, map, refl, sym, ap, ◌∙◌, true}
use Rattle.std.specs.Prelude.{◌==◌, ◌&&◌, is_some, Option, Some, None, codes}
use Rattle.std.specs.List.{range_with_len}
use Rattle.std.proofs.lemmas.Bool.{lt-ltb}
use Rattle.std.proofs.lemmas.List.Concat.{flat_map_single}
use Rattle.net_model.specs.Accepted.{IsAccepted}
use Rattle.net_model.specs.Networks.{Net, NetFlow}
use Rattle.net_model.specs.Orders.{IsOrder}
use Rattle.net_cells.specs.Equations.{MeetsEquations}
use Rattle.net_cells.specs.declared.cell.Kind.TheVariants.{QueueDelay, QueueBacklog, Tfa, Sfa, Bound}
use Rattle.net_cells.specs.Meanings.{CellTable}
use Rattle.net_cells.specs.Numbered.{flow_at, is_live, queues}
use Rattle.net_cells.proofs.Growing.{flat_below}
use Rattle.net_cells.proofs.Tables.{tables_agree}
use Rattle.report_text.specs.CellWords.{server_name}
use Rattle.report_text.specs.Laws.{AgreeWherePrinted}
use Rattle.report_text.specs.Shown.{shown}
use Rattle.report_text.proofs.Agree.{same_shown, one_report}
use Rattle.serde_json.specs.Data.{Data, Members, number, unsigned, array, object, no_members, member}
use Rattle.serde_json.specs.View.{items_of}
use Rattle.report_text.specs.declared.json_report.form.Form.TheVariants.{Lines, Json}
use Rattle.report_text.specs.json_report.Forms.{line_of}
use Rattle.report_text.specs.json_report.JsonLaws.{EquationsGiveOneReportInEachForm}
use Rattle.report_text.specs.json_report.ReportData.{text_member, queue_data, flow_data, server_queues, live_data, flow_at_data, flows_data, queues_data, report_members}

-- ---- values
same_queue : (net : Net) (at other : CellTable) (name : List ℕ) (s q : ℕ) → AgreeWherePrinted net at other
    → q < queues net s → queue_data name at s q ≡ queue_data name other s q
unfolding queue_data
same_queue net at other name s q agree h =
    let has = lt-ltb q (queues net s) h in
    let value = λ (x y : List ℕ).
    object (text_member (codes "backlog") x (text_member (codes "delay") y
    (member (codes "queue") (number (unsigned q)) (text_member (codes "server") name no_members)))) in
    ap (λ x. value x (shown at QueueDelay s q)) (same_shown net at other QueueBacklog s q agree has refl)
    ∙ ap (λ y. value (shown other QueueBacklog s q) y) (same_shown net at other QueueDelay s q agree has refl)

same_flow : (net : Net) (at other : CellTable) (name : List ℕ) (i : ℕ) → AgreeWherePrinted net at other
    → is_live net i ≡ true → flow_data name at i ≡ flow_data name other i
unfolding flow_data
same_flow net at other name i agree live =
    let has : (is_live net i && (0 == 0)) ≡ true = ap (λ b. b && (0 == 0)) live in
    let value = λ (x y z : List ℕ).
    object (text_member (codes "bound") x (text_member (codes "name") name
    (text_member (codes "sfa") y (text_member (codes "tfa") z no_members)))) in
    ap (λ x. value x (shown at Sfa i 0) (shown at Tfa i 0)) (same_shown net at other Bound i 0 agree has refl)
    ∙ ap (λ y. value (shown other Bound i 0) y (shown at Tfa i 0)) (same_shown net at other Sfa i 0 agree has refl)
    ∙ ap (λ z. value (shown other Bound i 0) (shown other Sfa i 0) z) (same_shown net at other Tfa i 0 agree has refl)

same_live : (net : Net) (at other : CellTable) (i : ℕ) (o : Option NetFlow) → AgreeWherePrinted net at other
    → flow_at net i ≡ o → live_data at i o ≡ live_data other i o
same_live net at other i None agree e = refl
same_live net at other i (Some f) agree e =
    ap (λ (d : Data). d ∷ []) (same_flow net at other f.name i agree (ap (λ (o : Option NetFlow). is_some o) e))

-- ---- lists
same_flows : (net : Net) (at other : CellTable) → AgreeWherePrinted net at other
    → flows_data net at ≡ flows_data net other
same_flows net at other agree =
    flat_below (flow_at_data net at) (flow_at_data net other) (length net.flows)
    (λ i h. same_live net at other i (flow_at net i) agree refl)

same_range : (f g : ℕ → Data) (n : ℕ) → ((k : ℕ) → k < n → f k ≡ g k)
    → map f (range_with_len 0 n) ≡ map g (range_with_len 0 n)
same_range f g n same =
    sym (flat_map_single f (range_with_len 0 n))
    ∙ flat_below (λ k. f k ∷ []) (λ k. g k ∷ []) n (λ k h. ap (λ (d : Data). d ∷ []) (same k h))
    ∙ flat_map_single g (range_with_len 0 n)

same_queues : (net : Net) (at other : CellTable) → AgreeWherePrinted net at other
    → queues_data net at ≡ queues_data net other
same_queues net at other agree =
    flat_below (server_queues net at) (server_queues net other) (length net.servers)
    (λ s h. same_range (queue_data (server_name net s) at s) (queue_data (server_name net s) other s) (queues net s)
    (λ q k. same_queue net at other (server_name net s) s q agree k))

-- ---- reports
-- the members of a report, which may stand beside others
same_members : (net : Net) (at other : CellTable) → AgreeWherePrinted net at other
    → report_members net at ≡ report_members net other
same_members net at other agree =
    let members = λ (fs qs : List Data).
    member (codes "flows") (array (items_of fs)) (member (codes "queues") (array (items_of qs)) no_members) in
    ap (λ fs. members fs (queues_data net at)) (same_flows net at other agree)
    ∙ ap (λ qs. members (flows_data net other) qs) (same_queues net at other agree)

pub one_report_data : (net : Net) (order : List ℕ) (at other : CellTable) → IsAccepted net → IsOrder net order
    → MeetsEquations net at → MeetsEquations net other → report_members net at ≡ report_members net other
one_report_data net order at other a o m n =
    same_members net at other (λ c has printed. tables_agree net order at other a o m n c has)

pub one_report_in : EquationsGiveOneReportInEachForm
one_report_in Lines net order at other a o m n = one_report net order at other a o m n
one_report_in Json net order at other a o m n =
    ap (λ (ms : Members). line_of (object ms)) (one_report_data net order at other a o m n)
