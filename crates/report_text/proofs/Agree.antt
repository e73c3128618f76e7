-- Tables that agree where the report prints give the same report.
use Rattle.std.proofs.Common.{◌≡◌, ℕ, ◌<◌, List, ◌++◌, length, refl, ap, ◌∙◌, true}
use Rattle.std.specs.Prelude.{codes, ◌==◌, ◌&&◌, is_some, IsTrue, Option, Some, None}
use Rattle.std.specs.Fmt.{decimal}
use Rattle.std.specs.List.{flat_map, range_with_len}
use Rattle.std.proofs.lemmas.Bool.{lt-ltb}
use Rattle.net_model.specs.Networks.{Net, NetFlow}
use Rattle.net_cells.specs.declared.cell.Kind.{Kind}
use Rattle.net_cells.specs.declared.cell.Kind.TheVariants.{QueueDelay, QueueBacklog, Tfa, Sfa, Bound}
use Rattle.net_cells.specs.Cells.{cell_of, has_cell}
use Rattle.net_cells.specs.Numbered.{flow_at, is_live, queues}
use Rattle.net_cells.specs.Meanings.{CellTable}
use Rattle.net_cells.proofs.Growing.{flat_below}
use Rattle.net_cells.proofs.Tables.{tables_agree}
use Rattle.report_text.specs.CellWords.{server_name}
use Rattle.report_text.specs.Shown.{shown, shown_value}
use Rattle.report_text.specs.Report.{head_line, queue_line, flow_line, queue_lines, live_line, flow_lines, report_of}
use Rattle.report_text.specs.Laws.{is_printed, AgreeWherePrinted, ReportsAgree, EquationsGiveOneReport}

-- ---- numbers
pub same_shown : (net : Net) (at other : CellTable) (kind : Kind) (a b : ℕ) → AgreeWherePrinted net at other
    → IsTrue (has_cell net (cell_of kind a b)) → IsTrue (is_printed kind) → shown at kind a b ≡ shown other kind a b
same_shown net at other kind a b agree has printed = ap shown_value (agree (cell_of kind a b) has printed)

-- ---- lines
same_queue : (net : Net) (at other : CellTable) (name : List ℕ) (s q : ℕ) → AgreeWherePrinted net at other
    → q < queues net s → queue_line name at s q ≡ queue_line name other s q
unfolding queue_line
same_queue net at other name s q agree h =
    let has = lt-ltb q (queues net s) h in
    let line = λ (x y : List ℕ).
    codes "queue " ++ name ++ codes " " ++ decimal q ++ codes " delay " ++ x ++ codes " backlog " ++ y ++ codes "\n" in
    ap (λ x. line x (shown at QueueBacklog s q)) (same_shown net at other QueueDelay s q agree has refl)
    ∙ ap (λ y. line (shown other QueueDelay s q) y) (same_shown net at other QueueBacklog s q agree has refl)

same_flow : (net : Net) (at other : CellTable) (name : List ℕ) (i : ℕ) → AgreeWherePrinted net at other
    → is_live net i ≡ true → flow_line name at i ≡ flow_line name other i
unfolding flow_line
same_flow net at other name i agree live =
    let has : (is_live net i && (0 == 0)) ≡ true = ap (λ b. b && (0 == 0)) live in
    let line = λ (x y z : List ℕ).
    codes "flow " ++ name ++ codes " tfa " ++ x ++ codes " sfa " ++ y ++ codes " bound " ++ z ++ codes "\n" in
    ap (λ x. line x (shown at Sfa i 0) (shown at Bound i 0)) (same_shown net at other Tfa i 0 agree has refl)
    ∙ ap (λ y. line (shown other Tfa i 0) y (shown at Bound i 0)) (same_shown net at other Sfa i 0 agree has refl)
    ∙ ap (λ z. line (shown other Tfa i 0) (shown other Sfa i 0) z) (same_shown net at other Bound i 0 agree has refl)

same_live : (net : Net) (at other : CellTable) (i : ℕ) (o : Option NetFlow) → AgreeWherePrinted net at other
    → flow_at net i ≡ o → live_line at i o ≡ live_line other i o
same_live net at other i None agree e = refl
same_live net at other i (Some f) agree e =
    same_flow net at other f.name i agree (ap (λ (o : Option NetFlow). is_some o) e)

-- ---- reports
pub reports_agree : ReportsAgree
unfolding report_of
reports_agree net at other agree =
    let flows = λ (t : CellTable). flat_map (flow_lines net t) (range_with_len 0 (length net.flows)) in
    ap (λ ys. head_line net ++ ys ++ flows at)
    (flat_below (queue_lines net at) (queue_lines net other) (length net.servers)
    (λ s h. flat_below (queue_line (server_name net s) at s) (queue_line (server_name net s) other s) (queues net s)
    (λ q k. same_queue net at other (server_name net s) s q agree k)))
    ∙ ap (λ ys. head_line net ++ flat_map (queue_lines net other) (range_with_len 0 (length net.servers)) ++ ys)
    (flat_below (flow_lines net at) (flow_lines net other) (length net.flows)
    (λ i h. same_live net at other i (flow_at net i) agree refl))

pub one_report : EquationsGiveOneReport
one_report net order at other a o m n =
    reports_agree net at other (λ c has printed. tables_agree net order at other a o m n c has)
