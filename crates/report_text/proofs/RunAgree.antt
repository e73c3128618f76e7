-- Tables that agree where a report prints give the same report on what is found in a run.
use Rattle.std.proofs.Common.{◌≡◌, ℕ, ◌<◌, List, ◌++◌, length, refl, ap, ◌∙◌, true}
use Rattle.std.specs.Prelude.{codes, ◌==◌, ◌&&◌, is_some, slice_get, Option, Some, None}
use Rattle.std.specs.Fmt.{decimal}
use Rattle.std.specs.List.{flat_map, range_with_len}
use Rattle.std.proofs.lemmas.Bool.{lt-ltb}
use Rattle.rational.specs.Rational.{ℚ}
use Rattle.net_model.specs.Networks.{Net, NetFlow}
use Rattle.net_cells.specs.declared.cell.Kind.TheVariants.{QueueBacklog, Bound}
use Rattle.net_cells.specs.Meanings.{CellTable}
use Rattle.net_cells.specs.Numbered.{flow_at, is_live, queues}
use Rattle.net_cells.proofs.Tables.{tables_agree}
use Rattle.net_cells.proofs.Growing.{flat_below}
use Rattle.report_text.specs.CellWords.{server_name}
use Rattle.report_text.specs.Laws.{AgreeWherePrinted, RunReportsAgree, EquationsGiveOneRunReport}
use Rattle.report_text.specs.Report.{head_line}
use Rattle.report_text.specs.RunReport.{run_line, worst_line, peak_line, live_worst, worst_lines, peak_lines, breach_line}
use Rattle.report_text.specs.RunReport.{time_text, bits_text, peak_at, run_report_of}
use Rattle.report_text.proofs.Agree.{same_shown}

-- ---- lines
same_worst : (net : Net) (at other : CellTable) (name : List ℕ) (worst : List ℚ) (i : ℕ)
    → AgreeWherePrinted net at other → is_live net i ≡ true → worst_line name at worst i ≡ worst_line name other worst i
unfolding worst_line
same_worst net at other name worst i agree live =
    let has : (is_live net i && (0 == 0)) ≡ true = ap (λ b. b && (0 == 0)) live in
    ap
    (λ (x : List ℕ).
    codes "worst " ++ name ++ codes " " ++ time_text (slice_get worst i) ++ codes " bound " ++ x ++ codes "\n")
    (same_shown net at other Bound i 0 agree has refl)

same_live : (net : Net) (at other : CellTable) (worst : List ℚ) (i : ℕ) (o : Option NetFlow)
    → AgreeWherePrinted net at other → flow_at net i ≡ o → live_worst at worst i o ≡ live_worst other worst i o
same_live net at other worst i None agree e = refl
same_live net at other worst i (Some f) agree e =
    same_worst net at other f.name worst i agree (ap (λ (o : Option NetFlow). is_some o) e)

same_peak : (net : Net) (at other : CellTable) (name : List ℕ) (peaks : List (List ℕ)) (s q : ℕ)
    → AgreeWherePrinted net at other → q < queues net s → peak_line name at peaks s q ≡ peak_line name other peaks s q
unfolding peak_line
same_peak net at other name peaks s q agree h =
    ap
    (λ (x : List ℕ).
    codes "peak " ++ name ++ codes " " ++ decimal q ++ codes " " ++ bits_text (peak_at peaks s q)
    ++ codes " bound " ++ x ++ codes "\n")
    (same_shown net at other QueueBacklog s q agree (lt-ltb q (queues net s) h) refl)

-- ---- all lines
pub same_worsts : (net : Net) (at other : CellTable) (worst : List ℚ) → AgreeWherePrinted net at other
    → flat_map (worst_lines net at worst) (range_with_len 0 (length net.flows))
    ≡ flat_map (worst_lines net other worst) (range_with_len 0 (length net.flows))
same_worsts net at other worst same =
    flat_below (worst_lines net at worst) (worst_lines net other worst) (length net.flows)
    (λ i h. same_live net at other worst i (flow_at net i) same refl)

pub same_peaks : (net : Net) (at other : CellTable) (peaks : List (List ℕ)) → AgreeWherePrinted net at other
    → flat_map (peak_lines net at peaks) (range_with_len 0 (length net.servers))
    ≡ flat_map (peak_lines net other peaks) (range_with_len 0 (length net.servers))
same_peaks net at other peaks same =
    flat_below (peak_lines net at peaks) (peak_lines net other peaks) (length net.servers)
    (λ s h. flat_below (peak_line (server_name net s) at peaks s) (peak_line (server_name net s) other peaks s)
    (queues net s) (λ q k. same_peak net at other (server_name net s) peaks s q same k))

-- ---- reports
pub agree : RunReportsAgree
unfolding run_report_of
agree net at other found same =
    let head = head_line net ++ run_line found.packets found.end in
    let peaks = λ (t : CellTable). flat_map (peak_lines net t found.peaks) (range_with_len 0 (length net.servers)) in
    ap (λ ys. head ++ ys ++ peaks at ++ breach_line net found.breach) (same_worsts net at other found.worst same)
    ∙ ap
    (λ ys.
    head ++ flat_map (worst_lines net other found.worst) (range_with_len 0 (length net.flows)) ++ ys
    ++ breach_line net found.breach)
    (same_peaks net at other found.peaks same)

pub one_run_report : EquationsGiveOneRunReport
one_run_report net order at other found a o m n =
    agree net at other found (λ c has printed. tables_agree net order at other a o m n c has)
