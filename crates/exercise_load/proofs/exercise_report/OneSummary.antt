-- There is one summary, whatever table meets the equations.
use Rattle.std.proofs.Common.{◌≡◌, ℕ, List, ◌++◌, length, refl, ap, true}
use Rattle.std.specs.Prelude.{◌==◌, ◌&&◌, is_some, Option, Some, None}
use Rattle.std.specs.List.{fold}
use Rattle.rational.specs.Extended.{max_ext}
use Rattle.rational.specs.declared.Extended.TheVariants.{Fin}
use Rattle.min_plus.specs.Functions.{zero_q}
use Rattle.net_model.specs.Networks.{Net, NetFlow}
use Rattle.net_cells.specs.Meanings.{CellTable}
use Rattle.net_cells.specs.Numbered.{flow_at, is_live}
use Rattle.net_cells.proofs.Tables.{tables_agree}
use Rattle.net_cells.proofs.Growing.{flat_below}
use Rattle.report_text.specs.Laws.{AgreeWherePrinted}
use Rattle.report_text.specs.RunReport.{breach_line}
use Rattle.exercise_load.specs.exercise_report.Largest.{number_alone, bound_cell, bound_of, bound_at, largest_bound}
use Rattle.exercise_load.specs.exercise_report.Summary.{title_line, count_line, bound_line, worst_line, summary_of}
use Rattle.exercise_load.specs.exercise_report.SummaryLaws.{EquationsGiveOneSummary}

same_bound : (net : Net) (at other : CellTable) (i : ℕ) (o : Option NetFlow) → AgreeWherePrinted net at other
    → flow_at net i ≡ o → bound_of at i o ≡ bound_of other i o
same_bound net at other i None agree e = refl
same_bound net at other i (Some f) agree e =
    let live : is_live net i ≡ true = ap is_some e in
    let has : (is_live net i && (0 == 0)) ≡ true = ap (λ b. b && (0 == 0)) live in
    ap number_alone (agree (bound_cell i) has refl)

same_largest : (net : Net) (at other : CellTable) → AgreeWherePrinted net at other
    → largest_bound net at ≡ largest_bound net other
same_largest net at other agree =
    ap (fold max_ext (Fin zero_q))
    (flat_below (bound_at net at) (bound_at net other) (length net.flows)
    (λ i h. same_bound net at other i (flow_at net i) agree refl))

pub one_summary : EquationsGiveOneSummary
unfolding summary_of
one_summary seed net order at other found a o m n =
    ap (λ (line : List ℕ).
    title_line seed ++ count_line net found.packets ++ line ++ worst_line found ++ breach_line net found.breach)
    (ap bound_line (same_largest net at other (λ c has printed. tables_agree net order at other a o m n c has)))
