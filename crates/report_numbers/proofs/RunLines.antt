-- Two tables with one report on what was found in a run show the same at each bound that it prints.
use Rattle.std.proofs.Common.{◌≡◌, ℕ, ◌<◌, List, [], ◌++◌, length, refl, sym, ap, ◌∙◌, subst, arith, inl, inr, true}
use Rattle.std.specs.Prelude.{codes, ◌==◌, is_some, IsTrue, Option, Some, None, slice_get, pos}
use Rattle.std.specs.Fmt.{decimal}
use Rattle.std.specs.List.{flat_map, range_with_len}
use Rattle.std.proofs.lemmas.Bool.{cases_lt, ltb-true, eqb-true, and_parts}
use Rattle.std.proofs.lemmas.Option.{slice_get_past}
use Rattle.rational.specs.Rational.{ℚ}
use Rattle.run_laws.specs.Servers.{queue_count}
use Rattle.net_model.specs.Networks.{Net, NetServer, NetFlow}
use Rattle.net_cells.specs.declared.cell.Kind.{Kind}
use Rattle.net_cells.specs.declared.cell.Kind.TheVariants.{In, Cross, Total, Higher, QueueService, Theta, Residual, QueueDelay, QueueBacklog, HopDelay, ShiftOut, DeconvOut, Out, PathService, Tfa, Sfa, Bound}
use Rattle.net_cells.specs.Cells.{cell_of, has_cell}
use Rattle.net_cells.specs.Numbered.{flow_at, is_live, queues, discipline_of}
use Rattle.net_cells.specs.Meanings.{CellTable}
use Rattle.report_text.specs.CellWords.{server_name}
use Rattle.report_text.specs.Shown.{shown, shown_value}
use Rattle.report_text.specs.Report.{head_line}
use Rattle.report_text.specs.RunReport.{Found, time_text, bits_text, peak_at, run_line, worst_line, peak_line, breach_line, live_worst, worst_lines, peak_lines, run_report_of}
use Rattle.net_cells.proofs.Places.{live_inside}
use Rattle.run_check.specs.check_report.CheckReport.{verdict_line, lawful_report_of}
use Rattle.report_numbers.specs.Laws.{is_bound, TellsBounds, RunReportsTellBounds, CheckReportsTellBounds}
use Rattle.report_text.proofs.Digits.{text_bytes}
use Rattle.report_text.proofs.Fronts.{lacks}
use Rattle.report_numbers.proofs.Cuts.{Cuts, cut_same, cut_join, cut_range}
use Rattle.report_numbers.proofs.Lines.{SameShown, lacks_below, shown_lacks, shows_number, cut_two}

-- ---- lines
-- no text of a number that was found ends before its line or its space does
time_lacks : (b : ℕ) (o : Option ℚ) → b < 45 → lacks b (time_text o) ≡ true
time_lacks b None l = refl
time_lacks b (Some x) l = lacks_below b (time_text (Some x)) l (text_bytes x.num x.pre)

bits_lacks : (b : ℕ) (o : Option ℕ) → b < 45 → lacks b (bits_text o) ≡ true
bits_lacks b None l = refl
bits_lacks b (Some n) l = lacks_below b (decimal n) l (text_bytes (pos n) 0)

cut_run : (packets others : ℕ) (end final : ℚ)
    → Cuts (run_line packets end) (run_line others final) ((decimal packets ≡ decimal others) × (time_text (Some end) ≡ time_text (Some final)))
unfolding run_line
cut_run packets others end final =
    cut_two (codes "run packets ") (codes "end ") (decimal packets) (decimal others) (time_text (Some end)) (time_text (Some final))
    (bits_lacks 32 (Some packets) (omega arith)) (bits_lacks 32 (Some others) (omega arith)) (time_lacks 10 (Some end) (omega arith)) (time_lacks 10 (Some final) (omega arith))

-- what a line of a flow tells: the text of its worst delay, and that of its bound
abbrev SameWorst : CellTable → CellTable → List ℚ → List ℚ → ℕ → Type 0
SameWorst at other worst given i = (time_text (slice_get worst i) ≡ time_text (slice_get given i)) × SameShown at other Bound i 0

cut_worst : (name : List ℕ) (at other : CellTable) (worst given : List ℚ) (i : ℕ)
    → Cuts (worst_line name at worst i) (worst_line name other given i) (SameWorst at other worst given i)
unfolding worst_line
cut_worst name at other worst given i =
    cut_two (codes "worst " ++ name ++ codes " ") (codes "bound ") (time_text (slice_get worst i)) (time_text (slice_get given i))
    (shown at Bound i 0) (shown other Bound i 0)
    (time_lacks 32 (slice_get worst i) (omega arith)) (time_lacks 32 (slice_get given i) (omega arith))
    (shown_lacks 10 (at (cell_of Bound i 0)) (omega arith) refl) (shown_lacks 10 (other (cell_of Bound i 0)) (omega arith) refl)

-- and a line of a queue: the digits of its peak, and the text of its bound
abbrev SamePeak : CellTable → CellTable → List (List ℕ) → List (List ℕ) → ℕ → ℕ → Type 0
SamePeak at other peaks given s q = (bits_text (peak_at peaks s q) ≡ bits_text (peak_at given s q)) × SameShown at other QueueBacklog s q

cut_peak : (name : List ℕ) (at other : CellTable) (peaks given : List (List ℕ)) (s q : ℕ)
    → Cuts (peak_line name at peaks s q) (peak_line name other given s q) (SamePeak at other peaks given s q)
unfolding peak_line
cut_peak name at other peaks given s q =
    cut_two (codes "peak " ++ name ++ codes " " ++ decimal q ++ codes " ") (codes "bound ") (bits_text (peak_at peaks s q)) (bits_text (peak_at given s q))
    (shown at QueueBacklog s q) (shown other QueueBacklog s q)
    (bits_lacks 32 (peak_at peaks s q) (omega arith)) (bits_lacks 32 (peak_at given s q) (omega arith))
    (shown_lacks 10 (at (cell_of QueueBacklog s q)) (omega arith) refl) (shown_lacks 10 (other (cell_of QueueBacklog s q)) (omega arith) refl)

-- where the flow is there
abbrev ToldWorst : CellTable → CellTable → List ℚ → List ℚ → ℕ → Option NetFlow → Type 0
ToldWorst at other worst given i None = Unit {0}
ToldWorst at other worst given i (Some f) = SameWorst at other worst given i

cut_live : (at other : CellTable) (worst given : List ℚ) (i : ℕ) (o : Option NetFlow)
    → Cuts (live_worst at worst i o) (live_worst other given i o) (ToldWorst at other worst given i o)
cut_live at other worst given i None = cut_same []
cut_live at other worst given i (Some f) = cut_worst f.name at other worst given i

-- ---- reports
record SameBounds (net : Net) (at other : CellTable) (found given : Found) : Type 0 where
  worst : (i : ℕ) → i < length net.flows → ToldWorst at other found.worst given.worst i (flow_at net i)
  peak : (s : ℕ) → s < length net.servers → (q : ℕ) → q < queues net s → SamePeak at other found.peaks given.peaks s q

module _ (net : Net) (at other : CellTable) (found given : Found) where
  -- up to the last line
  abbrev before_last : CellTable → Found → List ℕ
  before_last t f =
      head_line net ++ run_line f.packets f.end
      ++ flat_map (worst_lines net t f.worst) (range_with_len 0 (length net.flows))
      ++ flat_map (peak_lines net t f.peaks) (range_with_len 0 (length net.servers))

  cut_peaks : (s : ℕ) → Cuts (peak_lines net at found.peaks s) (peak_lines net other given.peaks s) ((q : ℕ) → q < queues net s → SamePeak at other found.peaks given.peaks s q)
  cut_peaks s =
      cut_range (peak_line (server_name net s) at found.peaks s) (peak_line (server_name net s) other given.peaks s) (λ q. SamePeak at other found.peaks given.peaks s q) (queues net s)
      (λ q h. cut_peak (server_name net s) at other found.peaks given.peaks s q)

  -- whatever the last lines are
  same_bounds : (last final : List ℕ) → before_last at found ++ last ≡ before_last other given ++ final → SameBounds net at other found given
  same_bounds last final e =
      let n = length net.servers in
      let m = length net.flows in
      let head = head_line net in
      let r = run_line found.packets found.end in
      let t = run_line given.packets given.end in
      let v = flat_map (worst_lines net at found.worst) (range_with_len 0 m) in
      let w = flat_map (worst_lines net other given.worst) (range_with_len 0 m) in
      let p = flat_map (peak_lines net at found.peaks) (range_with_len 0 n) in
      let q = flat_map (peak_lines net other given.peaks) (range_with_len 0 n) in
      let R : Type 0 = (decimal found.packets ≡ decimal given.packets) × (time_text (Some found.end) ≡ time_text (Some given.end)) in
      let W : ℕ → Type 0 = λ i. ToldWorst at other found.worst given.worst i (flow_at net i) in
      let P : ℕ → Type 0 = λ s. (q : ℕ) → q < queues net s → SamePeak at other found.peaks given.peaks s q in
      let AllW : Type 0 = (i : ℕ) → i < m → W i in
      let AllP : Type 0 = (s : ℕ) → s < n → P s in
      let told =
      cut_join ((head ++ r) ++ v) ((head ++ t) ++ w) p q ((Unit {0} × R) × AllW) AllP
      (cut_join (head ++ r) (head ++ t) v w (Unit {0} × R) AllW
      (cut_join head head r t (Unit {0}) R (cut_same head) (cut_run found.packets given.packets found.end given.end))
      (cut_range (worst_lines net at found.worst) (worst_lines net other given.worst) W m (λ i h. cut_live at other found.worst given.worst i (flow_at net i))))
      (cut_range (peak_lines net at found.peaks) (peak_lines net other given.peaks) P n (λ s h. cut_peaks s))
      last final e in
      record { worst = told.0.0.1; peak = told.0.1 }

-- ---- by cell
live_told : (at other : CellTable) (worst given : List ℚ) (i : ℕ) (o : Option NetFlow) → is_some o ≡ true → ToldWorst at other worst given i o
    → SameShown at other Bound i 0
live_told at other worst given i None live t = absurd (cc)
live_told at other worst given i (Some f) live t = t.1

module _ (net : Net) (at other : CellTable) (found given : Found) (same : SameBounds net at other found given) where
  at_backlog : (s q : ℕ) → IsTrue (has_cell net (cell_of QueueBacklog s q)) → SameShown at other QueueBacklog s q
  at_backlog s q has =
      let h = ltb-true q (queues net s) has in
      elim (cases_lt s (length net.servers)) [
        | inl inside ↦ (same.peak s inside q h).1
        | inr past ↦
            let none : queues net s ≡ 0 = ap (λ (o : Option NetServer). queue_count (discipline_of o)) (slice_get_past net.servers s past) in
            absurd (omega (arith, none, h))
      ]

  at_flow : (i : ℕ) → is_live net i ≡ true → SameShown at other Bound i 0
  at_flow i live = live_told at other found.worst given.worst i (flow_at net i) live (same.worst i (live_inside net i live))

  same_at : (kind : Kind) (a b : ℕ) → IsTrue (has_cell net (cell_of kind a b)) → IsTrue (is_bound kind) → SameShown at other kind a b
  same_at QueueBacklog a b has p = at_backlog a b has
  same_at Bound a b has p =
      let h = and_parts (is_live net a) (b == 0) has in
      let P : ℕ → Type 0 = λ k. SameShown at other Bound a k in
      subst P (sym (eqb-true b 0 h.1)) (at_flow a h.0)
  same_at QueueDelay a b has p = absurd (cc)
  same_at Tfa a b has p = absurd (cc)
  same_at Sfa a b has p = absurd (cc)
  same_at In a b has p = absurd (cc)
  same_at Cross a b has p = absurd (cc)
  same_at Total a b has p = absurd (cc)
  same_at Higher a b has p = absurd (cc)
  same_at QueueService a b has p = absurd (cc)
  same_at Theta a b has p = absurd (cc)
  same_at Residual a b has p = absurd (cc)
  same_at HopDelay a b has p = absurd (cc)
  same_at ShiftOut a b has p = absurd (cc)
  same_at DeconvOut a b has p = absurd (cc)
  same_at Out a b has p = absurd (cc)
  same_at PathService a b has p = absurd (cc)

  tells_bounds : TellsBounds net at other
  tells_bounds c x s p is =
      shows_number (other c) x p (sym (ap shown_value is) ∙ same_at c.kind c.a c.b s.there s.printed)

pub run_reports_tell_bounds : RunReportsTellBounds
unfolding run_report_of
run_reports_tell_bounds net at other found given e =
    tells_bounds net at other found given (same_bounds net at other found given (breach_line net found.breach) (breach_line net given.breach) e)

pub check_reports_tell_bounds : CheckReportsTellBounds
unfolding lawful_report_of
check_reports_tell_bounds net at other found given e =
    tells_bounds net at other found given (same_bounds net at other found given (verdict_line net found.breach) (verdict_line net given.breach) e)
