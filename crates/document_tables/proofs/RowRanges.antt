-- The ranges of what rows say.
use Rattle.std.proofs.Common.{◌≡◌, ℕ, List, Ok, subst}
use Rattle.table_cells.specs.declared.amount.Amount.{Amount}
use Rattle.table_cells.specs.Words.{words_of}
use Rattle.document_rows.specs.declared.fault.Column.TheVariants as column
use Rattle.document_rows.specs.declared.heads.PortHead.{PortHead}
use Rattle.document_rows.specs.declared.heads.LinkHead.{LinkHead}
use Rattle.document_rows.specs.Reads.{RowRead, and_then, at}
use Rattle.document_rows.specs.Rows.{Row, cell}
use Rattle.document_rows.specs.Cells.{rate_in, gap_in, time_or_zero, link_time, whole_between}
use Rattle.document_rows.specs.Disciplines.{DisciplineText, discipline_of, gate_of}
use Rattle.document_rows.specs.PortRows.{PortText, port_row, cell_or_empty}
use Rattle.document_rows.specs.LinkRows.{LinkText, link_row, priority_in, path_of, deadline_in}
use Rattle.document_tables.specs.Ranges.{IsPortText, IsLinkText}
use Rattle.document_tables.proofs.Reading.{read_then, cell_read, same_read}
use Rattle.document_tables.proofs.CellRanges as cells

module _ (head : PortHead) (row : Row) where
  abbrev port_gate : Amount → Amount → Amount → DisciplineText → RowRead PortText
  port_gate rate latency link discipline =
      and_then (at column.Gate (gate_of (words_of (cell_or_empty row head.gate)))) (λ gate. Ok (record { rate = rate; latency = latency; link = link; discipline = discipline; gate = gate }))

  abbrev port_discipline : Amount → Amount → Amount → RowRead PortText
  port_discipline rate latency link = and_then (at column.Discipline (discipline_of (words_of (cell row head.discipline)))) (port_gate rate latency link)

  abbrev port_link : Amount → Amount → RowRead PortText
  port_link rate latency = and_then (at column.Link (link_time (cell row head.link))) (port_discipline rate latency)

  abbrev port_latency : Amount → RowRead PortText
  port_latency rate = and_then (at column.Latency (time_or_zero (cell row head.latency))) (port_link rate)

  pub port_says : (port : PortText) → port_row head row ≡ Ok port → IsPortText port
  unfolding port_row
  port_says port h =
      read_then (at column.Rate (rate_in (cell row head.rate))) port_latency port h
      (λ rate at_rate h.
      read_then (at column.Latency (time_or_zero (cell row head.latency))) (port_link rate) port h
      (λ latency at_latency h.
      read_then (at column.Link (link_time (cell row head.link))) (port_discipline rate latency) port h
      (λ link at_link h.
      read_then (at column.Discipline (discipline_of (words_of (cell row head.discipline)))) (port_gate rate latency link) port h
      (λ discipline at_discipline h.
      read_then (at column.Gate (gate_of (words_of (cell_or_empty row head.gate)))) (λ gate. Ok (record { rate = rate; latency = latency; link = link; discipline = discipline; gate = gate })) port h
      (λ gate at_gate h.
      let on_link = cells.on_link (cell row head.link) link (cell_read column.Link (link_time (cell row head.link)) link at_link) in
      let made : PortText = record { rate = rate; latency = latency; link = link; discipline = discipline; gate = gate } in
      subst IsPortText (same_read made port h) (record {
        rate = cells.rate (cell row head.rate) rate (cell_read column.Rate (rate_in (cell row head.rate)) rate at_rate);
        latency = cells.time_or_none (cell row head.latency) latency (cell_read column.Latency (time_or_zero (cell row head.latency)) latency at_latency);
        link = on_link.0;
        whole_link = on_link.1;
        discipline = cells.discipline (words_of (cell row head.discipline)) discipline (cell_read column.Discipline (discipline_of (words_of (cell row head.discipline))) discipline at_discipline);
        gate = cells.gate (words_of (cell_or_empty row head.gate)) gate (cell_read column.Gate (gate_of (words_of (cell_or_empty row head.gate))) gate at_gate);
      }))))))

module _ (head : LinkHead) (row : Row) where
  abbrev link_deadline : Amount → ℕ → Amount → ℕ → List (List ℕ) → RowRead LinkText
  link_deadline gap frame jitter priority path =
      and_then (at column.Deadline (deadline_in (cell_or_empty row head.deadline)))
      (λ deadline. Ok (record { gap = gap; largest_frame = frame; jitter = jitter; priority = priority; path = path; deadline = deadline }))

  abbrev link_path : Amount → ℕ → Amount → ℕ → RowRead LinkText
  link_path gap frame jitter priority = and_then (at column.Path (path_of (words_of (cell row head.path)))) (link_deadline gap frame jitter priority)

  abbrev link_priority : Amount → ℕ → Amount → RowRead LinkText
  link_priority gap frame jitter = and_then (at column.Priority (priority_in (cell row head.priority))) (link_path gap frame jitter)

  abbrev link_jitter : Amount → ℕ → RowRead LinkText
  link_jitter gap frame = and_then (at column.Jitter (time_or_zero (cell row head.jitter))) (link_priority gap frame)

  abbrev link_frame : Amount → RowRead LinkText
  link_frame gap = and_then (at column.LargestFrame (whole_between 1 1048576 (cell row head.largest_frame))) (link_jitter gap)

  pub link_says : (link : LinkText) → link_row head row ≡ Ok link → IsLinkText link
  unfolding link_row
  link_says link h =
      read_then (at column.Bag (gap_in (cell row head.bag))) link_frame link h
      (λ gap at_gap h.
      read_then (at column.LargestFrame (whole_between 1 1048576 (cell row head.largest_frame))) (link_jitter gap) link h
      (λ frame at_frame h.
      read_then (at column.Jitter (time_or_zero (cell row head.jitter))) (link_priority gap frame) link h
      (λ jitter at_jitter h.
      read_then (at column.Priority (priority_in (cell row head.priority))) (link_path gap frame jitter) link h
      (λ priority at_priority h.
      read_then (at column.Path (path_of (words_of (cell row head.path)))) (link_deadline gap frame jitter priority) link h
      (λ path at_path h.
      read_then (at column.Deadline (deadline_in (cell_or_empty row head.deadline)))
      (λ deadline. Ok (record { gap = gap; largest_frame = frame; jitter = jitter; priority = priority; path = path; deadline = deadline })) link h
      (λ deadline at_deadline h.
      let made : LinkText = record { gap = gap; largest_frame = frame; jitter = jitter; priority = priority; path = path; deadline = deadline } in
      let between = cells.between 1 1048576 (cell row head.largest_frame) frame (cell_read column.LargestFrame (whole_between 1 1048576 (cell row head.largest_frame)) frame at_frame) in
      let some_path = cells.some_path (words_of (cell row head.path)) path (cell_read column.Path (path_of (words_of (cell row head.path))) path at_path) in
      subst IsLinkText (same_read made link h) (record {
        gap = cells.gap (cell row head.bag) gap (cell_read column.Bag (gap_in (cell row head.bag)) gap at_gap);
        some_frame = between.0;
        frame = between.1;
        jitter = cells.time_or_none (cell row head.jitter) jitter (cell_read column.Jitter (time_or_zero (cell row head.jitter)) jitter at_jitter);
        priority = cells.priority (cell row head.priority) priority (cell_read column.Priority (priority_in (cell row head.priority)) priority at_priority);
        some_port = some_path.0;
        path = some_path.1;
        deadline = cells.deadline (cell_or_empty row head.deadline) deadline (cell_read column.Deadline (deadline_in (cell_or_empty row head.deadline)) deadline at_deadline);
      })))))))
