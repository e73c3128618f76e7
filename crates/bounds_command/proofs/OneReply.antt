-- One reply on two tables, and its causes.
use Rattle.std.proofs.Common.{◌≡◌, ◌⊎◌, ℕ, Bool, true, false, if◌then◌else◌, Option, Ok, Err, List, [], ◌∷◌, ◌++◌, length, map, refl, sym, ◌∙◌, ap, ap₂, subst, arith, inl, inr}
use Rattle.std.specs.Prelude.{slice_get, option_map}
use Rattle.std.specs.List.{flat_map, range_with_len}
use Rattle.arrival_lines.specs.declared.grid.Queue.{Queue}
use Rattle.tree_network.specs.Networks.{IsNetwork, port_at, queues_of}
use Rattle.tree_network.specs.declared.network.Network.{Network}
use Rattle.tree_network.specs.declared.spots.Spot.{Spot}
use Rattle.tree_network.specs.Spots.{spots_of}
use Rattle.tree_network.specs.Orders.{IsRing, IsNetworkRing}
use Rattle.tree_network.proofs.InRange.{in_range}
use Rattle.tree_network.specs.Rings.{IsToldRing}
use Rattle.tree_network.proofs.Rings.{one_ring, order_or_ring_is_one, told_rings_are_rings}
use Rattle.csv_rows.specs.Rows.{LinedRow}
use Rattle.csv_rows.proofs.OneTable.{one_table}
use Rattle.document_tables.specs.Tables.{LineRow}
use Rattle.document_tables.specs.Documents.{DocumentText, FileFault, document_of}
use Rattle.document_tables.specs.Grids.{BranchOnGrid}
use Rattle.tree_bounds.specs.Tables.{IsTableOf, row_in}
use Rattle.tree_bounds.specs.declared.analysis.Table.{Table}
use Rattle.bounds_report.specs.declared.rows.Report.{Report}
use Rattle.bounds_command.specs.declared.form.Form.{Form}
use Rattle.tree_bounds.specs.guarantee.Loads.{rates_at}
use Rattle.bounds_command.specs.Loads.{load_of}
use Rattle.bounds_command.specs.Replies.{Reply, goes_round, has_fault}
use Rattle.bounds_command.specs.Reports.{IsNetworkOf, IsReportOf, QueueText, BranchText, queue_text, queues_at, all_queues, branch_text, name_at, some_missed, status_with}
use Rattle.bounds_command.specs.OnTables.{Tables, name_of, lined, AreLinesOf, AreRowsOfBoth, Gives, IsFaulty, IsReported, IsCyclic, IsDone}
use Rattle.bounds_command.specs.Laws.{RepliesAreDetermined, RepliesAreComplete, StatusesHaveCauses, TablesAreDetermined}
use Rattle.bounds_command.proofs.Alike.{AreAlike, map_same, ports_count, links_count, port_same, link_same, queues_same, load_same, last_same, spots_same, rates_same}
use Rattle.bounds_command.proofs.OneTable as one_table
use Rattle.bounds_command.proofs.OneText.{TellTheSame, status_same, text_same}

-- ---- one document
alike : (d : DocumentText) (a b : Network) → IsNetworkOf d a → IsNetworkOf d b → AreAlike a b
alike d a b h k = record { ports = h.ports ∙ sym k.ports; links = h.links ∙ sym k.links }

abbrev unlined : LinedRow → LineRow
unlined row = record { line = row.0; cells = row.1 }

unlined_all : (rows : List LineRow) → map unlined (map lined rows) ≡ rows
unlined_all [] = refl
unlined_all (row ∷ rows) = ap (λ rest. row ∷ rest) (unlined_all rows)

lines_one : (bytes : List ℕ) (one other : List LineRow) → AreLinesOf bytes one → AreLinesOf bytes other → one ≡ other
lines_one bytes one other h k =
    sym (unlined_all one) ∙ ap (map unlined) (one_table bytes (map lined one) (map lined other) h k) ∙ unlined_all other

pub read_one : (t : Tables) (overhead : ℕ) (ports links others these : List LineRow) → AreRowsOfBoth t ports links
    → AreRowsOfBoth t others these → document_of overhead ports links ≡ document_of overhead others these
read_one t overhead ports links others these h k =
    ap₂ (document_of overhead) (lines_one t.ports ports others h.ports_rows k.ports_rows)
    (lines_one t.links links these h.links_rows k.links_rows)

same_document : (t : Tables) (overhead : ℕ) (d e : DocumentText) (a b : Network) → Gives t overhead d a
    → Gives t overhead e b → d ≡ e
same_document t overhead d e a b h k =
    let both : Ok d ≡ Ok e =
    sym h.reads ∙ read_one t overhead h.port_rows h.link_rows k.port_rows k.link_rows h.rows k.rows ∙ k.reads in
    cc

pub no_fault : (t : Tables) (overhead : ℕ) (ports links : List LineRow) (d : DocumentText) (form : Form)
    (reply : Reply) → AreRowsOfBoth t ports links
    → document_of overhead ports links ≡ Ok d → IsFaulty t overhead form reply → ⊥
no_fault t overhead ports links d form reply rows reads h =
    let both : Ok d ≡ Err h.fault =
    sym reads ∙ read_one t overhead ports links h.port_rows h.link_rows rows h.rows ∙ h.first in
    cc

-- ---- one report
flat_same : {X A : Type 0} (f g : X → List A) → ((x : X) → f x ≡ g x) → (xs : List X) → flat_map f xs ≡ flat_map g xs
flat_same f g h [] = refl
flat_same f g h (x ∷ xs) = ap₂ (λ a b. a ++ b) (h x) (flat_same f g h xs)

module _ (d : DocumentText) (a b : Network) (like : AreAlike a b) (w : IsNetwork a) (ta tb : Table)
    (ia : IsTableOf a ta) (ib : IsTableOf b tb) where
  queue_same : (s q : ℕ) → queue_text (name_at d.port_names s) (port_at a s) q (rates_at a s q) (row_in ta s q)
      ≡ queue_text (name_at d.port_names s) (port_at b s) q (rates_at b s q) (row_in tb s q)
  queue_same s q =
      let T : Option ℕ → Option Queue → QueueText = λ load row. record {
        name = name_at d.port_names s;
        queue = q;
        load = load;
        delay = option_map (λ found. found.delay) row;
        backlog = option_map (λ found. found.backlog) row;
      } in
      ap₂ T (load_same (port_at a s) (port_at b s) (rates_at a s q) (port_same a b like s)
      ∙ ap (load_of (port_at b s)) (rates_same a b like s q))
      (one_table.rows_are_one a b like w ta tb ia ib s q)

  queues_at_same : (s : ℕ) → queues_at d a ta s ≡ queues_at d b tb s
  queues_at_same s =
      let f : ℕ → QueueText = λ q. queue_text (name_at d.port_names s) (port_at a s) q (rates_at a s q)
      (row_in ta s q) in
      let g : ℕ → QueueText = λ q. queue_text (name_at d.port_names s) (port_at b s) q (rates_at b s q)
      (row_in tb s q) in
      map_same f g (queue_same s) (range_with_len 0 (queues_of (port_at a s).discipline))
      ∙ ap (λ n. map g (range_with_len 0 n)) (queues_same (port_at a s) (port_at b s) (port_same a b like s))

  all_queues_same : all_queues d a ta ≡ all_queues d b tb
  all_queues_same =
      flat_same (queues_at d a ta) (queues_at d b tb) queues_at_same (range_with_len 0 (length a.ports.items))
      ∙ ap (λ n. flat_map (queues_at d b tb) (range_with_len 0 n)) (ports_count a b like)

  branch_same : (x : BranchOnGrid) → branch_text d a ta x ≡ branch_text d b tb x
  branch_same x =
      let T : ℕ → Option ℕ → BranchText = λ port bound. record {
        link = name_at d.link_names x.link;
        port = name_at d.port_names port;
        bound = bound;
        deadline = x.deadline;
      } in
      ap₂ T (last_same (slice_get a.links.items x.link) (slice_get b.links.items x.link) x.node
      (link_same a b like x.link))
      (one_table.bounds_are_one a b like w ta tb ia ib x.link x.node)

  pub tell_the_same : (one other : Report) → IsReportOf d a ta one → IsReportOf d b tb other → TellTheSame one other
  tell_the_same one other h k = record {
    ports = h.ports ∙ ports_count a b like ∙ sym k.ports;
    links = h.links ∙ links_count a b like ∙ sym k.links;
    queues = h.queues ∙ all_queues_same ∙ sym k.queues;
    branches = h.branches ∙ map_same (branch_text d a ta) (branch_text d b tb) branch_same d.branches ∙ sym k.branches;
  }

pub tables_are_determined : TablesAreDetermined
tables_are_determined net one other w is_one is_other =
    let same : AreAlike net net = record { ports = refl; links = refl } in (
      λ s q. one_table.rows_are_one net net same w one other is_one is_other s q,
      λ i place. one_table.bounds_are_one net net same w one other is_one is_other i place,
    )

pub no_ring : (a b : Network) (ring : List ℕ) (table : Table) → AreAlike a b → IsNetwork b → IsNetworkRing a ring
    → IsTableOf b table → ⊥
no_ring a b ring table like w r is =
    let R : List Spot → Type 0 = λ spots. IsRing spots ring in
    order_or_ring_is_one (spots_of b) (length b.ports.items) is.order ring is.goes_forward
    (λ n h. ((in_range b w).each n h).port) (subst R (spots_same a b like) r)

-- ---- one reply
faulty_same : (t : Tables) (overhead : ℕ) (form : Form) (x y : Reply) → IsFaulty t overhead form x
    → IsFaulty t overhead form y → x ≡ y
faulty_same t overhead form x y h k =
    let both : Err h.fault ≡ Err k.fault =
    sym h.first ∙ read_one t overhead h.port_rows h.link_rows k.port_rows k.link_rows h.rows k.rows ∙ k.first in
    let same : h.fault ≡ k.fault = cc in
    h.is ∙ ap (λ (f : FileFault). has_fault (name_of t f.file) f.fault) same ∙ sym k.is

rings_same : (t : Tables) (overhead : ℕ) (form : Form) (x y : Reply) → IsCyclic t overhead form x
    → IsCyclic t overhead form y → x ≡ y
rings_same t overhead form x y h k =
    let same = same_document t overhead h.document k.document h.net k.net h.gives k.gives in
    let P : DocumentText → Type 0 = λ d. IsNetworkOf d k.net in
    let like = alike h.document h.net k.net h.gives.network (subst P (sym same) k.gives.network) in
    let R : List Spot → Type 0 = λ spots. IsToldRing spots h.holds.ring in
    let ring = one_ring (spots_of k.net) h.holds.ring k.holds.ring (subst R (spots_same h.net k.net like) h.holds.told)
    k.holds.told in
    let line : DocumentText → List ℕ → Reply = λ d walk. goes_round (map (name_at d.port_names) walk) in
    h.holds.is ∙ ap₂ line same ring ∙ sym k.holds.is

reports_same : (t : Tables) (overhead : ℕ) (form : Form) (x y : Reply) → IsDone t overhead form x
    → IsDone t overhead form y → x ≡ y
reports_same t overhead form x y h k =
    let same = same_document t overhead h.document k.document h.net k.net h.gives k.gives in
    let P : DocumentText → Type 0 = λ d. IsNetworkOf d k.net in
    let Q : DocumentText → Type 0 = λ d. IsReportOf d k.net k.holds.table k.holds.report in
    let like = alike h.document h.net k.net h.gives.network (subst P (sym same) k.gives.network) in
    let tell = tell_the_same h.document h.net k.net like h.gives.in_range h.holds.table k.holds.table h.holds.bounded
    k.holds.bounded
    h.holds.report k.holds.report h.holds.tells (subst Q (sym same) k.holds.tells) in
    let R : ℕ → List ℕ → Reply = λ status bytes. record { status = status; bytes = bytes } in
    h.holds.is ∙ ap₂ R (status_same h.holds.report k.holds.report tell)
    (text_same form h.holds.report k.holds.report tell)
    ∙ sym k.holds.is

ring_and_report : (t : Tables) (overhead : ℕ) (form : Form) (x y : Reply) → IsCyclic t overhead form x
    → IsDone t overhead form y → ⊥
ring_and_report t overhead form x y h k =
    let same = same_document t overhead h.document k.document h.net k.net h.gives k.gives in
    let P : DocumentText → Type 0 = λ d. IsNetworkOf d k.net in
    let like = alike h.document h.net k.net h.gives.network (subst P (sym same) k.gives.network) in
    no_ring h.net k.net h.holds.ring k.holds.table like k.gives.in_range
    (told_rings_are_rings (spots_of h.net) h.holds.ring h.holds.told) k.holds.bounded

pub replies_are_determined : RepliesAreDetermined
replies_are_determined t overhead form x y (inl h) (inl k) = faulty_same t overhead form x y h k
replies_are_determined t overhead form x y (inl h) (inr (inl k)) =
    absurd (no_fault t overhead k.gives.port_rows k.gives.link_rows k.document form x k.gives.rows k.gives.reads h)
replies_are_determined t overhead form x y (inl h) (inr (inr k)) =
    absurd (no_fault t overhead k.gives.port_rows k.gives.link_rows k.document form x k.gives.rows k.gives.reads h)
replies_are_determined t overhead form x y (inr (inl h)) (inl k) =
    absurd (no_fault t overhead h.gives.port_rows h.gives.link_rows h.document form y h.gives.rows h.gives.reads k)
replies_are_determined t overhead form x y (inr (inr h)) (inl k) =
    absurd (no_fault t overhead h.gives.port_rows h.gives.link_rows h.document form y h.gives.rows h.gives.reads k)
replies_are_determined t overhead form x y (inr (inl h)) (inr (inl k)) = rings_same t overhead form x y h k
replies_are_determined t overhead form x y (inr (inl h)) (inr (inr k)) = absurd
    (ring_and_report t overhead form x y h k)
replies_are_determined t overhead form x y (inr (inr h)) (inr (inl k)) = absurd
    (ring_and_report t overhead form y x k h)
replies_are_determined t overhead form x y (inr (inr h)) (inr (inr k)) = reports_same t overhead form x y h k

-- ---- statuses
abbrev code : Bool → ℕ
code b = if b then 9 else 0

by_missed : (b : Bool) → (code b ≡ 0) ⊎ (code b ≡ 9)
by_missed true = inr refl
by_missed false = inl refl

report_status : (d : DocumentText) (net : Network) (form : Form) (reply : Reply) (h : IsReported d net form reply)
    → (reply.status ≡ 0) ⊎ (reply.status ≡ 9)
report_status d net form reply h =
    let S : ℕ → Type 0 = λ n. (n ≡ 0) ⊎ (n ≡ 9) in
    subst S (sym (ap (λ (r : Reply). r.status) h.is)) (by_missed (some_missed h.report.branches.items))

pub replies_are_complete : RepliesAreComplete
replies_are_complete t overhead form reply w (inl h) =
    absurd (no_fault t overhead w.port_rows w.link_rows w.document form reply w.rows w.reads h)
replies_are_complete t overhead form reply w (inr (inl h)) =
    let both : Ok h.document ≡ Ok w.document =
    sym h.gives.reads ∙ read_one t overhead h.gives.port_rows h.gives.link_rows w.port_rows w.link_rows h.gives.rows
    w.rows ∙ w.reads in
    let same : h.document ≡ w.document = cc in
    let P : DocumentText → Type 0 = λ d. IsNetworkOf d h.net in
    absurd (w.no_ring h.net h.holds.ring (subst P same h.gives.network)
    (told_rings_are_rings (spots_of h.net) h.holds.ring h.holds.told))
replies_are_complete t overhead form reply w (inr (inr h)) = report_status h.document h.net form reply h.holds

missed_if : (b : Bool) (n : ℕ) → code b ≡ n → n ≡ 9 → b ≡ true
missed_if true n e f = refl
missed_if false n e f = absurd (omega (arith, e, f))

met_if : (b : Bool) (n : ℕ) → code b ≡ n → n ≡ 0 → b ≡ false
met_if false n e f = refl
met_if true n e f = absurd (omega (arith, e, f))

pub statuses_have_causes : StatusesHaveCauses
statuses_have_causes t overhead form reply (inl h) =
    let status : reply.status ≡ 1 = ap (λ (r : Reply). r.status) h.is in
    record {
      known = inr (inl status);
      malformed = λ e. h;
      cyclic = λ e. absurd (omega (arith, e, status));
      met = λ e. absurd (omega (arith, e, status));
      missed = λ e. absurd (omega (arith, e, status));
    }
statuses_have_causes t overhead form reply (inr (inl h)) =
    let status : reply.status ≡ 8 = ap (λ (r : Reply). r.status) h.holds.is in
    record {
      known = inr (inr (inl status));
      malformed = λ e. absurd (omega (arith, e, status));
      cyclic = λ e. h;
      met = λ e. absurd (omega (arith, e, status));
      missed = λ e. absurd (omega (arith, e, status));
    }
statuses_have_causes t overhead form reply (inr (inr h)) =
    let status : status_with h.holds.report ≡ reply.status = sym (ap (λ (r : Reply). r.status) h.holds.is) in
    let either = report_status h.document h.net form reply h.holds in
    record {
      known = elim either [ inl e ↦ inl e | inr e ↦ inr (inr (inr e)) ];
      malformed = λ e. absurd (elim either [ inl f ↦ omega (arith, e, f) | inr f ↦ omega (arith, e, f) ]);
      cyclic = λ e. absurd (elim either [ inl f ↦ omega (arith, e, f) | inr f ↦ omega (arith, e, f) ]);
      met = λ e. record {
        document = h.document;
        net = h.net;
        gives = h.gives;
        holds = record {
          reported = h.holds;
          misses = met_if (some_missed h.holds.report.branches.items) reply.status
              status e;
        };
      };
      missed = λ e. record {
        document = h.document;
        net = h.net;
        gives = h.gives;
        holds = record {
          reported = h.holds;
          misses = missed_if (some_missed h.holds.report.branches.items)
              reply.status status e;
        };
      };
    }
