-- A report in each form tells the numbers of its table.
use Rattle.std.proofs.Common.{◌≡◌, ℕ, ◌<◌, ◌≤◌, List, [], ◌∷◌, ◌++◌, length, map, refl, sym, ap, ap₂, ◌∙◌, arith, Bool, true, false, append_assoc}
use Rattle.std.specs.Prelude.{codes, ◌==◌, ◌&&◌, Option, Some, None}
use Rattle.std.specs.List.{flat_map, range_with_len}
use Rattle.std.proofs.lemmas.Bool.{ne_eqb, le-ltb}
use Rattle.std.proofs.lemmas.List.Concat.{flat_map-append}
use Rattle.std.proofs.lemmas.List.Folds.{flat_map-map}
use Rattle.rational.specs.declared.Extended.TheVariants.{Fin, Inf}
use Rattle.net_model.specs.Networks.{Net, NetFlow}
use Rattle.net_cells.specs.declared.cell.Kind.TheVariants.{QueueDelay, QueueBacklog, Tfa, Sfa, Bound}
use Rattle.net_cells.specs.Cells.{cell_of}
use Rattle.net_cells.specs.Numbered.{flow_at, queues}
use Rattle.net_cells.specs.Meanings.{Meaning, curve, number as number_of, CellTable}
use Rattle.input_texts.specs.plain_text.Numbers.{number_text}
use Rattle.json.specs.Print.{escape, escape_byte, quoted}
use Rattle.serde_json.specs.Data.{Data, Members, string, number, unsigned, array, object, no_members, member}
use Rattle.serde_json.specs.Written.{compact_text, items_text, members_text, comma_if}
use Rattle.serde_json.specs.View.{items_of}
use Rattle.report_text.specs.CellWords.{server_name}
use Rattle.report_text.specs.Shown.{shown, shown_value}
use Rattle.report_text.specs.declared.json_report.form.Form.TheVariants.{Lines, Json}
use Rattle.report_text.specs.json_report.Forms.{line_of}
use Rattle.report_text.specs.Report.{report_of}
use Rattle.commands.specs.edit_report.EditReport.{edit_lines, said_data, edit_report_data}
use Rattle.commands.specs.edit_report.Said.{EditSaid}
use Rattle.report_numbers.specs.Laws.{ReportsTellNumbers, EditReportsTellNumbers}
use Rattle.report_text.specs.json_report.ReportData.{text_member, queue_data, flow_data, server_queues, live_data, flow_at_data, flows_data, queues_data, report_members, report_data}
use Rattle.report_text.proofs.Digits.{AreFrom, text_bytes}
use Rattle.report_numbers.proofs.Cuts.{Cuts, cut_same, cut_join, cut_before, cut_as, cut_range, after_same}
use Rattle.report_numbers.proofs.Lines.{SameQueue, SameFlow, ToldFlow, SameLines, shown_lacks, same_lines, tells_numbers}

-- ---- strings
plain_byte : (x : ℕ) → 45 ≤ x → x ≤ 57 → escape_byte x ≡ x ∷ []
unfolding escape_byte
plain_byte x l h =
    let apart : (k : ℕ) → k < 45 → (x == k) ≡ false = λ k less. ne_eqb x k (λ e. omega (arith, e, l, less)) in
    let back_slash : (x == 92) ≡ false = ne_eqb x 92 (λ e. omega (arith, e, h)) in
    rw (apart 34 (omega arith), back_slash, apart 8 (omega arith), apart 12 (omega arith), apart 10 (omega arith), apart 13 (omega arith), apart 9 (omega arith), le-ltb x 32 (omega (arith, l))) refl

plain_text : (xs : List ℕ) → AreFrom 45 xs → escape xs ≡ xs
plain_text [] h = refl
plain_text (x ∷ xs) h = ap₂ (λ (a b : List ℕ). a ++ b) (plain_byte x h.0.0 h.0.1) (plain_text xs h.1)

plain_word : escape (codes "unbounded") ≡ codes "unbounded"
unfolding escape_byte
plain_word = refl

shown_plain : (v : Option Meaning) → escape (shown_value v) ≡ shown_value v
shown_plain None = refl
shown_plain (Some (curve f)) = refl
shown_plain (Some (number_of Inf)) = plain_word
shown_plain (Some (number_of (Fin x))) = plain_text (number_text (Fin x)) (text_bytes x.num x.pre)

cut_string : (v w : Option Meaning) → Cuts (compact_text (string (shown_value v))) (compact_text (string (shown_value w))) (shown_value v ≡ shown_value w)
cut_string v w =
    let text : List ℕ → List ℕ = λ xs. 34 ∷ (xs ++ 34 ∷ []) in
    let a = shown_value v in
    let b = shown_value w in
    cut_as (text a) (text b) (quoted a) (quoted b) (Unit {0} × (a ≡ b)) (a ≡ b) (ap text (shown_plain v)) (ap text (shown_plain w)) (λ t. t.1)
    (cut_join (34 ∷ []) (34 ∷ []) (a ++ 34 ∷ []) (b ++ 34 ∷ []) (Unit {0}) (a ≡ b) (cut_same (34 ∷ []))
    (cut_before 34 a b [] (shown_lacks 34 v (omega arith) refl) (shown_lacks 34 w (omega arith) refl)))

-- ---- objects
cut_member : (later : Bool) (key : List ℕ) (d e : Data) (ms ns : Members) (T U : Type 0) → Cuts (compact_text d) (compact_text e) T
    → Cuts (members_text true ms) (members_text true ns) U
    → Cuts (members_text later (member key d ms)) (members_text later (member key e ns)) (T × U)
cut_member later key d e ms ns T U f g =
    let c = comma_if later in
    let k = quoted key in
    let a = compact_text d ++ members_text true ms in
    let b = compact_text e ++ members_text true ns in
    cut_as (c ++ (k ++ 58 ∷ a)) (c ++ (k ++ 58 ∷ b)) (c ++ (k ++ 58 ∷ a)) (c ++ (k ++ 58 ∷ b)) (Unit {0} × (Unit {0} × (Unit {0} × (T × U)))) (T × U) refl refl (λ t. t.1.1.1)
    (cut_join c c (k ++ 58 ∷ a) (k ++ 58 ∷ b) (Unit {0}) (Unit {0} × (Unit {0} × (T × U))) (cut_same c)
    (cut_join k k (58 ∷ a) (58 ∷ b) (Unit {0}) (Unit {0} × (T × U)) (cut_same k)
    (cut_join (58 ∷ []) (58 ∷ []) a b (Unit {0}) (T × U) (cut_same (58 ∷ []))
    (cut_join (compact_text d) (compact_text e) (members_text true ms) (members_text true ns) T U f g))))

cut_object : (ms ns : Members) (T : Type 0) → Cuts (members_text false ms) (members_text false ns) T → Cuts (compact_text (object ms)) (compact_text (object ns)) T
cut_object ms ns T f =
    let a = members_text false ms in
    let b = members_text false ns in
    cut_as (123 ∷ a) (123 ∷ b) (123 ∷ a) (123 ∷ b) (Unit {0} × T) T refl refl (λ t. t.1)
    (cut_join (123 ∷ []) (123 ∷ []) a b (Unit {0}) T (cut_same (123 ∷ [])) f)

cut_end : Cuts (members_text true no_members) (members_text true no_members) (Unit {0})
cut_end = cut_same (members_text true no_members)

cut_queue : (name : List ℕ) (at other : CellTable) (s q : ℕ)
    → Cuts (compact_text (queue_data name at s q)) (compact_text (queue_data name other s q)) (SameQueue at other s q)
unfolding queue_data
cut_queue name at other s q =
    let text : (t : CellTable) → Data = λ t. string (shown t QueueDelay s q) in
    let backlog : (t : CellTable) → Data = λ t. string (shown t QueueBacklog s q) in
    let last = text_member (codes "server") name no_members in
    let numbered = member (codes "queue") (number (unsigned q)) last in
    let rest : (t : CellTable) → Members = λ t. member (codes "delay") (text t) numbered in
    let all : (t : CellTable) → Members = λ t. member (codes "backlog") (backlog t) (rest t) in
    let D = shown at QueueDelay s q ≡ shown other QueueDelay s q in
    let B = shown at QueueBacklog s q ≡ shown other QueueBacklog s q in
    cut_as (compact_text (object (all at))) (compact_text (object (all other))) (compact_text (object (all at))) (compact_text (object (all other)))
    (B × (D × Unit {0})) (D × B) refl refl (λ t. (t.1.0, t.0))
    (cut_object (all at) (all other) (B × (D × Unit {0}))
    (cut_member false (codes "backlog") (backlog at) (backlog other) (rest at) (rest other) B (D × Unit {0})
    (cut_string (at (cell_of QueueBacklog s q)) (other (cell_of QueueBacklog s q)))
    (cut_member true (codes "delay") (text at) (text other) numbered numbered D (Unit {0})
    (cut_string (at (cell_of QueueDelay s q)) (other (cell_of QueueDelay s q))) (cut_same (members_text true numbered)))))

cut_flow : (name : List ℕ) (at other : CellTable) (i : ℕ)
    → Cuts (compact_text (flow_data name at i)) (compact_text (flow_data name other i)) (SameFlow at other i)
unfolding flow_data
cut_flow name at other i =
    let bound : (t : CellTable) → Data = λ t. string (shown t Bound i 0) in
    let sfa : (t : CellTable) → Data = λ t. string (shown t Sfa i 0) in
    let tfa : (t : CellTable) → Data = λ t. string (shown t Tfa i 0) in
    let last : (t : CellTable) → Members = λ t. member (codes "tfa") (tfa t) no_members in
    let third : (t : CellTable) → Members = λ t. member (codes "sfa") (sfa t) (last t) in
    let second : (t : CellTable) → Members = λ t. member (codes "name") (string name) (third t) in
    let all : (t : CellTable) → Members = λ t. member (codes "bound") (bound t) (second t) in
    let B = shown at Bound i 0 ≡ shown other Bound i 0 in
    let S = shown at Sfa i 0 ≡ shown other Sfa i 0 in
    let T = shown at Tfa i 0 ≡ shown other Tfa i 0 in
    cut_as (compact_text (object (all at))) (compact_text (object (all other))) (compact_text (object (all at))) (compact_text (object (all other)))
    (B × (Unit {0} × (S × (T × Unit {0})))) (T × (S × B)) refl refl (λ t. (t.1.1.1.0, (t.1.1.0, t.0)))
    (cut_object (all at) (all other) (B × (Unit {0} × (S × (T × Unit {0}))))
    (cut_member false (codes "bound") (bound at) (bound other) (second at) (second other) B (Unit {0} × (S × (T × Unit {0})))
    (cut_string (at (cell_of Bound i 0)) (other (cell_of Bound i 0)))
    (cut_member true (codes "name") (string name) (string name) (third at) (third other) (Unit {0}) (S × (T × Unit {0})) (cut_same (compact_text (string name)))
    (cut_member true (codes "sfa") (sfa at) (sfa other) (last at) (last other) S (T × Unit {0})
    (cut_string (at (cell_of Sfa i 0)) (other (cell_of Sfa i 0)))
    (cut_member true (codes "tfa") (tfa at) (tfa other) no_members no_members T (Unit {0})
    (cut_string (at (cell_of Tfa i 0)) (other (cell_of Tfa i 0))) cut_end)))))

-- ---- arrays
-- each value with a comma before it
with_comma : Data → List ℕ
with_comma d = 44 ∷ compact_text d

with_commas : List Data → List ℕ
with_commas = flat_map with_comma

later_items : (ds : List Data) → items_text true (items_of ds) ≡ with_commas ds ++ 93 ∷ []
unfolding with_commas with_comma
later_items [] = refl
later_items (d ∷ ds) =
    ap (λ w. 44 ∷ (compact_text d ++ w)) (later_items ds) ∙ sym (append_assoc (44 ∷ compact_text d) (with_commas ds) (93 ∷ []))

is_none : List Data → Bool
is_none [] = true
is_none (d ∷ ds) = false

cut_items : (xs ys : List Data) (T : Type 0) → is_none xs ≡ is_none ys → Cuts (with_commas xs) (with_commas ys) T
    → Cuts (items_text false (items_of xs)) (items_text false (items_of ys)) T
unfolding is_none with_commas
cut_items [] [] T same f = λ r s e. ((f [] [] refl).0, (cut_same (93 ∷ []) r s e).1)
cut_items [] (y ∷ ys) T same f = absurd (cc)
cut_items (x ∷ xs) [] T same f = absurd (cc)
cut_items (x ∷ xs) (y ∷ ys) T same f = λ r s e.
    let whole = cut_join (with_commas (x ∷ xs)) (with_commas (y ∷ ys)) (93 ∷ []) (93 ∷ []) T (Unit {0}) f (cut_same (93 ∷ [])) in
    let moved = cut_as (with_commas (x ∷ xs) ++ 93 ∷ []) (with_commas (y ∷ ys) ++ 93 ∷ []) (items_text true (items_of (x ∷ xs))) (items_text true (items_of (y ∷ ys)))
    (T × Unit {0}) T (later_items (x ∷ xs)) (later_items (y ∷ ys)) (λ t. t.0) whole in
    moved r s (ap (λ w. 44 ∷ w) e)

cut_array : (xs ys : List Data) (T : Type 0) → is_none xs ≡ is_none ys → Cuts (with_commas xs) (with_commas ys) T
    → Cuts (compact_text (array (items_of xs))) (compact_text (array (items_of ys))) T
cut_array xs ys T same f =
    let a = items_text false (items_of xs) in
    let b = items_text false (items_of ys) in
    cut_as (91 ∷ a) (91 ∷ b) (91 ∷ a) (91 ∷ b) (Unit {0} × T) T refl refl (λ t. t.1)
    (cut_join (91 ∷ []) (91 ∷ []) a b (Unit {0}) T (cut_same (91 ∷ [])) (cut_items xs ys T same f))

commas_flat : (h : ℕ → List Data) (ns : List ℕ) → with_commas (flat_map h ns) ≡ flat_map (λ k. with_commas (h k)) ns
unfolding with_commas
commas_flat h [] = refl
commas_flat h (n ∷ ns) = flat_map-append with_comma (h n) (flat_map h ns) ∙ ap (λ w. with_commas (h n) ++ w) (commas_flat h ns)

commas_map : (h : ℕ → Data) (ns : List ℕ) → with_commas (map h ns) ≡ flat_map (λ k. with_comma (h k)) ns
unfolding with_commas
commas_map h ns = flat_map-map with_comma h ns

none_joined : (xs ys : List Data) → is_none (xs ++ ys) ≡ (is_none xs && is_none ys)
unfolding is_none
none_joined [] ys = refl
none_joined (x ∷ xs) ys = refl

none_flat : (h g : ℕ → List Data) → ((k : ℕ) → is_none (h k) ≡ is_none (g k)) → (ns : List ℕ) → is_none (flat_map h ns) ≡ is_none (flat_map g ns)
none_flat h g same [] = refl
none_flat h g same (n ∷ ns) =
    none_joined (h n) (flat_map h ns) ∙ ap₂ (λ (a b : Bool). a && b) (same n) (none_flat h g same ns) ∙ sym (none_joined (g n) (flat_map g ns))

none_map : (h g : ℕ → Data) (ns : List ℕ) → is_none (map h ns) ≡ is_none (map g ns)
unfolding is_none
none_map h g [] = refl
none_map h g (n ∷ ns) = refl

-- ---- the report
cut_server : (net : Net) (at other : CellTable) (s : ℕ)
    → Cuts (with_commas (server_queues net at s)) (with_commas (server_queues net other s)) ((q : ℕ) → q < queues net s → SameQueue at other s q)
unfolding with_comma
cut_server net at other s =
    let n = queues net s in
    let one : (t : CellTable) → ℕ → Data = λ t q. queue_data (server_name net s) t s q in
    let f = λ (q : ℕ). 44 ∷ compact_text (one at q) in
    let g = λ (q : ℕ). 44 ∷ compact_text (one other q) in
    let Q : ℕ → Type 0 = λ q. SameQueue at other s q in
    let All : Type 0 = (q : ℕ) → q < n → Q q in
    cut_as (flat_map f (range_with_len 0 n)) (flat_map g (range_with_len 0 n)) (with_commas (server_queues net at s)) (with_commas (server_queues net other s)) All All
    (commas_map (one at) (range_with_len 0 n)) (commas_map (one other) (range_with_len 0 n)) (λ t. t)
    (cut_range f g Q n (λ q h.
    cut_as (f q) (g q) (f q) (g q) (Unit {0} × Q q) (Q q) refl refl (λ t. t.1)
    (cut_join (44 ∷ []) (44 ∷ []) (compact_text (one at q)) (compact_text (one other q)) (Unit {0}) (Q q) (cut_same (44 ∷ []))
    (cut_queue (server_name net s) at other s q))))

cut_live : (at other : CellTable) (i : ℕ) (o : Option NetFlow) → Cuts (with_commas (live_data at i o)) (with_commas (live_data other i o)) (ToldFlow at other i o)
unfolding with_commas with_comma
cut_live at other i None = cut_same []
cut_live at other i (Some f) =
    let a = compact_text (flow_data f.name at i) in
    let b = compact_text (flow_data f.name other i) in
    let S = SameFlow at other i in
    cut_as ((44 ∷ a) ++ []) ((44 ∷ b) ++ []) (with_commas (live_data at i (Some f))) (with_commas (live_data other i (Some f))) ((Unit {0} × S) × Unit {0}) S refl refl (λ t. t.0.1)
    (cut_join (44 ∷ a) (44 ∷ b) [] [] (Unit {0} × S) (Unit {0})
    (cut_join (44 ∷ []) (44 ∷ []) a b (Unit {0}) S (cut_same (44 ∷ [])) (cut_flow f.name at other i)) (cut_same []))

none_live : (at other : CellTable) (i : ℕ) (o : Option NetFlow) → is_none (live_data at i o) ≡ is_none (live_data other i o)
unfolding is_none
none_live at other i None = refl
none_live at other i (Some f) = refl

module _ (net : Net) (at other : CellTable) where
  abbrev TellsQueues : Type 0
  TellsQueues = (s : ℕ) → s < length net.servers → (q : ℕ) → q < queues net s → SameQueue at other s q

  abbrev TellsFlows : Type 0
  TellsFlows = (i : ℕ) → i < length net.flows → ToldFlow at other i (flow_at net i)

  cut_members : (later : Bool) → Cuts (members_text later (report_members net at)) (members_text later (report_members net other)) (TellsFlows × (TellsQueues × Unit {0}))
  cut_members later =
      let n = length net.servers in
      let m = length net.flows in
      let qs = λ (t : CellTable). queues_data net t in
      let fs = λ (t : CellTable). flows_data net t in
      let Q : ℕ → Type 0 = λ s. (q : ℕ) → q < queues net s → SameQueue at other s q in
      let F : ℕ → Type 0 = λ i. ToldFlow at other i (flow_at net i) in
      let of_queues = cut_as (flat_map (λ s. with_commas (server_queues net at s)) (range_with_len 0 n)) (flat_map (λ s. with_commas (server_queues net other s)) (range_with_len 0 n))
      (with_commas (qs at)) (with_commas (qs other)) TellsQueues TellsQueues (commas_flat (server_queues net at) (range_with_len 0 n)) (commas_flat (server_queues net other) (range_with_len 0 n)) (λ t. t)
      (cut_range (λ s. with_commas (server_queues net at s)) (λ s. with_commas (server_queues net other s)) Q n (λ s h. cut_server net at other s)) in
      let of_flows = cut_as (flat_map (λ i. with_commas (flow_at_data net at i)) (range_with_len 0 m)) (flat_map (λ i. with_commas (flow_at_data net other i)) (range_with_len 0 m))
      (with_commas (fs at)) (with_commas (fs other)) TellsFlows TellsFlows (commas_flat (flow_at_data net at) (range_with_len 0 m)) (commas_flat (flow_at_data net other) (range_with_len 0 m)) (λ t. t)
      (cut_range (λ i. with_commas (flow_at_data net at i)) (λ i. with_commas (flow_at_data net other i)) F m (λ i h. cut_live at other i (flow_at net i))) in
      let none_q = none_flat (server_queues net at) (server_queues net other)
      (λ s. none_map (queue_data (server_name net s) at s) (queue_data (server_name net s) other s) (range_with_len 0 (queues net s))) (range_with_len 0 n) in
      let none_f = none_flat (flow_at_data net at) (flow_at_data net other) (λ i. none_live at other i (flow_at net i)) (range_with_len 0 m) in
      let last : (t : CellTable) → Members = λ t. member (codes "queues") (array (items_of (qs t))) no_members in
      cut_member later (codes "flows") (array (items_of (fs at))) (array (items_of (fs other))) (last at) (last other) TellsFlows (TellsQueues × Unit {0})
      (cut_array (fs at) (fs other) TellsFlows none_f of_flows)
      (cut_member true (codes "queues") (array (items_of (qs at))) (array (items_of (qs other))) no_members no_members TellsQueues (Unit {0})
      (cut_array (qs at) (qs other) TellsQueues none_q of_queues) cut_end)

  values_tell : line_of (report_data net at) ≡ line_of (report_data net other) → SameLines net at other
  unfolding line_of
  values_tell e =
      let T : Type 0 = TellsFlows × (TellsQueues × Unit {0}) in
      let told = (cut_object (report_members net at) (report_members net other) T (cut_members false) (codes "\n") (codes "\n") e).0 in
      record { queue = told.1.0; flow = told.0 }

  -- ---- the report on edits
  edits_tell : (answers : List EditSaid) → line_of (edit_report_data net at answers) ≡ line_of (edit_report_data net other answers) → SameLines net at other
  unfolding line_of
  edits_tell answers e =
      let T : Type 0 = TellsFlows × (TellsQueues × Unit {0}) in
      let said : Data = array (items_of (map said_data answers)) in
      let all : (t : CellTable) → Members = λ t. member (codes "edits") said (report_members net t) in
      let told = (cut_object (all at) (all other) (Unit {0} × T)
      (cut_member false (codes "edits") said said (report_members net at) (report_members net other) (Unit {0}) T (cut_same (compact_text said)) (cut_members true))
      (codes "\n") (codes "\n") e).0 in
      record { queue = told.1.1.0; flow = told.1.0 }

pub reports_tell_numbers : ReportsTellNumbers
reports_tell_numbers Lines net at other e = tells_numbers net at other (same_lines net at other e)
reports_tell_numbers Json net at other e = tells_numbers net at other (values_tell net at other e)

pub edit_reports_tell_numbers : EditReportsTellNumbers
edit_reports_tell_numbers Lines net at other answers e =
    let lines = edit_lines answers in
    let rest : report_of net at ≡ report_of net other = after_same lines (report_of net at) (report_of net other) e in
    tells_numbers net at other (same_lines net at other rest)
edit_reports_tell_numbers Json net at other answers e = tells_numbers net at other (edits_tell net at other answers e)
