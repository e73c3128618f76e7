-- Two tables with one report in lines show the same at each printed cell, and a number that is shown is shown of it alone.
use Rattle.std.proofs.Common.{◌≡◌, ℕ, zero, suc, ◌<◌, ◌/◌, ◌%◌, List, [], ◌∷◌, ◌++◌, length, length-append, cond, refl, sym, ap, ◌∙◌, subst, arith, inl, inr, Bool, true, false, append_assoc}
use Rattle.std.specs.Prelude.{codes, ◌==◌, is_some, IsTrue, Option, Some, None, ℤ, pos, negsuc}
use Rattle.std.specs.Fmt.{decimal, digits, digits_onto, digit_glyph}
use Rattle.fraction128.specs.Text.{text_over}
use Rattle.std.specs.List.{flat_map, range_with_len}
use Rattle.std.proofs.lemmas.Bool.{cases_lt, ltb-true, eqb-true, and_parts, cond-false, ne_eqb}
use Rattle.std.proofs.lemmas.Option.{slice_get_past}
use Rattle.rational.specs.Extended.{Ext}
use Rattle.rational.specs.declared.Extended.TheVariants.{Fin, Inf}
use Rattle.run_laws.specs.Servers.{queue_count}
use Rattle.net_model.specs.Networks.{Net, NetServer, NetFlow}
use Rattle.net_cells.specs.declared.cell.Cell.{Cell}
use Rattle.net_cells.specs.declared.cell.Kind.{Kind}
use Rattle.net_cells.specs.declared.cell.Kind.TheVariants.{In, Cross, Total, Higher, QueueService, Theta, Residual, QueueDelay, QueueBacklog, HopDelay, ShiftOut, DeconvOut, Out, PathService, Tfa, Sfa, Bound}
use Rattle.net_cells.specs.Cells.{cell_of, has_cell}
use Rattle.net_cells.specs.Numbered.{flow_at, is_live, queues, discipline_of}
use Rattle.net_cells.specs.Meanings.{Meaning, curve, number, CellTable}
use Rattle.input_texts.specs.plain_text.Numbers.{number_text}
use Rattle.report_text.specs.CellWords.{server_name}
use Rattle.report_text.specs.Shown.{shown, shown_value}
use Rattle.report_text.specs.Report.{head_line, queue_line, flow_line, queue_lines, live_line, flow_lines, report_of}
use Rattle.report_text.specs.Laws.{is_printed, IsPrintable}
use Rattle.report_text.proofs.Digits.{AreFrom, text_bytes}
use Rattle.net_cells.proofs.Places.{live_inside}
use Rattle.report_text.proofs.Fronts.{lacks}
use Rattle.report_text.proofs.TextLemmas.{texts_tell_numbers}
use Rattle.report_numbers.specs.Laws.{IsShown}
use Rattle.report_numbers.proofs.Cuts.{Cuts, cut_same, cut_join, cut_before, cut_as, cut_range, told_by}

-- ---- what is shown
pub lacks_below : (b : ℕ) (xs : List ℕ) → b < 45 → AreFrom 45 xs → lacks b xs ≡ true
lacks_below b [] l h = refl
lacks_below b (x ∷ xs) l h = cond-false (x == b) false (lacks b xs) (ne_eqb x b (λ e. omega (arith, e, l, h.0.0))) ∙ lacks_below b xs l h.1

pub shown_lacks : (b : ℕ) (v : Option Meaning) → b < 45 → lacks b (codes "unbounded") ≡ true → lacks b (shown_value v) ≡ true
shown_lacks b None l u = refl
shown_lacks b (Some (curve f)) l u = refl
shown_lacks b (Some (number Inf)) l u = u
shown_lacks b (Some (number (Fin x))) l u = lacks_below b (number_text (Fin x)) l (text_bytes x.num x.pre)

-- no number is shown by nothing
either_some : (b : Bool) (xs ys : List ℕ) → 0 < length xs → 0 < length ys → 0 < length (cond b xs ys)
either_some true xs ys h k = h
either_some false xs ys h k = k

digits_some : (k n : ℕ) (acc : List ℕ) → 0 < length acc → 0 < length (digits_onto k 10 false n acc)
digits_some zero n acc h = h
digits_some (suc k) n acc h =
    let more = digit_glyph false (n % 10) ∷ acc in
    either_some (n / 10 == 0) more (digits_onto k 10 false (n / 10) more) (omega arith) (digits_some k (n / 10) more (omega arith))

decimal_some : (n : ℕ) → 0 < length (decimal n)
unfolding digits
decimal_some n =
    let first = digit_glyph false (n % 10) ∷ [] in
    either_some (n / 10 == 0) first (digits_onto 63 10 false (n / 10) first) (omega arith) (digits_some 63 (n / 10) first (omega arith))

over_some : (z : ℤ) (k : ℕ) → text_over z k ≡ [] → ⊥
over_some (pos n) zero e = let h = decimal_some n in let l = ap length e in omega (arith, h, l)
over_some (pos n) (suc k) e = let c = length-append (decimal n) (47 ∷ decimal (suc (suc k))) in let l = ap length e in omega (arith, c, l)
over_some (negsuc n) zero e = cc
over_some (negsuc n) (suc k) e = cc

some_text : (x : Ext) → number_text x ≡ [] → ⊥
some_text Inf e = cc
some_text (Fin x) e = over_some x.num x.pre e

-- what is shown of a number is shown of it alone
pub shows_number : (v : Option Meaning) (x : Ext) → IsPrintable x → number_text x ≡ shown_value v → v ≡ Some (number x)
shows_number None x p e = absurd (some_text x e)
shows_number (Some (curve f)) x p e = absurd (some_text x e)
shows_number (Some (number y)) x p e = ap (λ z. Some (number z)) (sym (texts_tell_numbers x y p e))

-- ---- lines
queue_shape : (p s z r n : List ℕ) → (((p ++ s) ++ z) ++ r) ++ n ≡ p ++ ((s ++ z) ++ (r ++ n))
queue_shape p s z r n =
    append_assoc ((p ++ s) ++ z) r n ∙ ap (λ w. w ++ (r ++ n)) (append_assoc p s z) ∙ append_assoc p (s ++ z) (r ++ n)

abbrev pub SameShown : CellTable → CellTable → Kind → ℕ → ℕ → Type 0
SameShown at other kind a b = shown at kind a b ≡ shown other kind a b

abbrev pub SameQueue : CellTable → CellTable → ℕ → ℕ → Type 0
SameQueue at other s q = SameShown at other QueueDelay s q × SameShown at other QueueBacklog s q

-- two values in a line: the first ends at a space, the second at the line's end
pub cut_two : (p z a b c d : List ℕ) → lacks 32 a ≡ true → lacks 32 b ≡ true → lacks 10 c ≡ true → lacks 10 d ≡ true
    → Cuts ((((p ++ a) ++ 32 ∷ z) ++ c) ++ codes "\n") ((((p ++ b) ++ 32 ∷ z) ++ d) ++ codes "\n") ((a ≡ b) × (c ≡ d))
cut_two p z a b c d h k l m =
    let n = codes "\n" in
    cut_as (p ++ ((a ++ 32 ∷ z) ++ (c ++ n))) (p ++ ((b ++ 32 ∷ z) ++ (d ++ n))) ((((p ++ a) ++ 32 ∷ z) ++ c) ++ n) ((((p ++ b) ++ 32 ∷ z) ++ d) ++ n)
    (Unit {0} × ((a ≡ b) × (c ≡ d))) ((a ≡ b) × (c ≡ d))
    (queue_shape p a (32 ∷ z) c n) (queue_shape p b (32 ∷ z) d n) (λ t. t.1)
    (cut_join p p ((a ++ 32 ∷ z) ++ (c ++ n)) ((b ++ 32 ∷ z) ++ (d ++ n)) (Unit {0}) ((a ≡ b) × (c ≡ d)) (cut_same p)
    (cut_join (a ++ 32 ∷ z) (b ++ 32 ∷ z) (c ++ n) (d ++ n) (a ≡ b) (c ≡ d) (cut_before 32 a b z h k) (cut_before 10 c d [] l m)))

cut_queue : (name : List ℕ) (at other : CellTable) (s q : ℕ) → Cuts (queue_line name at s q) (queue_line name other s q) (SameQueue at other s q)
unfolding queue_line
cut_queue name at other s q =
    cut_two (codes "queue " ++ name ++ codes " " ++ decimal q ++ codes " delay ") (codes "backlog ") (shown at QueueDelay s q) (shown other QueueDelay s q)
    (shown at QueueBacklog s q) (shown other QueueBacklog s q)
    (shown_lacks 32 (at (cell_of QueueDelay s q)) (omega arith) refl) (shown_lacks 32 (other (cell_of QueueDelay s q)) (omega arith) refl)
    (shown_lacks 10 (at (cell_of QueueBacklog s q)) (omega arith) refl) (shown_lacks 10 (other (cell_of QueueBacklog s q)) (omega arith) refl)

flow_shape : (p s z r y t n : List ℕ) → (((((p ++ s) ++ z) ++ r) ++ y) ++ t) ++ n ≡ p ++ ((s ++ z) ++ ((r ++ y) ++ (t ++ n)))
flow_shape p s z r y t n =
    append_assoc ((((p ++ s) ++ z) ++ r) ++ y) t n ∙ ap (λ w. w ++ (t ++ n)) (queue_shape p s z r y)
    ∙ append_assoc p ((s ++ z) ++ (r ++ y)) (t ++ n) ∙ ap (λ w. p ++ w) (append_assoc (s ++ z) (r ++ y) (t ++ n))

abbrev pub SameFlow : CellTable → CellTable → ℕ → Type 0
SameFlow at other i = SameShown at other Tfa i 0 × (SameShown at other Sfa i 0 × SameShown at other Bound i 0)

cut_flow : (name : List ℕ) (at other : CellTable) (i : ℕ) → Cuts (flow_line name at i) (flow_line name other i) (SameFlow at other i)
unfolding flow_line
cut_flow name at other i =
    let p = codes "flow " ++ name ++ codes " tfa " in
    let a = shown at Tfa i 0 in
    let b = shown other Tfa i 0 in
    let c = shown at Sfa i 0 in
    let d = shown other Sfa i 0 in
    let e = shown at Bound i 0 in
    let f = shown other Bound i 0 in
    let z = codes " sfa " in
    let y = codes " bound " in
    let n = codes "\n" in
    let space : (kind : Kind) (t : CellTable) → lacks 32 (shown t kind i 0) ≡ true = λ kind t. shown_lacks 32 (t (cell_of kind i 0)) (omega arith) refl in
    let line : (kind : Kind) (t : CellTable) → lacks 10 (shown t kind i 0) ≡ true = λ kind t. shown_lacks 10 (t (cell_of kind i 0)) (omega arith) refl in
    cut_as (p ++ ((a ++ z) ++ ((c ++ y) ++ (e ++ n)))) (p ++ ((b ++ z) ++ ((d ++ y) ++ (f ++ n))))
    ((((((p ++ a) ++ z) ++ c) ++ y) ++ e) ++ n) ((((((p ++ b) ++ z) ++ d) ++ y) ++ f) ++ n)
    (Unit {0} × ((a ≡ b) × ((c ≡ d) × (e ≡ f)))) ((a ≡ b) × ((c ≡ d) × (e ≡ f)))
    (flow_shape p a z c y e n) (flow_shape p b z d y f n) (λ t. t.1)
    (cut_join p p ((a ++ z) ++ ((c ++ y) ++ (e ++ n))) ((b ++ z) ++ ((d ++ y) ++ (f ++ n))) (Unit {0}) ((a ≡ b) × ((c ≡ d) × (e ≡ f))) (cut_same p)
    (cut_join (a ++ z) (b ++ z) ((c ++ y) ++ (e ++ n)) ((d ++ y) ++ (f ++ n)) (a ≡ b) ((c ≡ d) × (e ≡ f))
    (cut_before 32 a b (codes "sfa ") (space Tfa at) (space Tfa other))
    (cut_join (c ++ y) (d ++ y) (e ++ n) (f ++ n) (c ≡ d) (e ≡ f)
    (cut_before 32 c d (codes "bound ") (space Sfa at) (space Sfa other))
    (cut_before 10 e f [] (line Bound at) (line Bound other)))))

-- where the flow is there
abbrev pub ToldFlow : CellTable → CellTable → ℕ → Option NetFlow → Type 0
ToldFlow at other i None = Unit {0}
ToldFlow at other i (Some f) = SameFlow at other i

cut_live : (at other : CellTable) (i : ℕ) (o : Option NetFlow) → Cuts (live_line at i o) (live_line other i o) (ToldFlow at other i o)
cut_live at other i None = cut_same []
cut_live at other i (Some f) = cut_flow f.name at other i

-- ---- reports
pub record SameLines (net : Net) (at other : CellTable) : Type 0 where
  pub queue : (s : ℕ) → s < length net.servers → (q : ℕ) → q < queues net s → SameQueue at other s q
  pub flow : (i : ℕ) → i < length net.flows → ToldFlow at other i (flow_at net i)

cut_queues : (net : Net) (at other : CellTable) (s : ℕ)
    → Cuts (queue_lines net at s) (queue_lines net other s) ((q : ℕ) → q < queues net s → SameQueue at other s q)
cut_queues net at other s =
    cut_range (queue_line (server_name net s) at s) (queue_line (server_name net s) other s) (λ q. SameQueue at other s q) (queues net s)
    (λ q h. cut_queue (server_name net s) at other s q)

pub same_lines : (net : Net) (at other : CellTable) → report_of net at ≡ report_of net other → SameLines net at other
unfolding report_of
same_lines net at other e =
    let n = length net.servers in
    let m = length net.flows in
    let qs = λ (t : CellTable). flat_map (queue_lines net t) (range_with_len 0 n) in
    let fs = λ (t : CellTable). flat_map (flow_lines net t) (range_with_len 0 m) in
    let Q : ℕ → Type 0 = λ s. (q : ℕ) → q < queues net s → SameQueue at other s q in
    let F : ℕ → Type 0 = λ i. ToldFlow at other i (flow_at net i) in
    let AllQ : Type 0 = (s : ℕ) → s < n → Q s in
    let AllF : Type 0 = (i : ℕ) → i < m → F i in
    let head = head_line net in
    let both = told_by ((head ++ qs at) ++ fs at) ((head ++ qs other) ++ fs other) ((Unit {0} × AllQ) × AllF)
    (cut_join (head ++ qs at) (head ++ qs other) (fs at) (fs other) (Unit {0} × AllQ) AllF
    (cut_join head head (qs at) (qs other) (Unit {0}) AllQ (cut_same head)
    (cut_range (queue_lines net at) (queue_lines net other) Q n (λ s h. cut_queues net at other s)))
    (cut_range (flow_lines net at) (flow_lines net other) F m (λ i h. cut_live at other i (flow_at net i)))) e in
    record { queue = both.0.1; flow = both.1 }

-- ---- by cell
live_told : (at other : CellTable) (i : ℕ) (o : Option NetFlow) → is_some o ≡ true → ToldFlow at other i o → SameFlow at other i
live_told at other i None live t = absurd (cc)
live_told at other i (Some f) live t = t

at_queue : (net : Net) (at other : CellTable) → SameLines net at other → (s q : ℕ) → IsTrue (has_cell net (cell_of QueueDelay s q)) → SameQueue at other s q
at_queue net at other same s q has =
    let h = ltb-true q (queues net s) has in
    elim (cases_lt s (length net.servers)) [
      | inl inside ↦ same.queue s inside q h
      | inr past ↦
          let none : queues net s ≡ 0 = ap (λ (o : Option NetServer). queue_count (discipline_of o)) (slice_get_past net.servers s past) in
          absurd (omega (arith, none, h))
    ]

at_flow : (net : Net) (at other : CellTable) → SameLines net at other → (i : ℕ) → is_live net i ≡ true → SameFlow at other i
at_flow net at other same i live = live_told at other i (flow_at net i) live (same.flow i (live_inside net i live))

same_at : (net : Net) (at other : CellTable) → SameLines net at other → (kind : Kind) (a b : ℕ) → IsTrue (has_cell net (cell_of kind a b))
    → IsTrue (is_printed kind) → shown at kind a b ≡ shown other kind a b
same_at net at other same QueueDelay a b has p = (at_queue net at other same a b has).0
same_at net at other same QueueBacklog a b has p = (at_queue net at other same a b has).1
same_at net at other same Tfa a b has p =
    let h = and_parts (is_live net a) (b == 0) has in
    let P : ℕ → Type 0 = λ k. SameShown at other Tfa a k in
    subst P (sym (eqb-true b 0 h.1)) (at_flow net at other same a h.0).0
same_at net at other same Sfa a b has p =
    let h = and_parts (is_live net a) (b == 0) has in
    let P : ℕ → Type 0 = λ k. SameShown at other Sfa a k in
    subst P (sym (eqb-true b 0 h.1)) (at_flow net at other same a h.0).1.0
same_at net at other same Bound a b has p =
    let h = and_parts (is_live net a) (b == 0) has in
    let P : ℕ → Type 0 = λ k. SameShown at other Bound a k in
    subst P (sym (eqb-true b 0 h.1)) (at_flow net at other same a h.0).1.1
same_at net at other same In a b has p = absurd (cc)
same_at net at other same Cross a b has p = absurd (cc)
same_at net at other same Total a b has p = absurd (cc)
same_at net at other same Higher a b has p = absurd (cc)
same_at net at other same QueueService a b has p = absurd (cc)
same_at net at other same Theta a b has p = absurd (cc)
same_at net at other same Residual a b has p = absurd (cc)
same_at net at other same HopDelay a b has p = absurd (cc)
same_at net at other same ShiftOut a b has p = absurd (cc)
same_at net at other same DeconvOut a b has p = absurd (cc)
same_at net at other same Out a b has p = absurd (cc)
same_at net at other same PathService a b has p = absurd (cc)

pub tells_numbers : (net : Net) (at other : CellTable) → SameLines net at other
    → (c : Cell) (x : Ext) → IsShown net c → IsPrintable x → at c ≡ Some (number x) → other c ≡ Some (number x)
tells_numbers net at other same c x s p is =
    shows_number (other c) x p (sym (ap shown_value is) ∙ same_at net at other same c.kind c.a c.b s.there s.printed)
