-- Every cell has a place of its own.
use Rattle.std.proofs.Common.{◌≡◌, ℕ, ◌+◌, ◌-◌, ◌*◌, ◌/◌, ◌<◌, ◌≤◌, List, [], ◌∷◌, get_or, true, false, cond, sym, ap, ◌∙◌, subst, refl, arith}
use Rattle.std.specs.Prelude.{nat_lt}
use Rattle.std.proofs.lemmas.Bool.Decides.{nat_tests}
use Rattle.std.proofs.lemmas.Nat.{div-mul-add}
use Rattle.net_cells.specs.declared.cell.Cell.{Cell}
use Rattle.net_cells.specs.declared.cell.Kind.{Kind}
use Rattle.net_cells.specs.declared.cell.Kind.TheVariants.{In, Cross, Total, Higher, QueueService, Theta, Residual, QueueDelay, QueueBacklog, HopDelay, ShiftOut, DeconvOut, Out, PathService, Tfa, Sfa, Bound}
use Rattle.net_cells.specs.Cells.{cell_of, path_kinds}
use Rattle.cell_rules.specs.cell_changes.Slots.{rows, columns, slot, HasSlot}

-- the kind whose places a number is among
abbrev hop_kinds : List Kind
hop_kinds = In ∷ Cross ∷ Theta ∷ Residual ∷ HopDelay ∷ ShiftOut ∷ DeconvOut ∷ Out ∷ []

abbrev queue_kinds : List Kind
queue_kinds = Total ∷ Higher ∷ QueueService ∷ QueueDelay ∷ QueueBacklog ∷ []

kind_at : ℕ → Kind
kind_at n =
    cond (nat_lt n 32768) (get_or hop_kinds (n / 4096) In)
    (cond (nat_lt n 35328) (get_or queue_kinds ((n - 32768) / 512) In) (get_or path_kinds ((n - 35328) / 256) In))

at_hop : (n r : ℕ) → r * 4096 ≤ n → n < r * 4096 + 4096 → r < 8 → kind_at n ≡ get_or hop_kinds r In
unfolding kind_at
at_hop n r low high few =
    let below : nat_lt n 32768 ≡ true = grind (arith, nat_tests) in
    let e : n / 4096 ≡ r = omega arith in
    rw (below, e) refl

at_queue : (n r : ℕ) → 32768 + r * 512 ≤ n → n < 32768 + r * 512 + 512 → r < 5 → kind_at n ≡ get_or queue_kinds r In
unfolding kind_at
at_queue n r low high few =
    let above : nat_lt n 32768 ≡ false = grind (arith, nat_tests) in
    let below : nat_lt n 35328 ≡ true = grind (arith, nat_tests) in
    let e : (n - 32768) / 512 ≡ r = omega arith in
    rw (above, below, e) refl

at_path : (n r : ℕ) → 35328 + r * 256 ≤ n → n < 35328 + r * 256 + 256 → kind_at n ≡ get_or path_kinds r In
unfolding kind_at
at_path n r low high =
    let above : nat_lt n 32768 ≡ false = grind (arith, nat_tests) in
    let over : nat_lt n 35328 ≡ false = grind (arith, nat_tests) in
    let e : (n - 35328) / 256 ≡ r = omega arith in
    rw (above, over, e) refl

-- the kind of a place
kind_is : (k : Kind) (a b : ℕ) → a < rows k → b < columns k → kind_at (slot (cell_of k a b)) ≡ k
kind_is In a b row column = at_hop (slot (cell_of In a b)) 0 (omega arith) (omega arith) (omega arith)
kind_is Cross a b row column = at_hop (slot (cell_of Cross a b)) 1 (omega arith) (omega arith) (omega arith)
kind_is Theta a b row column = at_hop (slot (cell_of Theta a b)) 2 (omega arith) (omega arith) (omega arith)
kind_is Residual a b row column = at_hop (slot (cell_of Residual a b)) 3 (omega arith) (omega arith) (omega arith)
kind_is HopDelay a b row column = at_hop (slot (cell_of HopDelay a b)) 4 (omega arith) (omega arith) (omega arith)
kind_is ShiftOut a b row column = at_hop (slot (cell_of ShiftOut a b)) 5 (omega arith) (omega arith) (omega arith)
kind_is DeconvOut a b row column = at_hop (slot (cell_of DeconvOut a b)) 6 (omega arith) (omega arith) (omega arith)
kind_is Out a b row column = at_hop (slot (cell_of Out a b)) 7 (omega arith) (omega arith) (omega arith)
kind_is Total a b row column = at_queue (slot (cell_of Total a b)) 0 (omega arith) (omega arith) (omega arith)
kind_is Higher a b row column = at_queue (slot (cell_of Higher a b)) 1 (omega arith) (omega arith) (omega arith)
kind_is QueueService a b row column = at_queue (slot (cell_of QueueService a b)) 2 (omega arith) (omega arith) (omega arith)
kind_is QueueDelay a b row column = at_queue (slot (cell_of QueueDelay a b)) 3 (omega arith) (omega arith) (omega arith)
kind_is QueueBacklog a b row column = at_queue (slot (cell_of QueueBacklog a b)) 4 (omega arith) (omega arith) (omega arith)
kind_is PathService a b row column = at_path (slot (cell_of PathService a b)) 0 (omega arith) (omega arith)
kind_is Tfa a b row column = at_path (slot (cell_of Tfa a b)) 1 (omega arith) (omega arith)
kind_is Sfa a b row column = at_path (slot (cell_of Sfa a b)) 2 (omega arith) (omega arith)
kind_is Bound a b row column = at_path (slot (cell_of Bound a b)) 3 (omega arith) (omega arith)

pub is_below : (k : Kind) (a b : ℕ) → a < rows k → b < columns k → slot (cell_of k a b) < 36352
is_below In a b row column = omega arith
is_below Cross a b row column = omega arith
is_below Total a b row column = omega arith
is_below Higher a b row column = omega arith
is_below QueueService a b row column = omega arith
is_below Theta a b row column = omega arith
is_below Residual a b row column = omega arith
is_below QueueDelay a b row column = omega arith
is_below QueueBacklog a b row column = omega arith
is_below HopDelay a b row column = omega arith
is_below ShiftOut a b row column = omega arith
is_below DeconvOut a b row column = omega arith
is_below Out a b row column = omega arith
is_below PathService a b row column = omega arith
is_below Tfa a b row column = omega arith
is_below Sfa a b row column = omega arith
is_below Bound a b row column = omega arith

-- one row after the other
pair_is : (w a b c d : ℕ) → b < w → d < w → a * w + b ≡ c * w + d → (a ≡ c) × (b ≡ d)
pair_is w a b c d p q e =
    let rows : a ≡ c = sym (div-mul-add a w b p) ∙ (ap (λ n. n / w) e ∙ div-mul-add c w d q) in
    (rows, let f : a * w + b ≡ a * w + d = e ∙ ap (λ n. n * w + d) (sym rows) in omega arith)

one_kind : (k : Kind) (a b c d : ℕ) → b < columns k → d < columns k → slot (cell_of k a b) ≡ slot (cell_of k c d) → cell_of k a b ≡ cell_of k c d
one_kind k a b c d p q e =
    let f : a * columns k + b ≡ c * columns k + d = omega (arith, e) in
    let same = pair_is (columns k) a b c d p q f in
    ap (λ n. cell_of k n b) same.0 ∙ ap (λ n. cell_of k c n) same.1

pub own : (c d : Cell) → HasSlot c → HasSlot d → slot c ≡ slot d → c ≡ d
own c d p q e =
    let kind : c.kind ≡ d.kind = sym (kind_is c.kind c.a c.b p.row p.column) ∙ (ap kind_at e ∙ kind_is d.kind d.a d.b q.row q.column) in
    let go : (k : Kind) → c.kind ≡ k → d.b < columns k → slot c ≡ slot (cell_of k d.a d.b) → c ≡ cell_of k d.a d.b =
    λ k is. subst (λ (m : Kind). d.b < columns m → slot c ≡ slot (cell_of m d.a d.b) → c ≡ cell_of m d.a d.b) is
    (λ r f. one_kind c.kind c.a c.b d.a d.b p.column r f) in
    go d.kind kind q.column e
