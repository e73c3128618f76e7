-- What is left to a queue is fit, is left to it in a view that keeps the queues' sizes and curves, and is the same by two
-- networks where its numbers are.
use Rattle.std.specs.Prelude.{◌≡◌, ℕ, ◌<◌, ◌≤◌, List, [], ◌∷◌, length, map}
use Rattle.std.specs.List.{range_with_len}
use Rattle.std.proofs.Common.{arith, sym, ap, ap₂, refl, subst, inl, inr, get_or}
use Rattle.std.proofs.lemmas.Bool.{cases_lt}
use Rattle.std.proofs.lemmas.List.{length-map, get_or_past}
use Rattle.std.proofs.lemmas.List.FromFn.{length-range_with_len, length-map-range_with_len, get_or-map-range_with_len}
use Rattle.rational.specs.Rational.{ℚ}
use Rattle.rational.specs.Extended.{Ext}
use Rattle.upp_curve.specs.Curve.{SpecCurve}
use Rattle.residuals.specs.left.Left.{Left, above, share, map_left, EachBefore, IsFit}
use Rattle.residuals.specs.left.Laws.{IsLeftTo}
use Rattle.run_laws.specs.Cards.{of_queue, before_queue, after_queue, ServerStep}
use Rattle.run_laws.specs.Servers.{Discipline, Fifo, Priority, Drr, Server, queue_count}
use Rattle.run_laws.specs.Premises.{KeepsArrivals, KeepsSizes}
use Rattle.run_laws.proofs.Members.{Has}
use Rattle.net_model.specs.Networks.{Net}
use Rattle.net_model.specs.Accepted.{HasFewQueues}
use Rattle.net_cells.specs.declared.cell.Cell.{Cell}
use Rattle.net_cells.specs.declared.cell.Kind.TheVariants.{Higher}
use Rattle.net_cells.specs.Numbered.{levels_of}
use Rattle.net_cells.specs.Visits.{longest, longest_after}
use Rattle.net_cells.specs.Cells.{cell_of}
use Rattle.net_cells.specs.Left.{longest_each, left_of}
use Rattle.net_cells.specs.Formulas.{leaves}
use Rattle.net_cells.specs.CellFormulas.{left_formula}

pub left_fits : (net : Net) (s q : ℕ) (d : Discipline) → HasFewQueues d → q < queue_count d → IsFit (left_of net s q d)
left_fits net s q Fifo few h = tt
left_fits net s q (Priority n) few h = tt
left_fits net s q (Drr quanta) few h =
    let paired : length (longest_each net s (length quanta)) ≡ length quanta = length-map-range_with_len (longest net s) 0 (length quanta) in
    (record { some = few.0.0; few = few.0.1; each = few.1; paired = paired }, h)

-- the curve of the queues before is that of one cell, of which the service is made
pub before_is : (net : Net) (s q : ℕ) (f : SpecCurve) (d : Discipline) (P : Cell → Type 0)
    → (Has (leaves (left_formula f (left_of net s q d))) (cell_of Higher s q) → P (cell_of Higher s q)) → EachBefore P (left_of net s q d)
before_is net s q f Fifo P h = tt
before_is net s q f (Priority n) P h = h (inl refl)
before_is net s q f (Drr quanta) P h = tt

pub leaf_is : (net : Net) (s q : ℕ) (f : SpecCurve) (d : Discipline) (c : Cell) → Has (leaves (left_formula f (left_of net s q d))) c
    → cell_of Higher s q ≡ c
leaf_is net s q f Fifo c h = absurd h
leaf_is net s q f (Priority n) c (inl e) = e
leaf_is net s q f (Priority n) c (inr h) = absurd h
leaf_is net s q f (Drr quanta) c h = absurd h

-- ---- in a view
sizes_kept : (net : Net) (s n : ℕ) (view : List ServerStep) → ((p : ℕ) → KeepsSizes (of_queue p) (longest net s p) view)
    → ((p : ℕ) → n ≤ p → KeepsSizes (of_queue p) 0 view) → (p : ℕ) → KeepsSizes (of_queue p) (get_or (longest_each net s n) p 0) view
sizes_kept net s n view each past p =
    let sizes = longest_each net s n in
    elim (cases_lt p n) [
      | inl l ↦
          let is : get_or sizes p 0 ≡ longest net s p = get_or-map-range_with_len (longest net s) 0 n p p 0 l (omega arith) in
          subst (λ (b : ℕ). KeepsSizes (of_queue p) b view) (sym is) (each p)
      | inr l ↦
          let few : length sizes ≤ p = omega (arith, length-map (range_with_len 0 n) (longest net s), length-range_with_len 0 n) in
          let is : get_or sizes p 0 ≡ 0 = get_or_past sizes p 0 few in
          subst (λ (b : ℕ). KeepsSizes (of_queue p) b view) (sym is) (past p (omega arith))
    ]

-- no packet has a queue that the server has not
pub left_to : (net : Net) (server : Server) (view : List ServerStep) (curves : Cell → ℚ → Ext) (s q : ℕ) (d : Discipline)
    → server.discipline ≡ d → q < queue_count d
    → (q < levels_of d → KeepsArrivals (before_queue q) (curves (cell_of Higher s q)) view)
    → KeepsSizes (after_queue q) (longest_after net s q) view
    → ((p : ℕ) → KeepsSizes (of_queue p) (longest net s p) view) → ((p : ℕ) → queue_count d ≤ p → KeepsSizes (of_queue p) 0 view)
    → IsLeftTo q server view (map_left curves (left_of net s q d))
left_to net server view curves s q Fifo is h before after each past = (is, omega (arith, h))
left_to net server view curves s q (Priority n) is h before after each past = ((n, is), before h, after)
left_to net server view curves s q (Drr quanta) is h before after each past =
    (is, refl, sizes_kept net s (length quanta) view each past)

-- ---- by two networks
each_same : (f g : ℕ → ℕ) (qs : List ℕ) → ((q : ℕ) → f q ≡ g q) → map f qs ≡ map g qs
each_same f g [] e = refl
each_same f g (q ∷ qs) e = ap₂ (λ n ns. n ∷ ns) (e q) (each_same f g qs e)

pub left_same : (old new : Net) (s q : ℕ) (d : Discipline) → longest_after old s q ≡ longest_after new s q
    → ((p : ℕ) → longest old s p ≡ longest new s p) → left_of old s q d ≡ left_of new s q d
left_same old new s q Fifo after each = refl
left_same old new s q (Priority n) after each = ap (λ lower. let l : Left Cell = above (cell_of Higher s q) lower in l) after
left_same old new s q (Drr quanta) after each =
    ap (λ sizes. let l : Left Cell = share quanta sizes q in l) (each_same (longest old s) (longest new s) (range_with_len 0 (length quanta)) each)
