-- The pieces of a curve one by one, by their place.
use Rattle.std.specs.Prelude.{◌≡◌, ℕ, zero, suc, ◌+◌, ◌<◌, ◌≤◌, pos, List, [], ◌∷◌, length, drop, Option}
use Rattle.std.proofs.Common.{arith, sym, ap, ap₂, ◌∙◌, refl, subst, get_or, drop-cons, drop_of_length-le}
use Rattle.std.specs.List.{AllByRecursion}
use Rattle.rational.specs.Rational.{ℚ, ◌≤ℚ◌, int}
use Rattle.rational.proofs.Laws.{le_refl, le_of_lt, le_trans}
use Rattle.upp_curve.specs.declared.affine_segment.line.Piece.{Piece}
use Rattle.upp_curve.specs.declared.curve.Tail.{Tail}
use Rattle.upp_curve.specs.affine_segment.Pieces.{RisesFrom, StartsAtZero, start_after}
use Rattle.upp_limits.specs.Spans.{Span, piece_read, end_of, spans}
use Rattle.upp_limits.specs.Limits.{Numbers, no_numbers, joined}
use Rattle.upp_limits.specs.ClosedForm.{closed_span, closed_spans}
use Rattle.upp_limits.proofs.JoinedNumbers.{joined_assoc, joined_nothing}

-- ---- all starts are from 0 on
rising_nonneg : (x : ℚ) (ps : List Piece) → int (pos 0) ≤ℚ x → RisesFrom x ps → AllByRecursion (λ p. int (pos 0) ≤ℚ p.x) ps
rising_nonneg x [] h r = tt
rising_nonneg x (p ∷ ps) h r = let l = le_trans h (le_of_lt r.0) in (l, rising_nonneg p.x ps l r.1)

pub starts_nonneg : (ps : List Piece) → StartsAtZero ps → AllByRecursion (λ p. int (pos 0) ≤ℚ p.x) ps
starts_nonneg [] h = tt
starts_nonneg (p ∷ ps) h =
    let l : int (pos 0) ≤ℚ p.x = subst (λ x. int (pos 0) ≤ℚ x) (sym h.0) (le_refl (int (pos 0))) in
    (l, rising_nonneg p.x ps l h.1)

pub every_at : {A : Type 0} (P : A → Type 0) (xs : List A) (i : ℕ) (x : A) → AllByRecursion P xs → i < length xs → x ≡ get_or xs i x → P x
every_at P [] i x h l e = absurd (omega arith)
every_at P (y ∷ ys) zero x h l e = subst P (sym e) h.0
every_at P (y ∷ ys) (suc i) x h l e = every_at P ys i x h.1 (omega arith) e

-- ---- the span at a place, and those after it
pub spans_some : (tail : Tail) (p : Piece) (ps : List Piece) → spans tail (p ∷ ps) ≡ record { piece = piece_read tail p; next = start_after ps (end_of tail) } ∷ spans tail ps
unfolding spans
spans_some tail p ps = refl

pub spans_none : (tail : Tail) → spans tail [] ≡ []
unfolding spans
spans_none tail = refl

make : Piece → Option ℚ → Span
make p next = record { piece = p; next = next }

pub next_span : (tail : Tail) (ps : List Piece) (i : ℕ) (p q : Piece) (next after : Option ℚ) → i < length ps → p ≡ get_or ps i p → q ≡ piece_read tail p
    → after ≡ end_of tail → next ≡ start_after (drop (i + 1) ps) after
    → spans tail (drop i ps) ≡ record { piece = q; next = next } ∷ spans tail (drop (i + 1) ps)
unfolding make
next_span tail ps i p q next after l e r a n =
    let rest = drop (i + 1) ps in
    let s : suc i ≡ i + 1 = omega arith in
    let d : drop i ps ≡ p ∷ rest = drop-cons ps i p l ∙ ap₂ (λ x m. x ∷ drop m ps) (sym e) s in
    ap (spans tail) d ∙ spans_some tail p rest
    ∙ ap₂ (λ (x : Piece) (y : Option ℚ). make x y ∷ spans tail rest) (sym r) (ap (start_after rest) (sym a) ∙ sym n)

every_drop : (Q : Span → Type 0) (tail : Tail) (ps : List Piece) (i : ℕ) → AllByRecursion Q (spans tail ps) → AllByRecursion Q (spans tail (drop i ps))
unfolding spans
every_drop Q tail ps zero h = h
every_drop Q tail [] (suc i) h = h
every_drop Q tail (p ∷ ps) (suc i) h = every_drop Q tail ps i h.1

pub span_at : (Q : Span → Type 0) (tail : Tail) (ps : List Piece) (i : ℕ) (s : Span) (rest : List Span) → AllByRecursion Q (spans tail ps) → spans tail (drop i ps) ≡ s ∷ rest → Q s
span_at Q tail ps i s rest h e =
    let k : AllByRecursion Q (s ∷ rest) = subst (AllByRecursion Q) e (every_drop Q tail ps i h) in k.0

-- ---- what is gathered, and the rest
pub closed_some : (tail : Tail) (end : ℚ) (s : Span) (ss : List Span) → closed_spans tail end (s ∷ ss) ≡ joined (closed_span tail end s) (closed_spans tail end ss)
unfolding closed_spans
closed_some tail end s ss = refl

pub closed_none : (tail : Tail) (end : ℚ) → closed_spans tail end [] ≡ no_numbers
unfolding closed_spans
closed_none tail end = refl

pub one_more : (tail : Tail) (end : ℚ) (m whole : Numbers) (ss rest : List Span) (s : Span) → ss ≡ s ∷ rest → joined m (closed_spans tail end ss) ≡ whole
    → joined (joined m (closed_span tail end s)) (closed_spans tail end rest) ≡ whole
one_more tail end m whole ss rest s e h =
    joined_assoc m (closed_span tail end s) (closed_spans tail end rest)
    ∙ ap (joined m) (sym (closed_some tail end s rest))
    ∙ ap (λ zs. joined m (closed_spans tail end zs)) (sym e) ∙ h

pub all_done : (counted tail : Tail) (end : ℚ) (m whole : Numbers) (ps : List Piece) (i : ℕ) → length ps ≤ i → joined m (closed_spans counted end (spans tail (drop i ps))) ≡ whole → m ≡ whole
all_done counted tail end m whole ps i l h =
    sym (ap (λ xs. joined m (closed_spans counted end xs)) (ap (spans tail) (drop_of_length-le ps l) ∙ spans_none tail) ∙ ap (joined m) (closed_none counted end) ∙ joined_nothing m) ∙ h
