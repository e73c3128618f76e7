-- What two periods of a curve are found to be: one line, or a period between breaks.
use Rattle.std.specs.Prelude.{◌≡◌, ℕ, pos, List, [], ◌∷◌, ◌++◌, length, None, Some}
use Rattle.std.proofs.Common.{arith, sym, ap, ap₂, ◌∙◌, subst, take}
use Rattle.rational.specs.Rational.{ℚ, ◌+ℚ◌, ◌≤ℚ◌, ◌<ℚ◌, int}
use Rattle.rational.proofs.Laws.{le_of_lt}
use Rattle.rational.proofs.Linear.{with2, with3, with4}
use Rattle.upp_curve.specs.declared.affine_segment.line.Piece.{Piece}
use Rattle.upp_curve.specs.affine_segment.Reading.{read}
use Rattle.upp_curve.specs.Curve.{repeated}
use Rattle.upp_curve.specs.Unrolled.{later, upto, from}
use Rattle.upp_curve.specs.affine_segment.Pieces.{Each, HasStart}
use Rattle.upp_curve.specs.Normal.{Continues}
use Rattle.upp_curve.specs.Steady.{last_of}
use Rattle.upp_normal.specs.Normalising.{past, first_start, IsTwoPeriods, EndsInBreak, IsLine, Turned}
use Rattle.upp_curve.proofs.Unique.{upto_some}
use Rattle.upp_normal.proofs.Below.{plain_upto}
use Rattle.upp_curve.proofs.Normal.{each_at, start_in_upto}
use Rattle.upp_curve.proofs.Repeats.{repeated_first, repeated_rule}
use Rattle.upp_curve.proofs.affine_segment.PieceOrder.{heads_same, tails_same}
use Rattle.upp_normal.proofs.NormaliseCuts.{split_is, take_upto, from_upto, from_is_past, upto_upto, upto_early, first_late, none_past, past_has, start_none, start_some, zero_upto, no_merge_upto, last_append}
use Rattle.upp_normal.proofs.NormalisePeriods.{agree, repeats_after}
use Rattle.upp_normal.proofs.NormaliseBreaks.{one_line_reads, Break, break_at, ends_in_break}
use Rattle.upp_normal.proofs.NormaliseLoops.{past_go}
use Rattle.upp_curve.proofs.affine_segment.PieceIn.{low_start}
use Rattle.upp_limits.proofs.PieceCounts.{upto_early as upto_before}

-- ---- no break past the rank
pub line_for_ever : (ps : List Piece) (r d c : ℚ) → IsTwoPeriods ps r d c → None ≡ first_start (past r ps) → IsLine ps (repeated (read ps) r d c)
line_for_ever ps r d c T e =
    let f = repeated (read ps) r d c in
    let some = T.some in
    record {
      starts = T.starts;
      none = T.none;
      reads = one_line_reads f ps r d c (r +ℚ d +ℚ d) some (repeated_rule (read ps) r d c some) (with2 r d (λ c. omega (arith, c.le, c.lt, c.same)))
          (none_past r ps (start_none (past r ps) (sym e))) T.nonneg (λ t h l. T.again t l);
    }

-- the first break past the rank is past rank + period
pub line_before : (ps : List Piece) (r d c x e : ℚ) (kept : List Piece) → IsTwoPeriods ps r d c → Some x ≡ first_start (past r ps) → e ≡ r +ℚ d → e <ℚ x → kept ≡ upto x ps
    → IsLine kept (repeated (read ps) r d c)
line_before ps r d c x e kept T s end l k =
    let (q, qs, past_is, at) = start_some (past r ps) x (sym s) in
    by_first q qs past_is at
  where
    by_first : (q : Piece) (qs : List Piece) → past r ps ≡ q ∷ qs → q.x ≡ x → IsLine kept (repeated (read ps) r d c)
    by_first q qs past_is at =
        let f = repeated (read ps) r d c in
        let some = T.some in
        let from_low = low_start ps T.starts in
        let has = subst (λ z. HasStart z ps) at (past_has r ps q qs past_is) in
        let inside : x <ℚ r +ℚ d +ℚ d = each_at (λ z. z <ℚ r +ℚ d +ℚ d) x ps T.inside has in
        let room : r +ℚ d <ℚ x = subst (λ z. z <ℚ x) end l in
        let zero = T.nonneg in
        let early = subst (λ z. Each (λ p. p.x ≤ℚ r) (upto z ps)) at (upto_early r _ ps q qs from_low past_is) in
        let L = one_line_reads f (upto x ps) r d c x some (repeated_rule (read ps) r d c some) room early zero
        (λ t h m. plain_upto ps x t T.starts h m ∙ T.again t (with4 t x (r +ℚ d) d (λ c. omega (arith, c.le, c.lt, c.same)))) in
        let first : int (pos 0) <ℚ x = with3 r d x (λ c. omega (arith, c.le, c.lt, c.same)) in
        subst (λ zs. IsLine zs f) (sym k) record { starts = zero_upto x ps first T.starts; none = no_merge_upto x ps T.none; reads = L }

-- ---- a break within a period past the rank
-- the piece from the cut on, and the last one
last_of_cut : (x : ℚ) (p : Piece) (ps : List Piece) (q : Piece) (qs : List Piece) → from x (p ∷ ps) ≡ q ∷ qs → last_of p ps ≡ last_of q qs
last_of_cut x p ps q qs e = by_parts (upto x (p ∷ ps)) (split_is x (p ∷ ps))
  where
    same_last : (p q : Piece) (ps qs : List Piece) → p ∷ ps ≡ q ∷ qs → last_of p ps ≡ last_of q qs
    same_last p q ps qs e = ap₂ last_of (heads_same p q ps qs e) (tails_same p q ps qs e)

    by_parts : (before : List Piece) → before ++ from x (p ∷ ps) ≡ p ∷ ps → last_of p ps ≡ last_of q qs
    by_parts [] w = same_last p q ps qs (sym w ∙ e)
    by_parts (b ∷ bs) w =
        let whole : p ∷ ps ≡ b ∷ (bs ++ q ∷ qs) = sym w ∙ ap (λ zs. b ∷ (bs ++ zs)) e in
        same_last p b ps (bs ++ q ∷ qs) whole ∙ last_append b bs q qs

-- the break at the end of the period from a break q
break_end : (ps : List Piece) (r d c : ℚ) (q : Piece) (qs : List Piece) → IsTwoPeriods ps r d c → past r ps ≡ q ∷ qs → q.x ≤ℚ r +ℚ d → EndsInBreak (upto (q.x +ℚ d) ps) q.x d c
break_end [] r d c q qs T e room p rest is = absurd T.starts
break_end (b ∷ bs) r d c q qs T e room p rest is =
    let some = T.some in
    let zero = T.nonneg in
    let x = q.x in
    let y = b.x in
    let X = x +ℚ d in
    let start = T.starts.0 in
    let late = first_late r (b ∷ bs) q qs e in
    let low : b.x ≤ℚ r = subst (λ z. z ≤ℚ r) (sym start) zero in
    let B : Break b bs r q = break_at b bs r q qs T.starts.1 T.none low (sym (past_go r b bs low) ∙ e) in
    let begin : b.x <ℚ X = with4 y r x d (λ c. omega (arith, c.le, c.lt, c.same)) in
    let shape : from x (b ∷ upto X bs) ≡ p ∷ rest = sym (ap (from x) (upto_some X b bs begin)) ∙ is in
    let last : last_of b (upto X bs) ≡ last_of p rest = last_of_cut x b (upto X bs) p rest shape in
    let after : x <ℚ X = with2 x d (λ c. omega (arith, c.le, c.lt, c.same)) in
    let first : p ∷ rest ≡ q ∷ upto X qs =
    sym is ∙ from_upto x X (b ∷ bs) (le_of_lt after) ∙ ap (upto X) (from_is_past r _ (b ∷ bs) q qs (low_start (b ∷ bs) T.starts) e) ∙ upto_some X q qs after in
    let same : p ≡ q = heads_same p q rest (upto X qs) first in
    let E = ends_in_break (repeated (read (b ∷ bs)) r d c) b bs r d c q B some zero start (repeated_rule (read (b ∷ bs)) r d c some) T.starts.1
    (λ t h l. T.again t (with4 t x r d (λ c. omega (arith, c.le, c.lt, c.same)))) in
    λ C. E (subst (λ z. Continues z (later d c q)) (sym last) (subst (λ z. Continues (last_of p rest) (later d c z)) same C))

pub turns_at : (ps : List Piece) (r d c x e y : ℚ) (first : ℕ) (kept : List Piece) → IsTwoPeriods ps r d c → Some x ≡ first_start (past r ps) → e ≡ r +ℚ d → x ≤ℚ e → y ≡ x +ℚ d
    → first ≡ length (upto x ps) → kept ≡ upto y ps → Turned kept first x d c (repeated (read ps) r d c)
turns_at ps r d c x e y first kept T s end l until count k =
    let (q, qs, past_is, at) = start_some (past r ps) x (sym s) in
    by_first q qs past_is at
  where
    by_first : (q : Piece) (qs : List Piece) → past r ps ≡ q ∷ qs → q.x ≡ x → Turned kept first x d c (repeated (read ps) r d c)
    by_first q qs past_is at =
        let f = repeated (read ps) r d c in
        let some = T.some in
        let zero = T.nonneg in
        let X = x +ℚ d in
        let late : r <ℚ x = subst (λ z. r <ℚ z) at (first_late r ps q qs past_is) in
        let room : x ≤ℚ r +ℚ d = subst (λ z. x ≤ℚ z) end l in
        let after : x <ℚ X = with2 x d (λ c. omega (arith, c.le, c.lt, c.same)) in
        let positive : int (pos 0) <ℚ X = with3 r x d (λ c. omega (arith, c.le, c.lt, c.same)) in
        let has = subst (λ z. HasStart z ps) at (past_has r ps q qs past_is) in
        let rule = repeats_after f r x d c (le_of_lt late) (repeated_rule (read ps) r d c some) in
        let B : EndsInBreak (upto X ps) x d c = subst (λ z. EndsInBreak (upto (z +ℚ d) ps) z d c) at (break_end ps r d c q qs T past_is (subst (λ z. z ≤ℚ r +ℚ d) (sym at) room)) in
        let nonneg : int (pos 0) ≤ℚ x = with2 r x (λ c. omega (arith, c.le, c.lt, c.same)) in
        subst (λ zs. Turned zs first x d c f) (sym (k ∙ ap (λ z. upto z ps) until)) record {
          cycle = record {
            starts = zero_upto X ps positive T.starts;
            none = no_merge_upto X ps T.none;
            has = start_in_upto _ x X ps (low_start ps T.starts) has after;
            nonneg = nonneg;
            some = some;
            inside = upto_before X ps;
          };
          break = B;
          first_is = count ∙ ap length (sym (upto_upto x X ps (le_of_lt after)));
          same = agree (repeated (read (upto X ps)) x d c) f x d c some (repeated_rule (read (upto X ps)) x d c some) rule
              (λ t h m. repeated_first (read (upto X ps)) x d c t some m ∙ plain_upto ps X t T.starts h m ∙ T.again t (with4 t x r d (λ c. omega (arith, c.le, c.lt, c.same)))) nonneg;
        }

-- a list cut to as many pieces as start before x
pub taken_is : (x : ℚ) (ps seen kept : List Piece) (n : ℕ) → kept ≡ take n ps → n ≡ length (upto x seen) → seen ≡ ps → kept ≡ upto x ps
taken_is x ps seen kept n k e s = k ∙ ap (λ m. take m ps) (e ∙ ap (λ zs. length (upto x zs)) s) ∙ take_upto x ps

-- the first start past the rank is past it
pub start_late : (ps : List Piece) (r x : ℚ) → Some x ≡ first_start (past r ps) → r ≤ℚ x
start_late ps r x s =
    let (q, qs, past_is, at) = start_some (past r ps) x (sym s) in
    le_of_lt (subst (λ z. r <ℚ z) at (first_late r ps q qs past_is))

pub start_has : (ps : List Piece) (r x : ℚ) → Some x ≡ first_start (past r ps) → HasStart x ps
start_has ps r x s =
    let (q, qs, past_is, at) = start_some (past r ps) x (sym s) in
    subst (λ z. HasStart z ps) at (past_has r ps q qs past_is)
