-- A curve's period divided: the pieces that are left, where the fraction is a period; and that there is none where they do not go on.
use Rattle.std.specs.Prelude.{◌≡◌, ℕ, zero, suc, ◌+◌, ◌*◌, ◌≤◌, pos, List, [], ◌∷◌, ◌++◌, length, Option}
use Rattle.std.proofs.Common.{arith, sym, ap, ap₂, ◌∙◌, subst, take, append_assoc}
use Rattle.std.proofs.lemmas.List.{length-take-le}
use Rattle.std.proofs.Math.Seq.{take-append-add}
use Prim.Native.Nat.{◌∣◌}
use native.Mathlib.Nat.{dvd-mul_right, eq_of_mul-eq-mul_right, mul_comm}
use Rattle.rational.specs.Rational.{ℚ, ◌+ℚ◌, ◌-ℚ◌, ◌*ℚ◌, ◌≤ℚ◌, ◌<ℚ◌, int}
use Rattle.rational.proofs.Laws.{le_of_lt, le_refl, le_trans}
use Rattle.rational.proofs.Linear.{with2, with3}
use Rattle.rational.specs.Extended.{Ext, ◌+ₑ◌}
use Rattle.rational.specs.declared.Extended.TheVariants.{Fin}
use Rattle.upp_curve.specs.declared.affine_segment.line.Line.{Line}
use Rattle.upp_curve.specs.declared.affine_segment.line.Piece.{Piece}
use Rattle.upp_curve.specs.affine_segment.Values.{line_value}
use Rattle.upp_curve.specs.affine_segment.Reading.{read}
use Rattle.upp_curve.specs.Curve.{repeated}
use Rattle.upp_curve.specs.Steady.{Repeats, last_of}
use Rattle.upp_curve.specs.Unrolled.{line_later, later, each_later, copies, upto, from}
use Rattle.upp_curve.specs.affine_segment.Pieces.{RisesFrom, StartsAtZero, Each}
use Rattle.upp_curve.specs.Normal.{NoMerge, Continues, NoneContinues}
use Rattle.upp_normal.specs.Normalising.{IsCycle, EndsInBreak, Turned, GoesOn}
use Rattle.upp_curve.proofs.Repeats.{repeated_first, repeated_rule, repeats_times}
use Rattle.upp_curve.proofs.Steady.{read_past}
use Rattle.upp_curve.proofs.Unique.{lines_same}
use Rattle.upp_curve.proofs.FirstStretch.{on_stretch, at_start, end_of, start_before, end_at_most}
use Rattle.upp_curve.proofs.Normal.{upto_all}
use Rattle.upp_normal.proofs.UnrolledValues.{copies_some, line_value_later}
use Rattle.upp_normal.proofs.Below.{Cut, cut_at_start, read_from_cut, parts_read}
use Rattle.upp_curve.proofs.affine_segment.PieceOrder.{each_map, each_append, rises_left, heads_same, tails_same, rises_split, has_mid}
use Rattle.upp_normal.proofs.NormaliseLists.{none_left, none_between, last_is_last, last_in}
use Rattle.upp_normal.proofs.NormaliseCuts.{each_right}
use Rattle.upp_normal.proofs.NormalisePeriods.{agree}
use Rattle.upp_normal.proofs.NormaliseRank.{upto_mid}
use Rattle.upp_normal.proofs.NormaliseCopies.{Period, are_copies, more_copies, next_copies, copies_go_on, from_go_on, length-copies}
use Rattle.upp_curve.proofs.affine_segment.PieceIn.{read_is, low_start}
use Rattle.upp_limits.proofs.PieceCounts.{from_none, from_some}

-- ---- the right part of a list, and its front
none_after : (p : Piece) (es : List Piece) (q : Piece) (bs : List Piece) → NoneContinues p (es ++ q ∷ bs) → NoneContinues q bs
none_after p [] q bs n = n.1
none_after p (a ∷ es) q bs n = none_after a es q bs n.1

none_right : (es : List Piece) (q : Piece) (bs : List Piece) → NoMerge (es ++ q ∷ bs) → NoneContinues q bs
none_right [] q bs n = n
none_right (a ∷ es) q bs n = none_after a es q bs n

zero_front : (es : List Piece) (q : Piece) (bs more : List Piece) → StartsAtZero (es ++ q ∷ (bs ++ more)) → StartsAtZero (es ++ q ∷ bs)
zero_front [] q bs more h = (h.0, rises_left q.x bs more h.1)
zero_front (a ∷ es) q bs more h = (h.0, rises_left a.x (es ++ q ∷ bs) more (subst (RisesFrom a.x) (sym (append_assoc es (q ∷ bs) more)) h.1))

no_merge_front : (es : List Piece) (q : Piece) (bs more : List Piece) → NoMerge (es ++ q ∷ (bs ++ more)) → NoMerge (es ++ q ∷ bs)
no_merge_front [] q bs more n = none_left q bs more n
no_merge_front (a ∷ es) q bs more n = none_left a (es ++ q ∷ bs) more (subst (NoneContinues a) (sym (append_assoc es (q ∷ bs) more)) n)

from_mid : (x : ℚ) (es : List Piece) (q : Piece) (bs : List Piece) → Each (λ z. z.x <ℚ x) es → x ≤ℚ q.x → from x (es ++ q ∷ bs) ≡ q ∷ bs
from_mid x [] q bs h l = from_none x q bs l
from_mid x (a ∷ es) q bs h l = from_some x a (es ++ q ∷ bs) h.0 ∙ from_mid x es q bs h.1 l

-- ---- the period of a curve that begins and ends at a break
pub cut_of : (ps : List Piece) (r d : ℚ) → IsCycle ps r d → Cut r ps
cut_of ps r d C = cut_at_start (int (pos 0) -ℚ int (pos 1)) r ps (low_start ps C.starts) C.has

pub period_is : (ps : List Piece) (r d c : ℚ) → IsCycle ps r d → EndsInBreak ps r d c → (K : Cut r ps) → Period (repeated (read ps) r d c) d c K.first K.rest
period_is ps r d c C E K =
    let inside = each_right (λ z. z.x <ℚ r +ℚ d) K.before (K.first ∷ K.rest) (subst (Each (λ z. z.x <ℚ r +ℚ d)) K.whole C.inside) in
    record {
      rises = K.rises;
      none = none_right K.before K.first K.rest (subst NoMerge K.whole C.none);
      inside = subst (λ x. Each (λ z. z.x <ℚ x +ℚ d) K.rest) (sym K.at) inside.1;
      break = E K.first K.rest K.from_is;
      reads = λ t h l.
          let early : Each (λ z. z.x ≤ℚ t) K.before = each_map (λ z. z.x <ℚ r) (λ z. z.x ≤ℚ t) (λ z m. le_trans (le_of_lt m) (subst (λ x. x ≤ℚ t) K.at h)) K.before K.early in
          sym (ap (λ zs. read zs t) K.whole ∙ read_from_cut K.before K.first K.rest t early h) ∙ sym (repeated_first (read ps) r d c t C.some (subst (λ x. t <ℚ x +ℚ d) K.at l));
    }

-- such a tail is not one line
line_moved : (l : Option Line) (f : ℚ → Ext) (r d c : ℚ) → Repeats f r d c → int (pos 0) <ℚ d → ((t : ℚ) → r ≤ℚ t → f t ≡ line_value l t) → line_later d c l ≡ l
line_moved l f r d c F some is =
    lines_same (line_later d c l) l (r +ℚ d) (r +ℚ d +ℚ int (pos 1)) (with2 r d (λ c. omega (arith, c.le, c.lt, c.same))) (λ t a b.
    let u = t -ℚ d in
    let late : r ≤ℚ u = with3 r t d (λ c. omega (arith, c.le, c.lt, c.same)) in
    let later : r ≤ℚ t = with3 r t d (λ c. omega (arith, c.le, c.lt, c.same)) in
    let back : u +ℚ d ≡ t = with2 t d (λ c. omega (arith, c.le, c.lt, c.same)) in
    line_value_later l d c t ∙ ap (λ v. v +ₑ Fin c) (sym (is u late)) ∙ sym (F.rule u late) ∙ ap f back ∙ is t later)

pub not_one_line : (f : ℚ → Ext) (d c : ℚ) (q : Piece) (qs : List Piece) → int (pos 0) <ℚ d → Period f d c q qs → Repeats f q.x d c → (l : Option Line) → ¬ ((t : ℚ) → q.x ≤ℚ t → f t ≡ line_value l t)
not_one_line f d c q qs some P F l is =
    let x = q.x in
    let X = x +ℚ d in
    let w = last_of q qs in
    let y = w.x in
    let begin : x <ℚ X = with2 x d (λ c. omega (arith, c.le, c.lt, c.same)) in
    let y_in : y <ℚ X = last_in (λ z. z.x <ℚ X) q qs begin P.inside in
    let low : x ≤ℚ y = (last_is_last q qs P.rises).0 in
    let last : w.line ≡ l = lines_same w.line l y X y_in (λ t a b.
    let h : x ≤ℚ t = le_trans low (le_of_lt a) in
    sym (read_past (q ∷ qs) y t (last_is_last q qs P.rises) a) ∙ P.reads t h b ∙ is t h) in
    let first : q.line ≡ l = lines_same q.line l x (end_of X qs) (start_before x X qs begin P.rises) (λ t a b.
    let k : t <ℚ X = end_at_most X qs t b in
    sym (on_stretch q qs X t a b) ∙ sym (read_is q qs t) ∙ P.reads t (le_of_lt a) k ∙ is t (le_of_lt a)) in
    let at : q.at +ₑ Fin c ≡ line_value w.line X =
    ap (λ v. v +ₑ Fin c) (sym (at_start q qs P.rises) ∙ sym (read_is q qs x) ∙ P.reads x (le_refl x) begin) ∙ sym (F.rule x (le_refl x))
    ∙ is X (le_of_lt begin) ∙ ap (λ z. line_value z X) (sym last) in
    P.break (at, ap (line_later d c) first ∙ line_moved l f x d c F some is ∙ sym last)

-- ---- a fraction that is a period
-- the number of copies divides that of the pieces, and the pieces go on
pub copies_count : (ps : List Piece) (r d c e u : ℚ) (k : ℕ) → IsCycle ps r d → EndsInBreak ps r d c → int (pos 0) <ℚ e → d ≡ int (pos (suc k)) *ℚ e → c ≡ int (pos (suc k)) *ℚ u
    → Repeats (repeated (read ps) r d c) r e u → (ws : List Piece) × (from r ps ≡ copies (suc k) e u ws) × (length (from r ps) ≡ suc k * length ws)
copies_count ps r d c e u k C E some dk ck R =
    let K = cut_of ps r d C in
    let P = period_is ps r d c C E K in
    let repeats_there : Repeats (repeated (read ps) r d c) K.first.x e u = subst (λ x. Repeats (repeated (read ps) r d c) x e u) (sym K.at) R in
    let ws = upto (K.first.x +ℚ e) (K.first ∷ K.rest) in
    let are = are_copies (repeated (read ps) r d c) k e u d c K.first K.rest some dk ck P repeats_there in
    (ws, K.from_is ∙ are, ap length (K.from_is ∙ are) ∙ length-copies (suc k) e u ws)

pub divides_count : (ps : List Piece) (r d c e u : ℚ) (k : ℕ) → IsCycle ps r d → EndsInBreak ps r d c → int (pos 0) <ℚ e → d ≡ int (pos (suc k)) *ℚ e → c ≡ int (pos (suc k)) *ℚ u
    → Repeats (repeated (read ps) r d c) r e u → suc k ∣ length (from r ps)
divides_count ps r d c e u k C E some dk ck R =
    let (ws, are, n) = copies_count ps r d c e u k C E some dk ck R in
    subst (λ m. suc k ∣ m) (sym n) (dvd-mul_right (suc k) (length ws))

pub goes_on_if : (ps : List Piece) (r d c e u : ℚ) (k m : ℕ) → IsCycle ps r d → EndsInBreak ps r d c → int (pos 0) <ℚ e → d ≡ int (pos (suc k)) *ℚ e → c ≡ int (pos (suc k)) *ℚ u
    → length (from r ps) ≡ suc k * m → Repeats (repeated (read ps) r d c) r e u → GoesOn (from r ps) m e u
goes_on_if ps r d c e u k m C E some dk ck len R =
    let (ws, are, n) = copies_count ps r d c e u k C E some dk ck R in
    let same : length ws ≡ m = eq_of_mul-eq-mul_right (suc k) (omega arith) (length ws) m (mul_comm (length ws) (suc k) ∙ sym n ∙ len ∙ mul_comm (suc k) m) in
    subst (λ j. GoesOn (from r ps) j e u) same (subst (λ zs. GoesOn zs (length ws) e u) (sym are) (copies_go_on k e u ws))

-- ---- and back: the pieces that are left
-- a list of two copies or more begins with one copy and the next one's first piece
two_copies : (m : ℕ) (e u : ℚ) (q : Piece) (vs : List Piece) → copies (suc (suc m)) e u (q ∷ vs) ≡ q ∷ (vs ++ later e u q ∷ each_later e u (more_copies m e u q vs))
two_copies m e u q vs = copies_some (suc m) e u q vs ∙ ap (λ zs. q ∷ zs) (next_copies m e u q vs)

-- pieces before the rank, then a period of copies
divided_parts : (es : List Piece) (q : Piece) (qs vs : List Piece) (m first : ℕ) (d c e u : ℚ) → IsCycle (es ++ q ∷ qs) q.x d → Each (λ z. z.x <ℚ q.x) es → int (pos 0) <ℚ e
    → d ≡ int (pos (suc (suc m))) *ℚ e → c ≡ int (pos (suc (suc m))) *ℚ u → q ∷ qs ≡ copies (suc (suc m)) e u (q ∷ vs) → first ≡ length es
    → Turned (es ++ q ∷ vs) first q.x e u (repeated (read (es ++ q ∷ qs)) q.x d c)
divided_parts es q qs vs m first d c e u C early some dk ck are count =
    let x = q.x in
    let s = later e u q in
    let more = each_later e u (more_copies m e u q vs) in
    let shape : qs ≡ vs ++ s ∷ more = tails_same q q qs (vs ++ s ∷ more) (are ∙ two_copies m e u q vs) in
    let zero2 : StartsAtZero (es ++ q ∷ (vs ++ s ∷ more)) = subst (λ zs. StartsAtZero (es ++ q ∷ zs)) shape C.starts in
    let none2 : NoMerge (es ++ q ∷ (vs ++ s ∷ more)) = subst (λ zs. NoMerge (es ++ q ∷ zs)) shape C.none in
    let rise2 = (rises_split _ es q (vs ++ s ∷ more) (low_start (es ++ q ∷ (vs ++ s ∷ more)) zero2)).2 in
    let vs_in : Each (λ z. z.x <ℚ x +ℚ e) vs = (rises_split x vs s more rise2).0 in
    let begin : x <ℚ x +ℚ e = with2 x e (λ c. omega (arith, c.le, c.lt, c.same)) in
    let es_in : Each (λ z. z.x <ℚ x +ℚ e) es = each_map (λ z. z.x <ℚ x) (λ z. z.x <ℚ x +ℚ e) (λ z h. let y = z.x in with3 y x e (λ c. omega (arith, c.le, c.lt, c.same))) es early in
    let zero3 = zero_front es q vs (s ∷ more) zero2 in
    let inside3 = each_append (λ z. z.x <ℚ x +ℚ e) es (q ∷ vs) es_in (begin, vs_in) in
    let end : x +ℚ d ≡ x +ℚ int (pos (suc (suc m))) *ℚ e = ap (λ y. x +ℚ y) dk in
    let f = repeated (read (es ++ q ∷ qs)) x d c in
    let g = repeated (read (es ++ q ∷ vs)) x e u in
    let G : Repeats g x d c =
    subst (λ z. Repeats g x z c) (sym dk) (subst (λ z. Repeats g x (int (pos (suc (suc m))) *ℚ e) z) (sym ck)
    (repeats_times g x e u (suc (suc m)) (le_of_lt some) (repeated_rule (read (es ++ q ∷ vs)) x e u some))) in
    let all : upto (x +ℚ d) (es ++ copies (suc (suc m)) e u (q ∷ vs)) ≡ es ++ q ∷ qs = ap (λ zs. upto (x +ℚ d) (es ++ zs)) (sym are) ∙ upto_all (x +ℚ d) (es ++ q ∷ qs) C.inside in
    let first_period = λ (t : ℚ) (h : int (pos 0) ≤ℚ t) (l : t <ℚ x +ℚ d).
    sym (ap (λ zs. read zs t) (sym all) ∙ parts_read es q vs (suc m) e u (x +ℚ d) t zero3 some early inside3 h l (subst (λ y. t <ℚ y) end l))
    ∙ sym (repeated_first (read (es ++ q ∷ qs)) x d c t C.some l) in
    record {
      cycle = record {
        starts = zero3;
        none = no_merge_front es q vs (s ∷ more) none2;
        has = has_mid es q vs;
        nonneg = C.nonneg;
        some = some;
        inside = inside3;
      };
      break = λ p rest is.
          let e2 : p ∷ rest ≡ q ∷ vs = sym is ∙ from_mid x es q vs early (le_refl x) in
          let B = none_between q vs s more (none_right es q (vs ++ s ∷ more) none2) in
          λ continues_there. B (subst (λ z. Continues z (later e u q)) (ap₂ last_of (heads_same p q rest vs e2) (tails_same p q rest vs e2))
          (subst (λ z. Continues (last_of p rest) (later e u z)) (heads_same p q rest vs e2) continues_there));
      first_is = count ∙ ap length (sym (upto_mid x es q vs early (le_refl x)));
      same = agree g f x d c C.some G (repeated_rule (read (es ++ q ∷ qs)) x d c C.some) first_period C.nonneg;
    }

-- the same of a list that is cut at the rank
pub cut_turned : (ps : List Piece) (r d c e u : ℚ) (m k first : ℕ) → IsCycle ps r d → EndsInBreak ps r d c → int (pos 0) <ℚ e → d ≡ int (pos (suc (suc m))) *ℚ e → c ≡ int (pos (suc (suc m))) *ℚ u
    → length (from r ps) ≡ suc (suc m) * k → GoesOn (from r ps) k e u → first ≡ length (upto r ps)
    → Turned (take (first + k) ps) first r e u (repeated (read ps) r d c) × (length (from r (take (first + k) ps)) ≡ k)
cut_turned ps r d c e u m k first C E some dk ck len G count = by_count k len (from_go_on (suc (suc m)) k e u (from r ps) len G)
  where
    K : Cut r ps
    K = cut_of ps r d C

    by_count : (k : ℕ) → length (from r ps) ≡ suc (suc m) * k → from r ps ≡ copies (suc (suc m)) e u (take k (from r ps))
        → Turned (take (first + k) ps) first r e u (repeated (read ps) r d c) × (length (from r (take (first + k) ps)) ≡ k)
    by_count zero len are = absurd (some_left K.first K.rest (ap length (sym K.from_is) ∙ len))
      where
        some_left : (q : Piece) (qs : List Piece) → length (q ∷ qs) ≡ suc (suc m) * 0 → ⊥
        some_left q qs e = omega arith
    by_count (suc j) len are =
        let q = K.first in
        let qs = K.rest in
        let es = K.before in
        let vs = take j qs in
        let early : Each (λ z. z.x <ℚ q.x) es = subst (λ x. Each (λ z. z.x <ℚ x) es) (sym K.at) K.early in
        let cycle_there : IsCycle (es ++ q ∷ qs) q.x d = subst (λ zs. IsCycle zs q.x d) K.whole (subst (λ x. IsCycle ps x d) (sym K.at) C) in
        let are2 : q ∷ qs ≡ copies (suc (suc m)) e u (q ∷ vs) = sym K.from_is ∙ are ∙ ap (λ zs. copies (suc (suc m)) e u (take (suc j) zs)) K.from_is in
        let count2 : first ≡ length es = count ∙ ap length K.upto_is in
        let D = divided_parts es q qs vs m first d c e u cycle_there early some dk ck are2 count2 in
        let shape : take (first + suc j) ps ≡ es ++ q ∷ vs = ap₂ (λ (n : ℕ) (zs : List Piece). take (n + suc j) zs) count2 K.whole ∙ take-append-add es (q ∷ qs) (suc j) in
        let size : length vs ≡ j = length-take-le j qs (omega (arith, len, ap length K.from_is, fits qs (ap length (sym K.from_is) ∙ len))) in (
          subst (λ new. Turned new first r e u (repeated (read ps) r d c)) (sym shape)
              (subst (λ zs. Turned (es ++ q ∷ vs) first r e u (repeated (read zs) r d c)) (sym K.whole)
              (subst (λ x. Turned (es ++ q ∷ vs) first x e u (repeated (read (es ++ q ∷ qs)) x d c)) K.at D)),
          ap (λ zs. length (from r zs)) shape ∙ ap length (from_mid r es q vs K.early (subst (λ x. r ≤ℚ x) (sym K.at) (le_refl r))) ∙ ap suc size,
        )
      where
        fits : (qs : List Piece) → length (K.first ∷ qs) ≡ suc (suc m) * suc j → j ≤ length qs
        fits qs e = omega (arith, e)
