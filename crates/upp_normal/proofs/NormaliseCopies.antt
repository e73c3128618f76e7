-- A period of the pieces is made of copies exactly where a fraction of it is a period.
use Rattle.std.specs.Prelude.{◌≡◌, ℕ, zero, suc, ◌+◌, ◌-◌, ◌*◌, ◌≤◌, pos, List, [], ◌∷◌, ◌++◌, length, map}
use Rattle.std.proofs.Common.{arith, sym, ap, ap₂, ◌∙◌, refl, subst, take, drop, append_assoc, append-nil}
use Rattle.std.proofs.lemmas.List.{take-append-drop, take_at, drop_at, length-append, length-take-le, take-take, drop-take, take_all, take-map, length-map, map-append}
use Rattle.rational.specs.Rational.{ℚ, ◌+ℚ◌, ◌-ℚ◌, ◌*ℚ◌, ◌≤ℚ◌, ◌<ℚ◌, int}
use Rattle.rational.proofs.Laws.{le_of_lt, add_assoc, add_comm, mul_nonneg}
use Rattle.rational.proofs.Linear.{with1, with2, with3, with4, with5}
use Rattle.rational.proofs.Whole.{one_more_times, nat_nonneg}
use Rattle.rational.proofs.ExtendedOrder.{add_assoc_ext}
use Rattle.rational.specs.Extended.{Ext, ◌+ₑ◌}
use Rattle.rational.specs.declared.Extended.TheVariants.{Fin}
use Rattle.upp_curve.specs.declared.affine_segment.line.Piece.{Piece}
use Rattle.upp_curve.specs.affine_segment.Values.{line_value}
use Rattle.upp_curve.specs.affine_segment.Reading.{read}
use Rattle.upp_curve.specs.Curve.{repeated}
use Rattle.upp_curve.specs.Steady.{Repeats, last_of}
use Rattle.upp_curve.specs.Unrolled.{line_later, later, each_later, copies, upto}
use Rattle.upp_curve.specs.affine_segment.Pieces.{RisesFrom, Each}
use Rattle.upp_curve.specs.Normal.{Continues, NoneContinues}
use Rattle.upp_normal.specs.Normalising.{GoesOn}
use Rattle.upp_curve.proofs.Repeats.{repeated_first, repeated_rule, repeats_times}
use Rattle.upp_curve.proofs.Steady.{read_past}
use Rattle.upp_curve.proofs.Unique.{Reads, same_lists, upto_some}
use Rattle.upp_curve.proofs.Normal.{upto_all}
use Rattle.upp_normal.proofs.UnrolledValues.{copies_read, copies_some, line_value_later, copies_none}
use Rattle.upp_normal.proofs.Below.{read_upto}
use Rattle.upp_normal.proofs.NormaliseLoops.{later_none, later_some}
use Rattle.upp_curve.proofs.affine_segment.PieceOrder.{each_map, each_append, rises_append}
use Rattle.upp_normal.proofs.NormaliseLists.{each_moved, rises_upto, rises_moved, last_in, last_is_last, none_upto, none_append, none_moved, line_later_twice}
use Rattle.upp_normal.proofs.NormalisePeriods.{agree_from}
use Rattle.upp_normal.proofs.NormaliseBreaks.{lines_apart, reads_last}
use Rattle.upp_curve.proofs.affine_segment.PieceIn.{read_is}
use Rattle.upp_limits.proofs.PieceCounts.{copies_next, upto_early}

-- ---- moved pieces
pub later_twice : (a b c e : ℚ) (p : Piece) → later b e (later a c p) ≡ later (a +ℚ b) (c +ℚ e) p
later_twice a b c e p =
    ap (λ x. let z : Piece = record { x = x; at = p.at +ₑ Fin c +ₑ Fin e; line = line_later b e (line_later a c p.line) } in z) (add_assoc p.x a b)
    ∙ ap (λ v. let z : Piece = record { x = p.x +ℚ (a +ℚ b); at = v; line = line_later b e (line_later a c p.line) } in z) (add_assoc_ext p.at c e)
    ∙ ap (λ l. let z : Piece = record { x = p.x +ℚ (a +ℚ b); at = p.at +ₑ Fin (c +ℚ e); line = l } in z) (line_later_twice a b c e p.line)

continues_moved : (d c : ℚ) (p q : Piece) → Continues p q → Continues (later d c p) (later d c q)
continues_moved d c p q C =
    let x = q.x in
    let same : (x +ℚ d) -ℚ d ≡ x = with2 x d (λ c. omega (arith, c.le, c.lt, c.same)) in (
      ap (λ v. v +ₑ Fin c) C.0 ∙ sym (line_value_later p.line d c (x +ℚ d) ∙ ap (λ z. line_value p.line z +ₑ Fin c) same),
      ap (line_later d c) C.1,
    )

-- ---- a list of copies
-- the copies after the first piece
abbrev pub more_copies : ℕ → ℚ → ℚ → Piece → List Piece → List Piece
more_copies k e u q qs = qs ++ each_later e u (copies k e u (q ∷ qs))

pub record Copied (k : ℕ) (e u : ℚ) (q : Piece) (qs : List Piece) : Type 0 where
  pub rises : RisesFrom q.x (more_copies k e u q qs)
  pub none : NoneContinues q (more_copies k e u q qs)
  pub inside : Each (λ z. z.x <ℚ q.x +ℚ int (pos (suc k)) *ℚ e) (more_copies k e u q qs)

no_copies : (e u : ℚ) (q : Piece) (qs : List Piece) → more_copies zero e u q qs ≡ qs
unfolding copies
no_copies e u q qs = ap (λ zs. qs ++ zs) (later_none e u) ∙ append-nil qs

pub next_copies : (k : ℕ) (e u : ℚ) (q : Piece) (qs : List Piece) → more_copies (suc k) e u q qs ≡ qs ++ later e u q ∷ each_later e u (more_copies k e u q qs)
next_copies k e u q qs = ap (λ zs. qs ++ zs) (ap (each_later e u) (copies_some k e u q qs) ∙ later_some e u q (more_copies k e u q qs))

pub copied : (k : ℕ) (e u : ℚ) (q : Piece) (qs : List Piece) → int (pos 0) <ℚ e → RisesFrom q.x qs → NoneContinues q qs → Each (λ z. z.x <ℚ q.x +ℚ e) qs
    → ¬ (Continues (last_of q qs) (later e u q)) → Copied k e u q qs
copied zero e u q qs some rise none inside break =
    let o = one_more_times 0 e in
    let x = q.x in
    let z : int (pos 0) *ℚ e ≡ int (pos 0) = with1 e (λ c. omega (arith, c.le, c.lt, c.same)) in
    let end : x +ℚ e ≡ x +ℚ int (pos 1) *ℚ e = with4 x e (int (pos 0) *ℚ e) (int (pos 1) *ℚ e) (λ c. omega (arith, c.le, c.lt, c.same)) in
    record {
      rises = subst (RisesFrom q.x) (sym (no_copies e u q qs)) rise;
      none = subst (NoneContinues q) (sym (no_copies e u q qs)) none;
      inside = subst (Each (λ z. z.x <ℚ q.x +ℚ int (pos 1) *ℚ e)) (sym (no_copies e u q qs)) (subst (λ y. Each (λ z. z.x <ℚ y) qs) end inside);
    }
copied (suc k) e u q qs some rise none inside break =
    let K = copied k e u q qs some rise none inside break in
    let more = more_copies k e u q qs in
    let x = q.x in
    let n = int (pos (suc k)) *ℚ e in
    let o = one_more_times (suc k) e in
    let one_before = one_more_times k e in
    let m = int (pos k) *ℚ e in
    let m_some : int (pos 0) ≤ℚ m = mul_nonneg (nat_nonneg k) (le_of_lt some) in
    let next = int (pos (suc (suc k))) *ℚ e in
    let end : (x +ℚ n) +ℚ e ≡ x +ℚ next = with4 x e n next (λ c. omega (arith, c.le, c.lt, c.same)) in
    let far : x +ℚ e <ℚ x +ℚ next = with5 x e m n next (λ c. omega (arith, c.le, c.lt, c.same)) in
    let shape = sym (next_copies k e u q qs) in
    record {
      rises = subst (RisesFrom q.x) shape (rises_append q.x qs (later e u q) (each_later e u more) rise (with2 x e (λ c. omega (arith, c.le, c.lt, c.same))) inside (rises_moved e u q.x more K.rises));
      none = subst (NoneContinues q) shape (none_append q qs (later e u q) (each_later e u more) none break (none_moved e u q more K.none));
      inside =
          subst (Each (λ z. z.x <ℚ x +ℚ next)) shape
          (each_append (λ z. z.x <ℚ x +ℚ next) qs (later e u q ∷ each_later e u more) (each_map (λ z. z.x <ℚ x +ℚ e) (λ z. z.x <ℚ x +ℚ next) (λ z h. let y = z.x in with3 y (x +ℚ e) (x +ℚ next) (λ c. omega (arith, c.le, c.lt, c.same))) qs inside)
          (far, subst (λ y. Each (λ z. z.x <ℚ y) (each_later e u more)) end (each_moved (x +ℚ n) e u more K.inside)));
    }

-- ---- where a fraction of the period is a period, the pieces are copies
-- a period of f from q on, whose pieces are q and qs, and which ends in a break
pub record Period (f : ℚ → Ext) (d c : ℚ) (q : Piece) (qs : List Piece) : Type 0 where
  pub rises : RisesFrom q.x qs
  pub none : NoneContinues q qs
  pub inside : Each (λ z. z.x <ℚ q.x +ℚ d) qs
  pub break : ¬ (Continues (last_of q qs) (later d c q))
  pub reads : (t : ℚ) → q.x ≤ℚ t → t <ℚ q.x +ℚ d → read (q ∷ qs) t ≡ f t

-- the part before the end of the first fraction ends in a break too
part_break : (f : ℚ → Ext) (k : ℕ) (e u d c : ℚ) (q : Piece) (qs : List Piece) → int (pos 0) <ℚ e → d ≡ int (pos (suc k)) *ℚ e → c ≡ int (pos (suc k)) *ℚ u → Period f d c q qs → Repeats f q.x e u
    → ¬ (Continues (last_of q (upto (q.x +ℚ e) qs)) (later e u q))
part_break f k e u d c q qs some dk ck P R C =
    let x = q.x in
    let s = int (pos k) *ℚ e in
    let v = int (pos k) *ℚ u in
    let X = x +ℚ e in
    let ds : d ≡ e +ℚ s = dk ∙ one_more_times k e ∙ add_comm s e in
    let cs : c ≡ u +ℚ v = ck ∙ one_more_times k u ∙ add_comm v u in
    let s_some : int (pos 0) ≤ℚ s = mul_nonneg (nat_nonneg k) (le_of_lt some) in
    let begin : x <ℚ X = with2 x e (λ c. omega (arith, c.le, c.lt, c.same)) in
    let early_last = last_of q (upto X qs) in
    let w = last_of q qs in
    let y = w.x in
    let early_last_in : early_last.x <ℚ X = last_in (λ z. z.x <ℚ X) q (upto X qs) begin (upto_early X qs) in
    let w_in : y <ℚ x +ℚ d = last_in (λ z. z.x <ℚ x +ℚ d) q qs (with4 x d e s (λ c. omega (arith, c.le, c.lt, c.same))) P.inside in
    let back : y -ℚ s <ℚ X = with5 y x d e s (λ c. omega (arith, c.le, c.lt, c.same)) in
    let K = repeats_times f x e u k (le_of_lt some) R in
    let here = λ (t : ℚ) (a : x ≤ℚ t) (b : early_last.x <ℚ t) (h : t <ℚ X).
    sym (P.reads t a (with5 t x d e s (λ c. omega (arith, c.le, c.lt, c.same)))) ∙ reads_last q qs X t P.rises begin b h in
    let there = λ (t : ℚ) (a : x ≤ℚ t) (b : y -ℚ s <ℚ t) (h : t <ℚ X).
    let late : y <ℚ t +ℚ s = with3 y t s (λ c. omega (arith, c.le, c.lt, c.same)) in
    sym (P.reads (t +ℚ s) (with3 x t s (λ c. omega (arith, c.le, c.lt, c.same))) (with5 t x d e s (λ c. omega (arith, c.le, c.lt, c.same))))
    ∙ read_past (q ∷ qs) y (t +ℚ s) (last_is_last q qs P.rises) late in
    let line : w.line ≡ line_later s v early_last.line = lines_apart f early_last.line w.line early_last.x (y -ℚ s) x X s v early_last_in back begin K here there in
    let D : Continues (later s v early_last) (later s v (later e u q)) = continues_moved s v early_last (later e u q) C in
    let same : later s v (later e u q) ≡ later d c q = later_twice e s u v q ∙ ap₂ (λ (a b : ℚ). later a b q) (sym ds) (sym cs) in
    let continues_there : Continues (later s v early_last) (later d c q) = subst (λ z. Continues (later s v early_last) z) same D in
    P.break (subst (λ l. ((later d c q).at ≡ line_value l (later d c q).x) × ((later d c q).line ≡ l)) (sym line) continues_there)

pub are_copies : (f : ℚ → Ext) (k : ℕ) (e u d c : ℚ) (q : Piece) (qs : List Piece) → int (pos 0) <ℚ e → d ≡ int (pos (suc k)) *ℚ e → c ≡ int (pos (suc k)) *ℚ u → Period f d c q qs → Repeats f q.x e u
    → q ∷ qs ≡ copies (suc k) e u (upto (q.x +ℚ e) (q ∷ qs))
are_copies f k e u d c q qs some dk ck P R =
    let x = q.x in
    let X = x +ℚ e in
    let s = int (pos k) *ℚ e in
    let ds : d ≡ e +ℚ s = dk ∙ one_more_times k e ∙ add_comm s e in
    let s_some : int (pos 0) ≤ℚ s = mul_nonneg (nat_nonneg k) (le_of_lt some) in
    let begin : x <ℚ X = with2 x e (λ c. omega (arith, c.le, c.lt, c.same)) in
    let vs = upto X qs in
    let more = more_copies k e u q vs in
    let rise = rises_upto x X qs P.rises in
    let inside = upto_early X qs in
    let K : Copied k e u q vs = copied k e u q vs some rise (none_upto X q qs P.none) inside (part_break f k e u d c q qs some dk ck P R) in
    let part = λ (t : ℚ) (a : x ≤ℚ t) (b : t <ℚ X).
    ap (λ zs. read zs t) (sym (upto_some X q qs begin)) ∙ read_upto X q qs t b begin ∙ P.reads t a (with5 t x d e s (λ c. omega (arith, c.le, c.lt, c.same))) in
    let whole = agree_from (repeated (read (q ∷ vs)) x e u) f x e u some (repeated_rule (read (q ∷ vs)) x e u some) R (λ t a b. repeated_first (read (q ∷ vs)) x e u t some b ∙ part t a b) in
    let A : Reads f (x +ℚ d) q qs = record { rises = P.rises; none = P.none; is = λ t a b. sym (read_is q qs t) ∙ P.reads t a b } in
    let B : Reads f (x +ℚ d) q more = record {
      rises = K.rises;
      none = K.none;
      is = λ t a b.
          sym (read_is q more t) ∙ ap (λ zs. read zs t) (sym (copies_some k e u q vs))
          ∙ copies_read k q vs e u t some inside a (subst (λ z. t <ℚ x +ℚ z) dk b) ∙ whole t a;
    } in
    let ends : x <ℚ x +ℚ d = with4 x d e s (λ c. omega (arith, c.le, c.lt, c.same)) in
    let all : Each (λ z. z.x <ℚ x +ℚ d) more = subst (λ y. Each (λ z. z.x <ℚ x +ℚ y) more) (sym dk) K.inside in
    sym (upto_all (x +ℚ d) (q ∷ qs) (ends, P.inside)) ∙ same_lists f (x +ℚ d) q qs q more A B refl ∙ upto_all (x +ℚ d) (q ∷ more) (ends, all)
    ∙ sym (copies_some k e u q vs) ∙ ap (copies (suc k) e u) (sym (upto_some X q qs begin))

-- ---- copies, by their numbers
pub each_later_map : (d c : ℚ) (ps : List Piece) → each_later d c ps ≡ map (later d c) ps
each_later_map d c [] = later_none d c
each_later_map d c (p ∷ ps) = later_some d c p ps ∙ ap (λ zs. later d c p ∷ zs) (each_later_map d c ps)

pub length-moved : (d c : ℚ) (ps : List Piece) → length (each_later d c ps) ≡ length ps
length-moved d c ps = ap length (each_later_map d c ps) ∙ length-map ps (later d c)

take-moved : (n : ℕ) (d c : ℚ) (ps : List Piece) → take n (each_later d c ps) ≡ each_later d c (take n ps)
take-moved n d c ps = ap (take n) (each_later_map d c ps) ∙ take-map (later d c) n ps ∙ sym (each_later_map d c (take n ps))

pub moved-append : (d c : ℚ) (ps qs : List Piece) → each_later d c (ps ++ qs) ≡ each_later d c ps ++ each_later d c qs
moved-append d c ps qs = each_later_map d c (ps ++ qs) ∙ map-append (later d c) ps qs ∙ sym (ap₂ (λ (xs ys : List Piece). xs ++ ys) (each_later_map d c ps) (each_later_map d c qs))

pub length-copies : (n : ℕ) (e u : ℚ) (ps : List Piece) → length (copies n e u ps) ≡ n * length ps
length-copies zero e u ps = ap length (copies_none e u ps) ∙ none (length ps)
  where
    none : (k : ℕ) → 0 ≡ 0 * k
    none k = omega arith
length-copies (suc n) e u ps =
    let i = length-copies n e u ps in
    omega (arith, i, ap length (copies_next n e u ps), length-append ps (each_later e u (copies n e u ps)), length-moved e u (copies n e u ps))

-- one more copy is at the end
copies_end : (n : ℕ) (e u : ℚ) (ps : List Piece) → (last : List Piece) × (copies (suc n) e u ps ≡ copies n e u ps ++ last)
copies_end zero e u ps = (copies 1 e u ps, sym (ap (λ zs. zs ++ copies 1 e u ps) (copies_none e u ps)))
copies_end (suc n) e u ps =
    let (last, is) = copies_end n e u ps in (
      each_later e u last,
      copies_next (suc n) e u ps ∙ ap (λ zs. ps ++ each_later e u zs) is ∙ ap (λ zs. ps ++ zs) (moved-append e u (copies n e u ps) last)
          ∙ sym (append_assoc ps (each_later e u (copies n e u ps)) (each_later e u last)) ∙ ap (λ zs. zs ++ each_later e u last) (sym (copies_next n e u ps)),
    )

pub copies_go_on : (n : ℕ) (e u : ℚ) (ps : List Piece) → GoesOn (copies (suc n) e u ps) (length ps) e u
copies_go_on n e u ps =
    let all = copies (suc n) e u ps in
    let k = length ps in
    let (last, is) = copies_end n e u ps in
    ap (drop k) (copies_next n e u ps) ∙ drop_at ps (each_later e u (copies n e u ps)) k refl
    ∙ ap (each_later e u) (sym (ap (take (length all - k)) is ∙ take_at (copies n e u ps) last (length all - k) (by_length k (length-copies n e u ps) (length-copies (suc n) e u ps))))
  where
    by_length : (k : ℕ) → length (copies n e u ps) ≡ n * k → length (copies (suc n) e u ps) ≡ suc n * k → length (copies n e u ps) ≡ length (copies (suc n) e u ps) - k
    by_length k a b = omega (arith, a, b)

-- and back
pub from_go_on : (n k : ℕ) (e u : ℚ) (ps : List Piece) → length ps ≡ n * k → GoesOn ps k e u → ps ≡ copies n e u (take k ps)
from_go_on zero k e u ps len G = nothing ps len ∙ sym (copies_none e u (take k ps))
  where
    nothing : (ps : List Piece) → length ps ≡ 0 * k → ps ≡ []
    nothing [] e = refl
    nothing (p ∷ ps) e = absurd (omega arith)
from_go_on (suc zero) k e u ps len G =
    let all : take k ps ≡ ps = take_all k ps (omega (arith, len)) in
    sym (copies_next zero e u (take k ps) ∙ ap (λ zs. take k ps ++ each_later e u zs) (copies_none e u (take k ps)) ∙ ap (λ zs. take k ps ++ zs) (later_none e u) ∙ append-nil (take k ps) ∙ all)
from_go_on (suc (suc n)) k e u ps len G =
    let m = suc n * k in
    let rest = take m ps in
    let size : length ps - k ≡ m = omega (arith, len) in
    let front : m ≤ length ps = omega (arith, len) in
    let less : k ≤ m = omega arith in
    let rest_length : length rest ≡ m = length-take-le m ps front in
    let back : drop k ps ≡ each_later e u rest = G ∙ ap (λ i. each_later e u (take i ps)) size in
    let n_k : k + n * k ≡ m = omega arith in
    let left : length rest - k ≡ n * k = omega (arith, rest_length) in
    let inner : GoesOn rest k e u =
    ap (λ i. drop k (take i ps)) (sym n_k) ∙ drop-take k (n * k) ps ∙ ap (take (n * k)) back ∙ take-moved (n * k) e u rest ∙ ap (λ i. each_later e u (take i rest)) (sym left) in
    let shape : ps ≡ take k ps ++ each_later e u rest = sym (take-append-drop k ps) ∙ ap (λ zs. take k ps ++ zs) back in
    shape ∙ ap (λ zs. take k ps ++ each_later e u zs) (from_go_on (suc n) k e u rest rest_length inner ∙ ap (copies (suc n) e u) (take-take k m ps less)) ∙ sym (copies_next (suc n) e u (take k ps))
