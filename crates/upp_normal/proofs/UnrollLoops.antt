-- Lists of copies, made one after another: what is kept so far, and when there is nothing more before the end.
use Rattle.std.specs.Prelude.{◌≡◌, ℕ, zero, suc, ◌+◌, ◌-◌, ◌<◌, ◌^◌, pos, List, [], ◌∷◌, ◌++◌}
use Rattle.std.proofs.Common.{arith, sym, ap, ap₂, ◌∙◌, refl, subst, inl, inr, append-nil, append_assoc}
use Rattle.std.proofs.lemmas.Bool.{cases_lt}
use Rattle.rational.specs.Rational.{ℚ, ◌+ℚ◌, ◌-ℚ◌, ◌*ℚ◌, ◌/ℚ◌, ◌≤ℚ◌, ◌<ℚ◌, int}
use Rattle.rational.specs.Gauge.{cap}
use Rattle.rational.specs.Whole.{periods}
use Rattle.rational.proofs.Laws.{le_or_lt, le_of_lt, le_trans, lt_le_trans, lt_trans, mul_nonneg}
use Rattle.rational.proofs.Integers.{nat_nonneg}
use Rattle.rational.proofs.Linear.{with3, with4, with5}
use Rattle.rational.proofs.Whole.{one_more_times, periods_high}
use Rattle.upp_curve.specs.declared.affine_segment.line.Piece.{Piece}
use Rattle.upp_curve.specs.affine_segment.Pieces.{Each}
use Rattle.upp_curve.specs.Unrolled.{copies, each_later, later, upto}
use Rattle.min_plus.specs.WholeUp.{whole_up}
use Rattle.upp_curve.proofs.Normal.{upto_all}
use Rattle.upp_normal.proofs.NormaliseCopies.{later_twice, moved-append}
use Rattle.upp_curve.proofs.affine_segment.PieceOrder.{each_append, each_map}
use Rattle.upp_normal.proofs.NormaliseLists.{each_moved}
use Rattle.upp_normal.proofs.NormaliseLoops.{later_none, later_some}
use Rattle.upp_limits.proofs.Rounding.{before_count}
use Rattle.upp_curve.proofs.Unique.{upto_end, upto_none, upto_some}
use Rattle.upp_normal.proofs.UnrolledPieces.{no_later}
use Rattle.upp_limits.proofs.PieceCounts.{copies_next}
use Rattle.upp_normal.proofs.UnrolledValues.{copies_none}

-- ---- what starts before a time, of two lists one after another
pub upto_joined : (x : ℚ) (ps qs : List Piece) → Each (λ p. p.x <ℚ x) ps → upto x (ps ++ qs) ≡ ps ++ upto x qs
upto_joined x [] qs h = refl
upto_joined x (p ∷ ps) qs h = upto_some x p (ps ++ qs) h.0 ∙ ap (λ zs. p ∷ zs) (upto_joined x ps qs h.1)

-- what starts at x or later adds nothing
pub upto_extra : (x : ℚ) (ps qs : List Piece) → Each (λ p. x ≤ℚ p.x) qs → upto x (ps ++ qs) ≡ upto x ps
upto_extra x [] [] h = refl
upto_extra x [] (q ∷ qs) h = upto_none x q qs h.0 ∙ sym (upto_end x)
upto_extra x (p ∷ ps) qs h = elim (le_or_lt x p.x) [
  | inl l ↦ upto_none x p (ps ++ qs) l ∙ sym (upto_none x p ps l)
  | inr l ↦ upto_some x p (ps ++ qs) l ∙ ap (λ zs. p ∷ zs) (upto_extra x ps qs h) ∙ sym (upto_some x p ps l)
]

-- ---- one more copy, at the end
moved_next : (n : ℕ) (d c : ℚ) (ps : List Piece)
    → each_later d c (each_later (int (pos n) *ℚ d) (int (pos n) *ℚ c) ps) ≡ each_later (int (pos (suc n)) *ℚ d) (int (pos (suc n)) *ℚ c) ps
moved_next n d c [] =
    ap (each_later d c) (later_none (int (pos n) *ℚ d) (int (pos n) *ℚ c)) ∙ later_none d c ∙ sym (later_none (int (pos (suc n)) *ℚ d) (int (pos (suc n)) *ℚ c))
moved_next n d c (p ∷ ps) =
    let x = int (pos n) *ℚ d in
    let y = int (pos n) *ℚ c in
    ap (each_later d c) (later_some x y p ps) ∙ later_some d c (later x y p) (each_later x y ps)
    ∙ ap₂ (λ (q : Piece) (qs : List Piece). q ∷ qs)
    (later_twice x d y c p ∙ ap₂ (λ (a b : ℚ). later a b p) (sym (one_more_times n d)) (sym (one_more_times n c))) (moved_next n d c ps)
    ∙ sym (later_some (int (pos (suc n)) *ℚ d) (int (pos (suc n)) *ℚ c) p ps)

not_moved : (d c : ℚ) (ps : List Piece) → each_later (int (pos 0) *ℚ d) (int (pos 0) *ℚ c) ps ≡ ps
not_moved d c [] = later_none (int (pos 0) *ℚ d) (int (pos 0) *ℚ c)
not_moved d c (p ∷ ps) =
    later_some (int (pos 0) *ℚ d) (int (pos 0) *ℚ c) p ps ∙ ap₂ (λ (q : Piece) (qs : List Piece). q ∷ qs) (no_later d c p) (not_moved d c ps)

pub copies_more : (n : ℕ) (d c : ℚ) (ps : List Piece) → copies (suc n) d c ps ≡ copies n d c ps ++ each_later (int (pos n) *ℚ d) (int (pos n) *ℚ c) ps
copies_more zero d c ps =
    copies_next 0 d c ps ∙ ap (λ zs. ps ++ each_later d c zs) (copies_none d c ps) ∙ ap (λ zs. ps ++ zs) (later_none d c) ∙ append-nil ps
    ∙ sym (ap₂ (λ (xs ys : List Piece). xs ++ ys) (copies_none d c ps) (not_moved d c ps))
copies_more (suc n) d c ps =
    let last = each_later (int (pos n) *ℚ d) (int (pos n) *ℚ c) ps in
    copies_next (suc n) d c ps ∙ ap (λ zs. ps ++ each_later d c zs) (copies_more n d c ps)
    ∙ ap (λ zs. ps ++ zs) (moved-append d c (copies n d c ps) last)
    ∙ sym (append_assoc ps (each_later d c (copies n d c ps)) (each_later d c last))
    ∙ ap₂ (λ (xs ys : List Piece). xs ++ ys) (sym (copies_next n d c ps)) (moved_next n d c ps)

-- n copies of the pieces of [rank, rank + d) start before rank + n d
pub copies_before : (n : ℕ) (rank d c : ℚ) (ps : List Piece) → int (pos 0) <ℚ d → Each (λ z. z.x <ℚ rank +ℚ d) ps
    → Each (λ z. z.x <ℚ rank +ℚ int (pos n) *ℚ d) (copies n d c ps)
copies_before zero rank d c ps some h = subst (Each (λ z. z.x <ℚ rank +ℚ int (pos 0) *ℚ d)) (sym (copies_none d c ps)) tt
copies_before (suc n) rank d c ps some h =
    let one = one_more_times n d in
    let nonneg : int (pos 0) ≤ℚ int (pos n) *ℚ d = mul_nonneg (nat_nonneg n) (le_of_lt some) in
    let far = rank +ℚ int (pos (suc n)) *ℚ d in
    let early : rank +ℚ d ≤ℚ far = with4 rank d (int (pos n) *ℚ d) (int (pos (suc n)) *ℚ d) (λ c. omega (arith, c.le, c.lt, c.same)) in
    let same : (rank +ℚ int (pos n) *ℚ d) +ℚ d ≡ far = with4 rank d (int (pos n) *ℚ d) (int (pos (suc n)) *ℚ d) (λ c. omega (arith, c.le, c.lt, c.same)) in
    subst (Each (λ z. z.x <ℚ far)) (sym (copies_next n d c ps))
    (each_append (λ z. z.x <ℚ far) ps (each_later d c (copies n d c ps))
    (each_map (λ z. z.x <ℚ rank +ℚ d) (λ z. z.x <ℚ far) (λ z l. lt_le_trans l early) ps h)
    (subst (λ x. Each (λ z. z.x <ℚ x) (each_later d c (copies n d c ps))) same
    (each_moved (rank +ℚ int (pos n) *ℚ d) d c (copies n d c ps) (copies_before n rank d c ps some h))))

moved_late : (x d c : ℚ) (ps : List Piece) → Each (λ p. x ≤ℚ p.x) ps → Each (λ p. x +ℚ d ≤ℚ p.x) (each_later d c ps)
moved_late x d c [] h = subst (Each (λ p. x +ℚ d ≤ℚ p.x)) (sym (later_none d c)) tt
moved_late x d c (p ∷ ps) h =
    let y = p.x in
    let l = h.0 in
    subst (Each (λ p. x +ℚ d ≤ℚ p.x)) (sym (later_some d c p ps)) (with3 y x d (λ c. omega (arith, c.le, c.lt, c.same)), moved_late x d c ps h.1)

-- ---- enough copies are made
-- more copies add nothing where the last one reaches the end
past_enough : (j m : ℕ) (before ps : List Piece) (rank d c end : ℚ) → int (pos 0) <ℚ d → Each (λ p. rank ≤ℚ p.x) ps → end ≤ℚ rank +ℚ int (pos m) *ℚ d
    → end ≤ℚ rank +ℚ int (pos (j + m)) *ℚ d × (upto end (before ++ copies (j + m) d c ps) ≡ upto end (before ++ copies m d c ps))
past_enough zero m before ps rank d c end some late reach =
    let e : 0 + m ≡ m = omega arith in
    (subst (λ n. end ≤ℚ rank +ℚ int (pos n) *ℚ d) (sym e) reach, ap (λ n. upto end (before ++ copies n d c ps)) e)
past_enough (suc j) m before ps rank d c end some late reach =
    let (there, same) = past_enough j m before ps rank d c end some late reach in
    let n = j + m in
    let e : suc j + m ≡ suc n = omega arith in
    let one = one_more_times n d in
    let last = each_later (int (pos n) *ℚ d) (int (pos n) *ℚ c) ps in
    let far : Each (λ p. end ≤ℚ p.x) last =
    each_map (λ p. rank +ℚ int (pos n) *ℚ d ≤ℚ p.x) (λ p. end ≤ℚ p.x) (λ p l. le_trans there l) last (moved_late rank (int (pos n) *ℚ d) (int (pos n) *ℚ c) ps late) in
    let reach_next : end ≤ℚ rank +ℚ int (pos (suc n)) *ℚ d = with5 end rank d (int (pos n) *ℚ d) (int (pos (suc n)) *ℚ d) (λ c. omega (arith, c.le, c.lt, c.same)) in (
      subst (λ k. end ≤ℚ rank +ℚ int (pos k) *ℚ d) (sym e) reach_next,
      ap (λ k. upto end (before ++ copies k d c ps)) e ∙ ap (λ zs. upto end (before ++ zs)) (copies_more n d c ps)
          ∙ ap (upto end) (sym (append_assoc before (copies n d c ps) last)) ∙ upto_extra end (before ++ copies n d c ps) last far ∙ same,
    )

-- any two numbers of copies that reach the end
pub same_copies : (m n : ℕ) (before ps : List Piece) (rank d c end : ℚ) → int (pos 0) <ℚ d → Each (λ p. rank ≤ℚ p.x) ps → end ≤ℚ rank +ℚ int (pos m) *ℚ d
    → end ≤ℚ rank +ℚ int (pos n) *ℚ d → upto end (before ++ copies m d c ps) ≡ upto end (before ++ copies n d c ps)
same_copies m n before ps rank d c end some late reach_m reach_n = elim (cases_lt m n) [
  | inl l ↦
      let e : (n - m) + m ≡ n = omega arith in
      sym (subst (λ k. upto end (before ++ copies k d c ps) ≡ upto end (before ++ copies m d c ps)) e (past_enough (n - m) m before ps rank d c end some late reach_m).1)
  | inr l ↦
      let e : (m - n) + n ≡ m = omega arith in
      subst (λ k. upto end (before ++ copies k d c ps) ≡ upto end (before ++ copies n d c ps)) e (past_enough (m - n) n before ps rank d c end some late reach_n).1
]

-- as many as are counted before the end
pub counted_copies : (n : ℕ) (before ps : List Piece) (rank d c end : ℚ) → int (pos 0) <ℚ d → Each (λ p. rank ≤ℚ p.x) ps → end ≤ℚ rank +ℚ int (pos n) *ℚ d
    → upto end (before ++ copies n d c ps) ≡ upto end (before ++ copies (suc (periods rank d end)) d c ps)
counted_copies n before ps rank d c end some late reach =
    let k = periods rank d end in
    let high = periods_high rank d end some in
    let one = one_more_times k d in
    same_copies n (suc k) before ps rank d c end some late reach (with5 end rank d (int (pos k) *ℚ d) (int (pos (suc k)) *ℚ d) (λ c. omega (arith, c.le, c.lt, c.same)))

-- ---- the loop over copies
pub no_copies_yet : (end rank d c : ℚ) (kept before ps : List Piece) → kept ≡ upto end before → kept ≡ upto end (before ++ copies 0 d c ps)
no_copies_yet end rank d c kept before ps h = h ∙ sym (ap (λ zs. upto end (before ++ zs)) (copies_none d c ps) ∙ ap (upto end) (append-nil before))

pub one_turn_more : (n : ℕ) (end rank d c : ℚ) (kept more before ps : List Piece) → int (pos 0) <ℚ d → rank +ℚ int (pos n) *ℚ d <ℚ end → Each (λ p. p.x <ℚ rank) before
    → Each (λ p. p.x <ℚ rank +ℚ d) ps → kept ≡ upto end (before ++ copies n d c ps) → more ≡ kept ++ upto end (each_later (int (pos n) *ℚ d) (int (pos n) *ℚ c) ps)
    → more ≡ upto end (before ++ copies (suc n) d c ps)
one_turn_more n end rank d c kept more before ps some inside early starts h w =
    let all = before ++ copies n d c ps in
    let last = each_later (int (pos n) *ℚ d) (int (pos n) *ℚ c) ps in
    let nonneg : int (pos 0) ≤ℚ int (pos n) *ℚ d = mul_nonneg (nat_nonneg n) (le_of_lt some) in
    let rank_in : rank <ℚ end = with3 rank end (int (pos n) *ℚ d) (λ c. omega (arith, c.le, c.lt, c.same)) in
    let each : Each (λ p. p.x <ℚ end) all = each_append (λ p. p.x <ℚ end) before (copies n d c ps)
    (each_map (λ p. p.x <ℚ rank) (λ p. p.x <ℚ end) (λ p l. lt_trans l rank_in) before early)
    (each_map (λ p. p.x <ℚ rank +ℚ int (pos n) *ℚ d) (λ p. p.x <ℚ end) (λ p l. lt_trans l inside) (copies n d c ps) (copies_before n rank d c ps some starts)) in
    w ∙ ap (λ zs. zs ++ upto end last) (h ∙ upto_all end all each) ∙ sym (upto_joined end all last each)
    ∙ ap (upto end) (append_assoc before (copies n d c ps) last ∙ ap (λ zs. before ++ zs) (sym (copies_more n d c ps)))

-- a copy that is counted begins before the end, and the first that is not does not
pub counted_in : (rank d end : ℚ) (n count : ℕ) → int (pos 0) <ℚ d → count ≡ cap (whole_up ((end -ℚ rank) /ℚ d)) → n < count → rank +ℚ int (pos n) *ℚ d <ℚ end
unfolding cap
counted_in rank d end n count some e l = (before_count rank d end n some).1 (omega arith)

pub counted_out : (rank d end : ℚ) (count : ℕ) → int (pos 0) <ℚ d → count ≡ cap (whole_up ((end -ℚ rank) /ℚ d))
    → ((n : ℕ) → rank +ℚ int (pos n) *ℚ d <ℚ end → n < 2 ^ 127) → end ≤ℚ rank +ℚ int (pos count) *ℚ d
unfolding cap
counted_out rank d end count some e few = elim (le_or_lt end (rank +ℚ int (pos count) *ℚ d)) [
  | inl l ↦ l
  | inr l ↦
      let k = (before_count rank d end count some).0 l in
      let s = few count l in
      absurd (omega arith)
]

-- ---- the loop over the pieces of one copy
pub push_more : (end by height : ℚ) (p q : Piece) (left more done next all : List Piece) → left ≡ p ∷ more → q ≡ later by height p → p.x <ℚ end -ℚ by → next ≡ done ++ q ∷ []
    → done ++ upto end (each_later by height left) ≡ all → next ++ upto end (each_later by height more) ≡ all
push_more end by height p q left more done next all e m l w h =
    let x = p.x in
    let inside : x +ℚ by <ℚ end = with3 x by end (λ c. omega (arith, c.le, c.lt, c.same)) in
    ap (λ zs. zs ++ upto end (each_later by height more)) w ∙ append_assoc done (q ∷ []) (upto end (each_later by height more))
    ∙ ap (λ zs. done ++ zs) (ap (λ z. z ∷ upto end (each_later by height more)) m
    ∙ sym (ap (λ zs. upto end (each_later by height zs)) e ∙ ap (upto end) (later_some by height p more) ∙ upto_some end (later by height p) (each_later by height more) inside)) ∙ h

pub push_stops : (end by height : ℚ) (p : Piece) (left more done all : List Piece) → left ≡ p ∷ more → end -ℚ by ≤ℚ p.x → done ++ upto end (each_later by height left) ≡ all → done ≡ all
push_stops end by height p left more done all e l h =
    let x = p.x in
    let past : end ≤ℚ x +ℚ by = with3 x by end (λ c. omega (arith, c.le, c.lt, c.same)) in
    sym (append-nil done) ∙ ap (λ zs. done ++ zs)
    (sym (ap (λ zs. upto end (each_later by height zs)) e ∙ ap (upto end) (later_some by height p more) ∙ upto_none end (later by height p) (each_later by height more) past)) ∙ h

pub push_ends : (end by height : ℚ) (left done all : List Piece) → left ≡ [] → done ++ upto end (each_later by height left) ≡ all → done ≡ all
push_ends end by height left done all e h =
    sym (append-nil done) ∙ ap (λ zs. done ++ zs) (sym (ap (λ zs. upto end (each_later by height zs)) e ∙ ap (upto end) (later_none by height) ∙ upto_end end)) ∙ h

-- what was kept of a copy of the pieces seen, which are those of the period
pub turn_kept : (n : ℕ) (end d c : ℚ) (kept more seen ps : List Piece) → seen ≡ ps → more ≡ kept ++ upto end (each_later (int (pos n) *ℚ d) (int (pos n) *ℚ c) seen)
    → more ≡ kept ++ upto end (each_later (int (pos n) *ℚ d) (int (pos n) *ℚ c) ps)
turn_kept n end d c kept more seen ps e h = h ∙ ap (λ zs. kept ++ upto end (each_later (int (pos n) *ℚ d) (int (pos n) *ℚ c) zs)) e

-- what was kept at the end, by the number of periods that were made
pub pushed : (n : ℕ) (end d c by height : ℚ) (kept done turn : List Piece) → by ≡ int (pos n) *ℚ d → height ≡ int (pos n) *ℚ c → kept ≡ done ++ upto end (each_later by height turn)
    → kept ≡ done ++ upto end (each_later (int (pos n) *ℚ d) (int (pos n) *ℚ c) turn)
pushed n end d c by height kept done turn e f h = h ∙ ap₂ (λ (x y : ℚ). done ++ upto end (each_later x y turn)) e f
