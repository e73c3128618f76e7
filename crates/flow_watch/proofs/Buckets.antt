-- A flow that keeps a bucket under each piece of a curve keeps the curve: one packet more, and one piece more, at a time.
use Rattle.std.specs.Prelude.{◌≡◌, ℕ, zero, suc, ◌+◌, ◌-◌, ◌<◌, ◌≤◌, pos, List, [], ◌∷◌, length, drop, Option, Some}
use Rattle.std.specs.List.{slice_index_or}
use Rattle.std.proofs.Common.{arith, refl, sym, subst, ap, ◌∙◌, inl, inr, add-one}
use Rattle.std.proofs.lemmas.Bool.{cases_lt, cases_Bool}
use Rattle.rational.specs.Rational.{ℚ, int, ◌+ℚ◌, ◌-ℚ◌, ◌*ℚ◌, ◌≤ℚ◌, le_q}
use Rattle.rational.specs.Extended.{Ext, ◌≤ₑ◌, ◌<ₑ◌}
use Rattle.rational.specs.declared.Extended.TheVariants.{Fin, Inf}
use Rattle.rational.proofs.ExtendedOrder.{le_ext_trans}
use Rattle.rational.proofs.Laws.{le_lt_trans, le_or_lt, le_trans, lt_irrefl, mul_sub, mul_zero, add_zero, mul_le_mul, zero_mul}
use Rattle.rational.specs.MinMax.{min_q, max_q}
use Rattle.rational.proofs.MinMax.{max_q_ge_left, max_q_ge_right, min_q_le_left, min_q_le_right}
use Rattle.rational.proofs.Over.{le_q_in}
use Rattle.rational.proofs.Linear.{with2, with3, with4, with_atoms, sub_nonneg}
use Rattle.upp_curve.specs.declared.affine_segment.line.Line.{Line}
use Rattle.upp_curve.specs.declared.affine_segment.line.Piece.{Piece}
use Rattle.upp_curve.specs.affine_segment.Pieces.{StartsAtZero}
use Rattle.upp_curve.specs.affine_segment.Reading.{piece_value, read}
use Rattle.upp_curve.proofs.affine_segment.PieceIn.{read_go, read_one, read_stop}
use Rattle.upp_curve.specs.declared.curve.Tail.{Tail}
use Rattle.upp_curve.specs.declared.curve.Tail.TheVariants.{Periodic, Affine, Infinite}
use Rattle.upp_curve.specs.Curve.{SpecCurve, value_at}
use Rattle.upp_curve.specs.Curves.{IsCurve}
use Rattle.flow_watch.specs.curve_values.Early.{IsEarly}
use Rattle.flow_watch.proofs.curve_values.KeptValues.{early_value}
use Rattle.run_laws.specs.Cards.{whole}
use Rattle.run_laws.proofs.Sizes.{whole_sum}
use Rattle.flow_watch.specs.declared.watch_laws.entering.Entering.{Entering}
use Rattle.flow_watch.specs.watch_laws.Entries.{entering, bits_to, bits_between}
use Rattle.flow_watch.specs.watch_laws.Segments.{next_start}
use Rattle.flow_watch.specs.Flows.{FlowReads, NoneCrowded, IsUnderLine, IsUnderPiece, KeepsBucket, TimesRiseIn, gap, KeepsPiece, KeepsAt, KeepsBefore, IsRaised, IsLevel, first_time, last_time}
use Rattle.flow_watch.specs.Repeats.{HasAtLeast}
use Rattle.flow_watch.proofs.EntryLists.{bits_past, bits_one_more}
use Rattle.flow_watch.proofs.LeastFirst.{read_is}

-- ---- one piece
pub under_piece : (p : Piece) (v burst rate : ℚ) (l : Line) → p.at ≡ Fin v → p.line ≡ Some l → int (pos 0) ≤ℚ l.slope → IsUnderLine p.x v l burst rate → IsUnderPiece p burst rate
unfolding piece_value
under_piece p v burst rate l at line rises U d h = elim (cases_Bool (le_q d p.x)) [
  | inl e ↦
      let early = le_q_in d p.x e in
      let less : rate *ℚ d ≤ℚ rate *ℚ p.x = mul_le_mul rate (subst (λ x. int (pos 0) ≤ℚ x) (sym U.rate_is) rises) early in
      let start = U.at_start in
      let run = rate *ℚ d in
      let top = rate *ℚ p.x in
      rw (e, at) (with4 burst run top v (λ k. omega (arith, k.le, k.lt, k.same)))
  | inr e ↦
      let icept = l.icept in
      let below = U.below in
      let run = l.slope *ℚ d in
      let under : burst +ℚ run ≤ℚ icept +ℚ run = with3 burst icept run (λ k. omega (arith, k.le, k.lt, k.same)) in
      rw (e, line) (subst (λ x. burst +ℚ x *ℚ d ≤ℚ icept +ℚ run) (sym U.rate_is) under)
]

pub under_line : (x v : ℚ) (l : Line) (risen base burst rate : ℚ) → risen ≡ l.slope *ℚ x → base ≡ v -ℚ risen → burst ≡ min_q base l.icept → rate ≡ l.slope → IsUnderLine x v l burst rate
under_line x v l risen base burst rate e f g h =
    let low = min_q_le_left base l.icept in
    let icept = l.icept in
    let run = rate *ℚ x in
    let same : run ≡ risen = ap (λ y. y *ℚ x) h ∙ sym e in
    let least : burst ≤ℚ base = subst (λ y. y ≤ℚ base) (sym g) low in
    record {
      rate_is = h;
      at_start = with_atoms (burst ∷ run ∷ risen ∷ base ∷ v ∷ []) (λ k. omega (arith, k.le, k.lt, k.same));
      below = subst (λ y. y ≤ℚ icept) (sym g) (min_q_le_right base l.icept);
    }

-- flat, it has at least its burst wherever it is read
pub has_least : (p : Piece) (burst rate : ℚ) → IsUnderPiece p burst rate → rate ≡ int (pos 0) → HasAtLeast p burst
has_least p burst rate U flat d some =
    let none : rate *ℚ d ≡ int (pos 0) = ap (λ x. x *ℚ d) flat ∙ zero_mul d in
    let run = rate *ℚ d in
    let low : burst ≤ℚ burst +ℚ run = with_atoms (burst ∷ run ∷ []) (λ c. omega (arith, c.le, c.lt, c.same)) in
    le_ext_trans (Fin burst) (Fin (burst +ℚ run)) (piece_value p d) low (U d some)

-- ---- bits
to_more : (k : ℕ) (es : List Entering) → suc k < length es → bits_to (suc k) es ≡ bits_to k es + (entering es (suc k)).bits
to_more k [] h = absurd (omega arith)
to_more zero (e ∷ []) h = absurd (omega arith)
to_more zero (e ∷ f ∷ es) h = refl
to_more (suc k) (e ∷ es) h = let rest = to_more k es (omega arith) in omega (arith, rest)

pub between_more : (i k : ℕ) (es : List Entering) → i ≤ k → suc k < length es → bits_between i (suc k) es ≡ bits_between i k es + (entering es (suc k)).bits
between_more i k [] h l = absurd (omega arith)
between_more zero k (e ∷ es) h l = to_more k (e ∷ es) l
between_more (suc i) zero (e ∷ es) h l = absurd (omega arith)
between_more (suc i) (suc k) (e ∷ es) h l = between_more i k es (omega arith) (omega arith)

pub own_bits : (k : ℕ) (es : List Entering) → k < length es → bits_between k k es ≡ (entering es k).bits
own_bits k es h =
    let one = bits_one_more k k es (omega arith) h in
    let none = bits_past (suc k) k es (omega arith) in
    omega (arith, one, none)

-- ---- one packet more
-- what holds before packet k is looked at
pub record IsKept (burst rate : ℚ) (es : List Entering) (k : ℕ) (time level : ℚ) : Type 0 where
  pub levels : (j : ℕ) → suc j ≡ k → IsLevel rate es j time level
  pub keeps : KeepsBucket burst rate es k

level_more : (rate : ℚ) (es : List Entering) (k : ℕ) (time level next : ℚ) (e : Entering) → k < length es → e ≡ entering es k → ((j : ℕ) → suc j ≡ k → IsLevel rate es j time level) → IsRaised level rate time e next
    → IsLevel rate es k e.time next
level_more rate es k time level next e l is h r i low = elim (cases_lt i k) [
  | inl m ↦ before k refl m
  | inr m ↦
      let same : i ≡ k = omega arith in
      let bits : bits_between i k es ≡ e.bits = ap (λ (n : ℕ). bits_between n k es) same ∙ own_bits k es l ∙ ap (λ (x : Entering). x.bits) (sym is) in
      let none : e.time -ℚ (entering es i).time ≡ int (pos 0) = zero_gap e.time (entering es i).time (ap (λ (x : Entering). x.time) is ∙ ap (λ (n : ℕ). (entering es n).time) (sym same)) in
      let run : rate *ℚ (e.time -ℚ (entering es i).time) ≡ int (pos 0) = ap (λ x. rate *ℚ x) none ∙ mul_zero rate in
      let sum : next +ℚ rate *ℚ (e.time -ℚ (entering es i).time) ≡ next = ap (λ x. next +ℚ x) run ∙ add_zero next in
      subst (λ x. whole (bits_between i k es) ≤ℚ x) (sym sum) (subst (λ (n : ℕ). whole n ≤ℚ next) (sym bits) r.own)
]
  where
    zero_gap : (x y : ℚ) → x ≡ y → x -ℚ y ≡ int (pos 0)
    zero_gap x y e = with2 x y (λ c. omega (arith, c.le, c.lt, c.same))

    before : (n : ℕ) → k ≡ n → i < n → whole (bits_between i k es) ≤ℚ next +ℚ rate *ℚ (e.time -ℚ (entering es i).time)
    before zero f m = absurd (omega arith)
    before (suc j) f m =
        let old = h j (sym f) i (omega arith) in
        let bits : bits_between i k es ≡ bits_between i j es + e.bits =
        ap (λ (n : ℕ). bits_between i n es) f ∙ between_more i j es (omega arith) (omega (arith, l, f)) ∙ ap (λ (x : Entering). bits_between i j es + x.bits) (ap (entering es) (sym f) ∙ sym is) in
        let sum = ap whole bits ∙ whole_sum (bits_between i j es) e.bits in
        let s = (entering es i).time in
        let a = mul_sub rate time s in
        let b = mul_sub rate e.time time in
        let c = mul_sub rate e.time s in
        let left = r.left in
        let all = whole (bits_between i k es) in
        let most = whole (bits_between i j es) in
        let own = whole e.bits in
        let g = rate *ℚ (time -ℚ s) in
        let u = rate *ℚ (e.time -ℚ time) in
        let v = rate *ℚ (e.time -ℚ s) in
        let x = rate *ℚ time in
        let y = rate *ℚ s in
        let z = rate *ℚ e.time in
        with_atoms (all ∷ most ∷ own ∷ g ∷ u ∷ v ∷ x ∷ y ∷ z ∷ level ∷ next ∷ []) (λ k. omega (arith, k.le, k.lt, k.same))

pub kept_more : (burst rate : ℚ) (es : List Entering) (k : ℕ) (time level next : ℚ) (e : Entering) → k < length es → e ≡ slice_index_or es k e
    → IsKept burst rate es k time level → IsRaised level rate time e next → next ≤ℚ burst → IsKept burst rate es (k + 1) e.time next
kept_more burst rate es k time level next e l at K r most =
    let is = read_is es k e l at in
    let here = level_more rate es k time level next e l is K.levels r in
    record {
      levels = λ j same. subst (λ (n : ℕ). IsLevel rate es n e.time next) (let f : k ≡ j = omega arith in f) here;
      keeps = λ i j m n. elim (cases_lt j k) [
        | inl before ↦ K.keeps i j m before
        | inr late ↦
            let f : k ≡ j = omega arith in
            let up_to : i ≤ k = omega arith in
            let s = (entering es i).time in
            let bits = subst (λ (x : Entering). whole (bits_between i k es) ≤ℚ next +ℚ rate *ℚ (x.time -ℚ s)) is (here i up_to) in
            let all = whole (bits_between i k es) in
            let run = rate *ℚ ((entering es k).time -ℚ s) in
            let within : all ≤ℚ burst +ℚ run = with4 all run burst next (λ c. omega (arith, c.le, c.lt, c.same)) in
            subst (λ (n : ℕ). whole (bits_between i n es) ≤ℚ burst +ℚ rate *ℚ ((entering es n).time -ℚ s)) f within
      ];
    }

pub kept_none : (burst rate : ℚ) (es : List Entering) (time level : ℚ) → IsKept burst rate es 0 time level
kept_none burst rate es time level = record { levels = λ j e. absurd (omega arith); keeps = λ i j m n. absurd (omega arith) }

-- ---- all pieces
pub keeps_piece : (es : List Entering) (p : Piece) (burst rate : ℚ) (end : Option ℚ) (upto : ℕ) → IsUnderPiece p burst rate → KeepsBucket burst rate es upto → KeepsPiece es p end upto
keeps_piece es p burst rate end upto U K i j l m some before =
    let d = gap es i j in
    le_ext_trans (Fin (whole (bits_between i j es))) (Fin (burst +ℚ rate *ℚ d)) (piece_value p d) (K i j l m) (U d some)

pub keeps_flat : (es : List Entering) (p : Piece) (burst rate end : ℚ) (upto : ℕ) → IsUnderPiece p burst rate → rate ≡ int (pos 0) → KeepsBefore burst end es upto → KeepsPiece es p (Some end) upto
keeps_flat es p burst rate end upto U flat K i j l m some before =
    let d = gap es i j in
    le_ext_trans (Fin (whole (bits_between i j es))) (Fin burst) (piece_value p d) (K i j l m some before) (has_least p burst rate U flat d some)

-- fewer packets keep what more of them do
keeps_fewer : (es : List Entering) (far : ℚ) (old new : ℕ) (ps : List Piece) → new ≤ old → KeepsAt es far old ps → KeepsAt es far new ps
keeps_fewer es far old new [] h K = tt
keeps_fewer es far old new (p ∷ ps) h K = λ near i j m n some before. K near i j m (omega arith) some before

keeps_at : (es : List Entering) (far : ℚ) (upto : ℕ) (ps : List Piece) (i : ℕ) (p : Piece) (end : Option ℚ) → i < length ps → p ≡ slice_index_or ps i p → end ≡ next_start (drop (suc i) ps) → (p.x ≤ℚ far → KeepsPiece es p end upto)
    → KeepsAt es far upto (drop i ps)
keeps_at es far upto [] i p end l e f H = absurd (omega arith)
keeps_at es far upto (q ∷ ps) zero p end l e f H = subst (λ (r : Piece). r.x ≤ℚ far → KeepsPiece es r (next_start ps) upto) e (subst (λ (o : Option ℚ). p.x ≤ℚ far → KeepsPiece es p o upto) f H)
keeps_at es far upto (q ∷ ps) (suc i) p end l e f H = keeps_at es far upto ps i p end (omega arith) e f H

pub keeps_more : (es : List Entering) (far : ℚ) (old count new : ℕ) (ps : List Piece) (i : ℕ) (p : Piece) (end : Option ℚ) → i < length ps → p ≡ slice_index_or ps i p → end ≡ next_start (drop (i + 1) ps)
    → (p.x ≤ℚ far → KeepsPiece es p end count) → new ≤ old → new ≤ count → ((k : ℕ) → k < i → KeepsAt es far old (drop k ps)) → (k : ℕ) → k < i + 1 → KeepsAt es far new (drop k ps)
keeps_more es far old count new ps i p end l e f H less_old less_count before k m = elim (cases_lt k i) [
  | inl n ↦ keeps_fewer es far old new (drop k ps) less_old (before k n)
  | inr n ↦
      let same : i ≡ k = omega arith in
      subst (λ (q : ℕ). KeepsAt es far new (drop q ps)) same (keeps_fewer es far count new (drop i ps) less_count (keeps_at es far count ps i p end l e (rw add-one at f) H))
]

read_in : (es : List Entering) (far : ℚ) (upto : ℕ) (p : Piece) (ps : List Piece) (i j : ℕ) → ((k : ℕ) → k < length (p ∷ ps) → KeepsAt es far upto (drop k (p ∷ ps))) → p.x ≤ℚ gap es i j → i ≤ j → j < upto → int (pos 0) ≤ℚ gap es i j
    → gap es i j ≤ℚ far → Fin (whole (bits_between i j es)) ≤ₑ read (p ∷ ps) (gap es i j)
read_in es far upto p [] i j keeps early l m some near =
    let d = gap es i j in
    let H : KeepsAt es far upto (p ∷ []) = keeps 0 (omega arith) in
    subst (λ (v : Ext). Fin (whole (bits_between i j es)) ≤ₑ v) (sym (read_one p d)) (H (le_trans early near) i j l m some tt)
read_in es far upto p (q ∷ qs) i j keeps early l m some near =
    let d = gap es i j in
    elim (le_or_lt q.x d) [
      | inl k ↦ subst (λ (v : Ext). Fin (whole (bits_between i j es)) ≤ₑ v) (sym (read_go p q qs d k)) (read_in es far upto q qs i j (λ n o. keeps (suc n) (omega arith)) k l m some near)
      | inr k ↦
          let H : KeepsAt es far upto (p ∷ q ∷ qs) = keeps 0 (omega arith) in
          subst (λ (v : Ext). Fin (whole (bits_between i j es)) ≤ₑ v) (sym (read_stop p q qs d k)) (H (le_trans early near) i j l m some k)
    ]

read_of : (es : List Entering) (far : ℚ) (upto : ℕ) (ps : List Piece) (i j : ℕ) → StartsAtZero ps → ((k : ℕ) → k < length ps → KeepsAt es far upto (drop k ps)) → i ≤ j → j < upto → int (pos 0) ≤ℚ gap es i j → gap es i j ≤ℚ far
    → Fin (whole (bits_between i j es)) ≤ₑ read ps (gap es i j)
read_of es far upto [] i j at0 keeps l m some near = absurd at0
read_of es far upto (p ∷ ps) i j at0 keeps l m some near = read_in es far upto p ps i j keeps (subst (λ x. x ≤ℚ gap es i j) (sym at0.0) some) l m some near

pub not_both : (x : Ext) (q : ℚ) → Fin q ≤ₑ x → x <ₑ Fin q → ⊥
not_both (Fin v) q h k = lt_irrefl q (le_lt_trans h k)
not_both Inf q h k = absurd k

gap_near : (f s t l far : ℚ) → f ≤ℚ s → t ≤ℚ l → far ≡ l -ℚ f → t -ℚ s ≤ℚ far
gap_near f s t l far h k e = with_atoms (f ∷ s ∷ t ∷ l ∷ far ∷ []) (λ c. omega (arith, c.le, c.lt, c.same))

early_before : (tail : Tail) (d far : ℚ) → d ≤ℚ far → IsEarly tail far → IsEarly tail d
early_before (Periodic rank period rise) d far h k = le_lt_trans h k
early_before (Affine rank) d far h k = tt
early_before (Infinite rank) d far h k = tt

pub times_rise : (c : SpecCurve) (es : List Entering) → FlowReads c es → TimesRiseIn es
times_rise c es R i j l m = (R i j l m).forward

pub none_crowded : (c : SpecCurve) (es : List Entering) (far : ℚ) (upto : ℕ) → FlowReads c es → IsCurve c → far ≡ last_time es -ℚ first_time es → IsEarly c.tail far → upto ≤ length es
    → ((k : ℕ) → k < length c.pieces → KeepsAt es far upto (drop k c.pieces)) → NoneCrowded (value_at c) es upto
none_crowded c es far upto R C reach early most all i j m crowded =
    let l : j < length es = omega arith in
    let window = R i j crowded.in_order l in
    let s = (entering es i).time in
    let t = (entering es j).time in
    let first = R 0 i (omega arith) (omega arith) in
    let last = R j (length es - 1) (omega arith) (omega arith) in
    let low = sub_nonneg s t window.forward in
    let near = gap_near (first_time es) s t (last_time es) far first.forward last.forward reach in
    let bits = read_of es far upto c.pieces i j C.normal.raw.starts all crowded.in_order m low near in
    let value = early_value c (t -ℚ s) C (early_before c.tail (t -ℚ s) far near early) in
    not_both (value_at c (t -ℚ s)) (whole (bits_between i j es)) (subst (λ (v : Ext). Fin (whole (bits_between i j es)) ≤ₑ v) value bits) crowded.more

-- ---- what is kept of a level
pub raised_is : (level rate time gap lost left kept none own next : ℚ) (e : Entering) → gap ≡ e.time -ℚ time → lost ≡ rate *ℚ gap → left ≡ level -ℚ lost → none ≡ int (pos 0) → kept ≡ max_q left none → own ≡ whole e.bits → next ≡ kept +ℚ own
    → IsRaised level rate time e next
raised_is level rate time gap lost left kept none own next e a b c z m o n =
    let left_is : left ≡ level -ℚ rate *ℚ (e.time -ℚ time) = c ∙ ap (λ x. level -ℚ x) (b ∙ ap (λ x. rate *ℚ x) a) in
    let high : left ≤ℚ kept = subst (λ x. left ≤ℚ x) (sym m) (max_q_ge_left left none) in
    let some : none ≤ℚ kept = subst (λ x. none ≤ℚ x) (sym m) (max_q_ge_right left none) in
    let bits = whole e.bits in
    let run = rate *ℚ (e.time -ℚ time) in
    record {
      left = with_atoms (left ∷ level ∷ run ∷ kept ∷ own ∷ bits ∷ next ∷ []) (λ k. omega (arith, k.le, k.lt, k.same));
      own = with_atoms (none ∷ kept ∷ own ∷ bits ∷ next ∷ []) (λ k. omega (arith, k.le, k.lt, k.same));
    }
