-- A flow that keeps each flat piece of a curve that repeats, and what repeats of it, keeps the curve.
use Rattle.std.specs.Prelude.{◌≡◌, ℕ, zero, suc, ◌+◌, ◌<◌, ◌≤◌, pos, List, [], ◌∷◌, length, drop, Some, unwrap_or}
use Rattle.std.specs.List.{slice_index_or}
use Rattle.std.proofs.Common.{arith, refl, sym, subst, ap, ◌∙◌, inl, inr, add-one}
use Rattle.std.proofs.lemmas.Bool.{cases_lt}
use Rattle.rational.specs.Rational.{ℚ, int, ◌+ℚ◌, ◌-ℚ◌, ◌*ℚ◌, ◌≤ℚ◌, ◌<ℚ◌}
use Rattle.rational.specs.Extended.{Ext, ◌≤ₑ◌, ◌+ₑ◌}
use Rattle.rational.specs.declared.Extended.TheVariants.{Fin}
use Rattle.rational.proofs.ExtendedOrder.{le_ext_trans}
use Rattle.rational.proofs.Integers.{nat_lt_out, nat_next}
use Rattle.rational.proofs.Laws.{add_mul, le_lt_trans, le_of_lt, le_or_lt, mul_add, mul_comm, mul_le_mul_right, mul_lt_mul, mul_nonneg, zero_mul}
use Rattle.rational.proofs.Linear.{with_atoms, sub_nonneg}
use Rattle.rational.proofs.Whole.{one_more_times}
use Rattle.upp_curve.specs.declared.affine_segment.line.Piece.{Piece}
use Rattle.upp_curve.specs.affine_segment.Pieces.{StartsAtZero}
use Rattle.upp_curve.specs.affine_segment.Reading.{piece_value, read}
use Rattle.upp_curve.proofs.affine_segment.PieceIn.{read_go, read_one, read_stop}
use Rattle.upp_curve.specs.declared.curve.Tail.{Tail}
use Rattle.upp_curve.specs.declared.curve.Tail.TheVariants.{Periodic}
use Rattle.upp_curve.specs.Curve.{SpecCurve, value_at}
use Rattle.upp_curve.specs.Curves.{IsCurve}
use Rattle.upp_curve.specs.Normal.{IsNormal}
use Rattle.upp_curve.proofs.Repeats.{tail_lemma}
use Rattle.run_laws.specs.Cards.{whole}
use Rattle.run_laws.proofs.Sizes.{whole_le, whole_sum}
use Rattle.flow_watch.specs.declared.watch_laws.entering.Entering.{Entering}
use Rattle.flow_watch.specs.watch_laws.Entries.{entering, bits_between}
use Rattle.flow_watch.specs.watch_laws.Segments.{next_start}
use Rattle.flow_watch.specs.step_lines.Lines.{KeepsLine}
use Rattle.flow_watch.specs.declared.repeats.Cover.{Cover}
use Rattle.flow_watch.specs.declared.repeats.Climb.{Climb}
use Rattle.flow_watch.specs.Flows.{FlowReads, NoneCrowded, gap, KeepsPiece}
use Rattle.flow_watch.specs.Repeats.{IsCover, IsLineTo, KeepsSteps, HasAtLeast, HoldsPiece, HoldsAt}
use Rattle.flow_watch.proofs.Buckets.{not_both}
use Rattle.flow_watch.proofs.StairPaces.{risen_over}

-- ---- steps and their line
pub cover_is : (height v part one count all spare : ℚ) (n : ℕ) → part ≡ whole n → one ≡ int (pos 1) → count ≡ part +ℚ one → all ≡ count *ℚ height → spare ≡ all -ℚ v → int (pos 0) ≤ℚ spare
    → IsCover height v record { count = count; spare = spare }
cover_is height v part one count all spare n e f g h r some =
    let next = nat_next n in
    let low = whole n in
    let high = whole (suc n) in
    let unit = int (pos 1) in
    let most = count *ℚ height in
    record {
      number = suc n;
      is = with_atoms (part ∷ one ∷ count ∷ low ∷ high ∷ unit ∷ []) (λ k. omega (arith, k.le, k.lt, k.same, k.same_in));
      all = with_atoms (all ∷ spare ∷ v ∷ most ∷ []) (λ k. omega (arith, k.le, k.lt, k.same, k.same_in));
      some = some;
    }

-- ---- one piece
times_period : (rate period : ℚ) (k : ℕ) → rate *ℚ period ≡ int (pos 1) → rate *ℚ (whole k *ℚ period) ≡ whole k
times_period rate period zero e =
    let none : rate *ℚ (whole 0 *ℚ period) ≡ int (pos 0) = ap (λ x. rate *ℚ x) (zero_mul period) ∙ mul_comm rate (int (pos 0)) ∙ zero_mul rate in
    none
times_period rate period (suc k) e =
    let more = one_more_times k period in
    let split = mul_add rate (whole k *ℚ period) period in
    let rest = times_period rate period k e in
    let next = nat_next k in
    let a = rate *ℚ (whole k *ℚ period) in
    let b = rate *ℚ period in
    let c = rate *ℚ (whole k *ℚ period +ℚ period) in
    let d = rate *ℚ (whole (suc k) *ℚ period) in
    let same : d ≡ c = ap (λ x. rate *ℚ x) more in
    let m = whole k in
    let n = whole (suc k) in
    let unit = int (pos 1) in
    with_atoms (a ∷ b ∷ c ∷ d ∷ m ∷ n ∷ unit ∷ []) (λ k. omega (arith, k.le, k.lt, k.same, k.same_in))

-- whole steps n under a line are fewer than those of the cover and the periods
line_before : (slack run n m k all number up more far : ℚ) → n ≤ℚ slack +ℚ run → slack ≡ number -ℚ up → number ≡ m → run <ℚ far → far ≡ up +ℚ more → more ≡ k → all ≡ m +ℚ k → n <ℚ all
line_before slack run n m k all number up more far under line count before split times sums =
    with_atoms (slack ∷ run ∷ n ∷ m ∷ k ∷ all ∷ number ∷ up ∷ more ∷ far ∷ []) (λ c. omega (arith, c.le, c.lt, c.same))

held_by : (b spare v rise next all m k number : ℚ) → int (pos 0) ≤ℚ rise → next ≤ℚ all → all ≡ m +ℚ k → number ≡ m → v +ℚ spare ≡ number *ℚ rise → b +ℚ spare ≤ℚ next *ℚ rise → b ≤ℚ v +ℚ k *ℚ rise
held_by b spare v rise next all m k number high most sums count has bits =
    let held = mul_le_mul_right rise high most in
    let parts = add_mul m k rise in
    let same : all *ℚ rise ≡ (m +ℚ k) *ℚ rise = ap (λ x. x *ℚ rise) sums in
    let steps : number *ℚ rise ≡ m *ℚ rise = ap (λ x. x *ℚ rise) count in
    let a1 = next *ℚ rise in
    let a2 = all *ℚ rise in
    let a3 = (m +ℚ k) *ℚ rise in
    let a4 = m *ℚ rise in
    let a5 = k *ℚ rise in
    let a6 = number *ℚ rise in
    with_atoms (b ∷ spare ∷ v ∷ a1 ∷ a2 ∷ a3 ∷ a4 ∷ a5 ∷ a6 ∷ []) (λ c. omega (arith, c.le, c.lt, c.same))

pub steps_kept : (v end period rise count : ℚ) (es : List Entering) (cover : Cover) (climb : Climb) (upto : ℕ) → int (pos 0) <ℚ rise → IsCover rise v cover → IsLineTo cover.count end period climb
    → KeepsLine rise cover.spare climb.slack climb.rate es upto → KeepsSteps v end period rise es upto
steps_kept v end period rise count es cover climb upto high C L K i j k order l low near =
    let d = gap es i j in
    let rate = climb.rate in
    let slack = climb.slack in
    let run = rate *ℚ d in
    let start = L.some in
    let risen : int (pos 0) ≤ℚ run = mul_nonneg (le_of_lt L.rises) low in
    let reached : int (pos 0) ≤ℚ slack +ℚ run = with_atoms (slack ∷ run ∷ []) (λ c. omega (arith, c.le, c.lt, c.same)) in
    let (n, bits, under) = K i j order l reached in
    let over = whole k *ℚ period in
    let up = rate *ℚ end in
    let more = rate *ℚ over in
    let far = rate *ℚ (end +ℚ over) in
    let before : run <ℚ far = mul_lt_mul rate L.rises near in
    let split : far ≡ up +ℚ more = mul_add rate end over in
    let times : more ≡ whole k = times_period rate period k L.one in
    let line = L.slack in
    let m = C.number in
    let count_is = C.is in
    let sums : whole (m + k) ≡ whole m +ℚ whole k = whole_sum m k in
    let nth = whole n in
    let wm = whole m in
    let wk = whole k in
    let all = whole (m + k) in
    let number = cover.count in
    let less : nth <ℚ all = line_before slack run nth wm wk all number up more far under line count_is before split times sums in
    let fewer : n < m + k = nat_lt_out n (m + k) less in
    let most : whole (suc n) ≤ℚ all = whole_le (suc n) (m + k) (omega arith) in
    held_by (whole (bits_between i j es)) cover.spare v rise (whole (suc n)) all wm wk number (le_of_lt high) most sums count_is C.all bits

-- no period past the end
pub first_steps : (v end period rise : ℚ) (es : List Entering) (p : Piece) (upto : ℕ) → HasAtLeast p v → KeepsSteps v end period rise es upto → KeepsPiece es p (Some end) upto
first_steps v end period rise es p upto H K i j order l low near =
    let time = whole 0 *ℚ period in
    let bits = whole 0 *ℚ rise in
    let no_time : time ≡ int (pos 0) = zero_mul period in
    let no_bits : bits ≡ int (pos 0) = zero_mul rise in
    let d = gap es i j in
    let b = whole (bits_between i j es) in
    let h = K i j 0 order l low (with_atoms (d ∷ end ∷ time ∷ []) (λ c. omega (arith, c.le, c.lt, c.same))) in
    let most : b ≤ℚ v = with_atoms (b ∷ v ∷ bits ∷ []) (λ c. omega (arith, c.le, c.lt, c.same)) in
    le_ext_trans (Fin b) (Fin v) (piece_value p d) most (H d low)

-- ---- one piece more
holds_fewer : (rank period rise end : ℚ) (es : List Entering) (old new : ℕ) (ps : List Piece) → new ≤ old → HoldsAt rank period rise es end old ps → HoldsAt rank period rise es end new ps
holds_fewer rank period rise end es old new [] h H = tt
holds_fewer rank period rise end es old new (p ∷ ps) h H = record {
  first = λ i j m n low near. H.first i j m (omega arith) low near;
  again = λ late. let (v, has, K) = H.again late in (v, has, λ i j k m n low near. K i j k m (omega arith) low near);
}

holds_at : (rank period rise end : ℚ) (es : List Entering) (upto : ℕ) (ps : List Piece) (i : ℕ) (p : Piece) → i < length ps → p ≡ slice_index_or ps i p → HoldsPiece rank period rise es p (unwrap_or (next_start (drop (suc i) ps)) end) upto
    → HoldsAt rank period rise es end upto (drop i ps)
holds_at rank period rise end es upto [] i p l e H = absurd (omega arith)
holds_at rank period rise end es upto (q ∷ ps) zero p l e H = subst (λ (r : Piece). HoldsPiece rank period rise es r (unwrap_or (next_start ps) end) upto) e H
holds_at rank period rise end es upto (q ∷ ps) (suc i) p l e H = holds_at rank period rise end es upto ps i p (omega arith) e H

pub holds_more : (rank period rise end : ℚ) (es : List Entering) (old count new : ℕ) (ps : List Piece) (i : ℕ) (p : Piece) → i < length ps → p ≡ slice_index_or ps i p
    → HoldsPiece rank period rise es p (unwrap_or (next_start (drop (i + 1) ps)) end) count → new ≤ old → new ≤ count → ((k : ℕ) → k < i → HoldsAt rank period rise es end old (drop k ps)) → (k : ℕ) → k < i + 1
    → HoldsAt rank period rise es end new (drop k ps)
holds_more rank period rise end es old count new ps i p l e H less_old less_count before k m = elim (cases_lt k i) [
  | inl n ↦ holds_fewer rank period rise end es old new (drop k ps) less_old (before k n)
  | inr n ↦
      let same : i ≡ k = omega arith in
      subst (λ (q : ℕ). HoldsAt rank period rise es end new (drop q ps)) same
      (holds_fewer rank period rise end es count new (drop i ps) less_count (holds_at rank period rise end es count ps i p l e (rw add-one at H)))
]

-- ---- all times
-- a value at t is that of one piece, some periods after it, with the rises of them
pub record IsRisen (period rise : ℚ) (es : List Entering) (upto : ℕ) (t : ℚ) (value : Ext) : Type 0 where
  pub v : ℚ
  pub end : ℚ
  pub times : ℕ
  pub near : t <ℚ end +ℚ whole times *ℚ period
  pub under : Fin (v +ℚ whole times *ℚ rise) ≤ₑ value
  pub holds : KeepsSteps v end period rise es upto

-- the packets that are t apart bring no more than a value; and where it repeats, some piece that has it lets them in
pub record IsLetIn (rank period rise : ℚ) (es : List Entering) (upto : ℕ) (t : ℚ) (value : Ext) : Type 0 where
  pub now : (i j : ℕ) → i ≤ j → j < upto → int (pos 0) ≤ℚ gap es i j → gap es i j ≡ t → Fin (whole (bits_between i j es)) ≤ₑ value
  pub later : rank ≤ℚ t → IsRisen period rise es upto t value

let_in_by : (rank period rise end d : ℚ) (es : List Entering) (upto : ℕ) (p : Piece) (value : Ext) → int (pos 0) ≤ℚ d → d <ℚ end → HoldsPiece rank period rise es p end upto → value ≡ piece_value p d → IsLetIn rank period rise es upto d value
let_in_by rank period rise end d es upto p value low near H e = record {
  now = λ i j l m some same.
      let bits = H.first i j l m some (subst (λ x. x <ℚ end) (sym same) near) in
      subst (λ (x : Ext). Fin (whole (bits_between i j es)) ≤ₑ x) (sym e) (subst (λ x. Fin (whole (bits_between i j es)) ≤ₑ piece_value p x) same bits);
  later = λ past.
      let (v, has, K) = H.again (le_lt_trans past near) in
      let time = whole 0 *ℚ period in
      let bits = whole 0 *ℚ rise in
      let no_time : time ≡ int (pos 0) = zero_mul period in
      let no_bits : bits ≡ int (pos 0) = zero_mul rise in
      let less : v +ℚ bits ≤ℚ v = with_atoms (v ∷ bits ∷ []) (λ c. omega (arith, c.le, c.lt, c.same)) in
      record {
        v = v;
        end = end;
        times = 0;
        near = with_atoms (d ∷ end ∷ time ∷ []) (λ c. omega (arith, c.le, c.lt, c.same));
        under = subst (λ (x : Ext). Fin (v +ℚ bits) ≤ₑ x) (sym e) (le_ext_trans (Fin (v +ℚ bits)) (Fin v) (piece_value p d) less (has d low));
        holds = K;
      };
}

let_in : (rank period rise end d : ℚ) (es : List Entering) (upto : ℕ) (p : Piece) (ps : List Piece) → ((i : ℕ) → i < length (p ∷ ps) → HoldsAt rank period rise es end upto (drop i (p ∷ ps))) → int (pos 0) ≤ℚ d → d <ℚ end
    → IsLetIn rank period rise es upto d (read (p ∷ ps) d)
let_in rank period rise end d es upto p [] holds low near =
    let H : HoldsPiece rank period rise es p end upto = holds 0 (omega arith) in
    let_in_by rank period rise end d es upto p (read (p ∷ []) d) low near H (read_one p d)
let_in rank period rise end d es upto p (q ∷ qs) holds low near = elim (le_or_lt q.x d) [
  | inl k ↦ subst (IsLetIn rank period rise es upto d) (sym (read_go p q qs d k)) (let_in rank period rise end d es upto q qs (λ i l. holds (suc i) (omega arith)) low near)
  | inr k ↦
      let H : HoldsPiece rank period rise es p q.x upto = holds 0 (omega arith) in
      let_in_by rank period rise q.x d es upto p (read (p ∷ q ∷ qs) d) low k H (read_stop p q qs d k)
]

read_let_in : (rank period rise end d : ℚ) (es : List Entering) (upto : ℕ) (ps : List Piece) → StartsAtZero ps → ((i : ℕ) → i < length ps → HoldsAt rank period rise es end upto (drop i ps)) → int (pos 0) ≤ℚ d → d <ℚ end
    → IsLetIn rank period rise es upto d (read ps d)
read_let_in rank period rise end d es upto [] at0 holds low near = absurd at0
read_let_in rank period rise end d es upto (p ∷ ps) at0 holds low near = let_in rank period rise end d es upto p ps holds low near

risen_bits : (period rise t : ℚ) (es : List Entering) (upto i j : ℕ) (value : Ext) → i ≤ j → j < upto → int (pos 0) ≤ℚ gap es i j → gap es i j ≡ t → IsRisen period rise es upto t value → Fin (whole (bits_between i j es)) ≤ₑ value
risen_bits period rise t es upto i j value order l low same I =
    let b = whole (bits_between i j es) in
    let most = I.holds i j I.times order l low (subst (λ x. x <ℚ I.end +ℚ whole I.times *ℚ period) (sym same) I.near) in
    le_ext_trans (Fin b) (Fin (I.v +ℚ whole I.times *ℚ rise)) value most I.under

-- a period later
risen_on : (period rise t : ℚ) (es : List Entering) (upto : ℕ) (value : Ext) → IsRisen period rise es upto t value → IsRisen period rise es upto (t +ℚ period) (value +ₑ Fin rise)
risen_on period rise t es upto value I =
    let n = I.times in
    let v = I.v in
    let end = I.end in
    let near = I.near in
    let time = whole n *ℚ period in
    let bits = whole n *ℚ rise in
    let next_time = whole (suc n) *ℚ period in
    let next_bits = whole (suc n) *ℚ rise in
    let more_time : next_time ≡ time +ℚ period = one_more_times n period in
    let more_bits : next_bits ≡ bits +ℚ rise = one_more_times n rise in
    record {
      v = v;
      end = end;
      times = suc n;
      near = with_atoms (t ∷ period ∷ end ∷ time ∷ next_time ∷ []) (λ c. omega (arith, c.le, c.lt, c.same));
      under = risen_over (v +ℚ next_bits) (v +ℚ bits) rise value (with_atoms (v ∷ bits ∷ next_bits ∷ rise ∷ []) (λ c. omega (arith, c.le, c.lt, c.same))) I.under;
      holds = I.holds;
    }

let_in_on : (rank period rise t : ℚ) (es : List Entering) (upto : ℕ) (value : Ext) → rank ≤ℚ t → IsLetIn rank period rise es upto t value → IsLetIn rank period rise es upto (t +ℚ period) (value +ₑ Fin rise)
let_in_on rank period rise t es upto value past I =
    let next = risen_on period rise t es upto value (I.later past) in
    record { now = λ i j l m some same. risen_bits period rise (t +ℚ period) es upto i j (value +ₑ Fin rise) l m some same next; later = λ late. next }

always_by : (ps : List Piece) (tail : Tail) (rank period rise t : ℚ) (es : List Entering) (upto : ℕ) → tail ≡ Periodic rank period rise → IsNormal record { pieces = ps; tail = tail }
    → ((i : ℕ) → i < length ps → HoldsAt rank period rise es (rank +ℚ period) upto (drop i ps)) → int (pos 0) ≤ℚ t → IsLetIn rank period rise es upto t (value_at record { pieces = ps; tail = tail } t)
unfolding value_at
always_by ps tail rank period rise t es upto e normal holds low =
    let Rule : Tail → Type 0 = λ k. IsNormal record { pieces = ps; tail = k } → IsLetIn rank period rise es upto t (value_at record { pieces = ps; tail = k } t) in
    subst Rule (sym e) (λ m.
    tail_lemma (IsLetIn rank period rise es upto) (read ps) rank period rise m.raw.tail.nonneg m.raw.tail.some (λ d some near. read_let_in rank period rise (rank +ℚ period) d es upto ps m.raw.starts holds some near)
    (λ d v past k. let_in_on rank period rise d es upto v past k) t low) normal

pub none_repeated : (c : SpecCurve) (es : List Entering) (rank period rise : ℚ) (upto : ℕ) → FlowReads c es → IsCurve c → c.tail ≡ Periodic rank period rise
    → ((i : ℕ) → i < length c.pieces → HoldsAt rank period rise es (rank +ℚ period) upto (drop i c.pieces)) → NoneCrowded (value_at c) es upto
none_repeated c es rank period rise upto R C e holds i j m crowded =
    let window = R i j crowded.in_order crowded.entered in
    let s = (entering es i).time in
    let t = (entering es j).time in
    let low = sub_nonneg s t window.forward in
    not_both (value_at c (t -ℚ s)) (whole (bits_between i j es)) ((always_by c.pieces c.tail rank period rise (t -ℚ s) es upto e C.normal holds low).now i j crowded.in_order m low refl) crowded.more
