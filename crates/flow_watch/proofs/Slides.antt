-- A window of packets that slides: what holds of the packets so far, with one packet more.
use Rattle.std.specs.Prelude.{◌≡◌, ℕ, zero, suc, ◌+◌, ◌-◌, ◌*◌, ◌<◌, ◌≤◌, ◌^◌, pos, List, [], ◌∷◌, length, get_or}
use Rattle.std.specs.List.{slice_index_or}
use Rattle.std.proofs.Common.{arith, refl, sym, subst, ap, ◌∙◌, inl, inr, add-one}
use Rattle.std.proofs.lemmas.Bool.{cases_lt}
use Rattle.rational.specs.Rational.{ℚ, int, ◌-ℚ◌, ◌≤ℚ◌, ◌<ℚ◌}
use Rattle.rational.proofs.Laws.{le_trans, le_lt_trans, lt_irrefl}
use Rattle.rational.proofs.Linear.{with_atoms}
use Rattle.run_laws.specs.Cards.{whole}
use Rattle.run_laws.proofs.Sizes.{whole_le}
use Rattle.flow_watch.specs.declared.watch_laws.entering.Entering.{Entering}
use Rattle.flow_watch.specs.watch_laws.Entries.{entering, bits_between}
use Rattle.flow_watch.specs.Flows.{TimesRiseIn, gap, KeepsBefore, IsNarrow}
use Rattle.flow_watch.proofs.Buckets.{between_more, own_bits}
use Rattle.flow_watch.proofs.EntryLists.{bits_one_more}
use Rattle.flow_watch.proofs.LeastFirst.{get_same, read_is}

-- ---- one packet less at the start
pub bits_left : (es : List Entering) (first last bits : ℕ) (e : Entering) → first < last → last < length es → e ≡ slice_index_or es first e → bits ≡ bits_between first last es → bits ≡ e.bits + bits_between (suc first) last es
bits_left es first last bits e h l at is =
    let more = bits_one_more first last es (omega arith) l in
    let own = ap (λ (x : Entering). x.bits) (read_is es first e (omega arith) at) in
    omega (arith, more, own, is)

pub narrow_more : (end : ℚ) (es : List Entering) (first last bits left : ℕ) (e x : Entering) (d : ℚ) → first < last → last < length es → e ≡ slice_index_or es first e → d ≡ (get_or es last x).time -ℚ e.time → end ≤ℚ d
    → left + e.bits ≡ bits → IsNarrow end es last first bits → IsNarrow end es last (first + 1) left
narrow_more end es first last bits left e x d h m at f far rest K = rw add-one (record {
  in_order = omega arith;
  all = let all = bits_left es first last bits e h m at K.all in omega (arith, all, rest);
  far = λ i k. elim (cases_lt i first) [
    | inl n ↦ K.far i n
    | inr n ↦
        let same : first ≡ i = omega arith in
        let a = read_is es first e (omega arith) at in
        let b = get_same es last x record { time = int (pos 0); bits = 0 } m in
        let gap_is : d ≡ gap es first last = f ∙ ap (λ (p : Entering). p.time -ℚ e.time) b ∙ ap (λ (p : Entering). (entering es last).time -ℚ p.time) a in
        subst (λ (q : ℕ). end ≤ℚ gap es q last) same (subst (λ y. end ≤ℚ y) gap_is far)
  ];
})

-- ---- one packet more at the end
pub record IsSliding (v end : ℚ) (es : List Entering) (k first bits : ℕ) : Type 0 where
  pub none : k ≡ 0 → (first ≡ 0) × (bits ≡ 0)
  pub narrow : (j : ℕ) → suc j ≡ k → IsNarrow end es j first bits
  pub few : bits ≤ 2 ^ 32 * k
  pub keeps : KeepsBefore v end es k

pub wide_more : (v end : ℚ) (es : List Entering) (k first bits : ℕ) (e : Entering) → TimesRiseIn es → k < length es → e ≡ slice_index_or es k e → IsSliding v end es k first bits → IsNarrow end es k first (bits + e.bits)
wide_more v end es zero first bits e R l at K =
    let none = K.none refl in
    let n0 = none.0 in
    let n1 = none.1 in
    let own = own_bits 0 es l in
    let is = ap (λ (x : Entering). x.bits) (read_is es 0 e l at) in
    let first_is = ap (λ (n : ℕ). bits_between n 0 es) n0 in
    record { in_order = omega arith; all = omega (arith, own, is, n1, first_is); far = λ i m. absurd (omega arith) }
wide_more v end es (suc j) first bits e R l at K =
    let N = K.narrow j refl in
    let order = N.in_order in
    let all = N.all in
    let more = between_more first j es order l in
    let is = ap (λ (x : Entering). x.bits) (read_is es (suc j) e l at) in
    record {
      in_order = omega arith;
      all = omega (arith, all, more, is);
      far = λ i m.
          let old = N.far i m in
          let s = (entering es i).time in
          let t = (entering es j).time in
          let u = (entering es (suc j)).time in
          let rise = R j (suc j) (omega arith) l in
          with_atoms (end ∷ s ∷ t ∷ u ∷ []) (λ c. omega (arith, c.le, c.lt, c.same));
    }

fewer_bits : (es : List Entering) (first more last : ℕ) → first + more ≤ last → last < length es → bits_between (first + more) last es ≤ bits_between first last es
fewer_bits es first zero last h l =
    let same : first + 0 ≡ first = omega arith in
    let e = ap (λ (n : ℕ). bits_between n last es) same in
    omega (arith, e)
fewer_bits es first (suc more) last h l =
    let rest = fewer_bits es first more last (omega arith) l in
    let one = bits_one_more (first + more) last es (omega arith) l in
    let same : first + suc more ≡ suc (first + more) = omega arith in
    let e = ap (λ (n : ℕ). bits_between n last es) same in
    omega (arith, rest, one, e)

pub sliding_more : (v end : ℚ) (es : List Entering) (k first bits old_first old_bits wide : ℕ) (e : Entering) → k < length es → e.bits < 2 ^ 32 → wide ≡ old_bits + e.bits → bits ≤ wide → IsNarrow end es k first bits → whole bits ≤ℚ v
    → IsSliding v end es k old_first old_bits → IsSliding v end es (k + 1) first bits
sliding_more v end es k first bits old_first old_bits wide e l small sum fewer N most K = rw add-one (record {
  none = λ z. absurd (omega arith);
  narrow = λ j s. let same : k ≡ j = omega arith in subst (λ (n : ℕ). IsNarrow end es n first bits) same N;
  few = let few = K.few in omega (arith, few, sum, fewer, small);
  keeps = λ i j m n some near. elim (cases_lt j k) [
    | inl before ↦ K.keeps i j m before some near
    | inr late ↦
        let same : j ≡ k = omega arith in
        let m2 : i ≤ k = omega arith in
        let near2 : gap es i k <ℚ end = subst (λ (q : ℕ). gap es i q <ℚ end) same near in
        subst (λ (q : ℕ). whole (bits_between i q es) ≤ℚ v) (sym same) (here i m2 near2)
  ];
})
  where
    here : (i : ℕ) → i ≤ k → gap es i k <ℚ end → whole (bits_between i k es) ≤ℚ v
    here i m near = elim (cases_lt i first) [
      | inl n ↦ absurd (lt_irrefl end (le_lt_trans (N.far i n) near))
      | inr n ↦
          let (more, sum) = split i n in
          let less : bits_between i k es ≤ bits_between first k es =
          (let e = ap (λ (q : ℕ). bits_between q k es) sum in
          let f = fewer_bits es first more k (omega (arith, sum)) l in
          omega (arith, e, f)) in
          let all = N.all in
          le_trans (whole_le (bits_between i k es) bits (omega (arith, all, less))) most
    ]
      where
        split : (i : ℕ) → first ≤ i → (more : ℕ) × (i ≡ first + more)
        split i h = (i - first, omega arith)
