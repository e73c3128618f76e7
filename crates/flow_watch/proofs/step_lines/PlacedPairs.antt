-- Packets that are placed against a line, one more at a time, and what it tells of the bits between two of them.
use Rattle.std.specs.Prelude.{◌≡◌, ℕ, zero, suc, ◌+◌, ◌-◌, ◌*◌, ◌<◌, ◌≤◌, ◌^◌, pos, List, [], ◌∷◌, ◌++◌, length}
use Rattle.std.specs.List.{slice_index_or}
use Rattle.std.proofs.Common.{arith, refl, sym, subst, ap, ◌∙◌, inl, inr, add-one}
use Rattle.std.proofs.lemmas.Bool.{cases_lt}
use Rattle.std.proofs.lemmas.List.{get_or_read, get_or_push, get_or_append_left, length_push}
use Rattle.rational.specs.Rational.{ℚ, int, ◌+ℚ◌, ◌-ℚ◌, ◌*ℚ◌, ◌/ℚ◌, ◌≤ℚ◌, ◌<ℚ◌}
use Rattle.rational.specs.MinMax.{min_q}
use Rattle.rational.specs.Whole.{whole_part}
use Rattle.rational.proofs.Integers.{nat_nonneg, nat_next}
use Rattle.rational.proofs.Laws.{add_mul, div_mul, le_of_lt, le_of_mul, le_or_lt, le_trans, mul_le_mul_right, mul_sub, not_zero, zero_mul}
use Rattle.rational.proofs.Linear.{with_atoms}
use Rattle.rational.proofs.MinMax.{min_q_le_left, min_q_le_right}
use Rattle.rational.proofs.Whole.{whole_gt, whole_le as whole_part_le}
use Rattle.run_laws.specs.Cards.{whole}
use Rattle.run_laws.proofs.Sizes.{whole_le, whole_sum}
use Rattle.flow_watch.specs.declared.watch_laws.entering.Entering.{Entering}
use Rattle.flow_watch.specs.watch_laws.Entries.{entering, bits_to, bits_between}
use Rattle.flow_watch.specs.declared.step_lines.places.Placed.{Placed}
use Rattle.flow_watch.specs.step_lines.Lows.{Covers}
use Rattle.flow_watch.specs.step_lines.Lines.{KeepsLine}
use Rattle.flow_watch.specs.step_lines.Places.{bits_under, IsFill, IsPlaced, no_place, placed, ArePlaced, IsNear, KeepPlaces, IsIn}

-- ---- what bits fill
pub is_fill : (height ratio steps over amount : ℚ) → int (pos 0) <ℚ height → int (pos 0) ≤ℚ amount → ratio ≡ amount /ℚ height → steps ≡ int (pos (whole_part ratio)) → over ≡ ratio -ℚ steps
    → IsFill height amount record { steps = steps; over = over }
is_fill height ratio steps over amount high some e f g =
    let times : ratio *ℚ height ≡ amount = ap (λ x. x *ℚ height) e ∙ div_mul amount height (not_zero height high) in
    let run = ratio *ℚ height in
    let none = int (pos 0) *ℚ height in
    let none_is : none ≡ int (pos 0) = zero_mul height in
    let zero_q = int (pos 0) in
    let positive : int (pos 0) ≤ℚ ratio = le_of_mul height (int (pos 0)) ratio high (with_atoms (none ∷ run ∷ amount ∷ zero_q ∷ []) (λ c. omega (arith, c.le, c.lt, c.same))) in
    let n = int (pos (whole_part ratio)) in
    let m = int (pos (suc (whole_part ratio))) in
    let low : n ≤ℚ ratio = whole_part_le ratio positive in
    let high : ratio <ℚ m = whole_gt ratio in
    let next : m ≡ n +ℚ int (pos 1) = nat_next (whole_part ratio) in
    let parts : steps +ℚ over ≡ ratio = with_atoms (steps ∷ over ∷ ratio ∷ []) (λ c. omega (arith, c.le, c.lt, c.same, c.same_in)) in
    record {
      number = whole_part ratio;
      is = f;
      all = ap (λ x. x *ℚ height) parts ∙ times;
      low = with_atoms (steps ∷ over ∷ ratio ∷ n ∷ []) (λ c. omega (arith, c.le, c.lt, c.same));
      high = with_atoms (steps ∷ over ∷ ratio ∷ n ∷ m ∷ []) (λ c. omega (arith, c.le, c.lt, c.same));
    }

pub some_whole : (x : ℚ) (n : ℕ) → x ≡ whole n → int (pos 0) ≤ℚ x
some_whole x n e = subst (λ y. int (pos 0) ≤ℚ y) (sym e) (nat_nonneg n)

pub some_sum : (x spare sum : ℚ) (n : ℕ) → x ≡ whole n → int (pos 0) ≤ℚ spare → sum ≡ x +ℚ spare → int (pos 0) ≤ℚ sum
some_sum x spare sum n e some f =
    let low = some_whole x n e in
    with_atoms (x ∷ spare ∷ sum ∷ []) (λ c. omega (arith, c.le, c.lt, c.same))

-- ---- bits
under_more : (k : ℕ) (es : List Entering) → k < length es → bits_under (suc k) es ≡ bits_under k es + (entering es k).bits
under_more k [] l = absurd (omega arith)
under_more zero (e ∷ es) l = omega arith
under_more (suc k) (e ∷ es) l = let rest = under_more k es (omega arith) in omega (arith, rest)

under_to : (j : ℕ) (es : List Entering) → j < length es → bits_under (suc j) es ≡ bits_to j es
under_to j [] l = absurd (omega arith)
under_to zero (e ∷ es) l = omega arith
under_to (suc j) (e ∷ es) l = let rest = under_to j es (omega arith) in omega (arith, rest)

under_between : (i j : ℕ) (es : List Entering) → i ≤ j → j < length es → bits_under (suc j) es ≡ bits_under i es + bits_between i j es
under_between i j [] h l = absurd (omega arith)
under_between zero j (e ∷ es) h l = let all = under_to j (e ∷ es) l in omega (arith, all)
under_between (suc i) zero (e ∷ es) h l = absurd (omega arith)
under_between (suc i) (suc j) (e ∷ es) h l = let rest = under_between i j es (omega arith) (omega arith) in omega (arith, rest)

-- ---- one packet more
-- before packet k is placed: so many bits so far
pub record IsPlacing (height spare rate : ℚ) (es : List Entering) (k bits : ℕ) (ps : List Placed) : Type 0 where
  pub so_far : bits ≡ bits_under k es
  pub few : bits ≤ 2 ^ 32 * k
  pub are : ArePlaced height spare rate es ps k

pub placing_none : (height spare rate : ℚ) (es : List Entering) (ps : List Placed) → ps ≡ [] → IsPlacing height spare rate es 0 0 ps
placing_none height spare rate es ps e = record {
  so_far = refl;
  few = omega arith;
  are = record { count = ap length e; each = λ k l. absurd (omega arith) };
}

pub placing_more : (height spare rate : ℚ) (es : List Entering) (k bits : ℕ) (ps qs : List Placed) (p : Placed) (e : Entering) (under upto most : ℚ) → k < length es → e ≡ slice_index_or es k e → e.bits < 2 ^ 32
    → under ≡ whole bits → upto ≡ whole (bits + e.bits) → most ≡ upto +ℚ spare → IsPlaced height rate e.time under most p → qs ≡ ps ++ p ∷ [] → IsPlacing height spare rate es k bits ps
    → IsPlacing height spare rate es (k + 1) (bits + e.bits) qs
placing_more height spare rate es k bits ps qs p e under upto most l at few low high sum P pushed K = rw add-one (record {
  so_far = sums;
  few = let old = K.few in omega arith;
  are = record {
    count = ap length pushed ∙ length_push ps p ∙ (let count = K.are.count in omega arith);
    each = λ i m. elim (cases_lt i k) [
      | inl n ↦ subst (At i) (sym (before_it i n)) (K.are.each i n)
      | inr n ↦ let same : k ≡ i = omega arith in subst (λ (q : ℕ). At q (placed qs q)) same here
    ];
  };
})
  where
    At : ℕ → Placed → Type 0
    At i q = IsPlaced height rate (entering es i).time (whole (bits_under i es)) (whole (bits_under (suc i) es) +ℚ spare) q

    is : e ≡ entering es k
    is = get_or_read es k e l at record { time = int (pos 0); bits = 0 }

    sums : bits + e.bits ≡ bits_under (suc k) es
    sums =
        let old = K.so_far in
        let own = ap (λ (x : Entering). x.bits) is in
        let more = under_more k es l in
        omega (arith, old, own, more)

    before_it : (i : ℕ) → i < k → placed qs i ≡ placed ps i
    before_it i n = ap (λ (xs : List Placed). placed xs i) pushed ∙ get_or_append_left ps (p ∷ []) no_place i (let count = K.are.count in omega arith)

    under_is : under ≡ whole (bits_under k es)
    under_is = low ∙ ap whole K.so_far

    most_is : most ≡ whole (bits_under (suc k) es) +ℚ spare
    most_is = sum ∙ ap (λ x. x +ℚ spare) (high ∙ ap whole sums)

    here : At k (placed qs k)
    here =
        subst (At k) (sym (ap (λ (xs : List Placed). placed xs k) pushed ∙ get_or_push ps p no_place k K.are.count))
        (subst (λ (x : Entering). IsPlaced height rate x.time (whole (bits_under k es)) (whole (bits_under (suc k) es) +ℚ spare) p) is
        (subst (λ x. IsPlaced height rate e.time (whole (bits_under k es)) x p) most_is (subst (λ x. IsPlaced height rate e.time x most p) under_is P)))

-- ---- one packet more that is within the slack
-- the packets so far are let in, with lags of at least `least`
pub record AreLaid (slack wide : ℚ) (parts nodes : List ℚ) (ps : List Placed) (k : ℕ) (least : ℚ) : Type 0 where
  pub lags : (i : ℕ) → i < k → least ≤ℚ (placed ps i).lag
  pub ins : (i : ℕ) → i < k → IsIn parts nodes (placed ps i)
  pub keep : KeepPlaces slack wide ps k

pub laid_more : (slack wide : ℚ) (parts old nodes : List ℚ) (ps : List Placed) (k : ℕ) (least next near : ℚ) (p : Placed) → k < length ps → p ≡ slice_index_or ps k p → IsIn parts nodes p
    → ((at : ℕ) (v : ℚ) → Covers old v at → Covers nodes v at) → next ≡ min_q least p.lag → p.lead ≤ℚ next +ℚ wide
    → ((a : Placed) → IsIn parts nodes a → a.before <ℚ p.after → near ≤ℚ a.lag) → p.lead ≤ℚ near +ℚ slack → AreLaid slack wide parts old ps k least → AreLaid slack wide parts nodes ps (k + 1) next
laid_more slack wide parts old nodes ps k least next near p l at in_it still low far under close K = record {
  lags = lags;
  ins = ins;
  keep = λ i j m n. elim (cases_lt j k) [
    | inl before ↦ K.keep i j m before
    | inr late ↦
        let same : k ≡ j = omega arith in
        subst (λ (q : ℕ). IsNear slack wide (placed ps i) (placed ps q)) same (subst (IsNear slack wide (placed ps i)) is (near_it i (omega arith)))
  ];
}
  where
    is : p ≡ placed ps k
    is = get_or_read ps k p l at no_place

    lags : (i : ℕ) → i < k + 1 → next ≤ℚ (placed ps i).lag
    lags i m = elim (cases_lt i k) [
      | inl n ↦ le_trans (subst (λ x. x ≤ℚ least) (sym low) (min_q_le_left least p.lag)) (K.lags i n)
      | inr n ↦
          let same : k ≡ i = omega arith in
          subst (λ (q : ℕ). next ≤ℚ (placed ps q).lag) same (subst (λ (x : Placed). next ≤ℚ x.lag) is (subst (λ x. x ≤ℚ p.lag) (sym low) (min_q_le_right least p.lag)))
    ]

    ins : (i : ℕ) → i < k + 1 → IsIn parts nodes (placed ps i)
    ins i m = elim (cases_lt i k) [
      | inl n ↦
          let I = K.ins i n in
          record { at = I.at; in_range = I.in_range; is = I.is; covers = still (length parts + I.at) (placed ps i).lag I.covers }
      | inr n ↦ let same : k ≡ i = omega arith in subst (λ (q : ℕ). IsIn parts nodes (placed ps q)) same (subst (IsIn parts nodes) is in_it)
    ]

    more : (x y z w : ℚ) → x ≤ℚ y +ℚ w → y ≤ℚ z → x ≤ℚ z +ℚ w
    more x y z w h m = with_atoms (x ∷ y ∷ z ∷ w ∷ []) (λ c. omega (arith, c.le, c.lt, c.same))

    near_it : (i : ℕ) → i < k + 1 → IsNear slack wide (placed ps i) p
    near_it i m = record {
      by_more = more p.lead next (placed ps i).lag wide far (lags i m);
      by_less = λ less. more p.lead near (placed ps i).lag slack close (under (placed ps i) (ins i m) less);
    }

-- ---- the bits between two packets
steps_hold : (height spare x y : ℚ) (under upto bits n : ℕ) → int (pos 0) <ℚ height → x *ℚ height ≡ whole under → y *ℚ height ≡ whole upto +ℚ spare → upto ≡ under + bits → y ≤ℚ x +ℚ whole (suc n)
    → whole bits +ℚ spare ≤ℚ whole (suc n) *ℚ height
steps_hold height spare x y under upto bits n high e f sum h =
    let times = mul_le_mul_right height (le_of_lt high) h in
    let parts = add_mul x (whole (suc n)) height in
    let sums : whole upto ≡ whole under +ℚ whole bits = ap whole sum ∙ whole_sum under bits in
    let a = x *ℚ height in
    let b = y *ℚ height in
    let c = (x +ℚ whole (suc n)) *ℚ height in
    let d = whole (suc n) *ℚ height in
    let p = whole under in
    let q = whole upto in
    let r = whole bits in
    with_atoms (a ∷ b ∷ c ∷ d ∷ p ∷ q ∷ r ∷ spare ∷ []) (λ k. omega (arith, k.le, k.lt, k.same))

few_steps : (first last : ℕ) (value : ℚ) → int (pos 0) ≤ℚ value → whole last ≤ℚ whole first +ℚ value → whole (last - first) ≤ℚ value
few_steps first last value some h = elim (cases_lt first last) [
  | inl l ↦
      let all : last ≡ first + (last - first) = omega arith in
      let sum : whole last ≡ whole first +ℚ whole (last - first) = ap whole all ∙ whole_sum first (last - first) in
      let a = whole first in
      let b = whole last in
      let c = whole (last - first) in
      with_atoms (a ∷ b ∷ c ∷ value ∷ []) (λ k. omega (arith, k.le, k.lt, k.same))
  | inr l ↦ let none : 0 ≡ last - first = omega arith in subst (λ (n : ℕ). whole n ≤ℚ value) none some
]

whole_more : (last first n : ℕ) → last ≤ first + n → whole last ≤ℚ whole first +ℚ whole n
whole_more last first n h = subst (λ x. whole last ≤ℚ x) (whole_sum first n) (whole_le last (first + n) h)

reach_more : (p q x y slack wide run rs rt start : ℚ) → x ≡ p → y ≡ q → wide ≡ slack +ℚ int (pos 1) → start ≡ p +ℚ int (pos 1) → run ≡ rt -ℚ rs → y -ℚ rt ≤ℚ x -ℚ rs +ℚ wide → q ≤ℚ start +ℚ (slack +ℚ run)
reach_more p q x y slack wide run rs rt start e f more next parts h = with_atoms (p ∷ q ∷ x ∷ y ∷ slack ∷ wide ∷ run ∷ rs ∷ rt ∷ start ∷ []) (λ k. omega (arith, k.le, k.lt, k.same))

reach_less : (p q x y slack run rs rt : ℚ) → x ≡ p → y ≡ q → run ≡ rt -ℚ rs → y -ℚ rt ≤ℚ x -ℚ rs +ℚ slack → q ≤ℚ p +ℚ (slack +ℚ run)
reach_less p q x y slack run rs rt e f parts h = with_atoms (p ∷ q ∷ x ∷ y ∷ slack ∷ run ∷ rs ∷ rt ∷ []) (λ k. omega (arith, k.le, k.lt, k.same))

enough_less : (p q x y u v w : ℚ) → x ≡ p → y ≡ q → v ≤ℚ u → q ≤ℚ p +ℚ w → y +ℚ v ≤ℚ x +ℚ u +ℚ w
enough_less p q x y u v w e f l order = with_atoms (p ∷ q ∷ x ∷ y ∷ u ∷ v ∷ w ∷ []) (λ k. omega (arith, k.le, k.lt, k.same))

enough_more : (p q x y u v w z : ℚ) → x ≡ p → y ≡ q → int (pos 0) ≤ℚ u → v ≤ℚ int (pos 1) → w ≡ z +ℚ int (pos 1) → q ≤ℚ p +ℚ z → y +ℚ v ≤ℚ x +ℚ u +ℚ w
enough_more p q x y u v w z e f low top next order = with_atoms (p ∷ q ∷ x ∷ y ∷ u ∷ v ∷ w ∷ z ∷ []) (λ k. omega (arith, k.le, k.lt, k.same))

-- x and u are the steps and the part under the one, y and v those up to the other
pair_of : (height spare slack wide rate s t x u y v : ℚ) (first last under upto bits : ℕ) → int (pos 0) <ℚ height → wide ≡ slack +ℚ int (pos 1) → x ≡ whole first → y ≡ whole last → (x +ℚ u) *ℚ height ≡ whole under → (y +ℚ v) *ℚ height ≡ whole upto +ℚ spare
    → int (pos 0) ≤ℚ u → v ≤ℚ int (pos 1) → upto ≡ under + bits → y -ℚ rate *ℚ t ≤ℚ x -ℚ rate *ℚ s +ℚ wide → (u <ℚ v → y -ℚ rate *ℚ t ≤ℚ x -ℚ rate *ℚ s +ℚ slack) → int (pos 0) ≤ℚ slack +ℚ rate *ℚ (t -ℚ s)
    → (n : ℕ) × (whole bits +ℚ spare ≤ℚ whole (suc n) *ℚ height) × (whole n ≤ℚ slack +ℚ rate *ℚ (t -ℚ s))
pair_of height spare slack wide rate s t x u y v first last under upto bits high more e f held_x held_y low top sum by_more by_less some =
    let p = whole first in
    let q = whole last in
    let value = slack +ℚ rate *ℚ (t -ℚ s) in
    let run = rate *ℚ (t -ℚ s) in
    let rs = rate *ℚ s in
    let rt = rate *ℚ t in
    let parts = mul_sub rate t s in
    elim (le_or_lt v u) [
      | inl l ↦
          let n = last - suc first in
          let w = whole (suc n) in
          let start = whole (suc first) in
          let order = whole_more last first (suc n) (omega arith) in (
            n,
            steps_hold height spare (x +ℚ u) (y +ℚ v) under upto bits n high held_x held_y sum (enough_less p q x y u v w e f l order),
            few_steps (suc first) last value some (reach_more p q x y slack wide run rs rt start e f more (nat_next first) parts by_more),
          )
      | inr l ↦
          let n = last - first in
          let w = whole (suc n) in
          let z = whole n in
          let order = whole_more last first n (omega arith) in (
            n,
            steps_hold height spare (x +ℚ u) (y +ℚ v) under upto bits n high held_x held_y sum (enough_more p q x y u v w z e f low top (nat_next n) order),
            few_steps first last value some (reach_less p q x y slack run rs rt e f parts (by_less l)),
          )
    ]

pub pair_holds : (height spare slack wide rate s t past_a under_b : ℚ) (under upto bits : ℕ) (a b : Placed) → int (pos 0) <ℚ height → wide ≡ slack +ℚ int (pos 1) → IsPlaced height rate s (whole under) past_a a → IsPlaced height rate t under_b (whole upto +ℚ spare) b
    → upto ≡ under + bits → IsNear slack wide a b → int (pos 0) ≤ℚ slack +ℚ rate *ℚ (t -ℚ s)
    → (n : ℕ) × (whole bits +ℚ spare ≤ℚ whole (suc n) *ℚ height) × (whole n ≤ℚ slack +ℚ rate *ℚ (t -ℚ s))
pair_holds height spare slack wide rate s t past_a under_b under upto bits a b high more A B sum near some =
    let F = A.fills_under in
    let G = B.fills_upto in
    let x = A.before.steps in
    let y = B.after.steps in
    let lag = A.between.lag_is in
    let lead = B.between.lead_is in
    pair_of height spare slack wide rate s t x A.before.over y B.after.over F.number G.number under upto bits high more F.is G.is F.all G.all F.low G.high sum
    (subst (λ z. z ≤ℚ x -ℚ rate *ℚ s +ℚ wide) lead (subst (λ z. b.lead ≤ℚ z +ℚ wide) lag near.by_more))
    (λ less. subst (λ z. z ≤ℚ x -ℚ rate *ℚ s +ℚ slack) lead (subst (λ z. b.lead ≤ℚ z +ℚ slack) lag
    (near.by_less (subst (λ z. z <ℚ b.after) (sym A.between.before_is) (subst (λ z. A.before.over <ℚ z) (sym B.between.after_is) less))))) some

pub line_kept : (height spare slack wide rate : ℚ) (es : List Entering) (ps : List Placed) (upto : ℕ) → int (pos 0) <ℚ height → wide ≡ slack +ℚ int (pos 1) → ArePlaced height spare rate es ps (length es) → upto ≤ length ps → KeepPlaces slack wide ps upto
    → KeepsLine height spare slack rate es upto
line_kept height spare slack wide rate es ps upto high more P within K i j order l some =
    let count = P.count in
    pair_holds height spare slack wide rate (entering es i).time (entering es j).time (whole (bits_under (suc i) es) +ℚ spare) (whole (bits_under j es)) (bits_under i es) (bits_under (suc j) es) (bits_between i j es) (placed ps i) (placed ps j) high more
    (P.each i (omega arith)) (P.each j (omega arith)) (under_between i j es order (omega arith)) (K i j order l) some
