-- What a gauge of a queue tells after one step more at its server.
use Rattle.std.specs.Prelude.{Option, Some, None, ◌≡◌, ◌≢◌, ◌⊎◌, ℕ, pos, ◌+◌, ◌<◌, ◌≤◌, ◌^◌, Bool, true, false, ◌==◌, ◌&&◌, List, [], ◌∷◌, ◌++◌}
use Rattle.std.proofs.Common.{arith, refl, sym, ap, ◌∙◌, subst, inl, inr}
use Rattle.std.proofs.lemmas.Bool.{cases_Bool, eq-eqb, ne_eqb}
use Rattle.rational.specs.Rational.{ℚ, int, le_q, lt_q, ◌+ℚ◌, ◌-ℚ◌, ◌≤ℚ◌, ◌<ℚ◌}
use Rattle.rational.proofs.Laws.{le_refl, le_trans, le_of_lt, lt_le_trans, le_lt_trans, le_or_lt, antisym}
use Rattle.rational.proofs.Linear.{with2, with5, with6}
use Rattle.rational.proofs.Over.{le_q_out, lt_q_out}
use Rattle.rational.proofs.MinMax.{le_q_not, lt_q_not}
use Rattle.rational.proofs.Stretch.{not_earlier}
use Rattle.run_laws.specs.Cards.{Card, Class, of_queue, size, whole, ServerStep, Arrives, Works, Leaves, Visits, time_of}
use Rattle.run_laws.specs.Servers.{Discipline, Server, Under, ServerState, head_of, without_head}
use Rattle.run_laws.specs.Next.{next, next_inside, next_under, next_busy}
use Rattle.run_laws.specs.Allows.{Allows, MayLeave}
use Rattle.run_laws.specs.Counts.{when, total, arrives, leaves, upto, before}
use Rattle.run_laws.proofs.Sizes.{whole_le, whole_sum, size_nonneg}
use Rattle.run_laws.proofs.Sums.{when_true, when_false, when_nonneg}
use Rattle.run_laws.proofs.Heads.{same_some}
use Rattle.run_laws.proofs.States.{IsSoundFor, IsSound, leaving}
use Rattle.simulator.specs.declared.run_measures.gauge.Gauge.{Gauge}
use Rattle.simulator.specs.run_measures.Gauges.{counted, level_at, Gains, Loses}
use Rattle.simulator.specs.run_measures.Gauged.{bits_of, LeavesLater, WasThere, IsGauged}

-- ---- the bits of packets
pub bits_push : (C : Class) (cs : List Card) (d : Card) → bits_of C (cs ++ d ∷ []) ≡ bits_of C cs + counted (C d) d.bits
bits_push C [] d = omega arith
bits_push C (c ∷ cs) d = let h = bits_push C cs d in omega (arith, h)

pub bits_without : (C : Class) (q : ℕ) (c : Card) (cs : List Card) → head_of q cs ≡ Some c
    → bits_of C (without_head q cs) + counted (C c) c.bits ≡ bits_of C cs
bits_without C q c [] h = absurd (cc)
bits_without C q c (x ∷ cs) h = elim (cases_Bool (x.queue == q)) [
  | inl e ↦
      let k : x ≡ c = same_some x c (rw e at h) in
      let same : counted (C x) x.bits ≡ counted (C c) c.bits = ap (λ (y : Card). counted (C y) y.bits) k in
      rw e (omega (arith, same))
  | inr e ↦
      let k = bits_without C q c cs (rw e at h) in
      rw e (omega (arith, k))
]

pub counted_own : (b : Bool) (n : ℕ) → b ≡ true → counted b n ≡ n
counted_own b n e = rw e refl

pub counted_none : (b : Bool) (n : ℕ) → b ≡ false → counted b n ≡ 0
counted_none b n e = rw e refl

pub counted_most : (b : Bool) (n : ℕ) → counted b n ≤ n
counted_most true n = omega arith
counted_most false n = omega arith

-- ---- what the later steps leave of the backlog
rest_arrives : (x so a A L : ℚ) → x ≡ so +ℚ ((a +ℚ A) -ℚ (int (pos 0) +ℚ L)) → x ≡ (so +ℚ a) +ℚ (A -ℚ L)
rest_arrives x so a A L h = with5 x so a A L (λ c. omega (arith, c.le, c.lt, c.same))

rest_leaves : (x so l A L : ℚ) → x ≡ so +ℚ ((int (pos 0) +ℚ A) -ℚ (l +ℚ L)) → x ≡ (so -ℚ l) +ℚ (A -ℚ L)
rest_leaves x so l A L h = with5 x so l A L (λ c. omega (arith, c.le, c.lt, c.same))

rest_same : (x so a l A L : ℚ) → a ≡ int (pos 0) → l ≡ int (pos 0) → x ≡ so +ℚ ((a +ℚ A) -ℚ (l +ℚ L)) → x ≡ so +ℚ (A -ℚ L)
rest_same x so a l A L e f h = with6 x so a l A L (λ c. omega (arith, c.le, c.lt, c.same))

plus_none : (x y : ℚ) → y ≡ int (pos 0) → x +ℚ y ≡ x
plus_none x y h = with2 x y (λ c. omega (arith, c.le, c.lt, c.same))

minus_none : (x y : ℚ) → y ≡ int (pos 0) → x -ℚ y ≡ x
minus_none x y h = with2 x y (λ c. omega (arith, c.le, c.lt, c.same))

minus_less : (x y : ℚ) → int (pos 0) ≤ℚ y → x -ℚ y ≤ℚ x
minus_less x y h = with2 x y (λ c. omega (arith, c.le, c.lt, c.same))

minus_part : (x s b w l : ℚ) → x ≡ s -ℚ b → s ≡ w → w ≡ l +ℚ b → x ≡ l
minus_part x s b w l e f g = with5 x s b w l (λ c. omega (arith, c.le, c.lt, c.same))

-- ---- a step that is nothing to the queue
pub record IsOther (q : ℕ) (σ : ServerState) (y : ServerStep) (t : ℚ) : Type 0 where
  pub in_order : σ.now ≤ℚ time_of y
  pub none_arrives : (u : ℚ) → arrives (of_queue q) (upto u) y ≡ int (pos 0)
  pub none_leaves : (u : ℚ) → leaves (of_queue q) (before u) y ≡ int (pos 0)
  pub same_bits : bits_of (of_queue q) (next_inside σ.inside y) ≡ bits_of (of_queue q) σ.inside
  pub last : LeavesLater (next_under σ.under y) t (next_busy σ.busy y)

pub was_there : (so : ℚ → ℚ) (end now later : ℚ) (n : ℕ) → now ≤ℚ later → (n ≡ 0) ⊎ WasThere so end now n → (n ≡ 0) ⊎ WasThere so end later n
was_there so end now later n l (inl e) = inl e
was_there so end now later n l (inr w) = inr record { time = w.time; by_now = le_trans w.by_now l; in_run = w.in_run; there = w.there }

pub gauged_other : (B : ℚ → ℚ) (end : ℚ) (q : ℕ) (d : Discipline) (σ : ServerState) (y : ServerStep) (W : List ServerStep) (g : Gauge)
    → IsOther q σ y g.left_at → IsGauged B end q σ (y ∷ W) g → IsGauged B end q (next d σ y) W g
gauged_other B end q d σ y W g o h = record {
  so_far = h.so_far;
  rest = λ t.
      rest_same (B t) (h.so_far t) (arrives (of_queue q) (upto t) y) (leaves (of_queue q) (before t) y) (total (arrives (of_queue q) (upto t)) W) (total (leaves (of_queue q) (before t)) W)
      (o.none_arrives t) (o.none_leaves t) (h.rest t);
  present = h.present ∙ sym o.same_bits;
  short = h.short;
  level = λ t l. h.level t (le_trans o.in_order l);
  last = o.last;
  above = h.above;
  reached = was_there h.so_far end σ.now (time_of y) g.peak o.in_order h.reached;
}

-- ---- a packet of the queue arrives
own_class : (q k : ℕ) (p : Bool) (x : ℚ) → k ≡ q → when ((k == q) && p) x ≡ when p x
own_class q k p x e = rw (eq-eqb k q e) refl

other_class : (q k : ℕ) (p : Bool) (x : ℚ) → k ≢ q → when ((k == q) && p) x ≡ int (pos 0)
other_class q k p x n = when_false ((k == q) && p) x (rw (ne_eqb k q n) refl)

-- what was there at a time is there still, with what arrives up to then
later_level : (g g' : Gauge) (bits : ℕ) (t : ℚ) → Gains g g' bits t → (u : ℚ) → whole (level_at g u) +ℚ whole bits ≡ whole (level_at g' u)
later_level g g' bits t k u =
    let present = k.present in
    let left : counted (le_q u g'.left_at) g'.left ≡ counted (le_q u g.left_at) g.left =
    ap (λ (x : ℚ). counted (le_q u x) g'.left) k.left_at ∙ ap (counted (le_q u g.left_at)) k.left in
    sym (whole_sum (level_at g u) bits) ∙ ap whole (let e : level_at g u + bits ≡ level_at g' u = omega (arith, present, left) in e)

-- the level falls with the time
level_falls : (g : Gauge) (t u : ℚ) → t ≤ℚ u → level_at g u ≤ level_at g t
level_falls g t u l = elim (le_or_lt u g.left_at) [
  | inl e ↦
      let a = counted_own (le_q u g.left_at) g.left (le_q_out u g.left_at e) in
      let b = counted_own (le_q t g.left_at) g.left (le_q_out t g.left_at (le_trans l e)) in
      omega (arith, a, b)
  | inr e ↦ let a = counted_none (le_q u g.left_at) g.left (le_q_not u g.left_at e) in omega (arith, a)
]

-- the backlog without the later steps, once more packets have arrived
abbrev pub gained_by : (ℚ → ℚ) → ℕ → Card → ℚ → ℚ → ℚ
gained_by so q c τ t = so t +ℚ arrives (of_queue q) (upto t) (Arrives c τ)

gained_late : (so : ℚ → ℚ) (q : ℕ) (c : Card) (τ t : ℚ) → c.queue ≡ q → τ ≤ℚ t → gained_by so q c τ t ≡ so t +ℚ size c
gained_late so q c τ t e l =
    ap (λ x. so t +ℚ x) (own_class q c.queue (le_q τ t) (size c) e ∙ when_true (le_q τ t) (size c) (le_q_out τ t l))

gained_early : (so : ℚ → ℚ) (q : ℕ) (c : Card) (τ t : ℚ) → c.queue ≡ q → t <ℚ τ → gained_by so q c τ t ≡ so t
gained_early so q c τ t e l =
    plus_none (so t) (arrives (of_queue q) (upto t) (Arrives c τ))
    (own_class q c.queue (le_q τ t) (size c) e ∙ when_false (le_q τ t) (size c) (le_q_not τ t l))

gained_more : (so : ℚ → ℚ) (q : ℕ) (c : Card) (τ t : ℚ) → so t ≤ℚ gained_by so q c τ t
gained_more so q c τ t =
    not_earlier (so t) (arrives (of_queue q) (upto t) (Arrives c τ)) (when_nonneg (of_queue q c && le_q τ t) (size c) (size_nonneg c))

record IsGained (end : ℚ) (q : ℕ) (now : ℚ) (so : ℚ → ℚ) (c : Card) (τ : ℚ) (g g' : Gauge) : Type 0 where
  own : c.queue ≡ q
  in_order : now ≤ℚ τ
  in_run : τ ≤ℚ end
  gains : Gains g g' c.bits τ
  level : (t : ℚ) → now ≤ℚ t → so t ≡ whole (level_at g t)
  above : (t : ℚ) → so t ≤ℚ whole g.peak
  reached : (g.peak ≡ 0) ⊎ WasThere so end now g.peak

gained_level : (end : ℚ) (q : ℕ) (now : ℚ) (so : ℚ → ℚ) (c : Card) (τ : ℚ) (g g' : Gauge) → IsGained end q now so c τ g g'
    → (t : ℚ) → τ ≤ℚ t → gained_by so q c τ t ≡ whole (level_at g' t)
gained_level end q now so c τ g g' k t l =
    gained_late so q c τ t k.own l ∙ ap (λ x. x +ℚ size c) (k.level t (le_trans k.in_order l)) ∙ later_level g g' c.bits τ k.gains t

gained_above : (end : ℚ) (q : ℕ) (now : ℚ) (so : ℚ → ℚ) (c : Card) (τ : ℚ) (g g' : Gauge) → IsGained end q now so c τ g g'
    → (t : ℚ) → gained_by so q c τ t ≤ℚ whole g'.peak
gained_above end q now so c τ g g' k t = elim (le_or_lt τ t) [
  | inl l ↦
      let falls = level_falls g' τ t l in
      let most = k.gains.peak.second in
      subst (λ x. x ≤ℚ whole g'.peak) (sym (gained_level end q now so c τ g g' k t l)) (whole_le (level_at g' t) g'.peak (omega (arith, falls, most)))
  | inr l ↦
      subst (λ x. x ≤ℚ whole g'.peak) (sym (gained_early so q c τ t k.own l)) (le_trans (k.above t) (whole_le g.peak g'.peak k.gains.peak.first))
]

-- what was the most before, where it is the most still
gained_before : (end : ℚ) (q : ℕ) (now : ℚ) (so : ℚ → ℚ) (c : Card) (τ : ℚ) (g g' : Gauge) → IsGained end q now so c τ g g' → g'.peak ≡ g.peak
    → (g.peak ≡ 0) ⊎ WasThere so end now g.peak → (g'.peak ≡ 0) ⊎ WasThere (gained_by so q c τ) end τ g'.peak
gained_before end q now so c τ g g' k e (inl z) = inl (e ∙ z)
gained_before end q now so c τ g g' k e (inr w) =
    let more : whole g'.peak ≤ℚ gained_by so q c τ w.time =
    subst (λ x. x ≤ℚ gained_by so q c τ w.time) (w.there ∙ ap whole (sym e)) (gained_more so q c τ w.time) in
    inr record {
      time = w.time;
      by_now = le_trans w.by_now k.in_order;
      in_run = w.in_run;
      there = antisym (gained_above end q now so c τ g g' k w.time, more);
    }

gained_reached : (end : ℚ) (q : ℕ) (now : ℚ) (so : ℚ → ℚ) (c : Card) (τ : ℚ) (g g' : Gauge) → IsGained end q now so c τ g g'
    → (g'.peak ≡ 0) ⊎ WasThere (gained_by so q c τ) end τ g'.peak
gained_reached end q now so c τ g g' k = elim k.gains.peak.one [
  | inl e ↦ gained_before end q now so c τ g g' k e k.reached
  | inr e ↦ inr record {
    time = τ;
    by_now = le_refl τ;
    in_run = k.in_run;
    there = gained_level end q now so c τ g g' k τ (le_refl τ) ∙ ap whole (sym e);
  }
]

pub gauged_arrives : (B : ℚ → ℚ) (end : ℚ) (q : ℕ) (server : Server) (σ : ServerState) (c : Card) (τ : ℚ) (W : List ServerStep) (g g' : Gauge)
    → Allows server end σ (Arrives c τ) → c.queue ≡ q → Gains g g' c.bits τ → IsGauged B end q σ (Arrives c τ ∷ W) g
    → IsGauged B end q (next server.discipline σ (Arrives c τ)) W g'
gauged_arrives B end q server σ c τ W g g' a own gains h =
    let so = h.so_far in
    let k : IsGained end q σ.now so c τ g g' = record { own = own; in_order = a.0.in_order; in_run = a.0.in_run; gains = gains; level = h.level; above = h.above; reached = h.reached } in
    let pushed : bits_of (of_queue q) (σ.inside ++ c ∷ []) ≡ bits_of (of_queue q) σ.inside + c.bits =
    bits_push (of_queue q) σ.inside c ∙ ap (λ n. bits_of (of_queue q) σ.inside + n) (counted_own (of_queue q c) c.bits (eq-eqb c.queue q own)) in
    let before_is = h.present in
    let now_is = gains.present in
    record {
      so_far = gained_by so q c τ;
      rest = λ t. rest_arrives (B t) (so t) (arrives (of_queue q) (upto t) (Arrives c τ)) (total (arrives (of_queue q) (upto t)) W) (total (leaves (of_queue q) (before t)) W) (h.rest t);
      present = omega (arith, pushed, before_is, now_is);
      short = subst (λ n. n < 2 ^ 32) (sym gains.left) h.short;
      level = gained_level end q σ.now so c τ g g' k;
      last = subst (λ t. LeavesLater σ.under t σ.busy) (sym gains.left_at) h.last;
      above = gained_above end q σ.now so c τ g g' k;
      reached = gained_reached end q σ.now so c τ g g' k;
    }

-- ---- a packet of the queue leaves
abbrev pub lost_by : (ℚ → ℚ) → ℕ → Card → ℚ → ℚ → ℚ
lost_by so q c τ t = so t -ℚ leaves (of_queue q) (before t) (Leaves c τ)

lost_early : (so : ℚ → ℚ) (q : ℕ) (c : Card) (τ t : ℚ) → c.queue ≡ q → t ≤ℚ τ → lost_by so q c τ t ≡ so t
lost_early so q c τ t e l =
    minus_none (so t) (leaves (of_queue q) (before t) (Leaves c τ))
    (own_class q c.queue (lt_q τ t) (size c) e ∙ when_false (lt_q τ t) (size c) (lt_q_not τ t l))

lost_late : (so : ℚ → ℚ) (q : ℕ) (c : Card) (τ t : ℚ) → c.queue ≡ q → τ <ℚ t → lost_by so q c τ t ≡ so t -ℚ size c
lost_late so q c τ t e l =
    ap (λ x. so t -ℚ x) (own_class q c.queue (lt_q τ t) (size c) e ∙ when_true (lt_q τ t) (size c) (lt_q_out τ t l))

lost_less : (so : ℚ → ℚ) (q : ℕ) (c : Card) (τ t : ℚ) → lost_by so q c τ t ≤ℚ so t
lost_less so q c τ t =
    minus_less (so t) (leaves (of_queue q) (before t) (Leaves c τ)) (when_nonneg (of_queue q c && lt_q τ t) (size c) (size_nonneg c))

-- a packet that leaves does so after the last one before it, and at the end of the work
record LeavesNow (under : Option Under) (left_at busy τ : ℚ) : Type 0 where
  later : left_at <ℚ τ
  at_end : τ ≤ℚ busy

leaves_now : (cards : List Card) (busy : ℚ) (under : Option Under) (c : Card) (left_at τ : ℚ) → IsSoundFor cards busy under → MayLeave under c τ
    → LeavesLater under left_at busy → LeavesNow under left_at busy τ
leaves_now cards busy None c left_at τ s m l = absurd m
leaves_now cards busy (Some u) c left_at τ s m l =
    let e : busy ≡ τ = s.at_end ∙ sym m.at_end in
    record { later = subst (λ x. left_at <ℚ x) e l; at_end = subst (λ x. τ ≤ℚ x) (sym e) (le_refl τ) }

-- the level after that
level_then : (g g' : Gauge) (bits : ℕ) (τ t : ℚ) → Loses g g' bits τ → g.left_at <ℚ τ → τ ≤ℚ t → t ≤ℚ τ → level_at g t ≡ level_at g' t
level_then g g' bits τ t k l from to =
    let a = counted_none (le_q t g.left_at) g.left (le_q_not t g.left_at (lt_le_trans l from)) in
    let b : counted (le_q t g'.left_at) g'.left ≡ bits =
    ap (λ (x : ℚ). counted (le_q t x) g'.left) k.left_at ∙ counted_own (le_q t τ) g'.left (le_q_out t τ to) ∙ k.left in
    let present = k.present in
    omega (arith, a, b, present)

level_later : (g g' : Gauge) (bits : ℕ) (τ t : ℚ) → Loses g g' bits τ → g.left_at <ℚ τ → τ <ℚ t → level_at g t ≡ level_at g' t + bits
level_later g g' bits τ t k l from =
    let a = counted_none (le_q t g.left_at) g.left (le_q_not t g.left_at (lt_le_trans l (le_of_lt from))) in
    let b : counted (le_q t g'.left_at) g'.left ≡ 0 =
    ap (λ (x : ℚ). counted (le_q t x) g'.left) k.left_at ∙ counted_none (le_q t τ) g'.left (le_q_not t τ from) in
    let present = k.present in
    omega (arith, a, b, present)

lost_level : (so : ℚ → ℚ) (q : ℕ) (c : Card) (now τ : ℚ) (g g' : Gauge) → c.queue ≡ q → now ≤ℚ τ → Loses g g' c.bits τ → g.left_at <ℚ τ
    → ((t : ℚ) → now ≤ℚ t → so t ≡ whole (level_at g t)) → (t : ℚ) → τ ≤ℚ t → lost_by so q c τ t ≡ whole (level_at g' t)
lost_level so q c now τ g g' own order k l level t from = elim (le_or_lt t τ) [
  | inl to ↦ lost_early so q c τ t own to ∙ level t (le_trans order from) ∙ ap whole (level_then g g' c.bits τ t k l from to)
  | inr past ↦
      let less : lost_by so q c τ t ≡ so t -ℚ size c = lost_late so q c τ t own past in
      let was : so t ≡ whole (level_at g' t + c.bits) = level t (le_trans order from) ∙ ap whole (level_later g g' c.bits τ t k l past) in
      let sum : whole (level_at g' t + c.bits) ≡ whole (level_at g' t) +ℚ size c = whole_sum (level_at g' t) c.bits in
      minus_part (lost_by so q c τ t) (so t) (size c) (whole (level_at g' t + c.bits)) (whole (level_at g' t)) less was sum
]

lost_reached : (so : ℚ → ℚ) (end : ℚ) (q : ℕ) (c : Card) (now τ : ℚ) (n m : ℕ) → c.queue ≡ q → now ≤ℚ τ → m ≡ n → (n ≡ 0) ⊎ WasThere so end now n
    → (m ≡ 0) ⊎ WasThere (lost_by so q c τ) end τ m
lost_reached so end q c now τ n m own order e (inl z) = inl (e ∙ z)
lost_reached so end q c now τ n m own order e (inr w) = inr record {
  time = w.time;
  by_now = le_trans w.by_now order;
  in_run = w.in_run;
  there = lost_early so q c τ w.time own (le_trans w.by_now order) ∙ w.there ∙ ap whole (sym e);
}

-- the packet that leaves is there
pub held_bits : (q : ℕ) (σ : ServerState) (c : Card) (τ : ℚ) → IsSound σ → MayLeave σ.under c τ → c.queue ≡ q
    → bits_of (of_queue q) (without_head c.queue σ.inside) + c.bits ≡ bits_of (of_queue q) σ.inside
held_bits q σ c τ sound may own =
    let without = bits_without (of_queue q) c.queue c σ.inside (leaving σ.inside σ.busy σ.under c τ sound may) in
    let all = counted_own (of_queue q c) c.bits (eq-eqb c.queue q own) in
    omega (arith, without, all)

pub gauged_leaves : (B : ℚ → ℚ) (end : ℚ) (q : ℕ) (server : Server) (σ : ServerState) (c : Card) (τ : ℚ) (W : List ServerStep) (g g' : Gauge)
    → Allows server end σ (Leaves c τ) → IsSound σ → c.bits < 2 ^ 32 → c.queue ≡ q → Loses g g' c.bits τ → IsGauged B end q σ (Leaves c τ ∷ W) g
    → IsGauged B end q (next server.discipline σ (Leaves c τ)) W g'
gauged_leaves B end q server σ c τ W g g' a sound short own loses h =
    let so = h.so_far in
    let order = a.0.in_order in
    let now = leaves_now σ.inside σ.busy σ.under c g.left_at τ sound a.1 h.last in
    let held = held_bits q σ c τ sound a.1 own in
    let before_is = h.present in
    let now_is = loses.present in
    record {
      so_far = lost_by so q c τ;
      rest = λ t. rest_leaves (B t) (so t) (leaves (of_queue q) (before t) (Leaves c τ)) (total (arrives (of_queue q) (upto t)) W) (total (leaves (of_queue q) (before t)) W) (h.rest t);
      present = omega (arith, held, before_is, now_is);
      short = subst (λ n. n < 2 ^ 32) (sym loses.left) short;
      level = lost_level so q c σ.now τ g g' own order loses now.later h.level;
      last = subst (λ t. t ≤ℚ σ.busy) (sym loses.left_at) now.at_end;
      above = λ t. subst (λ n. lost_by so q c τ t ≤ℚ whole n) (sym loses.peak) (le_trans (lost_less so q c τ t) (h.above t));
      reached = lost_reached so end q c σ.now τ g.peak g'.peak own order loses.peak h.reached;
    }

-- ---- which steps are nothing to a queue
not_later : (under : Option Under) (t busy : ℚ) → LeavesLater under t busy → t ≤ℚ busy
not_later None t busy h = h
not_later (Some u) t busy h = le_of_lt h

pub other_arrives : (end : ℚ) (q : ℕ) (server : Server) (σ : ServerState) (c : Card) (τ t : ℚ) → Allows server end σ (Arrives c τ) → c.queue ≢ q
    → LeavesLater σ.under t σ.busy → IsOther q σ (Arrives c τ) t
other_arrives end q server σ c τ t a n h = record {
  in_order = a.0.in_order;
  none_arrives = λ u. other_class q c.queue (le_q τ u) (size c) n;
  none_leaves = λ u. refl;
  same_bits =
      let pushed = bits_push (of_queue q) σ.inside c in
      let none = counted_none (of_queue q c) c.bits (ne_eqb c.queue q n) in
      omega (arith, pushed, none);
  last = h;
}

pub other_leaves : (end : ℚ) (q : ℕ) (server : Server) (σ : ServerState) (c : Card) (τ t : ℚ) → Allows server end σ (Leaves c τ) → IsSound σ → c.queue ≢ q
    → LeavesLater σ.under t σ.busy → IsOther q σ (Leaves c τ) t
other_leaves end q server σ c τ t a sound n h = record {
  in_order = a.0.in_order;
  none_arrives = λ u. refl;
  none_leaves = λ u. other_class q c.queue (lt_q τ u) (size c) n;
  same_bits =
      let without = bits_without (of_queue q) c.queue c σ.inside (leaving σ.inside σ.busy σ.under c τ sound a.1) in
      let none = counted_none (of_queue q c) c.bits (ne_eqb c.queue q n) in
      omega (arith, without, none);
  last = not_later σ.under t σ.busy h;
}

pub other_works : (end : ℚ) (q : ℕ) (server : Server) (σ : ServerState) (c : Card) (a b w t : ℚ) → Allows server end σ (Works c a b w)
    → LeavesLater σ.under t σ.busy → IsOther q σ (Works c a b w) t
other_works end q server σ c a b w t m h = record {
  in_order = m.0.in_order;
  none_arrives = λ u. refl;
  none_leaves = λ u. refl;
  same_bits = refl;
  last = le_lt_trans (le_trans (not_later σ.under t σ.busy h) m.1.no_overlap) m.1.forward;
}

pub other_visits : (end : ℚ) (q : ℕ) (server : Server) (σ : ServerState) (k : ℕ) (τ t : ℚ) → Allows server end σ (Visits k τ)
    → LeavesLater σ.under t σ.busy → IsOther q σ (Visits k τ) t
other_visits end q server σ k τ t m h = record {
  in_order = m.0.in_order;
  none_arrives = λ u. refl;
  none_leaves = λ u. refl;
  same_bits = refl;
  last = h;
}
