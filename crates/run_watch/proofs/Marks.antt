-- Marks are kept in a queue whose keys fall: its first is the greatest of those that are near enough.
use Rattle.std.specs.Prelude.{◌↔◌, Bool, true, false, not, IsTrue, ◌≡◌, ◌⊎◌, ℕ, zero, suc, ◌+◌, ◌-◌, ◌<◌, ◌≤◌, List, [], ◌∷◌, ◌++◌, length, take, drop, Option, Some, None}
use Rattle.std.specs.List.{slice_index_or}
use Rattle.std.specs.Option.{option_to_list}
use Rattle.std.proofs.Common.{true≢false, arith, refl, sym, subst, ap, ◌∙◌, inl, inr}
use Rattle.rational.specs.Rational.{ℚ, ◌+ℚ◌, ◌≤ℚ◌, ◌<ℚ◌}
use Rattle.rational.proofs.Laws.{le_refl, le_trans, le_of_lt, lt_le_trans, lt_irrefl, le_of_not_lt}
use Rattle.rational.proofs.Linear.{with_atoms, with4}
use Rattle.flow_watch.specs.declared.watch_laws.mark.Mark.{Mark}
use Rattle.flow_watch.specs.declared.watch_laws.mark.Rule.{Rule}
use Rattle.flow_watch.specs.watch_laws.Marks.{Each, Has, TimesRise, IsPast, IsUnder, IsOver, IsUnderSome}
use Rattle.run_watch.specs.Queue.{Falls, HasStandIn, Scans, EndsAbove, StartsNear, IsNotFar, Lowered, Passed, FrontUnder, Scanned}

-- ---- lists of marks
pub each-append : (P : Mark → Type 0) (ms ns : List Mark) → Each P ms → Each P ns → Each P (ms ++ ns)
each-append P [] ns h k = k
each-append P (m ∷ ms) ns h k = (h.0, each-append P ms ns h.1 k)

pub each-parts : (P : Mark → Type 0) (ms ns : List Mark) → Each P (ms ++ ns) → Each P ms × Each P ns
each-parts P [] ns h = (tt, h)
each-parts P (m ∷ ms) ns h = let k = each-parts P ms ns h.1 in ((h.0, k.0), k.1)

pub each_map : (P Q : Mark → Type 0) → ((m : Mark) → P m → Q m) → (ms : List Mark) → Each P ms → Each Q ms
each_map P Q f [] h = tt
each_map P Q f (m ∷ ms) h = (f m h.0, each_map P Q f ms h.1)

pub each_at : (P : Mark → Type 0) (ms : List Mark) (m : Mark) → Each P ms → Has m ms → P m
each_at P [] m h k = absurd k
each_at P (n ∷ ms) m h k = elim k [ inl e ↦ subst P (sym e) h.0 | inr l ↦ each_at P ms m h.1 l ]

pub each_from : (P : Mark → Type 0) (ms : List Mark) → ((m : Mark) → Has m ms → P m) → Each P ms
each_from P [] f = tt
each_from P (m ∷ ms) f = (f m (inl refl), each_from P ms (λ n h. f n (inr h)))

has_left : (m : Mark) (ms ns : List Mark) → Has m ms → Has m (ms ++ ns)
has_left m [] ns h = absurd h
has_left m (n ∷ ms) ns h = elim h [ inl e ↦ inl e | inr k ↦ inr (has_left m ms ns k) ]

has_right : (m : Mark) (ms ns : List Mark) → Has m ns → Has m (ms ++ ns)
has_right m [] ns h = h
has_right m (n ∷ ms) ns h = inr (has_right m ms ns h)

has-parts : (m : Mark) (ms ns : List Mark) → Has m (ms ++ ns) → Has m ms ⊎ Has m ns
has-parts m [] ns h = inr h
has-parts m (n ∷ ms) ns h = elim h [
  | inl e ↦ inl (inl e)
  | inr k ↦ elim (has-parts m ms ns k) [ inl l ↦ inl (inr l) | inr l ↦ inr l ]
]

-- ---- the queue
falls_left : (ms ns : List Mark) → Falls (ms ++ ns) → Falls ms
falls_left [] ns h = tt
falls_left (m ∷ ms) ns h = ((each-parts (λ n. n.start_key ≤ℚ m.start_key) ms ns h.0).0, falls_left ms ns h.1)

pub falls_right : (ms ns : List Mark) → Falls (ms ++ ns) → Falls ns
falls_right [] ns h = h
falls_right (m ∷ ms) ns h = falls_right ms ns h.1

all_above : (k : ℚ) (ms : List Mark) → Falls ms → EndsAbove k ms → Each (λ m. k ≤ℚ m.start_key) ms
all_above k [] h e = tt
all_above k (m ∷ []) h e = (le_of_lt e, tt)
all_above k (m ∷ n ∷ ms) h e = let r = all_above k (n ∷ ms) h.1 e in (le_trans r.0 h.0.0, r)

falls_push : (q : Mark) (ms : List Mark) → Falls ms → Each (λ m. q.start_key ≤ℚ m.start_key) ms → Falls (ms ++ q ∷ [])
falls_push q [] h e = (tt, tt)
falls_push q (m ∷ ms) h e = (each-append (λ n. n.start_key ≤ℚ m.start_key) ms (q ∷ []) h.0 (e.0, tt), falls_push q ms h.1 e.1)

-- the next mark goes in, and those at the end whose keys are no greater go out
pub pushed : (r : Rule) (marks : List Mark) (b q : Mark) (into : ℕ) (kept stay gone : List Mark) → Scans r marks b into kept → kept ≡ stay ++ gone
    → Each (λ m. m.start_key ≤ℚ q.start_key) gone → EndsAbove q.start_key stay → take (into + 1) marks ≡ take into marks ++ q ∷ []
    → Each (λ m. m.time ≤ℚ q.time) (take into marks) → Has q marks → q.time +ℚ r.least ≤ℚ b.time
    → Scans r marks b (into + 1) (stay ++ q ∷ [])
pushed r marks b q into kept stay gone h e less above more order has far = record {
  falls = let f = falls_left stay gone (subst Falls e h.falls) in falls_push q stay f (all_above q.start_key stay f above);
  ready = each-append (λ d. Has d marks × (d.time +ℚ r.least ≤ℚ b.time)) stay (q ∷ []) (each-parts (λ d. Has d marks × (d.time +ℚ r.least ≤ℚ b.time)) stay gone (subst (Each (λ d. Has d marks × (d.time +ℚ r.least ≤ℚ b.time))) e h.ready)).0 ((has, far), tt);
  covers = subst (Each (λ m. IsPast r.most m.time b.time ⊎ HasStandIn (stay ++ q ∷ []) m)) (sym more)
      (each-append (λ m. IsPast r.most m.time b.time ⊎ HasStandIn (stay ++ q ∷ []) m) (take into marks) (q ∷ [])
      (each_from (λ m. IsPast r.most m.time b.time ⊎ HasStandIn (stay ++ q ∷ []) m) (take into marks) (λ m has_m. elim (each_at (λ m. IsPast r.most m.time b.time ⊎ HasStandIn kept m) (take into marks) m h.covers has_m) [
        | inl p ↦ inl p
        | inr s ↦ inr (again m (each_at (λ m. m.time ≤ℚ q.time) (take into marks) m order has_m) s)
      ]))
      (inr (q, has_right q stay (q ∷ []) (inl refl), le_refl q.time, le_refl q.start_key), tt));
}
  where
    again : (m : Mark) → m.time ≤ℚ q.time → HasStandIn kept m → HasStandIn (stay ++ q ∷ []) m
    again m before s =
        let (d, has_d, later, greater) = s in
        elim (has-parts d stay gone (subst (Has d) e has_d)) [
          | inl l ↦ (d, has_left d stay (q ∷ []) l, later, greater)
          | inr l ↦ (q, has_right q stay (q ∷ []) (inl refl), before, le_trans greater (each_at (λ m. m.start_key ≤ℚ q.start_key) gone d less l))
        ]

-- those at the front that are past go out
past_sooner : (most : Option ℚ) (a d t : ℚ) → a ≤ℚ d → IsPast most d t → IsPast most a t
past_sooner None a d t h k = k
past_sooner (Some most) a d t h k = with4 a d t most (λ c. omega (arith, c.le, c.lt, c.same))

pub passed : (r : Rule) (marks : List Mark) (b : Mark) (into : ℕ) (kept gone stay : List Mark) → Scans r marks b into kept → kept ≡ gone ++ stay
    → Each (λ m. IsPast r.most m.time b.time) gone → Scans r marks b into stay
passed r marks b into kept gone stay h e past = record {
  falls = falls_right gone stay (subst Falls e h.falls);
  ready = (each-parts (λ d. Has d marks × (d.time +ℚ r.least ≤ℚ b.time)) gone stay (subst (Each (λ d. Has d marks × (d.time +ℚ r.least ≤ℚ b.time))) e h.ready)).1;
  covers = each_map (λ m. IsPast r.most m.time b.time ⊎ HasStandIn kept m) (λ m. IsPast r.most m.time b.time ⊎ HasStandIn stay m) again (take into marks) h.covers;
}
  where
    again : (m : Mark) → IsPast r.most m.time b.time ⊎ HasStandIn kept m → IsPast r.most m.time b.time ⊎ HasStandIn stay m
    again m c = elim c [
      | inl p ↦ inl p
      | inr s ↦
          let (d, has_d, later, greater) = s in
          elim (has-parts d gone stay (subst (Has d) e has_d)) [
            | inl l ↦ inl (past_sooner r.most m.time d.time b.time later (each_at (λ m. IsPast r.most m.time b.time) gone d past l))
            | inr l ↦ inr (d, l, later, greater)
          ]
    ]

-- ---- the answer at b
pub front_under : (r : Rule) (marks : List Mark) (b d : Mark) (into : ℕ) (kept : List Mark) → Scans r marks b into (d ∷ kept) → ¬ IsPast r.most d.time b.time
    → b.end_key <ℚ d.start_key +ℚ r.gap → IsUnderSome r marks b
front_under r marks b d into kept h near less = (d, h.ready.0.0, record { far = h.ready.0.1; near = near; less = less })

-- no mark of the first `into` is under b where the first kept one is not
no_stand : (r : Rule) (b m : Mark) → IsPast r.most m.time b.time ⊎ HasStandIn [] m → ¬ IsUnder r m b
no_stand r b m c u = elim c [ inl p ↦ u.near p | inr s ↦ s.1 ]

greatest_first : (d : Mark) (kept : List Mark) (e : Mark) → Falls (d ∷ kept) → Has e (d ∷ kept) → e.start_key ≤ℚ d.start_key
greatest_first d kept e h k = elim k [
  | inl s ↦ subst (λ (x : Mark). x.start_key ≤ℚ d.start_key) (sym s) (le_refl d.start_key)
  | inr l ↦ each_at (λ n. n.start_key ≤ℚ d.start_key) kept e h.0 l
]

stand_over : (r : Rule) (b d m : Mark) (kept : List Mark) → Falls (d ∷ kept) → d.start_key +ℚ r.gap ≤ℚ b.end_key
    → IsPast r.most m.time b.time ⊎ HasStandIn (d ∷ kept) m → ¬ IsUnder r m b
stand_over r b d m kept f over c u = elim c [
  | inl p ↦ u.near p
  | inr s ↦
      let (e, has_e, later, greater) = s in
      never m.start_key e.start_key d.start_key b.end_key r.gap greater (greatest_first d kept e f has_e) over u.less
]
  where
    never : (m e d b g : ℚ) → m ≤ℚ e → e ≤ℚ d → d +ℚ g ≤ℚ b → b <ℚ m +ℚ g → ⊥
    never m e d b g h k l n = with_atoms (m ∷ e ∷ d ∷ b ∷ g ∷ []) (λ c. omega (arith, c.le, c.lt, c.same))

too_near : (r : Rule) (b m : Mark) → IsNotFar r b m → ¬ IsUnder r m b
too_near r b m h u = lt_irrefl b.time (lt_le_trans h u.far)

halves : (into : ℕ) (marks : List Mark) → take into marks ++ drop into marks ≡ marks
halves zero marks = refl
halves (suc into) [] = refl
halves (suc into) (m ∷ marks) = ap (λ (ms : List Mark). m ∷ ms) (halves into marks)

pub empty_over : (r : Rule) (marks : List Mark) (b : Mark) (into : ℕ) → Scans r marks b into [] → Each (IsNotFar r b) (drop into marks) → IsOver r marks b
empty_over r marks b into h rest =
    subst (λ (ms : List Mark). IsOver r ms b) (halves into marks)
    (each-append (λ a. ¬ IsUnder r a b) (take into marks) (drop into marks)
    (each_map (λ m. IsPast r.most m.time b.time ⊎ HasStandIn [] m) (λ a. ¬ IsUnder r a b) (λ m. no_stand r b m) (take into marks) h.covers)
    (each_map (IsNotFar r b) (λ a. ¬ IsUnder r a b) (λ m. too_near r b m) (drop into marks) rest))

pub front_over : (r : Rule) (marks : List Mark) (b d : Mark) (into : ℕ) (kept : List Mark) → Scans r marks b into (d ∷ kept)
    → Each (IsNotFar r b) (drop into marks) → d.start_key +ℚ r.gap ≤ℚ b.end_key → IsOver r marks b
front_over r marks b d into kept h rest over =
    subst (λ (ms : List Mark). IsOver r ms b) (halves into marks)
    (each-append (λ a. ¬ IsUnder r a b) (take into marks) (drop into marks)
    (each_map (λ m. IsPast r.most m.time b.time ⊎ HasStandIn (d ∷ kept) m) (λ a. ¬ IsUnder r a b) (λ m. stand_over r b d m kept h.falls over) (take into marks) h.covers)
    (each_map (IsNotFar r b) (λ a. ¬ IsUnder r a b) (λ m. too_near r b m) (drop into marks) rest))

-- ---- what is taken out
append-append : (ms ns ks : List Mark) → (ms ++ ns) ++ ks ≡ ms ++ (ns ++ ks)
append-append [] ns ks = refl
append-append (m ∷ ms) ns ks = ap (λ (xs : List Mark). m ∷ xs) (append-append ms ns ks)

pub lowered_more : (k : ℚ) (old stay rest : List Mark) (m : Mark) → Lowered k old stay → stay ≡ rest ++ m ∷ [] → m.start_key ≤ℚ k → Lowered k old rest
lowered_more k old stay rest m h e less =
    let (gone, f, each) = h in
    (m ∷ gone, f ∙ ap (λ (x : List Mark). x ++ gone) e ∙ append-append rest (m ∷ []) gone, (less, each))

-- the last of some marks is known by its place
last_above : (k : ℚ) (ms : List Mark) (m : Mark) (j : ℕ) → length ms ≡ suc j → m ≡ slice_index_or ms j m → k <ℚ m.start_key → EndsAbove k ms
last_above k [] m j h e l = tt
last_above k (n ∷ []) m zero h e l = subst (λ (x : Mark). k <ℚ x.start_key) e l
last_above k (n ∷ []) m (suc j) h e l = absurd (omega arith)
last_above k (n ∷ p ∷ ms) m zero h e l = absurd (omega arith)
last_above k (n ∷ p ∷ ms) m (suc j) h e l = last_above k (p ∷ ms) m j (omega arith) e l

pub ends_above : (k : ℚ) (ms : List Mark) (m : Mark) → 0 < length ms → m ≡ slice_index_or ms (length ms - 1) m → k <ℚ m.start_key → EndsAbove k ms
ends_above k ms m h e l = last_above k ms m (length ms - 1) (omega arith) e l

pub last_of : (ms rest : List Mark) (m : Mark) (o : Option Mark) (n : ℕ) → 0 < n → m ≡ slice_index_or ms (n - 1) m
    → ((d : Mark) → 0 < n → o ≡ Some (slice_index_or ms (n - 1) d)) → ms ≡ rest ++ option_to_list o → ms ≡ rest ++ m ∷ []
last_of ms rest m o n some is val e = e ∙ ap (λ (x : Option Mark). rest ++ option_to_list x) (val m some ∙ ap (λ (x : Mark). Some x) (sym is))

pub passed_more : (most : Option ℚ) (t : ℚ) (old stay rest : List Mark) (m : Mark) → Passed most t old stay → stay ≡ m ∷ rest → IsPast most m.time t → Passed most t old rest
passed_more most t old stay rest m h e past =
    let (gone, f, each) = h in
    (gone ++ m ∷ [], f ∙ ap (λ (x : List Mark). gone ++ x) e ∙ sym (append-append gone (m ∷ []) rest), each-append (λ m. IsPast most m.time t) gone (m ∷ []) each (past, tt))

pub first_of : (ms rest : List Mark) (m : Mark) (o : Option Mark) (n : ℕ) → 0 < n → m ≡ slice_index_or ms 0 m
    → ((d : Mark) → 0 < n → o ≡ Some (slice_index_or ms 0 d)) → ms ≡ option_to_list o ++ rest → ms ≡ m ∷ rest
first_of ms rest m o n some is val e = e ∙ ap (λ (x : Option Mark). option_to_list x ++ rest) (val m some ∙ ap (λ (x : Mark). Some x) (sym is))

pub rest_fit : (P : Mark → Type 0) (ms rest : List Mark) (m : Mark) → Each P ms → ms ≡ m ∷ rest → Each P rest
rest_fit P ms rest m h e = (subst (Each P) e h).1

-- ---- the mark of a number
pub has_at : (marks : List Mark) (n : ℕ) (q : Mark) → n < length marks → q ≡ slice_index_or marks n q → Has q marks
has_at [] n q h e = absurd (omega arith)
has_at (m ∷ marks) zero q h e = inl e
has_at (m ∷ marks) (suc n) q h e = inr (has_at marks n q (omega arith) e)

pub order_at : (marks : List Mark) (n : ℕ) (q : Mark) → TimesRise marks → n < length marks → q ≡ slice_index_or marks n q
    → Each (λ m. m.time ≤ℚ q.time) (take n marks)
order_at [] n q r h e = absurd (omega arith)
order_at (m ∷ marks) zero q r h e = tt
order_at (m ∷ marks) (suc n) q r h e = (each_at (λ x. m.time ≤ℚ x.time) marks q r.0 (has_at marks n q (omega arith) e), order_at marks n q r.1 (omega arith) e)

pub taken_at : (marks : List Mark) (n : ℕ) (q : Mark) → n < length marks → q ≡ slice_index_or marks n q → take (suc n) marks ≡ take n marks ++ q ∷ []
taken_at [] n q h e = absurd (omega arith)
taken_at (m ∷ marks) zero q h e = ap (λ (x : Mark). x ∷ []) (sym e)
taken_at (m ∷ marks) (suc n) q h e = ap (λ (xs : List Mark). m ∷ xs) (taken_at marks n q (omega arith) e)

pub rest_not_far : (r : Rule) (b : Mark) (marks : List Mark) (n : ℕ) (q : Mark) → TimesRise marks → n < length marks → q ≡ slice_index_or marks n q → IsNotFar r b q
    → Each (IsNotFar r b) (drop n marks)
rest_not_far r b [] n q rise h e far = absurd (omega arith)
rest_not_far r b (m ∷ marks) zero q rise h e far =
    let here : IsNotFar r b m = subst (IsNotFar r b) e far in
    (here, each_map (λ x. m.time ≤ℚ x.time) (IsNotFar r b) (λ x l. later m.time x.time b.time r.least l here) marks rise.0)
  where
    later : (m x b l : ℚ) → m ≤ℚ x → b <ℚ m +ℚ l → b <ℚ x +ℚ l
    later m x b l h k = with4 m x b l (λ c. omega (arith, c.le, c.lt, c.same))
rest_not_far r b (m ∷ marks) (suc n) q rise h e far = rest_not_far r b marks n q rise.1 (omega arith) e far

-- ---- the steps of the scan
pub pushed_at : (r : Rule) (marks : List Mark) (b q : Mark) (n : ℕ) (kept stay : List Mark) → Scans r marks b n kept → Lowered q.start_key kept stay → EndsAbove q.start_key stay
    → TimesRise marks → n < length marks → q ≡ slice_index_or marks n q → q.time +ℚ r.least ≤ℚ b.time → Scans r marks b (n + 1) (stay ++ q ∷ [])
pushed_at r marks b q n kept stay h low above rise l e far =
    let (gone, f, less) = low in
    let same : suc n ≡ n + 1 = omega arith in
    let more : take (n + 1) marks ≡ take n marks ++ q ∷ [] = subst (λ (k : ℕ). take k marks ≡ take n marks ++ q ∷ []) same (taken_at marks n q l e) in
    pushed r marks b q n kept stay gone h f less above more (order_at marks n q rise l e) (has_at marks n q l e) far

pub passed_at : (r : Rule) (marks : List Mark) (b : Mark) (n : ℕ) (kept stay : List Mark) → Scans r marks b n kept → Passed r.most b.time kept stay → Scans r marks b n stay
passed_at r marks b n kept stay h p = let (gone, e, past) = p in passed r marks b n kept gone stay h e past

later_past : (most : Option ℚ) (a s t : ℚ) → s ≤ℚ t → IsPast most a s → IsPast most a t
later_past None a s t h k = k
later_past (Some most) a s t h k = le_trans k h

scans_later : (r : Rule) (marks : List Mark) (b c : Mark) (n : ℕ) (kept : List Mark) → b.time ≤ℚ c.time → Scans r marks b n kept → Scans r marks c n kept
scans_later r marks b c n kept l h = record {
  falls = h.falls;
  ready = each_map (λ d. Has d marks × (d.time +ℚ r.least ≤ℚ b.time)) (λ d. Has d marks × (d.time +ℚ r.least ≤ℚ c.time)) (λ d k. (k.0, le_trans k.1 l)) kept h.ready;
  covers = each_map (λ m. IsPast r.most m.time b.time ⊎ HasStandIn kept m) (λ m. IsPast r.most m.time c.time ⊎ HasStandIn kept m)
      (λ m k. elim k [ inl p ↦ inl (later_past r.most m.time b.time c.time l p) | inr s ↦ inr s ]) (take n marks) h.covers;
}

pub kept_fit : (P : Mark → Type 0) (r : Rule) (marks : List Mark) (b : Mark) (n : ℕ) (kept : List Mark) → Scans r marks b n kept → Each P marks → Each P kept
kept_fit P r marks b n kept h fits = each_map (λ d. Has d marks × (d.time +ℚ r.least ≤ℚ b.time)) P (λ d k. each_at P marks d fits k.0) kept h.ready

pub scanned_at : (r : Rule) (marks ends : List Mark) (k into : ℕ) (kept : List Mark) (b : Mark) → Scanned r marks ends k into kept → TimesRise ends → k < length ends
    → b ≡ slice_index_or ends k b → Scans r marks b into kept
scanned_at r marks ends k into kept b h rise l e = h.ready b (order_at ends k b rise l e)

over_front : (r : Rule) (marks : List Mark) (b : Mark) (into : ℕ) (kept : List Mark) → Scans r marks b into kept → Each (IsNotFar r b) (drop into marks)
    → ¬ FrontUnder r.gap b.end_key kept → IsOver r marks b
over_front r marks b into [] h rest none = empty_over r marks b into h rest
over_front r marks b into (d ∷ kept) h rest none = front_over r marks b d into kept h rest (le_of_not_lt none)

pub scanned_more : (r : Rule) (marks ends : List Mark) (k into next : ℕ) (old kept : List Mark) (b : Mark) → Scanned r marks ends k into old → TimesRise ends → k < length ends
    → b ≡ slice_index_or ends k b → next ≤ length marks → Scans r marks b next kept → Each (IsNotFar r b) (drop next marks)
    → ¬ FrontUnder r.gap b.end_key kept → Scanned r marks ends (suc k) next kept
scanned_more r marks ends k into next old kept b h rise l e in_range scans rest none =
    let more = taken_at ends k b l e in
    record {
      in_range = in_range;
      ready = λ c before. scans_later r marks b c next kept (each-parts (λ m. m.time ≤ℚ c.time) (take k ends) (b ∷ []) (subst (Each (λ m. m.time ≤ℚ c.time)) more before)).1.0 scans;
      over = subst (Each (IsOver r marks)) (sym more) (each-append (IsOver r marks) (take k ends) (b ∷ []) h.over (over_front r marks b next kept scans rest none, tt));
    }

pub under_front : (r : Rule) (marks : List Mark) (b : Mark) (into : ℕ) (kept : List Mark) → Scans r marks b into kept → StartsNear r.most b.time kept
    → FrontUnder r.gap b.end_key kept → IsUnderSome r marks b
under_front r marks b into [] h near under = absurd under
under_front r marks b into (d ∷ kept) h near under = front_under r marks b d into kept h near under

-- ---- the test
past_or_less : (most a t s : ℚ) (less : Bool) → s ≡ a +ℚ most → (IsTrue less ↔ (t <ℚ s)) → (IsTrue (not less) ↔ (a +ℚ most ≤ℚ t))
past_or_less most a t s true e h = (λ k. absurd (true≢false (sym k)), λ p. absurd (lt_irrefl t (lt_le_trans (h.0 refl) (subst (λ x. x ≤ℚ t) (sym e) p))))
past_or_less most a t s false e h = (λ k. subst (λ x. x ≤ℚ t) e (le_of_not_lt (λ l. true≢false (sym (h.1 l)))), λ p. refl)

pub past_tested : (o : Option ℚ) (most a t s : ℚ) (less : Bool) → o ≡ Some most → s ≡ a +ℚ most → (IsTrue less ↔ (t <ℚ s)) → (IsTrue (not less) ↔ IsPast o a t)
past_tested o most a t s less f e h = subst (λ (p : Option ℚ). IsTrue (not less) ↔ IsPast p a t) (sym f) (past_or_less most a t s less e h)
