-- What arrived by the delay before t has left before t, for each flow of a queue.
use Rattle.std.specs.Prelude.{Option, Some, None, ◌≡◌, ℕ, pos, true, List, [], ◌∷◌, ◌++◌}
use Rattle.std.proofs.Common.{arith, sym, ap, ◌∙◌, refl, inl, inr, subst, append_assoc}
use Rattle.std.proofs.lemmas.Bool.{cases_Bool}
use Rattle.rational.specs.Rational.{ℚ, int, ◌+ℚ◌, ◌-ℚ◌, ◌≤ℚ◌, ◌<ℚ◌}
use Rattle.rational.specs.Extended.{Ext}
use Rattle.rational.proofs.Laws.{le_trans}
use Rattle.rational.proofs.Linear.{with1, with2, with3, with4, with5, with7, with8}
use Rattle.run_laws.specs.Cards.{Card, size, Class, ServerStep, Arrives, Works, Leaves, Visits}
use Rattle.run_laws.proofs.Always.{IsAlwaysOfQueue, IsAlwaysPart}
use Rattle.run_laws.specs.Servers.{Server, Under, ServerState, start}
use Rattle.run_laws.specs.Next.{next, after}
use Rattle.run_laws.specs.Allows.{AllAllowed, IsLawfulView, IsComplete}
use Rattle.run_laws.specs.Counts.{total, arrives, leaves, works, before, upto, arrived, departed, worked}
use Rattle.run_laws.specs.Premises.{KeepsArrivals}
use Rattle.run_laws.specs.Serves.{Serves}
use Rattle.rational.proofs.Over.{lt_q_out}
use Rattle.run_laws.proofs.Sums.{total-append}
use Rattle.run_laws.proofs.Counts.{left_le, arrived_rises, upto_before}
use Rattle.run_laws.proofs.Heads.{sum_of}
use Rattle.run_laws.proofs.States.{done_by}
use Rattle.run_laws.proofs.Gone.{complete_leaves, first_left, left_nonneg, after-append}
use Rattle.run_laws.proofs.Waiting.{of_class, bits_of, class-append, sum_class, NotOver, done_below, at_arrival, combine, bits_nonneg}
use Rattle.run_laws.proofs.Delay.{stay_at_most}
use Rattle.min_plus.proofs.Deviations.{Within}
use Rattle.run_laws.proofs.Oldest.{departures_of, arrivals_of, queue_order, left_part, oldest}
use Rattle.run_laws.proofs.Sizes.{size_pos}

-- a beginning of a list that is less than D and p is a beginning of D
pub record Begins (gone inside D rest : List Card) (p : Card) : Type 0 where
  pub ahead : List Card
  pub is : inside ≡ ahead ++ p ∷ rest
  pub bits : bits_of D ≡ bits_of gone +ℚ bits_of ahead

pub begins_more : (c d : Card) (gone inside D rest : List Card) (p : Card) → size c ≡ size d → Begins gone inside D rest p
    → Begins (c ∷ gone) inside (d ∷ D) rest p
begins_more c d gone inside D rest p same r =
    let e = r.bits in
    record { ahead = r.ahead; is = r.is; bits = with5 (size c) (size d) (bits_of gone) (bits_of D) (bits_of r.ahead) (λ c. omega (arith, c.le, c.lt, c.same)) }

begins : (gone inside D rest : List Card) (p : Card) → gone ++ inside ≡ D ++ p ∷ rest → bits_of gone <ℚ bits_of D +ℚ size p
    → Begins gone inside D rest p
begins [] inside D rest p h k = record { ahead = D; is = h; bits = with1 (bits_of D) (λ c. omega (arith, c.le, c.lt, c.same)) }
begins (c ∷ gone) inside [] rest p h k =
    let same : c ≡ p = cc in
    let equal : size c ≡ size p = ap size same in
    let more = bits_nonneg gone in
    absurd (with3 (size c) (size p) (bits_of gone) (λ c. omega (arith, c.le, c.lt, c.same)))
begins (c ∷ gone) inside (d ∷ D) rest p h k =
    let same : c ≡ d = cc in
    let tail : gone ++ inside ≡ D ++ p ∷ rest = cc in
    let equal : size c ≡ size d = ap size same in
    let less : bits_of gone <ℚ bits_of D +ℚ size p = with5 (size c) (size d) (size p) (bits_of gone) (bits_of D) (λ c. omega (arith, c.le, c.lt, c.same)) in
    begins_more c d gone inside D rest p equal (begins gone inside D rest p tail less)

own_class : (C : Class) (V : List ServerStep) → of_class C (departures_of C V) ≡ departures_of C V
own_class C [] = refl
own_class C (Arrives c t ∷ V) = own_class C V
own_class C (Works c a b w ∷ V) = own_class C V
own_class C (Leaves c t ∷ V) = elim (cases_Bool (C c)) [
  | inl e ↦ rw e (rw e (ap (λ (xs : List Card). c ∷ xs) (own_class C V)))
  | inr e ↦ rw e (own_class C V)
]
own_class C (Visits q t ∷ V) = own_class C V

over_left : (server : Server) (end : ℚ) (σ : ServerState) (V : List ServerStep) (C : Class) (p : Card) (t s : ℚ) (under : Option Under)
    → AllAllowed server end σ V → σ.under ≡ under → ¬ IsComplete (after server.discipline σ V).under → C p ≡ true → t <ℚ s
    → total (leaves C (before s)) V <ℚ size p → NotOver p t under
over_left server end σ V C p t s None a e n k l m = tt
over_left server end σ V C p t s (Some u) a e n k l m = λ o.
    let first = complete_leaves server end σ V u a e o.complete n in
    let counted : C u.card ≡ true = subst (λ (x : Card). C x ≡ true) (sym o.is_card) k in
    let over = o.over in
    let left = first_left C (before s) u.card u.last.end V first counted (lt_q_out _ _ (with3 u.last.end t s (λ c. omega (arith, c.le, c.lt, c.same)))) in
    let same : size u.card ≡ size p = ap size o.is_card in
    with3 (size u.card) (size p) (total (leaves C (before s)) V) (λ c. omega (arith, c.le, c.lt, c.same))

-- while less than p and what came before it has left, the work is below these
not_worked_before : (server : Server) (end : ℚ) (V front back : List ServerStep) (C : Class) (q : ℕ) (p : Card) (u t s : ℚ)
    → IsLawfulView server end V → V ≡ front ++ Arrives p u ∷ back → IsAlwaysOfQueue C q → C p ≡ true → u ≤ℚ t → t <ℚ s
    → departed C V s <ℚ total (arrives C (upto u)) front +ℚ size p → worked C V t <ℚ total (arrives C (upto u)) front +ℚ size p
not_worked_before server end V front back C q p u t s lawful joined g counted l m few =
    let d = server.discipline in
    let cut = at_arrival server end V front back C p u t lawful joined l in
    let one = after d (start d) front in
    let two = next d one (Arrives p u) in
    let a = cut.at in
    let P = a.at.front in
    let S = a.at.back in
    let three = after d two P in
    let later = a.work C in
    let same = a.left C in
    let D = of_class C one.inside in
    let sums = sum_class C one.inside in
    let order : departures_of C P ++ of_class C three.inside ≡ D ++ p ∷ arrivals_of C P =
    queue_order server end two P C q g a.at.front_allowed cut.sound ∙ ap (λ (xs : List Card). xs ++ arrivals_of C P) (class-append C one.inside (p ∷ []) ∙ rw counted refl) ∙ append_assoc D (p ∷ []) (arrivals_of C P) in
    let gone_bits : total (leaves C (upto t)) P ≡ bits_of (departures_of C P) =
    left_part C C (upto t) P (λ _ h. h) a.at.front_before ∙ ap bits_of (own_class C P) in
    let sooner_front = left_le C front (upto u) (before s) (upto_before u s (with3 u t s (λ c. omega (arith, c.le, c.lt, c.same)))) in
    let sooner_P = left_le C P (upto t) (before s) (upto_before t s m) in
    let rest_on = left_nonneg C (before s) S in
    let all_left : departed C V s ≡ total (leaves C (before s)) front +ℚ (int (pos 0) +ℚ (total (leaves C (before s)) P +ℚ total (leaves C (before s)) S)) =
    ap (total (leaves C (before s))) joined ∙ total-append (leaves C (before s)) front (Arrives p u ∷ back)
    ∙ ap (λ (x : ℚ). total (leaves C (before s)) front +ℚ (int (pos 0) +ℚ x)) (ap (total (leaves C (before s))) a.at.joined ∙ total-append (leaves C (before s)) P S) in
    let less : bits_of (departures_of C P) +ℚ total (leaves C (before s)) S <ℚ bits_of D +ℚ size p =
    fewer (departed C V s) (total (leaves C (before s)) front) (total (leaves C (before s)) P) (total (leaves C (before s)) S) (total (leaves C (upto u)) front) (total (leaves C (upto t)) P) (bits_of (departures_of C P))
    (total (arrives C (upto u)) front) (size p) (sum_of C one.inside) (bits_of D) all_left sooner_front sooner_P gone_bits few cut.balance sums in
    let beginning = begins (departures_of C P) (of_class C three.inside) D (arrivals_of C P) p order (with4 (bits_of (departures_of C P)) (total (leaves C (before s)) S) (bits_of D) (size p) (λ c. omega (arith, c.le, c.lt, c.same))) in
    let ahead = beginning.ahead in
    let parts = beginning.bits in
    let complete : ¬ IsComplete (after d three S).under =
    subst (λ (σ : ServerState). ¬ IsComplete σ.under) (ap (after d (start d)) joined ∙ after-append server (start d) front (Arrives p u ∷ back) ∙ ap (after d two) a.at.joined ∙ after-append server two P S) lawful.none_complete in
    let not_over : ahead ≡ [] → NotOver p t three.under =
    λ e.
    let none : bits_of ahead ≡ int (pos 0) = ap bits_of {x = ahead} e in
    over_left server end three S C p t s three.under a.at.back_allowed refl complete counted m
    (rest_small (bits_of (departures_of C P)) (total (leaves C (before s)) S) (bits_of D) (size p) (bits_of ahead) less parts none) in
    let below = done_below three.inside three.busy three.under C q p t ahead a.sound g cut.allowed.1.0.1.some_bits not_over record { rest = arrivals_of C P; is = beginning.is } in
    combine (worked C V t) (total (works C t) front) (total (works C t) back) (done_by C t one.under) (done_by C t three.under) (total (leaves C (upto u)) front) (total (leaves C (upto t)) back) (total (leaves C (upto t)) P)
    (sum_of C one.inside) (total (arrives C (upto u)) front) (bits_of D) (bits_of ahead) (size p) cut.work cut.so_far later same cut.balance sums
    (ahead_bits (bits_of ahead) (total (leaves C (upto t)) P) (bits_of (departures_of C P)) (bits_of D) gone_bits parts) below
  where
    ahead_bits : (H L G D : ℚ) → L ≡ G → D ≡ G +ℚ H → H +ℚ L ≡ D
    ahead_bits H L G D e k = with4 H L G D (λ c. omega (arith, c.le, c.lt, c.same))

    rest_small : (G LS D z H : ℚ) → G +ℚ LS <ℚ D +ℚ z → D ≡ G +ℚ H → H ≡ int (pos 0) → LS <ℚ z
    rest_small G LS D z H h e k = with5 G LS D z H (λ c. omega (arith, c.le, c.lt, c.same))

    fewer : (L LF LP LS LU LT G A z S D : ℚ) → L ≡ LF +ℚ (int (pos 0) +ℚ (LP +ℚ LS)) → LU ≤ℚ LF → LT ≤ℚ LP → LT ≡ G → L <ℚ A +ℚ z
        → S +ℚ LU ≡ int (pos 0) +ℚ A → S ≡ D → G +ℚ LS <ℚ D +ℚ z
    fewer L LF LP LS LU LT G A z S D e1 h1 h2 e2 h3 e3 e4 =
        let one : LU +ℚ G +ℚ LS <ℚ A +ℚ z = with8 L LF LP LS LU LT G (A +ℚ z) (λ c. omega (arith, c.le, c.lt, c.same)) in
        with7 LU G LS A z S D (λ c. omega (arith, c.le, c.lt, c.same))

-- ---- what arrived by the delay before s has left before s
pub lag_from_service : (server : Server) (end : ℚ) (V : List ServerStep) (Q f : Class) (q : ℕ) (α β : ℚ → Ext) (delay : ℚ)
    → IsLawfulView server end V → IsAlwaysOfQueue Q q → IsAlwaysPart f Q
    → Serves Q β end V → KeepsArrivals Q α V → int (pos 0) ≤ℚ delay → Within α β delay → (s : ℚ) → s ≤ℚ end
    → arrived f V (s -ℚ delay) ≤ℚ departed f V s
lag_from_service server end V Q f q α β delay lawful own part serves keeps on within s l = elim (oldest server end V Q q s lawful own) [
  | inl empty ↦
      let e = empty.all_left f part in
      let k = arrived_rises f V (s -ℚ delay) s (with2 s delay (λ c. omega (arith, c.le, c.lt, c.same))) in
      with3 (arrived f V (s -ℚ delay)) (arrived f V s) (departed f V s) (λ c. omega (arith, c.le, c.lt, c.same))
  | inr o ↦
      let whole : IsAlwaysPart Q Q = λ _ h. h in
      let left = o.is.left Q whole in
      let more = size_pos o.p o.is.some_bits in
      let few : departed Q V s <ℚ total (arrives Q (upto o.u)) o.front +ℚ size o.p = with3 (departed Q V s) (total (arrives Q (upto o.u)) o.front) (size o.p) (λ c. omega (arith, c.le, c.lt, c.same)) in
      let stay = stay_at_most server end V o.front o.back Q o.p o.u s α β delay lawful o.is.joined o.is.counted serves keeps on within
      (λ t m n. not_worked_before server end V o.front o.back Q q o.p o.u t s lawful o.is.joined own o.is.counted m n few) l in
      le_trans (arrived_rises f V (s -ℚ delay) o.u (with3 s delay o.u (λ c. omega (arith, c.le, c.lt, c.same)))) (o.is.came f part)
]
