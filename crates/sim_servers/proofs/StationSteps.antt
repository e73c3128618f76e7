-- What is due next at a server after each of its steps.
use Rattle.std.specs.Prelude.{Some, ◌≡◌, ◌≢◌, ℕ, suc, pos, ◌+◌, List, [], ◌∷◌, ◌++◌, length}
use Rattle.std.proofs.Common.{arith, refl, sym, ap, ◌∙◌, subst, inl, inr}
use Rattle.std.proofs.lemmas.Bool.{cases_eq, eq-eqb, ne_eqb}
use Rattle.std.proofs.lemmas.List.{length_push}
use Rattle.rational.specs.Rational.{ℚ, int, ◌+ℚ◌, ◌-ℚ◌, ◌*ℚ◌, ◌/ℚ◌, ◌≤ℚ◌, ◌<ℚ◌}
use Rattle.rational.proofs.Linear.{with2, with3}
use Rattle.rational.proofs.Laws.{le_of_lt, antisym, mul_comm, div_mul, mul_sub, mul_pos, not_zero}
use Rattle.rational.proofs.Quotients.{div_unique}
use Rattle.run_laws.specs.Cards.{Card, Arrives, Works, Leaves, size}
use Rattle.run_laws.specs.Servers.{Discipline, Under, ServerState, done_so_far, head_of, without_head}
use Rattle.run_laws.specs.Next.{next}
use Rattle.net_model.specs.stated_runs.Setups.{Setup, IsFirstOpenAt, IsStretch, rate_of, opening_of}
use Rattle.sim_servers.specs.declared.opening.Opening.{Opening}
use Rattle.sim_servers.specs.declared.station.Next.{Next}
use Rattle.sim_servers.specs.declared.station.Next.TheVariants.{Nothing, Start, Resume, Leave}
use Rattle.sim_servers.specs.declared.station.Stretch.{Stretch}
use Rattle.sim_servers.specs.declared.server_queues.ServerQueues.{ServerQueues}
use Rattle.sim_servers.specs.declared.server_queues.ServerQueues.TheVariants as queues
use Rattle.sim_servers.specs.Queues.{StandFor}
use Rattle.sim_servers.specs.Openings.{opening_for, times_of, HasOpened, IsOver, IsSameOpening}
use Rattle.sim_servers.specs.Stations.{IsNextOf, IsOpeningOf, IsBeforeStart, IsWithOneMore, IsWithOneLess, IsNextWork, IsWorkOf, IsAfterWork}
use Rattle.sim_servers.proofs.Openings.{open_there, first_there, first_later}

-- ---- a packet arrives
not_empty : {X : Type 0} (xs : List X) (x : X) → xs ++ x ∷ [] ≢ []
not_empty xs x e =
    let a : length (xs ++ x ∷ []) ≡ length xs + 1 = length_push xs x in
    let b : length (xs ++ x ∷ []) ≡ 0 = ap length e in
    omega (arith, a, b)

pub arrive_next : (S : Setup) (s : ℕ) (d : Discipline) (σ : ServerState) (c : Card) (t : ℚ) (before after : Opening) (old new : Next)
    → IsOpeningOf S s before → σ.now ≤ℚ t → IsBeforeStart old t → IsNextOf S s σ before old → IsWithOneMore before after old t new
    → IsNextOf S s (next d σ (Arrives c t)) after new
arrive_next S s d σ c t before after Nothing Nothing ok l b h k = absurd k
arrive_next S s d σ c t before after Nothing (Start u) ok l b h k =
    record { idle = h.idle; some = not_empty σ.inside c; opens = first_there S s before t u ok k.0; opened = k.1 }
arrive_next S s d σ c t before after Nothing (Resume p u left) ok l b h k = absurd k
arrive_next S s d σ c t before after Nothing (Leave p u) ok l b h k = absurd k
arrive_next S s d σ c t before after (Start u) new ok l b h k =
    subst (λ n. IsNextOf S s (next d σ (Arrives c t)) after n) (sym k.0) record {
      idle = h.idle;
      some = not_empty σ.inside c;
      opens = first_later S s σ.now t u h.opens l b;
      opened = subst (λ o. HasOpened o u) (sym k.1) h.opened;
    }
arrive_next S s d σ c t before after (Resume p u left) new ok l b h k =
    subst (λ n. IsNextOf S s (next d σ (Arrives c t)) after n) (sym k.0) record {
      under = h.under;
      is_under = h.is_under;
      packet_is = h.packet_is;
      not_done = h.not_done;
      opens = h.opens;
      left_is = h.left_is;
      opened = subst (λ o. HasOpened o u) (sym k.1) h.opened;
    }
arrive_next S s d σ c t before after (Leave p u) new ok l b h k =
    subst (λ n. IsNextOf S s (next d σ (Arrives c t)) after n) (sym k.0) record {
      under = h.under;
      is_under = h.is_under;
      packet_is = h.packet_is;
      worked_off = h.worked_off;
      at_end = h.at_end;
      over = subst (λ o. IsOver o u) (sym k.1) h.over;
    }

-- where it is not the only one nothing else is due
pub one_more_same : (o : Opening) (n : Next) (t : ℚ) → (n ≡ Nothing → ⊥) → IsWithOneMore o o n t n
one_more_same o Nothing t h = absurd (h refl)
one_more_same o (Start u) t h = (refl, refl)
one_more_same o (Resume p u left) t h = (refl, refl)
one_more_same o (Leave p u) t h = (refl, refl)

-- ---- one leaves
-- the packet under way is the first of its queue
pub stand_head : (v : ServerQueues) (σ : ServerState) (u : Under) → StandFor v σ → σ.under ≡ Some u → head_of u.card.queue σ.inside ≡ Some u.card
stand_head (queues.Fifo v) σ u h e = h.first u e
stand_head (queues.Priority v) σ u h e = h.waits.first u e
stand_head (queues.Drr v) σ u h e = h.waits.first u e

pub one_less : (q : ℕ) (cs : List Card) (c : Card) → head_of q cs ≡ Some c → length cs ≡ suc (length (without_head q cs))
one_less q [] c e = absurd (cc)
one_less q (x ∷ xs) c e = elim (cases_eq x.queue q) [
  | inl i ↦
      let a : without_head q (x ∷ xs) ≡ xs = rw (eq-eqb x.queue q i) refl in
      ap (λ (zs : List Card). suc (length zs)) (sym a)
  | inr n ↦
      let a : without_head q (x ∷ xs) ≡ x ∷ without_head q xs = rw (ne_eqb x.queue q n) refl in
      let f : head_of q xs ≡ Some c = rw (ne_eqb x.queue q n) at e in
      ap suc (one_less q xs c f) ∙ ap (λ (zs : List Card). suc (length zs)) (sym a)
]

empty_by : (cs : List Card) (n : ℕ) → n ≡ length cs → n ≡ 0 → cs ≡ []
empty_by [] n e z = refl
empty_by (c ∷ cs) n e z = absurd (omega (arith, e, z))

some_by : (cs : List Card) (n : ℕ) → n ≡ length cs → n ≢ 0 → cs ≢ []
some_by cs n e d z = d (e ∙ ap length z)

pub leave_next : (S : Setup) (s : ℕ) (d : Discipline) (σ : ServerState) (c : Card) (t : ℚ) (before after : Opening) (inside : ℕ) (new : Next)
    → IsOpeningOf S s before → inside ≡ length (without_head c.queue σ.inside) → IsWithOneLess before after inside t new
    → IsNextOf S s (next d σ (Leaves c t)) after new
leave_next S s d σ c t before after inside Nothing ok e k = record { idle = refl; none = empty_by (without_head c.queue σ.inside) inside e k.0; over = k.1 }
leave_next S s d σ c t before after inside (Start u) ok e k = record {
  idle = refl;
  some = some_by (without_head c.queue σ.inside) inside e k.0;
  opens = first_there S s before t u ok k.1;
  opened = k.2;
}
leave_next S s d σ c t before after inside (Resume p u left) ok e k = absurd k
leave_next S s d σ c t before after inside (Leave p u) ok e k = absurd k

-- ---- work
-- the bits that a time stands for
all_bits : (r x : ℚ) → int (pos 0) <ℚ r → r *ℚ (x /ℚ r) ≡ x
all_bits r x h = mul_comm r (x /ℚ r) ∙ div_mul x r (not_zero r h)

-- after work from a to b, at the rate, on what lacked x bits
record IsLess (r x a b w rest : ℚ) : Type 0 where
  left_is : rest ≡ (x -ℚ w) /ℚ r
  more : int (pos 0) <ℚ rest → w <ℚ x

less_left : (r x a b w rest : ℚ) → int (pos 0) <ℚ r → w ≡ r *ℚ (b -ℚ a) → rest ≡ x /ℚ r -ℚ (b -ℚ a) → IsLess r x a b w rest
less_left r x a b w rest h e f =
    let g : r *ℚ rest ≡ x -ℚ w =
    ap (λ y. r *ℚ y) f ∙ mul_sub r (x /ℚ r) (b -ℚ a) ∙ ap (λ y. y -ℚ r *ℚ (b -ℚ a)) (all_bits r x h) ∙ ap (λ y. x -ℚ y) (sym e) in
    record {
      left_is = sym (div_unique (x -ℚ w) r rest (not_zero r h) (mul_comm rest r ∙ g));
      more = λ some. let l : int (pos 0) <ℚ x -ℚ w = subst (λ y. int (pos 0) <ℚ y) g (mul_pos h some) in
          with2 x w (λ c. omega (arith, c.le, c.lt, c.same));
    }

pub work_next : (S : Setup) (s : ℕ) (d : Discipline) (σ : ServerState) (c : Card) (a left : ℚ) (before after : Opening) (w : Stretch) (new : Next)
    → IsOpeningOf S s before → IsOpeningOf S s after → int (pos 0) <ℚ rate_of S s → left ≡ (size c -ℚ done_so_far σ.under) /ℚ rate_of S s
    → IsWorkOf (opening_for before) (rate_of S s) c.packet a left w → IsAfterWork after c.packet a left w new
    → IsNextOf S s (next d σ (Works c a w.end w.bits)) after new
work_next S s d σ c a left before after w Nothing ok fine rate e h k = absurd k
work_next S s d σ c a left before after w (Start u) ok fine rate e h k = absurd k
work_next S s d σ c a left before after w (Resume p u rest) ok fine rate e h k =
    let r = rate_of S s in
    let had = done_so_far σ.under in
    let x = size c -ℚ had in
    let l = less_left r x a w.end w.bits rest rate h.bits (k.rest_is ∙ ap (λ y. y -ℚ (w.end -ℚ a)) e) in
    let more = l.more k.some in
    let n : (size c -ℚ had) -ℚ w.bits ≡ size c -ℚ (had +ℚ w.bits) = antisym (with3 (size c) had w.bits (λ o. omega (arith, o.le, o.lt, o.same))) in
    record {
      under = record { card = c; before = had; last = record { start = a; end = w.end; bits = w.bits } };
      is_under = refl;
      packet_is = sym k.packet;
      not_done = with3 (size c) had w.bits (λ o. omega (arith, o.le, o.lt, o.same));
      opens = first_there S s after w.end u fine k.opens;
      left_is = l.left_is ∙ ap (λ y. y /ℚ r) n;
      opened = k.opened;
    }
work_next S s d σ c a left before after w (Leave p u) ok fine rate e h k =
    let r = rate_of S s in
    let had = done_so_far σ.under in
    let time : w.end -ℚ a ≡ left = ap (λ y. y -ℚ a) k.all ∙ antisym (with2 a left (λ o. omega (arith, o.le, o.lt, o.same))) in
    let all : w.bits ≡ size c -ℚ had = h.bits ∙ ap (λ y. r *ℚ y) (time ∙ e) ∙ all_bits r (size c -ℚ had) rate in
    record {
      under = record { card = c; before = had; last = record { start = a; end = w.end; bits = w.bits } };
      is_under = refl;
      packet_is = sym k.packet;
      worked_off = ap (λ y. had +ℚ y) all ∙ antisym (with2 (size c) had (λ o. omega (arith, o.le, o.lt, o.same)));
      at_end = k.at_end;
      over = k.over;
    }

-- and the stretch of that work
pub stretch_there : (S : Setup) (s : ℕ) (o : Opening) (p : ℕ) (from x a left : ℚ) (w : Stretch) → IsOpeningOf S s o → int (pos 0) <ℚ rate_of S s
    → IsFirstOpenAt (opening_of S s) from a → left ≡ x /ℚ rate_of S s → IsWorkOf (opening_for o) (rate_of S s) p a left w
    → IsStretch S s from x a w.end w.bits
stretch_there S s o p from x a left w ok rate first e h =
    let r = rate_of S s in
    let b = w.end in
    let most : r *ℚ left ≡ x = ap (λ y. r *ℚ y) e ∙ all_bits r x rate in
    let near = h.stays.within in
    let within : r *ℚ (b -ℚ a) ≤ℚ x = subst (λ y. r *ℚ (b -ℚ a) ≤ℚ y) most
    (Rattle.rational.proofs.Laws.mul_le_mul r (le_of_lt rate) (with3 a b left (λ c. omega (arith, c.le, c.lt, c.same)))) in
    record {
      begins = first;
      forward = h.stays.forward;
      open_all = λ y l m. open_there S s o ok y (h.stays.holds y l m);
      at_rate = h.bits;
      within = subst (λ y. y ≤ℚ x) (sym h.bits) within;
      longest = elim h.stays.ends [
        | inl q ↦ inl (h.bits ∙ ap (λ y. r *ℚ (y -ℚ a)) q ∙ ap (λ y. r *ℚ y) (antisym (with2 a left (λ c. omega (arith, c.le, c.lt, c.same)))) ∙ most)
        | inr q ↦ inr (λ i. q (Rattle.sim_servers.proofs.Openings.open_here S s o ok b i))
      ];
    }

-- ---- the parts of work
pub worked_time : (r a b time bits : ℚ) → bits ≡ r *ℚ time → time ≡ b -ℚ a → bits ≡ r *ℚ (b -ℚ a)
worked_time r a b time bits e f = e ∙ ap (λ y. r *ℚ y) f

same_times : (before after : Opening) → IsSameOpening before after → opening_for after ≡ opening_for before
same_times before after h = ap (λ g. times_of g after.stalls.items) h.gate ∙ ap (λ v. times_of before.gate v) h.stalls

pub after_work : (before after : Opening) (p : ℕ) (a left : ℚ) (w : Stretch) (rest : ℚ) (n : Next) → IsSameOpening before after
    → rest ≡ left -ℚ (w.end -ℚ a) → w.end ≤ℚ a +ℚ left → IsNextWork before after p w.end rest n → IsAfterWork after p a left w n
after_work before after p a left w rest Nothing same e l h = absurd h
after_work before after p a left w rest (Start t) same e l h = absurd h
after_work before after p a left w rest (Resume q t r) same e l h = record {
  packet = h.0;
  rest_is = h.1 ∙ e;
  some = subst (λ y. int (pos 0) <ℚ y) (sym h.1) h.2;
  opens = subst (λ o. IsFirstOpenAt o w.end t) (sym (same_times before after same)) h.3;
  opened = h.4;
}
after_work before after p a left w rest (Leave q t) same e l h =
    let b = w.end in
    let none = subst (λ y. y ≤ℚ int (pos 0)) e h.2 in
    record {
      packet = h.0;
      at_end = h.1;
      all = antisym (with3 a left b (λ c. omega (arith, c.le, c.lt, c.same)));
      over = h.3;
    }
