-- What the calls of a site give.
use Rattle.std.proofs.Common.{◌≡◌, ℕ, [], refl, sym, ap, ◌∙◌, subst, inl, inr, Some, None, true, false}
use Rattle.std.specs.Prelude.{Option, ◌≢◌, ◌↔◌, Bool, ◌==◌, IsTrue, pos}
use Rattle.std.proofs.lemmas.Bool.{cases_eq, eq-eqb, ne_eqb}
use Rattle.rational.specs.Rational.{ℚ, int, ◌≤ℚ◌, ◌<ℚ◌}
use Rattle.rational.proofs.Laws.{lt_irrefl, lt_le_trans}
use Rattle.rational.proofs.Compared.{not_less_out}
use Rattle.run_laws.specs.Cards.{Card, Works, Visits}
use Rattle.run_laws.specs.Servers.{Discipline, Under, ServerState}
use Rattle.run_laws.specs.Next.{next}
use Rattle.run_laws.specs.Allows.{pick, MayVisit}
use Rattle.run_laws.proofs.Heads.{pick_is_head}
use Rattle.queue_sched.specs.Turns.{Starts as Begins, Sends}
use Rattle.queue_sched.specs.declared.turn.Turn.TheVariants.{Visit}
use Rattle.net_model.proofs.stated_runs.Unique.{no_visit, not_idle, visit_once}
use Rattle.net_model.proofs.stated_runs.Lists.{In, head_in}
use Rattle.sim_servers.specs.Queues.{served_by, room_of, StandFor}
use Rattle.run_packets.specs.declared.underway.Underway.{Underway}
use Rattle.run_check.specs.declared.site.Site.{Site}
use Rattle.run_check.specs.declared.site.Piece.{Piece}
use Rattle.run_check.specs.Sites.{AreUnder, IsSite, Starts, Turns, IsWrong}
use Rattle.run_packets.specs.Works.{IsOther}

pub idle_of : (o : Option Under) (v : Option Underway) → AreUnder o v → v ≡ None → o ≡ None
idle_of None v h e = refl
idle_of (Some u) None h e = absurd h
idle_of (Some u) (Some v) h e = absurd (cc)

pub busy_of : (o : Option Under) (v : Option Underway) → AreUnder o v → v ≢ None → (u : Under) × (o ≡ Some u)
busy_of None None h n = absurd (n refl)
busy_of None (Some v) h n = absurd h
busy_of (Some u) v h n = (u, refl)

-- ---- visits
pub none_picked : (d : Discipline) (σ : ServerState) (c : Card) → σ.inside ≡ [] → ¬ (pick d σ.inside σ.round ≡ Some c)
none_picked d σ c e k = subst (λ cs. In cs c) e (head_in c.queue σ.inside c (pick_is_head d σ.inside σ.round c k))

same_card : (x c : Card) → Some x ≡ Some c → x ≡ c
same_card x c e = cc

-- ---- a turn that is not the one asked for, and one that is
pub turned : (room : ℕ) (σ : ServerState) (before after : Site) (asked q : ℕ) (t : ℚ) → (d : Discipline) → IsSite d room σ before
    → Begins (served_by before.queues) (StandFor after.queues) σ (Some (Visit q)) → after.latest ≡ t → after.busy ≡ before.busy → after.under ≡ before.under
    → served_by after.queues ≡ served_by before.queues → room_of after.queues ≡ room_of before.queues → Turns d room σ after asked t (q == asked)
turned room σ before after asked q t d h begins latest busy under serves has_room = elim (cases_eq q asked) [
  | inl e ↦ subst (Turns d room σ after asked t) (sym (eq-eqb q asked e)) (
    subst (MayVisit d σ) e (subst (λ z. MayVisit z σ q) h.serves begins.0),
    record {
      now = latest;
      busy = busy ∙ h.busy;
      under = subst (AreUnder σ.under) (sym under) h.under;
      queues = subst (λ y. StandFor after.queues (next d σ (Visits y t))) e (subst (λ z. StandFor after.queues (next z σ (Visits q t))) h.serves (begins.1 t));
      serves = serves ∙ h.serves;
      has_room = has_room ∙ h.has_room;
    },
  )
  | inr n ↦ subst (Turns d room σ after asked t) (sym (ne_eqb q asked n)) (λ m. n (visit_once d σ q asked (subst (λ z. MayVisit z σ q) h.serves begins.0) m))
]

pub not_idle_visit : (d : Discipline) (room : ℕ) (σ : ServerState) (before : Site) (asked : ℕ) → IsSite d room σ before → before.under ≢ None → ¬ MayVisit d σ asked
not_idle_visit d room σ before asked h n m = let u = busy_of σ.under before.under h.under n in not_idle d σ asked u.0 m u.1

pub started : (d : Discipline) (room : ℕ) (σ : ServerState) (before after : Site) (asked p : ℕ) → IsSite d room σ before
    → Sends (served_by before.queues) (StandFor after.queues) σ p → after.latest ≡ before.latest → after.busy ≡ before.busy → after.under ≡ before.under
    → served_by after.queues ≡ served_by before.queues → room_of after.queues ≡ room_of before.queues → Starts d room σ before after asked (p == asked)
started d room σ before after asked p h s latest busy under serves has_room =
    let picked : pick d σ.inside σ.round ≡ Some s.card = subst (λ z. pick z σ.inside σ.round ≡ Some s.card) h.serves s.picked in
    elim (cases_eq p asked) [
      | inl e ↦ subst (Starts d room σ before after asked) (sym (eq-eqb p asked e)) record {
        card = s.card;
        packet = s.packet_is ∙ e;
        picked = picked;
        queues = λ a b w. subst (λ z. StandFor after.queues (next z σ (Works s.card a b w))) h.serves (s.moved a b w);
        serves = serves ∙ h.serves;
        has_room = has_room ∙ h.has_room;
        latest = latest;
        busy = busy;
        under = under;
      }
      | inr n ↦ subst (Starts d room σ before after asked) (sym (ne_eqb p asked n)) (λ c k i. n (sym s.packet_is ∙ (ap (λ (x : Card). x.packet) (same_card s.card c (sym picked ∙ i)) ∙ k)))
    ]

pub not_started : (d : Discipline) (room : ℕ) (σ : ServerState) (before : Site) (StandsNow : ServerState → Type 0) (q p : ℕ) → IsSite d room σ before
    → Begins (served_by before.queues) StandsNow σ (Some (Visit q)) → (c : Card) → c.packet ≡ p → ¬ (pick d σ.inside σ.round ≡ Some c)
not_started d room σ before StandsNow q p h begins c k i = no_visit d σ q c (subst (λ z. MayVisit z σ q) h.serves begins.0) i

-- ---- tests of work
pub untrue : (b : Bool) → IsTrue b → b ≡ false → ⊥
untrue b h e = let f : true ≡ false = sym h ∙ e in cc

pub is_less : (b : Bool) (x y : ℚ) → (IsTrue b ↔ (x <ℚ y)) → b ≡ true → x <ℚ y
is_less b x y h e = h.0 e

pub no_time : (site : Site) (w : Piece) (rest : ℚ) (b : Bool) → (IsTrue b ↔ (w.start <ℚ w.end)) → b ≡ false → IsWrong site w rest
no_time site w rest b h e = inl (not_less_out b w.start w.end h e)

pub no_bits : (site : Site) (w : Piece) (rest z : ℚ) (b : Bool) → z ≡ int (pos 0) → (IsTrue b ↔ (z <ℚ w.bits)) → b ≡ false → IsWrong site w rest
no_bits site w rest z b is h e = inr (inl (subst (λ y. w.bits ≤ℚ y) is (not_less_out b z w.bits h e)))

-- the last test decides
pub wrong_else : (site : Site) (w : Piece) (rest z : ℚ) (a b c d r : Bool) → z ≡ int (pos 0) → (IsTrue a ↔ (w.start <ℚ w.end)) → a ≡ true → (IsTrue b ↔ (z <ℚ w.bits)) → b ≡ true
    → (IsTrue c ↔ (w.start <ℚ site.busy)) → c ≡ false → (IsTrue d ↔ IsOther site.under w.packet) → d ≡ false → (IsTrue r ↔ (rest <ℚ w.bits))
    → (IsTrue r ↔ IsWrong site w rest)
wrong_else site w rest z a b c d r is ha ea hb eb hc ec hd ed hr = (λ t. inr (inr (inr (inr (hr.0 t)))), back)
  where
    back : IsWrong site w rest → IsTrue r
    back (inl k) = absurd (lt_irrefl w.start (lt_le_trans (is_less a w.start w.end ha ea) k))
    back (inr (inl k)) = absurd (lt_irrefl z (lt_le_trans (is_less b z w.bits hb eb) (subst (λ y. w.bits ≤ℚ y) (sym is) k)))
    back (inr (inr (inl k))) = absurd (untrue c (hc.1 k) ec)
    back (inr (inr (inr (inl k)))) = absurd (untrue d (hd.1 k) ed)
    back (inr (inr (inr (inr k)))) = hr.1 k
