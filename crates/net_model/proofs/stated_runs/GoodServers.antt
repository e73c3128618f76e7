-- What holds of each server's state in a stated run.
use Rattle.std.proofs.Common.{◌≡◌, ℕ, ◌<◌, List, length, refl, sym, ap, ◌∙◌, subst, arith, inl, inr, Some, None}
use Rattle.std.specs.Prelude.{pos}
use Rattle.rational.specs.Rational.{ℚ, int, ◌+ℚ◌, ◌≤ℚ◌, ◌<ℚ◌}
use Rattle.rational.proofs.Linear.{with2}
use Rattle.rational.proofs.Laws.{le_refl, le_trans}
use Rattle.run_laws.specs.Cards.{Card, size, Arrives, Works, Leaves, Visits}
use Rattle.run_laws.specs.Servers.{Discipline, Under, Span, ServerState, done, done_so_far}
use Rattle.run_laws.specs.Next.{next}
use Rattle.run_laws.specs.Routes.{Routes, PassesServer}
use Rattle.run_laws.specs.Views.{Entry, entry_of}
pub use Rattle.net_model.specs.stated_runs.CardsAt.{IsCardAt}
use Rattle.net_model.proofs.stated_runs.Lists.{In, in_either, in_rest}

-- the later list knows the packets of the earlier
abbrev pub IsExtendedBy : List Entry → List Entry → Type 0
IsExtendedBy before after = (p : ℕ) → p < length before → (p < length after) × (entry_of after p ≡ entry_of before p)

pub extends_same : (entered : List Entry) → IsExtendedBy entered entered
extends_same entered p h = (h, refl)

pub card_extends : (net : Routes) (before after : List Entry) (s : ℕ) (c : Card) → IsExtendedBy before after → IsCardAt net before s c → IsCardAt net after s c
card_extends net before after s c x h =
    let e = x c.packet h.entered_one in
    record {
      is = h.is ∙ ap (λ (t : Entry). let f : Card = record { packet = c.packet; flow = t.flow; queue = Rattle.run_laws.specs.Routes.queue_at s (Rattle.run_laws.specs.Routes.route_of net t.flow).hops; bits = t.bits } in f) (sym e.1);
      entered_one = e.0;
      passes = subst (λ (t : Entry). PassesServer s (Rattle.run_laws.specs.Routes.route_of net t.flow).hops) (sym e.1) h.passes;
    }

pub record IsGoodUnder (net : Routes) (entered : List Entry) (s : ℕ) (busy : ℚ) (u : Under) : Type 0 where
  pub card : IsCardAt net entered s u.card
  pub within : done u ≤ℚ size u.card
  pub at_end : busy ≡ u.last.end
  pub from_zero : int (pos 0) ≤ℚ u.last.end

-- T: the time of the last step of the run
pub record IsGoodAt (net : Routes) (entered : List Entry) (s : ℕ) (σ : ServerState) (T : ℚ) : Type 0 where
  pub cards : (c : Card) → In σ.inside c → IsCardAt net entered s c
  pub under : (u : Under) → σ.under ≡ Some u → IsGoodUnder net entered s σ.busy u
  pub idle : σ.under ≡ None → σ.busy ≤ℚ σ.now
  pub from_zero : int (pos 0) ≤ℚ σ.now
  pub by_now : σ.now ≤ℚ T

pub good_later : (net : Routes) (before after : List Entry) (s : ℕ) (σ : ServerState) (T U : ℚ) → IsExtendedBy before after → T ≤ℚ U
    → IsGoodAt net before s σ T → IsGoodAt net after s σ U
good_later net before after s σ T U x l g = record {
  cards = λ c h. card_extends net before after s c x (g.cards c h);
  under = λ u e. let h = g.under u e in record { card = card_extends net before after s u.card x h.card; within = h.within; at_end = h.at_end; from_zero = h.from_zero };
  idle = g.idle;
  from_zero = g.from_zero;
  by_now = le_trans g.by_now l;
}

pub good_arrive : (net : Routes) (before after : List Entry) (s : ℕ) (d : Discipline) (σ : ServerState) (T t : ℚ) (c : Card)
    → IsExtendedBy before after → IsGoodAt net before s σ T → T ≤ℚ t → IsCardAt net after s c
    → IsGoodAt net after s (next d σ (Arrives c t)) t
good_arrive net before after s d σ T t c x g l k = record {
  cards = λ e h. elim (in_either σ.inside c e h) [
    | inl i ↦ card_extends net before after s e x (g.cards e i)
    | inr i ↦ subst (λ z. IsCardAt net after s z) i k
  ];
  under = λ u e. let h = g.under u e in record { card = card_extends net before after s u.card x h.card; within = h.within; at_end = h.at_end; from_zero = h.from_zero };
  idle = λ e. le_trans (g.idle e) (le_trans g.by_now l);
  from_zero = le_trans g.from_zero (le_trans g.by_now l);
  by_now = le_refl t;
}

pub good_work : (net : Routes) (entered : List Entry) (s : ℕ) (d : Discipline) (σ : ServerState) (T a b w : ℚ) (c : Card)
    → IsGoodAt net entered s σ T → T ≤ℚ a → a <ℚ b → IsCardAt net entered s c → done_so_far σ.under +ℚ w ≤ℚ size c
    → IsGoodAt net entered s (next d σ (Works c a b w)) a
good_work net entered s d σ T a b w c g l forward k within =
    let last : Span = record { start = a; end = b; bits = w } in
    let now_under : Under = record { card = c; before = done_so_far σ.under; last = last } in
    let nonneg : int (pos 0) ≤ℚ a = le_trans g.from_zero (le_trans g.by_now l) in
    record {
      cards = g.cards;
      under = λ u e.
          let f : Some now_under ≡ Some u = e in
          let same : now_under ≡ u = cc in
          subst (λ v. IsGoodUnder net entered s b v) same record {
            card = k;
            within = within;
            at_end = refl;
            from_zero = with2 a b (λ c. omega (arith, c.le, c.lt, c.same));
          };
      idle = λ e. absurd (let f : Some now_under ≡ None = e in cc);
      from_zero = nonneg;
      by_now = le_refl a;
    }

pub good_leave : (net : Routes) (entered : List Entry) (s : ℕ) (d : Discipline) (σ : ServerState) (T t : ℚ) (c : Card)
    → IsGoodAt net entered s σ T → T ≤ℚ t → σ.busy ≤ℚ t → IsGoodAt net entered s (next d σ (Leaves c t)) t
good_leave net entered s d σ T t c g l at_end = record {
  cards = λ e h. g.cards e (in_rest c.queue σ.inside e h);
  under = λ u e. absurd (let f : None ≡ Some u = e in cc);
  idle = λ e. at_end;
  from_zero = le_trans g.from_zero (le_trans g.by_now l);
  by_now = le_refl t;
}

pub good_visit : (net : Routes) (entered : List Entry) (s : ℕ) (d : Discipline) (σ : ServerState) (T t : ℚ) (q : ℕ)
    → IsGoodAt net entered s σ T → T ≤ℚ t → IsGoodAt net entered s (next d σ (Visits q t)) t
good_visit net entered s d σ T t q g l = record {
  cards = g.cards;
  under = g.under;
  idle = λ e. le_trans (g.idle e) (le_trans g.by_now l);
  from_zero = le_trans g.from_zero (le_trans g.by_now l);
  by_now = le_refl t;
}
