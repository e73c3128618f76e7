-- What holds of work that is due.
use Rattle.std.proofs.Common.{◌≡◌, ℕ, List, sym, ap, ◌∙◌, subst, arith, inl, inr, ◌⊎◌, Some}
use Rattle.std.specs.Prelude.{pos}
use Rattle.rational.specs.Rational.{ℚ, int, ◌+ℚ◌, ◌-ℚ◌, ◌*ℚ◌, ◌≤ℚ◌, ◌<ℚ◌}
use Rattle.rational.proofs.Linear.{with2, with3}
use Rattle.rational.proofs.Laws.{le_refl, le_trans, mul_pos}
use Rattle.run_laws.specs.Cards.{Card, size}
use Rattle.run_laws.specs.Servers.{ServerState, done, done_so_far}
use Rattle.run_laws.specs.Allows.{next_card, KeepsPace}
use Rattle.run_laws.specs.Routes.{server_at}
use Rattle.run_laws.specs.Views.{Entry, card_of}
use Rattle.run_laws.proofs.Heads.{pick_is_head}
use Rattle.net_model.specs.stated_runs.Setups.{Setup, rate_of, IsSetup, IsStretch}
use Rattle.net_model.specs.stated_runs.DueSteps.{IsResumed, IsStarted}
use Rattle.net_model.proofs.stated_runs.Lists.{In, head_in}
use Rattle.net_model.proofs.stated_runs.GoodServers.{IsCardAt, IsGoodAt}

pub record IsGoodWork (S : Setup) (entered : List Entry) (s : ℕ) (σ : ServerState) (p : ℕ) (a b w : ℚ) : Type 0 where
  pub card : Card
  pub card_is : card ≡ card_of S.net entered p s
  pub here : IsCardAt S.net entered s card
  pub next_one : next_card σ.under (server_at S.net s).discipline σ.inside σ.round ≡ Some card
  pub no_overlap : σ.busy ≤ℚ a
  pub forward : a <ℚ b
  pub some_work : int (pos 0) <ℚ w
  pub in_pace : KeepsPace (server_at S.net s).pace a b w
  pub within : done_so_far σ.under +ℚ w ≤ℚ size card

some_work_of : (S : Setup) → IsSetup S → (s : ℕ) (from left a b w : ℚ) → IsStretch S s from left a b w → int (pos 0) <ℚ w
some_work_of S ok s from left a b w k =
    let long : int (pos 0) <ℚ b -ℚ a = let f = k.forward in with2 a b (λ c. omega (arith, c.le, c.lt, c.same)) in
    subst (λ t. int (pos 0) <ℚ t) (sym k.at_rate) (mul_pos (ok.rates s) long)

in_pace_of : (S : Setup) → IsSetup S → (s : ℕ) (from left a b w : ℚ) → IsStretch S s from left a b w → KeepsPace (server_at S.net s).pace a b w
in_pace_of S ok s from left a b w k = elim (ok.paces s) [
  | inl e ↦ rw e tt
  | inr e ↦ rw e (subst (λ t. t ≤ℚ rate_of S s *ℚ (b -ℚ a)) (sym k.at_rate) (le_refl (rate_of S s *ℚ (b -ℚ a))))
]

same_card : (S : Setup) (entered : List Entry) (s p : ℕ) (c : Card) → IsCardAt S.net entered s c → c.packet ≡ p → c ≡ card_of S.net entered p s
same_card S entered s p c h e = h.is ∙ ap (λ q. card_of S.net entered q s) e

pub good_of_resumed : (S : Setup) → IsSetup S → (entered : List Entry) (s : ℕ) (σ : ServerState) (T : ℚ) (p : ℕ) (a b w : ℚ)
    → IsGoodAt S.net entered s σ T → IsResumed S s σ p a b w → IsGoodWork S entered s σ p a b w
good_of_resumed S ok entered s σ T p a b w g h =
    let u = h.under in
    let under = g.under u h.is_under in
    let so_far : done_so_far σ.under ≡ done u = ap done_so_far h.is_under in
    let within = h.stretch.within in
    record {
      card = u.card;
      card_is = same_card S entered s p u.card under.card h.packet_is;
      here = under.card;
      next_one = ap (λ o. next_card o (server_at S.net s).discipline σ.inside σ.round) h.is_under;
      no_overlap = subst (λ t. t ≤ℚ a) (sym under.at_end) h.stretch.begins.not_before;
      forward = h.stretch.forward;
      some_work = some_work_of S ok s u.last.end (size u.card -ℚ done u) a b w h.stretch;
      in_pace = in_pace_of S ok s u.last.end (size u.card -ℚ done u) a b w h.stretch;
      within = subst (λ t. t +ℚ w ≤ℚ size u.card) (sym so_far) (with3 (done u) w (size u.card) (λ c. omega (arith, c.le, c.lt, c.same)));
    }

pub good_of_started : (S : Setup) → IsSetup S → (entered : List Entry) (s : ℕ) (σ : ServerState) (T : ℚ) (p : ℕ) (a b w : ℚ)
    → IsGoodAt S.net entered s σ T → IsStarted S s σ p a b w → IsGoodWork S entered s σ p a b w
good_of_started S ok entered s σ T p a b w g h =
    let inside : In σ.inside h.card = head_in h.card.queue σ.inside h.card (pick_is_head (server_at S.net s).discipline σ.inside σ.round h.card h.picked) in
    let here = g.cards h.card inside in
    let so_far : done_so_far σ.under ≡ int (pos 0) = ap done_so_far h.idle in
    let within = h.stretch.within in
    record {
      card = h.card;
      card_is = same_card S entered s p h.card here h.packet_is;
      here = here;
      next_one = ap (λ o. next_card o (server_at S.net s).discipline σ.inside σ.round) h.idle ∙ h.picked;
      no_overlap = le_trans (g.idle h.idle) h.stretch.begins.not_before;
      forward = h.stretch.forward;
      some_work = some_work_of S ok s σ.now (size h.card) a b w h.stretch;
      in_pace = in_pace_of S ok s σ.now (size h.card) a b w h.stretch;
      within = subst (λ t. t +ℚ w ≤ℚ size h.card) (sym so_far) (with2 w (size h.card) (λ c. omega (arith, c.le, c.lt, c.same)));
    }

pub good_work_of : (S : Setup) → IsSetup S → (entered : List Entry) (s : ℕ) (σ : ServerState) (T : ℚ) (p : ℕ) (a b w : ℚ)
    → IsGoodAt S.net entered s σ T → (IsResumed S s σ p a b w) ⊎ (IsStarted S s σ p a b w) → IsGoodWork S entered s σ p a b w
good_work_of S ok entered s σ T p a b w g (inl h) = good_of_resumed S ok entered s σ T p a b w g h
good_work_of S ok entered s σ T p a b w g (inr h) = good_of_started S ok entered s σ T p a b w g h
