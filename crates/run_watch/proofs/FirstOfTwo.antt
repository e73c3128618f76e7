-- The earlier of two firsts is the first of both.
use Rattle.std.specs.Prelude.{◌≡◌, ◌||◌, true, Option, Some, None}
use Rattle.std.proofs.Common.{subst, inl, inr}
use Rattle.std.proofs.lemmas.Bool.{cases_Bool, or_left, or_right}
use Rattle.rational.specs.Rational.{◌≤ℚ◌, ◌<ℚ◌, lt_q}
use Rattle.rational.proofs.Over.{lt_q_in}
use Rattle.run_laws.specs.Runs.{SpecRun}
use Rattle.net_model.specs.declared.breach.Breach.{Breach}
use Rattle.net_model.specs.declared.breach.Breach.TheVariants.{Size, Arrival, Service}
use Rattle.flow_watch.specs.watch_laws.Breaches.{order_key, NoLater}
use Rattle.flow_watch.proofs.watch_laws.Order.{no_later_trans}
use Rattle.run_watch.specs.declared.found.Found.{Found}
use Rattle.run_watch.specs.FirstOf.{time_of, IsBest, IsBestBefore, time_if_any, earlier, GoesBefore, IsBoth, EarlierIsFirst}
use Rattle.run_watch.proofs.RampLists.{not_less}

sooner_key : (run : SpecRun) (x y : Breach) → time_of run x <ℚ time_of run y → NoLater (order_key run x) (order_key run y)
sooner_key run (Size f p) (Size g q) h = inl h
sooner_key run (Size f p) (Arrival g i j) h = inl h
sooner_key run (Size f p) (Service s a b) h = inl h
sooner_key run (Arrival f k l) (Size g q) h = inl h
sooner_key run (Arrival f k l) (Arrival g i j) h = inl h
sooner_key run (Arrival f k l) (Service s a b) h = inl h
sooner_key run (Service r c d) (Size g q) h = inl h
sooner_key run (Service r c d) (Arrival g i j) h = inl h
sooner_key run (Service r c d) (Service s a b) h = inl h

pub first_of_both : (run : SpecRun) (P Q R : Breach → Type 0) (o p : Option Found) → IsBest P run o → IsBest Q run p → IsBoth P Q R → GoesBefore run P Q → IsBest R run (earlier o p)
first_of_both run P Q R None None h k B G = λ y r. elim (B.of_one y r) [ inl a ↦ h y a | inr a ↦ k y a ]
first_of_both run P Q R None (Some g) h k B G = record {
  is = B.other g.breach k.is;
  time = k.time;
  least = λ y r. elim (B.of_one y r) [ inl a ↦ absurd (h y a) | inr a ↦ k.least y a ];
}
first_of_both run P Q R (Some f) None h k B G = record {
  is = B.first f.breach h.is;
  time = h.time;
  least = λ y r. elim (B.of_one y r) [ inl a ↦ h.least y a | inr a ↦ absurd (k y a) ];
}
first_of_both run P Q R (Some f) (Some g) h k B G = elim (cases_Bool (lt_q g.time f.time)) [
  | inl e ↦
      let sooner : time_of run g.breach <ℚ time_of run f.breach = subst (λ x. x <ℚ time_of run f.breach) k.time (subst (λ x. g.time <ℚ x) h.time (lt_q_in g.time f.time e)) in
      rw e record {
        is = B.other g.breach k.is;
        time = k.time;
        least = λ y r. elim (B.of_one y r) [
          | inl a ↦ no_later_trans (order_key run g.breach) (order_key run f.breach) (order_key run y) (sooner_key run g.breach f.breach sooner) (h.least y a)
          | inr a ↦ k.least y a
        ];
      }
  | inr e ↦
      let no_later : time_of run f.breach ≤ℚ time_of run g.breach = subst (λ x. x ≤ℚ time_of run g.breach) h.time (subst (λ x. f.time ≤ℚ x) k.time (not_less g.time f.time e)) in
      rw e record {
        is = B.first f.breach h.is;
        time = h.time;
        least = λ y r. elim (B.of_one y r) [
          | inl a ↦ h.least y a
          | inr a ↦ no_later_trans (order_key run f.breach) (order_key run g.breach) (order_key run y) (G f.breach g.breach h.is k.is no_later) (k.least y a)
        ];
      }
]

-- of the other set only those before the first of the one are asked for
pub first_of_both_before : (run : SpecRun) (P Q R : Breach → Type 0) (o p : Option Found) → IsBest P run o → IsBestBefore (time_if_any o) Q run p → IsBoth P Q R → GoesBefore run P Q → IsBest R run (earlier o p)
first_of_both_before run P Q R None None h k B G = first_of_both run P Q R None None h k B G
first_of_both_before run P Q R None (Some g) h k B G = first_of_both run P Q R None (Some g) h k B G
first_of_both_before run P Q R (Some f) None h k B G = record {
  is = B.first f.breach h.is;
  time = h.time;
  least = λ y r. elim (B.of_one y r) [ inl a ↦ h.least y a | inr a ↦ G f.breach y h.is a (subst (λ x. x ≤ℚ time_of run y) h.time (k y a)) ];
}
first_of_both_before run P Q R (Some f) (Some g) h k B G = first_of_both run P Q R (Some f) (Some g) h k B G

pub earlier_is_first : EarlierIsFirst
earlier_is_first run p q f g h k before =
    first_of_both run (λ y. p y ≡ true) (λ y. q y ≡ true) (λ y. (p y || q y) ≡ true) f g h k record {
      of_one = λ y r. elim (cases_Bool (p y)) [ inl e ↦ inl e | inr e ↦ inr (rw e at r) ];
      first = λ y a. or_left (p y) (q y) a;
      other = λ y a. or_right (p y) (q y) a;
    } before
