-- What is known after the lines and the first services, and of all of them.
use Rattle.std.specs.Prelude.{◌≡◌, ℕ, ◌+◌, ◌*◌, ◌^◌, ◌<◌, ◌≤◌, min, nat_lt, Bool, true, false, cond, List, length, get_or, Option, Some, None, MatchOption}
use Rattle.std.proofs.Common.{arith, ap, sym, ◌∙◌, refl, subst, inl, inr}
use Rattle.std.specs.Int.{div_ceil}
use Rattle.std.proofs.lemmas.Bool.{cases_lt}
use Rattle.std.proofs.lemmas.List.{get_or_default}
use Rattle.arrival_lines.specs.Queues as of_lines
use Rattle.arrival_lines.specs.Queues.{lesser_stay}
use Rattle.arrival_lines.specs.declared.grid.Queue.{Queue}
use Rattle.arrival_lines.specs.declared.grid.Service.{Service}
use Rattle.arrival_lines.specs.declared.queues.Stay.{Stay}
use Rattle.arrival_lines.proofs.InOrder.{is_less, not_less}
use Rattle.arrival_stairs.specs.BelowLines.{line_parts}
use Rattle.arrival_stairs.specs.declared.stairs.Bundle.{Bundle}
use Rattle.arrival_stairs.specs.Views.{bunches}
use Rattle.arrival_stairs.proofs.OneExcess.{excess_is_one}
use Rattle.arrival_stairs.specs.Stays.{IsStay, IsStayAt, HasNoStay, as_stay, as_queue}
use Rattle.arrival_stairs.specs.Queues.{IsStayOf, IsSomeDelay, IsSomeBacklog, IsAtMost, IsStairQueue, IsNone, AreLong, IsLeastOfBoth, IsNothing, IsSoFar, IsLeastSoFar}

-- ---- one at a service
pub stay_is_one : (one other : List Bundle) (s : Service) (longest d b e c : ℕ) → bunches one ≡ bunches other → IsStay one s longest d b → IsStay other s longest e c
    → (d ≡ e) × (b ≡ c)
stay_is_one one other s longest d b e c same x y =
    let over = excess_is_one one other s.rate x.over y.over same x.excess y.excess in (
      x.delay ∙ ap (λ n. div_ceil ((n + s.debt) * 10 ^ 12) s.rate) over ∙ sym y.delay,
      x.backlog ∙ ap (λ n. div_ceil (n + (s.debt + longest)) 1024) over ∙ sym y.backlog,
    )

-- ---- the lesser of two
less_lines : (d b less low : ℕ) (queue : Option Queue) → IsAtMost d b queue → less ≤ d → low ≤ b → IsAtMost less low queue
less_lines d b less low None h l m = tt
less_lines d b less low (Some queue) (h, k) l m = (omega (arith, h, l), omega (arith, k, m))

no_lines : (d b : ℕ) (queue : Option Queue) → IsNone queue → IsAtMost d b queue
no_lines d b None h = tt
no_lines d b (Some queue) h = absurd h

-- ---- before the first service
pub begun : (bundles : List Bundle) (services : List Service) (longest : ℕ) (lines : Option Queue) → IsLeastSoFar bundles services longest 0 lines (as_stay lines)
begun bundles services longest None = record { lines = tt; none = λ k e h. absurd (omega (arith, h)) }
begun bundles services longest (Some queue) = record {
  delay = inl record { queue = queue; is = refl; delay = refl };
  backlog = inl record { queue = queue; is = refl; backlog = refl };
  least = record { lines = (omega arith, omega arith); stairs = λ k e other low h is. absurd (omega (arith, h)) };
}

-- ---- one service more
module _ (bundles : List Bundle) (services : List Service) (longest : ℕ) (lines : Option Queue) (i : ℕ) (e : Service) (inside : i < length services) where
  here : (P : Service → Type 0) (k : ℕ) (f : Service) → i ≡ k → P (get_or services i e) → P (get_or services k f)
  here P k f same p = subst P (get_or_default services i e f inside ∙ ap (λ (n : ℕ). get_or services n f) same) p

  there : (P : Service → Type 0) (k : ℕ) (f : Service) → i ≡ k → P (get_or services k f) → P (get_or services i e)
  there P k f same p = subst P (sym (get_or_default services i e f inside ∙ ap (λ (n : ℕ). get_or services n f) same)) p

  stay_here : (d b : ℕ) → IsStay bundles (get_or services i e) longest d b → IsStayOf bundles services longest (i + 1) d b
  stay_here d b is = record { place = i; inside = omega arith; is = λ f. here (λ s. IsStay bundles s longest d b) i f refl is }

  stay_before : (d b : ℕ) → IsStayOf bundles services longest i d b → IsStayOf bundles services longest (i + 1) d b
  stay_before d b of = record { place = of.place; inside = let h = of.inside in omega (arith, h); is = of.is }

  delay_before : (d : ℕ) → IsSomeDelay bundles services longest i lines d → IsSomeDelay bundles services longest (i + 1) lines d
  delay_before d (inl by_lines) = inl by_lines
  delay_before d (inr (b, of)) = inr (b, stay_before d b of)

  backlog_before : (b : ℕ) → IsSomeBacklog bundles services longest i lines b → IsSomeBacklog bundles services longest (i + 1) lines b
  backlog_before b (inl by_lines) = inl by_lines
  backlog_before b (inr (d, of)) = inr (d, stay_before d b of)

  -- where there is no stay
  none_more : IsNothing bundles services longest i lines → HasNoStay bundles (get_or services i e) longest → IsNothing bundles services longest (i + 1) lines
  none_more known none = record {
    lines = known.lines;
    none = λ k f h. elim (cases_lt k i) [
      | inl l ↦ known.none k f l
      | inr l ↦ here (λ s. HasNoStay bundles s longest) k f (omega (arith, h, l)) none
    ];
  }

  kept_more : (d b : ℕ) → IsSoFar bundles services longest i lines d b → HasNoStay bundles (get_or services i e) longest → IsSoFar bundles services longest (i + 1) lines d b
  kept_more d b known none = record {
    delay = delay_before d known.delay;
    backlog = backlog_before b known.backlog;
    least = record {
      lines = known.least.lines;
      stairs = λ k f other low h is. elim (cases_lt k i) [
        | inl l ↦ known.least.stairs k f other low l is
        | inr l ↦ absurd (none other low (there (λ s. IsStay bundles s longest other low) k f (omega (arith, h, l)) is))
      ];
    };
  }

  -- the first
  first : (d b : ℕ) → IsNothing bundles services longest i lines → IsStay bundles (get_or services i e) longest d b → IsSoFar bundles services longest (i + 1) lines d b
  first d b known is = record {
    delay = inr (b, stay_here d b is);
    backlog = inr (d, stay_here d b is);
    least = record {
      lines = no_lines d b lines known.lines;
      stairs = λ k f other low h its. elim (cases_lt k i) [
        | inl l ↦ absurd (known.none k f l other low its)
        | inr l ↦
            let own = there (λ s. IsStay bundles s longest other low) k f (omega (arith, h, l)) its in
            let same = stay_is_one bundles bundles (get_or services i e) longest d b other low refl is own in
            (omega (arith, same.0), omega (arith, same.1))
      ];
    };
  }

  -- or as well
  lesser_delay : (d new low : ℕ) → IsSomeDelay bundles services longest i lines d → IsStay bundles (get_or services i e) longest new low
      → IsSomeDelay bundles services longest (i + 1) lines (min d new)
  lesser_delay d new low known is = elim (cases_lt new d) [
    | inl l ↦ let at : new ≡ min d new = omega (arith, l) in subst (λ (n : ℕ). IsSomeDelay bundles services longest (i + 1) lines n) at (inr (low, stay_here new low is))
    | inr l ↦ let at : d ≡ min d new = omega (arith, l) in subst (λ (n : ℕ). IsSomeDelay bundles services longest (i + 1) lines n) at (delay_before d known)
  ]

  lesser_backlog : (b new low : ℕ) → IsSomeBacklog bundles services longest i lines b → IsStay bundles (get_or services i e) longest new low
      → IsSomeBacklog bundles services longest (i + 1) lines (min b low)
  lesser_backlog b new low known is = elim (cases_lt low b) [
    | inl l ↦ let at : low ≡ min b low = omega (arith, l) in subst (λ (n : ℕ). IsSomeBacklog bundles services longest (i + 1) lines n) at (inr (new, stay_here new low is))
    | inr l ↦ let at : b ≡ min b low = omega (arith, l) in subst (λ (n : ℕ). IsSomeBacklog bundles services longest (i + 1) lines n) at (backlog_before b known)
  ]

  lesser_more : (d b new low : ℕ) → IsSoFar bundles services longest i lines d b → IsStay bundles (get_or services i e) longest new low
      → IsSoFar bundles services longest (i + 1) lines (min d new) (min b low)
  lesser_more d b new low known is = record {
    delay = lesser_delay d new low known.delay is;
    backlog = lesser_backlog b new low known.backlog is;
    least = record {
      lines = less_lines d b (min d new) (min b low) lines known.least.lines (omega arith) (omega arith);
      stairs = λ k f other less h its. elim (cases_lt k i) [
        | inl l ↦ let before = known.least.stairs k f other less l its in (let x = before.0 in omega (arith, x), let y = before.1 in omega (arith, y))
        | inr l ↦
            let own = there (λ s. IsStay bundles s longest other less) k f (omega (arith, h, l)) its in
            let same = stay_is_one bundles bundles (get_or services i e) longest new low other less refl is own in
            (let x = same.0 in omega (arith, x), let y = same.1 in omega (arith, y))
      ];
    };
  }

  pub one_more : (found new : Option Stay) → IsStayAt bundles (get_or services i e) longest new → IsLeastSoFar bundles services longest i lines found
      → IsLeastSoFar bundles services longest (i + 1) lines (lesser_stay found new)
  one_more None None is known = none_more known is
  one_more (Some old) None is known = kept_more old.delay old.backlog known is
  one_more None (Some stay) is known = first stay.delay stay.backlog known is
  one_more (Some old) (Some stay) is known = lesser_more old.delay old.backlog stay.delay stay.backlog known is

-- ---- after the last
module _ (bundles : List Bundle) (services : List Service) (longest : ℕ) (lines : Option Queue)
    (by_lines : MatchOption lines (of_lines.IsUnbounded (line_parts bundles) services) (λ queue. of_lines.IsLeastQueue (line_parts bundles) services longest queue)) where
  told : (b : Bool) (queue : Queue) → (b ≡ true → IsStairQueue bundles services longest lines queue) → (b ≡ false → AreLong bundles services longest lines)
      → MatchOption (cond b (Some queue) None) (AreLong bundles services longest lines) (λ w. IsStairQueue bundles services longest lines w)
  told true queue so otherwise = so refl
  told false queue so otherwise = otherwise refl

  -- what is no less than the lines' is short
  no_lines_so_long : (d b : ℕ) (o : Option Queue) → MatchOption o (of_lines.IsUnbounded (line_parts bundles) services) (λ queue. of_lines.IsLeastQueue (line_parts bundles) services longest queue)
      → IsAtMost d b o → 2 ^ 50 ≤ d → IsNone o
  no_lines_so_long d b None is most long = tt
  no_lines_so_long d b (Some queue) is most long = let short = is.short in let x = most.0 in absurd (omega (arith, short, long, x))

  queue_is : (found : Option Stay) → IsLeastSoFar bundles services longest (length services) lines found
      → MatchOption (as_queue found) (AreLong bundles services longest lines) (λ queue. IsStairQueue bundles services longest lines queue)
  queue_is None known = record { lines = known.lines; stairs = λ k e d b h is. absurd (known.none k e h d b is) }
  queue_is (Some stay) known =
      told (nat_lt stay.delay (2 ^ 50)) record { delay = stay.delay; backlog = stay.backlog }
      (λ e. record { short = is_less stay.delay (2 ^ 50) e; delay = known.delay; backlog = known.backlog; least = known.least })
      (λ e. record {
        lines = no_lines_so_long stay.delay stay.backlog lines by_lines known.least.lines (not_less stay.delay (2 ^ 50) e);
        stairs = λ k f d b h is.
            let long = not_less stay.delay (2 ^ 50) e in
            let less = (known.least.stairs k f d b h is).0 in
            omega (arith, long, less);
      })

  pub both_are : (found : Option Stay) → IsLeastSoFar bundles services longest (length services) lines found → IsLeastOfBoth bundles services longest (as_queue found)
  both_are found known = record { lines = lines; by_lines = by_lines; least = queue_is found known }
