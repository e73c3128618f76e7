-- What is promised of a queue is one, whichever list of its services it is the least over.
use Rattle.std.proofs.Common.{◌≡◌, ℕ, zero, suc, ◌<◌, ◌≤◌, ◌*◌, Option, Some, None, List, [], ◌∷◌, length, get_or, map, refl, sym, ◌∙◌, ap, ap₂, subst, arith, inl, inr}
use Rattle.std.specs.Prelude.{MatchOption, option_map}
use Rattle.std.proofs.lemmas.List.{get_or_default}
use Rattle.arrival_lines.specs.Delays.{IsDelayAt}
use Rattle.arrival_lines.specs.Backlogs.{IsBacklogAt}
use Rattle.arrival_lines.specs.Queues.{IsUnbounded, IsLeastQueue, IsLeastDelay, IsLeastBacklog}
use Rattle.arrival_lines.specs.declared.grid.Part.{Part}
use Rattle.arrival_lines.specs.declared.grid.Queue.{Queue}
use Rattle.arrival_lines.specs.declared.grid.Service.{Service}
use Rattle.tree_network.specs.declared.network.Port.{Port}
use Rattle.document_tables.specs.Grids.{grid_port}
use Rattle.arrival_stairs.specs.BelowLines.{line_parts}
use Rattle.arrival_stairs.specs.Views.{bunches}
use Rattle.arrival_stairs.specs.declared.stairs.Bundle.{Bundle}
use Rattle.arrival_stairs.proofs.OneExcess.{same_parts, excess_moved}
use Rattle.port_bounds.specs.Incoming.{Incoming}
use Rattle.port_bounds.specs.Services.{IsServiceOf, AreAll}
use Rattle.arrival_stairs.specs.Stays.{IsStay}
use Rattle.arrival_stairs.specs.Queues.{IsSomeDelay, IsSomeBacklog, IsAtMost, IsStairQueue, IsNone, AreLong, IsLeastOfBoth}
use Rattle.port_bounds.specs.StairsIncoming.{StairsIn, line_incomings, stairs_at}
use Rattle.port_bounds.specs.StairRows.{IsLeastStairRow, IsStairRowBy}
use Rattle.tree_bounds.specs.Bunches.{Arriving, IsRowOf, arriving_of}
use Rattle.tree_bounds.proofs.Bunched.{line_arriving, lines_are}
use Rattle.bounds_command.proofs.Alike.{services_same}

abbrev any : Service
any = record { rate = 0; debt = 0 }

-- each service of a list is one of the other
record StandsIn (xs : List Service) (place : ℕ) (service : Service) : Type 0 where
  inside : place < length xs
  is : (e : Service) → get_or xs place e ≡ service

record AreAmong (xs ys : List Service) : Type 0 where
  each : (k : ℕ) → k < length xs → (j : ℕ) × StandsIn ys j (get_or xs k any)

module _ (parts : List Part) (xs ys : List Service) (among : AreAmong xs ys) where
  delay_moved : (k d : ℕ) (h : k < length xs) → ((e : Service) → IsDelayAt parts (get_or xs k e) d)
      → (e : Service) → IsDelayAt parts (get_or ys (among.each k h).0 e) d
  delay_moved k d h is e =
      let P : Service → Type 0 = λ s. IsDelayAt parts s d in
      subst P (sym ((among.each k h).1.is e)) (is any)

  backlog_moved : (k longest b : ℕ) (h : k < length xs) → ((e : Service) → IsBacklogAt parts (get_or xs k e) longest b)
      → (e : Service) → IsBacklogAt parts (get_or ys (among.each k h).0 e) longest b
  backlog_moved k longest b h is e =
      let P : Service → Type 0 = λ s. IsBacklogAt parts s longest b in
      subst P (sym ((among.each k h).1.is e)) (is any)

  delay_le : (d other : ℕ) → IsLeastDelay parts xs (length xs) d → IsLeastDelay parts ys (length ys) other → other ≤ d
  delay_le d other one two =
      two.least (among.each one.place one.inside).0 any d (among.each one.place one.inside).1.inside
      (delay_moved one.place d one.inside one.is any)

  backlog_le : (longest b other : ℕ) → IsLeastBacklog parts xs (length xs) longest b
      → IsLeastBacklog parts ys (length ys) longest other → other ≤ b
  backlog_le longest b other one two =
      two.least (among.each one.place one.inside).0 any one.delay b (among.each one.place one.inside).1.inside
      (delay_moved one.place one.delay one.inside one.served any)
      (backlog_moved one.place longest b one.inside one.is any)

  not_long : (longest : ℕ) (queue : Queue) → IsLeastQueue parts xs longest queue → IsUnbounded parts ys → ⊥
  not_long longest queue one none =
      let place = one.delay.place in
      let inside = one.delay.inside in
      let long = none.long (among.each place inside).0 any queue.delay (among.each place inside).1.inside
      (delay_moved place queue.delay inside one.delay.is any) in
      let short = one.short in
      omega (arith, long, short)

least_is_one : (parts : List Part) (xs ys : List Service) (longest : ℕ) (one other : Option Queue) → AreAmong xs ys
    → AreAmong ys xs
    → MatchOption one (IsUnbounded parts xs) (λ queue. IsLeastQueue parts xs longest queue)
    → MatchOption other (IsUnbounded parts ys) (λ queue. IsLeastQueue parts ys longest queue) → one ≡ other
least_is_one parts xs ys longest None None there back h k = refl
least_is_one parts xs ys longest None (Some r) there back h k = absurd (not_long parts ys xs back longest r k h)
least_is_one parts xs ys longest (Some q) None there back h k = absurd (not_long parts xs ys there longest q h k)
least_is_one parts xs ys longest (Some q) (Some r) there back h k =
    let a = delay_le parts xs ys there q.delay r.delay h.delay k.delay in
    let b = delay_le parts ys xs back r.delay q.delay k.delay h.delay in
    let c = backlog_le parts xs ys there longest q.backlog r.backlog h.backlog k.backlog in
    let d = backlog_le parts ys xs back longest r.backlog q.backlog k.backlog h.backlog in
    let delays : q.delay ≡ r.delay = omega (arith, a, b) in
    let backlogs : q.backlog ≡ r.backlog = omega (arith, c, d) in
    let Q : ℕ → ℕ → Option Queue = λ x y. Some record { delay = x; backlog = y } in
    ap₂ Q delays backlogs

among : (P R : Service → Type 0) (xs ys : List Service) → ((s : Service) → P s → R s) → AreAll P xs → AreAll R ys
    → AreAmong xs ys
among P R xs ys same one two = record {
  each = λ k h.
      let c = two.every (get_or xs k any) (same (get_or xs k any) (one.each k any h)) in
      (c.0, record { inside = c.1; is = λ e. get_or_default ys c.0 e (get_or xs k any) c.1 ∙ c.2 });
}

-- ---- by stairs too
stay_moved : (b c : List Bundle) (s : Service) (longest d low : ℕ) → bunches b ≡ bunches c → IsStay b s longest d low → IsStay c s longest d low
stay_moved b c s longest d low same is = record {
  some = is.some;
  over = is.over;
  excess = excess_moved b c same s.rate is.over is.excess;
  delay = is.delay;
  backlog = is.backlog;
}

module _ (b c : List Bundle) (xs ys : List Service) (longest : ℕ) (same : bunches b ≡ bunches c) (there : AreAmong xs ys) where
  -- a stay at one of the services is one at one of the others
  moved : (k d low : ℕ) (h : k < length xs) → ((e : Service) → IsStay b (get_or xs k e) longest d low)
      → IsStay c (get_or ys (there.each k h).0 any) longest d low
  moved k d low h is =
      let P : Service → Type 0 = λ s. IsStay c s longest d low in
      subst P (sym ((there.each k h).1.is any)) (stay_moved b c (get_or xs k any) longest d low same (is any))

  delay_no_less : (one other : Queue) (lines : Option Queue) → IsStairQueue b xs longest lines one → IsStairQueue c ys longest lines other → other.delay ≤ one.delay
  delay_no_less one other lines h k = by_delay h.delay
    where
      by_lines : (o : Option Queue) (q : Queue) → IsAtMost other.delay other.backlog o → o ≡ Some q → other.delay ≤ q.delay
      by_lines None q m e = absurd (let f : None ≡ Some q = e in cc)
      by_lines (Some r) q m e = let f : r ≡ q = cc in let g = ap (λ (w : Queue). w.delay) f in let x = m.0 in omega (arith, x, g)

      by_delay : IsSomeDelay b xs longest (length xs) lines one.delay → other.delay ≤ one.delay
      by_delay (inl of) = let m = by_lines lines of.queue k.least.lines of.is in let e = of.delay in omega (arith, m, e)
      by_delay (inr (low, of)) =
          (k.least.stairs (there.each of.place of.inside).0 any one.delay low (there.each of.place of.inside).1.inside (moved of.place one.delay low of.inside of.is)).0

  backlog_no_less : (one other : Queue) (lines : Option Queue) → IsStairQueue b xs longest lines one → IsStairQueue c ys longest lines other → other.backlog ≤ one.backlog
  backlog_no_less one other lines h k = by_backlog h.backlog
    where
      by_lines : (o : Option Queue) (q : Queue) → IsAtMost other.delay other.backlog o → o ≡ Some q → other.backlog ≤ q.backlog
      by_lines None q m e = absurd (let f : None ≡ Some q = e in cc)
      by_lines (Some r) q m e = let f : r ≡ q = cc in let g = ap (λ (w : Queue). w.backlog) f in let x = m.1 in omega (arith, x, g)

      by_backlog : IsSomeBacklog b xs longest (length xs) lines one.backlog → other.backlog ≤ one.backlog
      by_backlog (inl of) = let m = by_lines lines of.queue k.least.lines of.is in let e = of.backlog in omega (arith, m, e)
      by_backlog (inr (d, of)) =
          (k.least.stairs (there.each of.place of.inside).0 any d one.backlog (there.each of.place of.inside).1.inside (moved of.place d one.backlog of.inside of.is)).1

  never_both : (one : Queue) (lines : Option Queue) → IsStairQueue b xs longest lines one → AreLong c ys longest lines → ⊥
  never_both one lines h k = by_delay h.delay
    where
      by_lines : (o : Option Queue) (q : Queue) → IsNone o → o ≡ Some q → ⊥
      by_lines None q n e = let f : None ≡ Some q = e in absurd (cc)
      by_lines (Some r) q n e = n

      by_delay : IsSomeDelay b xs longest (length xs) lines one.delay → ⊥
      by_delay (inl of) = by_lines lines of.queue k.lines of.is
      by_delay (inr (low, of)) =
          let long = k.stairs (there.each of.place of.inside).0 any one.delay low (there.each of.place of.inside).1.inside (moved of.place one.delay low of.inside of.is) in
          let short = h.short in
          omega (arith, long, short)

both_are_one : (b c : List Bundle) (xs ys : List Service) (longest : ℕ) (one other : Option Queue) → bunches b ≡ bunches c → AreAmong xs ys → AreAmong ys xs
    → IsLeastOfBoth b xs longest one → IsLeastOfBoth c ys longest other → one ≡ other
both_are_one b c xs ys longest one other same there back h k = by_row one other h.least (subst N lines k.least)
  where
    parts : line_parts b ≡ line_parts c
    parts = same_parts b c same

    lines : k.lines ≡ h.lines
    lines =
        let M : List Part → Type 0 = λ ps. MatchOption k.lines (IsUnbounded ps ys) (λ queue. IsLeastQueue ps ys longest queue) in
        sym (least_is_one (line_parts b) xs ys longest h.lines k.lines there back h.by_lines (subst M (sym parts) k.by_lines))

    N : Option Queue → Type 0
    N o = MatchOption other (AreLong c ys longest o) (λ queue. IsStairQueue c ys longest o queue)

    by_row : (u v : Option Queue) → MatchOption u (AreLong b xs longest h.lines) (λ queue. IsStairQueue b xs longest h.lines queue)
        → MatchOption v (AreLong c ys longest h.lines) (λ queue. IsStairQueue c ys longest h.lines queue) → u ≡ v
    by_row None None x y = refl
    by_row None (Some q) x y = absurd (never_both c b ys xs longest (sym same) back q h.lines y x)
    by_row (Some q) None x y = absurd (never_both b c xs ys longest same there q h.lines x y)
    by_row (Some q) (Some r) x y =
        let d = delay_no_less b c xs ys longest same there q r h.lines x y in
        let e = delay_no_less c b ys xs longest (sym same) back r q h.lines y x in
        let f = backlog_no_less b c xs ys longest same there q r h.lines x y in
        let g = backlog_no_less c b ys xs longest (sym same) back r q h.lines y x in
        let delays : q.delay ≡ r.delay = omega (arith, d, e) in
        let backlogs : q.backlog ≡ r.backlog = omega (arith, f, g) in
        let Q : ℕ → ℕ → Option Queue = λ x y. Some record { delay = x; backlog = y } in
        ap₂ Q delays backlogs

-- ---- rows
module _ (p r : Port) (e : grid_port p ≡ grid_port r) (xs ys : List StairsIn) (q : ℕ) (lines : line_incomings xs ≡ line_incomings ys) where
  of_bundles : (longest more : ℕ) (b c : List Bundle) (one other : Option Queue) → bunches b ≡ bunches c → longest ≡ more
      → (h : IsLeastStairRow p xs q b one) → (k : IsLeastStairRow r ys q c other) → longest ≡ 1024 * (stairs_at xs q).longest → more ≡ 1024 * (stairs_at ys q).longest → one ≡ other
  of_bundles longest more b c one other same long h k at there =
      let A : List Incoming → Type 0 = λ ws. AreAll (IsServiceOf r ws q) k.services in
      let all = subst A (sym lines) k.all in
      let L : ℕ → Type 0 = λ n. IsLeastOfBoth c k.services n other in
      let M : ℕ → Type 0 = λ n. IsLeastOfBoth b h.services n one in
      both_are_one b c h.services k.services longest one other same
      (among (IsServiceOf p (line_incomings xs) q) (IsServiceOf r (line_incomings xs) q) h.services k.services (services_same p r e (line_incomings xs) q) h.all all)
      (among (IsServiceOf r (line_incomings xs) q) (IsServiceOf p (line_incomings xs) q) k.services h.services (services_same r p (sym e) (line_incomings xs) q) all h.all)
      (subst M (sym at) h.least) (subst L (sym there ∙ sym long) k.least)

  by_bundles : (longest more : ℕ) (b c : Option (List Bundle)) (one other : Option Queue) → longest ≡ more → option_map bunches b ≡ option_map bunches c
      → longest ≡ (stairs_at xs q).longest → more ≡ (stairs_at ys q).longest
      → IsStairRowBy p xs q longest b one → IsStairRowBy r ys q more c other → one ≡ other
  by_bundles zero zero b c one other long same at there h k = h ∙ sym k
  by_bundles zero (suc more) b c one other long same at there h k = absurd (omega (arith, long))
  by_bundles (suc longest) zero b c one other long same at there h k = absurd (omega (arith, long))
  by_bundles (suc longest) (suc more) None None one other long same at there h k = h ∙ sym k
  by_bundles (suc longest) (suc more) None (Some c) one other long same at there h k = absurd (let f : None ≡ Some (bunches c) = same in cc)
  by_bundles (suc longest) (suc more) (Some b) None one other long same at there h k = absurd (let f : Some (bunches b) ≡ None = same in cc)
  by_bundles (suc longest) (suc more) (Some b) (Some c) one other long same at there h k =
      let f : Some (bunches b) ≡ Some (bunches c) = same in
      let g : bunches b ≡ bunches c = cc in
      of_bundles (1024 * suc longest) (1024 * suc more) b c one other g (ap (λ n. 1024 * n) long) h k (ap (λ n. 1024 * n) at) (ap (λ n. 1024 * n) there)

at_arriving : (xs : List StairsIn) (q : ℕ) → get_or (map arriving_of xs) q (arriving_of record { bundles = None; longest = 0 }) ≡ arriving_of (stairs_at xs q)
at_arriving [] q = refl
at_arriving (x ∷ xs) zero = refl
at_arriving (x ∷ xs) (suc q) = at_arriving xs q

pub row_is_one : (p r : Port) → grid_port p ≡ grid_port r → (arriving : List Arriving) (q : ℕ) (one other : Option Queue)
    → IsRowOf p arriving q one → IsRowOf r arriving q other → one ≡ other
row_is_one p r e arriving q one other h k =
    let none : Arriving = arriving_of record { bundles = None; longest = 0 } in
    let at = sym (at_arriving h.queues q) ∙ ap (λ (ws : List Arriving). get_or ws q none) (h.are ∙ sym k.are) ∙ at_arriving k.queues q in
    let lines = lines_are h.queues ∙ ap (map line_arriving) (h.are ∙ sym k.are) ∙ sym (lines_are k.queues) in
    by_bundles p r e h.queues k.queues q lines (stairs_at h.queues q).longest (stairs_at k.queues q).longest (stairs_at h.queues q).bundles (stairs_at k.queues q).bundles one other
    (ap (λ (x : Arriving). x.longest) at) (ap (λ (x : Arriving). x.bunches) at) refl refl h.row k.row
