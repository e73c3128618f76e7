-- Each allowed step of a recorded run leaves its packets tracked.
use Rattle.std.proofs.Common.{◌≡◌, ℕ, ◌<◌, ◌≤◌, ◌+◌, List, [], ◌∷◌, ◌++◌, length, set, refl, sym, ap, ◌∙◌, subst, arith, inl, inr, Some, None, true, false}
use Rattle.std.specs.Prelude.{Option, ◌≢◌, pos, Bool, ◌==◌, ◌&&◌}
use Rattle.std.proofs.lemmas.Bool.{cases_eq, eq-eqb, ne_eqb}
use Rattle.std.proofs.lemmas.List.{length_push, length-set}
use Rattle.rational.specs.Rational.{ℚ, int, ◌+ℚ◌}
use Rattle.run_laws.specs.declared.steps.Step.{Step}
use Rattle.run_laws.specs.declared.steps.Step.TheVariants.{Enter, Reach, Work, Leave, Visit}
use Rattle.run_laws.specs.Cards.{Card, whole}
use Rattle.run_laws.specs.Counts.{when}
use Rattle.run_laws.specs.Servers.{Under, done, done_so_far, head_of, without_head}
use Rattle.run_laws.specs.Next.{next_under}
use Rattle.run_laws.specs.Allows.{MayLeave, IsDone, next_card}
use Rattle.run_laws.specs.Routes.{Routes, route_of, server_at, link_at, queue_at, PassesServer, first_server, server_after}
use Rattle.run_laws.specs.Views.{Entry, entry_of, hops_of, card_of, server_of, seen}
use Rattle.run_laws.specs.Lawful.{Due, RunState, without, sent, state_at, next_run, AllowsInRun}
use Rattle.run_laws.proofs.Entries.{entry_before, entry_last, passes_first, passes_next}
use Rattle.run_laws.proofs.Heads.{same_some, pick_is_head}
use Rattle.run_laws.proofs.States.{IsSound, sound_next, leaving}
use Rattle.net_model.proofs.stated_runs.Lists.{In, in_left, in_either, in_rest, in_kept, head_in, in_without, in_without_other, contains_in}
use Rattle.net_model.proofs.stated_runs.GoodServers.{card_extends}
use Rattle.net_model.proofs.stated_runs.Good.{extends_push}
use Rattle.net_model.proofs.stated_runs.GoodSteps.{sent_in}
use Rattle.sim_servers.specs.sim_states.Places.{one, cards_of, dues_of}
use Rattle.sim_servers.proofs.sim_states.Places.{one_same, card_counts, no_due, dues_less, at_most, placed_next, places_reach, places_work, places_visit, places_leave, placed_enter}
use Rattle.run_packets.specs.declared.place.Place.{Place}
use Rattle.run_packets.specs.declared.place.Place.TheVariants.{At, OnLink}
use Rattle.run_check.specs.broken_laws.Recorded.{PassOnce, HasPaths}
use Rattle.run_check.specs.broken_laws.Worked.{worked_by, worked_in}
use Rattle.run_check.specs.broken_laws.Tracked.{place_of, place_after, next_places, has_left, worked_of, worked_at, IsHere, IsOnWay, IsLiveEntry, IsTracked}
use Rattle.run_check.proofs.broken_laws.Paths.{before_self, before_first, before_after, others_before, before_last, passes_on}
use Rattle.run_check.proofs.broken_laws.Tracking.{each_server, push_cases, place_last, place_before, place_set, place_other, worked_push, worked_same, worked_with, same_worked, not_under, is_under, under_in, under_here}

-- ---- places are apart
at_same : (s t : ℕ) → At s ≡ At t → s ≡ t
at_same s t e = cc

at_way : (s t : ℕ) (x : ℚ) → At s ≡ OnLink t x → ⊥
at_way s t x e = cc

after_at : (o : Option ℕ) (x : ℚ) (s : ℕ) → place_after o x ≡ At s → ⊥
after_at None x s e = cc
after_at (Some t) x s e = cc

after_way : (o : Option ℕ) (x : ℚ) (s : ℕ) (y : ℚ) → place_after o x ≡ OnLink s y → (o ≡ Some s) × (x ≡ y)
after_way None x s y e = absurd (cc)
after_way (Some t) x s y e = (cc, cc)

-- a card of another place is of another packet
other_packet : (net : Routes) (entered : List Entry) (tracks : List Place) (s : ℕ) (c : Card) (p : ℕ) (z : Place)
    → IsHere net entered tracks s c → place_of tracks p ≡ z → At s ≢ z → c.packet ≢ p
other_packet net entered tracks s c p z h e n same = n (sym h.place ∙ ap (place_of tracks) same ∙ e)

in_last : (cs : List Card) (c : Card) → In (cs ++ c ∷ []) c
in_last [] c = inl refl
in_last (x ∷ xs) c = inr (in_last xs c)

when_false : (z : ℚ) → when false z ≡ int (pos 0)
unfolding when
when_false z = refl

when_true : (z : ℚ) → when true z ≡ z
unfolding when
when_true z = refl

in_last_due : (ds : List Due) (d : Due) → In (ds ++ d ∷ []) d
in_last_due [] d = inl refl
in_last_due (x ∷ xs) d = inr (in_last_due xs d)

-- where a packet is there once, it is not among the others
rest_apart : (q : ℕ) (cs : List Card) (c d : Card) → cards_of c.packet cs ≤ 1 → head_of q cs ≡ Some c → In (without_head q cs) d → d.packet ≢ c.packet
rest_apart q [] c d l e i same = absurd (cc)
rest_apart q (x ∷ xs) c d l e i same = elim (cases_eq x.queue q) [
  | inl k ↦
      let g : x ≡ c = same_some x c (rw (eq-eqb x.queue q k) at e) in
      let there : In xs d = rw (eq-eqb x.queue q k) at i in
      let first : one x.packet c.packet ≡ 1 = ap (λ (y : Card). one y.packet c.packet) g ∙ one_same c.packet in
      let more : 1 ≤ cards_of c.packet xs = subst (λ p. 1 ≤ cards_of p xs) same (card_counts xs d there) in
      omega (arith, l, first, more)
  | inr n ↦
      let g : head_of q xs ≡ Some c = rw (ne_eqb x.queue q n) at e in
      let there : In (x ∷ without_head q xs) d = rw (ne_eqb x.queue q n) at i in
      let more : 1 ≤ cards_of c.packet xs = card_counts xs c (head_in q xs c g) in
      elim there [
        | inl k ↦
            let first : one x.packet c.packet ≡ 1 = ap (λ (y : Card). one y.packet c.packet) k ∙ (ap (λ p. one p c.packet) same ∙ one_same c.packet) in
            omega (arith, l, first, more)
        | inr k ↦ rest_apart q xs c d (omega (arith, l)) g k same
      ]
]

module _ (net : Routes) (end : ℚ) (before : List Step) (r : RunState) (tracks : List Place) (h : IsTracked net before r tracks) where
  card_same : (s p : ℕ) (d e : Entry) → d ≡ e
      → (let c : Card = record { packet = p; flow = d.flow; queue = queue_at s (route_of net d.flow).hops; bits = d.bits } in c)
      ≡ (let c : Card = record { packet = p; flow = e.flow; queue = queue_at s (route_of net e.flow).hops; bits = e.bits } in c)
  card_same s p d e k = ap (λ (y : Entry). let c : Card = record { packet = p; flow = y.flow; queue = queue_at s (route_of net y.flow).hops; bits = y.bits } in c) k

  known_one : (p : ℕ) (s : ℕ) → place_of tracks p ≡ At s → p < length r.entered
  known_one p s e = (h.cards s (card_of net r.entered p s) (h.here s p e)).card.entered_one

  -- what every step keeps
  all_sound : (x : Step) → AllowsInRun net end r x → (s : ℕ) → IsSound (state_at (next_run net r x) s)
  all_sound x a = each_server net r x (λ s σ. IsSound σ) (let m = h.many in let k = a.known_server in omega (arith, m, k))
      (sound_next (server_at net (server_of net x)) end (state_at r (server_of net x)) (seen net r.entered x) a.at_server (h.sound (server_of net x)))
      (λ s n. h.sound s)

  in_range : (x : Step) → AllowsInRun net end r x → server_of net x < length r.servers
  in_range x a = let m = h.many in let k = a.known_server in omega (arith, m, k)

  as_many : (x : Step) → length (next_run net r x).servers ≡ length net.servers
  as_many x = length-set r.servers (server_of net x) _ ∙ h.many

  -- the packet under way, where the step keeps it
  same_under : (x : Step) → AllowsInRun net end r x → next_under (state_at r (server_of net x)).under (seen net r.entered x) ≡ (state_at r (server_of net x)).under
      → (s : ℕ) → (state_at (next_run net r x) s).under ≡ (state_at r s).under
  same_under x a e = each_server net r x (λ s σ. σ.under ≡ (state_at r s).under) (in_range x a) e (λ s n. refl)

  -- ---- a packet enters
  enter_kept : (e : Entry) (s0 s : ℕ) (c : Card) → IsHere net r.entered tracks s c → IsHere net (r.entered ++ e ∷ []) (tracks ++ At s0 ∷ []) s c
  enter_kept e s0 s c k =
      let m = h.long in
      let l = k.card.entered_one in
      record {
        card = card_extends net r.entered (r.entered ++ e ∷ []) s c (extends_push r.entered e) k.card;
        place = place_before tracks (At s0) c.packet (omega (arith, m, l)) ∙ k.place;
      }

  pub enter_tracked : (f p : ℕ) (t : ℚ) (b : ℕ) → HasPaths net → AllowsInRun net end r (Enter f p t b)
      → IsTracked net (before ++ Enter f p t b ∷ []) (next_run net r (Enter f p t b)) (next_places net r.entered tracks (Enter f p t b))
  enter_tracked f p t b paths a =
      let x = Enter f p t b in
      let e : Entry = record { flow = f; bits = b } in
      let s0 = first_server (route_of net f).hops in
      let after : List Entry = r.entered ++ e ∷ [] in
      let more : List Place = tracks ++ At s0 ∷ [] in
      let c = card_of net after p s0 in
      let turn = a.known.in_turn in
      let m = h.long in
      let same_place : p ≡ length tracks = omega (arith, turn, m) in
      let long : length after ≡ length r.entered + 1 = length_push r.entered e in
      let last : entry_of after p ≡ e = entry_last r.entered e p turn in
      let passes : PassesServer s0 (route_of net f).hops = passes_first s0 (route_of net f).hops a.known.has_path in
      let here_one : IsHere net after more s0 c = record {
        card = record {
          is = refl;
          entered_one = omega (arith, long, turn);
          passes = subst (λ (y : Entry). PassesServer s0 (route_of net y.flow).hops) (sym last) passes;
        };
        place = ap (place_of more) same_place ∙ place_last tracks (At s0);
      } in
      let stays : (q : ℕ) → q < length r.entered → entry_of after q ≡ entry_of r.entered q = λ q l. entry_before r.entered e q l in
      let grows : (s : ℕ) (d : Card) → In (state_at r s).inside d → In (state_at (next_run net r x) s).inside d = λ s d i.
      each_server net r x (λ k σ. In (state_at r k).inside d → In σ.inside d) (in_range x a) (λ j. in_left (state_at r s0).inside (c ∷ []) d j) (λ k n j. j) s i in
      let under = same_under x a refl in
      let other : (s q : ℕ) → length r.entered ≤ q → (u : Under) → (state_at r s).under ≡ Some u → u.card.packet ≢ q = λ s q l u i.
      let k = (under_here net before r tracks h s u i).card.entered_one in omega (arith, k, l) in
      record {
        many = as_many x;
        long = let n = length_push tracks (At s0) in omega (arith, n, long, m);
        entries = λ q l. elim (cases_eq q p) [
          | inl i ↦ subst (λ (y : Entry). IsLiveEntry net y) (sym (ap (entry_of after) i ∙ last))
              record { is_live = a.known.is_live; some_bits = subst (λ (y : Entry). 1 ≤ y.bits) last a.at_server.1.some_bits }
          | inr i ↦ let old : q < length r.entered = omega (arith, l, long, turn, i) in
              subst (λ (y : Entry). IsLiveEntry net y) (sym (stays q old)) (h.entries q old)
        ];
        sound = all_sound x a;
        cards = each_server net r x (λ s σ. (d : Card) → In σ.inside d → IsHere net after more s d) (in_range x a)
            (λ d i. elim (in_either (state_at r s0).inside c d i) [
              | inl k ↦ enter_kept e s0 s0 d (h.cards s0 d k)
              | inr k ↦ subst (λ (y : Card). IsHere net after more s0 y) k here_one
            ])
            (λ s n d i. enter_kept e s0 s d (h.cards s d i));
        here = λ s q i. elim (push_cases tracks (At s0) (At s) q i) [
          | inl k ↦
              let is_p : q ≡ p = k.0 ∙ sym same_place in
              let is_s : s0 ≡ s = at_same s0 s k.1 in
              let there : In (state_at (next_run net r x) s0).inside c =
              each_server net r x (λ j σ. j ≡ s0 → In σ.inside c) (in_range x a) (λ j. in_last (state_at r s0).inside c) (λ j n z. absurd (n z)) s0 refl in
              subst (λ j. In (state_at (next_run net r x) j).inside (card_of net after q j)) is_s
              (subst (λ j. In (state_at (next_run net r x) s0).inside (card_of net after j s0)) (sym is_p) there)
          | inr k ↦
              let old = known_one q s k in
              let same : card_of net after q s ≡ card_of net r.entered q s = card_same s q (entry_of after q) (entry_of r.entered q) (stays q old) in
              subst (In (state_at (next_run net r x) s).inside) (sym same) (grows s (card_of net r.entered q s) (h.here s q k))
        ];
        dues = λ d i.
            let k = h.dues d i in
            let l = k.entered_one in
            record {
              entered_one = omega (arith, l, long);
              passes = subst (λ (y : Entry). PassesServer d.server (route_of net y.flow).hops) (sym (stays d.packet l)) k.passes;
              place = place_before tracks (At s0) d.packet (omega (arith, m, l)) ∙ k.place;
            };
        links = λ s q u i. elim (push_cases tracks (At s0) (OnLink s u) q i) [
          | inl k ↦ absurd (at_way s0 s u k.1)
          | inr k ↦ h.links s q u k
        ];
        few = placed_enter net r f p t b (in_range x a) turn h.few;
        worked = λ s q l. worked_same s q before x refl ∙ elim (cases_eq q p) [
          | inl i ↦
              let new : length r.entered ≤ q = omega (arith, i, turn) in
              let none : has_left (place_of more q) (hops_of net after q) s ≡ false =
              ap (λ (y : Place). has_left y (hops_of net after q) s) (ap (place_of more) (i ∙ same_place) ∙ place_last tracks (At s0))
              ∙ before_first s s0 (hops_of net after q) (ap (λ (y : Entry). first_server (route_of net y.flow).hops) (ap (entry_of after) i ∙ last)) in
              h.unknown s q new ∙ sym (
              ap (λ o. worked_of o q (when (has_left (place_of more q) (hops_of net after q) s) (whole (entry_of after q).bits))) (under s)
              ∙ not_under (state_at r s).under q (when (has_left (place_of more q) (hops_of net after q) s) (whole (entry_of after q).bits)) (other s q new)
              ∙ ap (λ (z : Bool). when z (whole (entry_of after q).bits)) none ∙ when_false (whole (entry_of after q).bits))
          | inr i ↦
              let old : q < length r.entered = omega (arith, l, long, turn, i) in
              h.worked s q old ∙ sym (same_worked net (state_at (next_run net r x) s).under (state_at r s).under (place_of more q) (place_of tracks q)
              (entry_of after q) (entry_of r.entered q) s q (under s) (place_before tracks (At s0) q (omega (arith, m, old))) (stays q old))
        ];
        unknown = λ s q l. worked_same s q before x refl ∙ h.unknown s q (omega (arith, l, long));
      }

  -- ---- a packet reaches a server
  due_there : (s p : ℕ) (t : ℚ) → AllowsInRun net end r (Reach s p t) → IsOnWay net r.entered tracks record { packet = p; server = s; time = t }
  due_there s p t a = h.dues record { packet = p; server = s; time = t } (contains_in r.due record { packet = p; server = s; time = t } a.known)

  pub reach_tracked : (s p : ℕ) (t : ℚ) → AllowsInRun net end r (Reach s p t)
      → IsTracked net (before ++ Reach s p t ∷ []) (next_run net r (Reach s p t)) (next_places net r.entered tracks (Reach s p t))
  reach_tracked s p t a =
      let x = Reach s p t in
      let d0 : Due = record { packet = p; server = s; time = t } in
      let due = due_there s p t a in
      let more : List Place = set tracks p (At s) in
      let c = card_of net r.entered p s in
      let m = h.long in
      let l0 = due.entered_one in
      let now_at : place_of more p ≡ At s = place_set tracks p (At s) (omega (arith, m, l0)) in
      let grows : (k : ℕ) (d : Card) → In (state_at r k).inside d → In (state_at (next_run net r x) k).inside d = λ k d i.
      each_server net r x (λ j σ. In (state_at r j).inside d → In σ.inside d) (in_range x a) (λ j. in_left (state_at r s).inside (c ∷ []) d j) (λ j n i. i) k i in
      let under = same_under x a refl in
      let kept : (k : ℕ) (d : Card) → IsHere net r.entered tracks k d → IsHere net r.entered more k d = λ k d i.
      record { card = i.card; place = place_other tracks p d.packet (At s) (other_packet net r.entered tracks k d p (OnLink s t) i due.place (λ z. at_way k s t z)) ∙ i.place } in
      record {
        many = as_many x;
        long = length-set tracks p (At s) ∙ h.long;
        entries = h.entries;
        sound = all_sound x a;
        cards = each_server net r x (λ k σ. (d : Card) → In σ.inside d → IsHere net r.entered more k d) (in_range x a)
            (λ d i. elim (in_either (state_at r s).inside c d i) [
              | inl k ↦ kept s d (h.cards s d k)
              | inr k ↦ subst (λ (y : Card). IsHere net r.entered more s y) k
                  record { card = record { is = refl; entered_one = due.entered_one; passes = due.passes }; place = now_at }
            ])
            (λ k n d i. kept k d (h.cards k d i));
        here = λ k q i. elim (cases_eq q p) [
          | inl e ↦
              let is_s : s ≡ k = at_same s k (sym now_at ∙ ap (place_of more) (sym e) ∙ i) in
              let there : In (state_at (next_run net r x) s).inside c =
              each_server net r x (λ j σ. j ≡ s → In σ.inside c) (in_range x a) (λ j. in_last (state_at r s).inside c) (λ j n z. absurd (n z)) s refl in
              subst (λ j. In (state_at (next_run net r x) j).inside (card_of net r.entered q j)) is_s
              (subst (λ j. In (state_at (next_run net r x) s).inside (card_of net r.entered j s)) (sym e) there)
          | inr n ↦ grows k (card_of net r.entered q k) (h.here k q (sym (place_other tracks p q (At s) n) ∙ i))
        ];
        dues = λ d i.
            let old = h.dues d (in_without d0 r.due d i) in
            let less = dues_less p r.due d0 (contains_in r.due d0 a.known) in
            let one_p = one_same p in
            let few = h.few.few p in
            let all = at_most r p s (in_range x a) in
            let none : dues_of p (without d0 r.due) ≡ 0 = omega (arith, less, one_p, few, all) in
            let other = no_due (without d0 r.due) p none d i in
            record { entered_one = old.entered_one; passes = old.passes; place = place_other tracks p d.packet (At s) other ∙ old.place };
        links = λ k q u i. elim (cases_eq q p) [
          | inl e ↦ absurd (at_way s k u (sym now_at ∙ ap (place_of more) (sym e) ∙ i))
          | inr n ↦ in_without_other d0 r.due record { packet = q; server = k; time = u } (h.links k q u (sym (place_other tracks p q (At s) n) ∙ i)) n
        ];
        few = placed_next r (next_run net r x) refl (places_reach net r s p t (in_range x a) (contains_in r.due d0 a.known)) h.few;
        worked = λ k q l. worked_same k q before x refl ∙ h.worked k q l ∙ elim (cases_eq q p) [
          | inl e ↦
              let was : place_of tracks q ≡ OnLink s t = ap (place_of tracks) e ∙ due.place in
              let now : place_of more q ≡ At s = ap (place_of more) e ∙ now_at in
              same_worked net (state_at r k).under (state_at r k).under (place_of tracks q) (OnLink s t) (entry_of r.entered q) (entry_of r.entered q) k q refl was refl
              ∙ sym (same_worked net (state_at (next_run net r x) k).under (state_at r k).under (place_of more q) (At s) (entry_of r.entered q) (entry_of r.entered q) k q (under k) now refl)
          | inr n ↦ sym (same_worked net (state_at (next_run net r x) k).under (state_at r k).under (place_of more q) (place_of tracks q) (entry_of r.entered q) (entry_of r.entered q) k q
              (under k) (place_other tracks p q (At s) n) refl)
        ];
        unknown = λ k q l. worked_same k q before x refl ∙ h.unknown k q l;
      }

  -- ---- work
  -- the card that is worked on is there
  pub next_in : (s : ℕ) (c : Card) → next_card (state_at r s).under (server_at net s).discipline (state_at r s).inside (state_at r s).round ≡ Some c
      → In (state_at r s).inside c
  next_in s c e = go (state_at r s).under refl e
    where
      go : (o : Option Under) → (state_at r s).under ≡ o → next_card o (server_at net s).discipline (state_at r s).inside (state_at r s).round ≡ Some c → In (state_at r s).inside c
      go None k e = head_in c.queue (state_at r s).inside c (pick_is_head (server_at net s).discipline (state_at r s).inside (state_at r s).round c e)
      go (Some u) k e = subst (In (state_at r s).inside) (same_some u.card c e) (under_in net before r tracks h s u k)

  -- what is worked of a packet so far, where it is worked on next
  pub worked_so_far : (s p : ℕ) → next_card (state_at r s).under (server_at net s).discipline (state_at r s).inside (state_at r s).round ≡ Some (card_of net r.entered p s)
      → worked_in s p before ≡ done_so_far (state_at r s).under
  worked_so_far s p e =
      let here = h.cards s (card_of net r.entered p s) (next_in s (card_of net r.entered p s) e) in
      h.worked s p here.card.entered_one ∙ go (state_at r s).under e here.place
    where
      go : (o : Option Under) → next_card o (server_at net s).discipline (state_at r s).inside (state_at r s).round ≡ Some (card_of net r.entered p s)
          → place_of tracks p ≡ At s → worked_with net o (place_of tracks p) (entry_of r.entered p) s p ≡ done_so_far o
      go None e place =
          ap (λ y. when (has_left y (hops_of net r.entered p) s) (whole (entry_of r.entered p).bits)) place
          ∙ ap (λ z. when z (whole (entry_of r.entered p).bits)) (before_self s (hops_of net r.entered p)) ∙ when_false (whole (entry_of r.entered p).bits)
      go (Some u) e place = is_under u p _ (ap (λ (c : Card). c.packet) (same_some u.card (card_of net r.entered p s) e))

  pub work_tracked : (s p : ℕ) (a b w : ℚ) → AllowsInRun net end r (Work s p a b w)
      → IsTracked net (before ++ Work s p a b w ∷ []) (next_run net r (Work s p a b w)) (next_places net r.entered tracks (Work s p a b w))
  work_tracked s p a b w k =
      let x = Work s p a b w in
      let c = card_of net r.entered p s in
      let next_one = k.at_server.1.is_next in
      let so_far = worked_so_far s p next_one in
      let new : Under = record { card = c; before = done_so_far (state_at r s).under; last = record { start = a; end = b; bits = w } } in
      record {
        many = as_many x;
        long = h.long;
        entries = h.entries;
        sound = all_sound x k;
        cards = each_server net r x (λ j σ. (d : Card) → In σ.inside d → IsHere net r.entered tracks j d) (in_range x k) (λ d i. h.cards s d i) (λ j n d i. h.cards j d i);
        here = λ j q i. each_server net r x (λ j σ. In (state_at r j).inside (card_of net r.entered q j) → In σ.inside (card_of net r.entered q j)) (in_range x k)
            (λ z. z) (λ j n z. z) j (h.here j q i);
        dues = h.dues;
        links = h.links;
        few = placed_next r (next_run net r x) refl (places_work net r s p a b w (in_range x k)) h.few;
        worked = λ j q l. elim (cases_eq j s) [
          | inl i ↦
              let own : (state_at (next_run net r x) j).under ≡ Some new =
              each_server net r x (λ y σ. y ≡ s → σ.under ≡ Some new) (in_range x k) (λ y. refl) (λ y n z. absurd (n z)) j i in
              elim (cases_eq q p) [
                | inl e ↦
                    let by : worked_by j q x ≡ w = rw (eq-eqb s j (sym i), eq-eqb p q (sym e)) (when_true w) in
                    let sofar : worked_in j q before ≡ done_so_far (state_at r s).under = ap (λ y. worked_in y q before) i ∙ ap (λ y. worked_in s y before) e ∙ so_far in
                    let now : worked_at net (next_run net r x) tracks j q ≡ done new =
                    ap (λ o. worked_with net o (place_of tracks q) (entry_of r.entered q) j q) own ∙ is_under new q _ (sym e) in
                    worked_push j q before x ∙ (ap (λ y. y +ℚ worked_by j q x) sofar ∙ (ap (λ y. done_so_far (state_at r s).under +ℚ y) by ∙ sym now))
                | inr n ↦
                    let by : worked_by j q x ≡ int (pos 0) = rw (eq-eqb s j (sym i), ne_eqb p q (λ z. n (sym z))) (when_false w) in
                    let otherwise = when (has_left (place_of tracks q) (hops_of net r.entered q) j) (whole (entry_of r.entered q).bits) in
                    let now : worked_at net (next_run net r x) tracks j q ≡ otherwise =
                    ap (λ o. worked_with net o (place_of tracks q) (entry_of r.entered q) j q) own ∙ not_under (Some new) q otherwise (λ u z y. n (sym y ∙ ap (λ (v : Under). v.card.packet) (sym (same_one new u z)))) in
                    let was : worked_at net r tracks j q ≡ otherwise =
                    not_under (state_at r j).under q otherwise (λ u z y. n (sym y ∙ under_is s p u next_one (ap (λ y. (state_at r y).under) (sym i) ∙ z))) in
                    worked_same j q before x by ∙ (h.worked j q l ∙ (was ∙ sym now))
              ]
          | inr n ↦
              let by : worked_by j q x ≡ int (pos 0) = rw (ne_eqb s j (λ z. n (sym z))) (when_false w) in
              let same : (state_at (next_run net r x) j).under ≡ (state_at r j).under =
              each_server net r x (λ y σ. y ≢ s → σ.under ≡ (state_at r y).under) (in_range x k) (λ y. absurd (y refl)) (λ y m z. refl) j n in
              worked_same j q before x by ∙ (h.worked j q l ∙ sym (ap (λ o. worked_with net o (place_of tracks q) (entry_of r.entered q) j q) same))
        ];
        unknown = λ j q l.
            let known = k.known.has_entered in
            let other : p ≢ q = omega (arith, known, l) in
            let by : worked_by j q x ≡ int (pos 0) = and_false (s == j) (p == q) w (ne_eqb p q other) in
            worked_same j q before x by ∙ h.unknown j q l;
      }
    where
      same_one : (u v : Under) → Some u ≡ Some v → u ≡ v
      same_one u v e = cc

      and_false : (x y : Bool) (z : ℚ) → y ≡ false → when (x && y) z ≡ int (pos 0)
      and_false true y z e = ap (λ t. when t z) e ∙ when_false z
      and_false false y z e = when_false z

      under_is : (s p : ℕ) (u : Under) → next_card (state_at r s).under (server_at net s).discipline (state_at r s).inside (state_at r s).round ≡ Some (card_of net r.entered p s)
          → (state_at r s).under ≡ Some u → u.card.packet ≡ p
      under_is s p u e i =
          let k : Some u.card ≡ Some (card_of net r.entered p s) = sym (ap (λ o. next_card o (server_at net s).discipline (state_at r s).inside (state_at r s).round) i) ∙ e in
          ap (λ (c : Card). c.packet) (same_some u.card (card_of net r.entered p s) k)

  -- ---- a server turns to a queue
  pub visit_tracked : (s q : ℕ) (t : ℚ) → AllowsInRun net end r (Visit s q t)
      → IsTracked net (before ++ Visit s q t ∷ []) (next_run net r (Visit s q t)) (next_places net r.entered tracks (Visit s q t))
  visit_tracked s q t a =
      let x = Visit s q t in
      let under = same_under x a refl in
      record {
        many = as_many x;
        long = h.long;
        entries = h.entries;
        sound = all_sound x a;
        cards = each_server net r x (λ j σ. (d : Card) → In σ.inside d → IsHere net r.entered tracks j d) (in_range x a) (λ d i. h.cards s d i) (λ j n d i. h.cards j d i);
        here = λ j p i. each_server net r x (λ j σ. In (state_at r j).inside (card_of net r.entered p j) → In σ.inside (card_of net r.entered p j)) (in_range x a)
            (λ z. z) (λ j n z. z) j (h.here j p i);
        dues = h.dues;
        links = h.links;
        few = placed_next r (next_run net r x) refl (places_visit net r s q t (in_range x a)) h.few;
        worked = λ j p l. worked_same j p before x refl ∙ (h.worked j p l ∙ sym (ap (λ o. worked_with net o (place_of tracks p) (entry_of r.entered p) j p) (under j)));
        unknown = λ j p l. worked_same j p before x refl ∙ h.unknown j p l;
      }

  -- ---- a packet leaves
  leaving_here : (s p : ℕ) (t : ℚ) → AllowsInRun net end r (Leave s p t)
      → head_of (card_of net r.entered p s).queue (state_at r s).inside ≡ Some (card_of net r.entered p s)
  leaving_here s p t a = leaving (state_at r s).inside (state_at r s).busy (state_at r s).under (card_of net r.entered p s) t (h.sound s) a.at_server.1

  under_way : (s p : ℕ) (t : ℚ) → AllowsInRun net end r (Leave s p t)
      → (u : Under) × ((state_at r s).under ≡ Some u) × IsDone u (card_of net r.entered p s) t
  under_way s p t a = go (state_at r s).under refl a.at_server.1
    where
      go : (o : Option Under) → (state_at r s).under ≡ o → MayLeave o (card_of net r.entered p s) t
          → (u : Under) × ((state_at r s).under ≡ Some u) × IsDone u (card_of net r.entered p s) t
      go None e m = absurd m
      go (Some u) e m = (u, e, m)

  -- a packet that has left its server has left that one too, and no other
  left_here : (p s : ℕ) (u : ℚ) (hops : List Rattle.run_laws.specs.Routes.Hop) (o : Option ℕ) → PassOnce hops → PassesServer s hops → server_after s hops ≡ o
      → has_left (place_after o u) hops s ≡ true
  left_here p s u hops None once passes e = passes_on s hops passes
  left_here p s u hops (Some g) once passes e = before_after s g hops once e

  left_other : (p s j : ℕ) (u : ℚ) (hops : List Rattle.run_laws.specs.Routes.Hop) (o : Option ℕ) → PassOnce hops → PassesServer s hops → server_after s hops ≡ o
      → j ≢ s → has_left (At s) hops j ≡ has_left (place_after o u) hops j
  left_other p s j u hops None once passes e n = before_last j s hops e passes n
  left_other p s j u hops (Some g) once passes e n = others_before j s g hops once e n

  sent_last : (o : Option ℕ) (g p : ℕ) (t : ℚ) (due : List Due) → o ≡ Some g → In (sent o p t due) record { packet = p; server = g; time = t }
  sent_last None g p t due e = absurd (cc)
  sent_last (Some k) g p t due e = let same : k ≡ g = cc in
      subst (λ j. In (due ++ record { packet = p; server = k; time = t } ∷ []) record { packet = p; server = j; time = t }) same (in_last_due due record { packet = p; server = k; time = t })

  sent_before : (o : Option ℕ) (p : ℕ) (t : ℚ) (due : List Due) (d : Due) → In due d → In (sent o p t due) d
  sent_before None p t due d i = i
  sent_before (Some k) p t due d i = in_left due (record { packet = p; server = k; time = t } ∷ []) d i

  pub leave_tracked : (s p : ℕ) (t : ℚ) → HasPaths net → AllowsInRun net end r (Leave s p t)
      → IsTracked net (before ++ Leave s p t ∷ []) (next_run net r (Leave s p t)) (next_places net r.entered tracks (Leave s p t))
  leave_tracked s p t paths a =
      let x = Leave s p t in
      let c = card_of net r.entered p s in
      let hops = hops_of net r.entered p in
      let o = server_after s hops in
      let late = t +ℚ link_at net s in
      let gone = place_after o late in
      let more : List Place = set tracks p gone in
      let head = leaving_here s p t a in
      let here = h.cards s c (head_in c.queue (state_at r s).inside c head) in
      let was : place_of tracks p ≡ At s = here.place in
      let known = here.card.entered_one in
      let m = h.long in
      let path = paths (entry_of r.entered p).flow (h.entries p known).is_live in
      let now_gone : place_of more p ≡ gone = place_set tracks p gone (omega (arith, m, known)) in
      let (u, under_is, done_is) = under_way s p t a in
      let kept : (k : ℕ) (d : Card) → IsHere net r.entered tracks k d → d.packet ≢ p → IsHere net r.entered more k d = λ k d i n.
      record { card = i.card; place = place_other tracks p d.packet gone n ∙ i.place } in
      let few_here : cards_of p (state_at r s).inside ≤ 1 = (let all = at_most r p s (in_range x a) in let few = h.few.few p in omega (arith, all, few)) in
      let none_under : (k : ℕ) → k ≡ s → (state_at (next_run net r x) k).under ≡ None = λ k i.
      each_server net r x (λ y σ. y ≡ s → σ.under ≡ None) (in_range x a) (λ y. refl) (λ y n z. absurd (n z)) k i in
      let other_under : (k : ℕ) → k ≢ s → (state_at (next_run net r x) k).under ≡ (state_at r k).under = λ k n.
      each_server net r x (λ y σ. y ≢ s → σ.under ≡ (state_at r y).under) (in_range x a) (λ y. absurd (y refl)) (λ y m z. refl) k n in
      record {
        many = as_many x;
        long = length-set tracks p gone ∙ h.long;
        entries = h.entries;
        sound = all_sound x a;
        cards = each_server net r x (λ k σ. (d : Card) → In σ.inside d → IsHere net r.entered more k d) (in_range x a)
            (λ d i. kept s d (h.cards s d (in_rest c.queue (state_at r s).inside d i)) (rest_apart c.queue (state_at r s).inside c d few_here head i))
            (λ k n d i. kept k d (h.cards k d i) (other_packet net r.entered tracks k d p (At s) (h.cards k d i) was (λ z. n (at_same k s z))));
        here = λ k q i. elim (cases_eq q p) [
          | inl e ↦ absurd (after_at o late k (sym now_gone ∙ ap (place_of more) (sym e) ∙ i))
          | inr n ↦
              let old = h.here k q (sym (place_other tracks p q gone n) ∙ i) in
              each_server net r x (λ j σ. In (state_at r j).inside (card_of net r.entered q j) → In σ.inside (card_of net r.entered q j)) (in_range x a)
              (λ z. elim (in_kept c.queue (state_at r s).inside c (card_of net r.entered q s) head z) [
                | inl e ↦ absurd (n (ap (λ (d : Card). d.packet) e))
                | inr y ↦ y
              ])
              (λ j m z. z) k old
        ];
        dues = λ d i. elim (sent_in o p late r.due d i) [
          | inl k ↦
              let old = h.dues d k in
              let n : d.packet ≢ p = λ z. at_way s d.server d.time (sym was ∙ ap (place_of tracks) (sym z) ∙ old.place) in
              record { entered_one = old.entered_one; passes = old.passes; place = place_other tracks p d.packet gone n ∙ old.place }
          | inr k ↦ subst (λ (y : Due). IsOnWay net r.entered more y) k.2 record {
            entered_one = known;
            passes = passes_next s k.0 hops k.1;
            place = now_gone ∙ ap (λ z. place_after z late) k.1;
          }
        ];
        links = λ k q y i. elim (cases_eq q p) [
          | inl e ↦
              let both = after_way o late k y (sym now_gone ∙ ap (place_of more) (sym e) ∙ i) in
              subst (λ z. In (sent o p late r.due) record { packet = q; server = k; time = z }) both.1
              (subst (λ z. In (sent o p late r.due) record { packet = z; server = k; time = late }) (sym e) (sent_last o k p late r.due both.0))
          | inr n ↦ sent_before o p late r.due record { packet = q; server = k; time = y } (h.links k q y (sym (place_other tracks p q gone n) ∙ i))
        ];
        few = placed_next r (next_run net r x) refl (places_leave net r s p t (in_range x a) c refl head) h.few;
        worked = λ j q l. worked_same j q before x refl ∙ (h.worked j q l ∙ elim (cases_eq q p) [
          | inl e ↦ elim (cases_eq j s) [
            | inl i ↦
                let all : ℚ = whole (entry_of r.entered q).bits in
                let old : worked_at net r tracks j q ≡ done u =
                ap (λ y. worked_with net y (place_of tracks q) (entry_of r.entered q) j q) (ap (λ y. (state_at r y).under) i ∙ under_is)
                ∙ is_under u q _ (ap (λ (d : Card). d.packet) done_is.is_card ∙ sym e) in
                let full : done u ≡ all = done_is.worked_off ∙ ap (λ y. whole (entry_of r.entered y).bits) (sym e) in
                let left : has_left (place_of more q) (hops_of net r.entered q) j ≡ true =
                ap (λ y. has_left y (hops_of net r.entered q) j) (ap (place_of more) e ∙ now_gone)
                ∙ (ap (λ y. has_left gone (hops_of net r.entered y) j) e ∙ (ap (has_left gone hops) i ∙ left_here p s late hops o path.once here.card.passes refl)) in
                let now : worked_at net (next_run net r x) more j q ≡ all =
                ap (λ y. worked_with net y (place_of more q) (entry_of r.entered q) j q) (none_under j i)
                ∙ (ap (λ y. when y all) left ∙ when_true all) in
                old ∙ (full ∙ sym now)
            | inr n ↦
                let place_was : place_of tracks q ≡ At s = ap (place_of tracks) e ∙ was in
                let place_now : place_of more q ≡ gone = ap (place_of more) e ∙ now_gone in
                let all : ℚ = whole (entry_of r.entered q).bits in
                let not_there : (v : Under) → (state_at r j).under ≡ Some v → v.card.packet ≢ q = λ v y.
                other_packet net r.entered tracks j v.card q (At s) (under_here net before r tracks h j v y) place_was (λ z. n (at_same j s z)) in
                let old : worked_at net r tracks j q ≡ when (has_left (At s) (hops_of net r.entered q) j) all =
                not_under (state_at r j).under q _ not_there ∙ ap (λ y. when (has_left y (hops_of net r.entered q) j) all) place_was in
                let now : worked_at net (next_run net r x) more j q ≡ when (has_left gone (hops_of net r.entered q) j) all =
                ap (λ y. worked_with net y (place_of more q) (entry_of r.entered q) j q) (other_under j n)
                ∙ (not_under (state_at r j).under q _ not_there ∙ ap (λ y. when (has_left y (hops_of net r.entered q) j) all) place_now) in
                let same : has_left (At s) (hops_of net r.entered q) j ≡ has_left gone (hops_of net r.entered q) j =
                subst (λ y. has_left (At s) (hops_of net r.entered y) j ≡ has_left gone (hops_of net r.entered y) j) (sym e)
                (left_other p s j late hops o path.once here.card.passes refl n) in
                old ∙ (ap (λ y. when y all) same ∙ sym now)
          ]
          | inr n ↦
              let place_same : place_of more q ≡ place_of tracks q = place_other tracks p q gone n in
              elim (cases_eq j s) [
                | inl i ↦
                    let otherwise = when (has_left (place_of tracks q) (hops_of net r.entered q) j) (whole (entry_of r.entered q).bits) in
                    let old : worked_at net r tracks j q ≡ otherwise =
                    not_under (state_at r j).under q otherwise (λ v y z. n (sym z ∙ (ap (λ (w : Under). w.card.packet) (same_some_under v u (sym y ∙ (ap (λ k. (state_at r k).under) i ∙ under_is)))
                    ∙ ap (λ (d : Card). d.packet) done_is.is_card))) in
                    let now : worked_at net (next_run net r x) more j q ≡ otherwise =
                    same_worked net (state_at (next_run net r x) j).under None (place_of more q) (place_of tracks q) (entry_of r.entered q) (entry_of r.entered q) j q (none_under j i) place_same refl in
                    old ∙ sym now
                | inr m ↦ sym (same_worked net (state_at (next_run net r x) j).under (state_at r j).under (place_of more q) (place_of tracks q) (entry_of r.entered q) (entry_of r.entered q) j q
                    (other_under j m) place_same refl)
              ]
        ]);
        unknown = λ k q l. worked_same k q before x refl ∙ h.unknown k q l;
      }
    where
      same_some_under : (v u : Under) → Some v ≡ Some u → v ≡ u
      same_some_under v u e = cc

pub tracked_next : (net : Routes) (end : ℚ) (before : List Step) (r : RunState) (tracks : List Place) → IsTracked net before r tracks → HasPaths net → (x : Step)
    → AllowsInRun net end r x → IsTracked net (before ++ x ∷ []) (next_run net r x) (next_places net r.entered tracks x)
tracked_next net end before r tracks h paths (Enter f p t b) a = enter_tracked net end before r tracks h f p t b paths a
tracked_next net end before r tracks h paths (Reach s p t) a = reach_tracked net end before r tracks h s p t a
tracked_next net end before r tracks h paths (Work s p a b w) k = work_tracked net end before r tracks h s p a b w k
tracked_next net end before r tracks h paths (Leave s p t) a = leave_tracked net end before r tracks h s p t paths a
tracked_next net end before r tracks h paths (Visit s q t) a = visit_tracked net end before r tracks h s q t a
