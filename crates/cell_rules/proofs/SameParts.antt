-- Two networks make the sum of a queue's parts of the same exactly where they make each part so.
use Rattle.std.proofs.Common.{◌≡◌, ◌≢◌, ℕ, zero, suc, ◌<◌, ◌≤◌, ◌+◌, ◌-◌, List, [], ◌∷◌, length, map, refl, sym, ap, ap₂, ◌∙◌, subst, arith, inl, inr, Bool, true, false, append-nil}
use Rattle.std.specs.Prelude.{◌==◌, None, not, if◌then◌else◌}
use mathlib.Core.Bool.{beq}
use Rattle.std.specs.List.{filter, range_with_len}
use Rattle.std.proofs.lemmas.Bool.{cases_lt, cases_eq, eqb-true, eq-eqb, ne_eqb}
use Rattle.rational.specs.Rational.{ℚ}
use Rattle.upp_limits.specs.declared.op_kind.OpKind.TheVariants.{Sum}
use Rattle.net_model.specs.Networks.{Net}
use Rattle.net_model.specs.Accepted.{IsAccepted}
use Rattle.net_cells.specs.declared.cell.Cell.{Cell}
use Rattle.net_cells.specs.declared.cell.Kind.TheVariants.{In, Total}
use Rattle.net_cells.specs.Numbered.{hops, rate, queue_of_hop}
use Rattle.net_cells.specs.declared.visit.Visit.{Visit}
use Rattle.net_cells.specs.Visits.{visit, visits_in, is_at, all_visits, longest_of}
use Rattle.net_cells.specs.QueueParts.{part_of, in_part, part_numbers}
use Rattle.net_cells.specs.Order.{at_visit}
use Rattle.net_cells.specs.Formulas.{Formula, leaves, value_of, made, cut, part, no_part}
use Rattle.net_cells.specs.CellFormulas.{part_sum, with_part, parts_sum, total, sum_of_hops, sum_from}
use Rattle.net_cells.proofs.LeavesOf.{sum_leaves}
use Rattle.net_cells.proofs.Lists.{Has, map_has, filter_has, flat_has, range_has}
use Rattle.net_cells.proofs.PartCounts.{part_small}
use Rattle.cell_numbers.specs.declared.found.Pick.{Pick}
use Rattle.cell_numbers.specs.declared.found.Pick.TheVariants.{InPart}
use Rattle.cell_numbers.specs.Chosen.{all_chosen, all_picked}
use Rattle.cell_numbers.proofs.Choosing.{part_visits, part_picked}
use Rattle.cell_rules.specs.Rules.{TellsSame, TellsFormula, link_of, one_part}
use Rattle.cell_rules.proofs.Tells.{tells_by, tells_of}
use Rattle.cell_rules.proofs.SameHops.{same_visits}

-- ---- the parts of a formula
-- by what a part is known: 0, or one more than the number of the server of its link
key : Formula → ℕ
key (cut F server bits speed) = suc server
key _ = 0

-- the part that has a key
pick : ℕ → Formula → Formula
pick k (part F G) = if key F == k then part F no_part else pick k G
pick k _ = no_part

-- a part, and others after it
graft : Formula → Formula → Formula
graft (part F H) G = part F G
graft _ G = G

key_sum : (F : Formula) (cs : List Cell) → key F ≡ 0 → key (sum_from F cs) ≡ 0
unfolding key
key_sum F [] e = e
key_sum F (c ∷ cs) e = key_sum (made Sum F (value_of c)) cs refl

key_is : (net : Net) (k : ℕ) (v : Visit) (vs : List Visit) → key (part_sum net k (v ∷ vs)) ≡ k
unfolding key
key_is net zero v vs = key_sum (value_of (at_visit In v)) (map (at_visit In) vs) refl
key_is net (suc p) v vs = refl

pick_own : (k : ℕ) (F G : Formula) → key F ≡ k → pick k (part F G) ≡ part F no_part
unfolding pick
pick_own k F G e = ap (λ b. if b then part F no_part else pick k G) (eq-eqb (key F) k e)

pick_later : (k : ℕ) (F G : Formula) → key F ≢ k → pick k (part F G) ≡ pick k G
unfolding pick
pick_later k F G n = ap (λ b. if b then part F no_part else pick k G) (ne_eqb (key F) k n)

pick_none : (k : ℕ) → pick k no_part ≡ no_part
unfolding pick
pick_none k = refl

graft_with : (net : Net) (k : ℕ) (vs : List Visit) (G : Formula) → with_part net k vs G ≡ graft (with_part net k vs no_part) G
unfolding graft
graft_with net k [] G = refl
graft_with net k (v ∷ vs) G = refl

-- ---- found again in the sum
-- another part is passed
pick_past : (net : Net) (j k : ℕ) (vs : List Visit) (G : Formula) → j ≢ k → pick k (with_part net j vs G) ≡ pick k G
pick_past net j k [] G n = refl
pick_past net j k (v ∷ vs) G n = pick_later k (part_sum net j (v ∷ vs)) G (λ e. n (sym (key_is net j v vs) ∙ e))

pick_here : (net : Net) (k : ℕ) (vs : List Visit) (G : Formula) → pick k G ≡ no_part → pick k (with_part net k vs G) ≡ with_part net k vs no_part
pick_here net k [] G e = e
pick_here net k (v ∷ vs) G e = pick_own k (part_sum net k (v ∷ vs)) G (key_is net k v vs)

module _ (net : Net) (s q : ℕ) where
  pick_outside : (k m n : ℕ) → k < m → pick k (parts_sum net s q (range_with_len m n)) ≡ no_part
  pick_outside k m zero h = pick_none k
  pick_outside k m (suc n) h =
      pick_past net m k (in_part net s q m) (parts_sum net s q (range_with_len (m + 1) n)) (λ e. omega (arith, e, h))
      ∙ pick_outside k (m + 1) n (omega (arith, h))

  pick_inside : (k m n : ℕ) → m ≤ k → k < m + n → pick k (parts_sum net s q (range_with_len m n)) ≡ one_part net s q k
  pick_inside k m zero lo hi = absurd (omega (arith, lo, hi))
  pick_inside k m (suc n) lo hi = elim (cases_eq m k) [
    | inl e ↦
        let P : ℕ → Type 0 = λ j. pick k (with_part net j (in_part net s q j) (parts_sum net s q (range_with_len (m + 1) n))) ≡ one_part net s q k in
        subst P (sym e)
        (pick_here net k (in_part net s q k) (parts_sum net s q (range_with_len (m + 1) n)) (pick_outside k (m + 1) n (omega (arith, e))))
    | inr d ↦
        pick_past net m k (in_part net s q m) (parts_sum net s q (range_with_len (m + 1) n)) d
        ∙ pick_inside k (m + 1) n (omega (arith, lo, d)) (omega (arith, hi))
  ]

  -- no hop is in a part past that of the last server
  none_past : (k : ℕ) → IsAccepted net → length net.servers < k → in_part net s q k ≡ []
  none_past k a h = empty (in_part net s q k) (λ v there.
      let is = filter_has (λ (u : Visit). part_of net u == k) (visits_in net s q) v there in
      let of = eqb-true (part_of net v) k is.1 in
      let small = small_part v is.0 in
      omega (arith, of, small, h))
    where
      empty : (vs : List Visit) → ((v : Visit) → Has vs v → ⊥) → vs ≡ []
      empty [] never = refl
      empty (v ∷ vs) never = absurd (never v (inl refl))

      small_part : (v : Visit) → Has (visits_in net s q) v → part_of net v < suc (length net.servers)
      small_part v there =
          let one = (filter_has (λ (u : Visit). queue_of_hop net u.flow u.hop == q) (filter (is_at net s) (all_visits net)) v there).0 in
          let two = (filter_has (is_at net s) (all_visits net) v one).0 in
          let three = flat_has (λ i. map (visit i) (range_with_len 0 (hops net i))) (range_with_len 0 (length net.flows)) v two in
          let four = map_has (visit three.0) (range_with_len 0 (hops net three.0)) v three.2 in
          let inside = range_has 0 (hops net three.0) four.0 four.1 in
          subst (λ (u : Visit). part_of net u < suc (length net.servers)) four.2
          (part_small net three.0 four.0 a (omega (arith, inside.1)))

  pick_whole : (k : ℕ) → IsAccepted net → pick k (parts_sum net s q (part_numbers net)) ≡ one_part net s q k
  pick_whole k a = elim (cases_lt k (suc (length net.servers))) [
    | inl l ↦ pick_inside k 0 (suc (length net.servers)) (omega arith) (omega (arith, l))
    | inr l ↦
        past 0 (suc (length net.servers)) (omega (arith, l))
        ∙ sym (ap (λ vs. with_part net k vs no_part) (none_past k a (omega (arith, l))))
  ]
    where
      past : (m n : ℕ) → m + n ≤ k → pick k (parts_sum net s q (range_with_len m n)) ≡ no_part
      past m zero h = pick_none k
      past m (suc n) h =
          pick_past net m k (in_part net s q m) (parts_sum net s q (range_with_len (m + 1) n)) (λ e. omega (arith, e, h))
          ∙ past (m + 1) n (omega (arith, h))

  -- further parts, which have no hop
  no_more : (m n : ℕ) → ((k : ℕ) → m ≤ k → in_part net s q k ≡ []) → parts_sum net s q (range_with_len m n) ≡ no_part
  no_more m zero none = refl
  no_more m (suc n) none =
      ap (λ vs. with_part net m vs (parts_sum net s q (range_with_len (m + 1) n))) (none m (omega arith))
      ∙ no_more (m + 1) n (λ k h. none k (omega (arith, h)))

  longer_row : (m n d : ℕ) → ((k : ℕ) → m + n ≤ k → in_part net s q k ≡ [])
      → parts_sum net s q (range_with_len m (n + d)) ≡ parts_sum net s q (range_with_len m n)
  longer_row m zero d none =
      let e : 0 + d ≡ d = omega arith in
      ap (λ j. parts_sum net s q (range_with_len m j)) e ∙ no_more m d (λ k h. none k (omega (arith, h)))
  longer_row m (suc n) d none =
      let e : suc n + d ≡ suc (n + d) = omega arith in
      ap (λ j. parts_sum net s q (range_with_len m j)) e
      ∙ ap (with_part net m (in_part net s q m)) (longer_row (m + 1) n d (λ k h. none k (omega (arith, h))))

  -- the parts of a queue are the first 65
  all_parts : IsAccepted net → parts_sum net s q (range_with_len 0 65) ≡ parts_sum net s q (part_numbers net)
  all_parts a =
      let few = a.few_servers in
      let n = suc (length net.servers) in
      let e : 65 ≡ n + (65 - n) = omega (arith, few) in
      ap (λ j. parts_sum net s q (range_with_len 0 j)) e ∙ longer_row 0 n (65 - n) (λ k h. none_past k a (omega (arith, h)))

-- ---- two networks
module _ (old new : Net) (s q : ℕ) where
  pub same_row : (m n : ℕ) → ((k : ℕ) → m ≤ k → k < m + n → one_part old s q k ≡ one_part new s q k)
      → parts_sum old s q (range_with_len m n) ≡ parts_sum new s q (range_with_len m n)
  same_row m zero same = refl
  same_row m (suc n) same =
      graft_with old m (in_part old s q m) (parts_sum old s q (range_with_len (m + 1) n))
      ∙ ap₂ graft (same m (omega arith) (omega arith)) (same_row (m + 1) n (λ k lo hi. same k (omega (arith, lo)) (omega (arith, hi))))
      ∙ sym (graft_with new m (in_part new s q m) (parts_sum new s q (range_with_len (m + 1) n)))

  pub same_all : IsAccepted old → IsAccepted new → ((k : ℕ) → k < 65 → one_part old s q k ≡ one_part new s q k)
      → parts_sum old s q (part_numbers old) ≡ parts_sum new s q (part_numbers new)
  same_all a b same = sym (all_parts old s q a) ∙ same_row 0 65 (λ k lo hi. same k hi) ∙ all_parts new s q b

  pub other_part : (k : ℕ) → IsAccepted old → IsAccepted new → one_part old s q k ≢ one_part new s q k
      → parts_sum old s q (part_numbers old) ≢ parts_sum new s q (part_numbers new)
  other_part k a b n e = n (sym (pick_whole old s q k a) ∙ ap (pick k) e ∙ pick_whole new s q k b)

  -- ---- one part
  -- of other hops
  hops_in : (net : Net) (k : ℕ) (vs : List Visit) → leaves (with_part net k vs no_part) ≡ map (at_visit In) vs
  hops_in net k [] = refl
  hops_in net zero (v ∷ vs) = append-nil (leaves (sum_of_hops (v ∷ vs))) ∙ sum_leaves (map (at_visit In) (v ∷ vs))
  hops_in net (suc p) (v ∷ vs) = append-nil (leaves (sum_of_hops (v ∷ vs))) ∙ sum_leaves (map (at_visit In) (v ∷ vs))

  other_hops : (k : ℕ) → in_part old s q k ≢ in_part new s q k → one_part old s q k ≢ one_part new s q k
  other_hops k n e =
      n (same_visits (in_part old s q k) (in_part new s q k)
      (sym (hops_in old k (in_part old s q k)) ∙ ap leaves e ∙ hops_in new k (in_part new s q k)))

  pub part_differs : (k : ℕ)
      → all_chosen old s (InPart q k) None (length old.flows) ≢ all_chosen new s (InPart q k) None (length new.flows)
      → one_part old s q k ≢ one_part new s q k
  part_differs k n = other_hops k (λ e. n (sym (part_visits old s q k) ∙ e ∙ part_visits new s q k))

  -- of the same hops: those that enter, none, and those that come over a link
  module _ (k : ℕ) (same : all_chosen old s (InPart q k) None (length old.flows) ≡ all_chosen new s (InPart q k) None (length new.flows)) where
    alike : in_part old s q k ≡ in_part new s q k
    alike = part_visits old s q k ∙ same ∙ sym (part_visits new s q k)

    pub entering_same : k ≡ 0 → one_part old s q k ≡ one_part new s q k
    entering_same e =
        ap (λ vs. with_part old k vs no_part) alike ∙ enters k (in_part new s q k) e
      where
        enters : (j : ℕ) (vs : List Visit) → j ≡ 0 → with_part old j vs no_part ≡ with_part new j vs no_part
        enters j [] h = refl
        enters zero (v ∷ vs) h = refl
        enters (suc p) (v ∷ vs) h = absurd (omega (arith, h))

    pub unused_same : all_chosen old s (InPart q k) None (length old.flows) ≡ [] → one_part old s q k ≡ one_part new s q k
    unused_same e =
        let none : in_part old s q k ≡ [] = part_visits old s q k ∙ e in
        ap (λ vs. with_part old k vs no_part) none ∙ sym (ap (λ vs. with_part new k vs no_part) (sym alike ∙ none))

    pub cut_tells : (p : ℕ) (b : Bool) → k ≡ suc p → all_chosen old s (InPart q k) None (length old.flows) ≢ []
        → TellsSame (link_of old s (InPart q k) p) (link_of new s (InPart q k) p) b
        → TellsSame (one_part old s q k) (one_part new s q k) b
    cut_tells p b e some t =
        tells_by (link_of old s (InPart q k) p) (link_of new s (InPart q k) p) (one_part old s q k) (one_part new s q k) b
        (λ h.
        let bits : longest_of old (in_part old s q k) ≡ longest_of new (in_part new s q k) =
        ap (longest_of old) (part_picked old s q k) ∙ ap (λ (l : ℕ × ℚ). l.0) h ∙ sym (ap (longest_of new) (part_picked new s q k)) in
        together (in_part old s q k) (in_part new s q k) alike bits (ap (λ (l : ℕ × ℚ). l.1) h))
        (λ h.
        let both = apart (in_part old s q k) (in_part new s q k) (λ z. some (sym (part_visits old s q k) ∙ z)) h in
        ap₂ (λ (n : ℕ) (x : ℚ). (n, x))
        (sym (ap (longest_of old) (part_picked old s q k)) ∙ both.0 ∙ ap (longest_of new) (part_picked new s q k)) both.1) t
      where
        together : (vs ws : List Visit) → vs ≡ ws → longest_of old vs ≡ longest_of new ws → rate old p ≡ rate new p
            → with_part old k vs no_part ≡ with_part new k ws no_part
        together [] [] f bits speed = refl
        together [] (w ∷ ws) f bits speed = absurd (let bad : ⊥ = cc in bad)
        together (v ∷ vs) [] f bits speed = absurd (let bad : ⊥ = cc in bad)
        together (v ∷ vs) (w ∷ ws) f bits speed =
            let P : ℕ → Type 0 = λ j. part (part_sum old j (v ∷ vs)) no_part ≡ part (part_sum new j (w ∷ ws)) no_part in
            subst P (sym e)
            (ap (λ us. part (cut (sum_of_hops us) p (longest_of old (v ∷ vs)) (rate old p)) no_part) f
            ∙ ap₂ (λ (n : ℕ) (x : ℚ). part (cut (sum_of_hops (w ∷ ws)) p n x) no_part) bits speed)

        apart : (vs ws : List Visit) → vs ≢ [] → with_part old k vs no_part ≡ with_part new k ws no_part
            → (longest_of old vs ≡ longest_of new ws) × (rate old p ≡ rate new p)
        apart [] ws some_hop f = absurd (some_hop refl)
        apart (v ∷ vs) [] some_hop f = absurd (let bad : ⊥ = cc in bad)
        apart (v ∷ vs) (w ∷ ws) some_hop f =
            let P : ℕ → Type 0 = λ j. part (part_sum old j (v ∷ vs)) no_part ≡ part (part_sum new j (w ∷ ws)) no_part in
            taken (sum_of_hops (v ∷ vs)) (sum_of_hops (w ∷ ws)) (longest_of old (v ∷ vs)) (longest_of new (w ∷ ws)) (rate old p) (rate new p) (subst P e f)
          where
            taken : (F G : Formula) (m n : ℕ) (x y : ℚ) → part (cut F p m x) no_part ≡ part (cut G p n y) no_part → (m ≡ n) × (x ≡ y)
            taken F G m n x y h =
                let inner : cut F p m x ≡ cut G p n y = cc in
                let one : m ≡ n = cc in
                let two : x ≡ y = cc in
                (one, two)

-- ---- links
module _ (old new : Net) (s : ℕ) (which : Pick) (p m n : ℕ) (x y : ℚ)
    (long : m ≡ longest_of old (all_picked old s which (length old.flows))) (longer : n ≡ longest_of new (all_picked new s which (length new.flows)))
    (fast : x ≡ rate old p) (faster : y ≡ rate new p) where
  pub links_tell : (b : Bool) → m ≡ n → TellsSame x y b → TellsSame (link_of old s which p) (link_of new s which p) b
  links_tell b e t =
      tells_by x y (link_of old s which p) (link_of new s which p) b
      (λ h. ap₂ (λ (k : ℕ) (z : ℚ). (k, z)) (sym long ∙ e ∙ longer) (sym fast ∙ h ∙ faster))
      (λ h. fast ∙ ap (λ (l : ℕ × ℚ). l.1) h ∙ sym faster) t

  pub links_differ : m ≢ n → link_of old s which p ≢ link_of new s which p
  links_differ d h = d (long ∙ ap (λ (l : ℕ × ℚ). l.0) h ∙ sym longer)

-- ---- versions
is_parts : Formula → Bool
is_parts (part F G) = true
is_parts no_part = true
is_parts _ = false

parts_are : (net : Net) (s q : ℕ) (ks : List ℕ) → is_parts (parts_sum net s q ks) ≡ true
unfolding is_parts
parts_are net s q [] = refl
parts_are net s q (k ∷ ks) = one (in_part net s q k) (parts_are net s q ks)
  where
    one : (vs : List Visit) → is_parts (parts_sum net s q ks) ≡ true → is_parts (with_part net k vs (parts_sum net s q ks)) ≡ true
    one [] rest = rest
    one (v ∷ vs) rest = refl

sum_is_none : (F : Formula) (cs : List Cell) → is_parts F ≡ false → is_parts (sum_from F cs) ≡ false
unfolding is_parts
sum_is_none F [] e = e
sum_is_none F (c ∷ cs) e = sum_is_none (made Sum F (value_of c)) cs refl

hops_are_none : (vs : List Visit) → is_parts (sum_of_hops vs) ≡ false
unfolding is_parts
hops_are_none [] = refl
hops_are_none (v ∷ vs) = sum_is_none (value_of (at_visit In v)) (map (at_visit In) vs) refl

-- the sum of a queue in the one version is not that in the other
pub versions_differ : (old new : Net) (s q : ℕ) (b d : Bool) → b ≢ d → total b old s q ≢ total d new s q
versions_differ old new s q true true n e = n refl
versions_differ old new s q true false n e =
    let bad : true ≡ false = sym (parts_are old s q (part_numbers old)) ∙ ap is_parts e ∙ hops_are_none (visits_in new s q) in cc
versions_differ old new s q false true n e =
    let bad : false ≡ true = sym (hops_are_none (visits_in old s q)) ∙ ap is_parts e ∙ parts_are new s q (part_numbers new) in cc
versions_differ old new s q false false n e = n refl

-- each by its version
pub total_same : (old new : Net) (s q : ℕ) (b d tells : Bool) → (old.version == 2) ≡ b → (new.version == 2) ≡ d
    → TellsSame (total b old s q) (total d new s q) tells → TellsFormula old new Total s q tells
total_same old new s q b d tells e f t =
    tells_of (total b old s q) (total d new s q) (total (old.version == 2) old s q) (total (new.version == 2) new s q) tells
    (ap (λ x. total x old s q) (sym e)) (ap (λ x. total x new s q) (sym f)) t

-- two answers that are told to differ, or not to
pub other_bits : (b d : Bool) → not (beq b d) ≡ true → b ≢ d
other_bits true true e h = let bad : ⊥ = cc in bad
other_bits true false e h = let bad : ⊥ = cc in bad
other_bits false true e h = let bad : ⊥ = cc in bad
other_bits false false e h = let bad : ⊥ = cc in bad

pub same_bits : (b d : Bool) → not (beq b d) ≡ false → b ≡ d
same_bits true true e = refl
same_bits true false e = absurd (let bad : ⊥ = cc in bad)
same_bits false true e = absurd (let bad : ⊥ = cc in bad)
same_bits false false e = refl
