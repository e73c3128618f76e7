-- Touched cells, found in their order.
use Rattle.std.proofs.Common.{◌≡◌, ◌≢◌, ℕ, ◌≤◌, ◌==◌, List, [], ◌∷◌, ◌++◌, length, map, get_or, eqb, length-append, replicate, Bool, true, false, sym, ap, ◌∙◌, subst, refl, inl, inr, arith, ⊎_elim}
use Rattle.std.specs.Prelude.{Contains, slice_set}
use Rattle.std.specs.List.{list_any, IsDistinct}
use Rattle.std.proofs.lemmas.List.{get_or-set_same, get_or-set_other, length-set, length-replicate, get_or-replicate, get_or_past, length-map}
use Rattle.std.proofs.lemmas.Bool.{cases_lt, eqb-true, ne_eqb, or_cases, or_parts, or_from}
use Rattle.std.proofs.lemmas.Map.Keys.{IsDistinct-from_apart}
use Rattle.std.proofs.lemmas.Map.Steps.{length-le_from_distinct_below}
use Rattle.std.proofs.lemmas.Bool.Decides.{eqb_tells}
use Rattle.net_model.specs.Networks.{Net}
use Rattle.net_model.specs.Accepted.{IsAccepted}
use Rattle.net_model.specs.Orders.{IsOrder}
use Rattle.net_cells.specs.declared.cell.Cell.{Cell}
use Rattle.net_cells.specs.Cells.{has_cell}
use Rattle.net_cells.specs.Order.{evaluation_order}
use Rattle.net_cells.specs.Formulas.{leaves}
use Rattle.net_cells.specs.CellFormulas.{formula}
use Rattle.net_cells.proofs.Lists.{Has, Apart, contains_has, has_contains, has_either, map_has, apart_pairs}
use Rattle.net_cells.proofs.Members.{order_has, apart_cells}
use Rattle.net_cells.proofs.Precedes.{in_front, leaf_in_front, operands_are_cells}
use Rattle.cell_rules.specs.cell_changes.Slots.{slot, HasSlot}
use Rattle.cell_rules.specs.cell_changes.Changes.{HasSameRule, IsChanged, Touched, changed, made_of, Untouched, untouched, TouchedOf, no_more, passed, taken}
use Rattle.cell_rules.specs.Finding.{flag_of, AreFlags, IsBareAtFirst, IsTold, IsNoted}
use Rattle.cell_rules.proofs.cell_changes.OwnSlots.{own}
use Rattle.cell_rules.proofs.cell_changes.HasSlots.{slots_are_own}

-- ---- tests of lists
any_has : {X : Type 0} (p : X → Bool) (xs : List X) → list_any p xs ≡ true → (x : X) × Has xs x × (p x ≡ true)
any_has p [] e = absurd (let bad : ⊥ = cc in bad)
any_has p (x ∷ xs) e =
    elim (or_cases (p x) (list_any p xs) e) [
      | inl is ↦ (x, inl refl, is)
      | inr h ↦ let found = any_has p xs h in (found.0, inr found.1, found.2)
    ]

pub any_none : {X : Type 0} (p : X → Bool) (xs : List X) → list_any p xs ≡ false → (x : X) → Has xs x → p x ≡ false
any_none p [] e y h = absurd h
any_none p (x ∷ xs) e y (inl is) = subst (λ z. p z ≡ false) is (or_parts (p x) (list_any p xs) e).0
any_none p (x ∷ xs) e y (inr h) = any_none p xs (or_parts (p x) (list_any p xs) e).1 y h

pub none_any : {X : Type 0} (p : X → Bool) (xs : List X) → ((x : X) → p x ≡ false) → list_any p xs ≡ false
none_any p [] e = refl
none_any p (x ∷ xs) e = or_from (p x) (list_any p xs) (e x) (none_any p xs e)

-- ---- lists of touched cells
module _ (old net : Net) where
  pub passed_last : (cells touched : List Cell) (c : Cell) → TouchedOf old net cells touched → Untouched old net c
      → TouchedOf old net (cells ++ c ∷ []) touched
  passed_last _ _ c no_more u = passed c [] [] u no_more
  passed_last _ ts c (passed d cells _ v p) u = passed d (cells ++ c ∷ []) ts v (passed_last cells ts c p u)
  passed_last _ _ c (taken d cells ts t p) u = taken d (cells ++ c ∷ []) ts t (passed_last cells ts c p u)

  pub taken_last : (cells touched : List Cell) (c : Cell) → TouchedOf old net cells touched → Touched old net c
      → TouchedOf old net (cells ++ c ∷ []) (touched ++ c ∷ [])
  taken_last _ _ c no_more t = taken c [] [] t no_more
  taken_last _ ts c (passed d cells _ v p) t = passed d (cells ++ c ∷ []) (ts ++ c ∷ []) v (taken_last cells ts c p t)
  taken_last _ _ c (taken d cells ts s p) t = taken d (cells ++ c ∷ []) (ts ++ c ∷ []) s (taken_last cells ts c p t)

  -- ---- one cell more
  module _ (order : List ℕ) (front : List Cell) (c : Cell) (back : List Cell) (acc : IsAccepted net) (o : IsOrder net order)
      (split : evaluation_order net order ≡ front ++ c ∷ back) where
    here : has_cell net c ≡ true
    here = in_front net order front c back split

    pub own_slot : HasSlot c
    own_slot = slots_are_own.has net c acc here

    pub part_slots : (d : Cell) → Contains (leaves (formula net c)) d → HasSlot d
    part_slots d m = slots_are_own.has net d acc (operands_are_cells net order acc o c d here m)

    differs : ¬ (HasSameRule old net c) → IsChanged old net c
    differs n = by (has_cell old c) refl
      where
        by : (b : Bool) → has_cell old c ≡ b → IsChanged old net c
        by true is = inr (λ e. n (record { before = is; after = here; same = e }))
        by false is = inl is

    module _ (flags : List Bool) (fl : AreFlags old net front flags) where
      told_touched : IsTold old net flags c true → Touched old net c
      told_touched (inl n) = changed c here (differs n)
      told_touched (inr h) =
          let found = any_has (flag_of flags) (leaves (formula net c)) h in
          let leaf = has_contains (leaves (formula net c)) found.0 found.1 in
          made_of c found.0 here leaf (fl.touched found.0 (part_slots found.0 leaf) found.2)

      told_untouched : IsTold old net flags c false → Untouched old net c
      told_untouched told =
          untouched c told.0 (λ d m.
          let leaf = contains_has (leaves (formula net c)) d m in
          fl.untouched d (has_contains front d (leaf_in_front net order front c back d acc o split leaf))
          (any_none (flag_of flags) (leaves (formula net c)) told.1 d leaf))

      still_flags : Untouched old net c → AreFlags old net (front ++ c ∷ []) flags
      still_flags u = record {
        room = fl.room;
        touched = fl.touched;
        untouched = λ d m e. elim (has_either front (c ∷ []) d (contains_has (front ++ c ∷ []) d m)) [
          | inl l ↦ fl.untouched d (has_contains front d l) e
          | inr r ↦ only d r
        ];
      }
        where
          only : (d : Cell) → Has (c ∷ []) d → Untouched old net d
          only d (inl e) = subst (λ (x : Cell). Untouched old net x) e u
          only d (inr e) = absurd e

      set_here : (d : Cell) → slot d ≡ slot c → flag_of (slice_set flags (slot c) true) d ≡ true
      set_here d e =
          ap (λ n. get_or (slice_set flags (slot c) true) n false) e
          ∙ get_or-set_same flags (slot c) true false (omega (arith, slots_are_own.below c own_slot, fl.room))

      more_flags : Touched old net c → AreFlags old net (front ++ c ∷ []) (slice_set flags (slot c) true)
      more_flags t = record {
        room = length-set flags (slot c) true ∙ fl.room;
        touched = λ d p e. ⊎_elim
            (λ (k : (slot d == slot c ≡ true) × (slot d ≡ slot c)).
            subst (λ (x : Cell). Touched old net x) (sym (own d c p own_slot k.1)) t)
            (λ (k : (slot d == slot c ≡ false) × (slot d ≢ slot c)).
            fl.touched d p (sym (get_or-set_other flags (slot c) (slot d) true false k.1) ∙ e))
            (eqb_tells (slot d) (slot c));
        untouched = λ d m e. ⊎_elim
            (λ (k : (slot d == slot c ≡ true) × (slot d ≡ slot c)).
            let set = set_here d k.1 in absurd (let bad : ⊥ = cc in bad))
            (λ (k : (slot d == slot c ≡ false) × (slot d ≢ slot c)).
            elim (has_either front (c ∷ []) d (contains_has (front ++ c ∷ []) d m)) [
              | inl l ↦ fl.untouched d (has_contains front d l) (sym (get_or-set_other flags (slot c) (slot d) true false k.1) ∙ e)
              | inr r ↦ not_here d k.1 r
            ])
            (eqb_tells (slot d) (slot c));
      }
        where
          not_here : (d : Cell) → slot d ≢ slot c → Has (c ∷ []) d → Untouched old net d
          not_here d differs (inl e) = absurd (differs (ap slot (sym e)))
          not_here d differs (inr e) = absurd e

      pub noted_flags : (t : Bool) (more : List Bool) (touched longer : List Cell) → IsTold old net flags c t
          → IsNoted c t flags more touched longer → AreFlags old net (front ++ c ∷ []) more
      noted_flags true more touched longer told n =
          subst (λ (fs : List Bool). AreFlags old net (front ++ c ∷ []) fs) (sym n.0) (more_flags (told_touched told))
      noted_flags false more touched longer told n =
          subst (λ (fs : List Bool). AreFlags old net (front ++ c ∷ []) fs) (sym n.0) (still_flags (told_untouched told))

      pub noted_list : (t : Bool) (more : List Bool) (touched longer : List Cell) → IsTold old net flags c t
          → IsNoted c t flags more touched longer → TouchedOf old net front touched
          → TouchedOf old net (front ++ c ∷ []) longer
      noted_list true more touched longer told n p =
          subst (λ (cs : List Cell). TouchedOf old net (front ++ c ∷ []) cs) (sym n.1)
          (taken_last front touched c p (told_touched told))
      noted_list false more touched longer told n p =
          subst (λ (cs : List Cell). TouchedOf old net (front ++ c ∷ []) cs) (sym n.1)
          (passed_last front touched c p (told_untouched told))

-- ---- at the start
pub first_flags : (old net : Net) (flags : List Bool) → length flags ≡ 36352
    → ((i : ℕ) → get_or flags i false ≡ false) → AreFlags old net [] flags
first_flags old net flags size none = record {
  room = size;
  touched = λ c p e. let not_set : flag_of flags c ≡ false = none (slot c) in absurd (let bad : ⊥ = cc in bad);
  untouched = λ c m e. absurd (contains_has [] c m);
}

pub not_set : (n i : ℕ) → get_or (replicate n false) i false ≡ false
not_set n i = elim (cases_lt i n) [
  | inl l ↦ get_or-replicate n i false false l
  | inr l ↦ get_or_past (replicate n false) i false (omega (arith, l, length-replicate {A = Bool} n false))
]

-- where none was touched so far, none is flagged
pub bare_noted : (c : Cell) (t : Bool) (flags more : List Bool) (touched longer : List Cell)
    → IsNoted c t flags more touched longer → IsBareAtFirst flags touched → IsBareAtFirst more longer
bare_noted c true flags more touched longer n bare e =
    let many : length (touched ++ c ∷ []) ≡ 0 = ap length (sym n.1 ∙ e) in
    let some = length-append touched (c ∷ []) in
    absurd (omega (arith, many, some))
bare_noted c false flags more touched longer n bare e = λ i.
    ap (λ (fs : List Bool). get_or fs i false) n.0 ∙ bare (sym n.1 ∙ e) i

-- ---- how many
touched_in : (old net : Net) (cells touched : List Cell) → TouchedOf old net cells touched → (c : Cell) → Has touched c
    → Has cells c
touched_in old net _ _ no_more c h = h
touched_in old net _ ts (passed d cells _ u p) c h = inr (touched_in old net cells ts p c h)
touched_in old net _ _ (taken d cells ts t p) c (inl e) = inl e
touched_in old net _ _ (taken d cells ts t p) c (inr h) = inr (touched_in old net cells ts p c h)

touched_apart : (old net : Net) (cells touched : List Cell) → TouchedOf old net cells touched → Apart cells
    → Apart touched
touched_apart old net _ _ no_more a = tt
touched_apart old net _ ts (passed d cells _ u p) a = touched_apart old net cells ts p a.1
touched_apart old net _ _ (taken d cells ts t p) a =
    (λ h. a.0 (touched_in old net cells ts p d h), touched_apart old net cells ts p a.1)

-- cells with places of their own have different ones
apart_slots : (cells : List Cell) → Apart cells → ((c : Cell) → Has cells c → HasSlot c) → Apart (map slot cells)
apart_slots [] a has = tt
apart_slots (c ∷ cs) a has = (
  λ h. let found = map_has slot cs (slot c) h in
      a.0 (subst (λ (x : Cell). Has cs x) (own found.0 c (has found.0 (inr found.1)) (has c (inl refl)) found.2) found.1),
  apart_slots cs a.1 (λ d h. has d (inr h)),
)

distinct : (xs : List ℕ) → Apart xs → IsDistinct eqb xs
distinct xs a =
    IsDistinct-from_apart eqb xs (λ i j d h k. ne_eqb (get_or xs i d) (get_or xs j d) (apart_pairs xs a i j d h k))

pub few_touched : (old net : Net) (order : List ℕ) (touched : List Cell) → IsAccepted net → IsOrder net order
    → TouchedOf old net (evaluation_order net order) touched → length touched ≤ 36352
few_touched old net order touched acc o p =
    let has : (c : Cell) → Has touched c → HasSlot c =
    λ c h. slots_are_own.has net c acc
    (order_has net order c (touched_in old net (evaluation_order net order) touched p c h)) in
    let apart = touched_apart old net (evaluation_order net order) touched p (apart_cells net order o) in
    let many : length (map slot touched) ≤ 36352 =
    length-le_from_distinct_below (map slot touched) 36352 (distinct (map slot touched) (apart_slots touched apart has))
    (λ q m.
    let among = any_has (eqb q) (map slot touched) m in
    let from = map_has slot touched among.0 among.1 in
    let below = slots_are_own.below from.0 (has from.0 from.1) in
    let same : q ≡ among.0 = eqb-true q among.0 among.2 in
    omega (arith, below, same, from.2)) in
    omega (arith, many, length-map touched slot)
