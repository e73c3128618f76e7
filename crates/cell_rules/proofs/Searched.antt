-- Cells that are searched for touched ones server by server: one more cell, the cells of a server that is passed over,
-- and the servers that the touched cells of a server reach.
use Rattle.std.proofs.Common.{◌≡◌, ℕ, ◌<◌, ◌≤◌, ◌+◌, ◌-◌, List, [], ◌∷◌, ◌++◌, length, get_or, take, drop, append_assoc, append-nil, length-append, Bool, true, false, refl, sym, ap, ◌∙◌, subst, inl, inr, arith}
use Rattle.std.specs.Prelude.{Contains}
use Rattle.std.specs.List.{flat_map}
use Rattle.std.proofs.lemmas.List.{take-append-drop, take-append-le, drop_more, take_more, take_all, length-set, get_or_default}
use Rattle.std.proofs.lemmas.List.Concat.{flat_map-append}
use Rattle.net_model.specs.Networks.{Net}
use Rattle.net_model.specs.Accepted.{IsAccepted}
use Rattle.net_model.specs.Orders.{IsOrder}
use Rattle.net_cells.specs.declared.cell.Cell.{Cell}
use Rattle.net_cells.specs.Cells.{has_cell, path_kinds}
use Rattle.net_cells.specs.Order.{evaluation_order, server_cells, path_cells}
use Rattle.net_cells.specs.Formulas.{leaves}
use Rattle.net_cells.specs.CellFormulas.{formula}
use Rattle.net_cells.proofs.Lists.{Has, contains_has, has_contains, has_either, has_right}
use Rattle.net_cells.proofs.Places.{home, IsHome, server_have}
use Rattle.net_cells.proofs.Growing.{flat_element}
use Rattle.net_cells.proofs.Precedes.{leaf_in_front, operands_are_cells}
use Rattle.cell_rules.proofs.Homes.{leaf_near}
use Rattle.cell_rules.specs.cell_changes.Slots.{slot}
use Rattle.cell_rules.specs.cell_changes.Changes.{Untouched, untouched, TouchedOf, no_more}
use Rattle.cell_rules.proofs.cell_changes.CarriedOver.{none_is_both}
use Rattle.cell_rules.proofs.cell_changes.HasSlots.{slots_are_own}
use Rattle.net_cells.proofs.cell_table.Fronts.{no_cell, cell_at, at_place}
use Rattle.cell_rules.specs.declared.site.Site.{Site}
use Rattle.cell_rules.specs.Sites.{IsSameBut, is_candidate}
use Rattle.cell_rules.specs.Finding.{AreFlags, IsTold, IsNoted, flag_of}
use Rattle.cell_rules.specs.Marks.{is_marked, KeepsMarks, MarksOnward, MarksCandidates, MarksReached, StandBehind, IsSearched}
use Rattle.cell_rules.proofs.Found.{passed_last, first_flags, noted_flags, noted_list, bare_noted}
use Rattle.cell_rules.proofs.Unchanged.{others_keep_their_rule}

-- ---- places in the order
-- a cell of some that stand behind a front
pub whole_at : (net : Net) (front cells : List Cell) (i : ℕ) → (stand : StandBehind net front cells) → i < length cells
    → evaluation_order net stand.order
    ≡ (front ++ take i cells) ++ cell_at cells i ∷ (drop (i + 1) cells ++ stand.back)
whole_at net front cells i stand h =
    stand.are ∙ ap (λ (xs : List Cell). front ++ (xs ++ stand.back)) (at_place cells i h)
    ∙ ap (λ (xs : List Cell). front ++ xs) (append_assoc (take i cells) (cell_at cells i ∷ drop (i + 1) cells) stand.back)
    ∙ sym (append_assoc front (take i cells) (cell_at cells i ∷ (drop (i + 1) cells ++ stand.back)))

number_place : (order : List ℕ) (i d : ℕ) → i < length order
    → order ≡ take i order ++ get_or order i d ∷ drop (i + 1) order
number_place order i d h =
    sym (take-append-drop i order) ∙ ap (λ (xs : List ℕ). take i order ++ xs) (drop_more order i d h)

-- the cells at a server of the order, and those of whole paths
pub stand_server : (net : Net) (order : List ℕ) (i d : ℕ) → IsOrder net order → i < length order
    → StandBehind net (flat_map (server_cells net) (take i order)) (server_cells net (get_or order i d))
unfolding evaluation_order
stand_server net order i d o h =
    let f = server_cells net in
    let paths = flat_map (path_cells net) path_kinds in
    record {
      order = order;
      servers = o;
      back = flat_map f (drop (i + 1) order) ++ paths;
      are = ap (λ (xs : List Cell). xs ++ paths)
          (ap (flat_map f) (number_place order i d h)
          ∙ flat_map-append f (take i order) (get_or order i d ∷ drop (i + 1) order))
          ∙ append_assoc (flat_map f (take i order)) (f (get_or order i d) ++ flat_map f (drop (i + 1) order)) paths
          ∙ ap (λ (xs : List Cell). flat_map f (take i order) ++ xs)
          (append_assoc (f (get_or order i d)) (flat_map f (drop (i + 1) order)) paths);
    }

pub stand_paths : (net : Net) (order : List ℕ) → IsOrder net order
    → StandBehind net (flat_map (server_cells net) order) (flat_map (path_cells net) path_kinds)
unfolding evaluation_order
stand_paths net order o = record {
  order = order;
  servers = o;
  back = [];
  are = ap (λ (xs : List Cell). flat_map (server_cells net) order ++ xs)
      (sym (append-nil (flat_map (path_cells net) path_kinds)));
}

pub both_parts : (net : Net) (order : List ℕ)
    → flat_map (server_cells net) order ++ flat_map (path_cells net) path_kinds ≡ evaluation_order net order
unfolding evaluation_order
both_parts net order = refl

-- the cells at one server, of those by an order of that server alone
pub own_cells : (net : Net) (s n : ℕ) (cells : List Cell) → cells ≡ evaluation_order net (s ∷ [])
    → n ≡ length (flat_map (path_cells net) path_kinds) → take (length cells - n) cells ≡ server_cells net s
own_cells net s n cells e few =
    let own = server_cells net s in
    let paths = flat_map (path_cells net) path_kinds in
    let whole : cells ≡ own ++ paths =
    e ∙ sym (both_parts net (s ∷ [])) ∙ ap (λ (xs : List Cell). xs ++ paths) (append-nil own) in
    let many = ap length whole ∙ length-append own paths in
    let count : length cells - n ≡ length own = omega (arith, many, few) in
    ap (λ (m : ℕ). take m cells) count ∙ ap (λ (xs : List Cell). take (length own) xs) whole
    ∙ take-append-le (length own) own paths (omega arith) ∙ take_all (length own) own (omega arith)

-- ---- untouched cells
module _ (old net : Net) where
  passed_all : (cells more touched : List Cell) → TouchedOf old net cells touched
      → ((c : Cell) → Has more c → Untouched old net c) → TouchedOf old net (cells ++ more) touched
  passed_all cells [] touched p u =
      subst (λ (xs : List Cell). TouchedOf old net xs touched) (sym (append-nil cells)) p
  passed_all cells (c ∷ cs) touched p u =
      subst (λ (xs : List Cell). TouchedOf old net xs touched) (append_assoc cells (c ∷ []) cs)
      (passed_all (cells ++ c ∷ []) cs touched (passed_last old net cells touched c p (u c (inl refl)))
      (λ d h. u d (inr h)))

  same_flags : (front more : List Cell) (flags : List Bool) → AreFlags old net front flags
      → ((c : Cell) → Has more c → Untouched old net c) → AreFlags old net (front ++ more) flags
  same_flags front more flags fl u = record {
    room = fl.room;
    touched = fl.touched;
    untouched = λ d m e. elim (has_either front more d (contains_has (front ++ more) d m)) [
      | inl l ↦ fl.untouched d (has_contains front d l) e
      | inr r ↦ u d r
    ];
  }

  -- ---- a server that is not marked
  module _ (site : Site) (front : List Cell) (s : ℕ) (marks flags : List Bool) (touched : List Cell)
      (acc : IsAccepted net) (same : IsSameBut site old net) (stand : StandBehind net front (server_cells net s))
      (searched : IsSearched old net front flags touched) (candidates : MarksCandidates site old net marks)
      (reached : MarksReached old net front marks) (off : is_marked marks s ≡ false) where
    never : is_marked marks s ≡ true → ⊥
    never on = let bad : true ≡ false = sym on ∙ off in cc

    no_candidate : (c : Cell) → Has (server_cells net s) c → is_candidate site old net c ≡ false
    no_candidate c h = by (is_candidate site old net c) refl
      where
        by : (b : Bool) → is_candidate site old net c ≡ b → is_candidate site old net c ≡ false
        by true e = absurd (never (candidates s c (has_contains (server_cells net s) c h) e))
        by false e = e

    untouched_one : (pre : List Cell) (c : Cell) (post : List Cell) → server_cells net s ≡ pre ++ c ∷ post
        → Has (server_cells net s) c → ((d : Cell) → Has pre d → Untouched old net d) → Untouched old net c
    untouched_one pre c post split h u =
        untouched c (others_keep_their_rule site old net c same here (no_candidate c h)) (λ d m. part d m)
      where
        here : has_cell net c ≡ true
        here = (server_have net s c h).exists

        whole : evaluation_order net stand.order ≡ (front ++ pre) ++ c ∷ (post ++ stand.back)
        whole =
            stand.are ∙ ap (λ (xs : List Cell). front ++ (xs ++ stand.back)) split
            ∙ ap (λ (xs : List Cell). front ++ xs) (append_assoc pre (c ∷ post) stand.back)
            ∙ sym (append_assoc front pre (c ∷ (post ++ stand.back)))

        -- a part that stands at a server before
        before : (d : Cell) → Contains (leaves (formula net c)) d → Has front d → (b : Bool) → flag_of flags d ≡ b
            → Untouched old net d
        before d m f true e =
            let own = slots_are_own.has net d acc (operands_are_cells net stand.order acc stand.servers c d here m) in
            absurd (never (reached s c d (has_contains (server_cells net s) c h) m (has_contains front d f)
            (searched.flags_are.touched d own e)))
        before d m f false e = searched.flags_are.untouched d (has_contains front d f) e

        part : (d : Cell) → Contains (leaves (formula net c)) d → Untouched old net d
        part d m =
            elim (has_either front pre d
            (leaf_in_front net stand.order (front ++ pre) c (post ++ stand.back) d acc stand.servers whole
            (contains_has (leaves (formula net c)) d m))) [
              | inl f ↦ before d m f (flag_of flags d) refl
              | inr p ↦ u d p
            ]

    all_untouched : (pre post : List Cell) → server_cells net s ≡ pre ++ post
        → ((d : Cell) → Has pre d → Untouched old net d) → (c : Cell) → Has (pre ++ post) c → Untouched old net c
    all_untouched pre [] e u c h = u c (subst (λ (xs : List Cell). Has xs c) (append-nil pre) h)
    all_untouched pre (x ∷ post) e u c h =
        all_untouched (pre ++ x ∷ []) post (e ∙ sym (append_assoc pre (x ∷ []) post)) more c
        (subst (λ (xs : List Cell). Has xs c) (sym (append_assoc pre (x ∷ []) post)) h)
      where
        among : Has (server_cells net s) x
        among = subst (λ (xs : List Cell). Has xs x) (sym e) (has_right pre (x ∷ post) x (inl refl))

        last : (d : Cell) → Has (x ∷ []) d → Untouched old net d
        last d (inl is) = subst (λ (y : Cell). Untouched old net y) is (untouched_one pre x post e among u)
        last d (inr n) = absurd n

        more : (d : Cell) → Has (pre ++ x ∷ []) d → Untouched old net d
        more d k = elim (has_either pre (x ∷ []) d k) [ inl l ↦ u d l | inr r ↦ last d r ]

    none_here : (c : Cell) → Has (server_cells net s) c → Untouched old net c
    none_here c h = all_untouched [] (server_cells net s) refl (λ d n. absurd n) c h

    pub passed_over : IsSearched old net (front ++ server_cells net s) flags touched
    passed_over = record {
      flags_are = same_flags front (server_cells net s) flags searched.flags_are none_here;
      bare = searched.bare;
      list = passed_all front (server_cells net s) touched searched.list none_here;
    }

    pub reached_none : MarksReached old net (front ++ server_cells net s) marks
    reached_none t c d m l f is =
        elim (has_either front (server_cells net s) d (contains_has (front ++ server_cells net s) d f)) [
          | inl k ↦ reached t c d m l (has_contains front d k) is
          | inr k ↦ absurd (none_is_both old net d is (none_here d k))
        ]

  -- ---- a server that is
  pub reached_on : (front : List Cell) (s : ℕ) (marks further more : List Bool) (longer : List Cell)
      → MarksReached old net front marks → is_marked marks s ≡ true → KeepsMarks marks further
      → MarksOnward net (server_cells net s) more further
      → IsSearched old net (front ++ server_cells net s) more longer
      → MarksReached old net (front ++ server_cells net s) further
  reached_on front s marks further more longer reached on kept onward searched t c d m l f is =
      elim (has_either front (server_cells net s) d (contains_has (front ++ server_cells net s) d f)) [
        | inl k ↦ kept t (reached t c d m l (has_contains front d k) is)
        | inr k ↦ near k
      ]
    where
      at : IsHome net t c
      at = server_have net t c (contains_has (server_cells net t) c m)

      flagged : (b : Bool) → flag_of more d ≡ b → flag_of more d ≡ true
      flagged true e = e
      flagged false e = absurd (none_is_both old net d is (searched.flags_are.untouched d f e))

      near : Has (server_cells net s) d → is_marked further t ≡ true
      near k = elim (leaf_near net c d at.no_path (contains_has (leaves (formula net c)) d l)) [
        | inl e ↦
            subst (λ (n : ℕ). is_marked further n ≡ true)
            (sym (server_have net s d k).at_home ∙ e ∙ at.at_home) (kept s on)
        | inr b ↦
            subst (λ (n : ℕ). is_marked further n ≡ true) (ap (home net) (sym b.arrives) ∙ at.at_home)
            (onward b.flow b.hop (subst (λ (x : Cell). Contains (server_cells net s) x) b.leaves_it
            (has_contains (server_cells net s) d k))
            (subst (λ (x : Cell). flag_of more x ≡ true) b.leaves_it (flagged (flag_of more d) refl)))
      ]

-- ---- one cell more
pub noted_room : (c : Cell) (t : Bool) (flags more : List Bool) (touched longer : List Cell)
    → IsNoted c t flags more touched longer → length flags ≡ 36352 → length more ≡ 36352
noted_room c true flags more touched longer n e = ap length n.0 ∙ length-set flags (slot c) true ∙ e
noted_room c false flags more touched longer n e = ap length n.0 ∙ e

pub searched_more : (old net : Net) (front cells : List Cell) (i : ℕ) (flags more : List Bool) (touched longer : List Cell)
    (t : Bool)
    → IsAccepted net → StandBehind net front cells → i < length cells → IsTold old net flags (cell_at cells i) t
    → IsNoted (cell_at cells i) t flags more touched longer
    → IsSearched old net (front ++ take i cells) flags touched
    → IsSearched old net (front ++ take (i + 1) cells) more longer
searched_more old net front cells i flags more touched longer t acc stand h told noted s =
    let c = cell_at cells i in
    let back = drop (i + 1) cells ++ stand.back in
    let whole = whole_at net front cells i stand h in
    let joined : front ++ take (i + 1) cells ≡ (front ++ take i cells) ++ c ∷ [] =
    ap (λ (xs : List Cell). front ++ xs) (take_more cells i no_cell h) ∙ sym (append_assoc front (take i cells) (c ∷ [])) in
    subst (λ (xs : List Cell). IsSearched old net xs more longer) (sym joined)
    (record {
      flags_are = noted_flags old net stand.order (front ++ take i cells) c back acc stand.servers whole flags s.flags_are t
          more touched longer told noted;
      bare = bare_noted c t flags more touched longer noted s.bare;
      list = noted_list old net stand.order (front ++ take i cells) c back acc stand.servers whole flags s.flags_are t more
          touched longer told noted s.list;
    })

pub searched_all : (old net : Net) (front cells : List Cell) (i : ℕ) (flags : List Bool) (touched : List Cell)
    → length cells ≤ i → IsSearched old net (front ++ take i cells) flags touched
    → IsSearched old net (front ++ cells) flags touched
searched_all old net front cells i flags touched h s =
    subst (λ (xs : List Cell). IsSearched old net (front ++ xs) flags touched) (take_all i cells h) s

-- ---- at the start
pub searched_none : (old net : Net) (flags : List Bool) (touched : List Cell) → length flags ≡ 36352
    → ((i : ℕ) → get_or flags i false ≡ false) → touched ≡ [] → IsSearched old net [] flags touched
searched_none old net flags touched size none e = record {
  flags_are = first_flags old net flags size none;
  bare = λ h. none;
  list = subst (λ (ts : List Cell). TouchedOf old net [] ts) (sym e) no_more;
}

-- ---- one server more
pub more_server : (net : Net) (order : List ℕ) (i d : ℕ) → i < length order
    → flat_map (server_cells net) (take (i + 1) order)
    ≡ flat_map (server_cells net) (take i order) ++ server_cells net (get_or order i d)
more_server net order i d h =
    flat_element (server_cells net) order i (get_or order i d) h (get_or_default order i (get_or order i d) d h)
