-- Flows that are marked: that a cell of a whole path is untouched where its flow is not.
use Rattle.std.proofs.Common.{◌≡◌, ℕ, ◌<◌, ◌+◌, ◌-◌, List, [], ◌∷◌, ◌++◌, length, take, drop, map, Bool, true, false, refl, sym, ap, ◌∙◌, subst, inl, inr, arith}
use Rattle.std.specs.Prelude.{Contains, slice_set}
use Rattle.std.specs.List.{flat_map, list_any, range_with_len}
use Rattle.std.proofs.lemmas.Bool.{cases_lt, eqb-true, or_from}
use Rattle.std.proofs.lemmas.List.{take_more}
use Rattle.net_model.specs.Networks.{Net}
use Rattle.net_model.specs.Accepted.{IsAccepted}
use Rattle.net_cells.specs.declared.cell.Cell.{Cell}
use Rattle.net_cells.specs.declared.cell.Kind.{Kind}
use Rattle.net_cells.specs.declared.cell.Kind.TheVariants.{In, Cross, Total, Higher, QueueService, Theta, Residual, QueueDelay, QueueBacklog, HopDelay, ShiftOut, DeconvOut, Out, PathService, Tfa, Sfa, Bound}
use Rattle.net_cells.specs.declared.cell.Scope.TheVariants.{EachPath}
use Rattle.net_cells.specs.Numbered.{path, hops}
use Rattle.net_cells.specs.Cells.{cell_of, scope_of, has_cell, path_kinds}
use Rattle.net_cells.specs.Order.{path_cells}
use Rattle.net_cells.specs.Formulas.{leaves}
use Rattle.net_cells.specs.CellFormulas.{formula_of, formula}
use Rattle.net_cells.proofs.Lists.{Has, contains_has, has_contains, map_has, flat_has, has_either}
use Rattle.net_cells.proofs.LeavesOf.{served_leaves}
use Rattle.net_cells.proofs.Places.{flow_inside, path_have, path_scope}
use Rattle.net_cells.proofs.Precedes.{in_front, leaf_in_front, operands_are_cells}
use Rattle.net_cells.proofs.cell_table.Fronts.{no_cell, cell_at}
use Rattle.cell_rules.specs.cell_changes.Changes.{Touched, Untouched, TouchedOf, no_more, passed, taken}
use Rattle.cell_rules.proofs.cell_changes.CarriedOver.{none_is_both}
use Rattle.cell_rules.proofs.cell_changes.HasSlots.{slots_are_own}
use Rattle.cell_rules.specs.declared.site.Site.{Site}
use Rattle.cell_rules.specs.declared.site.Site.TheVariants.{Server, Flow}
use Rattle.cell_rules.specs.Sites.{IsSameBut, is_among, passes, is_candidate, reads_server, reads_flow}
use Rattle.cell_rules.specs.Finding.{IsTold, IsNoted, flag_of}
use Rattle.cell_rules.specs.Marks.{is_marked, KeepsMarks, MarksOwn, MarksPassing, MarksPaths, AreOfPaths, IsLookedAt, StandBehind, IsSearched}
use Rattle.cell_rules.proofs.Marking.{mark_here, mark_kept}
use Rattle.cell_rules.proofs.Searched.{whole_at, searched_more}
use Rattle.cell_rules.proofs.Unchanged.{others_keep_their_rule}

-- ---- where two networks differ
-- a path that has a server is that of a flow with a number
some_hop : (ns : List ℕ) (s : ℕ) → is_among s ns ≡ true → 0 < length ns
some_hop [] s e = absurd (let bad : ⊥ = cc in bad)
some_hop (n ∷ ns) s e = omega arith

pub flow_number : (net : Net) (i s : ℕ) → IsAccepted net → passes net i s ≡ true → i < 256
flow_number net i s a e =
    let inside = flow_inside net i 0 (some_hop (path net i) s e) in omega (arith, inside, a.few_flows)

-- the cells of whole paths that read a server, or a flow
server_path : (net : Net) (s : ℕ) (kind : Kind) (a b : ℕ) → scope_of kind ≡ EachPath → reads_server net s kind a b ≡ true
    → passes net a s ≡ true
server_path net s In a b o e = absurd (let bad : ⊥ = cc in bad)
server_path net s Cross a b o e = absurd (let bad : ⊥ = cc in bad)
server_path net s Total a b o e = absurd (let bad : ⊥ = cc in bad)
server_path net s Higher a b o e = absurd (let bad : ⊥ = cc in bad)
server_path net s QueueService a b o e = absurd (let bad : ⊥ = cc in bad)
server_path net s Theta a b o e = absurd (let bad : ⊥ = cc in bad)
server_path net s Residual a b o e = absurd (let bad : ⊥ = cc in bad)
server_path net s QueueDelay a b o e = absurd (let bad : ⊥ = cc in bad)
server_path net s QueueBacklog a b o e = absurd (let bad : ⊥ = cc in bad)
server_path net s HopDelay a b o e = absurd (let bad : ⊥ = cc in bad)
server_path net s ShiftOut a b o e = absurd (let bad : ⊥ = cc in bad)
server_path net s DeconvOut a b o e = absurd (let bad : ⊥ = cc in bad)
server_path net s Out a b o e = absurd (let bad : ⊥ = cc in bad)
server_path net s PathService a b o e = absurd (let bad : ⊥ = cc in bad)
server_path net s Tfa a b o e = e
server_path net s Sfa a b o e = e
server_path net s Bound a b o e = absurd (let bad : ⊥ = cc in bad)

flow_path : (old net : Net) (i : ℕ) (kind : Kind) (a b : ℕ) → scope_of kind ≡ EachPath → reads_flow old net i kind a b ≡ true
    → a ≡ i
flow_path old net i In a b o e = absurd (let bad : ⊥ = cc in bad)
flow_path old net i Cross a b o e = absurd (let bad : ⊥ = cc in bad)
flow_path old net i Total a b o e = absurd (let bad : ⊥ = cc in bad)
flow_path old net i Higher a b o e = absurd (let bad : ⊥ = cc in bad)
flow_path old net i QueueService a b o e = absurd (let bad : ⊥ = cc in bad)
flow_path old net i Theta a b o e = absurd (let bad : ⊥ = cc in bad)
flow_path old net i Residual a b o e = absurd (let bad : ⊥ = cc in bad)
flow_path old net i QueueDelay a b o e = absurd (let bad : ⊥ = cc in bad)
flow_path old net i QueueBacklog a b o e = absurd (let bad : ⊥ = cc in bad)
flow_path old net i HopDelay a b o e = absurd (let bad : ⊥ = cc in bad)
flow_path old net i ShiftOut a b o e = absurd (let bad : ⊥ = cc in bad)
flow_path old net i DeconvOut a b o e = absurd (let bad : ⊥ = cc in bad)
flow_path old net i Out a b o e = absurd (let bad : ⊥ = cc in bad)
flow_path old net i PathService a b o e = eqb-true a i e
flow_path old net i Tfa a b o e = eqb-true a i e
flow_path old net i Sfa a b o e = eqb-true a i e
flow_path old net i Bound a b o e = eqb-true a i e

pub server_flows : (net : Net) (s : ℕ) (marks : List Bool) (old : Net) → IsAccepted net → MarksPassing net s marks 256
    → MarksPaths (Server s) old net marks
server_flows net s marks old a passing c o e =
    let on = server_path net s c.kind c.a c.b o e in passing c.a (flow_number net c.a s a on) on

pub flow_flows : (i : ℕ) (marks : List Bool) (old net : Net) → is_marked marks i ≡ true → MarksPaths (Flow i) old net marks
flow_flows i marks old net on c o e =
    subst (λ (n : ℕ). is_marked marks n ≡ true) (sym (flow_path old net i c.kind c.a c.b o e)) on

-- ---- what a cell of a whole path is made of is of the same flow
of_pair : (c d e : Cell) (n : ℕ) → c.a ≡ n → d.a ≡ n → Has (c ∷ d ∷ []) e → e.a ≡ n
of_pair c d e n p q (inl is) = ap (λ (x : Cell). x.a) (sym is) ∙ p
of_pair c d e n p q (inr (inl is)) = ap (λ (x : Cell). x.a) (sym is) ∙ q
of_pair c d e n p q (inr (inr none)) = absurd none

of_hops : (kind : Kind) (i n : ℕ) (d : Cell) → Has (map (cell_of kind i) (range_with_len 0 n)) d → d.a ≡ i
of_hops kind i n d h =
    let found = map_has (cell_of kind i) (range_with_len 0 n) d h in ap (λ (x : Cell). x.a) (sym found.2)

path_leaf : (net : Net) (kind : Kind) (a b : ℕ) (d : Cell) → scope_of kind ≡ EachPath → Has (leaves (formula_of net kind a b)) d
    → d.a ≡ a
path_leaf net In a b d o h = absurd (let bad : ⊥ = cc in bad)
path_leaf net Cross a b d o h = absurd (let bad : ⊥ = cc in bad)
path_leaf net Total a b d o h = absurd (let bad : ⊥ = cc in bad)
path_leaf net Higher a b d o h = absurd (let bad : ⊥ = cc in bad)
path_leaf net QueueService a b d o h = absurd (let bad : ⊥ = cc in bad)
path_leaf net Theta a b d o h = absurd (let bad : ⊥ = cc in bad)
path_leaf net Residual a b d o h = absurd (let bad : ⊥ = cc in bad)
path_leaf net QueueDelay a b d o h = absurd (let bad : ⊥ = cc in bad)
path_leaf net QueueBacklog a b d o h = absurd (let bad : ⊥ = cc in bad)
path_leaf net HopDelay a b d o h = absurd (let bad : ⊥ = cc in bad)
path_leaf net ShiftOut a b d o h = absurd (let bad : ⊥ = cc in bad)
path_leaf net DeconvOut a b d o h = absurd (let bad : ⊥ = cc in bad)
path_leaf net Out a b d o h = absurd (let bad : ⊥ = cc in bad)
path_leaf net PathService a b d o h =
    of_hops Residual a (hops net a - 1 + 1) d (subst (λ (xs : List Cell). Has xs d) (served_leaves net a (hops net a - 1)) h)
path_leaf net Tfa a b d o h = of_hops HopDelay a (hops net a) d h
path_leaf net Sfa a b d o h = of_pair (cell_of In a 0) (cell_of PathService a 0) d a refl refl h
path_leaf net Bound a b d o h = of_pair (cell_of Tfa a 0) (cell_of Sfa a 0) d a refl refl h

-- ---- a flow that is not marked
touched_found : (old net : Net) (cells touched : List Cell) → TouchedOf old net cells touched → (c : Cell) → Has cells c
    → Touched old net c → Has touched c
touched_found old net _ _ no_more c h t = absurd h
touched_found old net _ _ (passed d cells touched u p) c (inl is) t =
    absurd (none_is_both old net c t (subst (λ (x : Cell). Untouched old net x) is u))
touched_found old net _ _ (passed d cells touched u p) c (inr h) t = touched_found old net cells touched p c h t
touched_found old net _ _ (taken d cells touched v p) c (inl is) t = inl is
touched_found old net _ _ (taken d cells touched v p) c (inr h) t = inr (touched_found old net cells touched p c h t)

none_of : {X : Type 0} (p : X → Bool) (xs : List X) → ((x : X) → Has xs x → p x ≡ false) → list_any p xs ≡ false
none_of p [] e = refl
none_of p (x ∷ xs) e = or_from (p x) (list_any p xs) (e x (inl refl)) (none_of p xs (λ y h. e y (inr h)))

module _ (site : Site) (old net : Net) (front cells : List Cell) (i : ℕ) (marks flags : List Bool) (touched : List Cell)
    (acc : IsAccepted net) (same : IsSameBut site old net) (stand : StandBehind net front cells) (within : i < length cells)
    (searched : IsSearched old net (front ++ take i cells) flags touched) (candidates : MarksPaths site old net marks)
    (own : MarksOwn touched marks) (whole_path : scope_of (cell_at cells i).kind ≡ EachPath)
    (off : is_marked marks (cell_at cells i).a ≡ false) where
  abbrev here : Cell
  here = cell_at cells i

  never : is_marked marks here.a ≡ true → ⊥
  never on = let bad : true ≡ false = sym on ∙ off in cc

  exists : has_cell net here ≡ true
  exists =
      in_front net stand.order (front ++ take i cells) here (drop (i + 1) cells ++ stand.back) (whole_at net front cells i stand within)

  no_candidate : (b : Bool) → is_candidate site old net here ≡ b → is_candidate site old net here ≡ false
  no_candidate true e = absurd (never (candidates here whole_path e))
  no_candidate false e = e

  not_flagged : (d : Cell) → Has (leaves (formula net here)) d → (b : Bool) → flag_of flags d ≡ b → flag_of flags d ≡ false
  not_flagged d h false e = e
  not_flagged d h true e =
      let m = has_contains (leaves (formula net here)) d h in
      let slot = slots_are_own.has net d acc (operands_are_cells net stand.order acc stand.servers here d exists m) in
      let before =
      leaf_in_front net stand.order (front ++ take i cells) here (drop (i + 1) cells ++ stand.back) d acc stand.servers
      (whole_at net front cells i stand within) h in
      let found = touched_found old net (front ++ take i cells) touched searched.list d before (searched.flags_are.touched d slot e) in
      absurd (never (subst (λ (n : ℕ). is_marked marks n ≡ true) (path_leaf net here.kind here.a here.b d whole_path h)
      (own d (has_contains touched d found))))

  pub unmarked_told : IsTold old net flags here false
  unmarked_told = (
    others_keep_their_rule site old net here same exists (no_candidate (is_candidate site old net here) refl),
    none_of (flag_of flags) (leaves (formula net here)) (λ d h. not_flagged d h (flag_of flags d) refl),
  )

-- ---- as loops go on
pub own_taken : (cells : List Cell) (i : ℕ) (marks : List Bool) → i < length cells → MarksOwn (take i cells) marks
    → MarksOwn (take (i + 1) cells) (slice_set marks (cell_at cells i).a true)
own_taken cells i marks h own d m =
    elim (has_either (take i cells) (cell_at cells i ∷ []) d
    (subst (λ (xs : List Cell). Has xs d) (take_more cells i no_cell h) (contains_has (take (i + 1) cells) d m))) [
      | inl l ↦ mark_kept marks (cell_at cells i).a d.a (own d (has_contains (take i cells) d l))
      | inr r ↦ last r
    ]
  where
    last : Has (cell_at cells i ∷ []) d → is_marked (slice_set marks (cell_at cells i).a true) d.a ≡ true
    last (inl is) =
        subst (λ (x : Cell). is_marked (slice_set marks (cell_at cells i).a true) x.a ≡ true) is (mark_here marks (cell_at cells i).a)
    last (inr none) = absurd none

pub passing_more : (net : Net) (s n : ℕ) (marks more : List Bool) → MarksPassing net s marks n → KeepsMarks marks more
    → (passes net n s ≡ true → is_marked more n ≡ true) → MarksPassing net s more (n + 1)
passing_more net s n marks more passing kept here i h on =
    elim (cases_lt i n) [
      | inl l ↦ kept i (passing i l on)
      | inr l ↦
          let same : n ≡ i = omega (arith, h, l) in
          subst (λ (k : ℕ). passes net k s ≡ true → is_marked more k ≡ true) same here on
    ]

pub own_more : (marks : List Bool) (c : Cell) (t : Bool) (flags more : List Bool) (touched longer : List Cell)
    → IsNoted c t flags more touched longer → is_marked marks c.a ≡ true → MarksOwn touched marks → MarksOwn longer marks
own_more marks c true flags more touched longer noted on own d m =
    elim (has_either touched (c ∷ []) d (subst (λ (xs : List Cell). Has xs d) noted.1 (contains_has longer d m))) [
      | inl l ↦ own d (has_contains touched d l)
      | inr r ↦ last r
    ]
  where
    last : Has (c ∷ []) d → is_marked marks d.a ≡ true
    last (inl is) = subst (λ (x : Cell). is_marked marks x.a ≡ true) is on
    last (inr none) = absurd none
own_more marks c false flags more touched longer noted on own d m =
    own d (subst (λ (xs : List Cell). Contains xs d) noted.1 m)

-- a cell that is looked at in a case
pub looked_here : (old net : Net) (marks : List Bool) (c : Cell) (flags more : List Bool) (touched longer : List Cell) (t : Bool)
    → is_marked marks c.a ≡ true → IsTold old net flags c t → IsNoted c t flags more touched longer
    → IsLookedAt old net marks c flags more touched longer
looked_here old net marks c flags more touched longer t on told noted = record { told = t; noted = noted; why = inl (on, told) }

module _ (site : Site) (old net : Net) (cells : List Cell) (i : ℕ) (marks flags more : List Bool) (touched longer : List Cell)
    (looked : IsLookedAt old net marks (cell_at cells i) flags more touched longer) (own : MarksOwn touched marks) where
  pub looked_own : MarksOwn longer marks
  looked_own = elim looked.why [
    | inl on ↦ own_more marks (cell_at cells i) looked.told flags more touched longer looked.noted on.0 own
    | inr off ↦
        let noted = subst (λ (t : Bool). IsNoted (cell_at cells i) t flags more touched longer) off.1 looked.noted in
        subst (λ (xs : List Cell). MarksOwn xs marks) (sym noted.1) own
  ]

  pub looked_searched : (front : List Cell) → IsAccepted net → IsSameBut site old net → StandBehind net front cells → i < length cells
      → MarksPaths site old net marks → scope_of (cell_at cells i).kind ≡ EachPath
      → IsSearched old net (front ++ take i cells) flags touched → IsSearched old net (front ++ take (i + 1) cells) more longer
  looked_searched front acc same stand within candidates of_path searched =
      searched_more old net front cells i flags more touched longer looked.told acc stand within told looked.noted searched
    where
      told : IsTold old net flags (cell_at cells i) looked.told
      told = elim looked.why [
        | inl on ↦ on.1
        | inr off ↦ subst (λ (t : Bool). IsTold old net flags (cell_at cells i) t) (sym off.1)
            (unmarked_told site old net front cells i marks flags touched acc same stand within searched candidates own of_path off.0)
      ]

-- the cells of whole paths are such
pub of_paths : (net : Net) → AreOfPaths (flat_map (path_cells net) path_kinds)
of_paths net c m =
    let kind = flat_has (path_cells net) path_kinds c (contains_has (flat_map (path_cells net) path_kinds) c m) in
    ap scope_of (path_have net kind.0 c kind.2).kind_is ∙ path_scope kind.0 kind.1
