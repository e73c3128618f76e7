-- Two networks have the same hops in a queue exactly where each flow has the same there.
use Rattle.std.proofs.Common.{◌≡◌, ◌≢◌, ℕ, zero, suc, ◌<◌, ◌≤◌, ◌+◌, ◌-◌, List, [], ◌∷◌, ◌++◌, length, map, refl, sym, ap, ap₂, ◌∙◌, subst, arith, inl, inr, Bool, append-nil}
use Rattle.std.specs.Prelude.{Option, Some, None}
use Rattle.std.specs.List.{filter, flat_map, range_with_len}
use Rattle.std.proofs.lemmas.Bool.{cases_lt}
use Rattle.std.proofs.lemmas.List.{get_or_past}
use Rattle.net_model.specs.Networks.{Net, NetFlow}
use Rattle.net_cells.specs.declared.cell.Cell.{Cell}
use Rattle.net_cells.specs.declared.cell.Kind.TheVariants.{In, Cross}
use Rattle.net_cells.specs.Numbered.{flow_at, path_of, server_of_hop, queue_of_hop}
use Rattle.net_cells.specs.declared.visit.Visit.{Visit}
use Rattle.net_cells.specs.Visits.{visit, visits_in, others, is_at, longest_of}
use Rattle.net_cells.specs.Order.{at_visit}
use Rattle.net_cells.specs.Formulas.{leaves}
use Rattle.net_cells.specs.CellFormulas.{sum_of_cells, sum_of_hops}
use Rattle.net_cells.proofs.Growing.{flat_more, flat_below}
use Rattle.net_cells.proofs.LeavesOf.{sum_leaves}
use Rattle.net_cells.proofs.Lists.{Has, map_has, filter_has, has_flat, flat_has, has_range}
use Rattle.cell_numbers.specs.declared.found.Pick.{Pick}
use Rattle.cell_numbers.specs.declared.found.Pick.TheVariants.{InQueue}
use Rattle.cell_numbers.specs.Chosen.{visit_list, picks, is_other, picked, chosen, flow_visits, all_chosen, all_picked}
use Rattle.cell_numbers.proofs.Choosing.{queue_visits, other_visits, picked_are, all_chosen_more}
use Rattle.cell_rules.specs.Rules.{TellsSame, TellsFormula, longest_meant}
use Rattle.cell_rules.proofs.Tells.{tells_by, tells_of}

-- ---- a list for each number
-- from a number on they are empty
abbrev pub IsBlankFrom : {Y : Type 0} → (ℕ → List Y) → ℕ → Type 0
IsBlankFrom f n = (i : ℕ) → n ≤ i → f i ≡ []

flat_cut : {Y : Type 0} (f : ℕ → List Y) (n k : ℕ) → IsBlankFrom f n
    → flat_map f (range_with_len 0 (n + k)) ≡ flat_map f (range_with_len 0 n)
flat_cut f n zero blank = let e : n + 0 ≡ n = omega arith in ap (λ m. flat_map f (range_with_len 0 m)) e
flat_cut f n (suc k) blank =
    let e : n + suc k ≡ n + k + 1 = omega arith in
    let l : n ≤ n + k = omega arith in
    ap (λ m. flat_map f (range_with_len 0 m)) e ∙ flat_more f (n + k)
    ∙ ap (λ ys. flat_map f (range_with_len 0 (n + k)) ++ ys) (blank (n + k) l)
    ∙ append-nil (flat_map f (range_with_len 0 (n + k))) ∙ flat_cut f n k blank

flat_to : {Y : Type 0} (f : ℕ → List Y) (n m : ℕ) → n ≤ m → IsBlankFrom f n
    → flat_map f (range_with_len 0 m) ≡ flat_map f (range_with_len 0 n)
flat_to f n m h blank =
    let e : m ≡ n + (m - n) = omega arith in
    ap (λ k. flat_map f (range_with_len 0 k)) e ∙ flat_cut f n (m - n) blank

pub same_flat : {Y : Type 0} (f g : ℕ → List Y) (n m most : ℕ) → n ≤ most → m ≤ most → IsBlankFrom f n → IsBlankFrom g m
    → ((i : ℕ) → i < most → f i ≡ g i) → flat_map f (range_with_len 0 n) ≡ flat_map g (range_with_len 0 m)
same_flat f g n m most h k blank bare same =
    sym (flat_to f n most h blank) ∙ flat_below f g most same ∙ flat_to g m most k bare

-- ---- of the hops of one flow
-- what the list of a number has is of the flow of that number
abbrev pub AreOwn : (ℕ → List Visit) → Type 0
AreOwn f = (i : ℕ) (v : Visit) → Has (f i) v → v.flow ≡ i

has_of : (f : ℕ → List Visit) (n j : ℕ) (v : Visit) → IsBlankFrom f n → Has (f j) v
    → Has (flat_map f (range_with_len 0 n)) v
has_of f n j v blank h =
    elim (cases_lt j n) [
      | inl l ↦ has_flat f (range_with_len 0 n) j v (has_range 0 n j (omega arith) (omega arith)) h
      | inr l ↦ absurd (subst (λ (vs : List Visit). Has vs v) (blank j l) h)
    ]

has_in : (g : ℕ → List Visit) (m : ℕ) (v : Visit) → AreOwn g → Has (flat_map g (range_with_len 0 m)) v → Has (g v.flow) v
has_in g m v own h =
    let found = flat_has g (range_with_len 0 m) v h in
    subst (λ i. Has (g i) v) (sym (own found.0 v found.2)) found.2

-- a hop of the one list is one of the other
across : (f g : ℕ → List Visit) (n m j k : ℕ) → IsBlankFrom f n → AreOwn g
    → flat_map f (range_with_len 0 n) ≡ flat_map g (range_with_len 0 m) → Has (f j) (visit j k) → Has (g j) (visit j k)
across f g n m j k blank own e h =
    has_in g m (visit j k) own (subst (λ (vs : List Visit). Has vs (visit j k)) e (has_of f n j (visit j k) blank h))

pub other_flat : (f g : ℕ → List Visit) (n m j : ℕ) (a b : Option ℕ) → IsBlankFrom f n → IsBlankFrom g m → AreOwn f → AreOwn g
    → f j ≡ visit_list j a → g j ≡ visit_list j b → a ≢ b
    → flat_map f (range_with_len 0 n) ≢ flat_map g (range_with_len 0 m)
other_flat f g n m j None None blank bare own its is are differ e = differ refl
other_flat f g n m j None (Some k) blank bare own its is are differ e =
    let there : Has (g j) (visit j k) = subst (λ (vs : List Visit). Has vs (visit j k)) (sym are) (inl refl) in
    let here : Has (f j) (visit j k) = across g f m n j k bare own (sym e) there in
    subst (λ (vs : List Visit). Has vs (visit j k)) is here
other_flat f g n m j (Some k) b blank bare own its is are differ e =
    let here : Has (f j) (visit j k) = subst (λ (vs : List Visit). Has vs (visit j k)) (sym is) (inl refl) in
    let there : Has (g j) (visit j k) = across f g n m j k blank its e here in
    one b (λ d. differ (sym d)) (subst (λ (vs : List Visit). Has vs (visit j k)) are there)
  where
    one : (o : Option ℕ) → o ≢ Some k → Has (visit_list j o) (visit j k) → ⊥
    one None not_it h = h
    one (Some i) not_it (inl same) = not_it (ap (λ (v : Visit). Some v.hop) same)
    one (Some i) not_it (inr h) = h

-- ---- those of a network
pub chosen_blank : (net : Net) (s : ℕ) (pick : Pick) (except : Option ℕ)
    → IsBlankFrom (chosen net s pick except) (length net.flows)
chosen_blank net s pick except i l =
    ap (λ (o : Option NetFlow). filter (is_other except) (filter (picks net pick)
    (filter (is_at net s) (map (visit i) (range_with_len 0 (length (path_of o))))))) (get_or_past net.flows i None l)

pub chosen_own : (net : Net) (s : ℕ) (pick : Pick) (except : Option ℕ) → AreOwn (chosen net s pick except)
chosen_own net s pick except i v h =
    let some = filter_has (is_other except) (picked net s pick i) v h in
    let among = filter_has (picks net pick) (flow_visits net s i) v some.0 in
    let here = filter_has (is_at net s) (map (visit i) (range_with_len 0 (length (path_of (flow_at net i))))) v among.0 in
    let hop = map_has (visit i) (range_with_len 0 (length (path_of (flow_at net i)))) v here.0 in
    sym (ap (λ (w : Visit). w.flow) hop.2)

-- ---- sums of their curves
pub same_visits : (xs ys : List Visit) → map (at_visit In) xs ≡ map (at_visit In) ys → xs ≡ ys
same_visits [] [] e = refl
same_visits [] (y ∷ ys) e = absurd (let bad : ⊥ = cc in bad)
same_visits (x ∷ xs) [] e = absurd (let bad : ⊥ = cc in bad)
same_visits (x ∷ xs) (y ∷ ys) e =
    let head : at_visit In x ≡ at_visit In y = cc in
    let rest : map (at_visit In) xs ≡ map (at_visit In) ys = cc in
    let first : x ≡ y = ap (λ (c : Cell). visit c.a c.b) head in
    ap₂ (λ z zs. z ∷ zs) first (same_visits xs ys rest)

pub tells_sum : (xs ys : List Visit) (b : Bool) → TellsSame xs ys b
    → TellsSame (sum_of_cells (map (at_visit In) xs)) (sum_of_cells (map (at_visit In) ys)) b
tells_sum xs ys b t =
    tells_by xs ys (sum_of_cells (map (at_visit In) xs)) (sum_of_cells (map (at_visit In) ys)) b
    (ap (λ vs. sum_of_cells (map (at_visit In) vs)))
    (λ e. same_visits xs ys
    (sym (sum_leaves (map (at_visit In) xs)) ∙ ap leaves e ∙ sum_leaves (map (at_visit In) ys))) t

-- of the other flows at a hop, and of all flows of a queue
pub cross_tells : (old new : Net) (i k s q t p : ℕ) (b : Bool) → s ≡ server_of_hop old i k → q ≡ queue_of_hop old i k
    → t ≡ server_of_hop new i k → p ≡ queue_of_hop new i k
    → TellsSame (all_chosen old s (InQueue q) (Some i) (length old.flows))
    (all_chosen new t (InQueue p) (Some i) (length new.flows)) b
    → TellsFormula old new Cross i k b
cross_tells old new i k s q t p b es eq et ep tells =
    tells_sum (others old i (server_of_hop old i k) (queue_of_hop old i k)) (others new i (server_of_hop new i k) (queue_of_hop new i k)) b
    (tells_of (all_chosen old s (InQueue q) (Some i) (length old.flows))
    (all_chosen new t (InQueue p) (Some i) (length new.flows))
    (others old i (server_of_hop old i k) (queue_of_hop old i k)) (others new i (server_of_hop new i k) (queue_of_hop new i k)) b
    (sym (other_visits old i s q) ∙ ap₂ (others old i) es eq) (sym (other_visits new i t p) ∙ ap₂ (others new i) et ep)
    tells)

pub total_tells : (old new : Net) (s q : ℕ) (b : Bool)
    → TellsSame (all_chosen old s (InQueue q) None (length old.flows)) (all_chosen new s (InQueue q) None (length new.flows)) b
    → TellsSame (sum_of_hops (visits_in old s q)) (sum_of_hops (visits_in new s q)) b
total_tells old new s q b tells =
    tells_sum (visits_in old s q) (visits_in new s q) b
    (tells_of (all_chosen old s (InQueue q) None (length old.flows)) (all_chosen new s (InQueue q) None (length new.flows))
    (visits_in old s q) (visits_in new s q) b (sym (queue_visits old s q)) (sym (queue_visits new s q)) tells)

-- ---- no hop
pub none_chosen : (net : Net) (s : ℕ) (pick : Pick) (n : ℕ) (o : Option ℕ) → all_chosen net s pick None n ≡ []
    → chosen net s pick None n ≡ visit_list n o → o ≡ None → all_chosen net s pick None (n + 1) ≡ []
none_chosen net s pick n o e f h =
    all_chosen_more net s pick None n ∙ ap₂ (λ (xs ys : List Visit). xs ++ ys) e (f ∙ ap (visit_list n) h)

pub some_chosen : (net : Net) (s : ℕ) (pick : Pick) (n : ℕ) (o : Option ℕ) → n < length net.flows
    → chosen net s pick None n ≡ visit_list n o → o ≢ None → all_chosen net s pick None (length net.flows) ≢ []
some_chosen net s pick n None l f h z = h refl
some_chosen net s pick n (Some k) l f h z =
    let there = subst (λ (vs : List Visit). Has vs (visit n k)) (sym f) (inl refl) in
    subst (λ (vs : List Visit). Has vs (visit n k)) z
    (has_flat (chosen net s pick None) (range_with_len 0 (length net.flows)) n (visit n k)
    (has_range 0 (length net.flows) n (omega arith) (omega arith)) there)

-- ---- their longest packets
pub longest_is : (net : Net) (s : ℕ) (pick : Pick) (n : ℕ) → n ≡ longest_of net (all_picked net s pick (length net.flows))
    → n ≡ longest_meant net s pick
longest_is net s pick n e = e ∙ sym (ap (longest_of net) (picked_are net s pick))
