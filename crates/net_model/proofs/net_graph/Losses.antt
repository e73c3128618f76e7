-- Lists lose placed servers at their end, and which servers then wait for a free one.
use Rattle.std.proofs.Common.{◌≡◌, ℕ, ◌<◌, ◌+◌, ◌-◌, List, [], ◌∷◌, ◌++◌, length, get_or, set, sym, ◌∙◌, ap, subst, arith, ◌⊎◌, inl, inr, Bool, true, false, Option, Some, None}
use Rattle.std.specs.Prelude.{Contains, slice_get}
use Rattle.std.specs.Option.{option_to_list}
use Rattle.std.specs.declared.vec.Vec.{Vec}
use Rattle.std.proofs.lemmas.Bool.{cases_eq, cases_lt}
use Rattle.std.proofs.lemmas.List.{append-nil, length-append, length-set, length-map, get_or_at, get_or_default, get_or_past}
use Rattle.std.proofs.lemmas.Option.{get_or_from_slice_get}
use Rattle.net_model.specs.net_graph.Waits.{lists_of, list_at, LosesPlaced, AllLosePlaced, AreBusy, IsPlaced, IsFree, EndsFree, IsFirstIdle}
use Rattle.net_model.proofs.net_graph.Members.{kept_left, pushed}
use Rattle.net_model.proofs.net_graph.ListSets.{lists_set, list_of, set_at, each_after_set}

-- a test that says placed or free
pub free_of : (placed : List Bool) (s : ℕ) → s < length placed → get_or placed s false ≡ false → IsFree placed s
free_of placed s h is = get_or_default placed s true false h ∙ is

pub not_both : (placed : List Bool) (s : ℕ) → IsPlaced placed s → ¬ (IsFree placed s)
not_both placed s p f =
    elim (cases_lt s (length placed)) [
      | inl h ↦ let e : true ≡ false = sym p ∙ get_or_default placed s false true h ∙ f in cc
      | inr h ↦ let e : false ≡ true = sym (get_or_past placed s false h) ∙ p in cc
    ]

-- ---- one list
pub loses_twice : (placed : List Bool) (old now next : List ℕ) → LosesPlaced placed old now → LosesPlaced placed now next → LosesPlaced placed old next
loses_twice placed old now next f g = record {
  only = λ a c. f.only a (g.only a c);
  lost = λ a c. elim (f.lost a c) [ inl m ↦ g.lost a m | inr p ↦ inr p ];
}

-- the last one is taken off
pub loses_last : (placed : List Bool) (old now next : List ℕ) (r : Option ℕ) (last : ℕ) → now ≡ next ++ option_to_list r
    → slice_get now (length now - 1) ≡ Some last → IsPlaced placed last → LosesPlaced placed old now → LosesPlaced placed old next
loses_last placed old now next None last is found p l =
    let P : List ℕ → Type 0 = λ xs. LosesPlaced placed old xs in
    subst P (is ∙ append-nil next) l
loses_last placed old now next (Some x) last is found p l = loses_twice placed old now next l record {
  only = λ a c. let P : List ℕ → Type 0 = λ xs. Contains xs a in subst P (sym is) (kept_left next (x ∷ []) a c);
  lost = known;
}
  where
    same : x ≡ last
    same =
        let count = ap length is ∙ length-append next (x ∷ []) in
        let at : length next ≡ length now - 1 = omega (arith, count) in
        sym (get_or_at next x [] 0 (length now - 1) at) ∙ ap (λ xs. get_or xs (length now - 1) 0) (sym is)
        ∙ get_or_from_slice_get now (length now - 1) last 0 found

    known : (a : ℕ) → Contains now a → Contains next a ⊎ IsPlaced placed a
    known a m =
        let P : List ℕ → Type 0 = λ xs. Contains xs a in
        let Q : ℕ → Type 0 = λ s. IsPlaced placed s in
        elim (pushed next x a (subst P is m)) [ inl n ↦ inl n | inr e ↦ inr (subst Q (sym (e ∙ same)) p) ]

-- ---- all lists
pub set_loses : {Z : Type 0} (placed : List Bool) (old : List (List ℕ)) (now : List (Vec ℕ Z)) (i : ℕ) (v w : Vec ℕ Z) → i < length now
    → v ≡ get_or now i v → AllLosePlaced placed old (lists_of now) → LosesPlaced placed v.items w.items
    → AllLosePlaced placed old (lists_of (set now i w))
set_loses placed old now i v w h is all one =
    let listed : i < length (lists_of now) = rw length-map h in
    let P : List (List ℕ) → Type 0 = λ ls. AllLosePlaced placed old ls in
    let Q : List ℕ → Type 0 = λ l. LosesPlaced placed (list_at old i) l in
    let first = subst Q (list_of now i v h is) (all.each i) in
    subst P (sym (lists_set now i w)) record {
      count = length-set (lists_of now) i w.items ∙ all.count;
      each = each_after_set (λ j l. LosesPlaced placed (list_at old j) l) (lists_of now) i w.items listed
          (loses_twice placed (list_at old i) v.items w.items first one) (λ j e. all.each j);
    }

pub set_busy : {Z : Type 0} (placed : List Bool) (now : List (Vec ℕ Z)) (i : ℕ) (w : Vec ℕ Z) → i < length now → AreBusy placed (lists_of now) i
    → EndsFree placed w.items → AreBusy placed (lists_of (set now i w)) (i + 1)
set_busy placed now i w h busy new =
    let listed : i < length (lists_of now) = rw length-map h in
    let P : List (List ℕ) → Type 0 = λ ls. AreBusy placed ls (i + 1) in
    subst P (sym (lists_set now i w))
    (λ s below. each_after_set (λ j l. j < i + 1 → IsFree placed j → EndsFree placed l) (lists_of now) i w.items listed
    (λ m f. new) (λ j e m f. busy j (omega arith) f) s below)

pub set_idle : {Z : Type 0} (placed : List Bool) (now : List (Vec ℕ Z)) (i : ℕ) (w : Vec ℕ Z) → i < length now → AreBusy placed (lists_of now) i
    → IsFree placed i → w.items ≡ [] → IsFirstIdle placed (lists_of (set now i w)) i
set_idle placed now i w h busy free none =
    let listed : i < length (lists_of now) = rw length-map h in
    let P : List (List ℕ) → Type 0 = λ ls. IsFirstIdle placed ls i in
    let count = length-set (lists_of now) i w.items in
    subst P (sym (lists_set now i w)) record {
      within = omega (arith, count, listed);
      free = free;
      idle = set_at (lists_of now) i w.items listed ∙ none;
      first = λ s below. each_after_set (λ j l. j < i → IsFree placed j → EndsFree placed l) (lists_of now) i w.items listed
          (λ m f. absurd (omega arith)) (λ j e m f. busy j m f) s below;
    }

pub placed_is_busy : (placed : List Bool) (lists : List (List ℕ)) (i : ℕ) → AreBusy placed lists i → IsPlaced placed i → AreBusy placed lists (i + 1)
placed_is_busy placed lists i busy p s below free =
    elim (cases_eq s i) [
      | inl e ↦ let P : ℕ → Type 0 = λ k. IsFree placed k in absurd (not_both placed i p (subst P e free))
      | inr e ↦ busy s (omega arith) free
    ]
