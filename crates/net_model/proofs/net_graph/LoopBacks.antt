-- A walk backwards among servers each of which waits for another one of them.
use Rattle.std.proofs.Common.{◌≡◌, ℕ, zero, suc, ◌<◌, ◌+◌, List, [], ◌∷◌, ◌++◌, length, get_or, take, drop, refl, sym, ◌∙◌, ap, subst, arith, inl, inr, Bool, true, Some, nat_eq, append_assoc, length-append, length-drop, take-append-drop}
use Rattle.std.specs.Prelude.{All, Contains, Option, None, MatchOption}
use Rattle.std.proofs.lemmas.Bool.{cases_lt}
use Rattle.std.specs.List.{IsDistinct, list_any}
use Rattle.std.proofs.lemmas.List.{drop_more, get_or_at, get_or_append_left, get_or_default}
use Rattle.std.proofs.lemmas.Cmp.{nat_eq_equiv}
use Rattle.std.proofs.lemmas.Map.Keys.{IsDistinct-push, IsDistinct-tail}
use Rattle.std.proofs.lemmas.Map.Steps.{length-le_from_distinct_below}
use Rattle.net_model.specs.Walks.{Chain, IsBehind, IsRingBefore}
use Rattle.net_model.specs.net_graph.Loops.{IsAwaited, IsFirstAwaited, AreFirsts, IsFirst, WaitsFor, FirstIsInside, IsTrap, IsLoopBack, IsFromLeast}
use Rattle.net_model.proofs.net_graph.Members.{at_place, is_member, no_member, pushed, kept_left, kept_last, all_contains}
use Rattle.net_model.proofs.net_graph.Chains.{joined, rest_of}
use Rattle.net_model.proofs.net_graph.Behind.{one_more}
use Rattle.run_laws.specs.Members.{Has}
use Rattle.run_laws.proofs.Members.{contains_has, has_contains}
use Rattle.net_model.proofs.net_graph.Rings.{IsRingAt, ring_at}

-- so far: the servers that were passed, each of which waits for the next, and the one that was come to
pub record Walked (firsts : List (Option ℕ)) (start : ℕ) (seen : List ℕ) (at : ℕ) : Type 0 where
  pub inside : ℕ → Bool
  pub here : inside at ≡ true
  pub passed : All (λ s. inside s ≡ true) seen
  pub goes : (server : ℕ) → inside server ≡ true → FirstIsInside inside firsts server
  pub waits : Chain (WaitsFor firsts) (seen ++ at ∷ [])
  pub once : IsDistinct nat_eq seen
  pub comes : (server : ℕ) → Contains (seen ++ at ∷ []) server → (steps : ℕ) × IsBehind (IsFirst firsts) steps server start

pub no_server_yet : (firsts : List (Option ℕ)) (start : ℕ) → IsTrap firsts start → Walked firsts start [] start
unfolding IsDistinct
no_server_yet firsts start t = record {
  inside = t.inside;
  here = t.begins;
  passed = λ k d h. absurd (omega (arith, h));
  goes = t.waits;
  waits = tt;
  once = tt;
  comes = λ server c. elim (pushed [] start server c) [ inl m ↦ absurd (omega (arith, m.1)) | inr e ↦ (0, e) ];
}

inside_of : (firsts : List (Option ℕ)) (start : ℕ) (seen : List ℕ) (at : ℕ) → (w : Walked firsts start seen at) → (q : ℕ) → Contains (seen ++ at ∷ []) q → w.inside q ≡ true
inside_of firsts start seen at w q c =
    elim (pushed seen at q c) [
      | inl m ↦ all_contains (λ s. w.inside s ≡ true) seen q w.passed m
      | inr e ↦ ap w.inside e ∙ w.here
    ]

pub goes_on : (firsts : List (Option ℕ)) (start : ℕ) (seen : List ℕ) (at next : ℕ) → Walked firsts start seen at → ¬ (Contains seen at)
    → get_or firsts at None ≡ Some next → Walked firsts start (seen ++ at ∷ []) next
goes_on firsts start seen at next w new is =
    let l = w.goes at w.here in
    let same : l.first ≡ next = let e : Some l.first ≡ Some next = sym l.is ∙ is in cc in
    let P : List ℕ → Type 0 = λ zs. Chain (WaitsFor firsts) zs in
    record {
      inside = w.inside;
      here = ap w.inside (sym same) ∙ l.within;
      passed = λ k d h. inside_of firsts start seen at w (get_or (seen ++ at ∷ []) k d) (k, h, get_or_default _ k _ d h);
      goes = w.goes;
      waits = subst P (sym (append_assoc seen (at ∷ []) (next ∷ [])))
          (joined (WaitsFor firsts) seen at (next ∷ []) w.waits (is, tt));
      once = IsDistinct-push nat_eq_equiv seen at w.once (no_member seen at new);
      comes = λ server c. elim (pushed (seen ++ at ∷ []) next server c) [ inl m ↦ w.comes server m | inr e ↦ to_next server e ];
    }
  where
    to_next : (server : ℕ) → server ≡ next → (steps : ℕ) × IsBehind (IsFirst firsts) steps server start
    to_next server e =
        let before = w.comes at (kept_last seen at) in
        let P : ℕ → Type 0 = λ s. IsBehind (IsFirst firsts) (suc before.0) s start in
        (suc before.0, subst P (sym e) (one_more (IsFirst firsts) before.0 next at start is before.1))

-- so there is a place for one more
pub leaves_room : (firsts : List (Option ℕ)) (start : ℕ) (seen : List ℕ) (at : ℕ) → Walked firsts start seen at → ¬ (Contains seen at) → length seen < length firsts
leaves_room firsts start seen at w new =
    let below : (q : ℕ) → list_any (nat_eq q) (seen ++ at ∷ []) ≡ true → q < length firsts =
    λ q m. (w.goes q (inside_of firsts start seen at w q (is_member (seen ++ at ∷ []) q m))).listed in
    let few = length-le_from_distinct_below (seen ++ at ∷ []) (length firsts) (IsDistinct-push nat_eq_equiv seen at w.once (no_member seen at new)) below in
    let count = length-append seen (at ∷ []) in
    omega (arith, few, count)

distinct_drop : (k : ℕ) (xs : List ℕ) → IsDistinct nat_eq xs → IsDistinct nat_eq (drop k xs)
distinct_drop zero xs d = d
distinct_drop (suc k) [] d = d
distinct_drop (suc k) (x ∷ xs) d = distinct_drop k xs (IsDistinct-tail nat_eq x xs d)

in_drop : (k : ℕ) (xs : List ℕ) (x : ℕ) → Contains (drop k xs) x → Contains xs x
in_drop k xs x c = has_contains xs x (dropped k xs (contains_has (drop k xs) x c))
  where
    dropped : (j : ℕ) (ys : List ℕ) → Has (drop j ys) x → Has ys x
    dropped zero ys m = m
    dropped (suc j) [] m = m
    dropped (suc j) (y ∷ ys) m = inr (dropped j ys m)

pub comes_back : (firsts : List (Option ℕ)) (start : ℕ) (seen : List ℕ) (at place : ℕ) → Walked firsts start seen at → place < length seen → get_or seen place 0 ≡ at
    → IsLoopBack firsts start (drop place seen)
comes_back firsts start seen at place w within is =
    let rest = drop (place + 1) seen in
    let shape : drop place seen ≡ at ∷ rest = drop_more seen place 0 within ∙ ap (λ x. x ∷ rest) is in
    let P : List ℕ → Type 0 = λ zs. Chain (WaitsFor firsts) zs in
    let Q : List ℕ → Type 0 = λ zs. Chain (WaitsFor firsts) (zs ++ get_or zs 0 0 ∷ []) in
    let whole : seen ++ at ∷ [] ≡ take place seen ++ at ∷ (rest ++ at ∷ []) =
    ap (λ zs. zs ++ at ∷ []) (sym (take-append-drop place seen) ∙ ap (λ zs. take place seen ++ zs) shape)
    ∙ append_assoc (take place seen) (at ∷ rest) (at ∷ []) in
    record {
      some = let count = length-drop place seen in omega (arith, within, count);
      waits = subst Q (sym shape) (rest_of (WaitsFor firsts) (take place seen) at (rest ++ at ∷ []) (subst P whole w.waits));
      once = distinct_drop place seen w.once;
      comes = λ server c. w.comes server (kept_left seen (at ∷ []) server (in_drop place seen server c));
    }

-- the first of one server more
pub one_first_more : (placed : List Bool) (lists : List (List ℕ)) (firsts : List (Option ℕ)) (n : ℕ) (o : Option ℕ) → length firsts ≡ n
    → AreFirsts placed lists firsts
    → MatchOption o ((a : ℕ) → ¬ (IsAwaited placed lists n a)) (λ a. IsFirstAwaited placed lists a n)
    → AreFirsts placed lists (firsts ++ o ∷ [])
one_first_more placed lists firsts n o many are new b h =
    let count = length-append firsts (o ∷ []) in
    let P : ℕ → Option ℕ → Type 0 = λ k x. MatchOption x ((a : ℕ) → ¬ (IsAwaited placed lists k a)) (λ a. IsFirstAwaited placed lists a k) in
    elim (cases_lt b (length firsts)) [
      | inl l ↦ subst (P b) (sym (get_or_append_left firsts (o ∷ []) None b l)) (are b l)
      | inr l ↦
          let last : length firsts ≡ b = omega (arith, l, h, count) in
          let Q : ℕ → Type 0 = λ k. P k o in
          subst (P b) (sym (get_or_at firsts o [] None b last)) (subst Q (sym many ∙ last) new)
    ]

-- turned round it is a ring
pub ring_of : (firsts : List (Option ℕ)) (start : ℕ) (servers walk : List ℕ) → IsLoopBack firsts start servers → IsFromLeast servers walk
    → IsRingBefore (λ s. s ≡ start) (IsFirst firsts) walk
ring_of firsts start servers walk b f =
    let P : List ℕ → Type 0 = λ zs. IsRingAt (IsFirst firsts) (get_or servers f.place 0) zs in
    let ring = subst P (sym f.is) (ring_at (IsFirst firsts) servers f.place f.least.within b.waits b.once f.least.least) in
    let way = b.comes (get_or servers f.place 0) (at_place servers f.place (get_or servers f.place 0) f.least.within refl) in
    let Q : ℕ → Type 0 = λ s. IsBehind (IsFirst firsts) way.0 s start in
    record {
      ring = ring.0;
      from = start;
      is_least = record { meets = refl; least = λ i h e. omega (arith, h, e) };
      steps = way.0;
      comes = subst Q (sym ring.1) way.1;
    }
