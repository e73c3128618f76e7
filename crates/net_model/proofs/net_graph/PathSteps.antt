-- The steps of a path, one hop after the other.
use Rattle.std.proofs.Common.{◌≡◌, ℕ, suc, ◌<◌, ◌≤◌, ◌+◌, ◌-◌, List, [], ◌∷◌, ◌++◌, length, get_or, set, take, sym, ◌∙◌, ap, subst, arith, ◌⊎◌, inl, inr, get_or-take}
use Rattle.std.specs.Prelude.{Contains}
use Rattle.std.specs.declared.vec.Vec.{Vec}
use Rattle.std.proofs.lemmas.Bool.{cases_lt}
use Rattle.std.proofs.lemmas.List.{length-set, length-take-le, length-map}
use Rattle.net_model.specs.Walks.{IsStep}
use Rattle.net_model.specs.net_graph.Waits.{lists_of, list_at, AddsSteps}
use Rattle.net_model.proofs.net_graph.Members.{kept_left, kept_last, pushed}
use Rattle.net_model.proofs.net_graph.ListSets.{lists_set, list_of, each_after_set}

-- a step of the front is one of the path
front_step : (path : List ℕ) (h a b : ℕ) → h < length path → IsStep (take h path) a b → IsStep (take (h + 1) path) a b
front_step path h a b within s =
    let few : length (take h path) ≡ h = length-take-le h path (omega arith) in
    let more : length (take (h + 1) path) ≡ h + 1 = length-take-le (h + 1) path (omega arith) in
    let early : suc s.hop < h = omega (arith, s.on_path) in
    record {
      hop = s.hop;
      on_path = omega (arith, early);
      from = get_or-take (h + 1) path s.hop 0 (omega (arith, early)) ∙ sym (get_or-take h path s.hop 0 (omega (arith, early))) ∙ s.from;
      to = get_or-take (h + 1) path (suc s.hop) 0 (omega (arith, early)) ∙ sym (get_or-take h path (suc s.hop) 0 early) ∙ s.to;
    }

-- the last step of the front
last_step : (path : List ℕ) (h : ℕ) → 1 ≤ h → h < length path → IsStep (take (h + 1) path) (get_or path (h - 1) 0) (get_or path h 0)
last_step path h some within =
    let more : length (take (h + 1) path) ≡ h + 1 = length-take-le (h + 1) path (omega arith) in
    let next : suc (h - 1) ≡ h = omega arith in
    record {
      hop = h - 1;
      on_path = omega arith;
      from = get_or-take (h + 1) path (h - 1) 0 (omega arith);
      to = get_or-take (h + 1) path (suc (h - 1)) 0 (omega arith) ∙ ap (λ k. get_or path k 0) next;
    }

-- a step of the front with one place more is the last one, or one of the front
step_cases : (path : List ℕ) (h a b : ℕ) → 1 ≤ h → h < length path → IsStep (take (h + 1) path) a b
    → IsStep (take h path) a b ⊎ ((a ≡ get_or path (h - 1) 0) × (b ≡ get_or path h 0))
step_cases path h a b some within s =
    let few : length (take h path) ≡ h = length-take-le h path (omega arith) in
    let more : length (take (h + 1) path) ≡ h + 1 = length-take-le (h + 1) path (omega arith) in
    let from : get_or path s.hop 0 ≡ a = sym (get_or-take (h + 1) path s.hop 0 (omega (arith, s.on_path))) ∙ s.from in
    let to : get_or path (suc s.hop) 0 ≡ b = sym (get_or-take (h + 1) path (suc s.hop) 0 (omega (arith, s.on_path))) ∙ s.to in
    elim (cases_lt (suc s.hop) h) [
      | inl early ↦ inl record {
        hop = s.hop;
        on_path = omega arith;
        from = get_or-take h path s.hop 0 (omega arith) ∙ from;
        to = get_or-take h path (suc s.hop) 0 early ∙ to;
      }
      | inr late ↦
          let last : s.hop ≡ h - 1 = omega (arith, s.on_path) in
          let next : suc s.hop ≡ h = omega (arith, s.on_path) in
          inr (sym from ∙ ap (λ k. get_or path k 0) last, sym to ∙ ap (λ k. get_or path k 0) next)
    ]

more_steps : (old now : List (List ℕ)) (path : List ℕ) (h : ℕ) → 1 ≤ h → h < length path → get_or path h 0 < length now
    → AddsSteps old now (take h path)
    → AddsSteps old (set now (get_or path h 0) (list_at now (get_or path h 0) ++ get_or path (h - 1) 0 ∷ [])) (take (h + 1) path)
more_steps old now path h some within listed so_far = record {
  count = length-set now to new ∙ so_far.count;
  only = λ a b. each_after_set (λ j l. Contains l a → Contains (list_at old j) a ⊎ IsStep (take (h + 1) path) a j) now to new listed
      (λ c. elim (pushed (list_at now to) from a c) [ inl m ↦ known a to m | inr e ↦ inr (newest a e) ]) (λ j e c. known a j c) b;
  keeps = λ a b c. kept a b (so_far.keeps a b c);
  adds = λ a b s. elim (step_cases path h a b some within s) [ inl t ↦ kept a b (so_far.adds a b t) | inr e ↦ placed a b e.0 e.1 ];
}
  where
    from : ℕ
    from = get_or path (h - 1) 0

    to : ℕ
    to = get_or path h 0

    new : List ℕ
    new = list_at now to ++ from ∷ []

    known : (a b : ℕ) → Contains (list_at now b) a → Contains (list_at old b) a ⊎ IsStep (take (h + 1) path) a b
    known a b c = elim (so_far.only a b c) [ inl m ↦ inl m | inr s ↦ inr (front_step path h a b within s) ]

    newest : (a : ℕ) → a ≡ from → IsStep (take (h + 1) path) a to
    newest a e = let P : ℕ → Type 0 = λ x. IsStep (take (h + 1) path) x to in subst P (sym e) (last_step path h some within)

    kept : (a b : ℕ) → Contains (list_at now b) a → Contains (list_at (set now to new) b) a
    kept a b c = each_after_set (λ j l. Contains (list_at now j) a → Contains l a) now to new listed
        (λ m. kept_left (list_at now to) (from ∷ []) a m) (λ j e m. m) b c

    placed : (a b : ℕ) → a ≡ from → b ≡ to → Contains (list_at (set now to new) b) a
    placed a b e f =
        let P : ℕ → Type 0 = λ x. Contains (list_at (set now to new) b) x in
        subst P (sym e) (each_after_set (λ j l. j ≡ to → Contains l from) now to new listed
        (λ g. kept_last (list_at now to) from) (λ j g k. absurd (g k)) b f)

-- the same of stored lists
pub stored_steps : {Z : Type 0} (old : List (List ℕ)) (now : List (Vec ℕ Z)) (v w : Vec ℕ Z) (path : List ℕ) (h : ℕ) → 1 ≤ h
    → h < length path → get_or path h 0 < length now → v ≡ get_or now (get_or path h 0) v
    → w.items ≡ v.items ++ get_or path (h - 1) 0 ∷ [] → AddsSteps old (lists_of now) (take h path)
    → AddsSteps old (lists_of (set now (get_or path h 0) w)) (take (h + 1) path)
stored_steps old now v w path h some within listed is pushes so_far =
    let P : List (List ℕ) → Type 0 = λ ls. AddsSteps old ls (take (h + 1) path) in
    let to = get_or path h 0 in
    let has : length (lists_of now) ≡ length now = length-map now (λ x. x.items) in
    let same : set (lists_of now) to (list_at (lists_of now) to ++ get_or path (h - 1) 0 ∷ []) ≡ lists_of (set now to w) =
    ap (λ l. set (lists_of now) to (l ++ get_or path (h - 1) 0 ∷ [])) (list_of now to v listed is) ∙ ap (λ l. set (lists_of now) to l) (sym pushes) ∙ sym (lists_set now to w) in
    subst P same (more_steps old (lists_of now) path h some within (omega (arith, has, listed)) so_far)
