-- Trees that are kept of paths: the first port of a path, and each one behind it.
use Rattle.std.proofs.Common.{◌≡◌, ℕ, ◌+◌, ◌==◌, Bool, true, false, cond, List, [], ◌∷◌, ◌++◌, Option, Some, None, Ok, Err, refl, sym, ap, subst, ◌∙◌, ⊎_elim, inl, inr, ◌⊎◌}
use Rattle.std.specs.List.{list_any}
use Rattle.std.proofs.lemmas.Bool.{eq-eqb}
use Rattle.document_rows.specs.declared.fault.Wrong.TheVariants.{BeginsElsewhere, AfterAnother}
use Rattle.document_tables.specs.Trees.{same, comes_after, begins_elsewhere, comes_otherwise, last_of, hangs, comes, AreKept}
use Rattle.document_tables.proofs.TreeFacts.{clash, some_none, inside, number, equal, any_split, any_left, any_right, any_map, ext_split, ext_left, ext_right, on_path, to_other, none_otherwise, elsewhere, none_elsewhere, any_begun}

-- a port hangs there, and the tree with it is kept
abbrev pub Hung : List (List ℕ) → (place : ℕ) → (after : Option ℕ) → (port : ℕ) → List ℕ → (ℕ → Option (Option ℕ)) → Option ℕ → Type 0
Hung paths place after port path kept root = (hangs paths place after port ≡ Ok (Some port)) × AreKept (paths ++ path ∷ []) kept root

-- ---- the first port
one : (p : ℕ) (x : Option ℕ) (port : ℕ) → comes_after p x None (port ∷ []) ≡ true → (port ≡ p) × (None ≡ x)
unfolding comes_after
one p x port h = ⊎_elim (λ a. absurd (clash false a refl)) (λ b. b) (ext_split p x None [] port h)

only : (port : ℕ) → comes_after port None None (port ∷ []) ≡ true
only port = ext_right None [] port

pub begin_same : (paths : List (List ℕ)) (kept : ℕ → Option (Option ℕ)) (root : Option ℕ) (place port : ℕ) → AreKept paths kept root → root ≡ Some port → Hung paths place None port (port ∷ []) kept root
begin_same paths kept root place port k r =
    let at : kept port ≡ Some None = k.all port None (k.root_held port r) in (
      let none = none_elsewhere port paths (λ q h. number q port (sym (k.root_all q h) ∙ r)) in rw none refl,
      record {
        held = λ p x h. any_left (comes_after p x None) paths (port ∷ []) (k.held p x h);
        all = λ p x h. ⊎_elim (λ a. k.all p x a) (λ b. let o = one p x port b in subst (λ q. kept q ≡ Some x) o.0 (at ∙ ap Some o.1)) (any_split (comes_after p x None) paths (port ∷ []) h);
        root_held = λ q h. any_left (comes_after q None None) paths (port ∷ []) (k.root_held q h);
        root_all = λ q h. ⊎_elim (λ a. k.root_all q a) (λ b. r ∙ ap Some (one q None port b).0) (any_split (comes_after q None None) paths (port ∷ []) h);
      },
    )

pub begin_new : (paths : List (List ℕ)) (kept next : ℕ → Option (Option ℕ)) (root : Option ℕ) (place port : ℕ) → AreKept paths kept root → root ≡ None
    → ((q : ℕ) → next q ≡ cond (port == q) (Some None) (kept q)) → Hung paths place None port (port ∷ []) next (Some port)
begin_new paths kept next root place port k r new =
    let nobody : (q : ℕ) → comes paths q None ≡ true → ⊥ = λ q h. some_none q (sym r ∙ k.root_all q h) in
    let nothing : (p : ℕ) (x : Option ℕ) → comes paths p x ≡ true → ⊥ = λ p x h. let b = any_begun p x paths h in nobody b.0 b.1 in
    let all_paths = paths ++ (port ∷ []) ∷ [] in (
      let none = none_elsewhere port paths (λ q h. absurd (nobody q h)) in rw none refl,
      record {
        held = λ p x h. new_held p x (port == p) refl (sym (new p) ∙ h);
        all = λ p x h. ⊎_elim (λ a. absurd (nothing p x a)) (λ b. let o = one p x port b in new p ∙ (ap (λ t. cond t (Some None) (kept p)) (eq-eqb port p o.0) ∙ ap Some o.1))
            (any_split (comes_after p x None) paths (port ∷ []) h);
        root_held = λ q h. subst (λ z. comes all_paths z None ≡ true) (number port q h) (any_right (comes_after port None None) paths (port ∷ []) (only port));
        root_all = λ q h. ⊎_elim (λ a. absurd (nobody q a)) (λ b. ap Some (one q None port b).0) (any_split (comes_after q None None) paths (port ∷ []) h);
      },
    )
  where
    new_held : (p : ℕ) (x : Option ℕ) (t : Bool) → (port == p) ≡ t → cond t (Some None) (kept p) ≡ Some x → comes (paths ++ (port ∷ []) ∷ []) p x ≡ true
    new_held p x true e h =
        subst (λ z. comes (paths ++ (port ∷ []) ∷ []) z x ≡ true) (equal port p e)
        (subst (λ y. comes (paths ++ (port ∷ []) ∷ []) port y ≡ true) (inside None x h) (any_right (comes_after port None None) paths (port ∷ []) (only port)))
    new_held p x false e h = any_left (comes_after p x None) paths (port ∷ []) (k.held p x h)

pub begin_other : (paths : List (List ℕ)) (kept : ℕ → Option (Option ℕ)) (root : Option ℕ) (place port r : ℕ) → AreKept paths kept root → root ≡ Some r → (r == port) ≡ false
    → hangs paths place None port ≡ Err BeginsElsewhere
begin_other paths kept root place port r k e d =
    let there = any_map (comes_after r None None) (begins_elsewhere port) paths (λ path h. elsewhere r port path d h) (k.root_held r e) in rw there refl

-- ---- a port behind another one
module _ (paths : List (List ℕ)) (path : List ℕ) (port : ℕ) where
  longer : (p : ℕ) (x : Option ℕ) → comes (paths ++ path ∷ []) p x ≡ true → comes (paths ++ (path ++ port ∷ []) ∷ []) p x ≡ true
  longer p x h =
      ⊎_elim (λ a. any_left (comes_after p x None) paths (path ++ port ∷ []) a) (λ b. any_right (comes_after p x None) paths (path ++ port ∷ []) (ext_left p x None path port b))
      (any_split (comes_after p x None) paths path h)

  shorter : (p : ℕ) (x : Option ℕ) → comes (paths ++ (path ++ port ∷ []) ∷ []) p x ≡ true → (comes (paths ++ path ∷ []) p x ≡ true) ⊎ ((port ≡ p) × (last_of None path ≡ x))
  shorter p x h =
      ⊎_elim (λ a. inl (any_left (comes_after p x None) paths path a))
      (λ b. ⊎_elim (λ c. inl (any_right (comes_after p x None) paths path c)) (λ d. inr d) (ext_split p x None path port b))
      (any_split (comes_after p x None) paths (path ++ port ∷ []) h)

  added : (last : Option ℕ) → last_of None path ≡ last → comes (paths ++ (path ++ port ∷ []) ∷ []) port last ≡ true
  added last e = any_right (comes_after port last None) paths (path ++ port ∷ []) (subst (λ x. comes_after port x None (path ++ port ∷ []) ≡ true) e (ext_right None path port))

  no_root : (after q : ℕ) → last_of None path ≡ Some after → last_of None path ≡ None → ⊥
  no_root after q e n = some_none after (sym n ∙ e)

pub step_same : (paths : List (List ℕ)) (path : List ℕ) (kept : ℕ → Option (Option ℕ)) (root : Option ℕ) (place after port : ℕ) → AreKept (paths ++ path ∷ []) kept root
    → last_of None path ≡ Some after → kept port ≡ Some (Some after) → Hung paths place (Some after) port (path ++ port ∷ []) kept root
step_same paths path kept root place after port k last at = (
  let none = none_otherwise port (Some after) paths (λ x h. inside x (Some after) (sym (k.all port x (any_left (comes_after port x None) paths path h)) ∙ at)) in rw none refl,
  record {
    held = λ p x h. longer paths path port p x (k.held p x h);
    all = λ p x h. ⊎_elim (λ a. k.all p x a) (λ b. subst (λ q. kept q ≡ Some x) b.0 (at ∙ ap Some (sym last ∙ b.1))) (shorter paths path port p x h);
    root_held = λ q h. longer paths path port q None (k.root_held q h);
    root_all = λ q h. ⊎_elim (λ a. k.root_all q a) (λ b. absurd (no_root paths path port after q last b.1)) (shorter paths path port q None h);
  },
)

pub step_new : (paths : List (List ℕ)) (path : List ℕ) (kept next : ℕ → Option (Option ℕ)) (root : Option ℕ) (place after port : ℕ) → AreKept (paths ++ path ∷ []) kept root
    → last_of None path ≡ Some after → kept port ≡ None → ((q : ℕ) → next q ≡ cond (port == q) (Some (Some after)) (kept q)) → Hung paths place (Some after) port (path ++ port ∷ []) next root
step_new paths path kept next root place after port k last at new =
    let nothing : (x : Option ℕ) → comes (paths ++ path ∷ []) port x ≡ true → ⊥ = λ x h. some_none x (sym at ∙ k.all port x h) in (
      let none = none_otherwise port (Some after) paths (λ x h. absurd (nothing x (any_left (comes_after port x None) paths path h))) in rw none refl,
      record {
        held = λ p x h. new_held p x (port == p) refl (sym (new p) ∙ h);
        all = λ p x h. ⊎_elim (λ a. new p ∙ old_all p x a (port == p) refl)
            (λ b. new p ∙ (ap (λ t. cond t (Some (Some after)) (kept p)) (eq-eqb port p b.0) ∙ ap Some (sym last ∙ b.1))) (shorter paths path port p x h);
        root_held = λ q h. longer paths path port q None (k.root_held q h);
        root_all = λ q h. ⊎_elim (λ a. k.root_all q a) (λ b. absurd (no_root paths path port after q last b.1)) (shorter paths path port q None h);
      },
    )
  where
    new_held : (p : ℕ) (x : Option ℕ) (t : Bool) → (port == p) ≡ t → cond t (Some (Some after)) (kept p) ≡ Some x → comes (paths ++ (path ++ port ∷ []) ∷ []) p x ≡ true
    new_held p x true e h =
        subst (λ z. comes (paths ++ (path ++ port ∷ []) ∷ []) z x ≡ true) (equal port p e)
        (subst (λ y. comes (paths ++ (path ++ port ∷ []) ∷ []) port y ≡ true) (inside (Some after) x h) (added paths path port (Some after) last))
    new_held p x false e h = longer paths path port p x (k.held p x h)

    old_all : (p : ℕ) (x : Option ℕ) → comes (paths ++ path ∷ []) p x ≡ true → (t : Bool) → (port == p) ≡ t → cond t (Some (Some after)) (kept p) ≡ Some x
    old_all p x a true e = absurd (some_none x (sym at ∙ k.all port x (subst (λ z. comes (paths ++ path ∷ []) z x ≡ true) (sym (equal port p e)) a)))
    old_all p x a false e = k.all p x a

pub step_other : (paths : List (List ℕ)) (path : List ℕ) (kept : ℕ → Option (Option ℕ)) (root : Option ℕ) (place after port : ℕ) (x : Option ℕ) → AreKept (paths ++ path ∷ []) kept root
    → list_any (λ n. n == port) path ≡ false → kept port ≡ Some x → same x (Some after) ≡ false → hangs paths place (Some after) port ≡ Err (AfterAnother (place + 1))
step_other paths path kept root place after port x k fresh at d =
    let there : list_any (comes_otherwise port (Some after) None) paths ≡ true =
    ⊎_elim (λ a. any_map (comes_after port x None) (comes_otherwise port (Some after) None) paths (λ e h. to_other port x (Some after) None e d h) a)
    (λ b. absurd (clash (list_any (λ n. n == port) path) (on_path port x None path b) fresh)) (any_split (comes_after port x None) paths path (k.held port x at))
    in rw there refl

-- where no path begins no port is kept
pub unbegun : (paths : List (List ℕ)) (kept : ℕ → Option (Option ℕ)) (root : Option ℕ) (port : ℕ) → AreKept paths kept root → root ≡ None → kept port ≡ None
unbegun paths kept root port k r = by (kept port) refl
  where
    by : (o : Option (Option ℕ)) → kept port ≡ o → kept port ≡ None
    by None e = e
    by (Some x) e = let b = any_begun port x paths (k.held port x e) in absurd (some_none b.0 (sym r ∙ k.root_all b.0 b.1))
