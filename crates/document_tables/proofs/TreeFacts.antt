-- Trees, one port of a path after another.
use Rattle.std.proofs.Common.{◌≡◌, ℕ, ◌==◌, ◌&&◌, ◌||◌, Bool, true, false, List, [], ◌∷◌, ◌++◌, Option, Some, None, refl, sym, ap, subst, ◌∙◌, inl, inr, ⊎_elim, ◌⊎◌}
use Rattle.std.specs.Prelude.{not}
use Rattle.std.specs.List.{list_any}
use Rattle.std.proofs.lemmas.Bool.{eq-eqb, eqb-true}
use Rattle.table_cells.proofs.Digits.{both}
use Rattle.document_tables.specs.Trees.{same, comes_after, comes_otherwise, begins_elsewhere, last_of, comes}

-- ---- truths
pub clash : (b : Bool) → b ≡ true → b ≡ false → ⊥
clash b p q = let bad : true ≡ false = sym p ∙ q in cc

pub some_none : {X : Type 0} (x : X) → None ≡ Some x → ⊥
some_none x h = cc

pub inside : (x y : Option ℕ) → Some x ≡ Some y → x ≡ y
inside x y h = cc

pub number : (x y : ℕ) → Some x ≡ Some y → x ≡ y
number x y h = cc

split_or : (a b : Bool) → a || b ≡ true → (a ≡ true) ⊎ (b ≡ true)
split_or true b h = inl refl
split_or false b h = inr h

pub or_left : (a b : Bool) → a ≡ true → a || b ≡ true
or_left a b h = rw h refl

pub or_right : (a b : Bool) → b ≡ true → a || b ≡ true
or_right true b h = refl
or_right false b h = h

neither : (a b : Bool) → a ≡ false → b ≡ false → a || b ≡ false
neither a b p q = rw (p, q) refl

is_false : (b : Bool) → (b ≡ true → ⊥) → b ≡ false
is_false true f = absurd (f refl)
is_false false f = refl

pub equal : (a b : ℕ) → (a == b) ≡ true → a ≡ b
equal a b h = eqb-true a b h

pub same_is : (x y : Option ℕ) → same x y ≡ true → x ≡ y
same_is None None h = refl
same_is None (Some q) h = absurd (clash false h refl)
same_is (Some p) None h = absurd (clash false h refl)
same_is (Some p) (Some q) h = ap Some (equal p q h)

pub same_self : (x : Option ℕ) → same x x ≡ true
same_self None = refl
same_self (Some p) = eq-eqb p p refl

-- ---- one of several, and one more
pub any_split : {X : Type 0} (f : X → Bool) (xs : List X) (y : X) → list_any f (xs ++ y ∷ []) ≡ true → (list_any f xs ≡ true) ⊎ (f y ≡ true)
any_split f [] y h = ⊎_elim (λ a. inr a) (λ b. absurd (clash false b refl)) (split_or (f y) false h)
any_split f (x ∷ xs) y h =
    ⊎_elim (λ a. inl (or_left (f x) (list_any f xs) a))
    (λ b. ⊎_elim (λ c. inl (or_right (f x) (list_any f xs) c)) (λ d. inr d) (any_split f xs y b))
    (split_or (f x) (list_any f (xs ++ y ∷ [])) h)

pub any_left : {X : Type 0} (f : X → Bool) (xs : List X) (y : X) → list_any f xs ≡ true → list_any f (xs ++ y ∷ []) ≡ true
any_left f [] y h = absurd (clash false h refl)
any_left f (x ∷ xs) y h =
    ⊎_elim (λ a. or_left (f x) (list_any f (xs ++ y ∷ [])) a) (λ b. or_right (f x) (list_any f (xs ++ y ∷ [])) (any_left f xs y b)) (split_or (f x) (list_any f xs) h)

pub any_right : {X : Type 0} (f : X → Bool) (xs : List X) (y : X) → f y ≡ true → list_any f (xs ++ y ∷ []) ≡ true
any_right f [] y h = or_left (f y) false h
any_right f (x ∷ xs) y h = or_right (f x) (list_any f (xs ++ y ∷ [])) (any_right f xs y h)

-- what holds of one that holds of no other
pub any_map : {X : Type 0} (f g : X → Bool) (xs : List X) → ((x : X) → f x ≡ true → g x ≡ true) → list_any f xs ≡ true → list_any g xs ≡ true
any_map f g [] h a = a
any_map f g (x ∷ xs) h a = ⊎_elim (λ p. or_left (g x) (list_any g xs) (h x p)) (λ q. or_right (g x) (list_any g xs) (any_map f g xs h q)) (split_or (f x) (list_any f xs) a)

-- ---- a path, and one port more
here : (p : ℕ) (x behind : Option ℕ) (q : ℕ) → q == p && same behind x ≡ true → (q ≡ p) × (behind ≡ x)
here p x behind q h = let b = both (q == p) (same behind x) h in (equal q p b.0, same_is behind x b.1)

pub ext_split : (p : ℕ) (x behind : Option ℕ) (path : List ℕ) (port : ℕ) → comes_after p x behind (path ++ port ∷ []) ≡ true
    → (comes_after p x behind path ≡ true) ⊎ ((port ≡ p) × (last_of behind path ≡ x))
unfolding comes_after
ext_split p x behind [] port h = ⊎_elim (λ a. inr (here p x behind port a)) (λ b. absurd (clash false b refl)) (split_or (port == p && same behind x) false h)
ext_split p x behind (q ∷ path) port h =
    ⊎_elim (λ a. inl (or_left (q == p && same behind x) (comes_after p x (Some q) path) a))
    (λ b. ⊎_elim (λ c. inl (or_right (q == p && same behind x) (comes_after p x (Some q) path) c)) (λ d. inr d) (ext_split p x (Some q) path port b))
    (split_or (q == p && same behind x) (comes_after p x (Some q) (path ++ port ∷ [])) h)

pub ext_left : (p : ℕ) (x behind : Option ℕ) (path : List ℕ) (port : ℕ) → comes_after p x behind path ≡ true → comes_after p x behind (path ++ port ∷ []) ≡ true
unfolding comes_after
ext_left p x behind [] port h = absurd (clash false h refl)
ext_left p x behind (q ∷ path) port h =
    ⊎_elim (λ a. or_left (q == p && same behind x) (comes_after p x (Some q) (path ++ port ∷ [])) a)
    (λ b. or_right (q == p && same behind x) (comes_after p x (Some q) (path ++ port ∷ [])) (ext_left p x (Some q) path port b))
    (split_or (q == p && same behind x) (comes_after p x (Some q) path) h)

pub ext_right : (behind : Option ℕ) (path : List ℕ) (port : ℕ) → comes_after port (last_of behind path) behind (path ++ port ∷ []) ≡ true
unfolding comes_after
ext_right behind [] port = or_left (port == port && same behind behind) false (let e : (port == port) ≡ true = eq-eqb port port refl in let s = same_self behind in rw (e, s) refl)
ext_right behind (q ∷ path) port = or_right (q == port && same behind (last_of (Some q) path)) (comes_after port (last_of (Some q) path) (Some q) (path ++ port ∷ [])) (ext_right (Some q) path port)

-- a port that comes after something stands on the path
pub on_path : (p : ℕ) (x behind : Option ℕ) (path : List ℕ) → comes_after p x behind path ≡ true → list_any (λ n. n == p) path ≡ true
unfolding comes_after
on_path p x behind [] h = h
on_path p x behind (q ∷ path) h =
    ⊎_elim (λ a. or_left (q == p) (list_any (λ n. n == p) path) (both (q == p) (same behind x) a).0) (λ b. or_right (q == p) (list_any (λ n. n == p) path) (on_path p x (Some q) path b))
    (split_or (q == p && same behind x) (comes_after p x (Some q) path) h)

-- ---- otherwise
not_true : (b : Bool) → not b ≡ true → b ≡ false
not_true true h = absurd (clash false h refl)
not_true false h = refl

-- where it comes otherwise it comes after something else
other_of : (p : ℕ) (after behind : Option ℕ) (path : List ℕ) → comes_otherwise p after behind path ≡ true → (x : Option ℕ) × (comes_after p x behind path ≡ true) × (same x after ≡ false)
unfolding comes_after comes_otherwise
other_of p after behind [] h = absurd (clash false h refl)
other_of p after behind (q ∷ path) h =
    ⊎_elim
    (λ a. let b = both (q == p) (not (same behind after)) a in
    (behind, or_left (q == p && same behind behind) (comes_after p behind (Some q) path) (let s = same_self behind in let e = b.0 in rw (e, s) refl), not_true (same behind after) b.1))
    (λ b. let r = other_of p after (Some q) path b in (r.0, or_right (q == p && same behind r.0) (comes_after p r.0 (Some q) path) r.1, r.2))
    (split_or (q == p && not (same behind after)) (comes_otherwise p after (Some q) path) h)

pub to_other : (p : ℕ) (x after behind : Option ℕ) (path : List ℕ) → same x after ≡ false → comes_after p x behind path ≡ true → comes_otherwise p after behind path ≡ true
unfolding comes_after comes_otherwise
to_other p x after behind [] s h = h
to_other p x after behind (q ∷ path) s h =
    ⊎_elim
    (λ a. let b = both (q == p) (same behind x) a in
    let differ : same behind after ≡ false = subst (λ y. same y after ≡ false) (sym (same_is behind x b.1)) s in
    or_left (q == p && not (same behind after)) (comes_otherwise p after (Some q) path) (let e = b.0 in rw (e, differ) refl))
    (λ b. or_right (q == p && not (same behind after)) (comes_otherwise p after (Some q) path) (to_other p x after (Some q) path s b))
    (split_or (q == p && same behind x) (comes_after p x (Some q) path) h)

any_other : (p : ℕ) (after : Option ℕ) (paths : List (List ℕ)) → list_any (comes_otherwise p after None) paths ≡ true → (x : Option ℕ) × (comes paths p x ≡ true) × (same x after ≡ false)
any_other p after [] h = absurd (clash false h refl)
any_other p after (path ∷ paths) h =
    ⊎_elim (λ a. let r = other_of p after None path a in (r.0, or_left (comes_after p r.0 None path) (comes paths p r.0) r.1, r.2))
    (λ b. let r = any_other p after paths b in (r.0, or_right (comes_after p r.0 None path) (comes paths p r.0) r.1, r.2))
    (split_or (comes_otherwise p after None path) (list_any (comes_otherwise p after None) paths) h)

pub none_otherwise : (p : ℕ) (after : Option ℕ) (paths : List (List ℕ)) → ((x : Option ℕ) → comes paths p x ≡ true → x ≡ after) → list_any (comes_otherwise p after None) paths ≡ false
none_otherwise p after paths only =
    is_false (list_any (comes_otherwise p after None) paths)
    (λ h. let r = any_other p after paths h in clash (same r.0 after) (subst (λ y. same r.0 y ≡ true) (only r.0 r.1) (same_self r.0)) r.2)

-- ---- where paths begin
not_later : (p q : ℕ) (path : List ℕ) → comes_after p None (Some q) path ≡ true → ⊥
unfolding comes_after
not_later p q [] h = clash false h refl
not_later p q (z ∷ path) h =
    ⊎_elim (λ a. clash false (both (z == p) false a).1 refl) (λ b. not_later p z path b) (split_or (z == p && false) (comes_after p None (Some z) path) h)

pub elsewhere : (r port : ℕ) (path : List ℕ) → (r == port) ≡ false → comes_after r None None path ≡ true → begins_elsewhere port path ≡ true
unfolding comes_after
elsewhere r port [] d h = h
elsewhere r port (q ∷ path) d h =
    ⊎_elim (λ a. let e : q ≡ r = equal q r (both (q == r) true a).0 in ap (λ n. not (n == port)) e ∙ ap not d) (λ b. absurd (not_later r q path b)) (split_or (q == r && true) (comes_after r None (Some q) path) h)

first_of : (port : ℕ) (path : List ℕ) → begins_elsewhere port path ≡ true → (r : ℕ) × (comes_after r None None path ≡ true) × ((r == port) ≡ false)
unfolding comes_after
first_of port [] h = absurd (clash false h refl)
first_of port (q ∷ path) h = (q, or_left (q == q && true) (comes_after q None (Some q) path) (let e : (q == q) ≡ true = eq-eqb q q refl in rw e refl), not_true (q == port) h)

any_first : (port : ℕ) (paths : List (List ℕ)) → list_any (begins_elsewhere port) paths ≡ true → (r : ℕ) × (comes paths r None ≡ true) × ((r == port) ≡ false)
any_first port [] h = absurd (clash false h refl)
any_first port (path ∷ paths) h =
    ⊎_elim (λ a. let f = first_of port path a in (f.0, or_left (comes_after f.0 None None path) (comes paths f.0 None) f.1, f.2))
    (λ b. let f = any_first port paths b in (f.0, or_right (comes_after f.0 None None path) (comes paths f.0 None) f.1, f.2))
    (split_or (begins_elsewhere port path) (list_any (begins_elsewhere port) paths) h)

pub none_elsewhere : (port : ℕ) (paths : List (List ℕ)) → ((r : ℕ) → comes paths r None ≡ true → r ≡ port) → list_any (begins_elsewhere port) paths ≡ false
none_elsewhere port paths only =
    is_false (list_any (begins_elsewhere port) paths)
    (λ h. let f = any_first port paths h in clash (f.0 == port) (eq-eqb f.0 port (only f.0 f.1)) f.2)

-- a path on which some port comes begins somewhere
begun : (p : ℕ) (x : Option ℕ) (path : List ℕ) → comes_after p x None path ≡ true → (r : ℕ) × (comes_after r None None path ≡ true)
unfolding comes_after
begun p x [] h = absurd (clash false h refl)
begun p x (q ∷ path) h = (q, or_left (q == q && true) (comes_after q None (Some q) path) (let e : (q == q) ≡ true = eq-eqb q q refl in rw e refl))

pub any_begun : (p : ℕ) (x : Option ℕ) (paths : List (List ℕ)) → comes paths p x ≡ true → (r : ℕ) × (comes paths r None ≡ true)
any_begun p x [] h = absurd (clash false h refl)
any_begun p x (path ∷ paths) h =
    ⊎_elim (λ a. let b = begun p x path a in (b.0, or_left (comes_after b.0 None None path) (comes paths b.0 None) b.1))
    (λ c. let b = any_begun p x paths c in (b.0, or_right (comes_after b.0 None None path) (comes paths b.0 None) b.1))
    (split_or (comes_after p x None path) (comes paths p x) h)
