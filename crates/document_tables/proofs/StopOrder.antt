-- Stops of paths that begin at one port: each of them once, behind the one after which it comes.
use Rattle.std.proofs.Common.{◌≡◌, ℕ, suc, ◌+◌, ◌<◌, ◌≤◌, ◌||◌, nat_eq, Bool, true, false, cond, List, [], ◌∷◌, ◌++◌, map, length, position, Option, Some, None, refl, sym, ap, subst, ◌∙◌, arith, ⊎_elim, inl, inr, ◌⊎◌, All}
use Rattle.std.specs.Prelude.{slice_get, unwrap_or, if◌then◌else◌}
use Rattle.std.specs.List.{list_any, position_from}
use Rattle.std.proofs.lemmas.Bool.{eq-eqb}
use Rattle.std.proofs.lemmas.Iterator.Adapters.{position_from-zero}
use Rattle.std.proofs.lemmas.List.{length-map, map-append}
use Rattle.std.proofs.lemmas.List.Elements.{All-head, All-tail}
use Rattle.document_tables.specs.Grids.{end_of, place_after, place_of}
use Rattle.document_tables.specs.Stops.{Stop, has_stop, with_stop, with_path, with_paths, stops_of}
use Rattle.document_tables.specs.Trees.{last_of}
use Rattle.document_tables.proofs.LinkSteps.{each_push}
use Rattle.document_tables.proofs.StopSteps.{one_path_more}

-- ---- first places
from_keep_at : {X : Type 0} (p : X → Bool) (n j : ℕ) (b : Bool) (xs ys : List X) → (position_from p (n + 1) xs ≡ Some j → position_from p (n + 1) (xs ++ ys) ≡ Some j)
    → cond b (Some n) (position_from p (n + 1) xs) ≡ Some j → cond b (Some n) (position_from p (n + 1) (xs ++ ys)) ≡ Some j
from_keep_at p n j true xs ys rest h = h
from_keep_at p n j false xs ys rest h = rest h

from_keep : {X : Type 0} (p : X → Bool) (n j : ℕ) (xs ys : List X) → position_from p n xs ≡ Some j → position_from p n (xs ++ ys) ≡ Some j
from_keep p n j [] ys h = cc
from_keep p n j (x ∷ xs) ys h = from_keep_at p n j (p x) xs ys (from_keep p (n + 1) j xs ys) h

from_new_at : {X : Type 0} (p : X → Bool) (n m : ℕ) (b : Bool) (xs ys : List X) (any : Bool) → b || any ≡ false → (any ≡ false → position_from p (n + 1) ys ≡ Some m) → cond b (Some n) (position_from p (n + 1) ys) ≡ Some m
from_new_at p n m true xs ys any h rest = cc
from_new_at p n m false xs ys any h rest = rest h

from_new : {X : Type 0} (p : X → Bool) (n : ℕ) (xs : List X) (x : X) → list_any p xs ≡ false → p x ≡ true → position_from p n (xs ++ x ∷ []) ≡ Some (n + length xs)
from_new p n [] x h t = rw t (ap Some (omega arith))
from_new p n (y ∷ xs) x h t =
    let m : n + 1 + length xs ≡ n + length (y ∷ xs) = omega arith in
    from_new_at p n (n + length (y ∷ xs)) (p y) xs (xs ++ x ∷ []) (list_any p xs) h (λ none. from_new p (n + 1) xs x none t ∙ ap Some m)

from_any_at : {X : Type 0} (p : X → Bool) (n : ℕ) (b : Bool) (xs : List X) → b || list_any p xs ≡ true → (list_any p xs ≡ true → (j : ℕ) × (j < length xs) × (position_from p (n + 1) xs ≡ Some (n + 1 + j)))
    → (j : ℕ) × (j < suc (length xs)) × (cond b (Some n) (position_from p (n + 1) xs) ≡ Some (n + j))
from_any_at p n true xs h rest = (0, omega arith, ap Some (omega arith))
from_any_at p n false xs h rest = let r = rest h in (suc r.0, omega (arith, r.1), r.2 ∙ ap Some (omega arith))

from_any : {X : Type 0} (p : X → Bool) (n : ℕ) (xs : List X) → list_any p xs ≡ true → (j : ℕ) × (j < length xs) × (position_from p n xs ≡ Some (n + j))
from_any p n [] h = cc
from_any p n (x ∷ xs) h = from_any_at p n (p x) xs h (from_any p (n + 1) xs)

-- ---- places of stops
pub keeps_place : (stops more : List Stop) (q j : ℕ) → place_of stops q ≡ Some j → place_of (stops ++ more) q ≡ Some j
keeps_place stops more q j h =
    let ports = map (λ (s : Stop). s.0) stops in
    let others = map (λ (s : Stop). s.0) more in
    ap (position (nat_eq q)) (map-append (λ (s : Stop). s.0) stops more)
    ∙ (position_from-zero (nat_eq q) (ports ++ others) ∙ from_keep (nat_eq q) 0 j ports others (sym (position_from-zero (nat_eq q) ports) ∙ h))

new_place : (stops : List Stop) (port : ℕ) (after : Option ℕ) → has_stop stops port ≡ false → place_of (stops ++ (port, after) ∷ []) port ≡ Some (length stops)
new_place stops port after h =
    let ports = map (λ (s : Stop). s.0) stops in
    let n = length-map stops (λ (s : Stop). s.0) in
    ap (position (nat_eq port)) (map-append (λ (s : Stop). s.0) stops ((port, after) ∷ []))
    ∙ (position_from-zero (nat_eq port) (ports ++ port ∷ []) ∙ (from_new (nat_eq port) 0 ports port h (eq-eqb port port refl) ∙ ap Some (omega (arith, n))))

some_place : (stops : List Stop) (port : ℕ) → has_stop stops port ≡ true → (j : ℕ) × (j < length stops) × (place_of stops port ≡ Some j)
some_place stops port h =
    let ports = map (λ (s : Stop). s.0) stops in
    let n = length-map stops (λ (s : Stop). s.0) in
    let r = from_any (nat_eq port) 0 ports h in
    (r.0, omega (arith, r.1, n), position_from-zero (nat_eq port) ports ∙ (r.2 ∙ ap Some (omega arith)))

-- ---- an order
-- a stop comes after one before it; only the first one comes after none
abbrev pub Follows : List Stop → (i : ℕ) → Option ℕ → Type 0
Follows stops i None = i ≡ 0
Follows stops i (Some q) = (j : ℕ) × (j < i) × (place_of stops q ≡ Some j)

-- it is the first of its port, and follows; and the port is one of these
pub record IsStopAt (T : ℕ → Type 0) (stops : List Stop) (i : ℕ) (s : Stop) : Type 0 where
  pub own : place_of stops s.0 ≡ Some i
  pub follows : Follows stops i s.1
  pub is : T s.0

abbrev pub AreInOrder : (ℕ → Type 0) → List Stop → Type 0
AreInOrder T stops = (i : ℕ) (s : Stop) → slice_get stops i ≡ Some s → IsStopAt T stops i s

module _ (T : ℕ → Type 0) where
  no_stop : AreInOrder T []
  no_stop i s h = cc

  follows_more : (stops : List Stop) (s : Stop) (i : ℕ) (after : Option ℕ) → Follows stops i after → Follows (stops ++ s ∷ []) i after
  follows_more stops s i None f = f
  follows_more stops s i (Some q) f = (f.0, f.1, keeps_place stops (s ∷ []) q f.0 f.2)

  put : (stops : List Stop) (port : ℕ) (after : Option ℕ) → AreInOrder T stops → has_stop stops port ≡ false → Follows stops (length stops) after → T port → AreInOrder T (stops ++ (port, after) ∷ [])
  put stops port after o new f t =
      each_push (IsStopAt T (stops ++ (port, after) ∷ [])) stops (port, after)
      (λ i s h. let a = o i s h in record { own = keeps_place stops ((port, after) ∷ []) s.0 i a.own; follows = follows_more stops (port, after) i s.1 a.follows; is = a.is })
      (record { own = new_place stops port after new; follows = follows_more stops (port, after) (length stops) after f; is = t })

  stop_more : (stops : List Stop) (port : ℕ) (after : Option ℕ) → AreInOrder T stops → (has_stop stops port ≡ false → Follows stops (length stops) after) → T port → AreInOrder T (with_stop stops port after)
  stop_more stops port after o f t = by (has_stop stops port) refl
    where
      by : (b : Bool) → has_stop stops port ≡ b → AreInOrder T (if b then stops else stops ++ (port, after) ∷ [])
      by true e = o
      by false e = put stops port after o e (f e) t

-- ---- what is there stays there
any_more : {X : Type 0} (p : X → Bool) (xs ys : List X) → list_any p xs ≡ true → list_any p (xs ++ ys) ≡ true
any_more p [] ys h = cc
any_more p (x ∷ xs) ys h = at_head (p x) h (any_more p xs ys)
  where
    at_head : (b : Bool) → b || list_any p xs ≡ true → (list_any p xs ≡ true → list_any p (xs ++ ys) ≡ true) → b || list_any p (xs ++ ys) ≡ true
    at_head true h rest = refl
    at_head false h rest = rest h

any_last : {X : Type 0} (p : X → Bool) (xs : List X) (x : X) → p x ≡ true → list_any p (xs ++ x ∷ []) ≡ true
any_last p [] x h = rw h refl
any_last p (y ∷ xs) x h = at_head (p y) (any_last p xs x h)
  where
    at_head : (b : Bool) → list_any p (xs ++ x ∷ []) ≡ true → b || list_any p (xs ++ x ∷ []) ≡ true
    at_head true h = refl
    at_head false h = h

stays : (stops : List Stop) (port : ℕ) (after : Option ℕ) (q : ℕ) → has_stop stops q ≡ true → has_stop (with_stop stops port after) q ≡ true
stays stops port after q h = by (has_stop stops port)
  where
    by : (b : Bool) → has_stop (if b then stops else stops ++ (port, after) ∷ []) q ≡ true
    by true = h
    by false = ap (list_any (nat_eq q)) (map-append (λ (s : Stop). s.0) stops ((port, after) ∷ [])) ∙ any_more (nat_eq q) (map (λ (s : Stop). s.0) stops) (port ∷ []) h

is_there : (stops : List Stop) (port : ℕ) (after : Option ℕ) → has_stop (with_stop stops port after) port ≡ true
is_there stops port after = by (has_stop stops port) refl
  where
    by : (b : Bool) → has_stop stops port ≡ b → has_stop (if b then stops else stops ++ (port, after) ∷ []) port ≡ true
    by true e = e
    by false e = ap (list_any (nat_eq port)) (map-append (λ (s : Stop). s.0) stops ((port, after) ∷ [])) ∙ any_last (nat_eq port) (map (λ (s : Stop). s.0) stops) port (eq-eqb port port refl)

path_stays : (stops : List Stop) (behind : Option ℕ) (path : List ℕ) (q : ℕ) → has_stop stops q ≡ true → has_stop (with_path stops behind path) q ≡ true
unfolding with_path
path_stays stops behind [] q h = h
path_stays stops behind (port ∷ path) q h = path_stays (with_stop stops port behind) (Some port) path q (stays stops port behind q h)

-- ---- where a path ends
place_stays : (stops : List Stop) (port : ℕ) (after : Option ℕ) (q j : ℕ) → place_of stops q ≡ Some j → place_of (with_stop stops port after) q ≡ Some j
place_stays stops port after q j h = by (has_stop stops port)
  where
    by : (b : Bool) → place_of (if b then stops else stops ++ (port, after) ∷ []) q ≡ Some j
    by true = h
    by false = keeps_place stops ((port, after) ∷ []) q j h

place_kept : (stops : List Stop) (behind : Option ℕ) (path : List ℕ) (q j : ℕ) → place_of stops q ≡ Some j → place_of (with_path stops behind path) q ≡ Some j
unfolding with_path
place_kept stops behind [] q j h = h
place_kept stops behind (port ∷ path) q j h = place_kept (with_stop stops port behind) (Some port) path q j (place_stays stops port behind q j h)

-- it is the same with one path more
pub end_kept : (paths : List (List ℕ)) (path : List ℕ) (last : Option ℕ) (j : ℕ) → place_after (stops_of paths) last ≡ Some j → place_after (stops_of (paths ++ path ∷ [])) last ≡ Some j
end_kept paths path None j h = cc
end_kept paths path (Some q) j h = ap (λ (stops : List Stop). place_of stops q) (one_path_more [] paths path) ∙ place_kept (stops_of paths) None path q j h

last_there : (stops : List Stop) (behind : Option ℕ) (port : ℕ) (path : List ℕ) → (q : ℕ) × (last_of behind (port ∷ path) ≡ Some q) × (has_stop (with_path stops behind (port ∷ path)) q ≡ true)
unfolding with_path
last_there stops behind port [] = (port, refl, is_there stops port behind)
last_there stops behind port (next ∷ path) = last_there (with_stop stops port behind) (Some port) next path

pub unwrapped : (o : Option ℕ) (j : ℕ) → o ≡ Some j → o ≡ Some (unwrap_or o 0)
unwrapped None j h = cc
unwrapped (Some k) j h = refl

-- the newest path has an end
pub end_there : (paths : List (List ℕ)) (path : List ℕ) → 0 < length path → place_after (stops_of (paths ++ path ∷ [])) (last_of None path) ≡ Some (end_of (stops_of (paths ++ path ∷ [])) path)
end_there paths [] some = absurd (omega (arith, some))
end_there paths (port ∷ path) some =
    let last = last_there (stops_of paths) None port path in
    let stops = with_path (stops_of paths) None (port ∷ path) in
    let at = some_place stops last.0 last.2 in
    subst (λ (stops : List Stop). place_after stops (last_of None (port ∷ path)) ≡ Some (end_of stops (port ∷ path))) (sym (one_path_more [] paths (port ∷ path)))
    (unwrapped (place_after stops (last_of None (port ∷ path))) at.0 (ap (place_after stops) last.1 ∙ at.2))

-- ---- paths
module _ (T : ℕ → Type 0) where
  rest_more : (stops : List Stop) (q : ℕ) (path : List ℕ) → AreInOrder T stops → has_stop stops q ≡ true → All T path → AreInOrder T (with_path stops (Some q) path)
  unfolding with_path
  rest_more stops q [] o there t = o
  rest_more stops q (port ∷ path) o there t =
      let at = some_place stops q there in
      rest_more (with_stop stops port (Some q)) port path (stop_more T stops port (Some q) o (λ new. (at.0, at.1, at.2)) (All-head T port path t)) (is_there stops port (Some q)) (All-tail T port path t)

  -- a path that begins at the port of the first stop, or is the first one
  path_more : (stops : List Stop) (root : ℕ) (path : List ℕ) → AreInOrder T stops → (length stops ≡ 0) ⊎ (has_stop stops root ≡ true) → All T (root ∷ path) → AreInOrder T (with_path stops None (root ∷ path))
  unfolding with_path
  path_more stops root path o first t =
      rest_more (with_stop stops root None) root path
      (stop_more T stops root None o (λ new. ⊎_elim (λ (e : length stops ≡ 0). e) (λ (there : has_stop stops root ≡ true). absurd (clash (has_stop stops root) there new)) first) (All-head T root path t))
      (is_there stops root None) (All-tail T root path t)
    where
      clash : (b : Bool) → b ≡ true → b ≡ false → ⊥
      clash b p q = let bad : true ≡ false = sym p ∙ q in cc

  path_there : (stops : List Stop) (root : ℕ) (path : List ℕ) → has_stop (with_path stops None (root ∷ path)) root ≡ true
  unfolding with_path
  path_there stops root path = path_stays (with_stop stops root None) (Some root) path root (is_there stops root None)

  -- a path over such ports that begins with this one
  abbrev pub IsPathFrom : ℕ → List ℕ → Type 0
  IsPathFrom root path = (rest : List ℕ) × (path ≡ root ∷ rest) × All T path

  paths_more : (stops : List Stop) (root : ℕ) (paths : List (List ℕ)) → AreInOrder T stops → (length stops ≡ 0) ⊎ (has_stop stops root ≡ true) → All (IsPathFrom root) paths → AreInOrder T (with_paths stops paths)
  unfolding with_paths
  paths_more stops root [] o first a = o
  paths_more stops root (path ∷ paths) o first a =
      let p = All-head (IsPathFrom root) path paths a in
      paths_more (with_path stops None path) root paths
      (subst (λ (q : List ℕ). AreInOrder T (with_path stops None q)) (sym p.1) (path_more stops root p.0 o first (subst (All T) p.1 p.2)))
      (inr (subst (λ (q : List ℕ). has_stop (with_path stops None q) root ≡ true) (sym p.1) (path_there stops root p.0)))
      (All-tail (IsPathFrom root) path paths a)

  pub are_in_order : (root : ℕ) (paths : List (List ℕ)) → All (IsPathFrom root) paths → AreInOrder T (stops_of paths)
  are_in_order root paths a = paths_more [] root paths (no_stop T) (inl refl) a

-- paths that are there pass some port
all_there : (T : ℕ → Type 0) (stops : List Stop) (root : ℕ) (paths : List (List ℕ)) → has_stop stops root ≡ true → has_stop (with_paths stops paths) root ≡ true
unfolding with_paths
all_there T stops root [] h = h
all_there T stops root (path ∷ paths) h = all_there T (with_path stops None path) root paths (path_stays stops None path root h)

pub some_stop : (T : ℕ → Type 0) (root : ℕ) (paths : List (List ℕ)) → 1 ≤ length paths → All (IsPathFrom T root) paths → 1 ≤ length (stops_of paths)
unfolding with_paths
some_stop T root [] n a = absurd (omega arith)
some_stop T root (path ∷ paths) n a =
    let p = All-head (IsPathFrom T root) path paths a in
    let first = subst (λ (q : List ℕ). has_stop (with_path [] None q) root ≡ true) (sym p.1) (path_there T [] root p.0) in
    let at = some_place (with_paths (with_path [] None path) paths) root (all_there T (with_path [] None path) root paths first) in
    omega (arith, at.1)
