-- Stops of paths, one more path or one more port at a time.
use Rattle.std.proofs.Common.{◌≡◌, ℕ, ◌+◌, ◌<◌, ◌==◌, ◌||◌, nat_eq, Bool, true, false, cond, List, [], ◌∷◌, ◌++◌, map, length, Option, Some, None, IfSome, option_map, refl, sym, ap, ap₂, subst, ◌∙◌, arith}
use Rattle.std.specs.Prelude.{not, nat_lt, position, slice_get, is_some}
use Rattle.std.specs.BTreeMap.{BTreeMap, get}
use Rattle.std.specs.Cmp.{nat_eq_equiv}
use Rattle.std.specs.List.{find, position_or_len}
use Rattle.std.specs.Map.{lookup}
use Rattle.std.specs.Ordering.{nat_cmp}
use Rattle.std.proofs.lemmas.Bool.{eq-eqb}
use Rattle.std.proofs.lemmas.List.{length-map, map-append}
use Rattle.std.proofs.lemmas.List.Folds.{find_at}
use Rattle.std.proofs.lemmas.List.Quantifiers.{position-Some}
use Rattle.std.proofs.lemmas.Map.Made.{is_some-lookup}
use Rattle.document_tables.specs.Trees.{last_of, AreKept}
use Rattle.document_tables.specs.Stops.{Stop, has_stop, is_at, with_stop, with_path, with_paths, stops_of}
use Rattle.document_tables.proofs.LinkSteps.{nowhere_any}
use Rattle.document_tables.proofs.Named.{added}
use Rattle.document_tables.proofs.TreeFacts.{clash, some_none, equal}

pub one_path_more : (stops : List Stop) (paths : List (List ℕ)) (path : List ℕ) → with_paths stops (paths ++ path ∷ []) ≡ with_path (with_paths stops paths) None path
unfolding with_paths
one_path_more stops [] path = refl
one_path_more stops (p ∷ paths) path = one_path_more (with_path stops None p) paths path

one_port_more : (stops : List Stop) (behind : Option ℕ) (path : List ℕ) (port : ℕ) → with_path stops behind (path ++ port ∷ []) ≡ with_stop (with_path stops behind path) port (last_of behind path)
unfolding with_path
one_port_more stops behind [] port = refl
one_port_more stops behind (p ∷ path) port = one_port_more (with_stop stops p behind) (Some p) path port

-- the stops of paths of which the last one goes on to a port
pub longer : (paths : List (List ℕ)) (path : List ℕ) (port : ℕ) → stops_of (paths ++ (path ++ port ∷ []) ∷ []) ≡ with_stop (stops_of (paths ++ path ∷ [])) port (last_of None path)
longer paths path port =
    one_path_more [] paths (path ++ port ∷ []) ∙ (one_port_more (stops_of paths) None path port ∙ ap (λ (s : List Stop). with_stop s port (last_of None path)) (sym (one_path_more [] paths path)))

-- an empty path passes nothing
pub nothing_more : (paths : List (List ℕ)) → stops_of (paths ++ [] ∷ []) ≡ stops_of paths
unfolding with_path
nothing_more paths = one_path_more [] paths []

pub first_port : (paths : List (List ℕ)) (port : ℕ) → stops_of (paths ++ (port ∷ []) ∷ []) ≡ with_stop (stops_of paths) port None
first_port paths port = longer paths [] port ∙ ap (λ (s : List Stop). with_stop s port None) (nothing_more paths)

-- ---- stops by their ports
absent_in : (es : List Stop) (port : ℕ) (y : Option ℕ) (b : Bool) → cond b (Some y) (lookup (nat_eq port) es) ≡ None → (lookup (nat_eq port) es ≡ None → has_stop es port ≡ false) → b || has_stop es port ≡ false
absent_in es port y true h rest = cc
absent_in es port y false h rest = rest h

absent : (es : List Stop) (port : ℕ) → lookup (nat_eq port) es ≡ None → has_stop es port ≡ false
absent [] port h = refl
absent (e ∷ es) port h = absent_in es port e.1 (nat_eq port e.0) h (absent es port)

found_in : (es : List Stop) (port : ℕ) (y : Option ℕ) (x : Option ℕ) (b : Bool) → cond b (Some y) (lookup (nat_eq port) es) ≡ Some x → (lookup (nat_eq port) es ≡ Some x → has_stop es port ≡ true) → b || has_stop es port ≡ true
found_in es port y x true h rest = refl
found_in es port y x false h rest = rest h

found : (es : List Stop) (port : ℕ) (x : Option ℕ) → lookup (nat_eq port) es ≡ Some x → has_stop es port ≡ true
found [] port x h = cc
found (e ∷ es) port x h = found_in es port e.1 x (nat_eq port e.0) h (found es port x)

-- a port that is there leaves all as it is
pub keeps : (es : List Stop) (port : ℕ) (after : Option ℕ) → has_stop es port ≡ true → es ≡ with_stop es port after
keeps es port after there = rw there refl

-- a new one comes last, and after what it was put behind
pub grows : (es : List Stop) (port : ℕ) (after : Option ℕ) → has_stop es port ≡ false → es ++ (port, after) ∷ [] ≡ with_stop es port after
grows es port after none = rw none refl

behind_in : (port q p : ℕ) (after y : Option ℕ) (old new : Option (Option ℕ)) (b : Bool) → nat_eq q p ≡ b → nat_eq port p ≡ false → new ≡ cond (port == q) (Some after) old
    → cond b (Some y) new ≡ cond (port == q) (Some after) (cond b (Some y) old)
behind_in port q p after y old new true at not h = by (port == q) refl
  where
    by : (t : Bool) → (port == q) ≡ t → Some y ≡ cond t (Some after) (Some y)
    by true e = absurd (clash (nat_eq port p) (subst (λ (n : ℕ). nat_eq n p ≡ true) (sym (equal port q e)) at) not)
    by false e = refl
behind_in port q p after y old new false at not h = h

not_first : (b : Bool) (y : Option ℕ) (o : Option (Option ℕ)) → cond b (Some y) o ≡ None → (b ≡ false) × (o ≡ None)
not_first true y o h = cc
not_first false y o h = (refl, h)

behind : (es : List Stop) (port : ℕ) (after : Option ℕ) (q : ℕ) → lookup (nat_eq port) es ≡ None → lookup (nat_eq q) (es ++ (port, after) ∷ []) ≡ cond (port == q) (Some after) (lookup (nat_eq q) es)
behind [] port after q h = ap (λ (b : Bool). cond b (Some after) None) (nat_eq_equiv.symm q port)
behind (e ∷ es) port after q h =
    let n = not_first (nat_eq port e.0) e.1 (lookup (nat_eq port) es) h in
    behind_in port q e.0 after e.1 (lookup (nat_eq q) es) (lookup (nat_eq q) (es ++ (port, after) ∷ [])) (nat_eq q e.0) refl n.0 (behind es port after q n.1)

pub comes_after_it : (es : List Stop) (port : ℕ) (after : Option ℕ) → lookup (nat_eq port) es ≡ None → (q : ℕ) → lookup (nat_eq q) (with_stop es port after) ≡ cond (port == q) (Some after) (lookup (nat_eq q) es)
comes_after_it es port after h q = ap (lookup (nat_eq q)) (sym (grows es port after (absent es port h))) ∙ behind es port after q h

module _ (es : List Stop) (paths : List (List ℕ)) (port : ℕ) where
  pub next_first : es ≡ stops_of paths → with_stop es port None ≡ stops_of (paths ++ (port ∷ []) ∷ [])
  next_first are = ap (λ (s : List Stop). with_stop s port None) are ∙ sym (first_port paths port)

  pub same_first : (x : Option ℕ) → es ≡ stops_of paths → lookup (nat_eq port) es ≡ Some x → es ≡ stops_of (paths ++ (port ∷ []) ∷ [])
  same_first x are at = keeps es port None (found es port x at) ∙ next_first are

  module _ (path : List ℕ) (after : Option ℕ) (last : last_of None path ≡ after) where
    pub next_stops : es ≡ stops_of (paths ++ path ∷ []) → with_stop es port after ≡ stops_of (paths ++ (path ++ port ∷ []) ∷ [])
    next_stops are = ap (λ (s : List Stop). with_stop s port after) are ∙ (ap (with_stop (stops_of (paths ++ path ∷ [])) port) (sym last) ∙ sym (longer paths path port))

    pub same_next : (x : Option ℕ) → es ≡ stops_of (paths ++ path ∷ []) → lookup (nat_eq port) es ≡ Some x → es ≡ stops_of (paths ++ (path ++ port ∷ []) ∷ [])
    same_next x are at = keeps es port after (found es port x at) ∙ next_stops are

-- of no path
pub no_stops : [] ≡ stops_of []
unfolding with_paths
no_stops = refl

pub no_tree : (es : List Stop) → es ≡ [] → AreKept [] (λ port. lookup (nat_eq port) es) None
no_tree es e = record {
  held = λ p x h. absurd (some_none x (sym (ap (lookup (nat_eq p)) e) ∙ h));
  all = λ p x h. absurd (clash false h refl);
  root_held = λ r h. absurd (some_none r h);
  root_all = λ r h. absurd (clash false h refl);
}

-- ---- by their places
abbrev ports_of : List Stop → List ℕ
ports_of es = map (λ (s : Stop). s.0) es

in_place : (p : ℕ → Bool) (es : List Stop) → lookup p es ≡ option_map (λ (s : Stop). s.1) (find (λ (s : Stop). p s.0) es)
in_place p [] = refl
in_place p (e ∷ es) = by (p e.0) (in_place p es)
  where
    by : (b : Bool) → lookup p es ≡ option_map (λ (s : Stop). s.1) (find (λ (s : Stop). p s.0) es)
        → cond b (Some e.1) (lookup p es) ≡ option_map (λ (s : Stop). s.1) (cond b (Some e) (find (λ (s : Stop). p s.0) es))
    by true h = refl
    by false h = h

first_place : (p : ℕ → Bool) (es : List Stop) → position_or_len p (ports_of es) ≡ position_or_len (λ (s : Stop). p s.0) es
first_place p [] = refl
first_place p (e ∷ es) = ap (λ (n : ℕ). cond (not (p e.0)) (1 + n) 0) (first_place p es)

pub place_by_stops : (port : ℕ) (es : List Stop) → position (is_at port) es ≡ position (nat_eq port) (ports_of es)
place_by_stops port es = ap₂ (λ (k n : ℕ). cond (nat_lt k n) (Some k) None) (sym (first_place (nat_eq port) es)) (sym (length-map es (λ (s : Stop). s.0)))

placed : (b : Bool) (m k : ℕ) → cond b (Some m) None ≡ Some k → m ≡ k
placed true m k h = cc
placed false m k h = cc

pub stop_there : (p : ℕ → Bool) (es : List Stop) (k : ℕ) (s : Stop) → position p (ports_of es) ≡ Some k → slice_get es k ≡ Some s → lookup p es ≡ Some s.1
stop_there p es k s at is =
    let first = placed (nat_lt (position_or_len p (ports_of es)) (length (ports_of es))) (position_or_len p (ports_of es)) k at in
    in_place p es ∙ ap (option_map (λ (s : Stop). s.1)) (find_at (λ (s : Stop). p s.0) es ∙ (ap (slice_get es) (sym (first_place p es) ∙ first) ∙ is))

pub no_stop_there : (p : ℕ → Bool) (es : List Stop) → position p (ports_of es) ≡ None → lookup p es ≡ None
no_stop_there p es none = by (lookup p es) (is_some-lookup p es ∙ nowhere_any p (ports_of es) none)
  where
    by : (o : Option (Option ℕ)) → is_some o ≡ false → o ≡ None
    by None h = refl
    by (Some x) h = absurd (clash true refl h)

pub place_within : (es : List Stop) (p : ℕ → Bool) (o : Option ℕ) → o ≡ position p (ports_of es) → IfSome o (λ k. k < length es)
place_within es p None h = tt
place_within es p (Some k) h =
    let n = length-map es (λ (s : Stop). s.0) in
    let w = (position-Some p (ports_of es) k 0 (sym h)).0 in
    omega (arith, n, w)

-- ---- one stop more in the map of places
pub place_more : (places more : BTreeMap ℕ ℕ) (es : List Stop) (port place : ℕ) (after : Option ℕ) (q : ℕ) → get nat_cmp places q ≡ position (nat_eq q) (ports_of es)
    → position (nat_eq port) (ports_of es) ≡ None → place ≡ length es → get nat_cmp more q ≡ cond (nat_eq port q) (Some place) (get nat_cmp places q)
    → get nat_cmp more q ≡ position (nat_eq q) (ports_of (es ++ (port, after) ∷ []))
place_more places more es port place after q are none next noted =
    let n = length-map es (λ (s : Stop). s.0) in
    let at : place ≡ length (ports_of es) = omega (arith, n, next) in
    let each = map-append (λ (s : Stop). s.0) es ((port, after) ∷ []) in
    noted
    ∙ (ap₂ (λ (k : ℕ) (o : Option ℕ). cond (nat_eq port q) (Some k) o) at are
    ∙ (added nat_eq equal eq-eqb (ports_of es) port q none ∙ ap (position (nat_eq q)) (sym each)))
