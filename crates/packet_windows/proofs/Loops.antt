-- The steps of the loops: what is made, and what the part that is left makes.
use Rattle.std.specs.Prelude.{◌≡◌, ℕ, zero, suc, ◌+◌, ◌-◌, ◌<◌, ◌≤◌, List, [], ◌∷◌, ◌++◌, length, take, drop, get_or, Some, slice_get}
use Rattle.std.specs.List.Sorted.{IsNonDecreasingBy}
use Rattle.std.proofs.Common.{arith, refl, sym, ap, subst, ◌∙◌}
use Rattle.std.proofs.lemmas.List.{drop_more, take_all, length-drop}
use Rattle.std.proofs.lemmas.Bool.{le-leb}
use Rattle.std.proofs.lemmas.Option.{slice_get_within, get_or_from_slice_get}
use Rattle.packet_windows.specs.declared.windows.Entry.{Entry}
use Rattle.packet_windows.specs.declared.windows.Window.{Window}
use Rattle.packet_windows.specs.Scans.{EnterFrom, LengthenFrom, steps_after, last_length}

-- ---- lists
pub left : {A : Type 0} (xs : List A) (i : ℕ) (x : A) → i < length xs → x ≡ get_or xs i x → drop i xs ≡ x ∷ drop (i + 1) xs
left xs i x h is = drop_more xs i x h ∙ ap (λ y. y ∷ drop (i + 1) xs) (sym is)

pub whole_rest : {A : Type 0} (xs : List A) (i : ℕ) → take (length xs - i) (drop i xs) ≡ drop i xs
whole_rest xs i = take_all (length xs - i) (drop i xs) (let e = length-drop i xs in omega arith)

-- ---- windows
pub enter_at : (t : ℕ) (es : List Entry) (i : ℕ) (d : Entry) → EnterFrom t es → i < length es → t ≤ (get_or es i d).time
enter_at t [] i d up h = absurd (omega arith)
enter_at t (e ∷ es) zero d up h = up.0
enter_at t (e ∷ es) (suc i) d up h = let k = enter_at e.time es i d up.1 (omega arith) in let l = up.0 in omega arith

pub enter_drop : (t : ℕ) (es : List Entry) (i : ℕ) (e : Entry) (rest : List Entry) → EnterFrom t es → drop i es ≡ e ∷ rest → EnterFrom e.time (drop i es)
enter_drop t es i e rest up d = rw d (omega arith, (tail_up t es i e rest up d))
  where
    suffix : (t : ℕ) (es : List Entry) (i : ℕ) → EnterFrom t es → EnterFrom t (drop i es)
    suffix t es zero up = up
    suffix t [] (suc i) up = tt
    suffix t (e ∷ es) (suc i) up = lower t e.time (drop i es) up.0 (suffix e.time es i up.1)
      where
        lower : (t u : ℕ) (es : List Entry) → t ≤ u → EnterFrom u es → EnterFrom t es
        lower t u [] l k = tt
        lower t u (e ∷ es) l k = (let m = k.0 in omega arith, k.1)

    tail_up : (t : ℕ) (es : List Entry) (i : ℕ) (e : Entry) (rest : List Entry) → EnterFrom t es → drop i es ≡ e ∷ rest → EnterFrom e.time rest
    tail_up t es i e rest up d = (subst (EnterFrom t) d (suffix t es i up)).1

pub rest_enters : (t : ℕ) (es : List Entry) (i : ℕ) (d : Entry) (rest : List Entry) → EnterFrom t es → i < length es → rest ≡ drop i es
    → EnterFrom (get_or rest 0 d).time rest
rest_enters t es i d rest up h is =
    let e = drop_more es i d h in
    let first : (get_or rest 0 d).time ≡ (get_or es i d).time = ap (λ xs. (get_or xs 0 d).time) (is ∙ e) in
    subst (λ n. EnterFrom n rest) (sym first)
    (subst (EnterFrom (get_or es i d).time) (sym is) (enter_drop t es i (get_or es i d) (drop (i + 1) es) up e))

-- ---- steps
pub lengthen : (ws : List Window) (d : ℕ) → IsNonDecreasingBy (λ w. w.length) ws → ((w : Window) (vs : List Window) → ws ≡ w ∷ vs → d ≤ w.length) → LengthenFrom d ws
lengthen [] d h k = tt
lengthen (w ∷ ws) d h k = (
  k w ws refl,
  lengthen ws w.length (λ i j e l m. h (suc i) (suc j) e (omega arith) (omega arith)) (λ v vs e. first w ws v vs e (h 0 1 w (omega arith))),
)
  where
    first : (w : Window) (ws : List Window) (v : Window) (vs : List Window) → ws ≡ v ∷ vs → (1 < length (w ∷ ws) → w.length ≤ (get_or (w ∷ ws) 1 w).length) → w.length ≤ v.length
    first w ws v vs e f = subst (λ (xs : List Window). (1 < length (w ∷ xs) → w.length ≤ (get_or (w ∷ xs) 1 w).length) → w.length ≤ v.length) (sym e) (λ g. g (omega arith)) f

pub same_step : (ws : List Window) (i : ℕ) (w last : Window) (made whole : List Window) → i < length ws → w ≡ get_or ws i w → w.bits ≤ last.bits
    → made ++ steps_after last (drop i ws) ≡ whole → made ++ steps_after last (drop (i + 1) ws) ≡ whole
same_step ws i w last made whole h is l k =
    let t = le-leb w.bits last.bits l in
    ap (λ ys. made ++ ys) (sym (rw (left ws i w h is, t) refl)) ∙ k

-- ---- the last step
pub last_is : (n : ℕ) (ws : List Window) (d : Window) → 0 < length ws → (get_or ws (length ws - 1) d).length ≡ last_length n ws
last_is n [] d h = absurd (omega arith)
last_is n (w ∷ []) d h = refl
last_is n (w ∷ v ∷ vs) d h =
    let e : length (w ∷ v ∷ vs) - 1 ≡ suc (length (v ∷ vs) - 1) = omega arith in
    ap (λ k. (get_or (w ∷ v ∷ vs) k d).length) e ∙ last_is w.length (v ∷ vs) d (omega arith)

pub last_found : (ws : List Window) (w : Window) → slice_get ws (length ws - 1) ≡ Some w → w.length ≡ last_length 0 ws
last_found ws w e =
    let l = slice_get_within ws (length ws - 1) w e in
    let g = get_or_from_slice_get ws (length ws - 1) w w e in
    sym (ap (λ (x : Window). x.length) g) ∙ last_is 0 ws w (omega arith)
