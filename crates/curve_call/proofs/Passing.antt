-- The walk over two windows while one of them is infinite: each stretch makes the present piece of the other.
use Rattle.std.specs.Prelude.{◌≡◌, ℕ, zero, suc, ◌+◌, ◌-◌, ◌<◌, ◌≤◌, Bool, true, false, List, [], ◌∷◌, ◌++◌, length, slice_get, take, drop, Option, Some, None}
use Rattle.std.proofs.Common.{arith, append-nil, get_or, sym, ap, ap₂, ◌∙◌, refl, subst, inl, inr}
use Rattle.std.proofs.lemmas.List.{take-append-drop}
use Rattle.std.proofs.lemmas.Option.{get_or_from_slice_get}
use Rattle.rational.specs.Rational.{ℚ, lt_q}
use Rattle.rational.specs.Extended.{Ext, ◌≤ₑ◌, min_ext}
use Rattle.rational.specs.declared.Extended.TheVariants.{Fin, Inf}
use Rattle.rational.proofs.Laws.{le_refl, le_lt_trans}
use Rattle.rational.proofs.Over.{le_q_in, le_q_out, lt_q_in, lt_q_out}
use Rattle.upp_curve.specs.declared.affine_segment.line.Line.{Line}
use Rattle.upp_curve.specs.declared.affine_segment.line.Piece.{Piece}
use Rattle.upp_curve.specs.affine_segment.Pieces.{StartsAtZero}
use Rattle.upp_curve.specs.affine_segment.Values.{line_value}
use Rattle.upp_curve.proofs.affine_segment.PieceIn.{parted}
use Rattle.upp_curve.proofs.affine_segment.NextPiece.{next_piece, none_left}
use Rattle.curve_call.specs.declared.stretch.Walk.{Walk}
use Rattle.curve_call.specs.declared.made.Made.TheVariants.{Lower}
use Rattle.curve_call.specs.Stretches.{cut_at}
use Rattle.curve_call.specs.Walk.{IsBeforeAt}
use Rattle.curve_call.specs.Made.{parts_by, HasParts}
use Rattle.curve_call.specs.Joining.{JoinsTo}
use Rattle.curve_call.specs.Alone.{IsNothing, PassesLeft, PassesRight}
use Rattle.curve_call.proofs.Surgery.{one_more}
use Rattle.curve_call.proofs.JoinedPieces.{joined_kept}
use Rattle.curve_call.proofs.MadeLoop.{MadeLoop, made_next}
use Rattle.curve_call.proofs.NextSteps.{some_before}
use Rattle.curve_call.proofs.OverlayLoop.{drop_got}

-- ---- which pieces start before the next one
abbrev pub starts_before : ℚ → Piece → Bool
starts_before t p = lt_q p.x t

-- those that do come first
pub parted_before : (ps : List Piece) (t : ℚ) → StartsAtZero ps → (i j : ℕ) (d : Piece) → i ≤ j → j < length ps → lt_q (get_or ps j d).x t ≡ true → lt_q (get_or ps i d).x t ≡ true
parted_before ps t h i j d l k e =
    let y = (get_or ps j d).x in
    let low = le_q_in (get_or ps i d).x y (parted ps y h i j d l k (le_q_out y y (le_refl y))) in
    lt_q_out (get_or ps i d).x t (le_lt_trans low (lt_q_in y t e))

pub found_before : (own others : List Piece) (j n : ℕ) (q : Piece) → slice_get others j ≡ Some q → ((k : ℕ) (d : Piece) → 0 ≤ k → k < n → starts_before q.x (get_or own k d) ≡ true)
    → (k : ℕ) (p : Piece) → k < n → slice_get own k ≡ Some p → IsBeforeAt p.x others j
found_before own others j n q e first k p l h =
    let at : get_or own k p ≡ p = get_or_from_slice_get own k p p h in
    some_before p.x others j q e (lt_q_in p.x q.x (subst (λ z. lt_q z.x q.x ≡ true) at (first k p (omega arith) l)))

-- ---- a run of pieces
got_drop : (ps : List Piece) (i : ℕ) (p : Piece) (qs : List Piece) → drop i ps ≡ p ∷ qs → slice_get ps i ≡ Some p
got_drop [] zero p qs e = let no : ⊥ = cc in absurd no
got_drop [] (suc i) p qs e = let no : ⊥ = cc in absurd no
got_drop (q ∷ ps) zero p qs e = let same : q ≡ p = cc in ap Some same
got_drop (q ∷ ps) (suc i) p qs e = got_drop ps i p qs e

drop_next : (ps : List Piece) (i : ℕ) (p : Piece) (qs : List Piece) → drop i ps ≡ p ∷ qs → drop (i + 1) ps ≡ qs
drop_next ps i p qs e = let same : p ∷ drop (i + 1) ps ≡ p ∷ qs = sym (drop_got ps i p (got_drop ps i p qs e)) ∙ e in cc

-- those of a list from the i-th on and before the k-th
pub run_is : (ps rest run : List Piece) (i k : ℕ) → rest ≡ drop i ps → run ≡ take (k - i) rest → drop i ps ≡ run ++ drop (k - i) rest
run_is ps rest run i k e h = sym e ∙ sym (take-append-drop (k - i) rest) ∙ ap (λ z. z ++ drop (k - i) rest) (sym h)

-- the last of a run, and those before it
pub last_of_run : (run front : List Piece) (n : ℕ) (last : Piece) → length run ≡ n + 1 → front ≡ take n run → last ≡ get_or run n last → run ≡ front ++ last ∷ []
last_of_run run front n last l e h =
    sym (take-append-drop n run) ∙ ap₂ (λ x y. x ++ y) (sym e) (next_piece last run n (omega arith) h ∙ ap (λ z. last ∷ z) (none_left run (n + 1) (omega arith)))

-- each start of some is before the next one of others
abbrev pub AreBefore : List Piece → ℕ → List Piece → ℕ → Type 0
AreBefore own k others j = (n : ℕ) (p : Piece) → n < k → slice_get own n ≡ Some p → IsBeforeAt p.x others j

cut_nothing : (p : Piece) (x : ℚ) → IsNothing p → IsNothing (cut_at p x)
cut_nothing p x N = record { at = ap (λ l. line_value l x) N.line; line = N.line }

-- of what is infinite a cut moves the start alone
pub moved_nothing : (p : Piece) (x : ℚ) → IsNothing p → record { x = x; at = p.at; line = p.line } ≡ cut_at p x
moved_nothing p x N = ap (λ v. record { x = x; at = v; line = p.line }) (N.at ∙ sym (ap (λ l. line_value l x) N.line))

-- ---- the walk passes them
pub passes_left : (f g front rest : List Piece) (last : Piece) (w v : Walk) → IsNothing w.here.right → drop w.i f ≡ front ++ last ∷ rest → AreBefore f (w.i + (length front + 1)) g w.j
    → v.i ≡ w.i + (length front + 1) → v.j ≡ w.j → v.here.left ≡ last → v.here.right ≡ cut_at w.here.right last.x → PassesLeft f g (w.here.left ∷ front) w v
passes_left f g [] rest last w v N e E i j l r =
    let there = got_drop f w.i last rest e in (
      refl,
      N,
      (
        v,
        record {
          next = there ∙ ap Some (sym l);
          i = i;
          j = j;
          right = r ∙ ap (λ z. cut_at w.here.right z.x) (sym l);
          early = subst (λ z. IsBeforeAt z.x g w.j) (sym l) (E w.i last (omega arith) there);
        },
        refl,
      ),
    )
passes_left f g (q ∷ qs) rest last w v N e E i j l r =
    let there = got_drop f w.i q (qs ++ last ∷ rest) e in
    let u : Walk = record { i = w.i + 1; j = w.j; here = record { left = q; right = cut_at w.here.right q.x } } in (
      refl,
      N,
      (
        u,
        record { next = there; i = refl; j = refl; right = refl; early = E w.i q (omega arith) there },
        passes_left f g qs rest last u v (cut_nothing w.here.right q.x N) (drop_next f w.i q (qs ++ last ∷ rest) e) (λ n p k h. E n p (omega (arith, k)) h) (omega (arith, i)) j l r,
      ),
    )

pub passes_right : (f g front rest : List Piece) (last : Piece) (w v : Walk) → IsNothing w.here.left → drop w.j g ≡ front ++ last ∷ rest → AreBefore g (w.j + (length front + 1)) f w.i
    → v.j ≡ w.j + (length front + 1) → v.i ≡ w.i → v.here.right ≡ last → v.here.left ≡ cut_at w.here.left last.x → PassesRight f g (w.here.right ∷ front) w v
passes_right f g [] rest last w v N e E j i r l =
    let there = got_drop g w.j last rest e in (
      refl,
      N,
      (
        v,
        record {
          next = there ∙ ap Some (sym r);
          i = i;
          j = j;
          left = l ∙ ap (λ z. cut_at w.here.left z.x) (sym r);
          early = subst (λ z. IsBeforeAt z.x f w.i) (sym r) (E w.j last (omega arith) there);
        },
        refl,
      ),
    )
passes_right f g (q ∷ qs) rest last w v N e E j i r l =
    let there = got_drop g w.j q (qs ++ last ∷ rest) e in
    let u : Walk = record { i = w.i; j = w.j + 1; here = record { left = cut_at w.here.left q.x; right = q } } in (
      refl,
      N,
      (
        u,
        record { next = there; i = refl; j = refl; left = refl; early = E w.j q (omega arith) there },
        passes_right f g qs rest last u v (cut_nothing w.here.left q.x N) (drop_next g w.j q (qs ++ last ∷ rest) e) (λ n p k h. E n p (omega (arith, k)) h) (omega (arith, j)) i r l,
      ),
    )

-- ---- what a stretch makes where one of both is infinite
least_right : (v w : Ext) → w ≡ Inf → min_ext v w ≡ v
least_right Inf w e = e
least_right (Fin v) w e = ap (min_ext (Fin v)) e

least_left : (v w : Ext) → v ≡ Inf → min_ext v w ≡ w
least_left v w e = ap (λ z. min_ext z w) e

all_below : (l m : Option Line) (t : ℚ) → m ≡ None → line_value l t ≤ₑ line_value m t
all_below l m t e = subst (λ z. line_value l t ≤ₑ line_value z t) (sym e) tt

pub alone_left : (w : Walk) (to : ℚ) (all : List Piece) → IsNothing w.here.right → HasParts Lower w.here to all (all ++ w.here.left ∷ [])
alone_left w to all N = (
  parts_by Lower w.here true None,
  record { lie = record { below = true; turn = None }; lies = λ t past before. all_below w.here.left.line w.here.right.line t N.line; is = refl },
  ap (λ v. all ++ record { x = w.here.left.x; at = v; line = w.here.left.line } ∷ []) (sym (least_right w.here.left.at w.here.right.at N.at)),
)

pub alone_right : (w : Walk) (to : ℚ) (all : List Piece) → w.here.left.x ≡ w.here.right.x → IsNothing w.here.left → HasParts Lower w.here to all (all ++ w.here.right ∷ [])
alone_right w to all same N = (
  parts_by Lower w.here false None,
  record { lie = record { below = false; turn = None }; lies = λ t past before. all_below w.here.right.line w.here.left.line t N.line; is = refl },
  ap₂ (λ x v. all ++ record { x = x; at = v; line = w.here.right.line } ∷ []) (sym same) (sym (least_left w.here.left.at w.here.right.at N.at)),
)

-- ---- the walk goes on behind them
pub past_left : (f g passed : List Piece) (w v : Walk) (all : List Piece) → PassesLeft f g passed w v → MadeLoop Lower f g w all → MadeLoop Lower f g v (all ++ passed)
past_left f g [] w v all e L = subst (λ u. MadeLoop Lower f g u (all ++ [])) (sym e) (subst (MadeLoop Lower f g w) (sym (append-nil all)) L)
past_left f g (p ∷ ps) w v all (e, N, (u, T, P)) L =
    subst (MadeLoop Lower f g v) (one_more all p ps)
    (past_left f g ps u v (all ++ p ∷ []) P
    (subst (λ z. MadeLoop Lower f g u (all ++ z ∷ [])) (sym e) (made_next Lower f g w u all (all ++ w.here.left ∷ []) L (alone_left w u.here.left.x all N) (inl T))))

pub past_right : (f g passed : List Piece) (w v : Walk) (all : List Piece) → PassesRight f g passed w v → MadeLoop Lower f g w all → MadeLoop Lower f g v (all ++ passed)
past_right f g [] w v all e L = subst (λ u. MadeLoop Lower f g u (all ++ [])) (sym e) (subst (MadeLoop Lower f g w) (sym (append-nil all)) L)
past_right f g (p ∷ ps) w v all (e, N, (u, T, P)) L =
    subst (MadeLoop Lower f g v) (one_more all p ps)
    (past_right f g ps u v (all ++ p ∷ []) P
    (subst (λ z. MadeLoop Lower f g u (all ++ z ∷ [])) (sym e)
    (made_next Lower f g w u all (all ++ w.here.right ∷ []) L (alone_right w u.here.left.x all L.walk.together N) (inr (inl T)))))

-- ---- they are kept
joined_run : (all kept run : List Piece) → JoinsTo all kept → JoinsTo (all ++ run) (kept ++ run)
joined_run all kept [] J = subst (λ z. JoinsTo z (kept ++ [])) (sym (append-nil all)) (subst (JoinsTo all) (sym (append-nil kept)) J)
joined_run all kept (p ∷ ps) J =
    subst (λ z. JoinsTo z (kept ++ p ∷ ps)) (one_more all p ps)
    (subst (JoinsTo ((all ++ p ∷ []) ++ ps)) (one_more kept p ps) (joined_run (all ++ p ∷ []) (kept ++ p ∷ []) ps (joined_kept all kept p J)))

pub joined_more : (all kept more front : List Piece) (p : Piece) → more ≡ kept ++ front → JoinsTo (all ++ p ∷ []) kept → JoinsTo (all ++ p ∷ front) more
joined_more all kept more front p e J = subst (JoinsTo (all ++ p ∷ front)) (sym e) (subst (λ z. JoinsTo z (kept ++ front)) (one_more all p front) (joined_run (all ++ p ∷ []) kept front J))

-- ---- the pieces of a list up to the k-th
run_length : (run front : List Piece) (last : Piece) → run ≡ front ++ last ∷ [] → length run ≡ length front + 1
run_length run front last e = ap length e ∙ more front
  where
    more : (ps : List Piece) → length (ps ++ last ∷ []) ≡ length ps + 1
    more [] = refl
    more (p ∷ ps) = let e = more ps in omega (arith, e)

run_to : (ps rest run front : List Piece) (i k : ℕ) (last : Piece) → rest ≡ drop i ps → run ≡ take (k - i) rest → run ≡ front ++ last ∷ [] → drop i ps ≡ front ++ last ∷ drop (k - i) rest
run_to ps rest run front i k last r t e = run_is ps rest run i k r t ∙ ap (λ z. z ++ drop (k - i) rest) e ∙ one_more front last (drop (k - i) rest)

pub run_left : (f g rest run front : List Piece) (last : Piece) (k : ℕ) (w : Walk) → w.i < k → IsNothing w.here.right → rest ≡ drop w.i f → run ≡ take (k - w.i) rest → length run ≡ k - w.i
    → run ≡ front ++ last ∷ [] → AreBefore f k g w.j
    → PassesLeft f g (w.here.left ∷ front) w record {
      i = k;
      j = w.j;
      here = record { left = last; right = record { x = last.x; at = w.here.right.at; line = w.here.right.line } };
    }
run_left f g rest run front last k w some N r t n e E =
    let m = run_length run front last e in
    passes_left f g front (drop (k - w.i) rest) last w _ N (run_to f rest run front w.i k last r t e) (λ n' p l h. E n' p (omega (arith, l, m, n, some)) h) (omega (arith, m, n, some)) refl refl
    (moved_nothing w.here.right last.x N)

pub run_right : (f g rest run front : List Piece) (last : Piece) (k : ℕ) (w : Walk) → w.j < k → IsNothing w.here.left → rest ≡ drop w.j g → run ≡ take (k - w.j) rest → length run ≡ k - w.j
    → run ≡ front ++ last ∷ [] → AreBefore g k f w.i
    → PassesRight f g (w.here.right ∷ front) w record {
      i = w.i;
      j = k;
      here = record { left = record { x = last.x; at = w.here.left.at; line = w.here.left.line }; right = last };
    }
run_right f g rest run front last k w some N r t n e E =
    let m = run_length run front last e in
    passes_right f g front (drop (k - w.j) rest) last w _ N (run_to g rest run front w.j k last r t e) (λ n' p l h. E n' p (omega (arith, l, m, n, some)) h) (omega (arith, m, n, some)) refl refl
    (moved_nothing w.here.left last.x N)
