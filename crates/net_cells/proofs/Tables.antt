-- Tables that are right on a front of the order agree there; so one cell is the first over a limit.
use Rattle.std.proofs.Common.{◌≡◌, ℕ, List, [], ◌∷◌, ◌++◌, refl, sym, ap, ◌∙◌, subst, inl, inr, append_assoc, append-nil}
use Rattle.std.specs.Prelude.{Some, Ok, Err}
use Rattle.upp_limits.specs.declared.op_kind.OpFault.{OpFault}
use Rattle.upp_limits.specs.declared.op_kind.OpFault.TheVariants.{NoMemory}
use Rattle.net_model.specs.Networks.{Net}
use Rattle.net_model.specs.Accepted.{IsAccepted}
use Rattle.net_model.specs.Orders.{IsOrder}
use Rattle.net_cells.specs.declared.cell.Cell.{Cell}
use Rattle.net_cells.specs.Order.{evaluation_order}
use Rattle.net_cells.specs.Formulas.{leaves}
use Rattle.net_cells.specs.CellFormulas.{formula}
use Rattle.net_cells.specs.Meanings.{CellTable}
use Rattle.net_cells.specs.Answers.{Answers}
use Rattle.net_cells.specs.Equations.{MeetsEquation}
use Rattle.net_cells.specs.FirstOver.{IsAnswered, FirstOver}
use Rattle.net_cells.specs.Laws.{TablesAgree, AnswersMeetEquations, FrontMeetsBelow, OneIsFirstOver}
use Rattle.net_cells.proofs.OneMeaning.{means_one}
use Rattle.net_cells.proofs.OneAnswer.{answers_one}
use Rattle.net_cells.proofs.AnswersMean.{answers_mean}
use Rattle.net_cells.proofs.SameLeaves.{AgreeOn, means_same, answers_same}
use Rattle.net_cells.proofs.Members.{in_order, order_has}
use Rattle.net_cells.proofs.Precedes.{leaf_in_front, in_front}
use Rattle.run_laws.proofs.Members.{Has, has_left, has_right, has_either, contains_has, has_contains}

-- ---- on a front of the order
abbrev MeetOn : Net → CellTable → List Cell → Type 0
MeetOn net at cells = (c : Cell) → Has cells c → MeetsEquation net at c

pub answered_meets : (net : Net) (at : CellTable) (c : Cell) → IsAnswered net at c → MeetsEquation net at c
answered_meets net at c a = record
    { value = a.value; is = a.is; means = answers_mean at (formula net c) a.value a.answers }

-- one more cell
agree_at : (net : Net) (order : List ℕ) (at other : CellTable) (front : List Cell) (c : Cell) (back : List Cell)
    → IsAccepted net
    → IsOrder net order → evaluation_order net order ≡ front ++ c ∷ back → AgreeOn front at other
    → MeetsEquation net at c
    → MeetsEquation net other c → at c ≡ other c
agree_at net order at other front c back a o e same m n =
    let read : AgreeOn (leaves (formula net c)) at other =
    λ d h. same d (leaf_in_front net order front c back d a o e h) in
    let moved = means_same at other (formula net c) m.value read m.means in
    m.is ∙ ap Some (means_one other (formula net c) m.value n.value moved n.means) ∙ sym n.is

-- a front that grows
agree_from : (net : Net) (order : List ℕ) (at other : CellTable) (front middle back : List Cell) → IsAccepted net
    → IsOrder net order → evaluation_order net order ≡ front ++ (middle ++ back) → AgreeOn front at other
    → MeetOn net at middle → MeetOn net other middle → AgreeOn (front ++ middle) at other
agree_from net order at other front [] back a o e same m n =
    subst (λ (cs : List Cell). AgreeOn cs at other) (sym (append-nil front)) same
agree_from net order at other front (c ∷ cs) back a o e same m n =
    let here = agree_at net order at other front c (cs ++ back) a o e same (m c (inl refl)) (n c (inl refl)) in
    let grown : AgreeOn (front ++ c ∷ []) at other =
    λ d h. elim (has_either front (c ∷ []) d h) [ inl l ↦ same d l | inr r ↦ one d r here ] in
    let split : evaluation_order net order ≡ (front ++ c ∷ []) ++ (cs ++ back) =
    e ∙ sym (append_assoc front (c ∷ []) (cs ++ back)) in
    let all = agree_from net order at other (front ++ c ∷ []) cs back a o split grown (λ d h. m d (inr h))
    (λ d h. n d (inr h)) in
    subst (λ (ds : List Cell). AgreeOn ds at other) (append_assoc front (c ∷ []) cs) all
  where
    one : (d : Cell) → Has (c ∷ []) d → at c ≡ other c → at d ≡ other d
    one d (inl is) here = subst (λ (x : Cell). at x ≡ other x) is here
    one d (inr bad) here = absurd bad

agree_on : (net : Net) (order : List ℕ) (at other : CellTable) (front back : List Cell) → IsAccepted net
    → IsOrder net order
    → evaluation_order net order ≡ front ++ back → MeetOn net at front → MeetOn net other front → AgreeOn front at other
agree_on net order at other front back a o e m n =
    agree_from net order at other [] front back a o e (λ c h. absurd h) m n

-- ---- whole tables
pub tables_agree : TablesAgree
tables_agree net order at other a o m n c h =
    agree_on net order at other (evaluation_order net order) [] a o (sym (append-nil (evaluation_order net order)))
    (λ d k. m d (order_has net order d k)) (λ d k. n d (order_has net order d k)) c (in_order net order c a o h)

pub answers_meet : AnswersMeetEquations
answers_meet net order at a o all c h =
    answered_meets net at c (all c (has_contains (evaluation_order net order) c (in_order net order c a o h)))

-- ---- a front and the cell after it
split_at : (front : List Cell) (d : Cell) → Has front d → (before after : List Cell) × (front ≡ before ++ d ∷ after)
split_at [] d h = absurd h
split_at (c ∷ cs) d (inl e) = ([], cs, ap (λ (x : Cell). x ∷ cs) e)
split_at (c ∷ cs) d (inr h) = let found =
    split_at cs d h in (c ∷ found.0, found.1, ap (λ (xs : List Cell). c ∷ xs) found.2)

-- what a cell of a front is made of is in the front
pub closed_front : (net : Net) (order : List ℕ) (front : List Cell) (c : Cell) (back : List Cell) (d e : Cell)
    → IsAccepted net
    → IsOrder net order → evaluation_order net order ≡ front ++ c ∷ back → Has front d → Has (leaves (formula net d)) e
    → Has front e
closed_front net order front c back d e a o is h m =
    let part = split_at front d h in
    let whole : evaluation_order net order ≡ part.0 ++ d ∷ (part.1 ++ c ∷ back) =
    is ∙ ap (λ (xs : List Cell). xs ++ c ∷ back) part.2 ∙ append_assoc part.0 (d ∷ part.1) (c ∷ back) in
    let found = leaf_in_front net order part.0 d (part.1 ++ c ∷ back) e a o whole m in
    subst (λ (xs : List Cell). Has xs e) (sym part.2) (has_left part.0 (d ∷ part.1) e found)

pub front_meets_below : FrontMeetsBelow
front_meets_below net order at a o front back c is all = record {
  cells = front;
  operands = λ d m. has_contains front d
      (leaf_in_front net order front c back d a o is (contains_has (leaves (formula net c)) d m));
  closed = λ d e h m. has_contains front e (closed_front net order front c back d e a o is (contains_has front d h)
      (contains_has (leaves (formula net d)) e m));
  meet = λ d h. answered_meets net at d (all d h);
}

-- ---- the first over a limit
-- a cell over a limit by the table of the cells before it is so by any table that is right on them, and has no answer there
pub over_by : (net : Net) (order : List ℕ) (c : Cell) (fault : OpFault) (at : CellTable) → IsAccepted net → IsOrder net order
    → (first : FirstOver net order c fault) → ((d : Cell) → Has first.before d → IsAnswered net at d)
    → Answers at (formula net c) (Err fault)
over_by net order c fault at a o first all =
    let same : AgreeOn first.before first.table at =
    agree_on net order first.table at first.before (c ∷ first.after) a o first.is
    (λ d h. answered_meets net first.table d (first.answered d (has_contains first.before d h)))
    (λ d h. answered_meets net at d (all d h)) in
    let read : AgreeOn (leaves (formula net c)) first.table at =
    λ d h. same d (leaf_in_front net order first.before c first.after d a o first.is h) in
    answers_same first.table at (formula net c) (Err fault) read first.over

pub over_answered : (net : Net) (order : List ℕ) (c : Cell) (fault : OpFault) (at : CellTable) → IsAccepted net
    → IsOrder net order
    → (first : FirstOver net order c fault) → ((d : Cell) → Has first.before d → IsAnswered net at d)
    → ¬ (IsAnswered net at c)
over_answered net order c fault at a o first all answered =
    let bad : Err fault ≡ Ok answered.value =
    answers_one at (formula net c) (Err fault) (Ok answered.value) (over_by net order c fault at a o first all) answered.answers
    (λ k. first.limit (let one : fault ≡ NoMemory = cc in one)) (λ k. cc) in
    cc

-- two places in one list: the same, or one after the other
pub data Places (xs : List Cell) (c : Cell) (zs : List Cell) (d : Cell) : Type 0 where
  same : xs ≡ zs → c ≡ d → Places xs c zs d
  sooner : (us : List Cell) → zs ≡ xs ++ c ∷ us → Places xs c zs d
  later : (us : List Cell) → xs ≡ zs ++ d ∷ us → Places xs c zs d

onward : (x : Cell) (xs : List Cell) (c : Cell) (zs : List Cell) (d : Cell) → Places xs c zs d
    → Places (x ∷ xs) c (x ∷ zs) d
onward x xs c zs d (same e f) = same (ap (λ (us : List Cell). x ∷ us) e) f
onward x xs c zs d (sooner us e) = sooner us (ap (λ (vs : List Cell). x ∷ vs) e)
onward x xs c zs d (later us e) = later us (ap (λ (vs : List Cell). x ∷ vs) e)

pub places : (xs : List Cell) (c : Cell) (ys zs : List Cell) (d : Cell) (ws : List Cell) → xs ++ c ∷ ys ≡ zs ++ d ∷ ws
    → Places xs c zs d
places [] c ys [] d ws e = same refl cc
places [] c ys (z ∷ zs) d ws e = sooner zs (let head : c ≡ z = cc in ap (λ (x : Cell). x ∷ zs) (sym head))
places (x ∷ xs) c ys [] d ws e = later xs (let head : x ≡ d = cc in ap (λ (y : Cell). y ∷ xs) head)
places (x ∷ xs) c ys (z ∷ zs) d ws e =
    let head : x ≡ z = cc in
    let rest : xs ++ c ∷ ys ≡ zs ++ d ∷ ws = cc in
    subst (λ (y : Cell). Places (x ∷ xs) c (y ∷ zs) d) head (onward x xs c zs d (places xs c ys zs d ws rest))

-- one that stands before the other is answered there
not_sooner : (net : Net) (order : List ℕ) (c d : Cell) (e f : OpFault) → IsAccepted net → IsOrder net order
    → (p : FirstOver net order c e) → (q : FirstOver net order d f) → (us : List Cell)
    → ¬ (q.before ≡ p.before ++ c ∷ us)
not_sooner net order c d e f a o p q us is =
    over_answered net order c e q.table a o p
    (λ x h. q.answered x (has_contains q.before x
    (subst (λ (xs : List Cell). Has xs x) (sym is) (has_left p.before (c ∷ us) x h))))
    (q.answered c (has_contains q.before c
    (subst (λ (xs : List Cell). Has xs c) (sym is) (has_right p.before (c ∷ us) c (inl refl)))))

one_cell : (net : Net) (order : List ℕ) (c d : Cell) (e f : OpFault) → IsAccepted net → IsOrder net order
    → (p : FirstOver net order c e) → (q : FirstOver net order d f) → (p.before ≡ q.before) × (c ≡ d)
one_cell net order c d e f a o p q = by (places p.before c p.after q.before d q.after (sym p.is ∙ q.is))
  where
    by : Places p.before c q.before d → (p.before ≡ q.before) × (c ≡ d)
    by (same s t) = (s, t)
    by (sooner us s) = absurd (not_sooner net order c d e f a o p q us s)
    by (later us s) = absurd (not_sooner net order d c f e a o q p us s)

-- the same cell, after the same ones
one_fault : (net : Net) (order : List ℕ) (c : Cell) (e f : OpFault) → IsAccepted net → IsOrder net order
    → (p : FirstOver net order c e) → (q : FirstOver net order c f) → p.before ≡ q.before → e ≡ f
one_fault net order c e f a o p q is =
    let same : AgreeOn p.before p.table q.table =
    agree_on net order p.table q.table p.before (c ∷ p.after) a o p.is
    (λ d h. answered_meets net p.table d (p.answered d (has_contains p.before d h)))
    (λ d h. answered_meets net q.table d
    (q.answered d (has_contains q.before d (subst (λ (xs : List Cell). Has xs d) is h)))) in
    let read : AgreeOn (leaves (formula net c)) p.table q.table =
    λ d h. same d (leaf_in_front net order p.before c p.after d a o p.is h) in
    let over = answers_same p.table q.table (formula net c) (Err e) read p.over in
    let both : Err e ≡ Err f =
    answers_one q.table (formula net c) (Err e) (Err f) over q.over
    (λ k. p.limit (let one : e ≡ NoMemory = cc in one)) (λ k. q.limit (let one : f ≡ NoMemory = cc in one)) in
    cc

pub one_is_first_over : OneIsFirstOver
one_is_first_over = record {
  cell = λ net order c d e f a o p q. (one_cell net order c d e f a o p q).1;
  fault = λ net order c d e f a o p q. let both = one_cell net order c d e f a o p q in
      by net order c d e f a o p q both.0 both.1;
  exists = λ net order c e p. in_front net order p.before c p.after p.is;
  alone = λ net order c e at a o p all. over_answered net order c e at a o p
      (λ d h. all d (has_contains (evaluation_order net order) d
      (subst (λ (xs : List Cell). Has xs d) (sym p.is) (has_left p.before (c ∷ p.after) d h))))
      (all c (has_contains (evaluation_order net order) c
      (subst (λ (xs : List Cell). Has xs c) (sym p.is) (has_right p.before (c ∷ p.after) c (inl refl)))));
}
  where
    by : (net : Net) (order : List ℕ) (c d : Cell) (e f : OpFault) → IsAccepted net → IsOrder net order
        → (p : FirstOver net order c e) → (q : FirstOver net order d f) → p.before ≡ q.before → c ≡ d → e ≡ f
    by net order c d e f a o p q is one =
        let go : (x : Cell) → c ≡ x → (r : FirstOver net order x f) → p.before ≡ r.before → e ≡ f =
        λ x k. subst (λ (y : Cell). (r : FirstOver net order y f) → p.before ≡ r.before → e ≡ f) k
        (λ r i. one_fault net order c e f a o p r i) in
        go d one q is
