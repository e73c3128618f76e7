-- What an edit leaves untouched keeps its values.
use Rattle.std.proofs.Common.{◌≡◌, ◌≢◌, ◌⊎◌, List, [], ◌∷◌, refl, sym, ap, ◌∙◌, subst, inl, inr}
use Rattle.std.specs.Prelude.{false, Some, Ok, Err, IsTrue, Contains}
use Rattle.upp_limits.specs.declared.op_kind.OpFault.{OpFault}
use Rattle.upp_limits.specs.declared.op_kind.OpFault.TheVariants.{NoMemory}
use Rattle.net_model.specs.Networks.{Net}
use Rattle.net_cells.specs.declared.cell.Cell.{Cell}
use Rattle.net_cells.specs.Cells.{has_cell}
use Rattle.net_cells.specs.Formulas.{Formula, leaves}
use Rattle.net_cells.specs.CellFormulas.{formula}
use Rattle.net_cells.specs.Meanings.{Meaning, CellTable}
use Rattle.net_cells.specs.Means.{Means}
use Rattle.net_cells.specs.Answers.{Answers}
use Rattle.net_cells.specs.Equations.{MeetsEquation, MeetsEquations, MeetsBelow}
use Rattle.net_cells.specs.FirstOver.{IsAnswered}
use Rattle.net_cells.proofs.Lists.{has_contains}
use Rattle.net_cells.proofs.OneMeaning.{means_one}
use Rattle.net_cells.proofs.OneAnswer.{answers_one}
use Rattle.net_cells.proofs.SameLeaves.{AgreeOn, means_same, answers_same}
use Rattle.net_cells.proofs.Tables.{front_meets_below, answered_meets}
use Rattle.cell_rules.specs.cell_changes.Changes.{HasSameRule, IsChanged, Touched, changed, made_of, Untouched, untouched, TouchedOf, no_more, passed, taken}
use Rattle.cell_rules.specs.cell_changes.Laws.{NoneIsBoth, AgreeAtUntouched, UntouchedStay, UntouchedCarryOver, TouchedAnswersSuffice, FirstOverIsTouched, OneTouchedList}

module _ (old new : Net) where
  pub rule_of : (c : Cell) → Untouched old new c → HasSameRule old new c
  rule_of c (untouched _ rule below) = rule

  pub below_of : (c : Cell) → Untouched old new c → (d : Cell) → Contains (leaves (formula new c)) d → Untouched old new d
  below_of c (untouched _ rule below) = below

  -- ---- no cell is both
  not_changed : (c : Cell) → HasSameRule old new c → IsChanged old new c → ⊥
  not_changed c rule (inl none) = let absent : has_cell old c ≡ false = none in cc (rule.before)
  not_changed c rule (inr differs) = differs rule.same

  pub not_both : (c : Cell) → Touched old new c → Untouched old new c → ⊥
  not_both c (changed _ has is) u = not_changed c (rule_of c u) is
  not_both c (made_of _ d has m t) u = not_both d t (below_of c u d m)

  pub touched_has : (c : Cell) → Touched old new c → IsTrue (has_cell new c)
  touched_has c (changed _ has is) = has
  touched_has c (made_of _ d has m t) = has

  -- ---- values
  -- the tables agree at what an untouched cell is made of
  agree_below : (at other : CellTable) (c : Cell) → AgreeAtUntouched old new at other → Untouched old new c
      → AgreeOn (leaves (formula new c)) at other
  agree_below at other c same u d h = sym (same d (below_of c u d (has_contains (leaves (formula new c)) d h)))

  moved : (at : CellTable) (c : Cell) (v : Meaning) → Untouched old new c → Means at (formula old c) v → Means at (formula new c) v
  moved at c v u m = subst (λ (F : Formula). Means at F v) (rule_of c u).same m

  pub meets_on : (at other : CellTable) (c : Cell) → AgreeAtUntouched old new at other → Untouched old new c
      → MeetsEquation old at c → MeetsEquation new other c
  meets_on at other c same u m = record {
    value = m.value;
    is = same c u ∙ m.is;
    means = means_same at other (formula new c) m.value (agree_below at other c same u) (moved at c m.value u m.means);
  }

  pub answered_on : (at other : CellTable) (c : Cell) → AgreeAtUntouched old new at other → Untouched old new c
      → IsAnswered old at c → IsAnswered new other c
  answered_on at other c same u m = record {
    value = m.value;
    is = same c u ∙ m.is;
    answers = answers_same at other (formula new c) (Ok m.value) (agree_below at other c same u)
        (subst (λ (F : Formula). Answers at F (Ok m.value)) (rule_of c u).same m.answers);
  }

  -- one cell keeps its value where those that it is made of do
  stays_at : (at other : CellTable) (c : Cell) → Untouched old new c → AgreeOn (leaves (formula new c)) at other
      → MeetsEquation old at c → MeetsEquation new other c → other c ≡ at c
  stays_at at other c u read m n =
      let over = means_same at other (formula new c) m.value read (moved at c m.value u m.means) in
      n.is ∙ (ap Some (sym (means_one other (formula new c) m.value n.value over n.means)) ∙ sym m.is)

  pub stay : (at other : CellTable) → MeetsEquations old at → MeetsEquations new other → (c : Cell) → Untouched old new c
      → other c ≡ at c
  stay at other m n c (untouched _ rule below) =
      stays_at at other c (untouched c rule below)
      (λ d h. sym (stay at other m n d (below d (has_contains (leaves (formula new c)) d h))))
      (m c rule.before) (n c rule.after)

  pub suffice : (at other : CellTable) (c : Cell) → ((d : Cell) → IsTrue (has_cell old d) → IsAnswered old at d)
      → AgreeAtUntouched old new at other → Touched old new c ⊎ Untouched old new c
      → (Touched old new c → IsAnswered new other c) → IsAnswered new other c
  suffice at other c all same (inl t) made = made t
  suffice at other c all same (inr u) made = answered_on at other c same u (all c (rule_of c u).before)

  -- ---- the first over a limit
  -- a table that is right on what a cell is made of has the old values at the untouched ones
  same_in : (at other : CellTable) (cells : List Cell) → ((d : Cell) → IsTrue (has_cell old d) → MeetsEquation old at d)
      → ((d e : Cell) → Contains cells d → Contains (leaves (formula new d)) e → Contains cells e)
      → ((d : Cell) → Contains cells d → MeetsEquation new other d) → (c : Cell) → Untouched old new c → Contains cells c
      → other c ≡ at c
  same_in at other cells m closed n c (untouched _ rule below) h =
      stays_at at other c (untouched c rule below)
      (λ d k. let leaf = has_contains (leaves (formula new c)) d k in
      sym (same_in at other cells m closed n d (below d leaf) (closed c d h leaf)))
      (m c rule.before) (n c h)

  over_touched : (at other : CellTable) (c : Cell) (fault : OpFault) → fault ≢ NoMemory
      → ((d : Cell) → IsTrue (has_cell old d) → IsAnswered old at d) → MeetsBelow new other c
      → Answers other (formula new c) (Err fault) → Untouched old new c → ⊥
  over_touched at other c fault limit all below over u =
      let rule = rule_of c u in
      let read : AgreeOn (leaves (formula new c)) other at =
      λ d h. let leaf = has_contains (leaves (formula new c)) d h in
      same_in at other below.cells (λ e k. answered_meets old at e (all e k)) below.closed below.meet d (below_of c u d leaf) (below.operands d leaf) in
      let here = all c rule.before in
      let err = answers_same other at (formula new c) (Err fault) read over in
      let ok : Answers at (formula new c) (Ok here.value) = subst (λ (F : Formula). Answers at F (Ok here.value)) rule.same here.answers in
      let bad : Err fault ≡ Ok here.value =
      answers_one at (formula new c) (Err fault) (Ok here.value) err ok
      (λ k. limit (let one : fault ≡ NoMemory = cc in one)) (λ k. cc) in
      cc

pub none_is_both : NoneIsBoth
none_is_both = not_both

pub untouched_stay : UntouchedStay
untouched_stay = stay

pub untouched_carry_over : UntouchedCarryOver
untouched_carry_over = record { meets = meets_on; answered = answered_on }

pub touched_answers_suffice : TouchedAnswersSuffice
touched_answers_suffice old new at other cells all same split made =
    λ c h. suffice old new at other c all same (split c h) (made c h)

pub first_over_is_touched : FirstOverIsTouched
first_over_is_touched old new order at c fault a o all first =
    over_touched old new at first.table c fault first.limit all
    (front_meets_below new order first.table a o first.before first.after c first.is first.answered) first.over

-- ---- lists of touched cells
module _ (old new : Net) where
  none_of : (us : List Cell) → TouchedOf old new [] us → [] ≡ us
  none_of _ no_more = refl

  after_passed : (c : Cell) (cells ts us : List Cell) → Untouched old new c
      → ((vs : List Cell) → TouchedOf old new cells vs → ts ≡ vs) → TouchedOf old new (c ∷ cells) us → ts ≡ us
  after_passed c cells ts us u rest (passed _ _ _ v q) = rest us q
  after_passed c cells ts _ u rest (taken _ _ vs t q) = absurd (not_both old new c t u)

  after_taken : (c : Cell) (cells ts us : List Cell) → Touched old new c
      → ((vs : List Cell) → TouchedOf old new cells vs → ts ≡ vs) → TouchedOf old new (c ∷ cells) us → c ∷ ts ≡ us
  after_taken c cells ts us t rest (passed _ _ _ v q) = absurd (not_both old new c t v)
  after_taken c cells ts _ t rest (taken _ _ vs w q) = ap (λ (xs : List Cell). c ∷ xs) (rest vs q)

  one_list : (cells ts us : List Cell) → TouchedOf old new cells ts → TouchedOf old new cells us → ts ≡ us
  one_list _ _ us no_more q = none_of us q
  one_list _ ts us (passed c cells _ u p) q = after_passed c cells ts us u (λ vs r. one_list cells ts vs p r) q
  one_list _ _ us (taken c cells ts t p) q = after_taken c cells ts us t (λ vs r. one_list cells ts vs p r) q

pub one_touched_list : OneTouchedList
one_touched_list = one_list
