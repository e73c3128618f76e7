-- How far the cells of a network are answered, where the touched ones are made anew in their order.
use Rattle.std.proofs.Common.{◌≡◌, ℕ, ◌<◌, ◌+◌, List, [], ◌∷◌, ◌++◌, length, take, drop, sum_by, sym, ap, ◌∙◌, subst, inl, inr, true, add-one, drop-cons, append_assoc, append-nil}
use Rattle.std.specs.Prelude.{◌≢◌, Some, Ok, Err, Contains}
use Rattle.std.proofs.lemmas.List.{get_or_default, take_more}
use Rattle.upp_limits.specs.declared.op_kind.OpFault.{OpFault}
use Rattle.upp_limits.specs.declared.op_kind.OpFault.TheVariants as operator
use Rattle.net_model.specs.Networks.{Net}
use Rattle.net_model.specs.Accepted.{IsAccepted}
use Rattle.net_model.specs.Orders.{IsOrder}
use Rattle.net_model.proofs.net_graph.OneOrders.{one_order}
use Rattle.net_cells.specs.declared.cell.Cell.{Cell}
use Rattle.net_cells.specs.Cells.{has_cell}
use Rattle.net_cells.specs.Order.{evaluation_order}
use Rattle.net_cells.specs.CellFormulas.{formula}
use Rattle.net_cells.specs.Meanings.{Meaning, CellTable}
use Rattle.net_cells.specs.Equations.{MeetsBelow}
use Rattle.net_cells.specs.FirstOver.{IsAnswered, AnswersAll, FirstOver}
use Rattle.net_cells.specs.Work.{work}
use Rattle.net_cells.specs.MemoryEnds.{EndsAt}
use Rattle.net_cells.proofs.Lists.{Has, contains_has, has_contains, has_either, has_left, has_right}
use Rattle.net_cells.proofs.Members.{in_order}
use Rattle.net_cells.proofs.Precedes.{in_front}
use Rattle.net_cells.proofs.Tables.{front_meets_below}
use Rattle.net_cells.specs.declared.cell_table.fault.AnalysisFault.{AnalysisFault}
use Rattle.net_cells.specs.cell_table.Gives.{Gives}
use Rattle.net_cells.specs.cell_table.Refusals.{fault_at}
use Rattle.net_cells.proofs.cell_table.Fronts.{no_cell, cell_at, at_place, grown}
use Rattle.net_cells.proofs.cell_table.GivesAnswers.{gives_over}
use Rattle.cell_rules.specs.cell_changes.Changes.{Touched, Untouched, TouchedOf, no_more, passed, taken}
use Rattle.cell_rules.specs.cell_changes.Laws.{AgreeAtUntouched}
use Rattle.cell_rules.specs.cell_changes.Slots.{HasSlot}
use Rattle.cell_rules.proofs.cell_changes.HasSlots.{slots_are_own}
use Rattle.cell_rules.proofs.cell_changes.CarriedOver.{not_both, answered_on, rule_of}
use Rattle.cell_rules.specs.cell_values.Edits.{AllAnswered, IsEditOf, IsFirst, IsFirstTouched, RefusesFor, SameButAt, EndsAtTouched}

-- ---- touched cells
-- every one of the touched cells is touched
pub are_touched : (old new : Net) (cells touched : List Cell) → TouchedOf old new cells touched → (c : Cell) → Has touched c
    → Touched old new c
are_touched old new _ _ no_more c h = absurd h
are_touched old new _ ts (passed d cells _ u p) c h = are_touched old new cells ts p c h
are_touched old new _ _ (taken d cells ts t p) c (inl e) = subst (λ (x : Cell). Touched old new x) e t
are_touched old new _ _ (taken d cells ts t p) c (inr h) = are_touched old new cells ts p c h

-- so a table that is the same but at these is the same at the untouched ones
pub same_untouched : (old new : Net) (cells touched : List Cell) (at other : CellTable) → TouchedOf old new cells touched
    → SameButAt touched at other → AgreeAtUntouched old new at other
same_untouched old new cells touched at other p same c u =
    same c (λ h. not_both old new c (are_touched old new cells touched p c (contains_has touched c h)) u)

-- some cells of the order are answered, the first i touched ones among them, and the other touched cells are the last ones
pub record Reached (old net : Net) (order : List ℕ) (at : CellTable) (touched : List Cell) (i : ℕ) : Type 0 where
  pub front : List Cell
  pub back : List Cell
  pub split : evaluation_order net order ≡ front ++ back
  pub are : TouchedOf old net back (drop i touched)
  pub answers : AnswersAll net at front
  pub inside : (c : Cell) → Has (take i touched) c → Has front c

-- the same, where the next cell is the first of these
pub record Next (old net : Net) (order : List ℕ) (at : CellTable) (touched : List Cell) (i : ℕ) : Type 0 where
  pub front : List Cell
  pub back : List Cell
  pub split : evaluation_order net order ≡ front ++ cell_at touched i ∷ back
  pub are : TouchedOf old net back (drop (i + 1) touched)
  pub answers : AnswersAll net at front
  pub inside : (c : Cell) → Has (take i touched) c → Has front c

module _ (old net : Net) (order : List ℕ) (before at : CellTable) (all : AllAnswered old before)
    (same : AgreeAtUntouched old net before at) where
  -- one untouched cell more
  past : (front : List Cell) (c : Cell) → Untouched old net c → AnswersAll net at front → AnswersAll net at (front ++ c ∷ [])
  past front c u h d m =
      elim (has_either front (c ∷ []) d (contains_has (front ++ c ∷ []) d m)) [
        | inl l ↦ h d (has_contains front d l)
        | inr r ↦ here d r
      ]
    where
      here : (e : Cell) → Has (c ∷ []) e → IsAnswered net at e
      here e (inl k) =
          subst (λ (x : Cell). IsAnswered net at x) k
          (answered_on old net before at c same u (all c (rule_of old net c u).before))
      here e (inr k) = absurd k

  onward : (front : List Cell) (c : Cell) (cells : List Cell) → evaluation_order net order ≡ front ++ c ∷ cells
      → evaluation_order net order ≡ (front ++ c ∷ []) ++ cells
  onward front c cells split = split ∙ sym (append_assoc front (c ∷ []) cells)

  to_next : (touched : List Cell) (i : ℕ) (front back ts : List Cell) → ts ≡ cell_at touched i ∷ drop (i + 1) touched
      → evaluation_order net order ≡ front ++ back → TouchedOf old net back ts → AnswersAll net at front
      → ((c : Cell) → Has (take i touched) c → Has front c) → Next old net order at touched i
  to_next touched i front _ _ e split no_more h inside = absurd (let bad : ⊥ = cc in bad)
  to_next touched i front _ ts e split (passed d cells _ u p) h inside =
      to_next touched i (front ++ d ∷ []) cells ts e (onward front d cells split) p (past front d u h)
      (λ c m. has_left front (d ∷ []) c (inside c m))
  to_next touched i front _ _ e split (taken d cells ts t p) h inside =
      let head : d ≡ cell_at touched i = cc in
      let rest : ts ≡ drop (i + 1) touched = cc in
      record {
        front = front;
        back = cells;
        split = split ∙ ap (λ (x : Cell). front ++ x ∷ cells) head;
        are = subst (λ (xs : List Cell). TouchedOf old net cells xs) rest p;
        answers = h;
        inside = inside;
      }

  to_end : (front back : List Cell) (ts : List Cell) → ts ≡ [] → evaluation_order net order ≡ front ++ back
      → TouchedOf old net back ts → AnswersAll net at front → AnswersAll net at (evaluation_order net order)
  to_end front _ _ e split no_more h =
      subst (λ (xs : List Cell). AnswersAll net at xs) (sym (split ∙ append-nil front)) h
  to_end front _ ts e split (passed d cells _ u p) h =
      to_end (front ++ d ∷ []) cells ts e (onward front d cells split) p (past front d u h)
  to_end front _ _ e split (taken d cells ts t p) h = absurd (let bad : ⊥ = cc in bad)

-- ---- at a place of the touched cells
next_at : (old net : Net) (order : List ℕ) (before at : CellTable) (touched : List Cell) (i : ℕ) → AllAnswered old before
    → AgreeAtUntouched old net before at → i < length touched → Reached old net order at touched i
    → Next old net order at touched i
next_at old net order before at touched i all same h r =
    let cons : drop i touched ≡ cell_at touched i ∷ drop (i + 1) touched =
    drop-cons touched i no_cell h ∙ ap (λ (n : ℕ). cell_at touched i ∷ drop n touched) (sym (add-one i)) in
    to_next old net order before at all same touched i r.front r.back (drop i touched) cons r.split r.are r.answers r.inside

-- so of an edit, where the other cells still are as they were
pub next_of : {net : Net} {touched : List Cell} {i : ℕ} {before at : CellTable} (edit : IsEditOf net touched before) → i < length touched
    → SameButAt touched before at → Reached edit.old net edit.order at touched i → Next edit.old net edit.order at touched i
next_of {net} {touched} {i} {before} {at} edit h same reached =
    next_at edit.old net edit.order before at touched i edit.answered
    (same_untouched edit.old net (evaluation_order net edit.order) touched before at edit.are same) h reached

-- the next cell made
pub made_at : (old net : Net) (order : List ℕ) (at more : CellTable) (touched : List Cell) (i : ℕ) (v : Meaning)
    → IsAccepted net → IsOrder net order → i < length touched → Next old net order at touched i
    → Gives at (formula net (cell_at touched i)) (Ok v) → more (cell_at touched i) ≡ Some v
    → ((d : Cell) → d ≢ cell_at touched i → more d ≡ at d) → Reached old net order more touched (i + 1)
made_at old net order at more touched i v a o h n gives put others =
    let c = cell_at touched i in
    let longer : take (i + 1) touched ≡ take i touched ++ c ∷ [] = take_more touched i no_cell h in
    record {
      front = n.front ++ c ∷ [];
      back = n.back;
      split = n.split ∙ sym (append_assoc n.front (c ∷ []) n.back);
      are = n.are;
      answers = grown net order at more n.front c n.back v a o n.split n.answers gives put others;
      inside = λ d m. elim (has_either (take i touched) (c ∷ []) d (subst (λ (xs : List Cell). Has xs d) longer m)) [
        | inl l ↦ has_left n.front (c ∷ []) d (n.inside d l)
        | inr r ↦ has_right n.front (c ∷ []) d r
      ];
    }

pub all_answered : (old net : Net) (order : List ℕ) (before at : CellTable) (touched : List Cell) (i : ℕ) → IsAccepted net
    → IsOrder net order → AllAnswered old before → AgreeAtUntouched old net before at → drop i touched ≡ []
    → Reached old net order at touched i → AllAnswered net at
all_answered old net order before at touched i a o all same none r c h =
    to_end old net order before at all same r.front r.back (drop i touched) none r.split r.are r.answers c
    (has_contains (evaluation_order net order) c (in_order net order c a o h))

-- a cell that is refused
first_at : (old net : Net) (order : List ℕ) (at : CellTable) (touched : List Cell) (i : ℕ) (fault : OpFault)
    → fault ≢ operator.NoMemory → IsOrder net order → Next old net order at touched i
    → Gives at (formula net (cell_at touched i)) (Err fault) → IsFirst net (cell_at touched i) fault
first_at old net order at touched i fault limit o n gives other p =
    let c = cell_at touched i in
    subst (λ (xs : List ℕ). FirstOver net xs c fault) (one_order net order other o p) (record {
      before = n.front;
      after = n.back;
      is = n.split;
      table = at;
      answered = n.answers;
      over = gives_over at (formula net c) fault limit gives;
      limit = limit;
    })

why : (old net : Net) (order : List ℕ) (at : CellTable) (touched : List Cell) (i : ℕ) (fault : OpFault)
    → Contains touched (cell_at touched i) → IsOrder net order → Next old net order at touched i
    → Gives at (formula net (cell_at touched i)) (Err fault)
    → RefusesFor (IsFirstTouched net touched) (fault_at (cell_at touched i) fault)
why old net order at touched i operator.TooMany among o n gives = record {
  among = among;
  first = first_at old net order at touched i operator.TooMany (λ e. cc) o n gives;
}
why old net order at touched i operator.TooWide among o n gives = record {
  among = among;
  first = first_at old net order at touched i operator.TooWide (λ e. cc) o n gives;
}
why old net order at touched i operator.NoMemory among o n gives = tt

pub refused : (old net : Net) (order : List ℕ) (at : CellTable) (touched : List Cell) (i : ℕ) (fault : OpFault)
    (fault_is : AnalysisFault) → fault_is ≡ fault_at (cell_at touched i) fault → i < length touched → IsOrder net order
    → Next old net order at touched i → Gives at (formula net (cell_at touched i)) (Err fault)
    → RefusesFor (IsFirstTouched net touched) fault_is
refused old net order at touched i fault fault_is e h o n gives =
    subst (λ (w : AnalysisFault). RefusesFor (IsFirstTouched net touched) w) (sym e)
    (why old net order at touched i fault (i, h, get_or_default touched i (cell_at touched i) no_cell h) o n gives)

-- ---- what the next cell needs
module _ {old net : Net} {order : List ℕ} {at : CellTable} {touched : List Cell} {i : ℕ} (a : IsAccepted net) (o : IsOrder net order)
    (n : Next old net order at touched i) where
  pub next_is_cell : has_cell net (cell_at touched i) ≡ true
  next_is_cell = in_front net order n.front (cell_at touched i) n.back n.split

  pub next_below : MeetsBelow net at (cell_at touched i)
  next_below = front_meets_below net order at a o n.front n.back (cell_at touched i) n.split n.answers

  pub next_has_slot : HasSlot (cell_at touched i)
  next_has_slot = slots_are_own.has net (cell_at touched i) a next_is_cell

pub still_others : (touched : List Cell) (i : ℕ) (before at more : CellTable) → i < length touched
    → SameButAt touched before at → ((d : Cell) → d ≢ cell_at touched i → more d ≡ at d) → SameButAt touched before more
still_others touched i before at more h same others c out =
    others c (λ e. out (i, h, get_or_default touched i c no_cell h ∙ sym e)) ∙ same c out

-- ---- want of memory at the next cell, where so many operators are counted for it
pub ends_at : (old net : Net) (order : List ℕ) (before at : CellTable) (touched : List Cell) (i counted n : ℕ) → i < length touched
    → SameButAt touched before at → Next old net order at touched i → EndsAt at (formula net (cell_at touched i)) counted
    → n ≡ sum_by (work net) (take i touched) + counted → EndsAtTouched net touched before n
ends_at old net order before at touched i counted n h same next ends count = record {
  ends = record {
    before = take i touched;
    cell = cell_at touched i;
    after = drop (i + 1) touched;
    is = at_place touched i h;
    table = at;
    answered = λ d m. next.answers d (has_contains next.front d (next.inside d (contains_has (take i touched) d m)));
    counted = counted;
    ends = ends;
    count = count;
  };
  others = same;
}
