-- Edits in turn: one more, and what is left of their work.
use Rattle.std.proofs.Common.{◌≡◌, ℕ, suc, get_or, take, drop-cons, add-one, ◌+◌, ◌<◌, ◌≤◌, List, [], ◌∷◌, ◌++◌, length, drop, refl, sym, ap, ◌∙◌, subst, arith}
use Rattle.std.specs.Prelude.{Result, Err, OnOk}
use Rattle.std.proofs.lemmas.List.{length_push, take_more}
use Rattle.net_model.specs.declared.edit.Edit.{Edit}
use Rattle.commands.specs.edit_report.Said.{EditSaid}
use Rattle.commands.specs.edit.NetHistories.{NetHistory}
use Rattle.commands.specs.edit.Answered.{IsAnswered, Taken, Undone, Refused, AreAnswered}
use Rattle.cell_store.specs.edit_store.Applied.{IsWorkOf}
use Rattle.commands.specs.edit.EditCounts.{IsTakenWork, CountsOnEdit, WorkOfEdits, CountsInTurn}
use Rattle.commands.proofs.edit.NextOne.{next_is_one}

-- ---- answers
pub answered_more : (old : NetHistory) (edits : List Edit) (answers : List EditSaid) (mid : NetHistory) (edit : Edit)
    (said : EditSaid) (new : NetHistory) → AreAnswered old edits answers mid → IsAnswered mid edit said new
    → AreAnswered old (edits ++ edit ∷ []) (answers ++ said ∷ []) new
answered_more old [] [] mid edit said new are one =
    record { next = new; first = subst (λ (h : NetHistory). IsAnswered h edit said new) are one; rest = refl }
answered_more old [] (a ∷ rest) mid edit said new are one = absurd are
answered_more old (e ∷ es) [] mid edit said new are one = absurd are
answered_more old (e ∷ es) (a ∷ rest) mid edit said new are one = record {
  next = are.next;
  first = are.first;
  rest = answered_more are.next es rest mid edit said new are.rest one;
}

-- an edit takes the history one network deeper at most
pub no_deeper : (old : NetHistory) (edit : Edit) (said : EditSaid) (new : NetHistory) → IsAnswered old edit said new
    → length new.before ≤ length old.before + 1
no_deeper old edit said new (Taken h) =
    omega (arith, ap length h.before, length_push old.before old.present)
no_deeper old edit said new (Undone h) =
    omega (arith, ap length h.back, length_push new.before new.present)
no_deeper old edit said new (Refused h) = omega (arith, ap (λ (x : NetHistory). length x.before) h.same)

-- ---- work
-- the work of the edits that are left, beside the steps that were taken
pub record IsLeft (now : NetHistory) (rest : List Edit) (before after all done : ℕ) : Type 0 where
  pub rest_all : ℕ
  pub rest_done : ℕ
  pub works : WorkOfEdits now rest rest_all rest_done
  pub most : after + rest_all ≤ before + all
  pub least : before + done ≤ after + rest_done

abbrev pub LeavesWork : NetHistory → List Edit → NetHistory → List Edit → (before after : ℕ) → Type 0
LeavesWork old edits now rest before after =
    (all done : ℕ) → WorkOfEdits old edits all done → IsLeft now rest before after all done

pub all_left : (old : NetHistory) (edits : List Edit) (count : ℕ) → LeavesWork old edits old edits count count
all_left old edits count all done w =
    record { rest_all = all; rest_done = done; works = w; most = omega arith; least = omega arith }

pub one_less : (now next : NetHistory) (edit : Edit) (edits : List Edit) (said : EditSaid) (before mid after all done : ℕ)
    → IsAnswered now edit said next → CountsOnEdit now edit next mid after → IsLeft now (edit ∷ edits) before mid all done
    → IsLeft next edits before after all done
one_less now next edit edits said before mid after all done answered steps left =
    let first = left.works in
    let same : first.next ≡ next = next_is_one now edit first.said said first.next next first.answered answered in
    let taken : IsTakenWork now edit next first.count first.taken =
    subst (λ (h : NetHistory). IsTakenWork now edit h first.count first.taken) same first.is_taken in
    let most = steps.most first.count first.is_count in
    let least = steps.least first.count first.taken first.is_count taken in
    record {
      rest_all = first.rest_all;
      rest_done = first.rest_done;
      works = subst (λ (h : NetHistory). WorkOfEdits h edits first.rest_all first.rest_done) same first.rest;
      most = omega (arith, left.most, most, first.sum_all);
      least = omega (arith, left.least, least, first.sum_done);
    }

-- an edit for which there is no answer
cut_short : (now : NetHistory) (edit : Edit) (edits : List Edit) (before mid after all done : ℕ)
    → ((count : ℕ) → IsWorkOf now.present edit count → after ≤ mid + count)
    → IsLeft now (edit ∷ edits) before mid all done → after ≤ before + all
cut_short now edit edits before mid after all done most left =
    let first = left.works in
    let here = most first.count first.is_count in
    omega (arith, left.most, here, first.sum_all)

pub at_most : (now : NetHistory) (rest : List Edit) (before after all done : ℕ) → IsLeft now rest before after all done
    → after ≤ before + all
at_most now rest before after all done left = omega (arith, left.most)

pub none_left : (now : NetHistory) (before after all done : ℕ) → IsLeft now [] before after all done
    → before + done ≤ after
none_left now before after all done left = omega (arith, left.least, left.works.1)

-- ---- one place further
pub answered_at : (old : NetHistory) (edits : List Edit) (i : ℕ) (edit : Edit) (answers : List EditSaid)
    (mid : NetHistory) (said : EditSaid) (new : NetHistory) → i < length edits → edit ≡ get_or edits i edit
    → AreAnswered old (take i edits) answers mid → IsAnswered mid edit said new
    → AreAnswered old (take (i + 1) edits) (answers ++ said ∷ []) new
answered_at old edits i edit answers mid said new h is are one =
    let more : take (i + 1) edits ≡ take i edits ++ edit ∷ [] =
    take_more edits i edit h ∙ ap (λ (e : Edit). take i edits ++ e ∷ []) (sym is) in
    subst (λ (es : List Edit). AreAnswered old es (answers ++ said ∷ []) new) (sym more)
    (answered_more old (take i edits) answers mid edit said new are one)

pub rest_at : (edits : List Edit) (i : ℕ) (edit : Edit) → i < length edits → edit ≡ get_or edits i edit
    → drop i edits ≡ edit ∷ drop (i + 1) edits
rest_at edits i edit h is =
    drop-cons edits i edit h ∙ ap (λ (e : Edit). e ∷ drop (suc i) edits) (sym is)
    ∙ ap (λ (n : ℕ). edit ∷ drop n edits) (sym (add-one i))

pub cut_at : (now : NetHistory) (edits : List Edit) (i : ℕ) (edit : Edit) (before mid after all done : ℕ)
    → i < length edits → edit ≡ get_or edits i edit
    → ((count : ℕ) → IsWorkOf now.present edit count → after ≤ mid + count)
    → IsLeft now (drop i edits) before mid all done → after ≤ before + all
cut_at now edits i edit before mid after all done h is most left =
    cut_short now edit (drop (i + 1) edits) before mid after all done most
    (subst (λ (es : List Edit). IsLeft now es before mid all done) (rest_at edits i edit h is) left)

-- ---- edits for which there is no answer
pub counts_cut : {A E : Type 0} (old : NetHistory) (edits : List Edit) (before after : ℕ) (r : Result A E) (fault : E) → r ≡ Err fault
    → before ≤ after → ((all done : ℕ) → WorkOfEdits old edits all done → after ≤ before + all) → CountsInTurn old edits before after r
counts_cut {A} {E} old edits before after r fault is rises most = record {
  rises = rises;
  most = most;
  least = subst (λ (s : Result A E). OnOk s ((all done : ℕ) → WorkOfEdits old edits all done → before + done ≤ after)) (sym is) tt;
}
