-- Where memory is wanting in an analysis, the operator that is over its limit is not counted yet.
use Rattle.std.proofs.Common.{◌≡◌, ℕ, ◌<◌, ◌≤◌, List, ◌∷◌, ◌++◌, refl, sym, ap, ◌∙◌, subst, arith, inl, inr}
use Rattle.std.specs.Prelude.{◌≢◌, Ok, Err, sum_by}
use Rattle.std.proofs.lemmas.List.Sums.{sum_by-append, sum_by-cons}
use Rattle.upp_limits.specs.declared.op_kind.OpFault.{OpFault}
use Rattle.upp_limits.specs.declared.op_kind.OpFault.TheVariants.{NoMemory}
use Rattle.net_model.specs.Networks.{Net}
use Rattle.net_model.specs.Accepted.{IsAccepted}
use Rattle.net_model.specs.Orders.{IsOrder}
use Rattle.net_cells.specs.declared.cell.Cell.{Cell}
use Rattle.net_cells.specs.Order.{evaluation_order}
use Rattle.net_cells.specs.Formulas.{Formula, operators}
use Rattle.net_cells.specs.CellFormulas.{formula}
use Rattle.net_cells.specs.Meanings.{CellTable}
use Rattle.net_cells.specs.Answers.{Answers}
use Rattle.net_cells.specs.Refusals.{RefusedAt}
use Rattle.net_cells.specs.FirstOver.{AnswersAll, FirstOver}
use Rattle.net_cells.specs.Work.{work}
use Rattle.net_cells.specs.MemoryEnds.{EndsAt, making, keeping, EndsAtCell, at_none, at_cell, EndsSooner, MemoryEndsSooner}
use Rattle.net_cells.proofs.OneAnswer.{answers_one}
use Rattle.net_cells.proofs.Placing.{refusals_placed}
use Rattle.net_cells.proofs.Tables.{over_by, over_answered, Places, places, same, sooner, later}
use Rattle.net_cells.proofs.Works.{work_is}
use Rattle.run_laws.proofs.Members.{Has, has_left, has_right, has_contains}

-- ---- at one cell
ends_most : (at : CellTable) (F : Formula) (n : ℕ) → EndsAt at F n → n ≤ operators F
ends_most at F n (making (inl none)) = let e = none.0 in omega (arith, e)
ends_most at F n (making (inr r)) = (refusals_placed at F).most n r
ends_most at F n (keeping v a e) = omega (arith, e)

ends_fewer : (at : CellTable) (F : Formula) (fault : OpFault) (n : ℕ) → fault ≢ NoMemory → EndsAt at F n → Answers at F (Err fault)
    → (k : ℕ) × RefusedAt at F fault k × (n < k)
ends_fewer at F fault n limit (making (inl none)) over =
    let e = none.0 in
    let p = refusals_placed at F in
    let found = p.place fault over in
    let some = p.least fault found.0 limit found.1 in
    (found.0, found.1, omega (arith, e, some))
ends_fewer at F fault n limit (making (inr r)) over =
    let p = refusals_placed at F in
    let found = p.place fault over in
    (found.0, found.1, p.sooner fault n found.0 limit r found.1)
ends_fewer at F fault n limit (keeping v a e) over =
    absurd (let bad : Ok v ≡ Err fault = answers_one at F (Ok v) (Err fault) a over (λ k. cc) (λ k. limit cc) in cc)

-- ---- in the order
module _ (net : Net) (order : List ℕ) (c : Cell) (fault : OpFault) (n : ℕ) (a : IsAccepted net) (o : IsOrder net order)
    (over : FirstOver net order c fault) where
  at_once : n ≡ 0 → EndsSooner net over.before c fault n
  at_once e =
      let p = refusals_placed over.table (formula net c) in
      let found = p.place fault over.over in
      let some = p.least fault found.0 over.limit found.1 in
      record { table = over.table; answered = over.answered; place = found.0; over = found.1; fewer = omega (arith, e, some) }

  module _ (s : EndsAtCell net (evaluation_order net order) n) where
    by_same : s.before ≡ over.before → s.cell ≡ c → EndsSooner net over.before c fault n
    by_same e f =
        let all : AnswersAll net s.table over.before = subst (λ (xs : List Cell). AnswersAll net s.table xs) e s.answered in
        let is = over_by net order c fault s.table a o over (λ d h. all d (has_contains over.before d h)) in
        let ends : EndsAt s.table (formula net c) s.counted = subst (λ (x : Cell). EndsAt s.table (formula net x) s.counted) f s.ends in
        let found = ends_fewer s.table (formula net c) fault s.counted over.limit ends is in
        let count = s.count in
        let works = ap (sum_by (work net)) e in
        let less = found.2 in
        record { table = s.table; answered = all; place = found.0; over = found.1; fewer = omega (arith, count, works, less) }

    by_sooner : (us : List Cell) → over.before ≡ s.before ++ s.cell ∷ us → EndsSooner net over.before c fault n
    by_sooner us e =
        let p = refusals_placed over.table (formula net c) in
        let found = p.place fault over.over in
        let some = p.least fault found.0 over.limit found.1 in
        let most = ends_most s.table (formula net s.cell) s.counted s.ends in
        let own = work_is net s.cell in
        let works = ap (sum_by (work net)) e ∙ sum_by-append (work net) s.before (s.cell ∷ us) in
        let rest = sum_by-cons (work net) s.cell us in
        let count = s.count in
        record {
          table = over.table;
          answered = over.answered;
          place = found.0;
          over = found.1;
          fewer = omega (arith, some, most, own, works, rest, count);
        }

    by_later : (us : List Cell) → ¬ (s.before ≡ over.before ++ c ∷ us)
    by_later us e =
        over_answered net order c fault s.table a o over
        (λ d h. s.answered d (has_contains s.before d
        (subst (λ (xs : List Cell). Has xs d) (sym e) (has_left over.before (c ∷ us) d h))))
        (s.answered c (has_contains s.before c
        (subst (λ (xs : List Cell). Has xs c) (sym e) (has_right over.before (c ∷ us) c (inl refl)))))

    by_place : Places s.before s.cell over.before c → EndsSooner net over.before c fault n
    by_place (same e f) = by_same e f
    by_place (sooner us e) = by_sooner us e
    by_place (later us e) = absurd (by_later us e)

    at_one : EndsSooner net over.before c fault n
    at_one = by_place (places s.before s.cell s.after over.before c over.after (sym s.is ∙ over.is))

pub ends_sooner : MemoryEndsSooner
ends_sooner net order c fault n a o over (at_none e) = at_once net order c fault n a o over e
ends_sooner net order c fault n a o over (at_cell s) = at_one net order c fault n a o over s
