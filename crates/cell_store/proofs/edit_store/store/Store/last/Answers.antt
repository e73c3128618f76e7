use Rattle.std.proofs.Common.{Some, None, get_or, arith, ◌≡◌, ◌-◌, ◌++◌, ◌∷◌, [], List, length, take, sym, ap, ◌∙◌, subst, refl}
use Rattle.std.specs.Prelude.{slice_get}
use Rattle.std.proofs.lemmas.Option.{slice_get-get_or}
use Rattle.std.proofs.lemmas.Result.{IfOk-from_err}
use Rattle.net_model.specs.Accepted.{IsAccepted}
use Rattle.cell_rules.specs.declared.edit_sites.replaced.Replaced.{Replaced}
use Rattle.cell_rules.specs.edit_sites.Replaced.{put_back, networks_before}
use Rattle.cell_store.proofs.edit_store.PutBack.{split_last, last_accepted, before_more}
use Rattle.cell_store.proofs.edit_store.store.Store.last.Given.{Over}
use Rattle.cell_store.proofs.edit_store.store.Store.last.Goals.{In-Some}
use Rattle.cell_store.proofs.edit_store.store.Store.last.Goals as goal

-- what was replaced last stands at the end
split : (g : Over) (c : In-Some g)
    → c.self.inside.replaced.items
    ≡ take (length c.self.inside.replaced.items - 1) c.self.inside.replaced.items ++ c.in-Some.replaced.now ∷ []
split g c =
    split_last c.self.inside.replaced.items c.in-Some.replaced.now
    (ap (λ (rs : List Replaced). slice_get rs (length rs - 1)) (sym c.deref.ensures.value) ∙ sym c.in-Some.ensures.value)

pub put_back-requires : goal.put_back-requires
put_back-requires g c =
    let fields = c.self.inside in
    let last = c.in-Some.replaced.now in
    let copied : put_back c.in_ok-replaced-in-Some.replaced c.in_ok-present-in-Some.present ≡ put_back last fields.present =
    c.in_ok-replaced-in-Some.ensures c.in_ok-present-in-Some.present ∙ ap (put_back last) c.in_ok-present-in-Some.ensures in
    subst IsAccepted (sym copied)
    (last_accepted g.V.CellValue.meaning fields.replaced.items (take (length fields.replaced.items - 1) fields.replaced.items) last
    fields.present fields.values.versions c.self.invariant.kept (split g (goal.at.put_back-requires g c).In-Some))

pub returns-in_ok-replaced-in-Some-clause-shown : goal.returns-in_ok-replaced-in-Some-clause-shown
returns-in_ok-replaced-in-Some-clause-shown g c =
    let here = (goal.at.returns-in_ok-replaced-in-Some-clause-shown g c).In-Some in
    let present = c.self.inside.present in
    let items = c.self.inside.replaced.items in
    let before = take (length items - 1) items in
    let copied : c.put_back.result ≡ put_back c.in-Some.replaced.now present =
    c.put_back.ensures ∙ c.in_ok-replaced-in-Some.ensures c.in_ok-present-in-Some.present
    ∙ ap (put_back c.in-Some.replaced.now) c.in_ok-present-in-Some.ensures in
    record {
      undo = λ e. (
        networks_before before c.put_back.result,
        ap (λ s. s.before) (sym c.self.view_is)
            ∙ before_more before items c.in-Some.replaced.now c.put_back.result present (split g here) (sym copied),
      );
      other = λ n. absurd (n refl);
    }

-- ---- where nothing was replaced, there is no network before
none_last : {X : Type 0} (xs : List X) → slice_get xs (length xs - 1) ≡ None → xs ≡ []
none_last [] none = refl
none_last (x ∷ xs) none =
    let at = length (x ∷ xs) - 1 in
    let some = slice_get-get_or (x ∷ xs) at x (omega arith) in
    absurd (let bad : None ≡ Some (get_or (x ∷ xs) at x) = sym none ∙ some in cc)

pub returns-in-None-clause-hidden : goal.returns-in-None-clause-hidden
returns-in-None-clause-hidden g c =
    let items = none_last c.deref.result.now (sym c.in-None.ensures.value) in (
      refl,
      ap (λ s. s.before) (sym c.self.view_is)
          ∙ ap (λ (rs : List Replaced). networks_before rs c.self.inside.present) (sym c.deref.ensures.value ∙ items),
    )

pub returns-in_err-present-in-Some-clause-shown : goal.returns-in_err-present-in-Some-clause-shown
returns-in_err-present-in-Some-clause-shown g c = IfOk-from_err c.from_residual.result _ c.from_residual.ensures.0
