use Rattle.std.proofs.Common.{◌≡◌, ℕ, ◌<◌, ◌^◌, length, ◌++◌, ◌-◌, ◌∷◌, [], List, false, refl, ap, ◌∙◌, subst, sym, sum_by}
use Rattle.std.specs.Prelude.{Contains, Some}
use Rattle.std.proofs.lemmas.Result.{IfOk-from_err, err_from_is_err_and}
use Rattle.outcomes.proofs.Spending.{spends_answer, spends_refusal, spends_stopped}
use Rattle.net_model.specs.Networks.{Net}
use Rattle.net_model.specs.Accepted.{IsAccepted}
use Rattle.net_cells.specs.declared.cell_table.fault.AnalysisFault.TheVariants.{NoMemory}
use Rattle.net_cells.specs.declared.cell.Cell.{Cell}
use Rattle.net_cells.specs.Cells.{has_cell}
use Rattle.net_cells.specs.Work.{work}
use Rattle.cell_rules.specs.cell_changes.Slots.{HasSlot}
use Rattle.cell_rules.specs.cell_values.Placed.{placed}
use Rattle.net_cells.specs.Order.{evaluation_order}
use Rattle.cell_rules.specs.cell_changes.Changes.{TouchedOf}
use Rattle.cell_rules.specs.cell_values.Edits.{EditEnds, at_none, RefusesFor, IsFirstTouched}
use Rattle.version_table.specs.Histories.{History}
use Rattle.net_edits.specs.Changed as change
use Rattle.cell_rules.specs.declared.edit_sites.replaced.Replaced.{Replaced}
use Rattle.cell_store.specs.edit_store.Stored.{Stored, AreTouched, AreLost, IsAdvanced}
use Rattle.cell_store.specs.edit_store.Kept.{IsSameAs, IsHeld}
use Rattle.cell_rules.specs.edit_sites.Replaced.{put_back, networks_before}
use Rattle.cell_store.proofs.edit_store.Steps.{holds_edited}
use Rattle.cell_store.proofs.edit_store.Outcomes.{on_err, in_any}
use Rattle.cell_store.proofs.edit_store.PutBack.{kept_more, beside_more, advanced}
use Rattle.cell_store.proofs.edit_store.store.Store.advance.Goals as goal

-- ---- what the values are edited from
room_left : {V : Type 0} (own before : List Net) (kept : List V) → own ≡ before → length own ≡ length kept → length before < 2 ^ 32 - 1
    → length kept < 2 ^ 32 - 1
room_left own before kept same many room = subst (λ (n : ℕ). n < 2 ^ 32 - 1) (sym (ap length same) ∙ many) room

pub edited_values-requires-clause-room : goal.edited_values-requires-clause-room
edited_values-requires-clause-room g c =
    room_left _ c.args.self.now.before c.self.inside.values.versions.kept (ap (λ s. s.before) c.self.view_is)
    c.self.invariant.kept.stored.many c.requires.room

pub edited_values-requires-clause-edit : goal.edited_values-requires-clause-edit
edited_values-requires-clause-edit g c =
    let fields = c.self.inside in
    record {
      old = fields.present;
      order = c.requires.touched.order;
      servers = c.requires.touched.servers;
      are = subst (λ (cells : List Cell). TouchedOf fields.present c.args.planned.net (evaluation_order c.args.planned.net c.requires.touched.order) cells)
          (sym c.deref-2.ensures.value)
          (subst (λ (n : Net). TouchedOf n c.args.planned.net (evaluation_order c.args.planned.net c.requires.touched.order) c.args.planned.touched.items)
          (ap (λ s. s.present) (sym c.self.view_is)) c.requires.touched.are);
      answered = c.self.invariant.kept.stored.now.answered;
    }

pub edited_values-requires-clause-gone : goal.edited_values-requires-clause-gone
edited_values-requires-clause-gone g c =
    subst (λ (cells : List Cell). (d : Cell) → Contains cells d → (has_cell c.args.planned.net d ≡ false) × HasSlot d) (sym c.deref.ensures.value)
    c.requires.made.lost.only

-- ---- refused: all is as it was
abbrev seen : {V : Type 0} → List Replaced → Net → History V → Stored V
seen replaced present values = record { before = networks_before replaced present; present = present; values = values }

seen_again : {V : Type 0} (new old : List Replaced) (present : Net) (now was : History V) (s : Stored V) → new ≡ old → now ≡ was
    → seen old present was ≡ s → seen new present now ≡ s
seen_again new old present now was s items values is =
    ap (λ (rs : List Replaced). seen rs present now) items ∙ ap (λ h. seen old present h) values ∙ is

pub returns-in-Err-clause-kept : goal.returns-in-Err-clause-kept
returns-in-Err-clause-kept g c =
    seen_again c.reserve.new.self.items c.self.inside.replaced.items c.self.inside.present c.self.inside.values.versions
    c.self.inside.values.versions c.args.self.now c.reserve.ensures.items refl c.self.view_is

pub returns-in-Err-reserve-clause-kept : goal.returns-in-Err-reserve-clause-kept
returns-in-Err-reserve-clause-kept g c =
    seen_again c.reserve.new.self.items c.self.inside.replaced.items c.self.inside.present c.self.inside.values.versions
    c.self.inside.values.versions c.args.self.now c.reserve.ensures.items refl c.self.view_is

pub returns-in_err-edited_values-clause-kept : goal.returns-in_err-edited_values-clause-kept
returns-in_err-edited_values-clause-kept g c =
    in_any c.from_residual.result _
    (seen_again c.reserve.new.self.items c.self.inside.replaced.items c.self.inside.present c.edited_values.new.values.versions
    c.self.inside.values.versions c.args.self.now c.reserve.ensures.items c.in_err-edited_values.ensures.kept c.self.view_is)

pub returns-in_err-edited_values-clause-refused : goal.returns-in_err-edited_values-clause-refused
returns-in_err-edited_values-clause-refused g c =
    let p = err_from_is_err_and c.from_residual.result c.from_residual.ensures.1 in
    on_err c.from_residual.result (RefusesFor (IsFirstTouched c.args.planned.net c.args.planned.touched.items)) p.0 c.in_err-edited_values.field-0.0 p.1 p.2
    (subst (λ (cells : List Cell). RefusesFor (IsFirstTouched c.args.planned.net cells) c.in_err-edited_values.field-0.0) c.deref-2.ensures.value
    c.in_err-edited_values.ensures.refused)

pub returns-in_err-edited_values-clause-advanced : goal.returns-in_err-edited_values-clause-advanced
returns-in_err-edited_values-clause-advanced g c = IfOk-from_err c.from_residual.result _ c.from_residual.ensures.0

pub follow-requires : goal.follow-requires
follow-requires g c =
    subst (λ (n : Net). IsAccepted (change.changed c.args.planned.change n)) (sym c.replace-before.ensures.value)
    (subst IsAccepted (sym c.requires.made.change ∙ ap (λ s. change.changed c.args.planned.change s.present) (sym c.self.view_is)) c.keeps-2.ensures)

-- ---- one network more
pub invariant_of-self-2 : goal.invariant_of-self-2
invariant_of-self-2 g c =
    let meaning = g.V.CellValue.meaning in
    let fields = c.self.inside in
    let was = fields.values.versions in
    let now = c.edited_values.new.values.versions in
    let present : c.args.self.now.present ≡ fields.present = ap (λ s. s.present) (sym c.self.view_is) in
    let touched = c.deref-2.result.now in
    let gone = c.deref.result.now in
    let edit : AreTouched fields.present c.args.planned.net touched =
    subst (λ (cells : List Cell). AreTouched fields.present c.args.planned.net cells) (sym c.deref-2.ensures.value)
    (subst (λ (n : Net). AreTouched n c.args.planned.net c.args.planned.touched.items) present c.requires.touched) in
    let lost : AreLost fields.present c.args.planned.net gone =
    subst (λ (cells : List Cell). AreLost fields.present c.args.planned.net cells) (sym c.deref.ensures.value)
    (subst (λ (n : Net). AreLost n c.args.planned.net c.args.planned.gone.items) present c.requires.made.lost) in
    let more : c.push_within_room.new.list.items ≡ fields.replaced.items ++ c.args.planned.replaced ∷ [] =
    c.push_within_room.ensures ∙ ap (λ (rs : List Replaced). rs ++ c.args.planned.replaced ∷ []) c.reserve.ensures.items in
    let longer : c.follow.new.self.replaced.items ≡ fields.spare.replaced.items ++ c.args.planned.spared ∷ [] =
    ap (λ v. v.items) c.follow.ensures.kept ∙ c.push_within_room-2.ensures
    ∙ ap (λ (rs : List Replaced). rs ++ c.args.planned.spared ∷ []) c.reserve-2.ensures.items in
    let held = holds_edited meaning fields.present c.args.planned.net gone touched was.newest now.newest edit lost
    c.self.invariant.kept.stored.now c.in_ok-edited_values.ensures.table in
    let follows : change.changed c.args.planned.change c.replace-before.result ≡ c.args.planned.net =
    ap (change.changed c.args.planned.change) (c.replace-before.ensures.value ∙ sym present) ∙ c.requires.made.change in
    subst (λ (n : Net). IsHeld meaning c.follow.new.self.net c.follow.new.self.replaced.items c.push_within_room.new.list.items (Some c.args.planned.order) n now)
    (sym c.replace-before.ensures.after)
    (record {
      order = c.requires.made.order;
      kept = kept_more meaning fields.replaced.items c.push_within_room.new.list.items c.args.planned.replaced fields.present c.args.planned.net was now
          c.self.invariant.kept c.keeps.ensures more (c.requires.made.back ∙ present) c.in_ok-edited_values.ensures.before held;
      beside = beside_more fields.spare.net c.follow.new.self.net fields.spare.replaced.items c.follow.new.self.replaced.items
          fields.replaced.items c.push_within_room.new.list.items c.args.planned.spared c.args.planned.replaced fields.present c.args.planned.net c.self.invariant.beside longer
          more (c.requires.made.spared ∙ present) (c.requires.made.back ∙ present)
          (subst (IsSameAs c.follow.new.self.net) follows c.follow.ensures.same);
    })

pub returns-clause-advanced : goal.returns-clause-advanced
returns-clause-advanced g c =
    let fields = c.self.inside in
    let back : put_back c.args.planned.replaced c.args.planned.net ≡ fields.present = c.requires.made.back ∙ ap (λ s. s.present) (sym c.self.view_is) in
    let more : c.push_within_room.new.list.items ≡ fields.replaced.items ++ c.args.planned.replaced ∷ [] =
    c.push_within_room.ensures ∙ ap (λ (rs : List Replaced). rs ++ c.args.planned.replaced ∷ []) c.reserve.ensures.items in
    subst (λ (n : Net). IsAdvanced c.args.self.now c.args.planned.net (seen c.push_within_room.new.list.items n c.edited_values.new.values.versions))
    (sym c.replace-before.ensures.after)
    (advanced g.V.CellValue.meaning c.args.self.now fields.replaced.items c.push_within_room.new.list.items c.args.planned.replaced fields.present c.args.planned.net
    fields.values.versions c.edited_values.new.values.versions c.self.view_is more back c.in_ok-edited_values.ensures.before)

-- ---- what is counted, and want of memory
pub returns-in-Err-clause-spends : goal.returns-in-Err-clause-spends
returns-in-Err-clause-spends g c = spends_stopped _ NoMemory refl (λ lack n none. at_none none)

pub returns-in-Err-reserve-clause-spends : goal.returns-in-Err-reserve-clause-spends
returns-in-Err-reserve-clause-spends g c = spends_stopped _ NoMemory refl (λ lack n none. at_none none)

pub returns-in_err-edited_values-clause-spends : goal.returns-in_err-edited_values-clause-spends
returns-in_err-edited_values-clause-spends g c =
    let p = err_from_is_err_and c.from_residual.result c.from_residual.ensures.1 in
    spends_refusal c.in_err-edited_values.ensures.spends c.from_residual.result p.0 p.1
    (λ n is. ap (sum_by (work c.args.planned.net)) c.deref-2.ensures.value ∙ is) (λ told. sym p.2 ∙ told)
    (λ n ends. subst (λ version. EditEnds c.args.planned.net c.args.planned.touched.items (placed g.V.CellValue.meaning version) n)
    (ap (λ s. s.values.newest) c.self.view_is)
    (subst (λ (cells : List Cell). EditEnds c.args.planned.net cells (placed g.V.CellValue.meaning c.self.inside.values.versions.newest) n)
    c.deref-2.ensures.value ends))

pub returns-clause-spends : goal.returns-clause-spends
returns-clause-spends g c =
    spends_answer c.in_ok-edited_values.ensures.spends (λ n is. ap (sum_by (work c.args.planned.net)) c.deref-2.ensures.value ∙ is)
