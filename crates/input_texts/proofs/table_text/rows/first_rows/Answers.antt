use Rattle.std.proofs.Common.{Bor, List, ℕ, ◌≡◌, ◌≤◌, ◌∙◌, ap, sym, refl, rules, inl, inr, map, length, Some, ◌∷◌, [], arith, subst}
use Rattle.std.proofs.lemmas.List.{map-append, length_push, length-map}
use Rattle.std.proofs.lemmas.Result.{err_from_is_err_and}
use Rattle.csv.specs.Reading.{Reached, builder_config, builder_names_headers, builder_trim, default_config, strip_bom}
use Rattle.csv.specs.Records.{fields_of}
use Rattle.csv.specs.declared.parser.State.TheVariants as st
use Rattle.csv.proofs.ReadFacts.{rows-end, rows-more}
use Rattle.input_texts.proofs.table_text.Records.{full_rows, all_rows}
use Rattle.input_texts.proofs.table_text.rows.first_rows.Goals as goal

pub loop-row-init : goal.loop-row-init
unfolding Reached
loop-row-init c =
    let fr = c.from_reader-reader.ensures in
    let h = c.has_headers.ensures in
    let f = c.flexible.ensures in
    let start = c.into_iter-row-iterator.ensures.into_iter_gives ∙ refl in
    let rdr = c.into_byte_records-row-items.ensures.rdr in
    let left = c.into_byte_records-row-items.ensures.left in
    rw (start, rdr, c.new-rows.ensures.items) (record {
      trims = fr.trim ∙ (ap builder_trim f ∙ (ap builder_trim h ∙ c.new.ensures.trim));
      ready = inr (inr (fr.has_headers ∙ (ap builder_names_headers f ∙ ap builder_names_headers h), fr.headers));
      left = left;
      setup = fr.config ∙ (ap builder_config f ∙ (ap builder_config h ∙ c.new.ensures.config));
      few = omega arith;
      rest = (strip_bom c.args.text.now, fr.source, (sym fr.state, refl));
    })

pub loop-row-preserved : goal.loop-row-preserved
loop-row-preserved c =
    let inv = c.loop-row.invariant in
    let old = c.loop-row.rows.items in
    let (row, is, items) = c.in_ok-push_row.ensures.pushed in
    let s = rw (c.in-Some.is, is) at ((c.next.ensures.steps inv.left inv.trims).0 inv.ready) in
    let m = rows-more (λ (s : Bor (List ℕ)). Some s.now) c.loop-row.row-iterator.rdr c.next.new.self.rdr (fields_of row) default_config st.StartRecord (strip_bom c.args.text.now) inv.rest.0 (map fields_of old) inv.setup inv.rest.1 inv.rest.2 s.0 in
    let few : length old ≤ c.args.most = inv.few in
    let len : c.len.result ≡ length old = search rules in
    let not_full = c.if-len-most.false in
    record {
      trims = s.0.3 ∙ inv.trims;
      ready = inl s.1;
      left = s.2;
      setup = s.0.2 ∙ inv.setup;
      few = rw items (omega (arith, few, len, not_full, length_push old row));
      rest = (m.0, m.1, rw (items, map-append fields_of old (row ∷ [])) m.2);
    }

pub returns-in_err-push_row-clause-refused : goal.returns-in_err-push_row-clause-refused
returns-in_err-push_row-clause-refused c =
    let p = err_from_is_err_and c.from_residual.result c.from_residual.ensures.1 in
    rw (p.1, p.2) c.in_err-push_row.ensures.refused

pub returns-then-len-most-clause-rows : goal.returns-then-len-most-clause-rows
returns-then-len-most-clause-rows c =
    let inv = c.loop-row.invariant in
    let old = c.loop-row.rows.items in
    let len : c.len.result ≡ length old = search rules in
    let full : c.len.result ≡ c.args.most = c.if-len-most.true in
    full_rows (strip_bom c.args.text.now) (map fields_of old) c.loop-row.row-iterator.rdr.state inv.rest.0 c.args.most inv.rest.2 (length-map old fields_of ∙ (sym len ∙ full))

pub returns-clause-rows : goal.returns-clause-rows
returns-clause-rows c =
    let inv = c.loop-row.invariant in
    let old = c.loop-row.rows.items in
    let s = rw c.in-None.is at ((c.next.ensures.steps inv.left inv.trims).0 inv.ready) in
    let end = rows-end (λ (s : Bor (List ℕ)). Some s.now) c.loop-row.row-iterator.rdr c.next.new.self.rdr [] default_config inv.rest.0 inv.setup inv.rest.1 s in
    all_rows (strip_bom c.args.text.now) (map fields_of old) c.loop-row.row-iterator.rdr.state inv.rest.0 c.args.most inv.rest.2 end
    (subst (λ n. n ≤ c.args.most) (sym (length-map old fields_of)) inv.few)
