use Rattle.std.proofs.Common.{Bor, List, ℕ, ◌≡◌, ◌≤◌, ◌-◌, ◌∙◌, ap, refl, subst, inl, Some, [], arith}
use Rattle.csv.specs.Reading.{Reached, default_config}
use Rattle.csv.specs.Records.{fields_of}
use Rattle.csv.proofs.ReadFacts.{rows-end, rows-more}
use Rattle.csv_rows.specs.declared.reading.TableRows.{TableRows}
use Rattle.csv_rows.specs.Coming.{ends_of, line_in}
use Rattle.csv_rows.specs.Places.{IsBetween}
use Rattle.csv_rows.specs.Rows.{from_row, line_ends}
use Rattle.csv_rows.proofs.Coming.{none_left, one_left}
use Rattle.csv_rows.proofs.RowEnds.{leaves_next}
use Rattle.csv_rows.proofs.reading.TableRows.read_row.Goals as goal

pub returns-then-not-found : goal.returns-then-not-found
returns-then-not-found c =
    let at = c.requires in
    let r = rw c.if-not-found.true at (c.in-Ok.ensures.reads at.trims at.ready) in
    none_left c.args.self.now at
    (rows-end (λ (s : Bor (List ℕ)). Some s.now) c.args.self.now.reader c.read_byte_record.new.self (fields_of c.read_byte_record.new.row) default_config at.left at.setup at.source r)

pub returns : goal.returns
unfolding Reached
returns c =
    let at = c.requires in
    let old = c.args.self.now in
    let new : TableRows = record { reader = c.read_byte_record.new.self; lines = c.next_line-row.new.self } in
    let cells = fields_of c.read_byte_record.new.row in
    let a = old.reader in
    let y = at.left in
    let r = rw c.if-not-found.false at (c.in-Ok.ensures.reads at.trims at.ready) in
    let m = rows-more (λ (s : Bor (List ℕ)). Some s.now) a c.read_byte_record.new.self cells default_config a.state y y [] at.setup at.source (refl, refl) r in
    let read = m.2.0 in
    let told = c.next_line-row.ensures in
    let leaves = leaves_next a.state y old.lines.rest.now c.next_line-row.new.self.rest.now read at.between at.same m.2.1 told.left in
    let here : line_ends (from_row old.lines.rest.now) ≡ line_ends (from_row y) = ap line_ends at.same in
    let least : 1 ≤ c.next_line-row.result = omega (arith, at.first, told.grows.0) in
    let line : c.next_line-row.result ≡ line_in (ends_of old) y = omega (arith, told.line, here, least) in
    let ends : ends_of new ≡ ends_of old = ap (λ n. n - 1) told.all in (
      record {
        trims = r.3 ∙ at.trims;
        ready = inl (c.in-Ok.ensures.ready at.trims);
        setup = r.2 ∙ at.setup;
        between = subst IsBetween m.2.3.0 leaves.0;
        first = omega (arith, least, told.grows.1);
        within = omega (arith, told.all, at.within);
        left = m.0;
        source = m.1;
        same = leaves.1 ∙ ap from_row m.2.3.1;
      },
      one_left old new at m.0 read c.next_line-row.result cells m.2.1 ends m.1 m.2.2 m.2.3.0 m.2.3.1 line,
    )
