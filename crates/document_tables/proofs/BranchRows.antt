-- The branches of links, by their rows.
use Rattle.std.proofs.Common.{◌≡◌, ℕ, ◌+◌, ◌==◌, nat_le, List, [], ◌∷◌, ◌++◌, map, length, get_or, position, Option, Some, None, Ok, Err, refl, sym, ap, subst, ◌∙◌, arith, length-append, append_assoc, ◌<◌}
use Rattle.std.specs.Prelude.{slice_get, if◌then◌else◌}
use Rattle.std.specs.List.{list_any}
use Rattle.std.specs.Str.{bytes_eq}
use Rattle.std.proofs.lemmas.List.{map-append, append-nil, get_or_append_left}
use Rattle.std.proofs.lemmas.List.Quantifiers.{position-Some}
use Rattle.std.proofs.lemmas.Option.{slice_get-get_or, slice_get_within, get_or_from_slice_get}
use Rattle.std.proofs.lemmas.Slice.Eq.{bytes_eq-Decides}
use Rattle.std.proofs.Math.Seq.{get_or-append_seam}
use Rattle.csv_rows.specs.Rows.{Row}
use Rattle.table_cells.specs.Names.{is_name}
use Rattle.document_rows.specs.declared.fault.Column.TheVariants as column
use Rattle.document_rows.specs.declared.fault.Wrong.TheVariants.{TooManyLinks, PortTwice, NoSuchQueue, QuantumTooShort}
use Rattle.document_rows.specs.declared.heads.LinkHead.{LinkHead}
use Rattle.document_rows.specs.Heads.{link_head, row_name}
use Rattle.document_rows.specs.LinkRows.{LinkText, link_row, frame_on_wire}
use Rattle.document_rows.specs.PortRows.{PortText}
use Rattle.document_tables.specs.declared.links.LinkKeys.{LinkKeys}
use Rattle.document_tables.specs.Tables.{LineRow, at_line, after_rows, table_of}
use Rattle.document_tables.specs.Ports.{Ports}
use Rattle.document_tables.specs.Paths.{queues_of, queue_at, passes_quantum, at_port, step_to, port_named, next_port, path_from}
use Rattle.document_tables.specs.Links.{Links, BranchText, keys_of, agrees_with, with_link, has_room, number_or_next, with_branch, with_row, no_links, links_of, most_links}
use Rattle.document_tables.proofs.Reading.{both_read, not_refused, same_read, some_if, inner}
use Rattle.document_tables.proofs.TableRanges.{in_line}
use Rattle.document_tables.proofs.RowTaken.{branched, taken}
use Rattle.document_tables.proofs.LinkSteps.{each_push}
use Rattle.document_tables.proofs.BranchFacts.{SameKeys, same_keys, HasKeysOf, has_agreed, path_taken, ports_taken}

-- what is none is not some
no_some : {X G : Type 0} (x : X) → None ≡ Some x → G
no_some x e = absurd cc

-- ---- names
more_at : {X : Type 0} (xs ys : List X) (k : ℕ) (x : X) → slice_get xs k ≡ Some x → slice_get (xs ++ ys) k ≡ Some x
more_at xs ys k x h =
    let below = slice_get_within xs k x h in
    let n = length-append xs ys in
    slice_get-get_or (xs ++ ys) k x (omega (arith, below, n)) ∙ ap Some (get_or_append_left xs ys x k below ∙ get_or_from_slice_get xs k x x h)

last_at : {X : Type 0} (xs : List X) (k : ℕ) (x : X) → k ≡ length xs → slice_get (xs ++ x ∷ []) k ≡ Some x
last_at xs k x e =
    let n = length-append xs (x ∷ []) in
    slice_get-get_or (xs ++ x ∷ []) k x (omega (arith, n, e)) ∙ ap Some (ap (λ (j : ℕ). get_or (xs ++ x ∷ []) j x) e ∙ get_or-append_seam xs x [] x)

-- a name stands where it is found
found_name : (names : List (List ℕ)) (name : List ℕ) (n : ℕ) → position (bytes_eq name) names ≡ Some n → slice_get names n ≡ Some name
found_name names name n h =
    let p = position-Some (bytes_eq name) names n [] h in
    slice_get-get_or names n [] p.0 ∙ ap Some (sym ((bytes_eq-Decides name (get_or names n [])).0 p.1))

-- ---- ports of paths
module _ (ports : Ports) (priority frame : ℕ) where
  port_is : (place number n : ℕ) (o : Option PortText) → at_port place o priority frame number ≡ Ok n → number ≡ n
  port_is place number n None h = cc
  port_is place number n (Some port) h =
      let queue = queue_at port.discipline priority in
      let q = not_refused (nat_le (queues_of port.discipline) queue) (NoSuchQueue place) (if passes_quantum port.discipline queue frame then Err (QuantumTooShort place) else Ok number) n h in
      same_read number n (not_refused (passes_quantum port.discipline queue frame) (QuantumTooShort place) (Ok number) n q.1).1

  step_is : (before word : List ℕ) (o : Option ℕ) (n : ℕ) → port_named ports.names word ≡ o → step_to ports priority frame before o ≡ Ok n → slice_get ports.names n ≡ Some word
  step_is before word None n found h = cc
  step_is before word (Some number) n found h =
      let own = not_refused (list_any (λ n. n == number) before) (PortTwice (length before + 1)) (at_port (length before + 1) (slice_get ports.ports number) priority frame number) n h in
      let at = found_name ports.names word number (some_if (is_name word) (position (bytes_eq word) ports.names) number found).1 in
      ap (slice_get ports.names) (sym (port_is (length before + 1) number n (slice_get ports.ports number) own.1)) ∙ at

  ports_named : (before : List ℕ) (words : List (List ℕ)) (path : List ℕ) → path_from ports priority frame before words ≡ Ok path
      → map (slice_get ports.names) path ≡ map (slice_get ports.names) before ++ map Some words
  unfolding path_from
  ports_named before [] path h = ap (map (slice_get ports.names)) (sym (same_read before path h)) ∙ sym (append-nil (map (slice_get ports.names) before))
  ports_named before (word ∷ words) path h =
      let n = both_read (next_port ports priority frame before word) (λ number. path_from ports priority frame (before ++ number ∷ []) words) path h in
      let is = step_is before word (port_named ports.names word) n.0 refl n.1 in
      ports_named (before ++ n.0 ∷ []) words path n.2
      ∙ (ap (λ (names : List (Option (List ℕ))). names ++ map Some words) (map-append (slice_get ports.names) before (n.0 ∷ []))
      ∙ (append_assoc (map (slice_get ports.names) before) (slice_get ports.names n.0 ∷ []) (map Some words)
      ∙ ap (λ (o : Option (List ℕ)). map (slice_get ports.names) before ++ (o ∷ map Some words)) is))

-- ---- a row
-- what a row says of a branch, beside the tree
pub record IsRowOf (ports : Ports) (head : LinkHead) (links : Links) (row : Row) (b : BranchText) : Type 0 where
  pub name : List ℕ
  pub is_named : row_name head.width head.name row ≡ Ok name
  pub of_link : slice_get links.names b.link ≡ Some name
  pub text : LinkText
  pub says : link_row head row ≡ Ok text
  pub deadline : b.deadline ≡ text.deadline
  pub keys : LinkKeys
  pub keys_are : slice_get links.keys b.link ≡ Some keys
  pub agree : SameKeys keys (keys_of text)
  pub over : map (slice_get ports.names) b.path ≡ map Some text.path
  pub texts : List PortText
  pub texts_are : map (slice_get ports.ports) b.path ≡ map Some texts

-- of each of these rows one branch
pub record AreRead (ports : Ports) (head : LinkHead) (rows : List LineRow) (links : Links) : Type 0 where
  pub names : length links.names ≡ length links.keys
  pub all : length links.branches ≡ length rows
  pub each : (k : ℕ) (row : LineRow) → slice_get rows k ≡ Some row → (b : BranchText) → slice_get links.branches k ≡ Some b → IsRowOf ports head links row.cells b

-- links with that of a row
record HasLink (before links : Links) (name : List ℕ) (link : ℕ) (row : LinkKeys) : Type 0 where
  pub names : length links.names ≡ length links.keys
  pub branches : links.branches ≡ before.branches
  pub old : (k : ℕ) (other : List ℕ) → slice_get before.names k ≡ Some other → slice_get links.names k ≡ Some other
  pub old_keys : (k : ℕ) (other : LinkKeys) → slice_get before.keys k ≡ Some other → slice_get links.keys k ≡ Some other
  pub of_link : slice_get links.names link ≡ Some name
  pub has_keys : HasKeysOf links link row

has_link : (before links : Links) (name : List ℕ) (number : Option ℕ) (row : LinkKeys) → length before.names ≡ length before.keys → (o : Option ℕ) → position (bytes_eq name) before.names ≡ o
    → has_room before o ≡ Ok number → with_link before name number row ≡ Ok links → HasLink before links name (number_or_next before number) row
has_link before links name None row n None found room h =
    let made : Links = record { names = before.names ++ name ∷ []; keys = before.keys ++ row ∷ []; branches = before.branches } in
    let a = length-append before.names (name ∷ []) in
    let b = length-append before.keys (row ∷ []) in
    subst (λ (l : Links). HasLink before l name (length before.keys) row) (same_read made links h) (record {
      names = a ∙ (ap (λ (k : ℕ). k + 1) n ∙ sym b);
      branches = refl;
      old = λ k other h. more_at before.names (name ∷ []) k other h;
      old_keys = λ k other h. more_at before.keys (row ∷ []) k other h;
      of_link = last_at before.names (length before.keys) name (sym n);
      has_keys = (row, last_at before.keys (length before.keys) row refl, same_keys row);
    })
has_link before links name (Some m) row n None found room h =
    let r = not_refused (nat_le most_links (length before.names)) (record { column = column.Name; wrong = TooManyLinks }) (Ok None) (Some m) room in
    no_some m (same_read None (Some m) r.1)
has_link before links name None row n (Some m) found room h = no_some m (sym (same_read (Some m) None room))
has_link before links name (Some k) row n (Some m) found room h =
    let same : m ≡ k = inner m k (same_read (Some m) (Some k) room) in
    let r = both_read (agrees_with (slice_get before.keys k) row) (λ first. Ok before) links h in
    let at = found_name before.names name k (found ∙ ap Some same) in
    let below = slice_get_within before.names k name at in
    subst (λ (l : Links). HasLink before l name k row) (same_read before links r.2) (record {
      names = n;
      branches = refl;
      old = λ k other h. h;
      old_keys = λ k other h. h;
      of_link = at;
      has_keys = has_agreed before k row r.0 (subst (λ (keys : ℕ). k < keys) n below) r.1;
    })

module _ (ports : Ports) (overhead : ℕ) (head : LinkHead) where
  -- one branch more, and the names as they were
  record HasRow (before after : Links) (row : Row) : Type 0 where
    pub names : length after.names ≡ length after.keys
    pub old : (k : ℕ) (other : List ℕ) → slice_get before.names k ≡ Some other → slice_get after.names k ≡ Some other
    pub old_keys : (k : ℕ) (other : LinkKeys) → slice_get before.keys k ≡ Some other → slice_get after.keys k ≡ Some other
    pub branch : BranchText
    pub branches : after.branches ≡ before.branches ++ branch ∷ []
    pub is : IsRowOf ports head after row branch

  has_branch : (before links after : Links) (row : Row) (name : List ℕ) (link : ℕ) (text : LinkText) → row_name head.width head.name row ≡ Ok name → link_row head row ≡ Ok text → HasLink before links name link (keys_of text)
      → with_branch ports overhead link links text ≡ Ok after → HasRow before after row
  has_branch before links after row name link text is_named says l h =
      let b = branched ports overhead link links text after h in
      let new : BranchText = record { link = link; path = b.path; deadline = text.deadline } in
      let has = l.has_keys in
      let frame = frame_on_wire text.largest_frame overhead in
      let texts = ports_taken ports text.priority frame b.path (path_taken ports text.priority frame text.path b.path b.over).0 in
      subst (λ (a : Links). HasRow before a row) b.made (record {
        names = l.names;
        old = l.old;
        old_keys = l.old_keys;
        branch = new;
        branches = ap (λ (bs : List BranchText). bs ++ new ∷ []) l.branches;
        is = record {
          name = name;
          is_named = is_named;
          of_link = l.of_link;
          text = text;
          says = says;
          deadline = refl;
          keys = has.0;
          keys_are = has.1;
          agree = has.2;
          over = ports_named ports text.priority frame [] text.path b.path b.over;
          texts = texts.0;
          texts_are = texts.1;
        };
      })

  has_row : (before after : Links) (row : Row) → length before.names ≡ length before.keys → with_row ports overhead head before row ≡ Ok after → HasRow before after row
  has_row before after row n h =
      let t = taken ports overhead head before row after h in
      let l = has_link before t.links t.name t.number (keys_of t.text) n (position (bytes_eq t.name) before.names) refl t.is_numbered t.is_linked in
      has_branch before t.links after row t.name (number_or_next before t.number) t.text t.is_named t.is_read l t.is_branched

  -- ---- rows and tables
  one_more : (before after : Links) (done : List LineRow) (row : LineRow) → AreRead ports head done before → HasRow before after row.cells → AreRead ports head (done ++ row ∷ []) after
  one_more before after done row a r =
      let bs = before.branches in
      let P : ℕ → LineRow → Type 0 = λ k row. (b : BranchText) → slice_get after.branches k ≡ Some b → IsRowOf ports head after row.cells b in
      let m = length-append done (row ∷ []) in
      let n = length-append bs (r.branch ∷ []) in
      let l = ap length r.branches in
      let seen : (k : ℕ) (b : BranchText) → slice_get after.branches k ≡ Some b → slice_get (bs ++ r.branch ∷ []) k ≡ Some b =
      λ k b h. ap (λ (xs : List BranchText). slice_get xs k) (sym r.branches) ∙ h in record {
        names = r.names;
        all = l ∙ (n ∙ (ap (λ (k : ℕ). k + 1) a.all ∙ sym m));
        each = each_push P done row
            (λ k old there b h.
            let below = slice_get_within done k old there in
            let d = get_or bs k b in
            let at : slice_get bs k ≡ Some d = slice_get-get_or bs k b (subst (λ (rows : ℕ). k < rows) (sym a.all) below) in
            let same : d ≡ b = inner d b (sym (more_at bs (r.branch ∷ []) k d at) ∙ seen k b h) in
            let is = a.each k old there d at in
            subst (IsRowOf ports head after old.cells) same (record {
              name = is.name;
              is_named = is.is_named;
              of_link = r.old d.link is.name is.of_link;
              text = is.text;
              says = is.says;
              deadline = is.deadline;
              keys = is.keys;
              keys_are = r.old_keys d.link is.keys is.keys_are;
              agree = is.agree;
              over = is.over;
              texts = is.texts;
              texts_are = is.texts_are;
            }))
            (λ b h.
            let same : r.branch ≡ b = inner r.branch b (sym (last_at bs (length done) r.branch (sym a.all)) ∙ seen (length done) b h) in
            subst (IsRowOf ports head after row.cells) same r.is);
      }

  all_more : (rows done : List LineRow) (before after : Links) → AreRead ports head done before → after_rows (with_row ports overhead head) before rows ≡ Ok after → AreRead ports head (done ++ rows) after
  unfolding after_rows
  all_more [] done before after a h = subst (λ (l : Links). AreRead ports head (done ++ []) l) (same_read before after h) (subst (λ (rows : List LineRow). AreRead ports head rows before) (sym (append-nil done)) a)
  all_more (row ∷ rows) done before after a h =
      let r = both_read (at_line row.line (with_row ports overhead head before row.cells)) (λ next. after_rows (with_row ports overhead head) next rows) after h in
      let more = one_more before r.0 done row a (has_row before r.0 row.cells a.names (in_line row.line (with_row ports overhead head before row.cells) r.0 r.1)) in
      subst (λ (all : List LineRow). AreRead ports head all after) (append_assoc done (row ∷ []) rows) (all_more rows (done ++ row ∷ []) r.0 after more r.2)

-- a table of links: its head line, and behind it a row for each branch
pub record HasRows (ports : Ports) (rows : List LineRow) (links : Links) : Type 0 where
  pub first : LineRow
  pub behind : List LineRow
  pub rows_are : rows ≡ first ∷ behind
  pub head : LinkHead
  pub head_is : link_head first.cells ≡ Ok head
  pub are : AreRead ports head behind links

pub rows_read : (ports : Ports) (overhead : ℕ) (rows : List LineRow) (links : Links) → links_of ports overhead rows ≡ Ok links → HasRows ports rows links
unfolding table_of
rows_read ports overhead [] links h = cc
rows_read ports overhead (first ∷ rows) links h =
    let r = both_read (at_line first.line (link_head first.cells)) (λ h. after_rows (with_row ports overhead h) no_links rows) links h in record {
      first = first;
      behind = rows;
      rows_are = refl;
      head = r.0;
      head_is = in_line first.line (link_head first.cells) r.0 r.1;
      are = all_more ports overhead r.0 rows [] no_links links (record { names = refl; all = refl; each = λ k row there. no_some row there }) r.2;
    }
