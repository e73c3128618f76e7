-- Branches of links: each path over ports that take the link's frames, all paths of a link from one port.
use Rattle.std.proofs.Common.{◌≡◌, ℕ, ◌+◌, ◌*◌, ◌<◌, ◌≤◌, ◌==◌, ◌||◌, nat_le, Bool, true, false, List, [], ◌∷◌, ◌++◌, map, length, get_or, All, Option, Some, None, Ok, Err, refl, sym, ap, ap₂, subst, ◌∙◌, arith, length-append}
use Rattle.std.specs.Prelude.{not, slice_get, if◌then◌else◌}
use Rattle.std.specs.List.{list_any}
use Rattle.std.proofs.lemmas.Bool.{eq-eqb, leb-false, eqb-true, not-false}
use Rattle.std.proofs.lemmas.List.Elements.{All-nil, All-push, All-cons, All-head, All-tail}
use Rattle.std.proofs.lemmas.Option.{slice_get-get_or}
use Rattle.table_cells.specs.declared.amount.Amount.{Amount}
use Rattle.table_cells.specs.Amounts.{equals}
use Rattle.document_rows.specs.declared.fault.Column.TheVariants as column
use Rattle.document_rows.specs.declared.fault.Wrong.TheVariants.{Differs, PortTwice, NoSuchQueue, QuantumTooShort, BeginsElsewhere}
use Rattle.document_rows.specs.PortRows.{PortText}
use Rattle.document_rows.specs.LinkRows.{frame_on_wire}
use Rattle.document_tables.specs.declared.links.LinkKeys.{LinkKeys}
use Rattle.document_tables.specs.Ports.{Ports}
use Rattle.document_tables.specs.Paths.{queues_of, queue_at, passes_quantum, at_port, step_to, port_named, next_port, path_from, path_ports}
use Rattle.document_tables.specs.Trees.{begins_elsewhere, hangs, hangs_from}
use Rattle.document_tables.specs.Links.{Links, agrees, agrees_with, paths_of, most_links}
use Rattle.document_tables.proofs.Reading.{both_read, not_refused, not_denied, same_read}
use Rattle.document_tables.proofs.StopOrder.{IsPathFrom}

-- ---- ports of paths
-- a port that has a queue for a priority, with a quantum for the frame
pub record Takes (ports : Ports) (priority frame number : ℕ) : Type 0 where
  pub port : PortText
  pub there : slice_get ports.ports number ≡ Some port
  pub queue : queue_at port.discipline priority < queues_of port.discipline
  pub fits : passes_quantum port.discipline (queue_at port.discipline priority) frame ≡ false

module _ (ports : Ports) (priority frame : ℕ) where
  taken : (place number n : ℕ) (o : Option PortText) → slice_get ports.ports number ≡ o → at_port place o priority frame number ≡ Ok n → Takes ports priority frame n
  taken place number n None there h = cc
  taken place number n (Some port) there h =
      let queue = queue_at port.discipline priority in
      let q = not_refused (nat_le (queues_of port.discipline) queue) (NoSuchQueue place) (if passes_quantum port.discipline queue frame then Err (QuantumTooShort place) else Ok number) n h in
      let f = not_refused (passes_quantum port.discipline queue frame) (QuantumTooShort place) (Ok number) n q.1 in
      let e = same_read number n f.1 in
      let less : queue < queues_of port.discipline = leb-false (queues_of port.discipline) queue q.0 in
      record { port = port; there = ap (slice_get ports.ports) (sym e) ∙ there; queue = less; fits = f.0 }

  stepped : (before : List ℕ) (o : Option ℕ) (n : ℕ) → step_to ports priority frame before o ≡ Ok n → Takes ports priority frame n
  stepped before None n h = cc
  stepped before (Some number) n h =
      let own = not_refused (list_any (λ n. n == number) before) (PortTwice (length before + 1)) (at_port (length before + 1) (slice_get ports.ports number) priority frame number) n h in
      taken (length before + 1) number n (slice_get ports.ports number) refl own.1

  passed : (before : List ℕ) (words : List (List ℕ)) (path : List ℕ) → All (Takes ports priority frame) before → path_from ports priority frame before words ≡ Ok path
      → All (Takes ports priority frame) path × (length path ≡ length before + length words)
  unfolding path_from
  passed before [] path a h = let e = same_read before path h in (subst (All (Takes ports priority frame)) e a, let l = ap length e in omega (arith, l))
  passed before (word ∷ words) path a h =
      let n = both_read (next_port ports priority frame before word) (λ number. path_from ports priority frame (before ++ number ∷ []) words) path h in
      let more = passed (before ++ n.0 ∷ []) words path (All-push (Takes ports priority frame) before n.0 a (stepped before (port_named ports.names word) n.0 n.1)) n.2 in
      let l = length-append before (n.0 ∷ []) in
      let m = more.1 in
      (more.0, omega (arith, l, m))

  pub path_taken : (words : List (List ℕ)) (path : List ℕ) → path_ports ports priority frame words ≡ Ok path → All (Takes ports priority frame) path × (length path ≡ length words)
  path_taken words path h = let p = passed [] words path (All-nil (Takes ports priority frame)) h in let m = p.1 in (p.0, omega (arith, m))

  -- the ports of a path by what they say
  pub ports_taken : (path : List ℕ) → All (Takes ports priority frame) path → (texts : List PortText) × (map (slice_get ports.ports) path ≡ map Some texts)
  ports_taken [] a = ([], refl)
  ports_taken (number ∷ path) a =
      let t = All-head (Takes ports priority frame) number path a in
      let rest = ports_taken path (All-tail (Takes ports priority frame) number path a) in
      (t.port ∷ rest.0, ap₂ (λ (o : Option PortText) (os : List (Option PortText)). o ∷ os) t.there rest.1)

-- ---- paths of one link
-- all begin at one port
abbrev pub ArePaths : (ℕ → Type 0) → List (List ℕ) → Type 0
ArePaths T paths = (root : ℕ) × All (IsPathFrom T root) paths

module _ (T : ℕ → Type 0) where
  pub no_paths : ArePaths T []
  no_paths = (0, All-nil (IsPathFrom T 0))

  same_root : (root other : ℕ) (path : List ℕ) → IsPathFrom T root path → begins_elsewhere other path ≡ false → IsPathFrom T other path
  same_root root other path p h = (p.0, p.1 ∙ ap (λ (r : ℕ). r ∷ p.0) (first root p.0 (subst (λ (q : List ℕ). begins_elsewhere other q ≡ false) p.1 h)), p.2)
    where
      first : (root : ℕ) (rest : List ℕ) → not (root == other) ≡ false → root ≡ other
      first root rest h = eqb-true root other (not-false (root == other) h)

  all_same : (root other : ℕ) (paths : List (List ℕ)) → All (IsPathFrom T root) paths → list_any (begins_elsewhere other) paths ≡ false → All (IsPathFrom T other) paths
  all_same root other [] a h = All-nil (IsPathFrom T other)
  all_same root other (path ∷ paths) a h =
      let b = neither (begins_elsewhere other path) (list_any (begins_elsewhere other) paths) h in
      All-cons (IsPathFrom T other) path paths (same_root root other path (All-head (IsPathFrom T root) path paths a) b.0) (all_same root other paths (All-tail (IsPathFrom T root) path paths a) b.1)
    where
      neither : (a b : Bool) → a || b ≡ false → (a ≡ false) × (b ≡ false)
      neither true b h = cc
      neither false b h = (refl, h)

  pub path_added : (paths : List (List ℕ)) (path : List ℕ) (last : Option ℕ) → ArePaths T paths → 1 ≤ length path → All T path → hangs_from paths 0 None path ≡ Ok last → ArePaths T (paths ++ path ∷ [])
  unfolding hangs_from
  path_added paths [] last a n t h = absurd (omega arith)
  path_added paths (port ∷ path) last a n t h =
      let first = both_read (hangs paths 0 None port) (λ last. hangs_from paths 1 last path) last h in
      let none = not_refused (list_any (begins_elsewhere port) paths) BeginsElsewhere (Ok (Some port)) first.0 first.1 in
      (port, All-push (IsPathFrom T port) paths (port ∷ path) (all_same a.0 port paths a.1 none.0) (path, refl, t))

-- ---- what the rows of a link agree in
-- by value
pub record SameKeys (first row : LinkKeys) : Type 0 where
  pub gap : equals first.gap row.gap ≡ true
  pub largest_frame : first.largest_frame ≡ row.largest_frame
  pub jitter : equals first.jitter row.jitter ≡ true
  pub priority : first.priority ≡ row.priority

pub same_keys : (keys : LinkKeys) → SameKeys keys keys
same_keys keys = record { gap = once_more keys.gap; largest_frame = refl; jitter = once_more keys.jitter; priority = refl }
  where
    once_more : (a : Amount) → equals a a ≡ true
    once_more a = eq-eqb (a.top * a.bottom) (a.top * a.bottom) refl

agreed : (first row keys : LinkKeys) → agrees first row ≡ Ok keys → SameKeys first row
agreed first row keys h =
    let g = not_denied (equals first.gap row.gap) (record { column = column.Bag; wrong = Differs })
    (if not (first.largest_frame == row.largest_frame) then Err (record { column = column.LargestFrame; wrong = Differs })
    else (if not (equals first.jitter row.jitter) then Err (record { column = column.Jitter; wrong = Differs })
    else (if not (first.priority == row.priority) then Err (record { column = column.Priority; wrong = Differs })
    else Ok first))) keys h
    in
    let f = not_denied (first.largest_frame == row.largest_frame) (record { column = column.LargestFrame; wrong = Differs })
    (if not (equals first.jitter row.jitter) then Err (record { column = column.Jitter; wrong = Differs })
    else (if not (first.priority == row.priority) then Err (record { column = column.Priority; wrong = Differs })
    else Ok first)) keys g.1
    in
    let j = not_denied (equals first.jitter row.jitter) (record { column = column.Jitter; wrong = Differs })
    (if not (first.priority == row.priority) then Err (record { column = column.Priority; wrong = Differs })
    else Ok first) keys f.1
    in
    let p = not_denied (first.priority == row.priority) (record { column = column.Priority; wrong = Differs }) (Ok first) keys j.1 in
    record { gap = g.0; largest_frame = alike first.largest_frame row.largest_frame f.0; jitter = j.0; priority = alike first.priority row.priority p.0 }
  where
    alike : (a b : ℕ) → (a == b) ≡ true → a ≡ b
    alike a b h = eqb-true a b h

-- of a link, with the row at hand
abbrev pub HasKeysOf : Links → ℕ → LinkKeys → Type 0
HasKeysOf links link row = (keys : LinkKeys) × (slice_get links.keys link ≡ Some keys) × SameKeys keys row

-- the same of the link of a number that was looked up
pub has_agreed : (links : Links) (link : ℕ) (row keys : LinkKeys) → link < length links.keys → agrees_with (slice_get links.keys link) row ≡ Ok keys → HasKeysOf links link row
has_agreed links link row keys below h =
    let first = get_or links.keys link row in
    let at : slice_get links.keys link ≡ Some first = slice_get-get_or links.keys link row below in
    (first, at, agreed first row keys (ap (λ (o : Option LinkKeys). agrees_with o row) (sym at) ∙ h))

-- ---- links
module _ (ports : Ports) (overhead : ℕ) where
  abbrev pub Fits : LinkKeys → ℕ → Type 0
  Fits keys port = Takes ports keys.priority (frame_on_wire keys.largest_frame overhead) port

  -- as many names as links, each link with paths, but for one that has none yet
  pub record AreLinksBut (links : Links) (new : Option ℕ) : Type 0 where
    pub names : length links.names ≡ length links.keys
    pub few : length links.names ≤ most_links
    pub each : (k : ℕ) (keys : LinkKeys) → slice_get links.keys k ≡ Some keys → ArePaths (Fits keys) (paths_of k links.branches)
    pub some : (k : ℕ) → k < length links.keys → (new ≡ Some k → ⊥) → 1 ≤ length (paths_of k links.branches)
    pub others : (k : ℕ) → length links.keys ≤ k → paths_of k links.branches ≡ []
