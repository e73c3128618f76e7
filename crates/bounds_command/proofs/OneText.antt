-- Reports that tell the same have one text and one status.
use Rattle.std.proofs.Common.{◌≡◌, ◌||◌, ℕ, Bool, if◌then◌else◌, List, [], ◌∷◌, ◌++◌, length, map, refl, sym, ◌∙◌, ap, ap₂}
use Rattle.std.specs.List.{flat_map, list_any}
use Rattle.std.proofs.lemmas.List.{length-map}
use Rattle.bounds_report.specs.Lines.{report_lines, head_line, queue_line, branch_line}
use Rattle.bounds_report.specs.Data.{report_json, queue_data, branch_data}
use Rattle.bounds_report.specs.declared.rows.QueueRow.{QueueRow}
use Rattle.bounds_report.specs.declared.rows.BranchRow.{BranchRow}
use Rattle.bounds_report.specs.declared.rows.Report.{Report}
use Rattle.bounds_command.specs.declared.form.Form.{Form}
use Rattle.bounds_command.specs.declared.form.Form.TheVariants.{Lines, Json}
use Rattle.bounds_command.specs.Reports.{QueueText, BranchText, queue_view, branch_view, is_missed, misses, status_with}
use Rattle.bounds_command.specs.View.{text_in}

-- ---- row by row
made_same : {X Y Z : Type 0} (v : X → Y) (f : X → Z) → ((x y : X) → v x ≡ v y → f x ≡ f y) → (xs ys : List X)
    → map v xs ≡ map v ys → map f xs ≡ map f ys
made_same v f same [] [] e = refl
made_same v f same [] (y ∷ ys) e = absurd (cc)
made_same v f same (x ∷ xs) [] e = absurd (cc)
made_same v f same (x ∷ xs) (y ∷ ys) e =
    let first : v x ≡ v y = cc in
    let rest : map v xs ≡ map v ys = cc in
    ap₂ (λ a b. a ∷ b) (same x y first) (made_same v f same xs ys rest)

joined : {X : Type 0} (f : X → List ℕ) (xs : List X) → flat_map f xs ≡ flat_map (λ t. t) (map f xs)
joined f [] = refl
joined f (x ∷ xs) = ap (λ t. f x ++ t) (joined f xs)

any_made : {X : Type 0} (f : X → Bool) (xs : List X) → list_any f xs ≡ list_any (λ b. b) (map f xs)
any_made f [] = refl
any_made f (x ∷ xs) = ap (λ b. f x || b) (any_made f xs)

queue_same : (x y : QueueRow) → queue_view x ≡ queue_view y → (queue_line x ≡ queue_line y) × (queue_data x ≡ queue_data y)
unfolding queue_line queue_data
queue_same x y e =
    let name = ap (λ (t : QueueText). t.name) e in
    let queue = ap (λ (t : QueueText). t.queue) e in
    let load = ap (λ (t : QueueText). t.load) e in
    let delay = ap (λ (t : QueueText). t.delay) e in
    let backlog = ap (λ (t : QueueText). t.backlog) e in
    (rw (name, queue, load, delay, backlog), rw (name, queue, load, delay, backlog))

branch_same : (x y : BranchRow) → branch_view x ≡ branch_view y → (branch_line x ≡ branch_line y) × (branch_data x ≡ branch_data y)
unfolding branch_line branch_data
branch_same x y e =
    let link = ap (λ (t : BranchText). t.link) e in
    let port = ap (λ (t : BranchText). t.port) e in
    let bound = ap (λ (t : BranchText). t.bound) e in
    let deadline = ap (λ (t : BranchText). t.deadline) e in
    (rw (link, port, bound, deadline), rw (link, port, bound, deadline))

missed_same : (x y : BranchRow) → branch_view x ≡ branch_view y → is_missed x ≡ is_missed y
missed_same x y e = ap (λ (t : BranchText). misses t.bound t.deadline) e

-- ---- reports
pub record TellTheSame (one other : Report) : Type 0 where
  pub ports : one.ports ≡ other.ports
  pub links : one.links ≡ other.links
  pub queues : map queue_view one.queues.items ≡ map queue_view other.queues.items
  pub branches : map branch_view one.branches.items ≡ map branch_view other.branches.items

pub status_same : (one other : Report) → TellTheSame one other → status_with one ≡ status_with other
status_same one other s =
    let S : Bool → ℕ = λ b. if b then 9 else 0 in
    let missed = made_same branch_view is_missed missed_same one.branches.items other.branches.items s.branches in
    ap S (any_made is_missed one.branches.items ∙ (ap (list_any (λ b. b)) missed ∙ sym (any_made is_missed other.branches.items)))

head_same : (one other : Report) → TellTheSame one other → head_line one ≡ head_line other
unfolding head_line
head_same one other s =
    let ports = s.ports in
    let links = s.links in
    let count : length one.branches.items ≡ length other.branches.items =
    sym (length-map one.branches.items branch_view) ∙ ap length s.branches
    ∙ length-map other.branches.items branch_view in
    rw (ports, links, count)

lines_same : {X Y : Type 0} (v : X → Y) (f : X → List ℕ) → ((x y : X) → v x ≡ v y → f x ≡ f y) → (xs ys : List X)
    → map v xs ≡ map v ys → flat_map f xs ≡ flat_map f ys
lines_same v f same xs ys e = joined f xs ∙ (ap (flat_map (λ t. t)) (made_same v f same xs ys e) ∙ sym (joined f ys))

pub text_same : (form : Form) (one other : Report) → TellTheSame one other → text_in form one ≡ text_in form other
unfolding report_lines report_json
text_same Lines one other s =
    let head = head_same one other s in
    let queues = lines_same queue_view queue_line (λ x y e. (queue_same x y e).0) one.queues.items other.queues.items s.queues in
    let branches = lines_same branch_view branch_line (λ x y e. (branch_same x y e).0) one.branches.items other.branches.items
    s.branches in
    rw (head, queues, branches)
text_same Json one other s =
    let queues = made_same queue_view queue_data (λ x y e. (queue_same x y e).1) one.queues.items other.queues.items s.queues in
    let branches = made_same branch_view branch_data (λ x y e. (branch_same x y e).1) one.branches.items other.branches.items
    s.branches in
    rw (queues, branches)
