use Rattle.std.proofs.Common.{Bor, List, ℕ, ◌≡◌, ◌+◌, ◌++◌, [], map, arith, sym, ap, ◌∙◌, subst}
use Rattle.std.specs.List.{slice_range}
use Rattle.table_cells.specs.Words.{ended}
use Rattle.table_cells.proofs.Cut.{IsCut, cut_blank, cut_more, cut_all}
use Rattle.table_cells.proofs.words.words_in.Goals as goal
use Rattle.table_cells.proofs.words.words_in.Goals.{then-is_ascii_whitespace+in_ok-push_word, else-is_ascii_whitespace}

seen : List (Bor (List ℕ)) → List (List ℕ)
seen words = map (λ word. word.now) words

pub loop-at-preserved : goal.loop-at-preserved
unfolding seen
loop-at-preserved c =
    let cell = c.args.cell.now in
    let start = c.loop-at.start in
    let at = c.loop-at.at in
    let old = seen c.loop-at.words.items in
    let blank = c.is_ascii_whitespace.ensures.value in
    let inv = c.loop-at.invariant in
    elim c.if-is_ascii_whitespace.branch [
      | then-is_ascii_whitespace+in_ok-push_word w ↦
          let so = cut_blank cell start at old c.loop-at-test.true (sym blank ∙ w.if-is_ascii_whitespace.true) inv.cut in
          let grown : seen c.if-is_ascii_whitespace.words.items ≡ old ++ ended (slice_range cell start at) [] =
          ap (λ v. seen v.items) w.words-is ∙ w.in_ok-push_word.ensures in
          record {
            near = let s = w.start-is in omega (arith, s);
            cut = subst (λ s. IsCut cell s (at + 1) (seen c.if-is_ascii_whitespace.words.items)) (sym w.start-is) (subst (λ ws. IsCut cell (at + 1) (at + 1) ws) (sym grown) so);
          }
      | else-is_ascii_whitespace w ↦
          let so = cut_more cell start at old inv.near c.loop-at-test.true (sym blank ∙ w.if-is_ascii_whitespace.false) inv.cut in
          record {
            near = let s = w.start-is in let n = inv.near in omega (arith, s, n);
            cut = subst (λ s. IsCut cell s (at + 1) (seen c.if-is_ascii_whitespace.words.items)) (sym w.start-is)
                (subst (λ ws. IsCut cell start (at + 1) ws) (sym (ap (λ v. seen v.items) w.words-is)) so);
          }
    ]

pub returns : goal.returns
returns c =
    let past = c.loop-at-test.false in
    let near = c.loop-at.auto.at-end in
    c.in_ok-push_word-2.ensures
    ∙ cut_all c.args.cell.now c.loop-at.start c.loop-at.at (map (λ word. word.now) c.loop-at.words.items) (omega (arith, past, near)) c.loop-at.invariant.cut
