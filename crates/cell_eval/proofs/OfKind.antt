-- A cell is the one of its kind with its numbers; that of a path has 0 for its second one.
use Rattle.std.proofs.Common.{◌≡◌, ℕ, sym, subst}
use Rattle.std.specs.Prelude.{IsTrue, ◌==◌}
use Rattle.std.proofs.lemmas.Bool.{and_parts, eqb-true}
use Rattle.net_model.specs.Networks.{Net}
use Rattle.net_cells.specs.declared.cell.Cell.{Cell}
use Rattle.net_cells.specs.declared.cell.Kind.{Kind}
use Rattle.net_cells.specs.declared.cell.Scope.{Scope}
use Rattle.net_cells.specs.declared.cell.Scope.TheVariants.{EachPath}
use Rattle.net_cells.specs.Numbered.{is_live}
use Rattle.net_cells.specs.Cells.{cell_of, scope_of, is_in_scope}
use Rattle.net_cells.specs.Meanings.{CellTable}
use Rattle.net_cells.specs.Answers.{Answer}
use Rattle.cell_eval.specs.Evaluates.{MayBeMade, Evaluates}

module _ (net : Net) (at : CellTable) (c : Cell) (kind : Kind) where
  pub made_of_kind : c.kind ≡ kind → MayBeMade net at c → MayBeMade net at (cell_of kind c.a c.b)
  made_of_kind e m = subst (λ k. MayBeMade net at (cell_of k c.a c.b)) e m

  pub evaluates_kind : (old new : ℕ) (r : Answer) → c.kind ≡ kind → Evaluates net at (cell_of kind c.a c.b) old new r
      → Evaluates net at c old new r
  evaluates_kind old new r e v = subst (λ k. Evaluates net at (cell_of k c.a c.b) old new r) (sym e) v

  no_second : c.kind ≡ kind → scope_of kind ≡ EachPath → MayBeMade net at c → c.b ≡ 0
  no_second e path m =
      let there = (made_of_kind e m).exists in
      let live = subst (λ (s : Scope). IsTrue (is_in_scope net s c.a c.b)) path there in
      eqb-true c.b 0 (and_parts (is_live net c.a) (c.b == 0) live).1

  pub made_of_path : c.kind ≡ kind → scope_of kind ≡ EachPath → MayBeMade net at c → MayBeMade net at (cell_of kind c.a 0)
  made_of_path e path m = subst (λ b. MayBeMade net at (cell_of kind c.a b)) (no_second e path m) (made_of_kind e m)

  pub evaluates_path : (old new : ℕ) (r : Answer) → c.kind ≡ kind → scope_of kind ≡ EachPath → MayBeMade net at c
      → Evaluates net at (cell_of kind c.a 0) old new r → Evaluates net at c old new r
  evaluates_path old new r e path m v =
      evaluates_kind old new r e (subst (λ b. Evaluates net at (cell_of kind c.a b) old new r) (sym (no_second e path m)) v)
