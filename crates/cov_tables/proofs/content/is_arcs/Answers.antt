use Rattle.std.proofs.Common.{◌≡◌, Bool, List, [], ◌∷◌, map, cond, not, suc, arith, length, refl, ap, sym, ◌∙◌}
use Rattle.std.specs.Prelude.{◌||◌, ◌==◌}
use Rattle.cov_tables.specs.declared.cells.RowCells.{RowCells}
use Rattle.std.proofs.lemmas.Bool.{ne_eqb}
use Rattle.std.specs.List.{list_any}
use Rattle.cov_tables.specs.Fields.{row, rows}
use Rattle.cov_tables.specs.Content.{names_arcs, says_arcs, has_rows}
use Rattle.cov_tables.proofs.content.is_arcs.Goals as goal

read_any : {X Y : Type 0} (p : Y → Bool) (f : X → Y) (xs : List X) → list_any (λ x. p (f x)) xs ≡ list_any p (map f xs)
read_any p f [] = refl
read_any p f (x ∷ xs) = ap (λ b. p (f x) || b) (read_any p f xs)

pub returns-then-any_names : goal.returns-then-any_names
returns-then-any_names c =
    let meta = c.args.meta.now in
    let found = sym c.if-any_names.true ∙ c.any_names.ensures ∙ read_any names_arcs row meta in
    c.any_says.ensures ∙ read_any says_arcs row meta ∙ ap (λ b. cond b (list_any says_arcs (rows meta)) (has_rows (rows c.args.arcs.now))) found

any_row : (xs : List RowCells) → not (length xs == 0) ≡ has_rows (rows xs)
any_row [] = refl
any_row (x ∷ xs) = ap not (ne_eqb (suc (length xs)) 0 (λ e. absurd (omega (arith, e))))

pub returns-else-any_names : goal.returns-else-any_names
returns-else-any_names c =
    let meta = c.args.meta.now in
    let found = sym c.if-any_names.false ∙ c.any_names.ensures ∙ read_any names_arcs row meta in
    ap not c.is_empty.ensures ∙ any_row c.args.arcs.now ∙ ap (λ b. cond b (list_any says_arcs (rows meta)) (has_rows (rows c.args.arcs.now))) found
