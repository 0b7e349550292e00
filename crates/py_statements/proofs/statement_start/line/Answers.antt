use Rattle.std.proofs.Common.{◌≡◌, Bool, true, false, ◌&&◌, reverse, Some, Vec, sym, refl, ap, ◌∙◌}
use Rattle.std.specs.Global.{Global}
use Rattle.py_syntax.specs.declared.stmt.Stmt.{Stmt}
use Rattle.py_syntax.specs.View.{plain_stmts}
use Rattle.py_statements.specs.Machine.{Over}
use Rattle.py_statements.specs.ViewStates.{kind_at, first_at, last_at, view_suites, view_state}
use Rattle.py_statements.proofs.View.Acts.{line_over, line_closes, line_begins}
use Rattle.py_statements.proofs.statement_start.line.Goals as goal

first : (a b : Bool) → (a && b) ≡ true → a ≡ true
first true b h = refl
first false b h = absurd cc

second : (a b : Bool) → (a && b) ≡ true → b ≡ true
second true b h = h
second false b h = absurd cc

pub returns-then-ends_module : goal.returns-then-ends_module
returns-then-ends_module c =
    let t = c.args.token.now in
    let both = sym c.ends_module.ensures ∙ c.if-ends_module.true in
    line_over (plain_stmts c.args.suites.body.items) (reverse c.args.suites.open.items) (kind_at t) (first_at t) (last_at t) (first _ _ both) (second _ _ both)
    ∙ ap (λ (ss : Vec Stmt Global). Some (Over (plain_stmts ss.items))) (sym c.into_body.ensures)

pub returns-then-ends_block : goal.returns-then-ends_block
returns-then-ends_block c =
    let t = c.args.token.now in
    let both = sym c.ends_block.ensures ∙ c.if-ends_block.true in
    line_closes (view_suites c.args.suites) (kind_at t) (first_at t) (last_at t) (view_state c.in_ok-close.field-0) (first _ _ both) (second _ _ both) c.in_ok-close.ensures

pub returns : goal.returns
returns c = line_begins (view_suites c.args.suites) c.args.token.now c.begin_line.result (sym c.ends_module.ensures ∙ c.if-ends_module.false) (sym c.ends_block.ensures ∙ c.if-ends_block.false) c.begin_line.ensures
