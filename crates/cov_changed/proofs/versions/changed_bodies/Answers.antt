use Rattle.std.proofs.Common.{map, ap, ◌∙◌}
use Rattle.py_syntax.specs.View.{plain_stmts}
use Rattle.cov_pieces.specs.Pieces.{picked, function_of}
use Rattle.cov_pieces.specs.Views.{plain_function, pieces_of}
use Rattle.cov_changed.specs.Views.{lines_of}
use Rattle.cov_changed.proofs.Together.{changes_module, same_nodes}
use Rattle.cov_changed.proofs.versions.changed_bodies.Goals as goal

pub returns : goal.returns
returns c =
    changes_module (plain_stmts c.args.a.now) (plain_stmts c.args.b.now) (pieces_of c.in_ok-before.before.items) (pieces_of c.in_ok-after.after.items)
    (map plain_function c.in_ok-fs.fs.items) (map plain_function c.in_ok-gs.gs.items) (lines_of c.new-found.result) _ c.in_ok-before.ensures c.in_ok-after.ensures
    (c.in_ok-fs.ensures ∙ ap (λ l. picked function_of (pieces_of l)) c.deref.ensures.value)
    (c.in_ok-gs.ensures ∙ ap (λ l. picked function_of (pieces_of l)) c.deref-2.ensures.value)
    c.new-found.ensures
    (same_nodes (lines_of c.new-found.result) _ c.in_ok-before.before.items _ c.in_ok-fs.fs.items _ c.in_ok-after.after.items _ c.in_ok-gs.gs.items _
    c.deref-3.ensures.value c.deref-4.ensures.value c.deref-5.ensures.value c.deref-6.ensures.value c.in_ok-add_changes.ensures)
