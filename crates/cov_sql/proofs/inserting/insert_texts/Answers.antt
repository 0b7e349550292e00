use Rattle.std.proofs.Common.{rules, ◌≡◌, ◌+◌, pos, [], ◌∷◌, Ok, Err, sym, subst, map, take, string_bytes}
use Rattle.std.proofs.lemmas.List.{take_all}
use Rattle.sqlite_value.specs.declared.value.Value.TheVariants.{Int, Text}
use Rattle.sqlite.specs.Held.{state}
use Rattle.cov_sql.specs.ByName.{shape_of, declared_as}
use Rattle.cov_sql.specs.Holding.{with_rows, Fills}
use Rattle.cov_sql.specs.SavedRows.{numbered, table_of}
use Rattle.cov_sql.proofs.Stepping.{works_none, works_on, works_end}
use Rattle.cov_sql.proofs.Filling.{no_fill, fills_none, fills_more, numbered_at, as_row}
use Rattle.cov_sql.proofs.inserting.insert_texts.Goals as goal

pub returns-in_err-insert_text-clause-steps : goal.returns-in_err-insert_text-clause-steps
returns-in_err-insert_text-clause-steps g c =
    let is : c.from_residual.result ≡ Err c.in_err-insert_text.field-0.0 = search rules in
    works_end (works_on c.loop-text.invariant.steps c.in_err-insert_text.ensures.steps) is

pub returns-in_err-insert_text-clause-fills : goal.returns-in_err-insert_text-clause-fills
returns-in_err-insert_text-clause-fills g c tells =
    let is : c.from_residual.result ≡ Err c.in_err-insert_text.field-0.0 = search rules in
    no_fill g.S.Store (with_rows (table_of c.args.kind) (numbered 1 (map string_bytes c.args.texts.now))) c.args.work.now.conn.now c.insert_text.new.work.conn.now _ _ is

pub returns-clause-fills : goal.returns-clause-fills
returns-clause-fills g c tells =
    subst (λ texts. Fills g.S.Store (with_rows (table_of c.args.kind) (numbered 1 (map string_bytes texts))) c.args.work.now.conn.now c.loop-text.work.conn.now (Ok tt)) (take_all c.loop-text.text-index c.args.texts.now c.loop-text-test.false)
    (c.loop-text.invariant.fills tells)

pub loop-text-init : goal.loop-text-init
loop-text-init g c = record {
  number_is = search rules;
  steps = works_none _ _;
  fills = λ tells. fills_none g.S.Store (table_of c.args.kind) c.args.work.now.conn.now;
}

pub loop-text-preserved : goal.loop-text-preserved
loop-text-preserved g c =
    let before = c.loop-text.invariant in
    let now = c.loop-text.work.conn.now in
    let next = c.insert_text.new.work.conn.now in
    let table = table_of c.args.kind in
    let all = c.args.texts.now in
    let i = c.loop-text.text-index in
    let it = c.text-item.result in
    let number_is = c.loop-text.invariant.number_is in
    record {
      number_is = search rules;
      steps = works_on before.steps c.in_ok-insert_text.ensures.steps;
      fills = λ tells.
          subst (λ rows. Fills g.S.Store (with_rows table rows) c.args.work.now.conn.now next (Ok tt)) (sym (numbered_at all i it c.loop-text-test.true c.text-item.is))
          (fills_more table (numbered 1 (map string_bytes (take i all))) (Int (pos (i + 1)) ∷ Text (string_bytes it) ∷ []) before.steps c.in_ok-insert_text.ensures.steps before.fills
          (λ told. as_row (shape_of table) (declared_as table) (state g.S.Store now) (state g.S.Store next) (Ok tt) (pos (i + 1)) (string_bytes it) (c.in_ok-insert_text.ensures.inserts told) (search rules) c.as_str.ensures.value) tells);
    }
