use Rattle.std.proofs.Common.{rules, ◌≡◌, [], ◌∷◌, Ok, Err, subst, map, string_bytes}
use Rattle.cov_sql.specs.declared.tables.Table.TheVariants as name
use Rattle.cov_sql.specs.Holding.{with_rows, Fills}
use Rattle.cov_sql.specs.SavedRows.{flag_row, numbered, with_names}
use Rattle.cov_sql.proofs.Stepping.{works_on, works_end}
use Rattle.cov_sql.proofs.Filling.{no_fill, fills_on}
use Rattle.cov_sql.proofs.inserting.insert_names.Goals as goal

pub returns-in_err-insert_flag-clause-steps : goal.returns-in_err-insert_flag-clause-steps
returns-in_err-insert_flag-clause-steps g c =
    let is : c.from_residual.result ≡ Err c.in_err-insert_flag.field-0.0 = search rules in
    works_end c.in_err-insert_flag.ensures.steps is

pub returns-in_err-insert_flag-clause-fills : goal.returns-in_err-insert_flag-clause-fills
returns-in_err-insert_flag-clause-fills g c tells =
    let is : c.from_residual.result ≡ Err c.in_err-insert_flag.field-0.0 = search rules in
    no_fill g.S.Store (with_names c.args.saved.now) c.args.work.now.conn.now c.insert_flag.new.work.conn.now _ _ is

pub returns-in_err-insert_texts-clause-steps : goal.returns-in_err-insert_texts-clause-steps
returns-in_err-insert_texts-clause-steps g c =
    let is : c.from_residual-in_err-insert_texts.result ≡ Err c.in_err-insert_texts.field-0.0 = search rules in
    works_end (works_on c.in_ok-insert_flag.ensures.steps c.in_err-insert_texts.ensures.steps) is

pub returns-in_err-insert_texts-clause-fills : goal.returns-in_err-insert_texts-clause-fills
returns-in_err-insert_texts-clause-fills g c tells =
    let is : c.from_residual-in_err-insert_texts.result ≡ Err c.in_err-insert_texts.field-0.0 = search rules in
    no_fill g.S.Store (with_names c.args.saved.now) c.args.work.now.conn.now c.insert_texts.new.work.conn.now _ _ is

pub returns-clause-steps : goal.returns-clause-steps
returns-clause-steps g c = works_on (works_on c.in_ok-insert_flag.ensures.steps c.in_ok-insert_texts.ensures.steps) c.insert_texts-2.ensures.steps

pub returns-clause-fills : goal.returns-clause-fills
returns-clause-fills g c =
    let s = c.args.saved.now in
    let one = c.insert_flag.new.work.conn.now in
    let two = c.insert_texts.new.work.conn.now in
    let last = c.insert_texts-2.new.work.conn.now in
    let flag = with_rows name.Meta (flag_row s.arcs ∷ []) in
    let files = with_rows name.File (numbered 1 (map string_bytes s.paths.items)) in
    let contexts = with_rows name.Context (numbered 1 (map string_bytes s.contexts.items)) in
    let both = works_on c.in_ok-insert_flag.ensures.steps c.in_ok-insert_texts.ensures.steps in
    fills_on (λ rows. files (flag rows)) contexts both c.insert_texts-2.ensures.steps
    (fills_on flag files c.in_ok-insert_flag.ensures.steps c.in_ok-insert_texts.ensures.steps c.in_ok-insert_flag.ensures.fills
    (λ told. subst (λ ts. Fills g.S.Store (with_rows name.File (numbered 1 (map string_bytes ts))) one two (Ok c.in_ok-insert_texts.field-0)) c.as_slice-paths.ensures.value (c.in_ok-insert_texts.ensures.fills told)))
    (λ told. subst (λ ts. Fills g.S.Store (with_rows name.Context (numbered 1 (map string_bytes ts))) two last c.insert_texts-2.result) c.as_slice-contexts.ensures.value (c.insert_texts-2.ensures.fills told))
