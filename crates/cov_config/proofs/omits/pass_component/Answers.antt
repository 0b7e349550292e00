use Rattle.std.proofs.Common.{ℕ, List, ap, sym, ◌∙◌, map, false, Bor}
use Rattle.std.specs.Str.{chars}
use Rattle.cov_config.specs.Omits.{fits, covers}
use Rattle.cov_config.specs.Rows.{any_at, advanced}
use Rattle.cov_config.proofs.Places.{covers_run, covers_one, reach, map-now}
use Rattle.cov_config.proofs.omits.pass_component.Goals as goal

pub returns-then-eq : goal.returns-then-eq
returns-then-eq c = λ ps.
    let texts = map (λ (p : Bor (List ℕ)). p.now) c.args.parts.now in
    ap (λ row. any_at row (covers ps) texts) c.spread.ensures
    ∙ covers_run c.args.row.now c.args.wanted.now ps texts (sym c.eq.ensures ∙ c.if-eq.true) (reach c.args.row.now c.args.parts.now c.requires)

pub returns : goal.returns
returns c = λ ps.
    let texts = map (λ (p : Bor (List ℕ)). p.now) c.args.parts.now in
    let wanted = c.args.wanted.now in
    let tests = c.as_slice.ensures.value ∙ c.in_ok-tests.ensures ∙ sym (map-now (λ part. fits (chars wanted) (chars part)) c.args.parts.now) in
    ap (λ row. any_at row (covers ps) texts) (c.advance.ensures ∙ ap (advanced false c.args.row.now) tests)
    ∙ covers_one c.args.row.now wanted ps texts (sym c.eq.ensures ∙ c.if-eq.false) (reach c.args.row.now c.args.parts.now c.requires)
