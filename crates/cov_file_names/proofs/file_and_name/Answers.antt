use Rattle.std.proofs.Common.{ap, sym, ◌∙◌, option_map, Bor}
use Rattle.cov_file_names.specs.Forms.{Text}
use Rattle.cov_file_names.proofs.Colons.{cut_nowhere-none, no_file, no_name, file_with_name}
use Rattle.cov_file_names.proofs.file_and_name.Goals as goal

pub returns-in_err-file : goal.returns-in_err-file
returns-in_err-file c =
    ap (option_map (λ (p : Bor Text × Bor Text). (p.0.now, p.1.now))) c.from_residual.ensures ∙ sym (cut_nowhere-none c.args.text.now c.in_err-file.ensures.cases)

pub returns-then-is_empty : goal.returns-then-is_empty
returns-then-is_empty c = sym (no_file c.args.text.now _ _ c.in_ok-file.ensures.cases (sym c.is_empty.ensures ∙ c.if-is_empty.true))

pub returns-then-is_empty-2 : goal.returns-then-is_empty-2
returns-then-is_empty-2 c =
    sym (no_name c.args.text.now _ _ c.in_ok-file.ensures.cases (sym c.is_empty.ensures ∙ c.if-is_empty.false) (sym c.is_empty-2.ensures ∙ c.if-is_empty-2.true))

pub returns : goal.returns
returns c =
    sym (file_with_name c.args.text.now _ _ c.in_ok-file.ensures.cases (sym c.is_empty.ensures ∙ c.if-is_empty.false) (sym c.is_empty-2.ensures ∙ c.if-is_empty-2.false))
