use Rattle.std.proofs.Common.{refl, sym, ap, ◌∙◌, map, string_bytes}
use Rattle.cov_programs.proofs.Composing.{asks, followed-so, on-nobody}
use Rattle.cov_step.specs.Objects.{on_vault}
use Rattle.cov_step.specs.Phases.{inputs}
use Rattle.cov_vault.specs.Answers.{names_listed}
use Rattle.cov_calls.proofs.Told.{list_refused}
use Rattle.cov_joins.proofs.Finding.{no-names}
use Rattle.cov_joins.proofs.inputs.inputs.Goals as goal

pub returns-then-is_empty : goal.returns-then-is_empty
returns-then-is_empty g c =
    followed-so (on_vault g.V.Vault) (ap (λ names. inputs c.args.own.now (map string_bytes names)) (sym (no-names c.args.names.now (sym c.is_empty.ensures ∙ c.if-is_empty.true)))) refl
    (asks (names_listed c.names.result) c.names.new.self (record {
      moved = c.names.ensures.moved;
      not_absent = λ h. c.names.ensures.not_absent (list_refused _ _ h);
      not_schema = λ h. c.names.ensures.not_schema (list_refused _ _ h);
      not_bad_row = λ i h. c.names.ensures.not_bad_row i (list_refused _ _ h);
      count = c.names.ensures.count;
      failed = λ h. c.names.ensures.failed (list_refused _ _ h);
    })
    (on-nobody (on_vault g.V.Vault) _ c.parts_in.ensures))
