use Rattle.std.proofs.Common.{ap, sym, ◌∙◌, subst, Err}
use Rattle.cov_config.specs.Plain.{Answers, settings_view}
use Rattle.cov_config.proofs.Documents.{meaning_of-document, meaning_of-none}
use Rattle.cov_config.proofs.config.read_config.Goals as goal

pub returns-in-Ok : goal.returns-in-Ok
returns-in-Ok c =
    let meant = meaning_of-document c.args.bytes.now _ c.in-Ok.ensures.ok.0 c.in-Ok.ensures.ok.1 in
    subst (λ m. Answers settings_view m c.read_table.result) (sym meant) c.read_table.ensures

pub returns-else-is_memory : goal.returns-else-is_memory
returns-else-is_memory c =
    meaning_of-none c.args.bytes.now (c.in-Err.ensures.refused (λ memory. absurd (let e = c.if-is_memory.ensures.1 memory in cc))) ∙ ap Err (sym c.new.ensures.bytes)
