use Rattle.std.proofs.lemmas.Grind.{common_steps}
use Rattle.std.proofs.Common.{length, Some, refl, arith}
use Rattle.cov_run.specs.Reading.{reading_of}
use Rattle.cov_run.specs.Refusals.{HasRoom, heavy}
use Rattle.cov_run.proofs.Answering.{alone-no-fault, unread-refuses}
use Rattle.cov_run.proofs.loading.Loading.add_bytes.Goals as goal

pub returns-in-Err-clause-refused : goal.returns-in-Err-clause-refused
returns-in-Err-clause-refused c =
    let room : HasRoom (length c.args.self.now.sources.items) c.args.self.now.bytes (Some c.args.bytes.now) c.args.bytes.now = record { next = record { there = refl; few = c.requires.few }; small = c.requires.small; light = omega arith } in
    unread-refuses (length c.args.self.now.sources.items) c.args.self.now.bytes c.args.path (Some c.args.bytes.now) c.args.bytes.now c.as_str.result.now (reading_of c.in-Err.error) c.refused.result c.as_str.ensures.bytes room c.in-Err.ensures.refused c.refused.ensures

pub returns-in-Err-clause-no_fault : goal.returns-in-Err-clause-no_fault
returns-in-Err-clause-no_fault c = alone-no-fault c.as_str.result.now (reading_of c.in-Err.error) c.refused.result c.refused.ensures

pub returns-then-total-gt-MOST_TOTAL_BYTES-clause-refused : goal.returns-then-total-gt-MOST_TOTAL_BYTES-clause-refused
returns-then-total-gt-MOST_TOTAL_BYTES-clause-refused c = λ m. let past = c.if-total-gt-MOST_TOTAL_BYTES.true in heavy c.args.bytes.now (record { there = refl; few = c.requires.few }) c.requires.small (omega (arith, past)) refl

pub returns-in-Ok-push-clause-added : goal.returns-in-Ok-push-clause-added
returns-in-Ok-push-clause-added c = grind (arith, common_steps)

pub returns-in-Ok-push-clause-grows : goal.returns-in-Ok-push-clause-grows
returns-in-Ok-push-clause-grows c = grind (arith, common_steps)
