use Rattle.cov_run.specs.Reading.{no_text}
use Rattle.cov_run.proofs.Answering.{alone-no-fault}
use Rattle.cov_run.proofs.SourceReadings.{refused-reads}
use Rattle.cov_run.proofs.alone.source_of_bytes.Goals as goal

pub returns-in-Err-clause-reads : goal.returns-in-Err-clause-reads
returns-in-Err-clause-reads c = refused-reads c.args.path.now c.args.bytes.now (no_text c.in-Err.line) c.refused.result c.in-Err.ensures c.refused.ensures

pub returns-in-Err-clause-no_fault : goal.returns-in-Err-clause-no_fault
returns-in-Err-clause-no_fault c = alone-no-fault c.args.path.now (no_text c.in-Err.line) c.refused.result c.refused.ensures
