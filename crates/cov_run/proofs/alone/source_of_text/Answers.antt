use Rattle.std.proofs.Common.{refl}
use Rattle.py_syntax.specs.View.{plain_module}
use Rattle.cov_run.specs.Reading.{tree, unread, reading_of}
use Rattle.cov_run.proofs.Answering.{alone-no-fault}
use Rattle.cov_run.proofs.SourceReadings.{made, refused-reads}
use Rattle.cov_run.proofs.alone.source_of_text.Goals as goal

pub returns-in-Ok-from_str-clause-reads : goal.returns-in-Ok-from_str-clause-reads
returns-in-Ok-from_str-clause-reads c = (tree (plain_module c.in-Ok.source.module), c.in-Ok.ensures.read, made _ _ _ _ c.in-Ok-from_str.ensures.ok)

pub returns-in-Err-from_str-clause-reads : goal.returns-in-Err-from_str-clause-reads
returns-in-Err-from_str-clause-reads c = (unread, tt, refl)

pub returns-in-Err-clause-reads : goal.returns-in-Err-clause-reads
returns-in-Err-clause-reads c = refused-reads c.args.path.now c.args.text.now (reading_of c.in-Err.error) c.refused.result c.in-Err.ensures.refused c.refused.ensures

pub returns-in-Err-clause-no_fault : goal.returns-in-Err-clause-no_fault
returns-in-Err-clause-no_fault c = alone-no-fault c.args.path.now (reading_of c.in-Err.error) c.refused.result c.refused.ensures
