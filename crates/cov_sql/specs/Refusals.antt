-- What a refused statement means for the data file: one that lacks a table is none of schema 7.
use Rattle.cov_sql.specs.declared.statements.StatementError.{StatementError}
use Rattle.cov_sql.specs.declared.statements.StatementError.TheVariants as statement
use Rattle.cov_sql.specs.declared.errors.SqlError.{SqlError}
use Rattle.cov_sql.specs.declared.errors.SqlError.TheVariants.{NotSchema7, Refused, NoMemory}

-- why a file was not read or written, by why a statement was refused
abbrev pub refusal : StatementError → SqlError
refusal statement.Missing = NotSchema7
refusal statement.Refused = Refused
refusal statement.NoMemory = NoMemory
