-- The tables of a data file by the enum of them: as they are read, and as they are declared.
use Rattle.std.specs.Prelude.{ℕ}
use Rattle.sqlite_schema.specs.declared.schema.Table.{Table}
use Rattle.cov_sql.specs.declared.tables.Table.{Table as Name}
use Rattle.cov_sql.specs.declared.tables.Table.TheVariants as name
use Rattle.cov_sql.specs.Tables.{Shape, coverage_schema, meta, file, context, line_bits, arc, tracer, hits}
use Rattle.cov_sql.specs.Declarations.{declared_coverage_schema, declared_meta, declared_file, declared_context, declared_line_bits, declared_arc, declared_tracer, declared_hits}

-- the name and the columns of a table
abbrev pub shape_of : Name → Shape
shape_of name.CoverageSchema = coverage_schema
shape_of name.Meta = meta
shape_of name.File = file
shape_of name.Context = context
shape_of name.LineBits = line_bits
shape_of name.Arc = arc
shape_of name.Tracer = tracer
shape_of name.Hits = hits

-- a table as data files declare it, by the number of its tree
abbrev pub declared_as : Name → ℕ → Table
declared_as name.CoverageSchema = declared_coverage_schema
declared_as name.Meta = declared_meta
declared_as name.File = declared_file
declared_as name.Context = declared_context
declared_as name.LineBits = declared_line_bits
declared_as name.Arc = declared_arc
declared_as name.Tracer = declared_tracer
declared_as name.Hits = declared_hits
