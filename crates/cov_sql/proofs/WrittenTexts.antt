-- Each text is one of those of writing.
use Rattle.std.proofs.Common.{refl}
use Rattle.cov_sql.specs.SqlTexts.{IsWritten, make_coverage_schema_text, make_meta_text, make_file_text, make_context_text, make_line_bits_text, make_arc_text, make_tracer_text, make_hits_text, insert_coverage_schema_text, insert_meta_text, insert_file_text, insert_context_text, insert_line_bits_text, insert_arc_text, insert_hits_text, delete_meta_text, delete_file_text, delete_context_text, delete_line_bits_text, delete_arc_text, delete_tracer_text, delete_hits_text}

pub of_make_coverage_schema : IsWritten make_coverage_schema_text
of_make_coverage_schema = (0, refl)

pub of_make_meta : IsWritten make_meta_text
of_make_meta = (1, refl)

pub of_make_file : IsWritten make_file_text
of_make_file = (2, refl)

pub of_make_context : IsWritten make_context_text
of_make_context = (3, refl)

pub of_make_line_bits : IsWritten make_line_bits_text
of_make_line_bits = (4, refl)

pub of_make_arc : IsWritten make_arc_text
of_make_arc = (5, refl)

pub of_make_tracer : IsWritten make_tracer_text
of_make_tracer = (6, refl)

pub of_make_hits : IsWritten make_hits_text
of_make_hits = (7, refl)

pub of_insert_coverage_schema : IsWritten insert_coverage_schema_text
of_insert_coverage_schema = (8, refl)

pub of_insert_meta : IsWritten insert_meta_text
of_insert_meta = (9, refl)

pub of_insert_file : IsWritten insert_file_text
of_insert_file = (10, refl)

pub of_insert_context : IsWritten insert_context_text
of_insert_context = (11, refl)

pub of_insert_line_bits : IsWritten insert_line_bits_text
of_insert_line_bits = (12, refl)

pub of_insert_arc : IsWritten insert_arc_text
of_insert_arc = (13, refl)

pub of_insert_hits : IsWritten insert_hits_text
of_insert_hits = (14, refl)

pub of_delete_meta : IsWritten delete_meta_text
of_delete_meta = (15, refl)

pub of_delete_file : IsWritten delete_file_text
of_delete_file = (16, refl)

pub of_delete_context : IsWritten delete_context_text
of_delete_context = (17, refl)

pub of_delete_line_bits : IsWritten delete_line_bits_text
of_delete_line_bits = (18, refl)

pub of_delete_arc : IsWritten delete_arc_text
of_delete_arc = (19, refl)

pub of_delete_tracer : IsWritten delete_tracer_text
of_delete_tracer = (20, refl)

pub of_delete_hits : IsWritten delete_hits_text
of_delete_hits = (21, refl)
