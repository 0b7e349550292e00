use Rattle.py_parse_pattern.proofs.View.Turning.{enclosed_valid}
use Rattle.py_parse_pattern.proofs.reader.end_item.Goals as goal

pub after-requires-clause-measured : goal.after-requires-clause-measured
after-requires-clause-measured c = enclosed_valid c.in-Some.frame.bracket c.args.rows.row.items c.args.measured c.in_ok-measured-in-Close.measured c.requires.rows.row.items c.requires.rows.row.low_items c.requires.measured c.in_ok-measured-in-Close.ensures
