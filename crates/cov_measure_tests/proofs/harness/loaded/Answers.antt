use Rattle.cov_measure_tests.proofs.harness.loaded.Goals as goal

pub returns-in-Ok : goal.returns-in-Ok
returns-in-Ok c =
    c.loaded_programs_are_measured.ensures c.in-Ok.loaded c.in-Ok.ensures.code (c.loaded_have_text_lines.ensures _ _ _ _ _ c.in-Ok.ensures.loads)
