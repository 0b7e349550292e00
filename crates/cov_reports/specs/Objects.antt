-- The objects of a report.
--     on_data        a shelf and a vault
--     on_sources     and a maker of patterns
--     on_report      and an output
use Rattle.cov_outside.specs.declared.shelf.Shelf.{Ghosts as ShelfOf}
use Rattle.cov_outside.specs.declared.sink.Sink.{Ghosts as SinkOf}
use Rattle.cov_exclude.specs.declared.maker.Maker.{Ghosts as MakerOf}
use Rattle.cov_programs.specs.Objects.{Moves, beside}
use Rattle.cov_vault.specs.declared.vault.Vault.{Ghosts as VaultOf}
use Rattle.cov_step.specs.Calls.{Call, Answer}
use Rattle.cov_step.specs.Objects.{on_shelf, on_vault, on_maker, on_sink}

-- a shelf and a vault
abbrev pub on_data : {H V : Type 0} → ShelfOf H → VaultOf V → Moves Call Answer (H × V)
on_data shelf vault = beside (on_shelf shelf) (on_vault vault)

-- and a maker of patterns
abbrev pub on_sources : {H V M : Type 0} → ShelfOf H → VaultOf V → MakerOf M
    → Moves Call Answer ((H × V) × M)
on_sources shelf vault maker = beside (on_data shelf vault) (on_maker maker)

-- and an output
abbrev pub on_report : {H V M O : Type 0} → ShelfOf H → VaultOf V → MakerOf M → SinkOf O
    → Moves Call Answer (((H × V) × M) × O)
on_report shelf vault maker sink = beside (on_sources shelf vault maker) (on_sink sink)
