-- What the code's records stand for, and what holds of them.
--     plan_from             its plan
--     recording_from        the recording
--     IsRecorded            what holds of the parts
use Rattle.std.specs.Prelude.{◌≡◌, map, string_bytes}
use Rattle.cov_recorder.specs.declared.records.Records.TheInside.{Inside}
use Rattle.cov_recorder.specs.Plan.{HaveFirsts, Plan}
use Rattle.cov_recorder.specs.Recording.{Recording}
use Rattle.cov_recorder.specs.Frames.{opened, AreSeated}
use Rattle.cov_recorder.specs.Rows.{with_rows, AreSound}
use Rattle.cov_recorder.specs.Names.{names_of}

-- the plan of some records
abbrev pub plan_from : Inside → Plan
plan_from a = record {
  units = names_of a.units.items;
  sets = a.sets.items;
  arcs = a.arcs;
  fixed = string_bytes a.fixed;
}

-- their open frames, and their data: paths, with the rows of the counters
abbrev pub recording_from : Inside → Recording
recording_from a = record {
  plan = plan_from a;
  frames = map opened a.frames;
  «data» = with_rows (plan_from a) a.rows a.data;
}

-- Each frame has its row of counters, and what was counted may be in data.
pub record IsRecorded (a : Inside) : Type 0 where
  pub kind : a.data.arcs ≡ a.arcs
  pub firsts : HaveFirsts (names_of a.units.items)
  pub seated : AreSeated (names_of a.units.items) a.rows a.frames
  pub sound : AreSound (plan_from a) a.rows
