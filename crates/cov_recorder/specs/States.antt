-- What a recorder's parts are, in words.
use Rattle.cov_contexts.specs.Sources.{Sources}
use Rattle.cov_recorder.specs.declared.recorder.Recorder.{Recorder}
use Rattle.cov_recorder.specs.Recording.{Recording}

-- the open frames and the data
abbrev pub recording_of : {A P : Type 0} → Recorder A P → Recording
recording_of r = r.records

-- who gives labels
abbrev pub sources_of : {A P : Type 0} → Recorder A P → Sources A P
sources_of r = r.contexts

-- both
abbrev pub state_of : {A P : Type 0} → Recorder A P → Recording × Sources A P
state_of r = (r.records, r.contexts)
