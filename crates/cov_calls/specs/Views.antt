-- What the types of the code stand for.
use Rattle.std.specs.Prelude.{◌≡◌, ◌⊎◌, ◌<◌, ◌^◌, Option, Some, None, Result, Ok, Err, string_bytes}
use Rattle.cov_outside.specs.declared.sink.SinkError.{SinkError}
use Rattle.cov_calls.specs.declared.answered.Answered.{Answered}
use Rattle.cov_calls.specs.declared.answered.Ended.{Ended}
use Rattle.cov_calls.specs.declared.answered.Ended.TheVariants as ended
use Rattle.cov_calls.specs.declared.pattern_lists.PatternLists.{PatternLists}
use Rattle.cov_calls.specs.declared.vaults.Before.{Before}
use Rattle.cov_calls.specs.declared.vaults.Before.TheVariants as before
use Rattle.cov_exclude.specs.declared.patterns.PatternError.{PatternError}
use Rattle.cov_exclude.specs.declared.patterns.PatternError.TheVariants as pattern_error
use Rattle.cov_step.specs.Answers as plain
use Rattle.cov_step.specs.Calls as call
use Rattle.cov_why.specs.Answers as why
use Rattle.cov_why.specs.declared.why.Why.{Why}

-- how a command ended
abbrev pub ended_view : Ended → why.Ended
ended_view ended.Finished = why.finished
ended_view (ended.Program status) = why.program status
ended_view (ended.Budget steps) = why.budget steps
ended_view (ended.Under covered all) = why.under covered all
ended_view (ended.Tests passed failed cut) = why.tests passed failed cut

-- with the bytes of its ending
abbrev pub answered_view : Answered → call.Answered
answered_view a = record { ended = ended_view a.ended; ending = string_bytes a.ending }

-- what stands under the name of a command's data
abbrev pub before_view : Before → plain.Before
before_view before.Nothing = plain.nothing
before_view (before.There d) = plain.there d
before_view (before.BadRow i) = plain.bad_row i

-- why a write was refused, where it was
abbrev pub sink_refusal_of : {A : Type 0} → Result A SinkError → Option SinkError
sink_refusal_of (Ok a) = None
sink_refusal_of (Err error) = Some error

-- the answer is this refusal, or that memory was wanting
abbrev pub RefusedBy : why.Refusal → Why → Type 0
RefusedBy refusal w = (why.plain_why w ≡ Err refusal) ⊎ (why.plain_why w ≡ Err why.no_memory)

-- why patterns weren't made, where they weren't
abbrev pub pattern_error_of : {A : Type 0} → Result A PatternError → Option PatternError
pattern_error_of (Ok a) = None
pattern_error_of (Err error) = Some error

-- the place that is named, where one is, is that of a text of a list
abbrev pub NamesSmallPlace : PatternError → Type 0
NamesSmallPlace (pattern_error.BadPattern at) = at < 2 ^ 63
NamesSmallPlace (pattern_error.PatternSize at) = at < 2 ^ 63
NamesSmallPlace pattern_error.NoMemory = Unit {0}

-- the texts of both lists of patterns
abbrev pub lists_view : PatternLists → call.Patterns
lists_view p = record { exclude = p.exclude; partial = p.partial }
