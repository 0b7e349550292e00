-- The step of words, as a call took it.
--     why_of, ending_in      what a command's ending answers, and writes to `err` besides
--     AnswersTo              the answer to an ending of which something holds
--     HasOneText             words of a command that says nothing before it ended
--     StepTaken              the step, its answer and its text
use Rattle.std.specs.Prelude.{◌≡◌, ℕ, true, List, [], Result, Ok, Err}
use Rattle.cov_outside.specs.declared.sink.Sink.{Ghosts as SinkOf}
use Rattle.cov_app.specs.Objects.{told_view, saying}
use Rattle.cov_app.specs.declared.answer.Told.{Told}
use Rattle.cov_app.specs.declared.answer.Told.TheVariants.{Whole}
use Rattle.cov_programs.specs.Ends.{Follows}
use Rattle.cov_programs.specs.Objects.{Moves, beside}
use Rattle.cov_step.specs.Calls.{Call, Answer, Answered, IsNoMemory}
use Rattle.cov_step.specs.Objects.{Saying, SayOf, IsSaid, on_err}
use Rattle.cov_step.specs.Promises.{has_one_text}
use Rattle.cov_step.specs.Step.{step}
use Rattle.cov_why.specs.Answers.{PlainWhy, plain_why}
use Rattle.cov_why.specs.Messages.{message_of}
use Rattle.cov_why.specs.declared.why.Why.{Why}
use Rattle.cov_words.specs.Commands.{PlainCommand, IsCommand}
use Rattle.cov_words.specs.Values.{Word}

-- the answer to an ending
abbrev pub why_of : Result Answered PlainWhy → PlainWhy
why_of (Ok a) = Ok a.ended
why_of (Err why) = why

-- the bytes that the ending of its program writes, or the percent that was asked for
abbrev pub ending_in : Result Answered PlainWhy → List ℕ
ending_in (Ok a) = a.ending
ending_in (Err why) = []

-- it is the answer to an ending of which this holds
abbrev pub AnswersTo : (Result Answered PlainWhy → Type 0) → PlainWhy → Type 0
AnswersTo Holds why = (ending : Result Answered PlainWhy) × (why ≡ why_of ending) × Holds ending

-- a command that the words are says nothing before it ended: any but `script`
abbrev pub HasOneText : List Word → Type 0
HasOneText words = (c : PlainCommand) → IsCommand c words → has_one_text c ≡ true

-- The objects followed the step of the words, with `err` beside them, and it ended so. The answer
-- says how. Its text was said at last, unless one before it was refused.
pub record StepTaken {W E : Type 0} (moves : Moves Call Answer W) (err : SinkOf E)
    (words : List Word) (old new : W) (answer : Why) (what : Told) (before after : E)
    : Type 0 where
  pub ending : Result Answered PlainWhy
  pub said : Saying E
  pub step :
      Follows (beside moves (on_err err)) IsNoMemory (step words) (old, saying before Whole) ending
      (new, said)
  pub answered : plain_why answer ≡ why_of ending
  pub last :
      SayOf err said (message_of (plain_why answer) (ending_in ending)) (saying after what)
  pub told :
      HasOneText words → err.tells
      → IsSaid (told_view what) (message_of (plain_why answer) (ending_in ending))
      (err.contents before) (err.contents after)
