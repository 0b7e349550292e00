-- What a token does to an expression, as the code holds it without trees.
use Rattle.std.specs.Prelude.{◌≡◌, Bool, true, false, List, [], Result, Ok, Err}
use Rattle.std.specs.declared.alloc.AllocError.{AllocError}
use Rattle.py_syntax.specs.Tree.{no_exprs, no_pairs, no_links, absent, no_fragments, plain}
use Rattle.py_grammar.specs.TokenClasses.{TokenClass}
use Rattle.py_grammar.specs.Machine.{Frame, Ctx, on, State, Want, Have, Strings, AfterOpen, AfterComma, ItemsOpen, ItemsComma, DictOpen, DictComma, IndexOpen, SliceColon, AfterDot, AfterNot, AfterIs, AfterIsNot, Linked, Out, Next, Stuck, Left, give, step}
use Rattle.py_grammar.specs.Least.{least_name}
use Rattle.py_grammar.specs.Bare.{bare_out, Free}
use Rattle.py_parse_fields.specs.declared.frames.Frame as code_frame
use Rattle.py_parse_fields.specs.declared.token_classes.TokenClass as code_class
use Rattle.py_parse_fields.specs.declared.reader.Progress.{Progress}
use Rattle.py_parse_fields.specs.declared.reader.Progress.TheVariants as progress_
use Rattle.py_parse_fields.specs.declared.reader.Reader.{Reader}
use Rattle.py_parse_fields.specs.declared.reader.Turn.{Turn}
use Rattle.py_parse_fields.specs.declared.reader.Turn.TheVariants as turn_
use Rattle.py_parse_fields.specs.declared.replies.Reply.{Reply}
use Rattle.py_parse_fields.specs.declared.replies.Reply.TheVariants as reply_
use Rattle.py_parse_fields.specs.Frames.{view_class, view_precedence, view_opener, view_frame, view_stack}

-- a place in an expression, with the frames that are open round it
abbrev pub view_at : Progress → Ctx → State
view_at (progress_.Want l) k = Want (view_precedence l) k
view_at progress_.Have k = Have least_name k
view_at progress_.Strings k = Strings (plain [] no_fragments) k
view_at progress_.AfterOpen k = AfterOpen k
view_at progress_.AfterComma k = AfterComma least_name no_exprs k
view_at (progress_.ItemsOpen o) k = ItemsOpen (view_opener o) k
view_at (progress_.ItemsComma o) k = ItemsComma (view_opener o) no_exprs k
view_at progress_.DictOpen k = DictOpen k
view_at progress_.DictComma k = DictComma no_pairs k
view_at progress_.IndexOpen k = IndexOpen least_name k
view_at progress_.SliceColon k = SliceColon least_name absent k
view_at progress_.AfterDot k = AfterDot least_name k
view_at progress_.AfterNot k = AfterNot least_name no_links k
view_at progress_.AfterIs k = AfterIs least_name no_links k
view_at progress_.AfterIsNot k = AfterIsNot least_name no_links k
view_at progress_.Linked k = Linked least_name no_links k

-- a reader: its place, and the frames that are open
abbrev pub view_reader : Reader → State
view_reader r = view_at r.progress (view_stack r.frames.items)

-- what a token makes of a place
abbrev pub view_turn : Turn → Out
view_turn (turn_.Next r) = Next (view_reader r)
view_turn turn_.Stuck = Stuck
view_turn turn_.Left = Left least_name

-- the outermost expression is whole
abbrev pub is_left : Out → Bool
is_left (Next s) = false
is_left Stuck = false
is_left (Left e) = true

-- the same where memory lasts
abbrev pub Turns : Out → Result Turn AllocError → Type 0
Turns o (Ok t) = o ≡ bare_out (view_turn t)
Turns o (Err e) = Unit {0}

-- What the machine does, but for the trees.
abbrev pub Acts : Out → Result Turn AllocError → Type 0
Acts o r = Turns (bare_out o) r

-- What a token makes of a place in an expression, with these frames open round it.
abbrev pub Steps : Progress → List code_frame.Frame → code_class.TokenClass
    → Result Turn AllocError → Type 0
Steps p fs t r = Acts (step (view_at p (view_stack fs)) (view_class t)) r

-- The place that is reached, with frames more than these.
abbrev pub Reaches : Progress → (Ctx → Ctx) → List code_frame.Frame → Result Turn AllocError
    → Type 0
Reaches p added fs r = Acts (Next (view_at p (added (view_stack fs)))) r

-- what the answer of a frame makes of what is open round it
abbrev pub replied : Reply → Ctx → TokenClass → Out
replied reply_.Pass k t = give least_name k t
replied reply_.Stuck k t = Stuck
replied (reply_.Goes p) k t = Next (view_at p k)
replied (reply_.Opens f p) k t = Next (view_at p (on (view_frame f) k))

-- What a frame does with a token is what the machine does there, but for the trees.
pub record Offers (f : Frame) (t : TokenClass) (o : Reply) : Type 0 where
  pub same : (k : Ctx) → Free k → bare_out (give least_name (on f k) t) ≡ bare_out (replied o k t)
