-- The exception of a cause.
use Rattle.std.proofs.Common.{◌≡◌, ◌≢◌, ℕ, List, refl, ap, sym, ◌∙◌}
use Rattle.std.specs.Str.{chars}
use Rattle.py_value.specs.declared.cause.Cause.{Cause}
use Rattle.py_value.specs.declared.cause.Cause.TheVariants.{UnsupportedOperand, NotCallable, WrongArgumentCount, UnhashableKey, NotIterable, NotSubscriptable, BadArgument, NotException, NotExceptionKind, WrongValueCount, InvalidLiteral, EmptySeparator, ZeroStep, InputNotUtf8, ListIndex, TupleIndex, StringIndex, ListAssignmentIndex, PopIndex, DivisionByZero, IntegerTooLarge, DictChangedSize, TooDeep, NoInput, TooManyItems}
use Rattle.py_value.specs.Plain.{PlainValue, PlainRaised, str_value, argument}
use Rattle.py_value.specs.declared.exception.ExcKind.{ExcKind}
use Rattle.py_value.specs.Causes.{kind_of, text_of, raised_by}

-- each text is ASCII
pub chars-text_of : (cause : Cause) → chars (text_of cause) ≡ text_of cause
unfolding chars
chars-text_of UnsupportedOperand = refl
chars-text_of NotCallable = refl
chars-text_of WrongArgumentCount = refl
chars-text_of UnhashableKey = refl
chars-text_of NotIterable = refl
chars-text_of NotSubscriptable = refl
chars-text_of BadArgument = refl
chars-text_of NotException = refl
chars-text_of NotExceptionKind = refl
chars-text_of WrongValueCount = refl
chars-text_of InvalidLiteral = refl
chars-text_of EmptySeparator = refl
chars-text_of ZeroStep = refl
chars-text_of InputNotUtf8 = refl
chars-text_of ListIndex = refl
chars-text_of TupleIndex = refl
chars-text_of StringIndex = refl
chars-text_of ListAssignmentIndex = refl
chars-text_of PopIndex = refl
chars-text_of DivisionByZero = refl
chars-text_of IntegerTooLarge = refl
chars-text_of DictChangedSize = refl
chars-text_of TooDeep = refl
chars-text_of NoInput = refl
chars-text_of TooManyItems = refl

-- but for want of room, the exception has the text as its argument
pub raised_by-text : (cause : Cause) → cause ≢ TooManyItems → raised_by cause ≡ record { kind = kind_of cause; arg = argument (str_value (text_of cause)) }
raised_by-text UnsupportedOperand h = refl
raised_by-text NotCallable h = refl
raised_by-text WrongArgumentCount h = refl
raised_by-text UnhashableKey h = refl
raised_by-text NotIterable h = refl
raised_by-text NotSubscriptable h = refl
raised_by-text BadArgument h = refl
raised_by-text NotException h = refl
raised_by-text NotExceptionKind h = refl
raised_by-text WrongValueCount h = refl
raised_by-text InvalidLiteral h = refl
raised_by-text EmptySeparator h = refl
raised_by-text ZeroStep h = refl
raised_by-text InputNotUtf8 h = refl
raised_by-text ListIndex h = refl
raised_by-text TupleIndex h = refl
raised_by-text StringIndex h = refl
raised_by-text ListAssignmentIndex h = refl
raised_by-text PopIndex h = refl
raised_by-text DivisionByZero h = refl
raised_by-text IntegerTooLarge h = refl
raised_by-text DictChangedSize h = refl
raised_by-text TooDeep h = refl
raised_by-text NoInput h = refl
raised_by-text TooManyItems h = absurd (h refl)

-- the exception as the code makes it
pub raised-made : (cause : Cause) (kind : ExcKind) (v : PlainValue) (text bytes : List ℕ) → cause ≢ TooManyItems → kind ≡ kind_of cause → v ≡ str_value text → text ≡ chars bytes → bytes ≡ text_of cause
    → record { kind = kind; arg = argument v } ≡ raised_by cause
raised-made cause kind v text bytes h e f g i =
    ap (λ k. let r : PlainRaised = record { kind = k; arg = argument v } in r) e
    ∙ ap (λ w. let r : PlainRaised = record { kind = kind_of cause; arg = argument w } in r) (f ∙ ap str_value (g ∙ ap chars i ∙ chars-text_of cause))
    ∙ sym (raised_by-text cause h)
