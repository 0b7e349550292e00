-- A field is read token by token without its trees.
use Rattle.std.proofs.Common.{◌≡◌, ℕ, ◌+◌, ◌<◌, Bool, false, cond, List, drop, length, get_or, Option, Some, None, is_some, option_map, rules, refl, sym, ap, ◌∙◌}
use Rattle.std.proofs.lemmas.List.{at_drop_more}
use Rattle.py_token.specs.declared.token.Token.{Token, out-Token}
use Rattle.py_token.specs.declared.token.Piece.{the_lemmas}
use Rattle.py_token.specs.declared.token.Piece.TheVariants as piece_
use Rattle.py_token.specs.Plain.{PToken, chars, token_row}
use Rattle.py_token.specs.View.{view_token, view_kind, view_tokens, view_piece}
use Rattle.py_token.proofs.Views.{plain-token}
use Rattle.py_syntax.specs.Tree.{Text, Expr, Parts, field}
use Rattle.py_syntax.specs.Kinds.{Pieces, Kinds, kinds, bare_kind, bare_token, bare_tokens}
use Rattle.py_grammar.specs.TokenClasses.{TokenClass}
use Rattle.py_grammar.specs.Machine.{Out, Next, Stuck, Left, step, parts, field_expr}
use Rattle.py_grammar.specs.Bare.{bare, bare_out}
use Rattle.py_grammar.proofs.Sound.Spelled.{field_after}
use Rattle.py_grammar.proofs.View.AlikeSteps.{FreeState, FreeOut, step_free, is_spelled, fields_alike}
use Rattle.py_parse_fields.specs.declared.frames.Frame as code_frame
use Rattle.py_parse_fields.specs.declared.reader.Progress.{Progress}
use Rattle.py_parse_fields.specs.declared.reader.Progress.TheVariants as progress_
use Rattle.py_parse_fields.specs.declared.reader.Reader.{Reader}
use Rattle.py_parse_fields.specs.declared.reader.Turn.{Turn}
use Rattle.py_parse_fields.specs.declared.reader.Turn.TheVariants as turn_
use Rattle.py_parse_fields.specs.Frames.{view_stack}
use Rattle.py_parse_fields.specs.Reader.{view_at, view_reader, view_turn}
use Rattle.py_parse_fields.proofs.Offers.{stack_free}

abbrev pub row : List Token → Kinds
row ts = bare_tokens (token_row (view_tokens ts))

pub next_row : (ts : List Token) (i : ℕ) (t : Token) → i < length ts → t ≡ get_or ts i t → row (drop i ts) ≡ kinds (bare_kind (view_kind (out-Token t).kind)) (row (drop (i + 1) ts))
next_row ts i t h is = at_drop_more row ts i t h ∙ ap (λ (x : PToken). kinds (bare_token x) (row (drop (i + 1) ts))) (ap view_token (sym is) ∙ plain-token t)

-- ---- no state of the code asks for a target

at_free : (p : Progress) (fs : List code_frame.Frame) → FreeState (view_at p (view_stack fs))
at_free (progress_.Want l) fs = stack_free fs
at_free progress_.Have fs = stack_free fs
at_free progress_.Strings fs = stack_free fs
at_free progress_.AfterOpen fs = stack_free fs
at_free progress_.AfterComma fs = stack_free fs
at_free (progress_.ItemsOpen o) fs = stack_free fs
at_free (progress_.ItemsComma o) fs = stack_free fs
at_free progress_.DictOpen fs = stack_free fs
at_free progress_.DictComma fs = stack_free fs
at_free progress_.IndexOpen fs = stack_free fs
at_free progress_.SliceColon fs = stack_free fs
at_free progress_.AfterDot fs = stack_free fs
at_free progress_.AfterNot fs = stack_free fs
at_free progress_.AfterIs fs = stack_free fs
at_free progress_.AfterIsNot fs = stack_free fs
at_free progress_.Linked fs = stack_free fs

turn_free : (t : Turn) → FreeOut (view_turn t)
turn_free (turn_.Next r) = at_free r.progress r.frames.items
turn_free turn_.Stuck = tt
turn_free turn_.Left = tt

-- ---- a token

some_spelled : (o : Option Expr) → is_spelled o ≡ is_some o
some_spelled None = refl
some_spelled (Some e) = refl

after_alike : (ts : Kinds) (o p : Out) → FreeOut o → FreeOut p → bare_out o ≡ bare_out p → is_some (field_after o ts) ≡ is_some (field_after p ts)
after_alike ts (Next n) (Next m) h i is = let same : bare n ≡ bare m = cc in sym (some_spelled (field_expr n ts)) ∙ fields_alike ts n m h i same ∙ some_spelled (field_expr m ts)
after_alike ts (Next n) Stuck h i is = absurd cc
after_alike ts (Next n) (Left e) h i is = absurd cc
after_alike ts Stuck (Next m) h i is = absurd cc
after_alike ts Stuck Stuck h i is = refl
after_alike ts Stuck (Left e) h i is = refl
after_alike ts (Left e) (Next m) h i is = absurd cc
after_alike ts (Left e) Stuck h i is = refl
after_alike ts (Left e) (Left d) h i is = refl

-- a token with that class
pub goes_as : (r : Reader) (c : TokenClass) (ts : Kinds) (turn : Turn) → bare_out (step (view_reader r) c) ≡ bare_out (view_turn turn) → is_some (field_after (step (view_reader r) c) ts) ≡ is_some (field_after (view_turn turn) ts)
goes_as r c ts turn acts = after_alike ts (step (view_reader r) c) (view_turn turn) (step_free (view_reader r) c (at_free r.progress r.frames.items)) (turn_free turn) acts

-- ---- the fields of an f-string

pub mapped : (o : Option Parts) (f : Parts → Parts) → is_some (option_map f o) ≡ is_some o
mapped None f = refl
mapped (Some qs) f = refl

pub plain-chars : (x : Text) → view_piece (piece_.Chars x) ≡ chars x
plain-chars x = search (rules, the_lemmas)

pub with_field : (o : Option Expr) (ps : Pieces) (b : Bool) → b ≡ is_some o → is_some (elim o as (λ (w : Option Expr). Option Parts) [ None ↦ None | Some e ↦ option_map (λ qs. field e qs) (parts ps) ]) ≡ cond b (is_some (parts ps)) false
with_field None ps b h = ap (λ (x : Bool). cond x (is_some (parts ps)) false) (sym h)
with_field (Some e) ps b h = mapped (parts ps) (λ (qs : Parts). field e qs) ∙ ap (λ (x : Bool). cond x (is_some (parts ps)) false) (sym h)
