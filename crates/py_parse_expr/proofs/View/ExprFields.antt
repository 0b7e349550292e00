-- From the code's walk over the fields of f-strings to what it answers.
use Rattle.std.proofs.Common.{◌≡◌, ℕ, ◌+◌, ◌-◌, ◌≤◌, ◌<◌, max, Bool, true, false, List, [], ◌∷◌, ◌++◌, drop, length, get_or, Option, Some, None, is_some, option_map, Result, Ok, Err, refl, sym, ap, subst, ◌∙◌, arith}
use Rattle.std.proofs.lemmas.List.{at_drop_more, at_drop_all}
use Rattle.std.specs.Global.{Vec}
use Rattle.std.specs.declared.alloc.AllocError.{AllocError}
use Rattle.py_token.specs.declared.token.Token.{Token, out-Token}
use Rattle.py_token.specs.declared.token.Piece.{Piece}
use Rattle.py_token.specs.declared.token.Piece.TheVariants as piece_
use Rattle.py_token.specs.Plain.{PPiece, pieces, piece_row}
use Rattle.py_token.specs.View.{view_kind, view_pieces}
use Rattle.py_token.proofs.Views.{plain-field}
use Rattle.py_syntax.specs.declared.expr.Expr as node
use Rattle.py_syntax.specs.declared.expr.Expr.{Expr as Node}
use Rattle.py_syntax.specs.declared.expr.FormatPart as node_part
use Rattle.py_syntax.specs.declared.expr.FormatPart.{FormatPart}
use Rattle.py_syntax.specs.declared.expr.FormatPart.TheVariants as part_
use Rattle.py_syntax.specs.Tree.{Text, Expr, Parts, no_parts, text, field}
use Rattle.py_syntax.specs.Kinds.{Kind, FString, End, Pieces, Kinds, no_kinds, kinds, bare_kind, bare_pieces}
use Rattle.py_syntax.specs.Normal.{height, height_parts}
use Rattle.py_syntax.specs.View.{PlainPart, a_text, a_field, parts_of, plain_expr, plain_parts}
use Rattle.py_parse_expr.specs.declared.expr_nodes.Measured.{Measured}
use Rattle.py_parse_expr.specs.declared.expr_nodes.Fields.{Fields}
use Rattle.py_parse_expr.specs.declared.expr_stack.Stack.{Stack}
use Rattle.py_parse_expr.specs.declared.expr_turns.Progress.{Progress}
use Rattle.py_parse_expr.specs.declared.expr_turns.Turn.{Turn}
use Rattle.py_parse_expr.specs.declared.expr_turns.Turn.TheVariants as turn_
use Rattle.py_parse_expr.specs.declared.expr_fields.Unread.{Unread}
use Rattle.py_parse_expr.specs.declared.expr_fields.Unread.TheVariants as unread_
use Rattle.py_grammar.specs.TokenClasses.{TokenClass, t_format, t_other}
use Rattle.py_grammar.specs.Machine.{any, State, Out, Next, Stuck, Left, step, start, format_class, class, parts, field_expr}
use Rattle.py_grammar.specs.Least.{least}
use Rattle.py_parse_expr.specs.ExprViews.{capped, view_measured, view_fields, plain_class}
use Rattle.py_parse_expr.specs.ExprStacks.{view_stack, Valid}
use Rattle.py_parse_expr.specs.ExprTurns.{view_at, ValidAt, TurnsTo, Turns}
use Rattle.py_parse_fields.specs.Order.{plain_pieces}
use Rattle.py_parse_expr.specs.ExprFields.{takes_string, NoFString, has_spelled_fields, ended_turn, IsField, AreParts, IsHighIf, GoesTo, Goes}
use Rattle.py_grammar.proofs.Sound.Spelled.{field_after, ended_by}
use Rattle.py_grammar.proofs.Least.LeastNeverFalls.{Grows, step_grows}
use Rattle.py_parse_fields.proofs.Runs.{row, next_row, plain-chars}
use Rattle.py_parse_expr.proofs.Least.ExprStrings.{Foreign, Ends, Alike, step_alike, step_token, spelled_token, step_bad, step_high}

-- ---- a token

pub same_limit : (limit : ℕ) (s : Stack) → Valid limit s → Valid s.limit s
same_limit limit s valid = subst (λ (n : ℕ). Valid n s) (sym valid.same) valid

high_turns : (o p : Out) (limit : ℕ) (s : Stack) (t : Kind) (r : Result Turn AllocError) → p ≡ o → has_spelled_fields t ≡ true → Turns p limit s r → Goes o limit s t r
high_turns o p limit s t (Ok (turn_.Next n)) is spelled h = (sym is ∙ h.0, h.1, h.2, h.3)
high_turns o p limit s t (Ok turn_.Stuck) is spelled h = sym is ∙ h
high_turns o p limit s t (Ok turn_.Deep) is spelled h = subst (λ (b : Bool). IsHighIf b limit o) (sym spelled) (h.0, sym is ∙ h.1, h.2)
high_turns o p limit s t (Ok (turn_.Left e)) is spelled h = (sym is ∙ h.0, h.1)
high_turns o p limit s t (Err e) is spelled h = tt

-- a token that is no f-string
pub token_goes : (s : State) (limit : ℕ) (new : Stack) (t : Kind) (held : TokenClass) (r : Result Turn AllocError) → NoFString t → held ≡ plain_class (class t) → Turns (step s held) limit new r → Goes (step s (class t)) limit new t r
token_goes s limit new t held r none is h = high_turns (step s (class t)) (step s held) limit new t r (ap (step s) is ∙ step_token s t none) (spelled_token t none) h

-- an f-string where none may stand
quiet_turns : (o p : Out) (limit : ℕ) (s : Stack) (t : Kind) (r : Result Turn AllocError) → Alike o p → Turns p limit s r → Goes o limit s t r
quiet_turns o p limit s t (Ok (turn_.Next n)) is h = (is.0 ∙ h.0, h.1, h.2, h.3)
quiet_turns o p limit s t (Ok turn_.Stuck) is h = is.0 ∙ h
quiet_turns o p limit s t (Ok turn_.Deep) is h = absurd (subst Ends h.1 is.1)
quiet_turns o p limit s t (Ok (turn_.Left e)) is h = (is.0 ∙ h.0, h.1)
quiet_turns o p limit s t (Err e) is h = tt

foreign : (ps : Pieces) (o : Option Parts) → Foreign (format_class ps o)
foreign ps None = tt
foreign ps (Some qs) = tt

pub quiet_goes : (s : State) (limit : ℕ) (new : Stack) (t : Kind) (ps : Pieces) (r : Result Turn AllocError) → t ≡ FString ps → takes_string s ≡ false → Turns (step s (t_other End)) limit new r → Goes (step s (class t)) limit new t r
quiet_goes s limit new t ps r is quiet h = subst (λ (x : Kind). Goes (step s (class x)) limit new x r) (sym is) (quiet_turns (step s (class (FString ps))) (step s (t_other End)) limit new (FString ps) r (step_alike s (class (FString ps)) quiet (foreign ps (parts ps))) h)

-- an f-string with these fields
pub format_goes : (s : State) (limit : ℕ) (new : Stack) (t : Kind) (ps : Pieces) (fs : Fields) (r : Result Turn AllocError) → t ≡ FString ps → AreParts limit (parts ps) (Ok fs) → Turns (step s (t_format (view_fields fs))) limit new r → Goes (step s (class t)) limit new t r
format_goes s limit new t ps fs r is are h = subst (λ (x : Kind). Goes (step s (class x)) limit new x r) (sym is) (high_turns (step s (class (FString ps))) (step s (t_format (view_fields fs))) limit new (FString ps) r (ap (λ (o : Option Parts). step s (format_class ps o)) (sym are.0)) (ap is_some are.0) h)

-- one with a field that is no expression
pub bad_goes : (s : State) (limit : ℕ) (new : Stack) (t : Kind) (ps : Pieces) → t ≡ FString ps → takes_string s ≡ true → AreParts limit (parts ps) (Err unread_.Unspelled) → GoesTo (step s (class t)) limit new t turn_.Stuck
bad_goes s limit new t ps is takes none = ap (λ (x : Kind). step s (class x)) is ∙ ap (λ (o : Option Parts). step s (format_class ps o)) none ∙ step_bad s ps takes

-- one that is too high
pub deep_goes : (s : State) (limit : ℕ) (new : Stack) (t : Kind) (ps : Pieces) → t ≡ FString ps → takes_string s ≡ true → AreParts limit (parts ps) (Err unread_.TooDeep) → GoesTo (step s (class t)) limit new t turn_.Deep
deep_goes s limit new t ps is takes high = subst (λ (x : Kind). GoesTo (step s (class x)) limit new x turn_.Deep) (sym is) (go (parts ps) high)
  where
    go : (o : Option Parts) → ((qs : Parts) → o ≡ Some qs → limit ≤ height_parts qs) → IsHighIf (is_some o) limit (step s (format_class ps o))
    go None high = step_bad s ps takes
    go (Some qs) high = step_high s qs limit takes (high qs refl)

-- ---- the tokens of a field

-- The same in front of some tokens.
pub record FieldSoFar (limit : ℕ) (all : Option Expr) (p : Progress) (s : Stack) (ks : Kinds) : Type 0 where
  pub is : all ≡ field_expr (view_at p (view_stack s)) ks
  pub place : ValidAt p
  pub valid : Valid limit s

-- A field is at least as high as what it goes on from.
field_least : (ks : Kinds) (s : State) (e : Expr) → field_expr s ks ≡ Some e → least s ≤ height e
field_least no_kinds s e h = go (step s (t_other End)) (step_grows s (t_other End)) h
  where
    go : (o : Out) → Grows (least s) o → ended_by o ≡ Some e → least s ≤ height e
    go (Next n) grows h = absurd cc
    go Stuck grows h = absurd cc
    go (Left f) grows h = let same : f ≡ e = cc in subst (λ (x : Expr). least s ≤ height x) same grows
field_least (kinds t ts) s e h = go (λ n. field_least ts n e) (step s (class t)) (step_grows s (class t)) h
  where
    go : ((n : State) → field_expr n ts ≡ Some e → least n ≤ height e) → (o : Out) → Grows (least s) o → field_after o ts ≡ Some e → least s ≤ height e
    go rec (Next n) grows h = let more = rec n h in omega arith
    go rec Stuck grows h = absurd cc
    go rec (Left f) grows h = absurd cc

module _ (limit : ℕ) (all : Option Expr) (ts : List Token) (i : ℕ) (t : Token) (p : Progress) (s new : Stack) (turn : Turn) (here : i < length ts) (at_is : t ≡ get_or ts i t) (h : FieldSoFar limit all p s (row (drop i ts))) (goes : GoesTo (step (view_at p (view_stack s)) (class (bare_kind (view_kind (out-Token t).kind)))) s.limit new (bare_kind (view_kind (out-Token t).kind)) turn) where
  stepped : all ≡ field_after (step (view_at p (view_stack s)) (class (bare_kind (view_kind (out-Token t).kind)))) (row (drop (i + 1) ts))
  stepped = h.is ∙ ap (field_expr (view_at p (view_stack s))) (next_row ts i t here at_is)

  as_turn : (u : Turn) → turn ≡ u → GoesTo (step (view_at p (view_stack s)) (class (bare_kind (view_kind (out-Token t).kind)))) s.limit new (bare_kind (view_kind (out-Token t).kind)) u
  as_turn u is = subst (GoesTo (step (view_at p (view_stack s)) (class (bare_kind (view_kind (out-Token t).kind)))) s.limit new (bare_kind (view_kind (out-Token t).kind))) is goes

  pub field_next : (n : Progress) → turn ≡ turn_.Next n → FieldSoFar limit all n new (row (drop (i + 1) ts))
  field_next n is = let g = as_turn (turn_.Next n) is in record { is = stepped ∙ ap (λ (w : Out). field_after w (row (drop (i + 1) ts))) g.0; place = g.1; valid = subst (λ (l : ℕ). Valid l new) h.valid.same g.2 }

  pub field_stuck : turn ≡ turn_.Stuck → all ≡ None
  field_stuck is = stepped ∙ ap (λ (w : Out). field_after w (row (drop (i + 1) ts))) (as_turn turn_.Stuck is)

  pub field_left : (e : Measured) → turn ≡ turn_.Left e → all ≡ None
  field_left e is = stepped ∙ ap (λ (w : Out). field_after w (row (drop (i + 1) ts))) (as_turn (turn_.Left e) is).0

  pub field_deep : turn ≡ turn_.Deep → (e : Expr) → all ≡ Some e → limit < height e
  field_deep is e some = go (has_spelled_fields (bare_kind (view_kind (out-Token t).kind))) (as_turn turn_.Deep is)
    where
      go : (b : Bool) → IsHighIf b s.limit (step (view_at p (view_stack s)) (class (bare_kind (view_kind (out-Token t).kind)))) → limit < height e
      go true high =
          let least_is = field_least (row (drop (i + 1) ts)) high.0 e (ap (λ (w : Out). field_after w (row (drop (i + 1) ts))) (sym high.1) ∙ sym stepped ∙ some) in
          let above = high.2 in
          let same = h.valid.same in
          omega arith
      go false stuck = let none : None ≡ Some e = ap (λ (w : Out). field_after w (row (drop (i + 1) ts))) (sym stuck) ∙ sym stepped ∙ some in absurd cc

module _ (limit : ℕ) (all : Option Expr) (ts : List Token) (i : ℕ) (p : Progress) (s new : Stack) (turn : Turn) (over : length ts ≤ i) (h : FieldSoFar limit all p s (row (drop i ts))) (turns : TurnsTo (step (view_at p (view_stack s)) (t_other End)) s.limit new turn) where
  ended : all ≡ ended_by (step (view_at p (view_stack s)) (t_other End))
  ended = h.is ∙ at_drop_all (λ (x : List Token). field_expr (view_at p (view_stack s)) (row x)) ts i over

  pub field_over : IsField limit all (ended_turn turn)
  field_over = go turn turns
    where
      go : (u : Turn) → TurnsTo (step (view_at p (view_stack s)) (t_other End)) s.limit new u → IsField limit all (ended_turn u)
      go (turn_.Next n) g = ended ∙ ap ended_by g.0
      go turn_.Stuck g = ended ∙ ap ended_by g
      go turn_.Deep g = ended ∙ ap ended_by g.1
      go (turn_.Left e) g = (ended ∙ ap ended_by g.0, g.1)

-- ---- the pieces of an f-string

abbrev pub append_parts : Parts → Parts → Parts
append_parts no_parts qs = qs
append_parts (text x ps) qs = text x (append_parts ps qs)
append_parts (field e ps) qs = field e (append_parts ps qs)

append_again : (ps qs rs : Parts) → append_parts (append_parts ps qs) rs ≡ append_parts ps (append_parts qs rs)
append_again no_parts qs rs = refl
append_again (text x ps) qs rs = ap (text x) (append_again ps qs rs)
append_again (field e ps) qs rs = ap (field e) (append_again ps qs rs)

append_none : (ps : Parts) → append_parts ps no_parts ≡ ps
append_none no_parts = refl
append_none (text x ps) = ap (text x) (append_none ps)
append_none (field e ps) = ap (field e) (append_none ps)

append_height : (ps qs : Parts) → height_parts (append_parts ps qs) ≡ max (height_parts ps) (height_parts qs)
append_height no_parts qs = omega arith
append_height (text x ps) qs = append_height ps qs
append_height (field e ps) qs = let h = append_height ps qs in omega arith

part_step : (p : PlainPart) (rest all : List PlainPart) (qs : Parts) → parts_of all ≡ append_parts (parts_of rest) qs → parts_of (p ∷ all) ≡ append_parts (parts_of (p ∷ rest)) qs
part_step (a_text x) rest all qs h = ap (text x) h
part_step (a_field e) rest all qs h = ap (field e) h

parts_more : (fs : List FormatPart) (f : FormatPart) (qs : Parts) → plain_parts (f ∷ []) ≡ qs → plain_parts (fs ++ f ∷ []) ≡ append_parts (plain_parts fs) qs
parts_more [] f qs is = is
parts_more (g ∷ fs) f qs is = part_step _ _ _ qs (parts_more fs f qs is)

text_is : (x : Text) → plain_parts (part_.Chars x ∷ []) ≡ text x no_parts
text_is x = search (node.the_lemmas, node_part.the_lemmas)

field_is : (e : Node) → plain_parts (part_.Field e ∷ []) ≡ field (plain_expr e) no_parts
field_is e = search (node.the_lemmas, node_part.the_lemmas)

-- The parts so far, in front of some pieces.
pub record PartsSoFar (all : Option Parts) (fs : List FormatPart) (high : ℕ) (ps : Pieces) : Type 0 where
  pub is : all ≡ option_map (λ qs. append_parts (plain_parts fs) qs) (parts ps)
  pub height : high ≡ capped (height_parts (plain_parts fs))

pub parts_end : (ps : List Piece) (i : ℕ) (all : Option Parts) (fs : Vec FormatPart) (high limit : ℕ) → length ps ≤ i → PartsSoFar all fs.items high (plain_pieces (drop i ps)) → AreParts limit all (Ok (record { parts = fs; height = high }))
parts_end ps i all fs high limit over h = (
  h.is ∙ at_drop_all (λ (x : List Piece). option_map (λ qs. append_parts (plain_parts fs.items) qs) (parts (plain_pieces x))) ps i over ∙ ap Some (append_none (plain_parts fs.items)),
  h.height,
)

-- two maps are one
mapped_twice : (o : Option Parts) (a b : Parts) (f : Parts → Parts) → ((qs : Parts) → append_parts a (f qs) ≡ append_parts b qs) → option_map (λ qs. append_parts a qs) (option_map f o) ≡ option_map (λ qs. append_parts b qs) o
mapped_twice None a b f h = refl
mapped_twice (Some qs) a b f h = ap Some (h qs)

module _ (ps : List Piece) (i : ℕ) (p : Piece) (all : Option Parts) (fs : List FormatPart) (high : ℕ) (here : i < length ps) (at_is : p ≡ get_or ps i p) (h : PartsSoFar all fs high (plain_pieces (drop i ps))) where
  -- characters
  pub parts_chars : (x : Text) (new : List FormatPart) → p ≡ piece_.Chars x → new ≡ fs ++ part_.Chars x ∷ [] → PartsSoFar all new high (plain_pieces (drop (i + 1) ps))
  parts_chars x new is more =
      let views : plain_parts new ≡ append_parts (plain_parts fs) (text x no_parts) = ap plain_parts more ∙ parts_more fs (part_.Chars x) (text x no_parts) (text_is x) in
      let high_is = append_height (plain_parts fs) (text x no_parts) in
      let same = ap height_parts views in
      let before = h.height in
      record {
        is = h.is
            ∙ ap (option_map (λ qs. append_parts (plain_parts fs) qs)) (there x is)
            ∙ mapped_twice (parts (plain_pieces (drop (i + 1) ps))) (plain_parts fs) (plain_parts new) (λ qs. text x qs) (λ qs. sym (ap (λ (y : Parts). append_parts y qs) views ∙ append_again (plain_parts fs) (text x no_parts) qs));
        height = omega arith;
      }
    where
      there : (x : Text) → p ≡ piece_.Chars x → parts (plain_pieces (drop i ps)) ≡ option_map (λ qs. text x qs) (parts (plain_pieces (drop (i + 1) ps)))
      there x is =
          at_drop_more (λ (y : List Piece). parts (plain_pieces y)) ps i p here
          ∙ ap (λ (y : Piece). parts (plain_pieces (y ∷ drop (i + 1) ps))) (sym at_is ∙ is)
          ∙ ap (λ (y : PPiece). parts (bare_pieces (pieces y (piece_row (view_pieces (drop (i + 1) ps)))))) (plain-chars x)

  abbrev with_field : Option Expr → Option Parts → Option Parts
  with_field o rest = elim o as (λ (w : Option Expr). Option Parts) [ None ↦ None | Some e ↦ option_map (λ qs. field e qs) rest ]

  field_there : (v : Vec Token) (ts : List Token) → p ≡ piece_.Field v → ts ≡ v.items → parts (plain_pieces (drop i ps)) ≡ with_field (field_expr (start any) (row ts)) (parts (plain_pieces (drop (i + 1) ps)))
  field_there v ts is items =
      at_drop_more (λ (y : List Piece). parts (plain_pieces y)) ps i p here
      ∙ ap (λ (y : Piece). parts (plain_pieces (y ∷ drop (i + 1) ps))) (sym at_is ∙ is)
      ∙ ap (λ (y : PPiece). parts (bare_pieces (pieces y (piece_row (view_pieces (drop (i + 1) ps)))))) (plain-field v)
      ∙ ap (λ (y : List Token). with_field (field_expr (start any) (row y)) (parts (plain_pieces (drop (i + 1) ps)))) (sym items)

  -- a field with its tree
  pub parts_field : (limit : ℕ) (v : Vec Token) (ts : List Token) (t : Measured) (n : Node) (new : List FormatPart) (more : ℕ) → p ≡ piece_.Field v → ts ≡ v.items → IsField limit (field_expr (start any) (row ts)) (Ok t) → n ≡ t.expr.value → new ≡ fs ++ part_.Field n ∷ [] → more ≡ max high t.height → PartsSoFar all new more (plain_pieces (drop (i + 1) ps))
  parts_field limit v ts t n new more is items tree one pushed most =
      let views : plain_parts new ≡ append_parts (plain_parts fs) (field (view_measured t) no_parts) = ap plain_parts pushed ∙ parts_more fs (part_.Field n) (field (view_measured t) no_parts) (field_is n ∙ ap (λ (x : Node). field (plain_expr x) no_parts) one) in
      let high_is = append_height (plain_parts fs) (field (view_measured t) no_parts) in
      let same = ap height_parts views in
      let before = h.height in
      let measured = tree.1.height in
      record {
        is = h.is
            ∙ ap (option_map (λ qs. append_parts (plain_parts fs) qs)) (field_there v ts is items ∙ ap (λ (o : Option Expr). with_field o (parts (plain_pieces (drop (i + 1) ps)))) tree.0)
            ∙ mapped_twice (parts (plain_pieces (drop (i + 1) ps))) (plain_parts fs) (plain_parts new) (λ qs. field (view_measured t) qs) (λ qs. sym (ap (λ (y : Parts). append_parts y qs) views ∙ append_again (plain_parts fs) (field (view_measured t) no_parts) qs));
        height = omega arith;
      }

  -- a field without one
  pub parts_unread : (limit : ℕ) (v : Vec Token) (ts : List Token) (u : Unread) → 1 ≤ limit → p ≡ piece_.Field v → ts ≡ v.items → IsField (limit - 1) (field_expr (start any) (row ts)) (Err u) → AreParts limit all (Err u)
  parts_unread limit v ts unread_.Unspelled some is items none = h.is ∙ ap (option_map (λ qs. append_parts (plain_parts fs) qs)) (field_there v ts is items ∙ ap (λ (o : Option Expr). with_field o (parts (plain_pieces (drop (i + 1) ps)))) none)
  parts_unread limit v ts unread_.TooDeep some is items high = λ qs all_is. go (field_expr (start any) (row ts)) (parts (plain_pieces (drop (i + 1) ps))) high qs (ap (option_map (λ rs. append_parts (plain_parts fs) rs)) (sym (field_there v ts is items)) ∙ sym h.is ∙ all_is)
    where
      go : (o : Option Expr) (rest : Option Parts) → ((e : Expr) → o ≡ Some e → (limit - 1) < height e) → (qs : Parts) → option_map (λ rs. append_parts (plain_parts fs) rs) (with_field o rest) ≡ Some qs → limit ≤ height_parts qs
      go None rest high qs same = absurd cc
      go (Some e) None high qs same = absurd cc
      go (Some e) (Some rs) high qs same =
          let one_is : append_parts (plain_parts fs) (field e rs) ≡ qs = cc in
          let heights = ap height_parts one_is in
          let all_high = append_height (plain_parts fs) (field e rs) in
          let e_high = high e refl in
          omega arith
