-- The f-strings in fields may be asked after the fields.
use Rattle.std.proofs.Common.{◌≡◌, ℕ, ◌+◌, ◌<◌, ◌≤◌, Bool, true, false, cond, ◌&&◌, List, [], ◌∷◌, ◌++◌, Option, Some, None, is_some, Ok, refl, sym, ap, subst, ◌∙◌, arith, append_assoc}
use Rattle.py_syntax.specs.declared.expr.Comparison.TheVariants.{Op}
use Rattle.py_syntax.specs.Tree.{Expr, Parts, no_parts, tuple, not', unary, compare, exprs}
use Rattle.py_syntax.specs.Tree as tree_
use Rattle.py_syntax.specs.Kinds.{Kind, FString, Pieces, End, no_pieces, chars_piece, field_piece, Kinds, no_kinds, kinds}
use Rattle.py_grammar.specs.TokenClasses.{TokenClass, t_format, t_bad_format, t_other, joined}
use Rattle.py_grammar.specs.Machine.{snoc, snoc_link, any, one, target, targets, a_call, a_list, exprs_first, exprs_rest, cond_first, cond_test, cond_else, first, right, not_of, compare_first, compare_rest, unary_of, post_rest, in_items, index_first, in_index, slice_to, in_paren, in_key, in_value, Ctx, Outside, on, State, Want, Have, Strings, AfterOpen, AfterComma, AfterTarget, ItemsOpen, ItemsComma, DictOpen, DictComma, IndexOpen, SliceColon, AfterDot, AfterNot, AfterIs, AfterIsNot, Linked, Out, Next, Stuck, Left, leave, give, step, start, format_class, class, parts, field_expr}
use Rattle.py_parse_fields.specs.declared.token_classes.TokenClass as code_class
use Rattle.py_parse_fields.specs.declared.reader.Reader.{Reader}
use Rattle.py_parse_fields.specs.declared.reader.Turn.{Turn}
use Rattle.py_parse_fields.specs.declared.reader.Turn.TheVariants as turn_
use Rattle.py_parse_fields.specs.Frames.{bare_class, view_class}
use Rattle.py_parse_fields.specs.Reader.{view_reader, view_turn, is_left, Acts}
use Rattle.py_parse_fields.specs.Order.{shallow, formats, each_spelled, weight, field_weight, kind_weight, load}
use Rattle.py_grammar.specs.Bare.{bare_out}
use Rattle.py_grammar.proofs.Sound.Spelled.{field_after, ended_by}
use Rattle.py_parse_fields.proofs.TokenClasses.{same_step}
use Rattle.std.proofs.Common.{drop, length, get_or}
use Rattle.std.proofs.lemmas.List.{append-nil, at_drop_all, at_drop_more}
use Rattle.std.specs.Borrow.{Bor}
use Rattle.std.specs.Global.{Vec}
use Rattle.py_token.specs.declared.token.Token.{Token, out-Token}
use Rattle.py_token.specs.declared.token.Piece.{Piece}
use Rattle.py_token.specs.declared.token.Piece.TheVariants as piece_
use Rattle.py_token.specs.Plain.{PPiece, pieces, piece_row}
use Rattle.py_token.specs.View.{view_kind, view_pieces}
use Rattle.py_token.proofs.Views.{plain-field}
use Rattle.py_syntax.specs.Normal.{LExprs}
use Rattle.py_syntax.specs.Tree.{text}
use Rattle.py_syntax.specs.Kinds.{bare_kind, bare_pieces}
use Rattle.py_parse_fields.specs.declared.frames.Frame as code_frame
use Rattle.py_parse_fields.specs.Frames.{view_stack}
use Rattle.py_parse_fields.specs.Order.{plain_pieces, waiting_of, Waits, Asks, FieldSoFar, PiecesSoFar}
use Rattle.py_parse_fields.proofs.Runs.{row, goes_as, next_row, plain-chars, mapped, with_field}

-- ---- tests

and_assoc : (a b c : Bool) → ((a && b) && c) ≡ (a && (b && c))
and_assoc true b c = refl
and_assoc false b c = refl

and_false : (a : Bool) → (a && false) ≡ false
and_false true = refl
and_false false = refl

and_true : (a : Bool) → (a && true) ≡ a
and_true true = refl
and_true false = refl

pub each_append : (xs ys : List Pieces) → each_spelled (xs ++ ys) ≡ (each_spelled xs && each_spelled ys)
each_append [] ys = refl
each_append (x ∷ xs) ys = ap (λ (b : Bool). is_some (parts x) && b) (each_append xs ys) ∙ sym (and_assoc (is_some (parts x)) (each_spelled xs) (each_spelled ys))

pub load_append : (xs ys : List Pieces) → load (xs ++ ys) ≡ load xs + load ys
load_append [] ys = omega arith
load_append (x ∷ xs) ys = let rec = load_append xs ys in omega arith

pub weight_some : (ps : Pieces) → 1 ≤ weight ps
weight_some no_pieces = omega arith
weight_some (chars_piece x ps) = weight_some ps
weight_some (field_piece ks ps) = let rec = weight_some ps in omega arith

-- ---- no state goes on with an f-string whose fields aren't spelled

abbrev goes_on : Out → Bool
goes_on (Next s) = true
goes_on Stuck = false
goes_on (Left e) = false

leave_bad : (e : Expr) (g : Rattle.py_grammar.specs.Machine.Goal) (ps : Pieces) → goes_on (leave e g (t_bad_format ps)) ≡ false
leave_bad e any ps = refl
leave_bad e one ps = refl
leave_bad e target ps = go (Rattle.py_syntax.specs.Normal.is_target e)
  where
    go : (b : Bool) → goes_on (cond b (Left e) Stuck) ≡ false
    go true = refl
    go false = refl
leave_bad e (targets f es) ps = go (Rattle.py_syntax.specs.Normal.is_target e)
  where
    go : (b : Bool) → goes_on (cond b (Left (tuple (exprs f (snoc es e)) false)) Stuck) ≡ false
    go true = refl
    go false = refl

give_bad : (e : Expr) (k : Ctx) (ps : Pieces) → goes_on (give e k (t_bad_format ps)) ≡ false
give_bad e (Outside g) ps = leave_bad e g ps
give_bad e (on exprs_first k) ps = give_bad e k ps
give_bad e (on (exprs_rest f es) k) ps = give_bad (tuple (exprs f (snoc es e)) false) k ps
give_bad e (on cond_first k) ps = give_bad e k ps
give_bad e (on (cond_test b) k) ps = refl
give_bad e (on (cond_else b c) k) ps = give_bad (tree_.cond b c e) k ps
give_bad e (on (first l) k) ps = give_bad e k ps
give_bad e (on (right i a) k) ps = give_bad (joined i a e) k ps
give_bad e (on not_of k) ps = give_bad (not' e) k ps
give_bad e (on compare_first k) ps = give_bad e k ps
give_bad e (on (compare_rest a ls p) k) ps = give_bad (compare a (snoc_link ls (Op p) e)) k ps
give_bad e (on (unary_of s) k) ps = give_bad (unary s e) k ps
give_bad e (on post_rest k) ps = give_bad e k ps
give_bad e (on (in_items (a_call f) es) k) ps = refl
give_bad e (on (in_items a_list es) k) ps = refl
give_bad e (on (index_first f) k) ps = refl
give_bad e (on (in_index f) k) ps = refl
give_bad e (on (slice_to f from) k) ps = refl
give_bad e (on in_paren k) ps = refl
give_bad e (on (in_key qs) k) ps = refl
give_bad e (on (in_value qs key) k) ps = refl

step_bad : (s : State) (ps : Pieces) → goes_on (step s (t_bad_format ps)) ≡ false
step_bad (Want lev k) ps = refl
step_bad (Have e k) ps = give_bad e k ps
step_bad (Strings fs k) ps = refl
step_bad (AfterOpen k) ps = refl
step_bad (AfterComma f es k) ps = refl
step_bad (AfterTarget f es) ps = refl
step_bad (ItemsOpen (a_call f) k) ps = refl
step_bad (ItemsOpen a_list k) ps = refl
step_bad (ItemsComma (a_call f) es k) ps = refl
step_bad (ItemsComma a_list es k) ps = refl
step_bad (DictOpen k) ps = refl
step_bad (DictComma qs k) ps = refl
step_bad (IndexOpen f k) ps = refl
step_bad (SliceColon f from k) ps = refl
step_bad (AfterDot f k) ps = refl
step_bad (AfterNot a ls k) ps = refl
step_bad (AfterIs a ls k) ps = refl
step_bad (AfterIsNot a ls k) ps = refl
step_bad (Linked a ls k) ps = give_bad (compare a ls) k ps

after_bad : (o : Out) (ts : Kinds) → goes_on o ≡ false → is_some (field_after o ts) ≡ false
after_bad (Next s) ts h = absurd cc
after_bad Stuck ts h = refl
after_bad (Left e) ts h = refl

-- ---- a token, where an f-string waits

format_goes : (r : Reader) (ps : Pieces) (o : Option Parts) (ts : Kinds) (turn : Turn) → Acts (step (view_reader r) (bare_class (t_format no_parts))) (Ok turn) → (added : List Pieces) → (is_some (field_after (step (view_reader r) (format_class ps o)) ts) && each_spelled added) ≡ (is_some (field_after (view_turn turn) ts) && (each_spelled added && (is_some o && true)))
format_goes r ps None ts turn acts added =
    ap (λ (b : Bool). b && each_spelled added) (after_bad (step (view_reader r) (t_bad_format ps)) ts (step_bad (view_reader r) ps))
    ∙ sym (ap (λ (b : Bool). is_some (field_after (view_turn turn) ts) && b) (and_false (each_spelled added)) ∙ and_false (is_some (field_after (view_turn turn) ts)))
format_goes r ps (Some qs) ts turn acts added =
    ap (λ (b : Bool). b && each_spelled added) (goes_as r (t_format qs) ts turn (same_step (view_reader r) (t_format qs) ∙ acts))
    ∙ ap (λ (b : Bool). is_some (field_after (view_turn turn) ts) && b) (sym (and_true (each_spelled added)))

plain_goes : (r : Reader) (t : Kind) (ts : Kinds) (turn : Turn) → Acts (step (view_reader r) (bare_class (class t))) (Ok turn) → (added : List Pieces) → (is_some (field_expr (view_reader r) (kinds t ts)) && each_spelled added) ≡ (is_some (field_after (view_turn turn) ts) && (each_spelled added && true))
plain_goes r t ts turn acts added =
    ap (λ (b : Bool). b && each_spelled added) (goes_as r (class t) ts turn (same_step (view_reader r) (class t) ∙ acts))
    ∙ ap (λ (b : Bool). is_some (field_after (view_turn turn) ts) && b) (sym (and_true (each_spelled added)))

waits_goes : (r : Reader) (t : Kind) (ts : Kinds) (turn : Turn) → Acts (step (view_reader r) (bare_class (shallow t))) (Ok turn) → (added : List Pieces) → (is_some (field_expr (view_reader r) (kinds t ts)) && each_spelled added) ≡ (is_some (field_after (view_turn turn) ts) && (each_spelled added && each_spelled (formats t)))
waits_goes r (FString ps) ts turn acts added = format_goes r ps (parts ps) ts turn acts added
waits_goes r t ts turn acts added = plain_goes r t ts turn acts added

-- what is told in front of a token is told after it
pub token_told : (r : Reader) (t : Kind) (ts : Kinds) (class : code_class.TokenClass) (turn : Turn) (all : Bool) (added : List Pieces) → bare_class (shallow t) ≡ view_class class → Acts (step (view_reader r) (view_class class)) (Ok turn) → all ≡ (is_some (field_expr (view_reader r) (kinds t ts)) && each_spelled added) → all ≡ (is_some (field_after (view_turn turn) ts) && each_spelled (added ++ formats t))
token_told r t ts class turn all added is acts same =
    same
    ∙ waits_goes r t ts turn (subst (λ (x : TokenClass). Acts (step (view_reader r) x) (Ok turn)) (sym is) acts) added
    ∙ ap (λ (b : Bool). is_some (field_after (view_turn turn) ts) && b) (sym (each_append added (formats t)))

pub formats_load : (t : Kind) → load (formats t) ≡ kind_weight t
formats_load (FString ps) = omega arith
formats_load t = refl

-- ---- the tokens of a field

pub field_begins : (fs : List code_frame.Frame) (old : List Pieces) (ks : Kinds) → fs ≡ [] → FieldSoFar (is_some (field_expr (start any) ks)) (field_weight ks + 1) old old (Want LExprs (view_stack fs)) ks
field_begins fs old ks is = subst (λ (gs : List code_frame.Frame). FieldSoFar (is_some (field_expr (start any) ks)) (field_weight ks + 1) old old (Want LExprs (view_stack gs)) ks) (sym is) record { added = []; waits = sym (append-nil old); is = sym (and_true (is_some (field_expr (start any) ks))); few = omega arith }

pub field_next : (ts : List Token) (i : ℕ) (t : Token) (r : Reader) (class : code_class.TokenClass) (turn : Turn) (all : Bool) (bound : ℕ) (old now new : List Pieces) → i < length ts → t ≡ get_or ts i t → Waits (bare_kind (view_kind (out-Token t).kind)) class now new → Acts (step (view_reader r) (view_class class)) (Ok turn) → FieldSoFar all bound old now (view_reader r) (row (drop i ts)) → (added : List Pieces) × (new ≡ old ++ added) × (all ≡ (is_some (field_after (view_turn turn) (row (drop (i + 1) ts))) && each_spelled added)) × (load added + field_weight (row (drop (i + 1) ts)) < bound)
field_next ts i t r class turn all bound old now new h at w acts inv =
    let k = bare_kind (view_kind (out-Token t).kind) in
    let rest = row (drop (i + 1) ts) in
    let split : row (drop i ts) ≡ kinds k rest = next_row ts i t h at in
    let weighs = ap field_weight split in
    let low = inv.few in (
      inv.added ++ formats k,
      w.1 ∙ ap (λ (x : List Pieces). x ++ formats k) inv.waits ∙ append_assoc old inv.added (formats k),
      token_told r k rest class turn all inv.added w.0 acts (inv.is ∙ ap (λ (x : Kinds). is_some (field_expr (view_reader r) x) && each_spelled inv.added) split),
      omega (arith, load_append inv.added (formats k), formats_load k),
    )

ended_told : (o : Out) (turn : Turn) → bare_out o ≡ bare_out (view_turn turn) → is_left (view_turn turn) ≡ is_some (ended_by o)
ended_told (Next s) (turn_.Next r) is = refl
ended_told (Next s) turn_.Stuck is = refl
ended_told (Next s) turn_.Left is = absurd cc
ended_told Stuck (turn_.Next r) is = refl
ended_told Stuck turn_.Stuck is = refl
ended_told Stuck turn_.Left is = absurd cc
ended_told (Left e) (turn_.Next r) is = absurd cc
ended_told (Left e) turn_.Stuck is = absurd cc
ended_told (Left e) turn_.Left is = refl

-- after the last token
pub field_ends : (ts : List Token) (i : ℕ) (r : Reader) (turn : Turn) (all told : Bool) (bound : ℕ) (old now : List Pieces) → length ts ≤ i → Acts (step (view_reader r) (t_other End)) (Ok turn) → told ≡ is_left (view_turn turn) → FieldSoFar all bound old now (view_reader r) (row (drop i ts)) → Asks all told bound old now
field_ends ts i r turn all told bound old now over acts is inv =
    let none : row (drop i ts) ≡ no_kinds = at_drop_all row ts i over in
    let low = inv.few in
    record {
      added = inv.added;
      waits = inv.waits;
      is = inv.is ∙ ap (λ (x : Kinds). is_some (field_expr (view_reader r) x) && each_spelled inv.added) none ∙ ap (λ (b : Bool). b && each_spelled inv.added) (sym (is ∙ ended_told (step (view_reader r) (t_other End)) turn acts));
      few = omega arith;
    }

-- ---- the pieces of an f-string

pub pieces_begin : (old : List Pieces) (ps : Pieces) → PiecesSoFar (is_some (parts ps)) (weight ps) old old ps
pieces_begin old ps = record { added = []; waits = sym (append-nil old); is = sym (and_true (is_some (parts ps))); few = omega arith }

next_piece : (ps : List Piece) (i : ℕ) (p q : Piece) → i < length ps → p ≡ get_or ps i p → p ≡ q → plain_pieces (drop i ps) ≡ plain_pieces (q ∷ drop (i + 1) ps)
next_piece ps i p q h at is = at_drop_more plain_pieces ps i p h ∙ ap (λ (y : Piece). plain_pieces (y ∷ drop (i + 1) ps)) (sym at ∙ is)

pub pieces_chars : (ps : List Piece) (i : ℕ) (p : Piece) (x : List ℕ) (all : Bool) (bound : ℕ) (old now : List Pieces) → i < length ps → p ≡ get_or ps i p → p ≡ piece_.Chars x → PiecesSoFar all bound old now (plain_pieces (drop i ps)) → PiecesSoFar all bound old now (plain_pieces (drop (i + 1) ps))
pieces_chars ps i p x all bound old now h at is inv =
    let rest = plain_pieces (drop (i + 1) ps) in
    let split : plain_pieces (drop i ps) ≡ chars_piece x rest = next_piece ps i p (piece_.Chars x) h at is ∙ ap (λ (y : PPiece). bare_pieces (pieces y (piece_row (view_pieces (drop (i + 1) ps))))) (plain-chars x) in
    let weighs = ap weight split in
    let low = inv.few in
    record {
      added = inv.added;
      waits = inv.waits;
      is = inv.is ∙ ap (λ (y : Pieces). is_some (parts y) && each_spelled inv.added) split ∙ ap (λ (b : Bool). b && each_spelled inv.added) (mapped (parts rest) (λ (qs : Parts). text x qs));
      few = omega arith;
    }

rearranged : (a b c d : Bool) → (cond (a && b) c false && d) ≡ ((a && c) && (d && b))
rearranged true true c d = ap (λ (x : Bool). c && x) (sym (and_true d))
rearranged true false c d = sym (ap (λ (x : Bool). c && x) (and_false d) ∙ and_false c)
rearranged false b c d = refl

pub pieces_field : (ps : List Piece) (i : ℕ) (p : Piece) (v : Vec Token) (ts : List Token) (b told all : Bool) (bound : ℕ) (old now new : List Pieces) → i < length ps → p ≡ get_or ps i p → p ≡ piece_.Field v → ts ≡ v.items → b ≡ told → Asks (is_some (field_expr (start any) (row ts))) b (field_weight (row ts) + 1) now new → PiecesSoFar all bound old now (plain_pieces (drop i ps)) → (added : List Pieces) × (new ≡ old ++ added) × (all ≡ ((told && is_some (parts (plain_pieces (drop (i + 1) ps)))) && each_spelled added)) × (load added + weight (plain_pieces (drop (i + 1) ps)) ≤ bound)
pieces_field ps i p v ts b told all bound old now new h at is items same asks inv =
    let rest = plain_pieces (drop (i + 1) ps) in
    let split : plain_pieces (drop i ps) ≡ field_piece (row ts) rest = next_piece ps i p (piece_.Field v) h at is ∙ ap (λ (y : PPiece). bare_pieces (pieces y (piece_row (view_pieces (drop (i + 1) ps))))) (plain-field v) ∙ ap (λ (y : List Token). field_piece (row y) rest) (sym items) in
    let weighs = ap weight split in
    let low = inv.few in
    let lower = asks.few in
    let spelled : is_some (field_expr (start any) (row ts)) ≡ (told && each_spelled asks.added) = asks.is ∙ ap (λ (x : Bool). x && each_spelled asks.added) same in (
      inv.added ++ asks.added,
      asks.waits ∙ ap (λ (x : List Pieces). x ++ asks.added) inv.waits ∙ append_assoc old inv.added asks.added,
      inv.is
          ∙ ap (λ (y : Pieces). is_some (parts y) && each_spelled inv.added) split
          ∙ ap (λ (x : Bool). x && each_spelled inv.added) (with_field (field_expr (start any) (row ts)) rest (told && each_spelled asks.added) (sym spelled))
          ∙ rearranged told (each_spelled asks.added) (is_some (parts rest)) (each_spelled inv.added)
          ∙ ap (λ (x : Bool). (told && is_some (parts rest)) && x) (sym (each_append inv.added asks.added)),
      omega (arith, load_append inv.added asks.added),
    )

-- after the last piece
pub pieces_end : (ps : List Piece) (i : ℕ) (all : Bool) (bound : ℕ) (old now : List Pieces) → length ps ≤ i → PiecesSoFar all bound old now (plain_pieces (drop i ps)) → Asks all true bound old now
pieces_end ps i all bound old now over inv =
    let none : plain_pieces (drop i ps) ≡ no_pieces = at_drop_all plain_pieces ps i over in
    let weighs = ap weight none in
    let low = inv.few in
    record {
      added = inv.added;
      waits = inv.waits;
      is = inv.is ∙ ap (λ (x : Pieces). is_some (parts x) && each_spelled inv.added) none;
      few = omega arith;
    }

-- ---- the f-strings that wait

waiting_append : (xs : List (Bor (List Piece))) (w : Bor (List Piece)) → waiting_of (xs ++ w ∷ []) ≡ waiting_of xs ++ plain_pieces w.now ∷ []
waiting_append [] w = refl
waiting_append (x ∷ xs) w = ap (λ (ys : List Pieces). plain_pieces x.now ∷ ys) (waiting_append xs w)

-- one f-string waits
pub one_waits : (none all : List (Bor (List Piece))) (w : Bor (List Piece)) → none ≡ [] → all ≡ none ++ w ∷ [] → is_some (parts (plain_pieces w.now)) ≡ each_spelled (waiting_of all)
one_waits none all w empty is =
    sym (and_true (is_some (parts (plain_pieces w.now))))
    ∙ ap (λ (ws : List (Bor (List Piece))). each_spelled (waiting_of (ws ++ w ∷ []))) (sym empty)
    ∙ ap (λ (ws : List (Bor (List Piece))). each_spelled (waiting_of ws)) (sym is)

pub next_told : (all b told : Bool) (before taken : List (Bor (List Piece))) (w : Bor (List Piece)) (new : List Pieces) → before ≡ taken ++ w ∷ [] → b ≡ told → Asks (is_some (parts (plain_pieces w.now))) b (weight (plain_pieces w.now)) (waiting_of taken) new → all ≡ each_spelled (waiting_of before) → (all ≡ (told && each_spelled new)) × (load new < load (waiting_of before))
next_told all b told before taken w new is same asks inv =
    let ws : waiting_of before ≡ waiting_of taken ++ plain_pieces w.now ∷ [] = ap waiting_of is ∙ waiting_append taken w in
    let weighs = ap load ws in
    let loads = ap load asks.waits in
    let low = asks.few in (
      inv
          ∙ ap each_spelled ws
          ∙ each_append (waiting_of taken) (plain_pieces w.now ∷ [])
          ∙ ap (λ (x : Bool). each_spelled (waiting_of taken) && x) (and_true (is_some (parts (plain_pieces w.now))) ∙ asks.is ∙ ap (λ (x : Bool). x && each_spelled asks.added) same)
          ∙ swapped (each_spelled (waiting_of taken)) told (each_spelled asks.added)
          ∙ ap (λ (x : Bool). told && x) (sym (each_append (waiting_of taken) asks.added) ∙ ap each_spelled (sym asks.waits)),
      omega (arith, load_append (waiting_of taken) (plain_pieces w.now ∷ []), load_append (waiting_of taken) asks.added),
    )
  where
    swapped : (a b c : Bool) → (a && (b && c)) ≡ (b && (a && c))
    swapped true b c = refl
    swapped false b c = sym (and_false b)
