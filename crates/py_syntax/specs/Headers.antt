-- Which logical lines are headers of a `match`.
use Rattle.std.specs.Prelude.{nat_eq, Bool, true, false, ◌&&◌, List, [], ◌∷◌}
use Rattle.py_token.specs.declared.token.Mark.TheVariants as mark
use Rattle.py_syntax.specs.Tree.{Text}
use Rattle.py_syntax.specs.Kinds.{Kind, Name, Sign, Newline, Indent, Dedent}

-- A token, and whether the header of a `match` statement begins at it.
pub record Marked : Type 0 where
  pub kind : Kind
  pub header : Bool

-- tokens that begin no header, and then others
abbrev pub put : List Kind → List Marked → List Marked
put [] rest = rest
put (k ∷ ks) rest = record { kind = k; header = false } ∷ put ks rest

-- the tokens without the marks
abbrev pub kinds_marked : List Marked → List Kind
kinds_marked [] = []
kinds_marked (m ∷ ms) = m.kind ∷ kinds_marked ms

-- the name `match`
abbrev pub match_name : Text
match_name = 109 ∷ 97 ∷ 116 ∷ 99 ∷ 104 ∷ []

-- whether two names are the same
abbrev same_text : Text → Text → Bool
same_text [] [] = true
same_text (c ∷ cs) (d ∷ ds) = nat_eq c d && same_text cs ds
same_text cs ds = false

-- whether a token is the name `match`
abbrev pub is_match : Kind → Bool
is_match (Name x) = same_text x match_name
is_match k = false

-- whether a token is a colon
abbrev pub is_colon : Kind → Bool
is_colon (Sign mark.Colon) = true
is_colon k = false

-- Whether the last token before `Newline` is a colon; the first argument says whether the token
-- before these is one.
abbrev pub ends_in_colon : Bool → List Kind → Bool
ends_in_colon colon [] = false
ends_in_colon colon (Newline ∷ ks) = colon
ends_in_colon colon (k ∷ ks) = ends_in_colon (is_colon k) ks

-- The tokens after the name `match` make its logical line a header: one stands there, and the last
-- after it is a colon.
abbrev pub is_header : List Kind → Bool
is_header [] = false
is_header (Newline ∷ ks) = false
is_header (k ∷ ks) = ends_in_colon false ks

-- a logical line may begin after these
abbrev pub ends_line : Kind → Bool
ends_line Newline = true
ends_line Indent = true
ends_line Dedent = true
ends_line k = false

-- The tokens with the headers among their logical lines; the first argument says whether a line
-- begins here.
abbrev pub marked_from : Bool → List Kind → List Marked
marked_from begins [] = []
marked_from begins (k ∷ ks) =
    record { kind = k; header = begins && (is_match k && is_header ks) }
    ∷ marked_from (ends_line k) ks

-- the tokens of a source, with the headers among its logical lines
abbrev pub marked : List Kind → List Marked
marked = marked_from true
