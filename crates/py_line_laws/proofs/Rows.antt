-- A text with a `def` in an `if`, one after it, and one in that: its tokens, its tree and the lines of its functions, computed. And two
-- `def`s on one line.
--     if x:
--         def f(): pass
--     def g():
--         def h(): pass
use Prim.Native.String.{String}
use Rattle.std.proofs.Common.{◌≡◌, ℕ, true, false, List, [], ◌∷◌, ◌++◌, map, refl, arith}
use Rattle.std.specs.Prelude.{codes}
use Rattle.py_token.specs.declared.token.Keyword.TheVariants as word
use Rattle.py_token.specs.declared.token.Mark.TheVariants as sign
use Rattle.py_token.specs.Fields as fields_
use Rattle.py_token.specs.Layout as layout_
use Rattle.py_token.specs.Marks as marks_
use Rattle.py_token.specs.Plain.{PToken, token, name, keyword, mark, newline, indent, dedent, end}
use Rattle.py_token.specs.Rules as rules_
use Rattle.py_token.specs.Segments as segments_
use Rattle.py_token.specs.Source as source_
use Rattle.py_token.specs.Spelling as text
use Rattle.py_token.specs.Words as words_
use Rattle.py_syntax.specs.declared.stmt.LineEnd.{LineEnd}
use Rattle.py_syntax.specs.Functions.{functions, functions_in, opt_functions, arms_functions}
use Rattle.py_syntax.specs.Spelling.{Spells}
use Rattle.py_syntax.specs.Tree as T
use Rattle.py_syntax.specs.Tree.{Text, Stmts}
use Rattle.py_syntax.proofs.Sources.{var, line}
use Rattle.py_line_laws.specs.OwnLines.{HaveOwnLines}
use Rattle.py_line_laws.proofs.OwnLaw.{law}

abbrev text_of : List Text → Text
text_of [] = []
text_of (x ∷ xs) = x ++ 10 ∷ text_of xs

abbrev source : Text
source = text_of (codes "if x:" ∷ codes "    def f(): pass" ∷ codes "def g():" ∷ codes "    def h(): pass" ∷ [])

-- ---- its tokens

-- the header of a `def`
abbrev header : ℕ → String → List PToken → List PToken
header l x more = token (keyword word.Def) l l ∷ token (name (codes x)) l l ∷ token (mark sign.LeftParen) l l ∷ token (mark sign.RightParen) l l ∷ token (mark sign.Colon) l l ∷ more

-- a `pass` on its line
abbrev passes : ℕ → List PToken → List PToken
passes l more = token (keyword word.Pass) l l ∷ token newline l l ∷ more

abbrev written : List PToken
written =
    token (keyword word.If) 1 1 ∷ token (name (codes "x")) 1 1 ∷ token (mark sign.Colon) 1 1 ∷ token newline 1 1 ∷ token indent 2 2
    ∷ header 2 "f" (passes 2 (token dedent 3 3 ∷ header 3 "g" (token newline 3 3 ∷ token indent 4 4 ∷ header 4 "h" (passes 4 (token dedent 4 4 ∷ token end 4 4 ∷ [])))))

spelled : text.Spells source written
unfolding text.Spells text.spelling source_.joined_ends source_.line_count segments_.segments segments_.segment_at fields_.token_at rules_.plain_token marks_.mark_at layout_.put layout_.layout words_.keyword_of
spelled = refl

-- ---- its tree

abbrev none : LineEnd
none = record { semicolon = false; newline = false }

-- a `def` from one line to another
abbrev def_at : ℕ → ℕ → String → T.Suite → Stmts → Stmts
def_at l k x s = T.stmt l k (T.def (codes x) [] T.no_exprs false s) none

-- with a `pass` on its line
abbrev short : ℕ → String → Stmts → Stmts
short l x = def_at l l x (T.suite l l true (line l T.pass T.no_stmts))

abbrev tree : Stmts
tree =
    T.stmt 1 3 (T.if' (T.arm (var "x") (T.suite 1 1 false (short 2 "f" T.no_stmts)) T.no_arms) T.no_suite) none
    (def_at 3 4 "g" (T.suite 3 3 false (short 4 "h" T.no_stmts)) T.no_stmts)

reads : Spells tree written
reads = (
  (
    ((refl, refl), ((refl, refl), tt)),
    (
      (((omega arith, tt), (((refl, refl), tt), (((refl, refl), ((refl, refl), (tt, tt))), tt)), tt), tt),
      (((refl, refl), (((refl, refl), tt), (((refl, refl), ((refl, refl), (tt, tt))), tt))), tt),
    ),
    refl,
  ),
  refl,
  (
    refl,
    refl,
    ((refl, refl, (refl, refl, (refl, refl, (refl, refl, tt, tt)), tt)), tt, tt),
    (refl, refl, (refl, refl, (refl, refl, (refl, refl, (refl, refl, tt, tt)), tt)), tt),
  ),
)

-- ---- its functions

lines : map (λ f. f.line) (functions tree) ≡ 2 ∷ 3 ∷ []
unfolding functions functions_in opt_functions arms_functions
lines = refl

own : HaveOwnLines (functions tree)
own = law source written tree spelled reads

-- no text spells two `def`s on one line
one_line : HaveOwnLines (functions (short 1 "f" (short 1 "g" T.no_stmts))) → ⊥
unfolding functions functions_in
one_line h = h.0.0 refl
