-- The texts of the usual patterns are patterns.
use Rattle.std.proofs.Common.{◌≡◌, ℕ, ◌≤◌, List, [], ◌∷◌, length, Option, Some, None, refl, sym, subst, arith}
use Rattle.std.specs.Prelude.{IsSomeAnd, codes, chars}
use Rattle.std.specs.Str as str
use Rattle.std.specs.declared.alloc.Global.{Global}
use Rattle.cov_config.specs.Settings.{no_cover, no_branch}
use Rattle.cov_exclude.specs.Texts.{IsPatternText}
use Rattle.regex.specs.Patterns.{default_config}
use Rattle.regex_hir.specs.Re.{Re}
use Rattle.regex_hir.specs.Meaning as meanings
use Rattle.regex_syntax.specs.Brackets as brackets
use Rattle.regex_syntax.specs.Brackets.{Nested}
use Rattle.regex_syntax.specs.Escapes as escapes
use Rattle.regex_syntax.specs.Grammar as grammar
use Rattle.regex_syntax.specs.Grammar.{Names, group_count, read}
use Rattle.regex_syntax.specs.Reading as reading
use Rattle.regex_syntax.specs.Sets as sets
use Rattle.regex_syntax.specs.Verdict.{Reads}
use Rattle.cov_made.proofs.RegexTrees.{every}

-- ---- a text that the grammar reads

some-and : {A : Type 0} (o : Option A) (x : A) (P : A → Type 0) → o ≡ Some x → P x → IsSomeAnd o P
some-and o x P e h = subst (λ o. IsSomeAnd o P) (sym e) h

is-read : (alloc : Global) (text : List ℕ) (found : Nested Re × Names)
    → read default_config (chars text) ≡ Some found → found.0.depth ≤ 250
    → group_count found.0.value ≤ length found.1 → IsPatternText text
unfolding Reads
is-read alloc text found is low named =
    let tree = every alloc found.0.value in (
      tree.hir,
      found.1,
      some-and _ found _ is (low, tree.same, refl, omega (arith, named, tree.count)),
    )

-- ---- the usual texts

-- what has to unfold for a text to be read
unfoldable reads : Unit {0}
unfolding str.chars str.is_utf8 reading.first reading.skip reading.take_up_to reading.take_run
    meanings.repeat sets.case_fold sets.negate sets.negate_if sets.one_of sets.verbatim
    sets.is_member sets.ascii_class escapes.one_letter escapes.escape brackets.unite
    brackets.operator brackets.posix brackets.member brackets.single brackets.after_hyphen
    brackets.set_item brackets.bracket_start brackets.item_or brackets.set_items
    brackets.operations brackets.bracket reading.split_once grammar.capture grammar.opening
    grammar.piece_meaning grammar.char_meaning grammar.atom grammar.bounds grammar.repetitions
    grammar.with_repetitions grammar.item grammar.join_parts grammar.items grammar.branches
    grammar.names_below grammar.read
reads = tt

pub while_is : Global → IsPatternText (codes "while (True|1|False|0):")
unfolding reads
while_is alloc = is-read alloc (codes "while (True|1|False|0):") _ refl (omega arith) (omega arith)

pub if_is : Global → IsPatternText (codes "if (True|1|False|0):")
unfolding reads
if_is alloc = is-read alloc (codes "if (True|1|False|0):") _ refl (omega arith) (omega arith)

pub no_branch_is : Global → IsPatternText no_branch
unfolding reads
no_branch_is alloc = is-read alloc no_branch _ refl (omega arith) (omega arith)

pub no_cover_is : Global → IsPatternText no_cover
unfolding reads
no_cover_is alloc = is-read alloc no_cover _ refl (omega arith) (omega arith)
