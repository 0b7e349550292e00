-- The analysis of a source and its line, under other names of the same values.
use Rattle.std.proofs.Common.{◌≡◌, ℕ, List, append_assoc, Result, Ok, Err, String, Global, string_bytes, ap, sym, subst, ◌∙◌}
use Rattle.std.specs.Prelude.{◌++◌, codes, decimal, IfOk}
use Rattle.cov_analysis.specs.Analyses.{AnalysisView, IsReportable, analysis_of, analysis_view, source_of, taken_of}
use Rattle.cov_analysis.specs.Lines.{IsOfText}
use Rattle.cov_analysis.specs.Percentage.{percent}
use Rattle.cov_analysis.specs.declared.analysis.Analysis.{Analysis}
use Rattle.cov_analysis.specs.declared.numbers.Numbers.{Numbers}
use Rattle.cov_data.specs.DataSet.{DataSet}
use Rattle.cov_step.specs.Calls.{Patterns, PlainSource}
use Rattle.cov_step.specs.Making.{make_line}
use Rattle.cov_step.specs.Phases.{analysed}
use Rattle.py_syntax.specs.Tree.{Stmts}
use Rattle.cov_made.specs.Texts.{branches_text, percent_text, run_text, source_text, statements_text}

weaker : {A E : Type 0} (d : Result A E) (P Q : A → Type 0) → ((a : A) → P a → Q a) → IfOk d P
    → IfOk d Q
weaker (Ok a) P Q f h = f a h
weaker (Err e) P Q f h = tt

module _ {E : Type 0} (answer : Result Analysis E) (p : Patterns) (d : DataSet) (path : List ℕ)
    (body same : Stmts) (text also : List ℕ) (is : body ≡ same) (too : text ≡ also) where
  abbrev source : PlainSource
  source = record { path = path; text = also; body = same }

  pub analysed-so : IfOk answer (λ a. analysis_view a
      ≡ analysis_of path (source_of p.exclude p.partial body text) (taken_of d path))
      → IfOk answer (λ a. analysis_view a ≡ analysed p d source)
  analysed-so =
      weaker answer _ _ (λ a e. e
      ∙ ap (λ b. analysis_of path (source_of p.exclude p.partial b text) (taken_of d path)) is
      ∙ ap (λ t. analysis_of path (source_of p.exclude p.partial same t) (taken_of d path)) too)

  pub reportable-so : IsOfText same
      → IfOk answer (λ a. IsOfText body → IsReportable (analysis_view a))
      → IfOk answer (λ a. IsReportable (analysis_view a))
  reportable-so of_text = weaker answer _ _ (λ a h. h (subst IsOfText (sym is) of_text))

pub line-so : {E : Type 0} (r : Result (String Global) E) (seed size lines count steps : ℕ)
    (a : AnalysisView) {also number : ℕ} {same : AnalysisView} → lines ≡ also → a ≡ same
    → count ≡ number
    → IfOk r (λ t. string_bytes t ≡ make_line seed size lines a count steps)
    → IfOk r (λ t. string_bytes t ≡ make_line seed size also same number steps)
line-so r seed size lines count steps a {also = also} {same = same} l e n =
    weaker r _ _ (λ t h. h
    ∙ ap (λ k. make_line seed size k a count steps) l
    ∙ ap (λ b. make_line seed size also b count steps) e
    ∙ ap (λ k. make_line seed size also same k steps) n)

-- ---- the parts of the line

two : (a b z : List ℕ) → (a ++ b) ++ z ≡ a ++ (b ++ z)
two a b z = append_assoc a b z

three : (a b c z : List ℕ) → (a ++ (b ++ c)) ++ z ≡ a ++ (b ++ (c ++ z))
three a b c z = append_assoc a (b ++ c) z ∙ ap (λ w. a ++ w) (two b c z)

four : (a b c d z : List ℕ) → (a ++ (b ++ (c ++ d))) ++ z ≡ a ++ (b ++ (c ++ (d ++ z)))
four a b c d z = append_assoc a (b ++ (c ++ d)) z ∙ ap (λ w. a ++ w) (three b c d z)

five : (a b c d e z : List ℕ)
    → (a ++ (b ++ (c ++ (d ++ e)))) ++ z ≡ a ++ (b ++ (c ++ (d ++ (e ++ z))))
five a b c d e z = append_assoc a (b ++ (c ++ (d ++ e))) z ∙ ap (λ w. a ++ w) (four b c d e z)

six : (a b c d e f z : List ℕ)
    → (a ++ (b ++ (c ++ (d ++ (e ++ f))))) ++ z ≡ a ++ (b ++ (c ++ (d ++ (e ++ (f ++ z)))))
six a b c d e f z =
    append_assoc a (b ++ (c ++ (d ++ (e ++ f)))) z ∙ ap (λ w. a ++ w) (five b c d e f z)

seven : (a b c d e f g z : List ℕ)
    → (a ++ (b ++ (c ++ (d ++ (e ++ (f ++ g)))))) ++ z
    ≡ a ++ (b ++ (c ++ (d ++ (e ++ (f ++ (g ++ z))))))
seven a b c d e f g z =
    append_assoc a (b ++ (c ++ (d ++ (e ++ (f ++ g))))) z ∙ ap (λ w. a ++ w) (six b c d e f g z)

module _ (seed size lines arcs steps : ℕ) (a : AnalysisView) where
  -- what follows the lines, and what follows the statements
  abbrev after_lines : List ℕ
  after_lines = statements_text a.numbers ++ (branches_text a.numbers ++ run_text arcs steps)

  abbrev after_statements : List ℕ
  after_statements = branches_text a.numbers ++ run_text arcs steps

  are-joined : source_text seed size lines ++ after_lines ≡ make_line seed size lines a arcs steps
  are-joined =
      let n = a.numbers in
      seven (codes "make ") (decimal seed) (codes " ") (decimal size) (codes ": ") (decimal lines)
      (codes " lines, ") after_lines
      ∙ ap (λ w. codes "make " ++ (decimal seed ++ (codes " " ++ (decimal size ++ (codes ": "
      ++ (decimal lines ++ (codes " lines, " ++ w)))))))
      (four (decimal n.statements) (codes " statements, ") (decimal n.missing) (codes " missing, ")
      after_statements
      ∙ ap (λ w. decimal n.statements ++ (codes " statements, " ++ (decimal n.missing
      ++ (codes " missing, " ++ w))))
      (six (decimal n.branches) (codes " branches, ") (decimal n.partial) (codes " partial, ")
      (decimal (percent n)) (codes "%, ") (run_text arcs steps)))

  pub joined-so : {E : Type 0} (answer : Result (String Global) E) {s t b r : List ℕ}
      → s ≡ source_text seed size lines → t ≡ statements_text a.numbers
      → b ≡ branches_text a.numbers → r ≡ run_text arcs steps
      → IfOk answer (λ x. string_bytes x ≡ s ++ (t ++ (b ++ r)))
      → IfOk answer (λ x. string_bytes x ≡ make_line seed size lines a arcs steps)
  joined-so answer {s} {t} {b} {r} e f g h =
      weaker answer _ _ (λ x is. is
      ∙ ap (λ w. w ++ (t ++ (b ++ r))) e
      ∙ ap (λ w. source_text seed size lines ++ (w ++ (b ++ r))) f
      ∙ ap (λ w. source_text seed size lines ++ (statements_text a.numbers ++ (w ++ r))) g
      ∙ ap (λ w. source_text seed size lines
      ++ (statements_text a.numbers ++ (branches_text a.numbers ++ w))) h
      ∙ are-joined)

pub percent-so : {E : Type 0} (r : Result (String Global) E) (n : Numbers) {covered : ℕ}
    → covered ≡ percent n → IfOk r (λ t. string_bytes t ≡ percent_text n covered)
    → IfOk r (λ t. string_bytes t ≡ branches_text n)
percent-so r n is = weaker r _ _ (λ t h. h ∙ ap (percent_text n) is)
