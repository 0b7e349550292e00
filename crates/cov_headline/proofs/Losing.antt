-- Commands that save no data: each name holds what it held, or nothing.
use Rattle.std.proofs.Common.{◌≡◌, inl, inr, ◌∙◌, ℕ, Bool, true, false, true≢false, refl, sym, ap, List, [], ◌∷◌, ◌++◌, Option, Some, None, Result, Ok, Err}
use Rattle.std.specs.Prelude.{◌⊎◌}
use Rattle.std.specs.FinMap as finite
use Rattle.cov_contexts.specs.declared.plugins.Plugin.{Ghosts as PluginOf}
use Rattle.cov_config.specs.Settings.{no_cover, no_branch}
use Rattle.cov_lcov.specs.Annotated.{annotated_bytes}
use Rattle.cov_make.specs.Source as made
use Rattle.cov_programs.specs.Laws.{OnlyKeeps}
use Rattle.cov_programs.specs.Programs.{give, settle, refuse, ask, bind}
use Rattle.cov_programs.proofs.Parts.{then-keeps}
use Rattle.cov_vault.specs.Contents.{Contents}
use Rattle.cov_vault.specs.declared.vault.VaultError.TheVariants as vault_error
use Rattle.cov_why.specs.Answers.{PlainWhy}
use Rattle.cov_words.specs.Values.{Word}
use Rattle.py_syntax.specs.Tree.{Text}
use Rattle.cov_step.specs.Calls.{Call, spells, checks, reads, puts, opens, lists, loads, saves, removes, makes, writes, crosses, measures, tries, tests, selects, judges, says, Answer, Answered, Step}
use Rattle.cov_step.specs.Answers.{given_or, run_refusal, sink_refusal, tree_of}
use Rattle.cov_step.specs.Commands.{words_of, usual_steps, arcs, annotate, erase}
use Rattle.cov_step.specs.Listing.{listing}
use Rattle.cov_step.specs.Making.{made_path, made_module, ran_if_any, made_line, made_by, make}
use Rattle.cov_step.specs.Names.{or_else}
use Rattle.cov_step.specs.Phases.{needed, main_name, opened, settings, own_name, patterns, patterns_by, source, analysed, done, write_last, remove_last, answered_by}
use Rattle.cov_headline.specs.Commands.{Loses}
use Rattle.cov_headline.specs.Told.{Held, tells}
use Rattle.cov_headline.proofs.Combining.{lost}
use Rattle.cov_headline.proofs.Going.{Goes, given-keeps, last-keeps, removed-keeps, tree-keeps, ran-keeps, opened-keeps, needed-keeps, settings-keeps, patterns_by-keeps, source-keeps}

-- an answer after which no data were saved
abbrev saves_none : (call : Call) → Answer call → Bool
saves_none (spells words) answer = true
saves_none (checks bytes) reading = true
saves_none (reads name most) answer = true
saves_none (puts name bytes) refusal = true
saves_none (opens name script) answer = true
saves_none lists answer = true
saves_none (loads name) answer = true
saves_none (saves name content) refusal = false
saves_none (removes name) refusal = true
saves_none (makes texts) refusal = true
saves_none (writes bytes) refusal = true
saves_none (crosses modules words budget) answer = true
saves_none (measures asked modules hook) answer = true
saves_none (tries modules words budget) answer = true
saves_none (tests asked modules) answer = true
saves_none (selects budget before after) answer = true
saves_none (judges budget modules) answer = true
saves_none (says text) answer = true

abbrev SavesNone : {A : Type 0} → Step A → Type 0
SavesNone p = OnlyKeeps saves_none p

-- ---- along a program

pub loses-none : (m n : Contents) → n ≡ m → Loses m n
loses-none m n e = λ name. inl (ap (λ c. finite.get c name) e)

loses-more : (l m n : Contents) → Loses l m → Loses m n → Loses l n
loses-more l m n a b = λ name. by name (a name) (b name)
  where
    by : (name : Word) → (finite.get m name ≡ finite.get l name) ⊎ (finite.get m name ≡ None) → (finite.get n name ≡ finite.get m name) ⊎ (finite.get n name ≡ None) → (finite.get n name ≡ finite.get l name) ⊎ (finite.get n name ≡ None)
    by name x (inr f) = inr f
    by name (inl e) (inl f) = inl (f ∙ e)
    by name (inr e) (inl f) = inr (f ∙ e)

module _ {P : Type 0} (plugin : PluginOf P) where
  same-contents : (u v : Held P) → v ≡ u → Loses u.contents v.contents
  same-contents u v e = loses-none u.contents v.contents (ap (λ (w : Held P). w.contents) e)

  call-loses : (u : Held P) (call : Call) (x : Answer call) (v : Held P) → tells plugin u call x v → saves_none call x ≡ true → Loses u.contents v.contents
  call-loses u (spells words) x v m e = same-contents u v m.1
  call-loses u (checks bytes) x v m e = same-contents u v m.1
  call-loses u (reads name most) x v m e = same-contents u v m.1
  call-loses u (puts name bytes) x v m e = loses-none u.contents v.contents (ap (λ (w : Held P). w.contents) m.1)
  call-loses u (opens name script) x v m e = same-contents u v m.1
  call-loses u lists x v m e = same-contents u v m.1
  call-loses u (loads name) x v m e = same-contents u v m.1
  call-loses u (saves name content) x v m e = absurd (true≢false (sym e))
  call-loses u (removes name) None v m e = λ q. elim (lost u.contents name q) [ inl s ↦ inl (ap (λ c. finite.get c q) m.0.1 ∙ s) | inr s ↦ inr (ap (λ c. finite.get c q) m.0.1 ∙ s) ]
  call-loses u (removes name) (Some vault_error.Absent) v m e = loses-none u.contents v.contents m.0.1
  call-loses u (removes name) (Some vault_error.NotSchema7) v m e = absurd m.0
  call-loses u (removes name) (Some (vault_error.BadRow i)) v m e = absurd m.0
  call-loses u (removes name) (Some vault_error.Failed) v m e = loses-none u.contents v.contents m.0
  call-loses u (removes name) (Some vault_error.NoMemory) v m e = loses-none u.contents v.contents m.0
  call-loses u (makes texts) x v m e = same-contents u v m
  call-loses u (writes bytes) x v m e = loses-none u.contents v.contents (ap (λ (w : Held P). w.contents) m.1)
  call-loses u (crosses modules words budget) (Ok r) v m e = loses-none u.contents v.contents (ap (λ (w : Held P). w.contents) m.1)
  call-loses u (crosses modules words budget) (Err fault) v m e = absurd m
  call-loses u (measures asked modules hook) (Ok r) v m e = loses-none u.contents v.contents (ap (λ (w : Held P). w.contents) m.1)
  call-loses u (measures asked modules hook) (Err fault) v m e = absurd m
  call-loses u (tries modules words budget) x v m e = same-contents u v m
  call-loses u (tests asked modules) x v m e = loses-none u.contents v.contents (ap (λ (w : Held P). w.contents) m.1)
  call-loses u (selects budget before after) x v m e = same-contents u v m.1
  call-loses u (judges budget modules) x v m e = same-contents u v m.1
  call-loses u (says text) x v m e = loses-none u.contents v.contents (ap (λ (w : Held P). w.contents) m.1)

  pub loses-all : {A : Type 0} (p : Step A) (old new : Held P) (e : Result A PlainWhy) → SavesNone p → Goes plugin p old e new → Loses old.contents new.contents
  loses-all (give a) old new e k (inl s) = absurd s.wanting
  loses-all (give a) old new e k (inr (is, same)) = same-contents old new same
  loses-all (settle a) old new e k (is, same) = same-contents old new same
  loses-all (refuse r) old new e k (inl s) = absurd s.wanting
  loses-all (refuse r) old new e k (inr (is, same)) = same-contents old new same
  loses-all (ask call f) old new e k (inl s) = absurd s.wanting
  loses-all (ask call f) old new e k (inr (x, u, m, rest)) = loses-more old.contents u.contents new.contents (call-loses old call x u m (k x).0) (loses-all (f x) u new e (k x).1 rest)

-- ---- the commands that save none

none-opened : (name : Text) (script : Word) → SavesNone (opened name script)
none-opened = opened-keeps saves_none (λ n m x. refl) (λ n s x. refl) (λ b x. refl) (λ t x. refl) (λ n x. refl) (λ x. refl)

none-needed : (name : Word) → SavesNone (needed name)
none-needed = needed-keeps saves_none (λ n m x. refl) (λ n s x. refl) (λ b x. refl) (λ t x. refl) (λ n x. refl) (λ x. refl)

none-settings : (rcfile : Option Word) → SavesNone (settings rcfile)
none-settings = settings-keeps saves_none (λ n m x. refl) (λ n s x. refl) (λ b x. refl) (λ t x. refl) (λ n x. refl) (λ x. refl)

none-patterns_by : (exclude partial : List (List ℕ)) → SavesNone (patterns_by exclude partial)
none-patterns_by = patterns_by-keeps saves_none (λ n m x. refl) (λ n s x. refl) (λ b x. refl) (λ t x. refl) (λ n x. refl) (λ x. refl)

none-source : (path : Word) → SavesNone (source path)
none-source = source-keeps saves_none (λ n m x. refl) (λ n s x. refl) (λ b x. refl) (λ t x. refl) (λ n x. refl) (λ x. refl)

none-written : (bytes : List ℕ) (a : Answered) → SavesNone (write_last bytes a)
none-written bytes a = λ x. (refl, last-keeps saves_none sink_refusal a x)

pub arcs-none : (steps : Option ℕ) (script : Word) (args : List Word) → SavesNone (arcs steps script args)
arcs-none steps script args = let most = or_else steps usual_steps in
    then-keeps saves_none (opened main_name script) (λ ms. bind (ask (crosses ms (words_of script args) most) (given_or run_refusal)) (λ r. write_last (listing r.rows) (answered_by most r.outcome))) (none-opened main_name script) (λ ms.
    then-keeps saves_none (ask (crosses ms (words_of script args) most) (given_or run_refusal)) (λ r. write_last (listing r.rows) (answered_by most r.outcome)) (λ x. (refl, given-keeps saves_none run_refusal x)) (λ r.
    none-written (listing r.rows) (answered_by most r.outcome)))

pub annotate-none : (data_file rcfile : Option Word) (path : Word) → SavesNone (annotate data_file rcfile path)
annotate-none data_file rcfile path =
    then-keeps saves_none (settings rcfile) (λ s. bind (patterns s.report) (λ p. bind (needed (own_name data_file s)) (λ d. bind (source path) (λ f. write_last (annotated_bytes (analysed p d f) f.text) done)))) (none-settings rcfile) (λ s.
    then-keeps saves_none (patterns s.report) (λ p. bind (needed (own_name data_file s)) (λ d. bind (source path) (λ f. write_last (annotated_bytes (analysed p d f) f.text) done))) (none-patterns_by (s.report.exclude_lines ++ s.report.exclude_also) s.report.partial_branches) (λ p.
    then-keeps saves_none (needed (own_name data_file s)) (λ d. bind (source path) (λ f. write_last (annotated_bytes (analysed p d f) f.text) done)) (none-needed (own_name data_file s)) (λ d.
    then-keeps saves_none (source path) (λ f. write_last (annotated_bytes (analysed p d f) f.text) done) (none-source path) (λ f.
    none-written (annotated_bytes (analysed p d f) f.text) done))))

pub erase-none : (data_file rcfile : Option Word) → SavesNone (erase data_file rcfile)
erase-none data_file rcfile =
    then-keeps saves_none (settings rcfile) (λ s. remove_last (own_name data_file s) done) (none-settings rcfile) (λ s. λ x. (refl, removed-keeps saves_none (settle done) tt x))

pub make-none : (seed size : ℕ) → SavesNone (make seed size)
make-none seed size = let text = made.source seed size in
    then-keeps saves_none (patterns_by (no_cover ∷ []) (no_branch ∷ [])) (λ p. bind (ask (checks text) (tree_of made_path text)) (made_by seed size p)) (none-patterns_by (no_cover ∷ []) (no_branch ∷ [])) (λ p.
    then-keeps saves_none (ask (checks text) (tree_of made_path text)) (made_by seed size p) (λ x. (refl, tree-keeps saves_none made_path text x)) (λ f.
    then-keeps saves_none (ask (tries (made_module f ∷ []) (words_of f.path []) usual_steps) ran_if_any) (λ r. write_last (made_line seed size p f r) done) (λ x. (refl, ran-keeps saves_none x)) (λ r.
    none-written (made_line seed size p f r) done)))
