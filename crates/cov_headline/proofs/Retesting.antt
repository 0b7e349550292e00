-- What a selection promises, and what verdicts of mutants do.
use Rattle.std.proofs.Common.{◌≡◌, inl, inr, ◌∙◌, ℕ, ap, List, ◌++◌, Option, Some, None, Ok}
use Rattle.std.specs.Str.{chars}
use Rattle.cov_contexts.specs.declared.plugins.Plugin.{Ghosts as PluginOf}
use Rattle.py_meaning.specs.Modules.{LoadedModule}
use Rattle.cov_programs.specs.Programs.{bind}
use Rattle.cov_programs.proofs.Results.{ok_is, ok_no_err}
use Rattle.cov_run.specs.Loading.{told_by, IsLoaded}
use Rattle.cov_step.specs.Calls.{Answered, Judged, came, not_imported, starved}
use Rattle.cov_step.specs.Commands.{usual_steps}
use Rattle.cov_step.specs.Mutating.{mutation_lines, judged_in, mutate}
use Rattle.cov_step.specs.Names.{or_else}
use Rattle.cov_step.specs.Phases.{opened}
use Rattle.cov_step.specs.Selecting.{selection_lines, selected_in, select}
use Rattle.cov_step.specs.Testing.{tests_name}
use Rattle.cov_words.specs.Values.{Word}
use Rattle.cov_headline.specs.Retests.{SelectPromise, MutatePromise}
use Rattle.cov_headline.specs.Told.{Held}
use Rattle.cov_headline.proofs.Going.{Goes, quietly, quiet-opened}
use Rattle.cov_headline.proofs.Running.{opened-so}

some-none : {A : Type 0} {a : A} → ◌≡◌ {A = Option A} (Some a) None → ⊥
some-none e = cc

module _ {P : Type 0} (plugin : PluginOf P) where
  -- ---- a selection

  module _ (most : ℕ) (old_file new_file : Word) (old : Held P) (a : Answered) (new : Held P) where
    by-selected : (before after : List LoadedModule) → IsLoaded (told_by old.files (chars old_file)) (chars old_file) tests_name before → IsLoaded (told_by old.files (chars new_file)) (chars new_file) tests_name after
        → Goes plugin (selected_in most old_file before after) old (Ok a) new → SelectPromise most old_file new_file old a new
    by-selected before after b l (inl s) = absurd s.wanting
    by-selected before after b l (inr (not_imported, u, m, inl s)) = absurd s.wanting
    by-selected before after b l (inr (not_imported, u, m, inr (is, same))) = absurd (ok_no_err is)
    by-selected before after b l (inr (starved, u, m, inl s)) = absurd s.wanting
    by-selected before after b l (inr (starved, u, m, inr (is, same))) = absurd (ok_no_err is)
    by-selected before after b l (inr (came s, u, m, inl t)) = absurd t.wanting
    by-selected before after b l (inr (came s, u, m, inr (Some e, v, n, rest))) = absurd (some-none n.0)
    by-selected before after b l (inr (came s, u, m, inr (None, v, n, (is, same)))) = record {
      before = before;
      loaded = b;
      after = after;
      loaded_after = l;
      selection = s;
      chosen = m.0;
      printed = same ∙ n.1 ∙ ap (λ (w : Held P). record w { out = w.out ++ selection_lines s }) m.1;
      ended = ok_is is;
    }

  -- one that did its work
  pub select-promise : (steps : Option ℕ) (old_file new_file : Word) (old : Held P) (a : Answered) (new : Held P) → Goes plugin (select steps old_file new_file) old (Ok a) new → SelectPromise (or_else steps usual_steps) old_file new_file old a new
  select-promise steps old_file new_file old a new h =
      let most = or_else steps usual_steps in
      let x = quietly plugin (opened tests_name old_file) (λ before. bind (opened tests_name new_file) (λ after. selected_in most old_file before after)) old new a (quiet-opened tests_name old_file) h in
      let y = quietly plugin (opened tests_name new_file) (λ after. selected_in most old_file x.0 after) old new a (quiet-opened tests_name new_file) x.2 in
      by-selected most old_file new_file old a new x.0 y.0 (opened-so plugin tests_name old_file old x.0 x.1) (opened-so plugin tests_name new_file old y.0 y.1) y.2

  -- ---- verdicts

  module _ (most : ℕ) (file : Word) (old : Held P) (a : Answered) (new : Held P) where
    by-judged : (ms : List LoadedModule) → IsLoaded (told_by old.files (chars file)) (chars file) tests_name ms → Goes plugin (judged_in most file ms) old (Ok a) new → MutatePromise most file old a new
    by-judged ms l (inl s) = absurd s.wanting
    by-judged ms l (inr (not_imported, u, m, inl s)) = absurd s.wanting
    by-judged ms l (inr (not_imported, u, m, inr (is, same))) = absurd (ok_no_err is)
    by-judged ms l (inr (starved, u, m, inl s)) = absurd s.wanting
    by-judged ms l (inr (starved, u, m, inr (is, same))) = absurd (ok_no_err is)
    by-judged ms l (inr (came js, u, m, inl t)) = absurd t.wanting
    by-judged ms l (inr (came js, u, m, inr (Some e, v, n, rest))) = absurd (some-none n.0)
    by-judged ms l (inr (came js, u, m, inr (None, v, n, (is, same)))) = record {
      modules = ms;
      loaded = l;
      verdicts = m.0.0;
      judged = m.0.1;
      printed = same ∙ n.1 ∙ ap (λ (w : Held P). record w { out = w.out ++ mutation_lines js }) m.1 ∙ ap (λ (xs : List Judged). record old { out = old.out ++ mutation_lines xs }) m.0.2;
      ended = ok_is is;
    }

  -- some that were told
  pub mutate-promise : (steps : Option ℕ) (file : Word) (old : Held P) (a : Answered) (new : Held P) → Goes plugin (mutate steps file) old (Ok a) new → MutatePromise (or_else steps usual_steps) file old a new
  mutate-promise steps file old a new h =
      let most = or_else steps usual_steps in
      let x = quietly plugin (opened tests_name file) (λ ms. judged_in most file ms) old new a (quiet-opened tests_name file) h in
      by-judged most file old a new x.0 (opened-so plugin tests_name file old x.0 x.1) x.2
