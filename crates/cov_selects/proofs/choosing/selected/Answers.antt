use Rattle.std.proofs.Common.{◌≡◌, List, Bool, ℕ, String, Global, encode_utf8_all, length, map, rules, string_bytes, ap, ◌∙◌}
use Rattle.std.specs.List.{filter}
use Rattle.cov_run.specs.Loads.{loaded_modules}
use Rattle.cov_select.specs.Paths.{changes_by_path, modules_beside}
use Rattle.cov_select.specs.Selected.{ByPath, is_changed, is_selected}
use Rattle.cov_suite.specs.Tests.{tests_of}
use Rattle.py_meaning.specs.Modules.{LoadedModule}
use Rattle.py_syntax.specs.declared.stmt.Module.{Module}
use Rattle.cov_selects.proofs.Selected.{loaded-beside, names-of, count-of, filtered}
use Rattle.cov_selects.proofs.choosing.selected.Goals as goal

pub returns : goal.returns
returns c =
    let before = c.args.before.now in
    let after = c.args.after.now in
    let new : List LoadedModule = loaded_modules after in
    let changed : ByPath = c.in_ok-changed.changed.items in
    let picks : List ℕ → Bool = is_selected c.args.run.now.tests.items (is_changed changed) in record {
      changed = changed;
      changes =
          c.in_ok-changed.ensures
          ∙ ap (λ (ts : List Module). changes_by_path (modules_beside before.programs.modules.items ts) (modules_beside after.programs.modules.items c.deref-2.result.now)) c.deref.ensures.value
          ∙ ap (λ (ts : List Module). changes_by_path (modules_beside before.programs.modules.items before.modules.items) (modules_beside after.programs.modules.items ts)) c.deref-2.ensures.value
          ∙ ap (λ (ms : List LoadedModule). changes_by_path ms (modules_beside after.programs.modules.items after.modules.items)) (loaded-beside before.programs.modules.items before.modules.items)
          ∙ ap (changes_by_path (loaded_modules before)) (loaded-beside after.programs.modules.items after.modules.items);
      names =
          names-of c.in_ok-names.names.items (filter (λ name. picks (encode_utf8_all name)) (tests_of new))
          (c.in_ok-names.ensures
          ∙ ap (λ (cs : ByPath). filter (is_selected c.args.run.now.tests.items (is_changed cs)) (map string_bytes c.deref-4.result.now)) c.deref-3.ensures.value
          ∙ ap (λ (ts : List (String Global)). filter picks (map string_bytes ts)) c.deref-4.ensures.value
          ∙ ap (filter picks) c.in_ok-tests.ensures
          ∙ filtered picks (tests_of new));
      counted =
          let places : c.len.result ≡ length c.in_ok-tests.tests.items = search rules in
          places ∙ count-of c.in_ok-tests.tests.items (tests_of new) c.in_ok-tests.ensures;
    }
