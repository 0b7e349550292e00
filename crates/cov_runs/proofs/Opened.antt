-- A program that is loaded, as a call of a shelf.
use Rattle.std.proofs.Common.{◌≡◌, inl, inr, ℕ, ◌<◌, ◌≤◌, List, [], ◌∷◌, length, slice_get, Option, Some, None, Result, Ok, Err, encode_utf8_all, refl, sym, ap, ◌∙◌, arith}
use Rattle.std.specs.Result.{IsErrOf, IfOk}
use Rattle.std.specs.Str.{chars}
use Rattle.cov_outside.specs.Counts.{Rose}
use Rattle.cov_outside.specs.declared.shelf.Shelf.{Ghosts as ShelfOf}
use Rattle.cov_outside.specs.declared.shelf.ShelfError.{ShelfError}
use Rattle.py_code.specs.declared.code.Program.{Program}
use Rattle.py_meaning.specs.Modules.{LoadedModule}
use Rattle.py_syntax.specs.Tree.{Text}
use Rattle.py_syntax.specs.declared.stmt.Module.{Module}
use Rattle.cov_hook.specs.View.{first_path, path_of}
use Rattle.cov_programs.specs.Ends.{Follows}
use Rattle.cov_programs.proofs.Composing.{asks, followed-so, gives, refuses}
use Rattle.cov_programs.proofs.Results.{err_is, ok_no_err}
use Rattle.cov_run.specs.Asking.{names_read}
use Rattle.cov_run.specs.Loading.{told_by}
use Rattle.cov_run.specs.Loads.{ComesTo, EndsFailed, IsCompiled, IsUnread, faulted, starved, Loads, LoadsTo, loaded_module, loaded_modules, loaded_pairs}
use Rattle.cov_run.specs.Refusals.{Refuses, absent, crowded, large, heavy, unreadable, refused_by, limit_of, fault_of}
use Rattle.cov_run.specs.declared.programs.Loaded.{Loaded}
use Rattle.cov_changes_laws.specs.LoadedChanges.{LoadedAreRegular}
use Rattle.cov_loaded_laws.specs.Loaded.{IsMeasurable, LoadedHaveTextLines, LoadedLaw}
use Rattle.cov_verdicts.specs.Regular.{AreRegular}
use Rattle.cov_why.specs.Answers.{Refusal, shelf_fault, AnsweredAs, plain_why}
use Rattle.cov_why.specs.declared.why.LimitKind.{LimitKind}
use Rattle.cov_why.specs.declared.why.SyntaxKind.{SyntaxKind}
use Rattle.cov_why.specs.declared.why.Why.{Why}
use Rattle.cov_why.specs.declared.why.Why.TheVariants as why
use Rattle.cov_why.proofs.Refusing.{refused-is, refused-for}
use Rattle.cov_step.specs.Calls.{IsNoMemory, seen}
use Rattle.cov_step.specs.Objects.{on_shelf}
use Rattle.cov_step.specs.Phases.{opened}
use Rattle.cov_step.specs.Promises.{Object, the_shelf, blame_of}

-- the fault of a shelf is one answer
fault-is : (w : Why) → plain_why w ≡ Err shelf_fault → w ≡ why.ShelfFault
fault-is why.Done e = absurd (ok_no_err e)
fault-is (why.Program status) e = absurd (ok_no_err e)
fault-is (why.Budget steps) e = absurd (ok_no_err e)
fault-is (why.Under covered all) e = absurd (ok_no_err e)
fault-is (why.Usage words) e = cc
fault-is (why.NoSuchFile name) e = cc
fault-is (why.Syntax file line kind) e = cc
fault-is (why.Limit kind n) e = cc
fault-is (why.BadConfig key) e = cc
fault-is (why.BadPattern at) e = cc
fault-is (why.PatternSize at) e = cc
fault-is (why.NoFunction name) e = cc
fault-is (why.NoData name) e = cc
fault-is (why.Mixed first other) e = cc
fault-is (why.BadData name kind) e = cc
fault-is (why.NoSource path) e = cc
fault-is why.ReadFault e = cc
fault-is why.WriteFault e = cc
fault-is why.ShelfFault e = refl
fault-is why.VaultFault e = cc
fault-is why.NoMemory e = cc
fault-is (why.Tests passed failed cut) e = absurd (ok_no_err e)
fault-is (why.ImportFailed file) e = cc

-- loading blames nobody but the shelf
some-is : {A : Type 0} {a b : A} → Some a ≡ Some b → a ≡ b
some-is e = cc

none-no-some : {A : Type 0} {a : A} → ◌≡◌ {A = Option A} None (Some a) → ⊥
none-no-some e = cc

reading-blames : (name : List ℕ) (passed : Option (LimitKind × ℕ)) (fault : Option (ℕ × SyntaxKind)) (r : Refusal) → refused_by name passed fault ≡ Some r → blame_of r ≡ None
reading-blames name (Some passed) fault r e = sym (ap blame_of (some-is e))
reading-blames name None None r e = absurd (none-no-some e)
reading-blames name None (Some fault) r e = sym (ap blame_of (some-is e))

file-blames : (modules total : ℕ) (path : Text) (file : Option (List ℕ)) (r : Refusal) → Refuses modules total path file r → blame_of r ≡ None
file-blames modules total path file r (absent none is) = ap blame_of is
file-blames modules total path file r (crowded bytes some many is) = ap blame_of is
file-blames modules total path file r (large bytes next many is) = ap blame_of is
file-blames modules total path file r (heavy bytes next small many is) = ap blame_of is
file-blames modules total path file r (unreadable bytes reading room reads is) = reading-blames (encode_utf8_all path) (limit_of reading) (fault_of reading) r is

unread-blames : {r : Refusal} → IsUnread r → (o : Object) → blame_of r ≡ Some o → o ≡ the_shelf
unread-blames faulted o e = sym (some-is e)
unread-blames starved o e = absurd (none-no-some e)

loads-blames : {H : Type 0} (moves : H → List ℕ → ℕ → Result (List ℕ) ShelfError → H → Type 0) (old new : H) (script name : Text) (r : Refusal)
    → Loads moves old script name (Err r) new → (o : Object) → blame_of r ≡ Some o → o ≡ the_shelf
loads-blames moves old new script name r loads o e = of (loads.comes loads.some.0 loads.some.1)
  where
    of : ComesTo loads.some.0 script name (names_read loads.made) (Err r) → o ≡ the_shelf
    of (inl s) = absurd (none-no-some (sym (file-blames _ _ s.stop.path _ r s.stop.refuses) ∙ e))
    of (inr s) = unread-blames s.unread o e

pub opens-so : {H : Type 0} (shelf : ShelfOf H) (old new : H) (name : Text) (script : List ℕ) (result : Result Loaded Why)
    → (shelf.tells → AnsweredAs loaded_modules result (LoadsTo (told_by (shelf.files old) (chars script)) (chars script) name))
    → AnsweredAs loaded_modules result (λ loading. Loads shelf.reads old (chars script) name loading new)
    → (IsErrOf result why.ShelfFault → EndsFailed shelf.reads old (chars script) name new)
    → (IsErrOf result why.ShelfFault → Rose (shelf.faults old) (shelf.faults new))
    → shelf.faults old ≤ shelf.faults new
    → (shelf.tells → shelf.files new ≡ shelf.files old)
    → Follows (on_shelf shelf) IsNoMemory (opened name script) old (seen loaded_modules result) new
opens-so shelf old new name script (Ok l) told loads ended fault count kept =
    asks (Ok (loaded_modules l)) new (record { moved = loads; told = told; kept = kept; blames = λ o e. absurd (none-no-some e); ends = λ e. absurd (ok_no_err e); count = count; failed = λ e. absurd (ok_no_err e) }) gives
opens-so shelf old new name script (Err w) told loads ended fault count kept =
    let s = refused-is w (λ r. Loads shelf.reads old (chars script) name (Err r) new) loads in
    let shelf_failed : ◌≡◌ {A = Result (List LoadedModule) Refusal} (Err s.0) (Err shelf_fault) → w ≡ why.ShelfFault = λ e. fault-is w (s.1 ∙ ap Err (err_is e)) in
    followed-so (on_shelf shelf) refl (sym (ap Err s.1))
    (asks (Err s.0) new (record {
      moved = s.2;
      told = λ t. refused-for w s.0 (λ r. LoadsTo (told_by (shelf.files old) (chars script)) (chars script) name (Err r)) s.1 (told t);
      kept = kept;
      blames = loads-blames shelf.reads old new (chars script) name s.0 s.2;
      ends = λ e. ended (ap Err (shelf_failed e));
      count = count;
      failed = λ e. fault (ap Err (shelf_failed e));
    }) refuses)

-- the first program is the script
first-is : (ps : List Program) (ms : List Module) (name script : Text) → 0 < length (loaded_pairs ps ms)
    → ((m : LoadedModule) → slice_get (loaded_pairs ps ms) 0 ≡ Some m → (m.name ≡ name) × (m.path ≡ script)) → first_path ps ≡ script
first-is [] ms name script some first = absurd (omega (arith, some))
first-is (p ∷ ps) [] name script some first = absurd (omega (arith, some))
first-is (p ∷ ps) (m ∷ ms) name script some first = (first (loaded_module p m) refl).1

pub script-is : {H : Type 0} (moves : H → List ℕ → ℕ → Result (List ℕ) ShelfError → H → Type 0) (old new : H) (script name : Text) (l : Loaded)
    → Loads moves old script name (Ok (loaded_modules l)) new → path_of l.programs ≡ script
script-is moves old new script name l loads =
    let loaded = (loads.comes loads.some.0 loads.some.1).0 in
    first-is l.programs.modules.items l.modules.items name script loaded.some loaded.loaded.first

-- ---- what is known of a loaded program

pub measurable-so : {H : Type 0} (moves : H → List ℕ → ℕ → Result (List ℕ) ShelfError → H → Type 0) (old new : H) (script name : Text) (result : Result Loaded Why) → LoadedHaveTextLines moves → LoadedLaw
    → IfOk result (λ l. IsCompiled l) → AnsweredAs loaded_modules result (λ loading. Loads moves old script name loading new) → IfOk result IsMeasurable
measurable-so moves old new script name (Ok l) lines law compiled loads = law l compiled (lines old new script name (loaded_modules l) loads)
measurable-so moves old new script name (Err w) lines law compiled loads = tt

pub script-so : {H : Type 0} (moves : H → List ℕ → ℕ → Result (List ℕ) ShelfError → H → Type 0) (old new : H) (script name : Text) (result : Result Loaded Why)
    → AnsweredAs loaded_modules result (λ loading. Loads moves old script name loading new) → IfOk result (λ l. path_of l.programs ≡ script)
script-so moves old new script name (Ok l) loads = script-is moves old new script name l loads
script-so moves old new script name (Err w) loads = tt

pub regular-so : {H : Type 0} (moves : H → List ℕ → ℕ → Result (List ℕ) ShelfError → H → Type 0) (old new : H) (script name : Text) (result : Result Loaded Why) → LoadedAreRegular moves
    → AnsweredAs loaded_modules result (λ loading. Loads moves old script name loading new) → IfOk result (λ l. AreRegular (loaded_modules l))
regular-so moves old new script name (Ok l) law loads = law old new script name (loaded_modules l) loads
regular-so moves old new script name (Err w) law loads = tt
