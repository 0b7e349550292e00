-- A source that was loaded from the shelf that holds it alone.
use Rattle.std.proofs.Common.{◌≡◌, inl, inr, ℕ, ◌≤◌, true, Bool, if◌then◌else◌, List, [], ◌∷◌, Option, Some, None, Result, Ok, Err, IsErrOf, String, string_bytes, refl, sym, ap, subst, ◌∙◌}
use Rattle.std.specs.Prelude.{codes, encode_utf8_all, IfOk}
use Rattle.std.specs.declared.alloc.Global.{Global}
use Rattle.std.specs.Str.{IsUtf8, bytes_eq, chars}
use Rattle.std.proofs.lemmas.Slice.Eq.{bytes_eq-Decides}
use Rattle.std.proofs.lemmas.Str.{encodes-chars, IsUtf8-from_ascii}
use Rattle.cov_analysis.specs.Lines.{IsOfText}
use Rattle.cov_make.specs.Source.{source}
use Rattle.cov_make_laws.specs.Loadings.{MadeAreLoaded, module_alone}
use Rattle.cov_make_laws.specs.Trees.{made_tree}
use Rattle.cov_make_laws.proofs.Characters.{is_ascii}
use Rattle.cov_loaded_laws.specs.Loaded.{LoadedHaveTextLines, LoadedLaw}
use Rattle.cov_outside.specs.Counts.{Rose}
use Rattle.cov_outside.specs.Files.{Files, with_file}
use Rattle.cov_outside.specs.declared.shelf.ShelfError.{ShelfError}
use Rattle.cov_programs.specs.Ends.{Follows}
use Rattle.cov_programs.proofs.Composing.{asks, followed-so, gives, starves}
use Rattle.cov_programs.proofs.Results.{ok_no_err}
use Rattle.cov_run.specs.Loading.{IsRead, Told}
use Rattle.cov_run.specs.Loads.{IsCompiled, IsUnread, faulted, starved, Loads, LoadsTo, loaded_modules}
use Rattle.cov_run.specs.Reading.{Reads, tree}
use Rattle.cov_run.specs.declared.programs.Loaded.{Loaded}
use Rattle.cov_step.specs.Calls.{IsNoMemory, PlainSource}
use Rattle.cov_step.specs.Making.{made_path}
use Rattle.cov_streams.specs.Trials.{on_trial}
use Rattle.cov_why.specs.Answers.{Refusal, no_memory, plain_why, AnsweredAs, RefusedAs, shelf_fault}
use Rattle.cov_why.specs.declared.why.Why.{Why}
use Rattle.cov_why.specs.declared.why.Why.TheVariants as why
use Rattle.cov_why.proofs.Refusing.{refused-is}
use Rattle.py_meaning.specs.Modules.{body_of}
use Rattle.py_syntax.specs.Tree.{Stmts, Text}
use Rattle.cov_made.specs.Rests.{sourced}
use Rattle.cov_made.specs.Sources.{IsMade, IsSourced, IsWithText}
use Rattle.cov_made.specs.Views.{IsOneModule, source_view}
use Rattle.cov_made.specs.declared.sources.MadeSource.{MadeSource}
use Rattle.cov_made.proofs.Running.{no-rise}

-- ---- the file

-- what was put is there
pub is-put : (name bytes : List ℕ) (before files : Files) → IsUtf8 name
    → files ≡ with_file name bytes before → files (encode_utf8_all (chars name)) ≡ Some bytes
is-put name bytes before files u is =
    let same : bytes_eq name (encode_utf8_all (chars name)) ≡ true =
    (bytes_eq-Decides name (encode_utf8_all (chars name))).1 (sym (encodes-chars name u)) in
    ap (λ f. f (encode_utf8_all (chars name))) is
    ∙ found (bytes_eq name (encode_utf8_all (chars name))) same
  where
    found : (b : Bool) → b ≡ true
        → (if b then Some bytes else before (encode_utf8_all (chars name))) ≡ Some bytes
    found b e = rw e refl

same-bytes : (file : Option (List ℕ)) (a b : List ℕ) → file ≡ Some a → file ≡ Some b → b ≡ a
same-bytes file a b h k = cc

moved : (a b : List ℕ) (t : Stmts) → b ≡ a → Reads b (tree t) → Reads a (tree t)
moved a b t e h = subst (λ bytes. Reads bytes (tree t)) e h

-- the bytes are read as the tree
reads-file : (bytes : List ℕ) (t : Stmts) (name path : Text) (file : Option (List ℕ))
    → file ≡ Some bytes → IsRead file (record { name = name; path = path; body = t })
    → Reads bytes (tree t)
reads-file bytes t name path file is read =
    moved bytes read.bytes t (same-bytes file bytes read.bytes is read.there) read.read

-- ---- a program

abbrev source-of : List ℕ → List ℕ → Stmts → PlainSource
source-of path text body = record { path = path; text = text; body = body }

source-is : (path text also : List ℕ) (body same : Stmts) → text ≡ also → body ≡ same
    → source-of path text body ≡ source-of path also same
source-is path text also body same is too =
    ap (λ t. source-of path t body) is ∙ ap (source-of path also) too

module _ (law : MadeAreLoaded) (seed size : ℕ) (low : size ≤ 16000) (told : Told)
    (is : told.script ≡ Some (source seed size)) where
  abbrev script : Text
  script = chars made_path

  module _ (name : Text) (s : MadeSource)
      (loads : LoadsTo told script name (Ok (loaded_modules s.loaded))) where
    -- its module is the source's
    alone : loaded_modules s.loaded ≡ module_alone name script seed size
    alone = law told script name seed size (Ok (loaded_modules s.loaded)) low is loads

    body-is : (source_view s).body ≡ made_tree seed size
    body-is = ap (λ ms. body_of ms 0) alone

    reads : Reads (source seed size) (tree (made_tree seed size))
    reads =
        let here = subst (λ ms. LoadsTo told script name (Ok ms)) alone loads in
        reads-file (source seed size) (made_tree seed size) name script told.script is
        (here.loaded.read 0 _ refl)

    pub of-text : IsOfText (source_view s).body
    of-text =
        subst IsOfText (sym body-is) (record {
          tokens = reads.0.tokens;
          on_lines = reads.0.read.on_lines;
          spelled = reads.0.spelled;
        })

    pub follows : source seed size ≡ (source_view s).text
        → Follows on_trial IsNoMemory (sourced seed size) tt (Ok (source_view s)) tt
    follows text =
        followed-so on_trial refl
        (ap Ok (source-is made_path _ _ _ _ text (sym body-is)))
        (asks (tree (made_tree seed size)) tt (record { read = reads; same = refl }) gives)

  pub one : (s : MadeSource)
      → LoadsTo told script (chars (codes "__main__")) (Ok (loaded_modules s.loaded))
      → IsOneModule s
  one s loads =
      let name = chars (codes "__main__") in
      alone name s loads
      ∙ ap (λ b. record { name = name; path = script; body = b } ∷ []) (sym (body-is name s loads))

-- ---- a refusal

fault-is : (w : Why) → plain_why w ≡ Err shelf_fault → w ≡ why.ShelfFault
fault-is why.Done e = absurd (ok_no_err e)
fault-is (why.Program status) e = absurd (ok_no_err e)
fault-is (why.Budget steps) e = absurd (ok_no_err e)
fault-is (why.Under covered all) e = absurd (ok_no_err e)
fault-is (why.Usage words) e = cc
fault-is (why.NoSuchFile name) e = cc
fault-is (why.Syntax file line kind) e = cc
fault-is (why.Limit kind n) e = cc
fault-is (why.BadConfig key) e = cc
fault-is (why.BadPattern at) e = cc
fault-is (why.PatternSize at) e = cc
fault-is (why.NoFunction name) e = cc
fault-is (why.NoData name) e = cc
fault-is (why.Mixed first other) e = cc
fault-is (why.BadData name kind) e = cc
fault-is (why.NoSource path) e = cc
fault-is why.ReadFault e = cc
fault-is why.WriteFault e = cc
fault-is why.ShelfFault e = refl
fault-is why.VaultFault e = cc
fault-is why.NoMemory e = cc
fault-is (why.Tests passed failed cut) e = absurd (ok_no_err e)
fault-is (why.ImportFailed file) e = cc

unread-is : (w : Why) (r : Refusal) → plain_why w ≡ Err r → IsUnread r
    → (w ≡ why.ShelfFault → ⊥) → plain_why w ≡ Err no_memory
unread-is w r e faulted sure = absurd (sure (fault-is w e))
unread-is w r e starved sure = e

-- a sure shelf refuses for want of memory alone
pub refused-so : MadeAreLoaded → (seed size : ℕ) → size ≤ 16000 → (told : Told)
    (script name : Text) → told.script ≡ Some (source seed size) → (w : Why)
    → RefusedAs w (λ r. LoadsTo told script name (Err r)) → (w ≡ why.ShelfFault → Rose 0 0)
    → Follows on_trial IsNoMemory (sourced seed size) tt (Err (plain_why w)) tt
refused-so law seed size low told script name is w refused fault =
    let s = refused-is w (λ r. LoadsTo told script name (Err r)) refused in
    starves tt (unread-is w s.0 s.1 (law told script name seed size (Err s.0) low is s.2)
    (λ e. no-rise (fault e)))

-- ---- what loading answers

module _ {H : Type 0} (moves : H → List ℕ → ℕ → Result (List ℕ) ShelfError → H → Type 0)
    (old new : H) (law : MadeAreLoaded) (lines : LoadedHaveTextLines moves)
    (measured : LoadedLaw) (seed size : ℕ) (low : size ≤ 16000) (told : Told)
    (is : told.script ≡ Some (source seed size)) (text : String Global)
    (text_is : string_bytes text ≡ source seed size) where
  -- the name of its module
  abbrev main : Text
  main = chars (codes "__main__")

  abbrev of_loaded : Loaded → MadeSource
  of_loaded l = record { text = text; loaded = l }

  pub sourced-so : (answer : Result Loaded Why)
      → AnsweredAs loaded_modules answer (LoadsTo told (chars made_path) main)
      → AnsweredAs loaded_modules answer (λ loading.
      Loads moves old (chars made_path) main loading new)
      → IfOk answer IsCompiled → (IsErrOf answer why.ShelfFault → Rose 0 0)
      → (result : Result MadeSource Why) → IsWithText text answer result
      → IsSourced seed size result
  sourced-so (Ok l) comes loads compiled fault (Ok s) same =
      subst (λ s. IsSourced seed size (Ok s)) (sym same) (record {
        follows = follows law seed size low told is main (of_loaded l) comes (sym text_is);
        made = record {
          measurable =
              measured l compiled
              (lines old new (chars made_path) main (loaded_modules l) loads);
          one = one law seed size low told is (of_loaded l) comes;
          of_text = of-text law seed size low told is main (of_loaded l) comes;
        };
      })
  sourced-so (Ok l) comes loads compiled fault (Err v) same = absurd same
  sourced-so (Err w) comes loads compiled fault (Ok s) same = absurd same
  sourced-so (Err w) comes loads compiled fault (Err v) same =
      subst (λ v. IsSourced seed size (Err v)) (sym same) (record {
        follows =
            refused-so law seed size low told (chars made_path) main is w comes
            (λ e. fault (ap Err e));
        made = tt;
      })

-- memory is wanting before that
pub wanting : (seed size : ℕ) → IsSourced seed size (Err why.NoMemory)
wanting seed size = record { follows = starves tt refl; made = tt }

-- the name of the file is a text
pub path-utf8 : IsUtf8 made_path
path-utf8 = IsUtf8-from_ascii made_path (is_ascii made_path refl)
