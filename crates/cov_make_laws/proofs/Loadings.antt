-- Loading a source comes to its module alone.
use Rattle.std.proofs.Common.{◌≡◌, ◌⊎◌, inl, inr, ℕ, ◌<◌, ◌≤◌, List, [], ◌∷◌, length, Option, Some, None, Result, Ok, Err, refl, arith, ap, sym, ◌∙◌}
use Rattle.std.specs.Prelude.{option_map, encode_utf8_all}
use Rattle.cov_make.specs.Source.{source}
use Rattle.py_token.specs.Spelling.{OneSpelling, NeverBoth}
use Rattle.py_parse.specs.Refusal.{OneTree}
use Rattle.py_syntax.specs.Tree.{Text, Stmts}
use Rattle.py_meaning.specs.Loading.{imported, folder_of, file_of}
use Rattle.py_meaning.specs.Modules.{LoadedModule}
use Rattle.cov_why.specs.Answers.{Refusal}
use Rattle.cov_run.specs.Reading.{Reading, tree, unread, Reads}
use Rattle.cov_run.specs.Refusals.{Refuses, absent, crowded, large, heavy, unreadable, refusal_of, IsStopped, next_file}
use Rattle.cov_run.specs.Loading.{Told, AreLoaded, IsLoaded, IsRead, wanted, most_bytes, total_bytes, content_at}
use Rattle.cov_make_laws.specs.Trees.{made_tree}
use Rattle.cov_make_laws.specs.Loadings.{module_alone, MadeAreLoaded}
use Rattle.cov_make_laws.proofs.Characters.{source_length}
use Rattle.cov_make_laws.proofs.Imports.{tree_no_imported}
use Rattle.cov_make_laws.proofs.Readings.{IsTreeOf, Comes, comes}

-- ---- what the file holds

same_bytes : (file : Option (List ℕ)) (a b : List ℕ) → file ≡ Some a → file ≡ Some b → b ≡ a
same_bytes file a b h k = cc

no_file : (file : Option (List ℕ)) (bytes : List ℕ) → file ≡ Some bytes → file ≡ None → ⊥
no_file file bytes h k = cc

moved : (a b : List ℕ) → b ≡ a → (r : Reading) → Reads b r → Reads a r
moved a b e r h = rw (sym e) h

of_bytes : (seed size : ℕ) → Comes seed size → (file : Option (List ℕ)) (bytes : List ℕ)
    → file ≡ Some (source seed size) → file ≡ Some bytes → (r : Reading) → Reads bytes r
    → IsTreeOf seed size r
of_bytes seed size all file bytes h k r reads =
    all r
    (moved (source seed size) bytes (same_bytes file (source seed size) bytes h k) r reads)

body_of : (m t : Stmts) → (tree m ≡ tree t) ⊎ (tree m ≡ unread) → m ≡ t
body_of m t (inl e) = cc
body_of m t (inr e) = cc

read_body : (seed size : ℕ) → Comes seed size → (file : Option (List ℕ))
    → file ≡ Some (source seed size) → (m : LoadedModule) → IsRead file m
    → m.body ≡ made_tree seed size
read_body seed size all file h m read =
    body_of m.body (made_tree seed size)
    (of_bytes seed size all file read.bytes h read.there (tree m.body) read.read)

-- ---- the first module is the source's, and none comes after it

none_wanted : (told : Told) (script : Text) (m : LoadedModule) → imported m.body ≡ []
    → wanted told.modules (folder_of script) (m ∷ []) ≡ None
none_wanted told script m e = rw e refl

differ : (o : Option Text) (x : Text) → o ≡ None → o ≡ Some x → ⊥
differ o x h k = cc

is_module : (name script : Text) (t : Stmts) (m : LoadedModule) → m.name ≡ name
    → m.path ≡ script → m.body ≡ t → m ≡ record { name = name; path = script; body = t }
is_module name script t m h k e = rw (sym h, sym k, sym e) refl

module _ (seed size : ℕ) (all : Comes seed size) (told : Told) (script name : Text)
    (is : told.script ≡ Some (source seed size)) where
  the_body : (m : LoadedModule) (ms : List LoadedModule) → AreLoaded told script name (m ∷ ms)
      → m.body ≡ made_tree seed size
  the_body m ms loaded = read_body seed size all told.script is m (loaded.read 0 m refl)

  none_after : (m : LoadedModule) (ms : List LoadedModule) → AreLoaded told script name (m ∷ ms)
      → wanted told.modules (folder_of script) (m ∷ []) ≡ None
  none_after m ms loaded =
      none_wanted told script m
      (ap imported (the_body m ms loaded) ∙ tree_no_imported seed size)

  no_second : (m n : LoadedModule) (ms : List LoadedModule)
      → AreLoaded told script name (m ∷ n ∷ ms) → ⊥
  no_second m n ms loaded =
      differ (wanted told.modules (folder_of script) (m ∷ [])) n.name
      (none_after m (n ∷ ms) loaded) (loaded.next 0 n refl).0

  program_is : (ms : List LoadedModule) → IsLoaded told script name ms
      → ms ≡ module_alone name script seed size
  program_is [] loaded = absurd (omega (arith, loaded.some))
  program_is (m ∷ []) loaded =
      let first = loaded.loaded.first m refl in
      ap (λ m. m ∷ [])
      (is_module name script (made_tree seed size) m first.0 first.1
      (the_body m [] loaded.loaded))
  program_is (m ∷ n ∷ ms) loaded = absurd (no_second m n ms loaded.loaded)

-- ---- no check refuses it

none_refused : (name : List ℕ) (t : Stmts) (r : Reading) (w : Refusal)
    → (r ≡ tree t) ⊎ (r ≡ unread) → refusal_of name r ≡ Some w → ⊥
none_refused name t r w (inl e) h = fails (ap (refusal_of name) e) h
  where
    fails : {o : Option Refusal} → o ≡ None → o ≡ Some w → ⊥
    fails h k = cc
none_refused name t r w (inr e) h = fails (ap (refusal_of name) e) h
  where
    fails : {o : Option Refusal} → o ≡ None → o ≡ Some w → ⊥
    fails h k = cc

module _ (seed size : ℕ) (low : size ≤ 16000) (all : Comes seed size) where
  short_file : (file : Option (List ℕ)) (bytes : List ℕ) → file ≡ Some (source seed size)
      → file ≡ Some bytes → length bytes ≤ 960015
  short_file file bytes h k =
      omega (
        arith,
        low,
        source_length seed size,
        ap length (same_bytes file (source seed size) bytes h k),
      )

  first_refused : (path : Text) (file : Option (List ℕ)) → file ≡ Some (source seed size)
      → (r : Refusal) → Refuses 0 0 path file r → ⊥
  first_refused path file is r (absent none e) = no_file file (source seed size) is none
  first_refused path file is r (crowded bytes there many e) = absurd (omega (arith, many))
  first_refused path file is r (large bytes next many e) =
      absurd (omega (arith, many, short_file file bytes is next.there))
  first_refused path file is r (heavy bytes next few many e) =
      absurd (omega (arith, many, short_file file bytes is next.there))
  first_refused path file is r (unreadable bytes reading room reads e) =
      none_refused (encode_utf8_all path) (made_tree seed size) reading r
      (of_bytes seed size all file bytes is room.next.there reading reads) e

none_next : (f : Text → Text) (o : Option Text) (path : Text) → o ≡ None
    → option_map f o ≡ Some path → ⊥
none_next f o path h k = differ (option_map f o) path (ap (option_map f) h) k

module _ (seed size : ℕ) (low : size ≤ 16000) (all : Comes seed size) (told : Told)
    (script name : Text) (is : told.script ≡ Some (source seed size)) where
  never_stopped : (r : Refusal) (ms : List LoadedModule) (path : Text)
      → AreLoaded told script name ms → next_file told.modules script ms ≡ Some path
      → Refuses (length ms) (total_bytes told ms) path (content_at told (length ms) path) r → ⊥
  never_stopped r [] path loaded next refuses =
      first_refused seed size low all path told.script is r refuses
  never_stopped r (m ∷ []) path loaded next refuses =
      none_next (file_of (folder_of script)) (wanted told.modules (folder_of script) (m ∷ []))
      path (none_after seed size all told script name is m [] loaded) next
  never_stopped r (m ∷ n ∷ ms) path loaded next refuses =
      no_second seed size all told script name is m n ms loaded

pub made_loaded : OneSpelling → NeverBoth → OneTree → MadeAreLoaded
made_loaded one_list never one_module told script name seed size (Ok ms) low is loaded =
    program_is seed size (comes one_list never one_module seed size low) told script name is ms
    loaded
made_loaded one_list never one_module told script name seed size (Err r) low is (inl stop) =
    absurd (never_stopped seed size low (comes one_list never one_module seed size low) told
    script name is r stop.ms stop.path stop.loaded stop.next stop.refuses)
made_loaded one_list never one_module told script name seed size (Err r) low is (inr u) = u
