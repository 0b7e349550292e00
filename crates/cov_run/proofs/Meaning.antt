-- The loaded modules are those that the meaning of the language loads from the trees of their files.
use Rattle.std.proofs.Common.{◌≡◌, inl, inr, ℕ, zero, suc, ◌+◌, ◌<◌, ◌≤◌, Bool, true, false, not, ◌&&◌, ◌||◌, if◌then◌else◌, List, [], ◌∷◌, ◌++◌, length, take, Option, Some, None, refl, sym, ap, ◌∙◌, subst, arith, append_assoc, append-nil}
use Rattle.std.specs.Prelude.{codes}
use Rattle.std.specs.List.{slice_get, find}
use Rattle.std.proofs.lemmas.Bool.{false≢true, or_parts, and_from, cases_lt}
use Rattle.std.proofs.lemmas.Option.{slice_get_past}
use Rattle.cov_outside.specs.Files.{Files}
use Rattle.py_text.specs.Comparison.{is_same_text}
use Rattle.py_text.proofs.SameTexts.{same_text, text_is_same}
use Rattle.py_syntax.specs.Names.{is_among}
use Rattle.py_syntax.specs.Tree.{Text, Stmts}
use Rattle.py_meaning.specs.Loading.{Files as Trees, file_at, imported, folder_of, file_of, is_loaded, put_module, with_imports, on_module, load_from, loaded}
use Rattle.py_meaning.specs.Modules.{LoadedModule}
use Rattle.cov_run.specs.Reading.{tree, Reads}
use Rattle.cov_run.specs.Loading.{file_bytes, is_there, all_imported, has_file, is_wanted, wanted, told_by, trees_of, program_of, IsRead, IsLoaded}
use Rattle.cov_run.proofs.Lists.{get-within, take-next, take-all, among-more, find-none, find-next}
use Rattle.cov_run.proofs.Modules.{unwanted-before, unwanted-last, imported-more}

-- bytes come to one tree at most
abbrev pub OneReading : Type 0
OneReading = (bytes : List ℕ) (a b : Stmts) → Reads bytes (tree a) → Reads bytes (tree b) → a ≡ b

abbrev AreRead : Files → List LoadedModule → Type 0
AreRead files ms = (i : ℕ) (m : LoadedModule) → slice_get ms i ≡ Some m → IsRead (file_bytes files m.path) m

-- ---- files

some_same : {X : Type 0} (x y : X) → Some x ≡ Some y → x ≡ y
some_same {X} x y e = ap (λ o. elim o as (λ (o : Option X). X) [ None ↦ x | Some z ↦ z ]) e

none_some : {X : Type 0} {x : X} → None ≡ Some x → ⊥
none_some h = cc

-- a file that isn't there is none of theirs
file-none : (files : Files) (ms : List LoadedModule) (path : Text) → AreRead files ms → file_bytes files path ≡ None → file_at (trees_of ms) path ≡ None
unfolding file_at
file-none files [] path h absent = refl
file-none files (m ∷ ms) path h absent = by_first (is_same_text path m.path) refl (file-none files ms path (λ i n k. h (suc i) n k) absent)
  where
    by_first : (b : Bool) → is_same_text path m.path ≡ b → file_at (trees_of ms) path ≡ None → (if is_same_text path m.path then Some m.body else file_at (trees_of ms) path) ≡ None
    by_first true e others =
        let r = h 0 m refl in
        let there : file_bytes files path ≡ Some r.bytes = ap (file_bytes files) (same_text path m.path e) ∙ r.there in
        absurd (none_some (sym absent ∙ there))
    by_first false e others = ap (λ b. if b then Some m.body else file_at (trees_of ms) path) e ∙ others

-- a file of one of them has its tree
file-some : OneReading → (files : Files) (ms : List LoadedModule) (j : ℕ) (m : LoadedModule) → AreRead files ms → slice_get ms j ≡ Some m → file_at (trees_of ms) m.path ≡ Some m.body
unfolding file_at
file-some one files [] j m h k = cc
file-some one files (n ∷ ms) zero m h k =
    let e : n ≡ m = some_same n m k in
    subst (λ (q : LoadedModule). (if is_same_text m.path q.path then Some q.body else file_at (trees_of ms) m.path) ≡ Some m.body) (sym e) (ap (λ b. if b then Some m.body else file_at (trees_of ms) m.path) (text_is_same m.path))
file-some one files (n ∷ ms) (suc j) m h k = by_first (is_same_text m.path n.path) refl (file-some one files ms j m (λ i q l. h (suc i) q l) k)
  where
    by_first : (b : Bool) → is_same_text m.path n.path ≡ b → file_at (trees_of ms) m.path ≡ Some m.body → (if is_same_text m.path n.path then Some n.body else file_at (trees_of ms) m.path) ≡ Some m.body
    by_first true e others =
        let r = h 0 n refl in
        let s = h (suc j) m k in
        let same : s.bytes ≡ r.bytes = some_same s.bytes r.bytes (sym s.there ∙ ap (file_bytes files) (same_text m.path n.path e) ∙ r.there) in
        ap (λ b. if b then Some n.body else file_at (trees_of ms) m.path) e ∙ ap Some (one r.bytes n.body m.body r.read (subst (λ bytes. Reads bytes (tree m.body)) same s.read))
    by_first false e others = ap (λ b. if b then Some n.body else file_at (trees_of ms) m.path) e ∙ others

-- each module was read from its file
are-read : (files : Files) (script name : Text) (ms : List LoadedModule) → IsLoaded (told_by files script) script name ms → AreRead files ms
are-read files script name ms h zero m k = subst (λ (c : Option (List ℕ)). IsRead c m) (ap (file_bytes files) (sym (h.loaded.first m k).1)) (h.loaded.read 0 m k)
are-read files script name ms h (suc i) m k = h.loaded.read (suc i) m k

-- ---- one name

module_of : Text → Text → Stmts → LoadedModule
module_of x path body = record { name = x; path = path; body = body }

module-is : (m : LoadedModule) (x path : Text) → m.name ≡ x → m.path ≡ path → record { name = x; path = path; body = m.body } ≡ m
unfolding module_of
module-is m x path e f = sym (ap (λ n. module_of n m.path m.body) e ∙ ap (λ q. module_of x q m.body) f)

-- a name that isn't wanted adds no module
passed-over : (files : Files) (folder : Text) (all ms : List LoadedModule) (x : Text) (xs : List Text) → AreRead files all → is_wanted files folder ms x ≡ false
    → with_imports (trees_of all) folder ms (x ∷ xs) ≡ with_imports (trees_of all) folder ms xs
unfolding with_imports
passed-over files folder all ms x xs read h = by_test (is_same_text x (codes "sys") || is_loaded ms x) refl
  where
    absent : (o : Option (List ℕ)) → file_bytes files (file_of folder x) ≡ o → is_same_text x (codes "sys") ≡ false → is_loaded ms x ≡ false → file_at (trees_of all) (file_of folder x) ≡ None
    absent None e f g = file-none files all (file_of folder x) read e
    absent (Some bytes) e f g =
        let there : is_there (file_bytes files (file_of folder x)) ≡ true = ap is_there e in
        absurd (false≢true (sym h ∙ and_from (has_file files folder x) (not (is_loaded ms x)) (and_from (not (is_same_text x (codes "sys"))) (is_there (file_bytes files (file_of folder x))) (ap not f) there) (ap not g)))

    by_test : (b : Bool) → (is_same_text x (codes "sys") || is_loaded ms x) ≡ b
        → (if is_same_text x (codes "sys") || is_loaded ms x then with_imports (trees_of all) folder ms xs else with_imports (trees_of all) folder (put_module x (file_of folder x) ms (file_at (trees_of all) (file_of folder x))) xs) ≡ with_imports (trees_of all) folder ms xs
    by_test true e = ap (λ b. if b then with_imports (trees_of all) folder ms xs else with_imports (trees_of all) folder (put_module x (file_of folder x) ms (file_at (trees_of all) (file_of folder x))) xs) e
    by_test false e =
        let parts = or_parts (is_same_text x (codes "sys")) (is_loaded ms x) e in
        ap (λ b. if b then with_imports (trees_of all) folder ms xs else with_imports (trees_of all) folder (put_module x (file_of folder x) ms (file_at (trees_of all) (file_of folder x))) xs) e
        ∙ ap (λ o. with_imports (trees_of all) folder (put_module x (file_of folder x) ms o) xs) (absent (file_bytes files (file_of folder x)) refl parts.0 parts.1)

-- one that is wanted adds its own
taken : (files : Files) (folder : Text) (trees : Trees) (ms : List LoadedModule) (m : LoadedModule) (xs : List Text) → is_wanted files folder ms m.name ≡ true → file_at trees m.path ≡ Some m.body → m.path ≡ file_of folder m.name
    → with_imports trees folder ms (m.name ∷ xs) ≡ with_imports trees folder (ms ++ m ∷ []) xs
unfolding with_imports
taken files folder trees ms m xs h there lies =
    ap (λ b. if b then with_imports trees folder ms xs else with_imports trees folder (put_module m.name (file_of folder m.name) ms (file_at trees (file_of folder m.name))) xs) (untested (is_same_text m.name (codes "sys")) (is_there (file_bytes files (file_of folder m.name))) (is_loaded ms m.name) h)
    ∙ ap (λ o. with_imports trees folder (put_module m.name (file_of folder m.name) ms o) xs) (ap (file_at trees) (sym lies) ∙ there)
    ∙ ap (λ (n : LoadedModule). with_imports trees folder (ms ++ n ∷ []) xs) (module-is m m.name (file_of folder m.name) refl lies)
  where
    untested : (a b c : Bool) → ((not a && b) && not c) ≡ true → (a || c) ≡ false
    untested true b c e = absurd (false≢true e)
    untested false true false e = refl
    untested false true true e = absurd (false≢true e)
    untested false false c e = absurd (false≢true e)

-- ---- the names of a module

-- what is told of the modules so far: the names before are settled, and so many of the modules are loaded
record Settled (files : Files) (folder : Text) (ms : List LoadedModule) (done : List Text) (j : ℕ) : Type 0 where
  pub some : 1 ≤ j
  pub within : j ≤ length ms
  pub settled : (y : Text) → is_among done y ≡ true → is_wanted files folder (take j ms) y ≡ false

record Comes (files : Files) (folder : Text) (ms : List LoadedModule) (done : List Text) (j : ℕ) (got : List LoadedModule) : Type 0 where
  pub k : ℕ
  pub more : j ≤ k
  pub is : got ≡ take k ms
  pub at : Settled files folder ms done k

-- the module of a wanted name is the next
the-next : (files : Files) (script name : Text) (ms : List LoadedModule) (j : ℕ) (x : Text) → IsLoaded (told_by files script) script name ms → 1 ≤ j → wanted files (folder_of script) (take j ms) ≡ Some x
    → (m : LoadedModule) × (slice_get ms j ≡ Some m) × (m.name ≡ x) × (m.path ≡ file_of (folder_of script) m.name)
the-next files script name ms zero x h some w = absurd (omega arith)
the-next files script name ms (suc i) x h some w = by_place (slice_get ms (suc i)) refl
  where
    past : (ms : List LoadedModule) (i : ℕ) → slice_get ms i ≡ None → length ms ≤ i
    past [] i e = omega arith
    past (m ∷ ms) zero e = cc
    past (m ∷ ms) (suc i) e = let l = past ms i e in omega arith

    by_place : (o : Option LoadedModule) → slice_get ms (suc i) ≡ o → (m : LoadedModule) × (slice_get ms (suc i) ≡ Some m) × (m.name ≡ x) × (m.path ≡ file_of (folder_of script) m.name)
    by_place (Some m) e = let n = h.loaded.next i m e in (m, e, some_same m.name x (sym n.0 ∙ w), n.1)
    by_place None e =
        absurd (none_some (sym h.all ∙ ap (wanted files (folder_of script)) (sym (take-all ms (suc i) (past ms (suc i) e))) ∙ w))

names-loaded : OneReading → (files : Files) (script name : Text) (ms : List LoadedModule) → IsLoaded (told_by files script) script name ms → (xs done rest : List Text) (j : ℕ) → Settled files (folder_of script) ms done j
    → all_imported (take j ms) ≡ done ++ (xs ++ rest) → Comes files (folder_of script) ms (done ++ xs) j (with_imports (trees_of ms) (folder_of script) (take j ms) xs)
unfolding with_imports
names-loaded one files script name ms h [] done rest j s e =
    record { k = j; more = omega arith; is = refl; at = subst (λ d. Settled files (folder_of script) ms d j) (sym (append-nil done)) s }
names-loaded one files script name ms h (x ∷ xs) done rest j s e =
    by_test (is_wanted files (folder_of script) (take j ms) x) refl
    (λ t f. names-loaded one files script name ms h xs (done ++ x ∷ []) rest j t f)
    (λ r t f. names-loaded one files script name ms h xs (done ++ x ∷ []) r (suc j) t f)
  where
    same : (k : ℕ) (got want : List LoadedModule) → k ≤ suc j → j ≤ k → want ≡ got → Comes files (folder_of script) ms ((done ++ x ∷ []) ++ xs) k got → Comes files (folder_of script) ms (done ++ (x ∷ xs)) j want
    same k got want high low q c =
        let more = c.more in
        record { k = c.k; more = omega arith; is = q ∙ c.is; at = subst (λ d. Settled files (folder_of script) ms d c.k) (append_assoc done (x ∷ []) xs) c.at }

    five : (done : List Text) (x : Text) (xs rest more : List Text) → (done ++ (x ∷ (xs ++ rest))) ++ more ≡ (done ++ x ∷ []) ++ (xs ++ (rest ++ more))
    five done x xs rest more = append_assoc done (x ∷ (xs ++ rest)) more ∙ ap (λ t. done ++ (x ∷ t)) (append_assoc xs rest more) ∙ sym (append_assoc done (x ∷ []) (xs ++ (rest ++ more)))

    nonempty : (ms : List LoadedModule) (j : ℕ) → 1 ≤ j → j ≤ length ms → 0 < length (take j ms)
    nonempty ms zero l k = absurd (omega arith)
    nonempty [] (suc j) l k = absurd (omega arith)
    nonempty (m ∷ ms) (suc j) l k = omega arith

    by_test : (b : Bool) → is_wanted files (folder_of script) (take j ms) x ≡ b
        → (Settled files (folder_of script) ms (done ++ x ∷ []) j → all_imported (take j ms) ≡ (done ++ x ∷ []) ++ (xs ++ rest) → Comes files (folder_of script) ms ((done ++ x ∷ []) ++ xs) j (with_imports (trees_of ms) (folder_of script) (take j ms) xs))
        → ((r : List Text) → Settled files (folder_of script) ms (done ++ x ∷ []) (suc j) → all_imported (take (suc j) ms) ≡ (done ++ x ∷ []) ++ (xs ++ r) → Comes files (folder_of script) ms ((done ++ x ∷ []) ++ xs) (suc j) (with_imports (trees_of ms) (folder_of script) (take (suc j) ms) xs))
        → Comes files (folder_of script) ms (done ++ (x ∷ xs)) j (with_imports (trees_of ms) (folder_of script) (take j ms) (x ∷ xs))
    by_test false w stay go =
        same j (with_imports (trees_of ms) (folder_of script) (take j ms) xs) (with_imports (trees_of ms) (folder_of script) (take j ms) (x ∷ xs)) (omega arith) (omega arith) (passed-over files (folder_of script) ms (take j ms) x xs (are-read files script name ms h) w)
        (stay (record {
          some = s.some;
          within = s.within;
          settled = λ y q. elim (among-more done x y q) [ inl p ↦ s.settled y p | inr p ↦ ap (is_wanted files (folder_of script) (take j ms)) p ∙ w ];
        }) (e ∙ sym (append_assoc done (x ∷ []) (xs ++ rest))))
    by_test true w stay go =
        let is_next : wanted files (folder_of script) (take j ms) ≡ Some x =
        ap (find (is_wanted files (folder_of script) (take j ms))) e ∙ find-next (is_wanted files (folder_of script) (take j ms)) done (xs ++ rest) x s.settled w in
        let n = the-next files script name ms j x h s.some is_next in
        let m = n.0 in
        let within = get-within ms n.0 j n.1 in
        let grown : take (suc j) ms ≡ take j ms ++ n.0 ∷ [] = take-next ms n.0 j n.1 in
        let wants : is_wanted files (folder_of script) (take j ms) n.0.name ≡ true = ap (is_wanted files (folder_of script) (take j ms)) n.2 ∙ w in
        same (suc j) (with_imports (trees_of ms) (folder_of script) (take (suc j) ms) xs) (with_imports (trees_of ms) (folder_of script) (take j ms) (x ∷ xs)) (omega arith) (omega arith)
        (ap (λ y. with_imports (trees_of ms) (folder_of script) (take j ms) (y ∷ xs)) (sym n.2)
        ∙ taken files (folder_of script) (trees_of ms) (take j ms) n.0 xs wants (file-some one files ms j n.0 (are-read files script name ms h) n.1) n.3
        ∙ ap (λ ns. with_imports (trees_of ms) (folder_of script) ns xs) (sym grown))
        (go (rest ++ imported n.0.body) (record {
          some = omega arith;
          within = omega arith;
          settled = λ y q. ap (λ ns. is_wanted files (folder_of script) ns y) grown ∙ (elim (among-more done x y q) [
            | inl p ↦ unwanted-before files (folder_of script) (take j ms) n.0 y (s.settled y p)
            | inr p ↦ ap (is_wanted files (folder_of script) (take j ms ++ n.0 ∷ [])) (p ∙ sym n.2) ∙ unwanted-last files (folder_of script) (take j ms) n.0 (nonempty ms j s.some s.within)
          ]);
        }) (ap all_imported grown ∙ imported-more (take j ms) n.0 ∙ ap (λ t. t ++ imported n.0.body) e ∙ five done x xs rest (imported n.0.body)))

-- ---- all modules

front-imported : (ms : List LoadedModule) (k j : ℕ) → k ≤ j → (rest : List Text) × (all_imported (take j ms) ≡ all_imported (take k ms) ++ rest)
front-imported [] k j l = (all_imported (take j []), ends_empty k (all_imported (take j [])))
  where
    ends_empty : (k : ℕ) (xs : List Text) → xs ≡ all_imported (take k []) ++ xs
    ends_empty zero xs = refl
    ends_empty (suc k) xs = refl
front-imported (m ∷ ms) zero j l = (all_imported (take j (m ∷ ms)), refl)
front-imported (m ∷ ms) (suc k) zero l = absurd (omega arith)
front-imported (m ∷ ms) (suc k) (suc j) l =
    let r = front-imported ms k j (omega arith) in
    (r.0, ap (λ t. imported m.body ++ t) r.1 ∙ sym (append_assoc (imported m.body) (all_imported (take k ms)) r.0))

taken-front : (ms : List LoadedModule) (k j : ℕ) → k < j → slice_get (take j ms) k ≡ slice_get ms k
taken-front ms k zero l = absurd (omega arith)
taken-front [] k (suc j) l = refl
taken-front (m ∷ ms) zero (suc j) l = refl
taken-front (m ∷ ms) (suc k) (suc j) l = taken-front ms k j (omega arith)

short : (ms : List LoadedModule) (j : ℕ) → length (take j ms) ≤ j
short ms zero = omega arith
short [] (suc j) = omega arith
short (m ∷ ms) (suc j) = let l = short ms j in omega arith

has-place : (ms : List LoadedModule) (k : ℕ) → k < length ms → (m : LoadedModule) × (slice_get ms k ≡ Some m)
has-place [] k l = absurd (omega arith)
has-place (m ∷ ms) zero l = (m, refl)
has-place (m ∷ ms) (suc k) l = has-place ms k (omega arith)

-- nothing that they import is wanted any more, so they are all
all-there : (files : Files) (script name : Text) (ms : List LoadedModule) (j : ℕ) → IsLoaded (told_by files script) script name ms → 1 ≤ j → wanted files (folder_of script) (take j ms) ≡ None → take j ms ≡ ms
all-there files script name ms zero h some none = absurd (omega arith)
all-there files script name ms (suc i) h some none =
    elim (cases_lt (suc i) (length ms)) [
      | inl l ↦ let p = has-place ms (suc i) l in absurd (none_some (sym none ∙ (h.loaded.next i p.0 p.1).0))
      | inr l ↦ take-all ms (suc i) l
    ]

from-there : OneReading → (files : Files) (script name : Text) (ms : List LoadedModule) → IsLoaded (told_by files script) script name ms → (n k j : ℕ) → k ≤ j → length ms ≤ k + n
    → Settled files (folder_of script) ms (all_imported (take k ms)) j → load_from n (trees_of ms) (folder_of script) k (take j ms) ≡ ms
unfolding load_from
from-there one files script name ms h zero k j l fuel s = let w = s.within in take-all ms j (omega arith)
from-there one files script name ms h (suc n) k j l fuel s =
    elim (cases_lt k j) [
      | inl low ↦
          let w = s.within in
          let p = has-place ms k (omega arith) in
          let next : take (suc k) ms ≡ take k ms ++ p.0 ∷ [] = take-next ms p.0 k p.1 in
          let gathered : all_imported (take (suc k) ms) ≡ all_imported (take k ms) ++ imported p.0.body = ap all_imported next ∙ imported-more (take k ms) p.0 in
          let f = front-imported ms (suc k) j (omega arith) in
          let c = names-loaded one files script name ms h (imported p.0.body) (all_imported (take k ms)) f.0 j s (f.1 ∙ ap (λ t. t ++ f.0) gathered ∙ append_assoc (all_imported (take k ms)) (imported p.0.body) f.0) in
          let more = c.more in
          ap (λ o. on_module o (take j ms) (λ m. load_from n (trees_of ms) (folder_of script) (suc k) (with_imports (trees_of ms) (folder_of script) (take j ms) (imported m.body)))) (taken-front ms k j low ∙ p.1)
          ∙ ap (load_from n (trees_of ms) (folder_of script) (suc k)) c.is
          ∙ from-there one files script name ms h n (suc k) c.k (omega arith) (omega arith) (subst (λ d. Settled files (folder_of script) ms d c.k) (sym gathered) c.at)
      | inr high ↦
          let same : k ≡ j = omega arith in
          let is_short = short ms j in
          ap (λ o. on_module o (take j ms) (λ m. load_from n (trees_of ms) (folder_of script) (suc k) (with_imports (trees_of ms) (folder_of script) (take j ms) (imported m.body)))) (slice_get_past (take j ms) k (omega arith))
          ∙ all-there files script name ms j h s.some (ap (λ i. find (is_wanted files (folder_of script) (take j ms)) (all_imported (take i ms))) (sym same) ∙ find-none (is_wanted files (folder_of script) (take j ms)) (all_imported (take k ms)) s.settled)
    ]

trees-length : (ms : List LoadedModule) → length (trees_of ms) ≡ length ms
trees-length [] = refl
trees-length (m ∷ ms) = ap suc (trees-length ms)

pub loaded-from : OneReading → (files : Files) (script name : Text) (ms : List LoadedModule) → IsLoaded (told_by files script) script name ms → loaded (program_of script name ms) ≡ ms
loaded-from one files script name ms h =
    let p = has-place ms 0 h.some in
    let first = h.loaded.first p.0 p.1 in
    let there : file_at (trees_of ms) script ≡ Some p.0.body = ap (file_at (trees_of ms)) (sym first.1) ∙ file-some one files ms 0 p.0 (are-read files script name ms h) p.1 in
    let some = h.some in
    let l = trees-length ms in
    ap (λ o. load_from (suc (length (trees_of ms))) (trees_of ms) (folder_of script) 0 (put_module name script [] o)) there
    ∙ ap (λ (m : LoadedModule). load_from (suc (length (trees_of ms))) (trees_of ms) (folder_of script) 0 (m ∷ [])) (module-is p.0 name script first.0 first.1)
    ∙ ap (load_from (suc (length (trees_of ms))) (trees_of ms) (folder_of script) 0) (sym (take-next ms p.0 0 p.1))
    ∙ from-there one files script name ms h (suc (length (trees_of ms))) 0 1 (omega arith) (omega (arith, l)) (record { some = omega arith; within = omega arith; settled = λ y q. absurd (false≢true q) })
