-- Of two lists of modules in the order of loading one begins with the other.
use Rattle.std.proofs.Common.{◌≡◌, ⊎_elim, ℕ, zero, suc, ◌+◌, ◌<◌, ◌≤◌, List, [], ◌∷◌, ◌++◌, length, take, Option, Some, None, refl, sym, ap, ◌∙◌, subst, arith}
use Rattle.std.specs.Prelude.{option_map}
use Rattle.std.specs.List.{slice_get}
use Rattle.std.proofs.lemmas.List.{take-append-le}
use Rattle.std.proofs.lemmas.List.Sums.{sum_by-take-le}
use Rattle.py_syntax.specs.Tree.{Text, Stmts}
use Rattle.py_meaning.specs.Loading.{folder_of, file_of}
use Rattle.py_meaning.specs.Modules.{LoadedModule}
use Rattle.cov_run.specs.Reading.{HasTree}
use Rattle.cov_run.specs.Loading.{Told, file_bytes, content_at, size_of, total_bytes, wanted, IsRead, AreLoaded}
use Rattle.cov_run.specs.Refusals.{next_file}
use Rattle.cov_run.proofs.Lists.{get-append, get-within, get-front, take-next, take-whole, take-all}
use Rattle.cov_run.proofs.Modules.{bytes-more, bytes-script, content-later}
use Rattle.cov_run.proofs.Progressing.{wanted-after}
use Rattle.cov_load_laws.specs.Completeness.{AreChained}
use Rattle.cov_load_laws.specs.Texts.{OneText}
use Rattle.cov_load_laws.proofs.Readings.{same-tree}
use Rattle.cov_load_laws.proofs.Outcomes.{some-same}

-- ---- places

get-at : {X : Type 0} (xs : List X) (i : ℕ) → i < length xs → (x : X) × (slice_get xs i ≡ Some x)
get-at [] i h = absurd (omega (arith, h))
get-at (x ∷ xs) zero h = (x, refl)
get-at (x ∷ xs) (suc i) h = get-at xs i (omega (arith, h))

same-record :
    (a b p q : Text) (s t : Stmts) → a ≡ b → p ≡ q → s ≡ t
    → ◌≡◌ {A = LoadedModule} (record { name = a; path = p; body = s })
    (record { name = b; path = q; body = t })
same-record a b p q s t e f g = cc

same-module : (m n : LoadedModule) → m.name ≡ n.name → m.path ≡ n.path → m.body ≡ n.body → m ≡ n
same-module m n e f g = same-record m.name n.name m.path n.path m.body n.body e f g

-- ---- the next file

-- after all modules there is none
pub after-all :
    (told : Told) (script : Text) (ms : List LoadedModule) → 0 < length ms
    → wanted told.modules (folder_of script) ms ≡ None → next_file told.modules script ms ≡ None
after-all told script [] l e = absurd (omega (arith, l))
after-all told script (m ∷ ms) l e = ap (option_map (file_of (folder_of script))) e

-- ---- bytes

total-take :
    (told : Told) (ms : List LoadedModule) (k : ℕ)
    → total_bytes told (take k ms) ≤ total_bytes told ms
total-take told ms zero = omega arith
total-take told [] (suc k) = omega arith
total-take told (m ∷ ms) (suc k) =
    let l = sum_by-take-le (λ (n : LoadedModule). size_of (file_bytes told.modules n.path)) ms k in
    omega (arith, l)

total-more :
    (told : Told) (ms : List LoadedModule) (m : LoadedModule) (bytes : List ℕ)
    → content_at told (length ms) m.path ≡ Some bytes
    → total_bytes told (ms ++ m ∷ []) ≡ total_bytes told ms + length bytes
total-more told [] m bytes h = let e = bytes-script told m bytes h in omega (arith, e)
total-more told (n ∷ ms) m bytes h = bytes-more told (n ∷ ms) m bytes (omega arith) h

-- ---- chains

pub chained :
    (told : Told) (script name : Text) (ms : List LoadedModule)
    → AreLoaded told script name ms → AreChained told script name ms
chained told script name ms h = record { read = h.read; first = h.first; next = h.next }

pub chain-script :
    (told : Told) (script name : Text) (m : LoadedModule) → m.name ≡ name → m.path ≡ script
    → IsRead told.script m → AreChained told script name (m ∷ [])
chain-script told script name m called lies read = record {
  read = λ i n h. read_one i n h;
  first = λ n h.
      let e = some-same (Some m) n m h refl in
      (ap (λ (k : LoadedModule). k.name) e ∙ called, ap (λ (k : LoadedModule). k.path) e ∙ lies);
  next = λ i n h. cc;
}
  where
    read_one :
        (i : ℕ) (n : LoadedModule) → slice_get (m ∷ []) i ≡ Some n
        → IsRead (content_at told i n.path) n
    read_one zero n h = subst (IsRead told.script) (some-same (Some m) m n refl h) read
    read_one (suc i) n h = cc

-- the module that is wanted comes next
module _ (told : Told) (script name : Text) (ms : List LoadedModule) (m : LoadedModule) where
  read-more :
      AreChained told script name ms → 0 < length ms → IsRead (file_bytes told.modules m.path) m
      → (i : ℕ) (n : LoadedModule) → slice_get (ms ++ m ∷ []) i ≡ Some n
      → IsRead (content_at told i n.path) n
  read-more h some read i n k =
      ⊎_elim
      (λ e. h.read i n e)
      (λ e.
      let later = content-later told (length ms) n.path some in
      let at = ap (λ j. content_at told j n.path) e.0 ∙ later in
      subst (λ (c : Option (List ℕ)). IsRead c n) (sym at)
      (subst (λ (q : LoadedModule). IsRead (file_bytes told.modules q.path) q) e.1 read))
      (get-append ms m n i k)

  next-more :
      AreChained told script name ms → wanted told.modules (folder_of script) ms ≡ Some m.name
      → m.path ≡ file_of (folder_of script) m.name → (i : ℕ) (n : LoadedModule)
      → slice_get (ms ++ m ∷ []) (suc i) ≡ Some n
      → (wanted told.modules (folder_of script) (take (suc i) (ms ++ m ∷ [])) ≡ Some n.name)
      × (n.path ≡ file_of (folder_of script) n.name)
  next-more h next lies i n k =
      ⊎_elim
      (λ e.
      let w = get-within ms n (suc i) e in
      let old = h.next i n e in
      let front = take-append-le (suc i) ms (m ∷ []) (omega (arith, w)) in
      (ap (wanted told.modules (folder_of script)) front ∙ old.0, old.1))
      (λ e.
      let front = ap (λ j. take j (ms ++ m ∷ [])) e.0 ∙ take-whole ms (m ∷ []) in
      let name = ap (λ (k : LoadedModule). Some k.name) e.1 in
      let file = ap (λ (k : LoadedModule). file_of (folder_of script) k.name) e.1 in (
        ap (wanted told.modules (folder_of script)) front ∙ next ∙ name,
        ap (λ (k : LoadedModule). k.path) (sym e.1) ∙ lies ∙ file,
      ))
      (get-append ms m n (suc i) k)

  pub chain-more :
      AreChained told script name ms → 0 < length ms → IsRead (file_bytes told.modules m.path) m
      → wanted told.modules (folder_of script) ms ≡ Some m.name
      → m.path ≡ file_of (folder_of script) m.name → AreChained told script name (ms ++ m ∷ [])
  chain-more h some read next lies = record {
    read = λ i n k. read-more h some read i n k;
    first = λ n k. h.first n (sym (get-front ms (m ∷ []) 0 some) ∙ k);
    next = λ i n k. next-more h next lies i n k;
  }

-- ---- two chains

module _ (one : OneText) where
  same-body :
      (content : Option (List ℕ)) (m n : LoadedModule) → IsRead content m → IsRead content n
      → m.body ≡ n.body
  same-body content m n h k =
      let same = some-same content h.bytes k.bytes h.there k.there in
      same-tree one k.bytes m.body n.body (subst (λ b. HasTree b m.body) same h.read.0) k.read.0

module _ (one : OneText) (told : Told) (script name : Text) (ms ns : List LoadedModule)
    (a : AreChained told script name ms) (b : AreChained told script name ns) where
  -- after the same modules the same one is read
  same-next :
      (i : ℕ) (m n : LoadedModule) → take i ms ≡ take i ns → slice_get ms i ≡ Some m
      → slice_get ns i ≡ Some n → m ≡ n
  same-next zero m n e h k =
      let p = a.first m h in
      let q = b.first n k in
      same-module m n (p.0 ∙ sym q.0) (p.1 ∙ sym q.1)
      (same-body one told.script m n (a.read 0 m h) (b.read 0 n k))
  same-next (suc i) m n e h k =
      let p = a.next i m h in
      let q = b.next i n k in
      let next : Option Text = wanted told.modules (folder_of script) (take (suc i) ns) in
      let same = ap (wanted told.modules (folder_of script)) e in
      let named : m.name ≡ n.name = some-same next m.name n.name (sym same ∙ p.0) q.0 in
      let lies : m.path ≡ n.path = p.1 ∙ ap (file_of (folder_of script)) named ∙ sym q.1 in
      let read = subst (λ (x : Text). IsRead (file_bytes told.modules x) m) lies in
      same-module m n named lies
      (same-body one (file_bytes told.modules n.path) m n (read (a.read (suc i) m h))
      (b.read (suc i) n k))

  same-fronts : (i : ℕ) → i ≤ length ms → i ≤ length ns → take i ms ≡ take i ns
  same-fronts zero h k = refl
  same-fronts (suc i) h k =
      let m = get-at ms i (omega (arith, h)) in
      let n = get-at ns i (omega (arith, k)) in
      let before = same-fronts i (omega (arith, h)) (omega (arith, k)) in
      let last = same-next i m.0 n.0 before m.1 n.1 in
      take-next ms m.0 i m.1 ∙ ap (λ t. t ++ m.0 ∷ []) before
      ∙ ap (λ (x : LoadedModule). take i ns ++ x ∷ []) last ∙ sym (take-next ns n.0 i n.1)

  pub front-is : length ms ≤ length ns → take (length ms) ns ≡ ms
  front-is h =
      sym (same-fronts (length ms) (omega arith) h) ∙ take-all ms (length ms) (omega arith)

  pub same-whole : length ms ≡ length ns → ms ≡ ns
  same-whole e =
      sym (front-is (omega (arith, e))) ∙ take-all ns (length ms) (omega (arith, e))

  -- the longer one has a module more, of the next file
  pub record HasNext : Type 0 where
    pub m : LoadedModule
    pub at : slice_get ns (length ms) ≡ Some m
    pub lies : next_file told.modules script ms ≡ Some m.path
    pub read : IsRead (content_at told (length ms) m.path) m

  next-lies :
      (ks : List LoadedModule) → ks ≡ ms → (n : LoadedModule)
      → slice_get ns (length ms) ≡ Some n → take (length ms) ns ≡ ms
      → next_file told.modules script ms ≡ Some n.path
  next-lies [] e n at front =
      let first = b.first n (ap (slice_get ns) (ap length e) ∙ at) in
      ap (next_file told.modules script) (sym e) ∙ ap (λ (p : Text). Some p) (sym first.1)
  next-lies (k ∷ ks) e n at front =
      let q = b.next (length ks) n (ap (slice_get ns) (ap length e) ∙ at) in
      let before = sym front ∙ ap (λ i. take i ns) (sym (ap length e)) in
      let w : wanted told.modules (folder_of script) ms ≡ Some n.name =
      ap (wanted told.modules (folder_of script)) before ∙ q.0 in
      let some : 0 < length ms = let j = ap length e in omega (arith, j) in
      wanted-after told script ms n.name some w ∙ ap (λ (p : Text). Some p) (sym q.1)

  pub has-next : length ms < length ns → HasNext
  has-next l =
      let n = get-at ns (length ms) l in
      record {
        m = n.0;
        at = n.1;
        lies = next-lies ms refl n.0 n.1 (front-is (omega (arith, l)));
        read = b.read (length ms) n.0 n.1;
      }

  -- the bytes of the longer one are no fewer
  pub next-light :
      (h : HasNext) → length ms ≤ length ns
      → total_bytes told ms + length h.read.bytes ≤ total_bytes told ns
  next-light h l =
      let more : take (suc (length ms)) ns ≡ ms ++ h.m ∷ [] =
      take-next ns h.m (length ms) h.at ∙ ap (λ t. t ++ h.m ∷ []) (front-is l) in
      let all = total-take told ns (suc (length ms)) in
      let same :
      total_bytes told (take (suc (length ms)) ns) ≡ total_bytes told ms + length h.read.bytes =
      ap (total_bytes told) more ∙ total-more told ms h.m h.read.bytes h.read.there in
      omega (arith, all, same)
