-- How loading comes on: it begins with the script, and each imported name in turn is settled.
use Rattle.std.proofs.Common.{◌≡◌, inl, inr, ℕ, zero, suc, ◌+◌, ◌<◌, ◌≤◌, true, false, List, [], ◌∷◌, ◌++◌, length, take, drop, Option, Some, None, refl, sym, ap, ◌∙◌, subst, arith, append-nil}
use Rattle.std.specs.List.{slice_get, find}
use Rattle.std.proofs.lemmas.Bool.{false≢true}
use Rattle.std.proofs.lemmas.List.{take-append-le}
use Rattle.py_syntax.specs.Names.{is_among, add_names, distinct}
use Rattle.py_syntax.specs.Tree.{Text}
use Rattle.py_meaning.specs.Loading.{imported, folder_of, file_of}
use Rattle.py_meaning.specs.Modules.{LoadedModule}
use Rattle.cov_why.specs.Answers.{Refusal}
use Rattle.cov_run.specs.Asking.{has_own_file}
use Rattle.cov_run.specs.Loading.{most_total, most_modules, Told, file_bytes, content_at, is_there, total_bytes, all_imported, has_file, is_wanted, wanted, IsRead, AreLoaded, IsLoaded}
use Rattle.cov_run.specs.Refusals.{Refuses, next_file, IsStopped}
use Rattle.cov_run.specs.State.{State, nothing, Adds, Settles}
use Rattle.cov_run.specs.Progress.{StandsAt}
use Rattle.cov_run.proofs.Lists.{get-append, get-within, get-front, take-next, take-whole, take-all, among-more, among-before, among-last, find-none, find-next, find-distinct, add_names-append, add_names-front, distinct-apart}
use Rattle.cov_run.proofs.Modules.{not-loaded, unwanted-before, unwanted-last, unwanted-absent, wanted-new, imported-more, bytes-more, bytes-script, content-later, file-there, file-absent, file-none, length-more}

-- ---- the script

pub no-modules : (told : Told) (script name : Text) → AreLoaded told script name []
no-modules told script name = record {
  read = λ i m h. cc;
  first = λ m h. cc;
  next = λ i m h. cc;
  few = omega arith;
  light = omega arith;
}

-- the file of an added module
pub added-read : (content : Option (List ℕ)) (path name : Text) (old new : State) (a : Adds content name path old new) → IsRead content (record { name = name; path = path; body = a.body })
added-read content path name old new a = record { bytes = a.bytes; there = a.room.next.there; small = a.room.small; read = a.read }

pub begins : (told : Told) (script name : Text) (s : State) → Adds told.script name script nothing s → StandsAt told script name s 0
begins told script name s a =
    let m : LoadedModule = record { name = name; path = script; body = a.body } in
    let total : total_bytes told (m ∷ []) ≡ length a.bytes = bytes-script told m a.bytes a.room.next.there in
    let room : 0 + length a.bytes ≤ most_total = a.room.light in
    subst (λ (t : State). StandsAt told script name t 0) (sym (the_state s a)) (record {
      loaded = record {
        read = λ i n h. read_one i n h;
        first = λ n h. (ap (λ (k : LoadedModule). k.name) (same m n h), ap (λ (k : LoadedModule). k.path) (same m n h));
        next = λ i n h. cc;
        few = omega arith;
        light = omega (arith, total, room);
      };
      some = omega arith;
      names = ap distinct (sym (append-nil (imported a.body)));
      total = sym total;
      seen = λ i n h. cc;
      settled = λ x h. absurd (false≢true h);
    })
  where
    same : (m n : LoadedModule) → Some m ≡ Some n → n ≡ m
    same m n e = sym (ap (λ o. elim o as (λ (o : Option LoadedModule). LoadedModule) [ None ↦ m | Some k ↦ k ]) e)

    read_one : (i : ℕ) (n : LoadedModule) → slice_get (record { name = name; path = script; body = a.body } ∷ []) i ≡ Some n → IsRead (content_at told i n.path) n
    read_one zero n h = subst (IsRead told.script) (sym (same _ n h)) (added-read told.script script name nothing s a)
    read_one (suc i) n h = cc

    three : (ms ns : List LoadedModule) (xs ys : List Text) (k l : ℕ) → ms ≡ ns → xs ≡ ys → k ≡ l → ◌≡◌ {A = State} (record { modules = ms; names = xs; bytes = k }) (record { modules = ns; names = ys; bytes = l })
    three ms ns xs ys k l e f g = cc

    the_state : (s : State) (a : Adds told.script name script nothing s)
        → s ≡ record { modules = record { name = name; path = script; body = a.body } ∷ []; names = add_names [] (imported a.body); bytes = length a.bytes }
    the_state s a = let t : s.bytes ≡ 0 + length a.bytes = a.total in let u : s.bytes ≡ length a.bytes = omega (arith, t) in three s.modules _ s.names _ s.bytes _ a.modules a.names u

-- no module is loaded, and the script is refused
pub script-refused : (told : Told) (script name : Text) (w : Refusal) → Refuses 0 0 script told.script w → (stop : IsStopped told script name w) × (stop.ms ≡ []) × (stop.path ≡ script)
script-refused told script name w h = (record { ms = []; loaded = no-modules told script name; path = script; next = refl; refuses = h }, refl, refl)

-- ---- an imported name

-- a name at its place is met for the first time
pub fresh : (told : Told) (script name : Text) (s : State) (at : ℕ) (x : Text) → StandsAt told script name s at → slice_get s.names at ≡ Some x → is_among (take at s.names) x ≡ false
fresh told script name s at x h k =
    subst (λ (xs : List Text). slice_get xs at ≡ Some x → is_among (take at xs) x ≡ false) (sym h.names) (distinct-apart (all_imported s.modules) at x) k

-- so no module has it yet
new_name : (told : Told) (script name : Text) (s : State) (at : ℕ) (x : Text) → StandsAt told script name s at → slice_get s.names at ≡ Some x → (i : ℕ) (m : LoadedModule) → slice_get s.modules (suc i) ≡ Some m → m.name ≡ x → ⊥
new_name told script name s at x h k i m q e =
    false≢true (sym (fresh told script name s at x h k) ∙ ap (is_among (take at s.names)) (sym e) ∙ h.seen i m q)

-- where it has a file, it is the one that is wanted
pub next-wanted : (told : Told) (script name : Text) (s : State) (at : ℕ) (x : Text) → StandsAt told script name s at → slice_get s.names at ≡ Some x → has_file told.modules (folder_of script) x ≡ true → wanted told.modules (folder_of script) s.modules ≡ Some x
next-wanted told script name s at x h k there =
    let is : is_wanted told.modules (folder_of script) s.modules x ≡ true = wanted-new told.modules (folder_of script) s.modules x there (not-loaded s.modules x (new_name told script name s at x h k)) in
    let cut : s.names ≡ take at s.names ++ x ∷ drop (suc at) s.names = cut_at s.names x at k in
    sym (find-distinct (is_wanted told.modules (folder_of script) s.modules) (all_imported s.modules)) ∙ ap (find (is_wanted told.modules (folder_of script) s.modules)) (sym h.names ∙ cut)
    ∙ find-next (is_wanted told.modules (folder_of script) s.modules) (take at s.names) (drop (suc at) s.names) x h.settled is
  where
    cut_at : (xs : List Text) (x : Text) (i : ℕ) → slice_get xs i ≡ Some x → xs ≡ take i xs ++ x ∷ drop (suc i) xs
    cut_at [] x i h = cc
    cut_at (y ∷ xs) x zero h = cc
    cut_at (y ∷ xs) x (suc i) h = ap (λ t. y ∷ t) (cut_at xs x i h)

-- the file that is read after some modules is that of the name that is wanted
pub wanted-after : (told : Told) (script : Text) (ms : List LoadedModule) (x : Text) → 0 < length ms → wanted told.modules (folder_of script) ms ≡ Some x → next_file told.modules script ms ≡ Some (file_of (folder_of script) x)
wanted-after told script [] x l e = absurd (omega arith)
wanted-after told script (m ∷ ms) x l e = rw e refl

-- where its file is refused, the program is
pub import-refused : (told : Told) (script name : Text) (s : State) (at : ℕ) (x : Text) (w : Refusal) → StandsAt told script name s at → slice_get s.names at ≡ Some x → has_own_file x ≡ true
    → is_there (file_bytes told.modules (file_of (folder_of script) x)) ≡ true → Refuses (length s.modules) s.bytes (file_of (folder_of script) x) (file_bytes told.modules (file_of (folder_of script) x)) w
    → (stop : IsStopped told script name w) × (stop.ms ≡ s.modules) × (stop.path ≡ file_of (folder_of script) x)
import-refused told script name s at x w h k own there r = (
  record {
    ms = s.modules;
    loaded = h.loaded;
    path = file_of (folder_of script) x;
    next = wanted-after told script s.modules x h.some (next-wanted told script name s at x h k (file-there told.modules (folder_of script) x own there));
    refuses = subst (λ c. Refuses (length s.modules) (total_bytes told s.modules) (file_of (folder_of script) x) c w) (sym (content-later told (length s.modules) (file_of (folder_of script) x) h.some))
        (subst (λ n. Refuses (length s.modules) n (file_of (folder_of script) x) (file_bytes told.modules (file_of (folder_of script) x)) w) h.total r);
  },
  refl,
  refl,
)

-- it has no file: the next name
stays : (told : Told) (script name : Text) (s : State) (at : ℕ) (x : Text) → StandsAt told script name s at → slice_get s.names at ≡ Some x → has_file told.modules (folder_of script) x ≡ false → StandsAt told script name s (suc at)
stays told script name s at x h k absent = record {
  loaded = h.loaded;
  some = h.some;
  names = h.names;
  total = h.total;
  seen = λ i m q. ap (λ t. is_among t m.name) (take-next s.names x at k) ∙ among-before (take at s.names) (x ∷ []) m.name (h.seen i m q);
  settled = λ y q. elim (among-more (take at s.names) x y (sym (ap (λ t. is_among t y) (take-next s.names x at k)) ∙ q)) [
    | inl e ↦ h.settled y e
    | inr e ↦ ap (is_wanted told.modules (folder_of script) s.modules) e ∙ unwanted-absent told.modules (folder_of script) s.modules x absent
  ];
}

-- the modules and one more
loads : (told : Told) (script name : Text) (ms : List LoadedModule) (m : LoadedModule) (bytes : List ℕ) → AreLoaded told script name ms → 0 < length ms → IsRead (file_bytes told.modules m.path) m → file_bytes told.modules m.path ≡ Some bytes
    → wanted told.modules (folder_of script) ms ≡ Some m.name → m.path ≡ file_of (folder_of script) m.name → length ms < most_modules → total_bytes told ms + length bytes ≤ most_total → AreLoaded told script name (ms ++ m ∷ [])
loads told script name ms m bytes h some read there next lies few light = record {
  read = λ i n k. elim (get-append ms m n i k) [
    | inl e ↦ h.read i n e
    | inr e ↦ subst (λ (c : Option (List ℕ)). IsRead c n) (sym (ap (λ j. content_at told j n.path) e.0 ∙ content-later told (length ms) n.path some)) (subst (λ (q : LoadedModule). IsRead (file_bytes told.modules q.path) q) e.1 read)
  ];
  first = λ n k. h.first n (sym (get-front ms (m ∷ []) 0 some) ∙ k);
  next = λ i n k. elim (get-append ms m n (suc i) k) [
    | inl e ↦
        let w = get-within ms n (suc i) e in
        let old = h.next i n e in
        (ap (wanted told.modules (folder_of script)) (take-append-le (suc i) ms (m ∷ []) (omega arith)) ∙ old.0, old.1)
    | inr e ↦ (
      ap (λ j. wanted told.modules (folder_of script) (take j (ms ++ m ∷ []))) e.0 ∙ ap (wanted told.modules (folder_of script)) (take-whole ms (m ∷ [])) ∙ next ∙ ap (λ (k : LoadedModule). Some k.name) e.1,
      ap (λ (k : LoadedModule). k.path) (sym e.1) ∙ lies ∙ ap (λ (k : LoadedModule). file_of (folder_of script) k.name) e.1,
    )
  ];
  few = let l = length-more ms m in omega (arith, l);
  light = let l = bytes-more told ms m bytes some there in omega (arith, l);
}

-- it has a file, which is read: the next name, with one module more
adds : (told : Told) (script name : Text) (s t : State) (at : ℕ) (x : Text) → StandsAt told script name s at → slice_get s.names at ≡ Some x → has_file told.modules (folder_of script) x ≡ true
    → Adds (file_bytes told.modules (file_of (folder_of script) x)) x (file_of (folder_of script) x) s t → StandsAt told script name t (suc at)
adds told script name s t at x h k there a =
    let folder = folder_of script in
    let m : LoadedModule = record { name = x; path = file_of (folder_of script) x; body = a.body } in
    let total : s.bytes ≡ total_bytes told s.modules = h.total in
    let light : s.bytes + length a.bytes ≤ most_total = a.room.light in
    let within = get-within s.names x at k in
    let front = add_names-front s.names (imported a.body) in
    let same : take (suc at) t.names ≡ take at s.names ++ x ∷ [] =
    ap (take (suc at)) (a.names ∙ front.1) ∙ take-append-le (suc at) s.names front.0 (omega arith) ∙ take-next s.names x at k in
    record {
      loaded = subst (AreLoaded told script name) (sym a.modules)
          (loads told script name s.modules m a.bytes h.loaded h.some (added-read (file_bytes told.modules (file_of (folder_of script) x)) (file_of (folder_of script) x) x s t a) a.room.next.there (next-wanted told script name s at x h k there) refl a.room.next.few (omega (arith, total, light)));
      some = let l = length-more s.modules m in let e = ap length a.modules in omega (arith, l, e);
      names = a.names ∙ ap (λ xs. add_names xs (imported a.body)) h.names ∙ sym (add_names-append [] (all_imported s.modules) (imported a.body)) ∙ ap distinct (sym (imported-more s.modules m) ∙ ap all_imported (sym a.modules));
      total = a.total ∙ ap (λ n. n + length a.bytes) h.total ∙ sym (bytes-more told s.modules m a.bytes h.some a.room.next.there) ∙ ap (total_bytes told) (sym a.modules);
      seen = λ i n q. ap (λ xs. is_among xs n.name) same ∙ (elim (get-append s.modules m n (suc i) (sym (ap (λ ms. slice_get ms (suc i)) a.modules) ∙ q)) [
        | inl e ↦ among-before (take at s.names) (x ∷ []) n.name (h.seen i n e)
        | inr e ↦ ap (λ (k : LoadedModule). is_among (take at s.names ++ x ∷ []) k.name) (sym e.1) ∙ among-last (take at s.names) x
      ]);
      settled = λ y q. ap (λ ms. is_wanted told.modules (folder_of script) ms y) a.modules ∙ (elim (among-more (take at s.names) x y (sym (ap (λ xs. is_among xs y) same) ∙ q)) [
        | inl e ↦ unwanted-before told.modules (folder_of script) s.modules m y (h.settled y e)
        | inr e ↦ ap (is_wanted told.modules (folder_of script) (s.modules ++ m ∷ [])) e ∙ unwanted-last told.modules (folder_of script) s.modules m h.some
      ]);
    }

-- its file is read, and adds a module or isn't there
pub goes-on : (told : Told) (script name : Text) (s t : State) (at : ℕ) (x : Text) → StandsAt told script name s at → slice_get s.names at ≡ Some x → has_own_file x ≡ true
    → Settles (file_bytes told.modules (file_of (folder_of script) x)) x (file_of (folder_of script) x) s t → StandsAt told script name t (suc at)
goes-on told script name s t at x h k own i =
    elim i [
      | inl e ↦ subst (λ (u : State). StandsAt told script name u (suc at)) (sym e.1) (stays told script name s at x h k (file-absent told.modules (folder_of script) x e.0))
      | inr a ↦ adds told script name s t at x h k (file-there told.modules (folder_of script) x own (ap is_there a.room.next.there)) a
    ]

-- no file is read for it
pub passes : (told : Told) (script name : Text) (s : State) (at : ℕ) (x : Text) → StandsAt told script name s at → slice_get s.names at ≡ Some x → has_own_file x ≡ false → StandsAt told script name s (suc at)
passes told script name s at x h k own = stays told script name s at x h k (file-none told.modules (folder_of script) x own)

-- the names up to this one, where its file is settled
pub names-up-to : (s t : State) (at : ℕ) (x path : Text) (content : Option (List ℕ)) → slice_get s.names at ≡ Some x → Settles content x path s t → take (suc at) t.names ≡ take at s.names ++ x ∷ []
names-up-to s t at x path content k i =
    elim i [
      | inl e ↦ ap (λ (u : State). take (suc at) u.names) e.1 ∙ take-next s.names x at k
      | inr a ↦
          let within = get-within s.names x at k in
          let front = add_names-front s.names (imported a.body) in
          ap (take (suc at)) (a.names ∙ front.1) ∙ take-append-le (suc at) s.names front.0 (omega arith) ∙ take-next s.names x at k
    ]

-- ---- the end

pub ends : (told : Told) (script name : Text) (s : State) (at : ℕ) → StandsAt told script name s at → length s.names ≤ at → IsLoaded told script name s.modules
ends told script name s at h l = record {
  loaded = h.loaded;
  some = h.some;
  all =
      sym (find-distinct (is_wanted told.modules (folder_of script) s.modules) (all_imported s.modules)) ∙ ap (find (is_wanted told.modules (folder_of script) s.modules)) (sym h.names)
      ∙ find-none (is_wanted told.modules (folder_of script) s.modules) s.names (λ x k. h.settled x (ap (λ xs. is_among xs x) (take-all s.names at l) ∙ k));
}
