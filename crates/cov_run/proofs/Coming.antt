-- How loading comes on by the reads of a shelf, and how it ends.
use Rattle.std.proofs.Common.{◌≡◌, ◌≢◌, inl, inr, ℕ, zero, suc, ◌≤◌, true, false, cond, List, [], ◌∷◌, ◌++◌, map, length, take, drop, Option, Some, None, Result, Ok, Err, IfOk, IfErr, OnOk, refl, sym, ap, ◌∙◌, subst, append-nil, encode_utf8_all}
use Rattle.std.specs.Prelude.{filter, All, IsErrOf}
use Rattle.std.specs.List.{slice_get}
use Rattle.std.proofs.lemmas.List.{map-append}
use Rattle.std.proofs.lemmas.List.Elements.{All-nil, All-cons, All-push, filter-append}
use Rattle.cov_outside.specs.declared.shelf.ShelfError.{ShelfError}
use Rattle.cov_outside.specs.declared.shelf.ShelfError.TheVariants.{Failed}
use Rattle.cov_outside.specs.Files.{Files}
use Rattle.cov_outside.specs.Prefixes.{IsPrefix}
use Rattle.cov_outside.specs.Reads.{IsTold, Read, Reads}
use Rattle.py_syntax.specs.Names.{distinct}
use Rattle.py_syntax.specs.Tree.{Text}
use Rattle.py_meaning.specs.Loading.{folder_of, file_of}
use Rattle.py_meaning.specs.Modules.{LoadedModule}
use Rattle.cov_why.specs.Answers.{Refusal, no_memory, plain_why, RefusedAs, AnsweredAs}
use Rattle.cov_why.proofs.Refusing.{refused-is, refused-so, refused-for, refused-map, refused-result, answered-map, is-memory}
use Rattle.cov_why.specs.declared.why.Why.{Why}
use Rattle.cov_why.specs.declared.why.Why.TheVariants as why
use Rattle.cov_run.specs.Asking.{has_own_file, file_name, asked_for, asked, names_read, AreUpTo, Agrees}
use Rattle.cov_run.specs.Loading.{most_bytes, Told, told_by, is_there, all_imported}
use Rattle.cov_run.specs.Loads.{Loading, IsUnread, starved, LoadsTo, ComesTo, Loads, IsAskedNext, EndsFailed, EndsWith}
use Rattle.cov_run.specs.Progress.{StandsAt, HasCome}
use Rattle.cov_run.specs.Refusals.{Refuses}
use Rattle.cov_run.specs.State.{State, nothing, Adds, Settles}
use Rattle.cov_run.proofs.Lists.{take-next, take-all}
use Rattle.cov_run.proofs.Modules.{content-later, file-there}
use Rattle.cov_run.proofs.Progressing.{no-modules, begins, script-refused, fresh, next-wanted, wanted-after, import-refused, goes-on, passes, names-up-to, ends}
use Rattle.cov_run.proofs.Telling.{Moves, reads-more, agrees-more, content-for, some-more, tells, FirstIs, first-is, agrees-by}

-- ---- names

asked-more : (script : Text) (xs ys : List Text) → asked_for script (xs ++ ys) ≡ asked_for script xs ++ map (file_name script) (filter has_own_file ys)
asked-more script xs ys = ap (λ ns. encode_utf8_all script ∷ ns) (ap (map (file_name script)) (filter-append has_own_file xs ys) ∙ map-append (file_name script) (filter has_own_file xs) (filter has_own_file ys))

asked-own : (script : Text) (xs : List Text) (x : Text) → has_own_file x ≡ true → asked_for script (xs ++ x ∷ []) ≡ asked_for script xs ++ file_name script x ∷ []
asked-own script xs x own = asked-more script xs (x ∷ []) ∙ ap (λ b. asked_for script xs ++ map (file_name script) (cond b (x ∷ []) [])) own

asked-none : (script : Text) (xs : List Text) (x : Text) → has_own_file x ≡ false → asked_for script (xs ++ x ∷ []) ≡ asked_for script xs
asked-none script xs x own = asked-more script xs (x ∷ []) ∙ ap (λ b. asked_for script xs ++ map (file_name script) (cond b (x ∷ []) [])) own ∙ append-nil (asked_for script xs)

cut-at : (xs : List Text) (i : ℕ) → xs ≡ take i xs ++ drop i xs
cut-at xs zero = refl
cut-at [] (suc i) = refl
cut-at (x ∷ xs) (suc i) = ap (λ t. x ∷ t) (cut-at xs i)

-- the files of the first names are the first of those that the modules ask for
front-asked : (told : Told) (script name : Text) (s : State) (at i : ℕ) → StandsAt told script name s at → IsPrefix (asked_for script (take i s.names)) (asked script s.modules)
front-asked told script name s at i h = record {
  rest = map (file_name script) (filter has_own_file (drop i s.names));
  is = ap (asked_for script) (sym h.names ∙ cut-at s.names i) ∙ asked-more script (take i s.names) (drop i s.names);
}

-- ---- nothing is read

pub nothing-read : {H : Type 0} (moves : Moves H) (old : H) (script name : Text) (r : Refusal) → IsUnread r → Loads moves old script name (Err r) old
nothing-read moves old script name r u = record {
  made = [];
  led = refl;
  limit = All-nil (λ r. r.most ≡ most_bytes);
  comes = λ told a. inr (record { unread = u; ms = []; loaded = no-modules told script name; first = record { rest = asked script []; is = refl } });
  some = (record { script = None; modules = λ n. None }, tt);
}

-- ---- the script is read

module _ {H : Type 0} (moves : Moves H) (old new : H) (script name : Text) (answer : Result (List ℕ) ShelfError) (move : moves old (encode_utf8_all script) most_bytes answer new) (fits : IfOk answer (λ bytes. length bytes ≤ most_bytes)) where
  some_script : (told : Told) × Agrees told (record { name = encode_utf8_all script; most = most_bytes; answer = answer } ∷ [])
  some_script = let c = content-for most_bytes answer fits in (record { script = c.0; modules = λ n. None }, (c.1, tt))

  one_limit : All (λ (r : Read). r.most ≡ most_bytes) (record { name = encode_utf8_all script; most = most_bytes; answer = answer } ∷ [])
  one_limit = All-cons (λ (r : Read). r.most ≡ most_bytes) (record { name = encode_utf8_all script; most = most_bytes; answer = answer }) [] refl (All-nil (λ (r : Read). r.most ≡ most_bytes))

  pub script-come : (s : State) → ((content : Option (List ℕ)) → IsTold content most_bytes answer → Adds content name script nothing s) → HasCome moves old script name s 0 new
  script-come s adds = record {
    made = record { name = encode_utf8_all script; most = most_bytes; answer = answer } ∷ [];
    led = (new, move, refl);
    limit = one_limit;
    names = refl;
    come = λ told a. begins told script name s (adds told.script a.0);
    some = some_script;
  }

  pub script-unread : (r : Refusal) → IsUnread r → Loads moves old script name (Err r) new
  script-unread r u = record {
    made = record { name = encode_utf8_all script; most = most_bytes; answer = answer } ∷ [];
    led = (new, move, refl);
    limit = one_limit;
    comes = λ told a. inr (record { unread = u; ms = []; loaded = no-modules told script name; first = record { rest = []; is = refl } });
    some = some_script;
  }

  pub script-stops : (w : Refusal) → ((content : Option (List ℕ)) → IsTold content most_bytes answer → Refuses 0 0 script content w) → Loads moves old script name (Err w) new
  script-stops w refuses = record {
    made = record { name = encode_utf8_all script; most = most_bytes; answer = answer } ∷ [];
    led = (new, move, refl);
    limit = one_limit;
    comes = λ told a.
        let stop = script-refused told script name w (refuses told.script a.0) in inl (record {
          stop = stop.0;
          up_to = subst (λ (ms : List LoadedModule). AreUpTo (encode_utf8_all stop.0.path) (encode_utf8_all script ∷ []) (asked script ms)) (sym stop.1)
              (subst (λ (p : Text). AreUpTo (encode_utf8_all p) (encode_utf8_all script ∷ []) (asked script [])) (sym stop.2) (record { before = []; is = refl; front = record { rest = []; is = refl } }));
        });
    some = some_script;
  }

-- ---- an imported name

-- no file is read for it
pub name-passed : {H : Type 0} (moves : Moves H) (old mid : H) (script name : Text) (s : State) (at : ℕ) (x : Text) → HasCome moves old script name s at mid → slice_get s.names at ≡ Some x → has_own_file x ≡ false → HasCome moves old script name s (suc at) mid
name-passed moves old mid script name s at x h k own = record {
  made = h.made;
  led = h.led;
  limit = h.limit;
  names = h.names ∙ sym (ap (asked_for script) (take-next s.names x at k) ∙ asked-none script (take at s.names) x own);
  come = λ told a. passes told script name s at x (h.come told a) k own;
  some = h.some;
}

-- its file is read
module _ {H : Type 0} (moves : Moves H) (old mid new : H) (script name : Text) (s : State) (at : ℕ) (x : Text) (h : HasCome moves old script name s at mid) (k : slice_get s.names at ≡ Some x) (own : has_own_file x ≡ true)
    (answer : Result (List ℕ) ShelfError) (move : moves mid (file_name script x) most_bytes answer new) (fits : IfOk answer (λ bytes. length bytes ≤ most_bytes)) where
  abbrev more_made : List Read
  more_made = h.made ++ record { name = file_name script x; most = most_bytes; answer = answer } ∷ []

  more_led : Reads moves old more_made new
  more_led = reads-more moves old mid new h.made (record { name = file_name script x; most = most_bytes; answer = answer }) h.led move

  more_limit : All (λ (r : Read). r.most ≡ most_bytes) more_made
  more_limit = All-push (λ (r : Read). r.most ≡ most_bytes) h.made (record { name = file_name script x; most = most_bytes; answer = answer }) h.limit refl

  more_names : names_read more_made ≡ asked_for script (take at s.names ++ x ∷ [])
  more_names = map-append (λ (r : Read). r.name) h.made (record { name = file_name script x; most = most_bytes; answer = answer } ∷ []) ∙ ap (λ ns. ns ++ file_name script x ∷ []) h.names ∙ sym (asked-own script (take at s.names) x own)

  more_some : (told : Told) × Agrees told more_made
  more_some =
      some-more h.some.0 script (take at s.names) x h.made (record { name = file_name script x; most = most_bytes; answer = answer }) h.names (fresh h.some.0 script name s at x (h.come h.some.0 h.some.1) k) refl h.some.1 fits

  -- what agrees with all answers agrees with the ones before, and the file's content with its own
  parts : (told : Told) → Agrees told more_made → Agrees told h.made × IsTold (told.modules (file_name script x)) most_bytes answer
  parts told a = agrees-more told (encode_utf8_all script) (map (file_name script) (filter has_own_file (take at s.names))) h.made (record { name = file_name script x; most = most_bytes; answer = answer }) h.names a

  pub name-settled : (t : State) → ((content : Option (List ℕ)) → IsTold content most_bytes answer → Settles content x (file_of (folder_of script) x) s t) → HasCome moves old script name t (suc at) new
  name-settled t settles =
      let c = content-for most_bytes answer fits in
      let same : take (suc at) t.names ≡ take at s.names ++ x ∷ [] = names-up-to s t at x (file_of (folder_of script) x) c.0 k (settles c.0 c.1) in
      record {
        made = more_made;
        led = more_led;
        limit = more_limit;
        names = more_names ∙ ap (asked_for script) (sym same);
        come = λ told a. let p = parts told a in goes-on told script name s t at x (h.come told p.0) k own (settles (told.modules (file_name script x)) p.1);
        some = more_some;
      }

  pub name-unread : (r : Refusal) → IsUnread r → Loads moves old script name (Err r) new
  name-unread r u = record {
    made = more_made;
    led = more_led;
    limit = more_limit;
    comes = λ told a.
        let i = h.come told (parts told a).0 in
        inr (record { unread = u; ms = s.modules; loaded = i.loaded; first = subst (λ ns. IsPrefix ns (asked script s.modules)) (sym (more_names ∙ ap (asked_for script) (sym (take-next s.names x at k)))) (front-asked told script name s at (suc at) i) });
    some = more_some;
  }

  pub name-stops : (w : Refusal) → ((content : Option (List ℕ)) → IsTold content most_bytes answer → (is_there content ≡ true) × Refuses (length s.modules) s.bytes (file_of (folder_of script) x) content w) → Loads moves old script name (Err w) new
  name-stops w refuses = record {
    made = more_made;
    led = more_led;
    limit = more_limit;
    comes = λ told a.
        let p = parts told a in
        let i = h.come told p.0 in
        let r = refuses (told.modules (file_name script x)) p.1 in
        let stop = import-refused told script name s at x w i k own r.0 r.1 in inl (record {
          stop = stop.0;
          up_to = subst (λ (ms : List LoadedModule). AreUpTo (encode_utf8_all stop.0.path) (names_read more_made) (asked script ms)) (sym stop.1)
              (subst (λ (q : Text). AreUpTo (encode_utf8_all q) (names_read more_made) (asked script s.modules)) (sym stop.2) (record {
                before = asked_for script (take at s.names);
                is = more_names ∙ asked-own script (take at s.names) x own;
                front = subst (λ ns. IsPrefix ns (asked script s.modules)) (sym (more_names ∙ ap (asked_for script) (sym (take-next s.names x at k)))) (front-asked told script name s at (suc at) i);
              }));
        });
    some = more_some;
  }

-- ---- the end

-- nothing more is read, for want of memory
pub unread-here : {H : Type 0} (moves : Moves H) (old mid : H) (script name : Text) (s : State) (at : ℕ) → HasCome moves old script name s at mid → (r : Refusal) → IsUnread r → Loads moves old script name (Err r) mid
unread-here moves old mid script name s at h r u = record {
  made = h.made;
  led = h.led;
  limit = h.limit;
  comes = λ told a. let i = h.come told a in inr (record { unread = u; ms = s.modules; loaded = i.loaded; first = subst (λ ns. IsPrefix ns (asked script s.modules)) (sym h.names) (front-asked told script name s at at i) });
  some = h.some;
}

-- no name is left
pub all-loaded : {H : Type 0} (moves : Moves H) (old mid : H) (script name : Text) (s : State) (at : ℕ) → HasCome moves old script name s at mid → length s.names ≤ at → Loads moves old script name (Ok s.modules) mid
all-loaded moves old mid script name s at h l = record {
  made = h.made;
  led = h.led;
  limit = h.limit;
  comes = λ told a. let i = h.come told a in (ends told script name s at i l, h.names ∙ ap (asked_for script) (take-all s.names at l ∙ i.names));
  some = h.some;
}

-- a program that was loaded isn't compiled, for want of memory
pub program-unread : {H : Type 0} (moves : Moves H) (old new : H) (script name : Text) (ms : List LoadedModule) → Loads moves old script name (Ok ms) new → (r : Refusal) → IsUnread r → Loads moves old script name (Err r) new
program-unread moves old new script name ms h r u = record {
  made = h.made;
  led = h.led;
  limit = h.limit;
  comes = λ told a. let c = h.comes told a in inr (record { unread = u; ms = ms; loaded = c.0.loaded; first = record { rest = []; is = sym c.1 ∙ sym (append-nil (names_read h.made)) } });
  some = h.some;
}

-- ---- answers

memory-or-fault : why.NoMemory ≡ why.ShelfFault → ⊥
memory-or-fault e = cc

-- no memory was left
pub ends-memory : {H : Type 0} (moves : Moves H) (old new : H) (script name : Text) → ((r : Refusal) → IsUnread r → Loads moves old script name (Err r) new) → EndsWith moves old script name why.NoMemory new
ends-memory moves old new script name l = record { loads = l no_memory starved; failed = λ e. absurd (memory-or-fault e) }

-- the last read failed, or wasn't done for want of memory
pub ends-unread : {H : Type 0} (moves : Moves H) (old new : H) (script name : Text) (w : Why) → RefusedAs w IsUnread → ((r : Refusal) → IsUnread r → Loads moves old script name (Err r) new) → (w ≡ why.ShelfFault → EndsFailed moves old script name new) → EndsWith moves old script name w new
ends-unread moves old new script name w only l failed = record { loads = refused-map w IsUnread (λ r. Loads moves old script name (Err r) new) l only; failed = failed }

-- a file that was read refuses the program, or memory was wanting
pub ends-refused : {H : Type 0} (moves : Moves H) (old new : H) (script name : Text) (modules total : ℕ) (path : Text) (content : Option (List ℕ)) (w : Why) → (w ≡ why.ShelfFault → ⊥) → ((r : Refusal) → IsUnread r → Loads moves old script name (Err r) new)
    → RefusedAs w (λ r. r ≢ no_memory → Refuses modules total path content r) → ((r : Refusal) → plain_why w ≡ Err r → r ≢ no_memory → Loads moves old script name (Err r) new) → EndsWith moves old script name w new
ends-refused {H} moves old new script name n t path content w never l refuses stops =
    let s = refused-is w (λ r. r ≢ no_memory → Refuses n t path content r) refuses in
    let loads : Loads moves old script name (Err s.0) new = elim (is-memory s.0) [ inl e ↦ subst (λ (r : Refusal). Loads moves old script name (Err r) new) (sym e) (l no_memory starved) | inr other ↦ stops s.0 s.1 other ] in
    record { loads = refused-so w s.0 (λ r. Loads moves old script name (Err r) new) s.1 loads; failed = λ e. absurd (never e) }

-- ---- what a function answers

-- the file of an imported name was read
module _ {H : Type 0} (moves : Moves H) (old mid new : H) (script name : Text) (s : State) (at : ℕ) (x path : Text) (h : HasCome moves old script name s at mid) (k : slice_get s.names at ≡ Some x) (own : has_own_file x ≡ true)
    (lies : path ≡ file_of (folder_of script) x) (answer : Result (List ℕ) ShelfError) (move : moves mid (encode_utf8_all path) most_bytes answer new) (fits : IfOk answer (λ bytes. length bytes ≤ most_bytes)) where
  its_move : moves mid (file_name script x) most_bytes answer new
  its_move = subst (λ p. moves mid (encode_utf8_all p) most_bytes answer new) lies move

  pub result-come : {A : Type 0} (t : State) (r : Result A Why) → ((content : Option (List ℕ)) → IsTold content most_bytes answer → OnOk r (Settles content x path s t)) → OnOk r (HasCome moves old script name t (suc at) new)
  result-come t (Ok a) settles =
      name-settled moves old mid new script name s at x h k own answer its_move fits t (λ content told. subst (λ p. Settles content x p s t) lies (settles content told))
  result-come t (Err w) settles = tt

  pub result-ends : {A : Type 0} (n : ℕ) (r : Result A Why) → n ≡ length s.modules → ((content : Option (List ℕ)) → IsTold content most_bytes answer → (is_there content ≡ true) × IfErr r (λ w. RefusedAs w (λ v. v ≢ no_memory → Refuses n s.bytes path content v)))
      → (IsErrOf r why.ShelfFault → ⊥) → IfErr r (λ w. EndsWith moves old script name w new)
  result-ends n (Ok a) e refuses never = tt
  result-ends n (Err w) e refuses never =
      let c = content-for most_bytes answer fits in
      ends-refused moves old new script name n s.bytes path c.0 w (λ q. never (ap (λ v. Err v) q)) (name-unread moves old mid new script name s at x h k own answer its_move fits) (refuses c.0 c.1).1
      (λ v is m. name-stops moves old mid new script name s at x h k own answer its_move fits v (λ content told. let r = refuses content told in
      (r.0, subst (λ p. Refuses (length s.modules) s.bytes p content v) lies (subst (λ j. Refuses j s.bytes path content v) e (refused-for w v (λ u. u ≢ no_memory → Refuses n s.bytes path content u) is r.1 m)))))

  -- its file is asked for next
  its_next : (told : Told) → Agrees told h.made → IsAskedNext told script name (names_read h.made) (file_of (folder_of script) x)
  its_next told a =
      let i = h.come told a in
      record {
        ms = s.modules;
        loaded = i.loaded;
        asked = subst (λ ns. IsPrefix ns (asked script s.modules)) (sym (ap (λ ns. ns ++ file_name script x ∷ []) h.names ∙ sym (asked-own script (take at s.names) x own) ∙ ap (asked_for script) (sym (take-next s.names x at k)))) (front-asked told script name s at (suc at) i);
        wanted = λ there. wanted-after told script s.modules x i.some
            (next-wanted told script name s at x i k (file-there told.modules (folder_of script) x own (sym (ap is_there (content-later told (length s.modules) (file_of (folder_of script) x) i.some)) ∙ there)));
      }

  pub failure-ends : (w : Why) → RefusedAs w IsUnread → (w ≡ why.ShelfFault → answer ≡ Err Failed) → EndsWith moves old script name w new
  failure-ends w only failed =
      ends-unread moves old new script name w only (name-unread moves old mid new script name s at x h k own answer its_move fits)
      (λ e. record {
        made = h.made;
        mid = mid;
        led = h.led;
        limit = h.limit;
        path = path;
        fails = subst (λ a. moves mid (encode_utf8_all path) most_bytes a new) (failed e) move;
        next = λ told a. subst (λ (p : Text). IsAskedNext told script name (names_read h.made) p) (sym lies) (its_next told a);
        some = h.some;
      })

-- the script was read
module _ {H : Type 0} (moves : Moves H) (old new : H) (script name path : Text) (lies : path ≡ script) (answer : Result (List ℕ) ShelfError) (move : moves old (encode_utf8_all path) most_bytes answer new) (fits : IfOk answer (λ bytes. length bytes ≤ most_bytes)) where
  script_move : moves old (encode_utf8_all script) most_bytes answer new
  script_move = subst (λ p. moves old (encode_utf8_all p) most_bytes answer new) lies move

  pub script-result-come : (s : State) → ((content : Option (List ℕ)) → IsTold content most_bytes answer → Adds content name script nothing s) → HasCome moves old script name s 0 new
  script-result-come s adds = script-come moves old new script name answer script_move fits s adds

  pub script-result-ends : (w : Why) → ((content : Option (List ℕ)) → IsTold content most_bytes answer → RefusedAs w (λ r. r ≢ no_memory → Refuses 0 0 script content r)) → (w ≡ why.ShelfFault → ⊥) → EndsWith moves old script name w new
  script-result-ends w refuses never =
      let c = content-for most_bytes answer fits in
      ends-refused moves old new script name 0 0 script c.0 w never (script-unread moves old new script name answer script_move fits) (refuses c.0 c.1)
      (λ v is m. script-stops moves old new script name answer script_move fits v (λ content told. refused-for w v (λ r. r ≢ no_memory → Refuses 0 0 script content r) is (refuses content told) m))

  pub script-failure-ends : (w : Why) → RefusedAs w IsUnread → (w ≡ why.ShelfFault → answer ≡ Err Failed) → EndsWith moves old script name w new
  script-failure-ends w only failed =
      ends-unread moves old new script name w only (script-unread moves old new script name answer script_move fits)
      (λ e. record {
        made = [];
        mid = old;
        led = refl;
        limit = All-nil (λ r. r.most ≡ most_bytes);
        path = path;
        fails = subst (λ a. moves old (encode_utf8_all path) most_bytes a new) (failed e) move;
        next = λ told a. subst (λ (p : Text). IsAskedNext told script name [] p) (sym lies) (record { ms = []; loaded = no-modules told script name; asked = record { rest = []; is = refl }; wanted = λ there. refl });
        some = (record { script = None; modules = λ n. None }, tt);
      })

-- ---- a shelf that tells its files

loads-to : (told : Told) (script name : Text) (names : List (List ℕ)) (l : Loading) → ComesTo told script name names l → LoadsTo told script name l
loads-to told script name names (Ok ms) h = h.0
loads-to told script name names (Err r) h = elim h [ inl s ↦ inl s.stop | inr b ↦ inr b.unread ]

script-first : (told : Told) (script name : Text) (rs : List Read) (l : Loading) → ComesTo told script name (names_read rs) l → FirstIs (encode_utf8_all script) rs
script-first told script name rs (Ok ms) h = first-is (encode_utf8_all script) (map (file_name script) (filter has_own_file (distinct (all_imported ms)))) rs (record { rest = []; is = sym h.1 ∙ sym (append-nil (names_read rs)) })
script-first told script name rs (Err r) h = elim h [
  | inl s ↦ first-is (encode_utf8_all script) (map (file_name script) (filter has_own_file (distinct (all_imported s.stop.ms)))) rs s.up_to.front
  | inr b ↦ first-is (encode_utf8_all script) (map (file_name script) (filter has_own_file (distinct (all_imported b.ms)))) rs b.first
]

-- its files are what was told, and stay as they are
pub loads-told : {H : Type 0} (moves : Moves H) (files : H → Files) → ((old : H) (name : List ℕ) (most : ℕ) (answer : Result (List ℕ) ShelfError) (new : H) → moves old name most answer new → IsTold (files old name) most answer × (files new ≡ files old))
    → (old new : H) (script name : Text) (l : Loading) → Loads moves old script name l new → LoadsTo (told_by (files old) script) script name l × (files new ≡ files old)
loads-told moves files truth old new script name l h =
    let t = tells moves files truth old new h.made h.led in
    let first = script-first h.some.0 script name h.made l (h.comes h.some.0 h.some.1) in
    (loads-to (told_by (files old) script) script name (names_read h.made) l (h.comes (told_by (files old) script) (agrees-by (files old) script h.made t.0 first)), t.1)

-- ---- an answer that refuses

-- what loading ends with is what it answers
pub ends-answer : {A : Type 0} {H : Type 0} (view : A → List LoadedModule) (moves : Moves H) (old new : H) (script name : Text) (result : Result A Why) (w : Why) → result ≡ Err w → EndsWith moves old script name w new
    → AnsweredAs view result (λ loading. Loads moves old script name loading new)
ends-answer view moves old new script name result w is e = refused-result view result w (λ loading. Loads moves old script name loading new) is e.loads

-- by a shelf that tells its files
pub answer-told : {A : Type 0} {H : Type 0} (view : A → List LoadedModule) (moves : Moves H) (files : H → Files) → ((old : H) (name : List ℕ) (most : ℕ) (answer : Result (List ℕ) ShelfError) (new : H) → moves old name most answer new → IsTold (files old name) most answer × (files new ≡ files old))
    → (old new : H) (script name : Text) (result : Result A Why) → AnsweredAs view result (λ loading. Loads moves old script name loading new) → AnsweredAs view result (LoadsTo (told_by (files old) script) script name)
answer-told view moves files truth old new script name result h =
    answered-map view result (λ loading. Loads moves old script name loading new) (LoadsTo (told_by (files old) script) script name) (λ loading l. (loads-told moves files truth old new script name loading l).0) h

-- which keeps them
pub ends-kept : {H : Type 0} (moves : Moves H) (files : H → Files) → ((old : H) (name : List ℕ) (most : ℕ) (answer : Result (List ℕ) ShelfError) (new : H) → moves old name most answer new → IsTold (files old name) most answer × (files new ≡ files old))
    → (old new : H) (script name : Text) (w : Why) → EndsWith moves old script name w new → files new ≡ files old
ends-kept moves files truth old new script name w e =
    let s = refused-is w (λ r. Loads moves old script name (Err r) new) e.loads in
    (loads-told moves files truth old new script name (Err s.0) s.2).1
