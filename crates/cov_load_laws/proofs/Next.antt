-- More modules ask for the same files first.
use Rattle.std.proofs.Common.{◌≡◌, inr, ⊎_elim, ℕ, ◌≤◌, List, [], ◌∷◌, ◌++◌, map, length, drop, Option, Err, refl, sym, ap, ◌∙◌, subst, arith, append_assoc, encode_utf8_all}
use Rattle.std.specs.Prelude.{filter}
use Rattle.std.proofs.lemmas.Bool.{cases_lt}
use Rattle.std.proofs.lemmas.List.{take-append-drop, map-append, append_cancel_left}
use Rattle.std.proofs.lemmas.List.Concat.{flat_map-append}
use Rattle.std.proofs.lemmas.List.Elements.{filter-append, All-push}
use Rattle.std.proofs.lemmas.Str.{encodes_same}
use Rattle.cov_outside.specs.declared.shelf.ShelfError.TheVariants.{Failed}
use Rattle.cov_outside.specs.Files.{Files}
use Rattle.cov_outside.specs.Prefixes.{IsPrefix}
use Rattle.cov_outside.specs.Reads.{IsTold, Read}
use Rattle.py_syntax.specs.Names.{distinct}
use Rattle.py_syntax.specs.Tree.{Text}
use Rattle.py_meaning.specs.Loading.{imported}
use Rattle.py_meaning.specs.Modules.{LoadedModule}
use Rattle.cov_why.specs.Answers.{shelf_fault}
use Rattle.cov_run.specs.Asking.{has_own_file, file_name, asked_for, asked, AreTold, Agrees}
use Rattle.cov_run.specs.Loading.{Told, all_imported, AreLoaded, most_bytes}
use Rattle.cov_run.specs.Loads.{EndsFailed, IsAskedNext, Loads, faulted}
use Rattle.cov_run.proofs.Lists.{add_names-append, add_names-front}
use Rattle.cov_run.proofs.Telling.{Moves, reads-more}
use Rattle.cov_load_laws.specs.Texts.{OneText}
use Rattle.cov_load_laws.proofs.Chains.{chained, front-is}

-- ---- prefixes

prefix-on : {A : Type 0} (xs ys zs : List A) → IsPrefix xs ys → IsPrefix ys zs → IsPrefix xs zs
prefix-on xs ys zs h k = record {
  rest = h.rest ++ k.rest;
  is = k.is ∙ ap (λ t. t ++ k.rest) h.is ∙ append_assoc xs h.rest k.rest;
}

heads : {A : Type 0} (a b : A) (xs ys : List A) → (a ∷ xs) ≡ (b ∷ ys) → a ≡ b
heads a b xs ys e = cc

same-head :
    {A : Type 0} (xs : List A) (a b : A) (ys : List A) → IsPrefix (xs ++ a ∷ []) ys
    → IsPrefix (xs ++ b ∷ []) ys → a ≡ b
same-head xs a b ys h k =
    let one = sym (append_assoc xs (a ∷ []) h.rest) ∙ sym h.is in
    let both = one ∙ k.is ∙ append_assoc xs (b ∷ []) k.rest in
    heads a b h.rest k.rest (append_cancel_left xs (a ∷ h.rest) (b ∷ k.rest) both)

-- ---- files

asked-on :
    (script : Text) (ms ks : List LoadedModule)
    → IsPrefix (asked script ms) (asked script (ms ++ ks))
asked-on script ms ks =
    let xs = distinct (all_imported ms) in
    let zs = add_names-front xs (all_imported ks) in
    let names =
    ap distinct (flat_map-append (λ (m : LoadedModule). imported m.body) ms ks)
    ∙ add_names-append [] (all_imported ms) (all_imported ks) ∙ zs.1 in
    let files =
    ap (map (file_name script)) (filter-append has_own_file xs zs.0)
    ∙ map-append (file_name script) (filter has_own_file xs) (filter has_own_file zs.0) in
    record {
      rest = map (file_name script) (filter has_own_file zs.0);
      is = ap (asked_for script) names ∙ ap (λ ns. encode_utf8_all script ∷ ns) files;
    }

module _ (one : OneText) (told : Told) (script name : Text) where
  asked-more :
      (ms ns : List LoadedModule) → AreLoaded told script name ms → AreLoaded told script name ns
      → length ms ≤ length ns → IsPrefix (asked script ms) (asked script ns)
  asked-more ms ns h k l =
      let a = chained told script name ms h in
      let b = chained told script name ns k in
      let is = front-is one told script name ms ns a b l in
      let front = ap (λ t. t ++ drop (length ms) ns) (sym is) in
      subst (λ (ks : List LoadedModule). IsPrefix (asked script ms) (asked script ks))
      (front ∙ take-append-drop (length ms) ns)
      (asked-on script ms (drop (length ms) ns))

  -- the fewer modules ask for it, and so do the more
  next-of :
      (names : List (List ℕ)) (a b : Text) (h : IsAskedNext told script name names a)
      (k : IsAskedNext told script name names b) → length h.ms ≤ length k.ms → a ≡ b
  next-of names a b h k l =
      let one = names ++ encode_utf8_all a ∷ [] in
      let more = asked-more h.ms k.ms h.loaded k.loaded l in
      let asks = prefix-on one (asked script h.ms) (asked script k.ms) h.asked more in
      encodes_same a b
      (same-head names (encode_utf8_all a) (encode_utf8_all b) (asked script k.ms) asks k.asked)

  pub one-next :
      (names : List (List ℕ)) (a b : Text) → IsAskedNext told script name names a
      → IsAskedNext told script name names b → a ≡ b
  one-next names a b h k =
      ⊎_elim
      (λ l. next-of names a b h k (omega (arith, l)))
      (λ l. sym (next-of names b a k h l))
      (cases_lt (length h.ms) (length k.ms))

-- ---- a read that failed

told-front :
    (files : Files) (rs : List Read) (r : Read) → AreTold files (rs ++ r ∷ []) → AreTold files rs
told-front files [] r h = tt
told-front files (q ∷ rs) r h = (h.0, told-front files rs r h.1)

agrees-front :
    (told : Told) (rs : List Read) (r : Read) → Agrees told (rs ++ r ∷ []) → Agrees told rs
agrees-front told [] r h = tt
agrees-front told (q ∷ rs) r h = (h.0, told-front told.modules rs r h.1)

told-on :
    (files : Files) (rs : List Read) (r : Read) → AreTold files rs
    → ((c : Option (List ℕ)) → IsTold c r.most r.answer) → AreTold files (rs ++ r ∷ [])
told-on files [] r h t = (t (files r.name), tt)
told-on files (q ∷ rs) r h t = (h.0, told-on files rs r h.1 t)

agrees-on :
    (told : Told) (rs : List Read) (r : Read) → Agrees told rs
    → ((c : Option (List ℕ)) → IsTold c r.most r.answer) → Agrees told (rs ++ r ∷ [])
agrees-on told [] r h t = (t told.script, tt)
agrees-on told (q ∷ rs) r h t = (h.0, told-on told.modules rs r h.1 t)

pub failing-loads :
    {H : Type 0} (moves : Moves H) (old new : H) (script name : Text)
    → EndsFailed moves old script name new → Loads moves old script name (Err shelf_fault) new
failing-loads moves old new script name h =
    let r : Read = record {
      name = encode_utf8_all h.path;
      most = most_bytes;
      answer = Err Failed;
    } in
    let names = map-append (λ (q : Read). q.name) h.made (r ∷ []) in
    record {
      made = h.made ++ r ∷ [];
      led = reads-more moves old h.mid new h.made r h.led h.fails;
      limit = All-push (λ (q : Read). q.most ≡ most_bytes) h.made r h.limit refl;
      comes = λ told a.
          let n = h.next told (agrees-front told h.made r a) in
          inr (record {
            unread = faulted;
            ms = n.ms;
            loaded = n.loaded;
            first =
                subst (λ (ns : List (List ℕ)). IsPrefix ns (asked script n.ms)) (sym names) n.asked;
          });
      some = (h.some.0, agrees-on h.some.0 h.made r h.some.1 (λ c. tt));
    }
