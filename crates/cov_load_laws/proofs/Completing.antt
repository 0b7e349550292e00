-- What can be loaded is, and what is loaded can be.
use Rattle.std.proofs.Common.{◌≡◌, ℕ, zero, suc, ◌+◌, ◌<◌, ◌≤◌, List, [], ◌∷◌, ◌++◌, length, Option, Some, None, refl, sym, ap, ◌∙◌, subst, arith}
use Rattle.std.specs.List.{slice_get}
use Rattle.py_syntax.specs.Tree.{Text}
use Rattle.py_meaning.specs.Loading.{folder_of, file_of}
use Rattle.py_meaning.specs.Modules.{LoadedModule}
use Rattle.cov_run.specs.Loading.{most_total, most_modules, Told, file_bytes, total_bytes, wanted, IsRead, IsLoaded}
use Rattle.cov_run.specs.Refusals.{next_file}
use Rattle.cov_run.proofs.Modules.{length-more, content-later}
use Rattle.cov_run.proofs.Progressing.{wanted-after}
use Rattle.cov_load_laws.specs.Completeness.{HasSource, AreChained, CanLoad}
use Rattle.cov_load_laws.specs.Loadings.{IsAll}
use Rattle.cov_load_laws.specs.Texts.{OneText}
use Rattle.cov_load_laws.proofs.Chains.{chained, chain-script, chain-more, same-whole, has-next, next-light}
use Rattle.cov_load_laws.proofs.Loadings.{by-length, not-longer, is-all}
use Rattle.cov_load_laws.proofs.Outcomes.{some-same, none-some}

-- ---- what can be loaded

module _ (told : Told) (script name : Text) (can : CanLoad told script name) where
  abbrev SomeLoaded : Type 0
  SomeLoaded = (ns : List LoadedModule) × IsLoaded told script name ns

  -- none is wanted any more, or the one that is wanted can be read
  by-next :
      (ms : List LoadedModule) (o : Option Text) → AreChained told script name ms → 0 < length ms
      → wanted told.modules (folder_of script) ms ≡ o
      → ((m : LoadedModule) → AreChained told script name (ms ++ m ∷ []) → SomeLoaded) → SomeLoaded
  by-next ms None h some e on = (
    ms,
    record {
      loaded = record {
        read = h.read;
        first = h.first;
        next = h.next;
        few = can.few ms h;
        light = can.light ms h;
      };
      some = some;
      all = e;
    },
  )
  by-next ms (Some x) h some e on =
      let source = can.goes_on ms x h some e in
      let path = file_of (folder_of script) x in
      let m : LoadedModule = record { name = x; path = path; body = source.body } in
      let read : IsRead (file_bytes told.modules path) m =
      record {
        bytes = source.bytes;
        there = source.there;
        small = source.small;
        read = source.read;
      } in
      on m (chain-more told script name ms m h some read e refl)

  -- the modules are loaded, and so many are free
  loads-on :
      (free : ℕ) (ms : List LoadedModule) → AreChained told script name ms → 0 < length ms
      → most_modules < free + length ms → SomeLoaded
  loads-on zero ms h some enough =
      let few = can.few ms h in absurd (omega (arith, few, enough))
  loads-on (suc free) ms h some enough =
      by-next ms (wanted told.modules (folder_of script) ms) h some refl
      (λ m c.
      let one = length-more ms m in
      loads-on free (ms ++ m ∷ []) c (omega (arith, one)) (omega (arith, one, enough)))

  can-load : SomeLoaded
  can-load =
      let source = can.begins in
      let m : LoadedModule = record { name = name; path = script; body = source.body } in
      let read : IsRead told.script m =
      record {
        bytes = source.bytes;
        there = source.there;
        small = source.small;
        read = source.read;
      } in
      loads-on most_modules (m ∷ []) (chain-script told script name m refl refl read) (omega arith)
      (omega arith)

module _ (one : OneText) where
  pub completes :
      (told : Told) (script name : Text) → CanLoad told script name
      → (ms : List LoadedModule) × IsLoaded told script name ms × IsAll told script name ms
  completes told script name can =
      let p = can-load told script name can in (p.0, p.1, is-all one told script name p.0 p.1)

-- ---- what is loaded

source-of : (content : Option (List ℕ)) (m : LoadedModule) → IsRead content m → HasSource content
source-of content m r =
    record { bytes = r.bytes; body = m.body; there = r.there; small = r.small; read = r.read }

module _ (one : OneText) (told : Told) (script name : Text) (ns : List LoadedModule)
    (h : IsLoaded told script name ns) where
  -- a chain is no longer, and where it is as long it is the same
  no-longer :
      (ms : List LoadedModule) (P : Type 0) → AreChained told script name ms
      → (length ms < length ns → P) → (ms ≡ ns → P) → P
  no-longer ms P a f g =
      let b = chained told script name ns h.loaded in
      by-length ms ns P f
      (λ l. absurd (not-longer one told script name ns ms h a l))
      (λ e. g (same-whole one told script name ms ns a b e))

  front-few :
      (ms : List LoadedModule) → AreChained told script name ms → length ms ≤ most_modules
  front-few ms a =
      let few = h.loaded.few in
      no-longer ms (length ms ≤ most_modules) a
      (λ l. omega (arith, l, few))
      (λ e. let same = ap length e in omega (arith, same, few))

  front-light :
      (ms : List LoadedModule) → AreChained told script name ms → total_bytes told ms ≤ most_total
  front-light ms a =
      no-longer ms (total_bytes told ms ≤ most_total) a
      (λ l.
      let b = chained told script name ns h.loaded in
      let n = has-next one told script name ms ns a b l in
      let light = next-light one told script name ms ns a b n (omega (arith, l)) in
      let all = h.loaded.light in
      omega (arith, light, all))
      (λ e.
      subst (λ (ks : List LoadedModule). total_bytes told ks ≤ most_total) (sym e) h.loaded.light)

  next-source :
      (ms : List LoadedModule) (x : Text) → AreChained told script name ms → 0 < length ms
      → wanted told.modules (folder_of script) ms ≡ Some x
      → HasSource (file_bytes told.modules (file_of (folder_of script) x))
  next-source ms x a some e =
      let file = file_bytes told.modules (file_of (folder_of script) x) in
      no-longer ms (HasSource file) a
      (λ l.
      let n = has-next one told script name ms ns a (chained told script name ns h.loaded) l in
      let after = wanted-after told script ms x some e in
      let lies = some-same (next_file told.modules script ms) _ _ n.lies after in
      let later = content-later told (length ms) n.m.path some in
      let read = subst (λ (c : Option (List ℕ)). IsRead c n.m) later n.read in
      source-of file n.m (subst (λ (p : Text). IsRead (file_bytes told.modules p) n.m) lies read))
      (λ same.
      let next = ap (wanted told.modules (folder_of script)) (sym same) ∙ e in
      absurd (none-some (wanted told.modules (folder_of script) ns) x h.all next))

  first-source : (ks : List LoadedModule) → ks ≡ ns → HasSource told.script
  first-source [] e = absurd (let some = h.some in let j = ap length e in omega (arith, some, j))
  first-source (k ∷ ks) e =
      let at = ap (λ (l : List LoadedModule). slice_get l 0) (sym e) in
      source-of told.script k (h.loaded.read 0 k at)

  pub is-needed : CanLoad told script name
  is-needed = record {
    begins = first-source ns refl;
    goes_on = λ ms x a some e. next-source ms x a some e;
    few = λ ms a. front-few ms a;
    light = λ ms a. front-light ms a;
  }
