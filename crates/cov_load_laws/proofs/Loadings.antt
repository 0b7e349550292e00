-- What loading comes to is one thing: after the same modules the next file is the same, and comes
-- to one thing.
use Rattle.std.proofs.Common.{◌≡◌, inl, inr, ⊎_elim, ℕ, ◌+◌, ◌<◌, ◌≤◌, List, length, Option, Some, None, Ok, Err, refl, sym, ap, ◌∙◌, subst, arith}
use Rattle.std.proofs.lemmas.Bool.{cases_lt}
use Rattle.py_syntax.specs.Tree.{Text}
use Rattle.py_meaning.specs.Modules.{LoadedModule}
use Rattle.cov_why.specs.Answers.{Refusal}
use Rattle.cov_run.specs.Reading.{tree}
use Rattle.cov_run.specs.Loading.{Told, content_at, total_bytes, AreLoaded, IsLoaded}
use Rattle.cov_run.specs.Loads.{Loading, LoadsTo}
use Rattle.cov_run.specs.Refusals.{HasRoom, Refuses, next_file, IsStopped}
use Rattle.cov_load_laws.specs.Completeness.{AreChained}
use Rattle.cov_load_laws.specs.Loadings.{IsAll, IsCutShort}
use Rattle.cov_load_laws.specs.Outcomes.{HasOutcome, read_as, refusal_for}
use Rattle.cov_load_laws.specs.Texts.{OneText}
use Rattle.cov_load_laws.proofs.Chains.{after-all, chained, has-next, next-light, same-whole}
use Rattle.cov_load_laws.proofs.Outcomes.{some-same, none-some, one-outcome, refused-outcome, one-answer}

-- of two lists the one is longer, or the other, or they are of one length
pub by-length :
    {X : Type 0} (xs ys : List X) (P : Type 0) → (length xs < length ys → P)
    → (length ys < length xs → P) → (length xs ≡ length ys → P) → P
by-length xs ys P f g h =
    ⊎_elim
    f
    (λ a. ⊎_elim g (λ b. h (omega (arith, a, b))) (cases_lt (length ys) (length xs)))
    (cases_lt (length xs) (length ys))

module _ (one : OneText) (told : Told) (script name : Text) where
  -- ---- all modules, and others

  -- no chain is longer than one whose modules are all loaded
  pub not-longer :
      (ms ns : List LoadedModule) → IsLoaded told script name ms
      → AreChained told script name ns → length ms < length ns → ⊥
  not-longer ms ns h b l =
      let n = has-next one told script name ms ns (chained told script name ms h.loaded) b l in
      let none = after-all told script ms h.some h.all in
      none-some (next_file told.modules script ms) n.m.path none n.lies

  one-program :
      (ms ns : List LoadedModule) → IsLoaded told script name ms → IsLoaded told script name ns
      → ms ≡ ns
  one-program ms ns h k =
      let a = chained told script name ms h.loaded in
      let b = chained told script name ns k.loaded in
      by-length ms ns (ms ≡ ns)
      (λ l. absurd (not-longer ms ns h b l))
      (λ l. absurd (not-longer ns ms k a l))
      (λ e. same-whole one told script name ms ns a b e)

  -- ---- a refused file

  -- what a file comes to that was read
  read-outcome :
      (ms ns : List LoadedModule) → AreLoaded told script name ms → AreLoaded told script name ns
      → length ms < length ns → (path : Text) → next_file told.modules script ms ≡ Some path
      → (m : LoadedModule)
      × HasOutcome (length ms) (total_bytes told ms) (content_at told (length ms) path)
      (read_as (tree m.body))
  read-outcome ms ns h k l path next =
      let a = chained told script name ms h in
      let b = chained told script name ns k in
      let n = has-next one told script name ms ns a b l in
      let light = next-light one told script name ms ns a b n (omega (arith, l)) in
      let few = k.few in
      let all = k.light in
      let lies = some-same (next_file told.modules script ms) n.m.path path n.lies next in
      let room :
      HasRoom (length ms) (total_bytes told ms) (content_at told (length ms) n.m.path) n.read.bytes =
      record {
        next = record { there = n.read.there; few = omega (arith, l, few) };
        small = n.read.small;
        light = omega (arith, light, all);
      } in (
        n.m,
        subst
            (λ (p : Text).
            HasOutcome (length ms) (total_bytes told ms) (content_at told (length ms) p)
            (read_as (tree n.m.body)))
            lies (n.read.bytes, room, n.read.read, λ q. cc),
      )

  -- so the file that refuses a program isn't that of a module
  not-read :
      (ns : List LoadedModule) (r : Refusal) → AreLoaded told script name ns
      → (s : IsStopped told script name r) → length s.ms < length ns → ⊥
  not-read ns r k s l =
      let file : Option (List ℕ) = content_at told (length s.ms) s.path in
      let total = total_bytes told s.ms in
      let o = refused-outcome (length s.ms) total s.path file r s.refuses in
      let n = read-outcome s.ms ns s.loaded k l s.path s.next in
      let same = one-outcome one (length s.ms) total file o.0 (read_as (tree n.0.body)) o.1 n.1 in
      none-some (refusal_for s.path o.0) r (ap (refusal_for s.path) same) o.2

  pub not-stopped :
      (ms : List LoadedModule) (r : Refusal) → IsLoaded told script name ms
      → IsStopped told script name r → ⊥
  not-stopped ms r h s =
      let a = chained told script name ms h.loaded in
      let b = chained told script name s.ms s.loaded in
      by-length ms s.ms ⊥
      (λ l. not-longer ms s.ms h b l)
      (λ l. not-read ms r h.loaded s l)
      (λ e.
      let same = same-whole one told script name ms s.ms a b e in
      let none = after-all told script ms h.some h.all in
      let next = ap (next_file told.modules script) same ∙ s.next in
      none-some (next_file told.modules script ms) s.path none next)

  -- one file refuses a program
  same-stop :
      (r q : Refusal) → (s : IsStopped told script name r) (t : IsStopped told script name q)
      → s.ms ≡ t.ms → r ≡ q
  same-stop r q s t same =
      let next = ap (next_file told.modules script) (sym same) ∙ s.next in
      let lies = some-same (next_file told.modules script t.ms) s.path t.path next t.next in
      one-answer one (length t.ms) (total_bytes told t.ms) t.path
      (content_at told (length t.ms) t.path) r q
      (subst
      (λ (p : Text).
      Refuses (length t.ms) (total_bytes told t.ms) p (content_at told (length t.ms) p) r)
      lies
      (subst
      (λ (ks : List LoadedModule).
      Refuses (length ks) (total_bytes told ks) s.path (content_at told (length ks) s.path) r)
      same s.refuses))
      t.refuses

  one-stop :
      (r q : Refusal) → IsStopped told script name r → IsStopped told script name q → r ≡ q
  one-stop r q s t =
      let a = chained told script name s.ms s.loaded in
      let b = chained told script name t.ms t.loaded in
      by-length s.ms t.ms (r ≡ q)
      (λ l. absurd (not-read t.ms r t.loaded s l))
      (λ l. absurd (not-read s.ms q s.loaded t l))
      (λ e. same-stop r q s t (same-whole one told script name s.ms t.ms a b e))

  -- ---- two loadings

  pub is-all : (ms : List LoadedModule) → IsLoaded told script name ms → IsAll told script name ms
  is-all ms h (Ok ns) k = inl (ap (λ ks. Ok ks) (one-program ns ms k h))
  is-all ms h (Err r) k = ⊎_elim (λ s. absurd (not-stopped ms r h s)) (λ u. inr u) k

  -- a refusal that wasn't cut short was one by a file
  stop-of :
      (r : Refusal) → ¬ (IsCutShort (Err r)) → LoadsTo told script name (Err r)
      → IsStopped told script name r
  stop-of r n h = ⊎_elim (λ s. s) (λ u. absurd (n u)) h

  pub one-loading :
      (l k : Loading) → ¬ (IsCutShort l) → ¬ (IsCutShort k) → LoadsTo told script name l
      → LoadsTo told script name k → l ≡ k
  one-loading (Ok ms) (Ok ns) a b h k = ap (λ ks. Ok ks) (one-program ms ns h k)
  one-loading (Ok ms) (Err q) a b h k = absurd (not-stopped ms q h (stop-of q b k))
  one-loading (Err r) (Ok ns) a b h k = absurd (not-stopped ns r k (stop-of r a h))
  one-loading (Err r) (Err q) a b h k =
      ap (λ x. Err x) (one-stop r q (stop-of r a h) (stop-of q b k))
