-- What a combine promises.
use Rattle.std.proofs.Common.{◌≡◌, ◌≢◌, inl, inr, ◌∙◌, ◌<◌, ◌++◌, Bool, true, false, true≢false, not, cond, if◌then◌else◌, refl, sym, ap, subst, List, [], ◌∷◌, map, filter, length, Option, Some, None, Result, Ok, Err, arith}
use Rattle.std.specs.Prelude.{◌⊎◌, ◌||◌}
use Rattle.std.specs.FinMap as finite
use Rattle.std.specs.FinMap.{get-insert, get-remove}
use Rattle.std.specs.Ordering.{is_eq, eq_by_cmp}
use Rattle.std.specs.Str.{bytes_eq}
use Rattle.std.specs.declared.cmp.Ordering.TheVariants.{Less, Equal, Greater}
use Rattle.std.proofs.lemmas.Cmp.{tied_itself}
use Rattle.std.proofs.lemmas.List.{length-append}
use Rattle.std.proofs.lemmas.Slice.Eq.{bytes_eq-Decides}
use Rattle.cov_contexts.specs.declared.plugins.Plugin.{Ghosts as PluginOf}
use Rattle.cov_combine.specs.Aliases.{Rules, alias_of, rules_from}
use Rattle.cov_combine.specs.Combined.{flag_of, has_both_kinds, combined}
use Rattle.cov_combine.proofs.Laws.{combined-any_order}
use Rattle.cov_config.specs.Settings.{Settings}
use Rattle.cov_data.specs.DataSet.{DataSet, text_cmp}
use Rattle.cov_data.proofs.FileViews.{text_cmp_total, text_cmp_same}
use Rattle.cov_programs.specs.Programs.{give, bind, each}
use Rattle.cov_programs.proofs.Parts.{each-keeps}
use Rattle.cov_programs.proofs.Results.{ok_no_err}
use Rattle.cov_vault.specs.Answers.{IsListed}
use Rattle.cov_vault.specs.Contents.{Contents}
use Rattle.cov_vault.specs.declared.vault.Content.{Content}
use Rattle.cov_vault.specs.declared.vault.Content.TheVariants.{Good}
use Rattle.cov_vault.specs.declared.vault.VaultError.{VaultError}
use Rattle.cov_vault.specs.declared.vault.VaultError.TheVariants as vault_error
use Rattle.cov_why.specs.Answers.{Refusal, mixed}
use Rattle.cov_words.specs.Values.{Word}
use Rattle.cov_step.specs.Calls.{Answered, refuse}
use Rattle.cov_step.specs.Answers.{given_or, vault_refusal, Before, nothing, there, bad_row}
use Rattle.cov_step.specs.Commands.{combined_into, combine_by, combine}
use Rattle.cov_step.specs.Names.{data_name, is_named, removable}
use Rattle.cov_step.specs.Phases.{needed, before, settings, own_name, inputs, is_part_of, has_own, own_input, some_input, same_kind, saving, removing, removing_all, done}
use Rattle.cov_headline.specs.Commands.{Loses}
use Rattle.cov_headline.specs.Promises.{IsSet, HasOwn, names_with_data, HasInputs, CombinePromise}
use Rattle.cov_headline.specs.Told.{Held}
use Rattle.cov_headline.proofs.Going.{Goes, is_quiet, went, quietly, gave, quiet-settings, quiet-before, quiet-needed, quiet-inputs, quiet-own_input, quiet-some_input, quiet-same_kind}
use Rattle.cov_headline.proofs.Reporting.{needed-so}
use Rattle.cov_headline.proofs.Running.{Stood, before-so}

-- ---- names of a map

apart : (own n : Word) → n ≢ own → eq_by_cmp text_cmp own n ≡ false
apart own n h = by (text_cmp own n) refl
  where
    by : (r : _) → text_cmp own n ≡ r → is_eq r ≡ false
    by Less e = refl
    by Equal e = absurd (h (sym (text_cmp_same own n e)))
    by Greater e = refl

itself : (own : Word) → eq_by_cmp text_cmp own own ≡ true
itself own = ap is_eq (tied_itself text_cmp_total own)

pub get-own : (m : Contents) (own : Word) (c : Content) → finite.get (finite.insert m own c) own ≡ Some c
get-own m own c = get-insert text_cmp_total m own c own ∙ ap (λ b. cond b (Some c) (finite.get m own)) (itself own)

pub get-other : (m : Contents) (own name : Word) (c : Content) → name ≢ own → finite.get (finite.insert m own c) name ≡ finite.get m name
get-other m own name c h = get-insert text_cmp_total m own c name ∙ ap (λ b. cond b (Some c) (finite.get m name)) (apart name own (λ e. h (sym e)))

pub lost : (m : Contents) (k name : Word) → (finite.get (finite.remove m k) name ≡ finite.get m name) ⊎ (finite.get (finite.remove m k) name ≡ None)
lost m k name = by (eq_by_cmp text_cmp name k) (get-remove text_cmp_total m k name)
  where
    by : (b : Bool) → finite.get (finite.remove m k) name ≡ cond b None (finite.get m name) → (finite.get (finite.remove m k) name ≡ finite.get m name) ⊎ (finite.get (finite.remove m k) name ≡ None)
    by true e = inr e
    by false e = inl e

stays : (m : Contents) (k own : Word) → k ≢ own → finite.get (finite.remove m k) own ≡ finite.get m own
stays m k own h = get-remove text_cmp_total m k own ∙ ap (λ b. cond b None (finite.get m own)) (apart own k h)

-- ---- inputs are removed, and never the data file

-- none of these names is the data file's
abbrev NoneIs : Word → List Word → Type 0
NoneIs own [] = Unit {0}
NoneIs own (n ∷ ns) = (n ≢ own) × NoneIs own ns

not-own : (own n : Word) (ns rest : List Word) (b c : Bool) → bytes_eq n own ≡ b → NoneIs own ns → NoneIs own rest → NoneIs own (if b || c then ns else n ∷ rest)
not-own own n ns rest true c e h g = h
not-own own n ns rest false true e h g = h
not-own own n ns rest false false e h g = (λ same. true≢false (sym (ap (λ x. bytes_eq x own) same ∙ (bytes_eq-Decides own own).1 refl) ∙ e), g)

never-own : (own : Word) (done ns : List Word) → NoneIs own (removable own done ns)
never-own own done [] = tt
never-own own done (n ∷ ns) = not-own own n (removable own done ns) (removable own (n ∷ done) ns) (bytes_eq n own) (is_named done n) refl (never-own own done ns) (never-own own (n ∷ done) ns)

module _ {P : Type 0} (plugin : PluginOf P) where
  -- some names are gone, and the data file's isn't
  record Gone (own : Word) (old new : Held P) : Type 0 where
    loses : Loses old.contents new.contents
    stays : finite.get new.contents own ≡ finite.get old.contents own
    same : new ≡ record old { contents = new.contents }

  none-gone : (own : Word) (old new : Held P) → new ≡ old → Gone own old new
  none-gone own old new e = record {
    loses = λ name. inl (ap (λ (w : Held P). finite.get w.contents name) e);
    stays = ap (λ (w : Held P). finite.get w.contents own) e;
    same = e ∙ ap (λ (w : Held P). record old { contents = w.contents }) (sym e);
  }

  more-gone : (own : Word) (u v w : Held P) → Gone own u v → Gone own v w → Gone own u w
  more-gone own u v w a b = record {
    loses = λ name. by name (a.loses name) (b.loses name);
    stays = b.stays ∙ a.stays;
    same = b.same ∙ ap (λ (z : Held P). record z { contents = w.contents }) a.same;
  }
    where
      by : (name : Word) → (finite.get v.contents name ≡ finite.get u.contents name) ⊎ (finite.get v.contents name ≡ None) → (finite.get w.contents name ≡ finite.get v.contents name) ⊎ (finite.get w.contents name ≡ None)
          → (finite.get w.contents name ≡ finite.get u.contents name) ⊎ (finite.get w.contents name ≡ None)
      by name x (inr f) = inr f
      by name (inl e) (inl f) = inl (f ∙ e)
      by name (inr e) (inl f) = inr (f ∙ e)

  removed-so : (own name : Word) (b : Unit {0}) (old new : Held P) → name ≢ own → Goes plugin (removing name) old (Ok b) new → Gone own old new
  removed-so own name b old new h (inl s) = absurd s.wanting
  removed-so own name b old new h (inr (None, u, m, rest)) =
      let e = (gave plugin tt b u new rest).1 in
      let c : new.contents ≡ finite.remove old.contents name = ap (λ (w : Held P). w.contents) e ∙ m.0.1 in record {
        loses = λ q. subst (λ z. (finite.get z q ≡ finite.get old.contents q) ⊎ (finite.get z q ≡ None)) (sym c) (lost old.contents name q);
        stays = ap (λ z. finite.get z own) c ∙ stays old.contents name own h;
        same = e ∙ m.1 ∙ ap (λ (w : Held P). record old { contents = w.contents }) (sym e);
      }
  removed-so own name b old new h (inr (Some vault_error.Absent, u, m, rest)) =
      none-gone own old new ((gave plugin tt b u new rest).1 ∙ m.1 ∙ ap (λ c. record old { contents = c }) m.0.1)
  removed-so own name b old new h (inr (Some vault_error.NotSchema7, u, m, inl s)) = absurd s.wanting
  removed-so own name b old new h (inr (Some vault_error.NotSchema7, u, m, inr (is, same))) = absurd (ok_no_err is)
  removed-so own name b old new h (inr (Some (vault_error.BadRow i), u, m, inl s)) = absurd s.wanting
  removed-so own name b old new h (inr (Some (vault_error.BadRow i), u, m, inr (is, same))) = absurd (ok_no_err is)
  removed-so own name b old new h (inr (Some vault_error.Failed, u, m, inl s)) = absurd s.wanting
  removed-so own name b old new h (inr (Some vault_error.Failed, u, m, inr (is, same))) = absurd (ok_no_err is)
  removed-so own name b old new h (inr (Some vault_error.NoMemory, u, m, inl s)) = absurd s.wanting
  removed-so own name b old new h (inr (Some vault_error.NoMemory, u, m, inr (is, same))) = absurd (ok_no_err is)

  all-removed : (own : Word) (names : List Word) (bs : List (Unit {0})) (old new : Held P) → NoneIs own names → Goes plugin (each removing names) old (Ok bs) new → Gone own old new
  all-removed own [] bs old new h g = none-gone own old new (gave plugin [] bs old new g).1
  all-removed own (n ∷ ns) bs old new h g =
      let x = went plugin (removing n) (λ b. bind (each removing ns) (λ more. give (b ∷ more))) old new bs g in
      let y = went plugin (each removing ns) (λ more. give (x.0 ∷ more)) x.1 new bs x.3 in
      let e = (gave plugin (x.0 ∷ y.0) bs y.1 new y.3).1 in
      more-gone own old x.1 new (removed-so own n x.0 old x.1 h.0 x.2) (subst (λ w. Gone own x.1 w) (sym e) (all-removed own ns y.0 x.1 y.1 h.1 y.2))

  kept-or-removed : (keep : Bool) (own : Word) (others : List Word) (bs : List (Unit {0})) (old new : Held P) → Goes plugin (removing_all keep (removable own [] others)) old (Ok bs) new → Gone own old new
  kept-or-removed true own others bs old new g = none-gone own old new (gave plugin [] bs old new g).1
  kept-or-removed false own others bs old new g = all-removed own (removable own [] others) bs old new (never-own own [] others) g

  -- ---- the combined data are saved

  saved-so : (own : Word) (content : DataSet) (b : Unit {0}) (old new : Held P) → Goes plugin (saving own content) old (Ok b) new → (new.contents ≡ finite.insert old.contents own (Good content)) × (new ≡ record old { contents = new.contents })
  saved-so own content b old new (inl s) = absurd s.wanting
  saved-so own content b old new (inr (None, u, m, rest)) =
      let e = (gave plugin tt b u new rest).1 in
      (ap (λ (w : Held P). w.contents) e ∙ m.0.1, e ∙ m.1 ∙ ap (λ (w : Held P). record old { contents = w.contents }) (sym e))
  saved-so own content b old new (inr (Some x, u, m, inl s)) = absurd s.wanting
  saved-so own content b old new (inr (Some x, u, m, inr (is, same))) = absurd (ok_no_err is)

  -- ---- the inputs

  kind-so : (b : Bool) (ds all : List DataSet) (r : Refusal) (old new : Held P) → Goes plugin (if b then refuse r else give ds) old (Ok all) new → (b ≡ false) × (all ≡ ds)
  kind-so true ds all r old new (inl s) = absurd s.wanting
  kind-so true ds all r old new (inr (is, same)) = absurd (ok_no_err is)
  kind-so false ds all r old new h = (refl, (gave plugin ds all old new h).0)

  own-so : (append : Bool) (own : Word) (was : Before) (first : List DataSet) (old new : Held P) (held : Option Content) → Stood was held → Goes plugin (own_input append own was) old (Ok first) new
      → HasOwn append held first × (has_own append was ≡ true → 0 < length first)
  own-so false own was first old new held at h =
      let e = (gave plugin [] first old new h).0 in
      (subst (λ ds. HasOwn false held ds) (sym e) (inl refl), λ t. absurd (true≢false (sym t)))
  own-so true own nothing first old new held at h =
      let e = (gave plugin [] first old new h).0 in
      (subst (λ ds. HasOwn true held ds) (sym e) (inr at), λ t. absurd (true≢false (sym t)))
  own-so true own (there d) first old new held at h =
      let e = (gave plugin (d ∷ []) first old new h).0 in
      (subst (λ ds. HasOwn true held ds) (sym e) (refl, at, refl), λ t. subst (λ ds. 0 < length ds) (sym e) (omega arith))
  own-so true own (bad_row i) first old new held at (inl s) = absurd s.wanting
  own-so true own (bad_row i) first old new held at (inr (is, same)) = absurd (ok_no_err is)

  some-so : (name : Word) (own : Bool) (ns : List Word) (b : Unit {0}) (old new : Held P) → Goes plugin (some_input name own ns) old (Ok b) new → (own ≡ true) ⊎ (0 < length ns)
  some-so name own (n ∷ ns) b old new h = inr (omega arith)
  some-so name true [] b old new h = inl refl
  some-so name false [] b old new (inl s) = absurd s.wanting
  some-so name false [] b old new (inr (is, same)) = absurd (ok_no_err is)

  listed-so : (own : Word) (x : Result (List Word) VaultError) (names : List Word) (old u new : Held P) → IsListed old.contents x → Goes plugin (bind (given_or (vault_refusal own) x) (λ found. give (filter (is_part_of own) found))) u (Ok names) new → names ≡ filter (is_part_of own) (finite.keys old.contents)
  listed-so own (Ok found) names old u new is h = (gave plugin (filter (is_part_of own) found) names u new h).0 ∙ ap (filter (is_part_of own)) is
  listed-so own (Err e) names old u new is (inl s) = absurd s.wanting
  listed-so own (Err e) names old u new is (inr (bad, same)) = absurd (ok_no_err bad)

  names-so : (own : Word) (named names : List Word) (old new : Held P) → Goes plugin (inputs own named) old (Ok names) new → names ≡ names_with_data own named old.contents
  names-so own (n ∷ ns) names old new h = (gave plugin (map data_name (n ∷ ns)) names old new h).0
  names-so own [] names old new (inl s) = absurd s.wanting
  names-so own [] names old new (inr (x, u, m, rest)) = listed-so own x names old u new m.0 rest

  inputs-so : (names : List Word) (ds : List DataSet) (old new : Held P) → Goes plugin (each needed names) old (Ok ds) new → HasInputs old.contents names ds
  inputs-so [] ds old new h = subst (HasInputs old.contents []) (sym (gave plugin [] ds old new h).0) tt
  inputs-so (n ∷ ns) ds old new h =
      let x = quietly plugin (needed n) (λ d. bind (each needed ns) (λ more. give (d ∷ more))) old new ds (quiet-needed n) h in
      let y = went plugin (each needed ns) (λ more. give (x.0 ∷ more)) old new ds x.2 in
      subst (HasInputs old.contents (n ∷ ns)) (sym (gave plugin (x.0 ∷ y.0) ds y.1 new y.3).0) (needed-so plugin n old old x.0 x.1, inputs-so ns y.0 old y.1 y.2)

  as-many : (held : Contents) (names : List Word) (ds : List DataSet) → HasInputs held names ds → 0 < length names → 0 < length ds
  as-many held [] ds h some = absurd (omega (arith, some))
  as-many held (n ∷ ns) [] h some = absurd h
  as-many held (n ∷ ns) (d ∷ ds) h some = omega arith

  either-some : (first rest : List DataSet) → (0 < length first) ⊎ (0 < length rest) → 0 < length (first ++ rest)
  either-some first rest (inl h) = omega (arith, h, length-append first rest)
  either-some first rest (inr h) = omega (arith, h, length-append first rest)

  -- ---- a combine that did its work

  module _ (own : Word) (rules : Rules) (append keep : Bool) (named : List Word) (old : Held P) (a : Answered) (new : Held P) where
    by-combined : (others : List Word) (first : List DataSet) → others ≡ names_with_data own named old.contents → HasOwn append (finite.get old.contents own) first → (0 < length first) ⊎ (0 < length others) → Goes plugin (combined_into own rules keep others first) old (Ok a) new
        → CombinePromise own rules append named old a new
    by-combined others first are has some h =
        let k = quietly plugin (each needed others) (λ rest. bind (same_kind (first ++ rest)) (λ all. bind (saving own (combined (alias_of rules) all)) (λ a. bind (removing_all keep (removable own [] others)) (λ b. give done)))) old new a (each-keeps is_quiet needed quiet-needed others) h in
        let rest : List DataSet = k.0 in
        let ds : List DataSet = first ++ rest in
        let l = quietly plugin (same_kind ds) (λ all. bind (saving own (combined (alias_of rules) all)) (λ a. bind (removing_all keep (removable own [] others)) (λ b. give done))) old new a (quiet-same_kind ds) k.2 in
        let kind = kind-so (has_both_kinds ds) ds l.0 (mixed (flag_of ds) (not (flag_of ds))) old old l.1 in
        let m = went plugin (saving own (combined (alias_of rules) l.0)) (λ a. bind (removing_all keep (removable own [] others)) (λ b. give done)) old new a l.2 in
        let n = went plugin (removing_all keep (removable own [] others)) (λ b. give done) m.1 new a m.3 in
        let inputs = inputs-so others rest old old k.1 in
        finish others first rest are has some inputs kind.0 m.1 n.1 (sub {u = m.1} kind.1 (saved-so own (combined (alias_of rules) l.0) m.0 old m.1 m.2)) (kept-or-removed keep own others n.0 m.1 n.1 n.2) (gave plugin done a n.1 new n.3)
      where
        sub : {all ds : List DataSet} {u : Held P} → all ≡ ds → (u.contents ≡ finite.insert old.contents own (Good (combined (alias_of rules) all))) × (u ≡ record old { contents = u.contents })
            → (u.contents ≡ finite.insert old.contents own (Good (combined (alias_of rules) ds))) × (u ≡ record old { contents = u.contents })
        sub {all = all} {ds = ds} {u = u} e s = (s.0 ∙ ap (λ x. finite.insert old.contents own (Good (combined (alias_of rules) x))) e, s.1)

        finish : (others : List Word) (first rest : List DataSet) → others ≡ names_with_data own named old.contents → HasOwn append (finite.get old.contents own) first → (0 < length first) ⊎ (0 < length others) → HasInputs old.contents others rest → has_both_kinds (first ++ rest) ≡ false
            → (u v : Held P) → (u.contents ≡ finite.insert old.contents own (Good (combined (alias_of rules) (first ++ rest)))) × (u ≡ record old { contents = u.contents }) → Gone own u v → (a ≡ done) × (new ≡ v)
            → CombinePromise own rules append named old a new
        finish others first rest are has some inputs one u v saved gone end =
            let many : 0 < length (first ++ rest) = either-some first rest (elim some [ inl f ↦ inl f | inr o ↦ inr (as-many old.contents others rest inputs o) ]) in
            let all : Contents = finite.insert old.contents own (Good (combined (alias_of rules) (first ++ rest))) in
            let now : new.contents ≡ v.contents = ap (λ (w : Held P). w.contents) end.1 in record {
              first = first;
              rest = rest;
              has_own = has;
              has_rest = subst (λ ns. HasInputs old.contents ns rest) are inputs;
              some = many;
              one_kind = one;
              saved = ap (λ c. finite.get c own) now ∙ gone.stays ∙ ap (λ c. finite.get c own) saved.0 ∙ get-own old.contents own (Good (combined (alias_of rules) (first ++ rest)));
              any_order = λ es moved. combined-any_order (alias_of rules) (first ++ rest) es many one moved;
              others = λ name apart.
                  let was : finite.get u.contents name ≡ finite.get old.contents name = ap (λ c. finite.get c name) saved.0 ∙ get-other old.contents own name (Good (combined (alias_of rules) (first ++ rest))) apart in
                  elim (gone.loses name) [
                    | inl e ↦ inl (ap (λ c. finite.get c name) now ∙ e ∙ was)
                    | inr e ↦ inr (ap (λ c. finite.get c name) now ∙ e)
                  ];
              ended = end.0;
              same = end.1 ∙ gone.same ∙ ap (λ (w : Held P). record w { contents = v.contents }) saved.1 ∙ ap (λ c. record old { contents = c }) (sym now);
            }

    by-combine : Goes plugin (combine_by own rules append keep named) old (Ok a) new → CombinePromise own rules append named old a new
    by-combine h =
        let x = quietly plugin (before own) (λ was. bind (inputs own named) (λ others. bind (some_input own (has_own append was) others) (λ a. bind (own_input append own was) (combined_into own rules keep others)))) old new a (quiet-before own) h in
        let y = quietly plugin (inputs own named) (λ others. bind (some_input own (has_own append x.0) others) (λ a. bind (own_input append own x.0) (combined_into own rules keep others))) old new a (quiet-inputs own named) x.2 in
        let z = quietly plugin (some_input own (has_own append x.0) y.0) (λ a. bind (own_input append own x.0) (combined_into own rules keep y.0)) old new a (quiet-some_input own (has_own append x.0) y.0) y.2 in
        let w = quietly plugin (own_input append own x.0) (combined_into own rules keep y.0) old new a (quiet-own_input append own x.0) z.2 in
        let o = own-so append own x.0 w.0 old old (finite.get old.contents own) (before-so plugin own old x.0 x.1) w.1 in
        by-combined y.0 w.0 (names-so own named y.0 old old y.1) o.0 (elim (some-so own (has_own append x.0) y.0 z.0 old old z.1) [ inl t ↦ inl (o.1 t) | inr n ↦ inr n ]) w.2

  pub combine-promise : (append keep : Bool) (data_file rcfile : Option Word) (named : List Word) (old : Held P) (a : Answered) (new : Held P) → Goes plugin (combine append keep data_file rcfile named) old (Ok a) new
      → (s : Settings) × IsSet plugin rcfile old s × CombinePromise (own_name data_file s) (rules_from s.paths) append named old a new
  combine-promise append keep data_file rcfile named old a new h =
      let x = quietly plugin (settings rcfile) (λ s. combine_by (own_name data_file s) (rules_from s.paths) append keep named) old new a (quiet-settings rcfile) h in
      (x.0, record { ends = x.1 }, by-combine (own_name data_file x.0) (rules_from x.0.paths) append keep named old a new x.2)
