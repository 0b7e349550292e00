-- Plugins that are asked in turn, and those after them.
--     gives_then                some give no label, and those after them go on
--     Passed                    how far a walk through a list has come
--     labels, stays, leaves     what a plugin's answer makes of it
use Rattle.std.proofs.Common.{◌≡◌, inl, inr, ℕ, suc, ◌+◌, ◌<◌, ◌≤◌, List, [], ◌∷◌, ◌++◌, length, take, drop, get_or, slice_set, Option, Some, None, refl, sym, ap, subst, subst₂, ◌∙◌, arith, append-nil}
use Rattle.std.specs.List.{remove}
use Rattle.std.proofs.lemmas.List.{drop_more, take-append-drop, take-set, drop-set, drop-set-lt, length-set, length-take-le, take_at, drop_at}
use Rattle.std.proofs.Math.Seq.{take-suc-set}
use Rattle.std.proofs.Common.{add-one, append_assoc, length-append}
use Rattle.cov_event.specs.declared.plugin.Verdict.TheVariants.{Quiet, Label, Leave}
use Rattle.cov_contexts.specs.declared.plugins.Plugin.{Ghosts as PluginOf}
use Rattle.cov_contexts.specs.Plugins.{PluginsGive}

gives_then : {P : Type 0} (plugin : PluginOf P) (m f : List ℕ) (asked kept more : List P)
    (label : Option (List ℕ)) (new : List P) → PluginsGive plugin m f asked None kept →
    PluginsGive plugin m f more label new →
    PluginsGive plugin m f (asked ++ more) label (kept ++ new)
gives_then plugin m f [] kept more label new h k = rw h.1 k
gives_then plugin m f (p ∷ ps) kept more label new (inl gone) k =
    inl (gone.0, gone.1, gives_then plugin m f ps kept more label new gone.2 k)
gives_then plugin m f (p ∷ ps) kept more label new (inr (inl quiet)) k =
    inr
    (inl (
      quiet.0,
      quiet.1 ++ new,
      quiet.2,
      gives_then plugin m f ps quiet.1 more label new quiet.3 k,
      ap (λ t. t ++ new) quiet.4,
    ))
gives_then plugin m f (p ∷ ps) kept more label new (inr (inr gave)) k =
    absurd (let e = gave.3 in cc)

-- The list at first is `old`; it is `items` now, of which so many were asked.
pub record Passed {P : Type 0} (plugin : PluginOf P) (m f : List ℕ) (old items : List P)
    (at : ℕ) : Type 0 where
  pub asked : List P
  pub gives : PluginsGive plugin m f asked None (take at items)
  pub is : old ≡ asked ++ drop at items
  pub bound : at ≤ length items

module _ {P : Type 0} (plugin : PluginOf P) (m f : List ℕ) (old items : List P) (at : ℕ)
    (passed : Passed plugin m f old items at) (p q : P) (was : p ≡ get_or items at p)
    (low : at < length items) where
  abbrev kept : List P
  kept = take at items

  abbrev behind : List P
  behind = drop (at + 1) items

  ahead : drop at items ≡ p ∷ behind
  ahead = drop_more items at p low ∙ ap (λ x. x ∷ behind) (sym was)

  whole : old ≡ passed.asked ++ p ∷ behind
  whole = passed.is ∙ ap (λ t. passed.asked ++ t) ahead

  set_is : slice_set items at q ≡ kept ++ q ∷ behind
  set_is =
      sym (take-append-drop at (slice_set items at q))
      ∙ rw (take-set items at q, drop-set items at q low) refl

  pub labels : (text : List ℕ) → plugin.moves p m f (Label text) q →
      PluginsGive plugin m f old (Some text) (slice_set items at q)
  labels text h =
      subst₂
      (λ a b. PluginsGive plugin m f a (Some text) b)
      (sym whole)
      (sym set_is)
      (gives_then
      plugin
      m
      f
      passed.asked
      kept
      (p ∷ behind)
      (Some text)
      (q ∷ behind)
      passed.gives
      (inr (inr (q, text, h, refl, refl))))

  more : old ≡ (passed.asked ++ p ∷ []) ++ behind
  more = whole ∙ sym (append_assoc passed.asked (p ∷ []) behind)

  short : length kept ≡ at
  short = length-take-le at items (omega (arith, low))

  pub stays : plugin.moves p m f Quiet q → Passed plugin m f old (slice_set items at q) (at + 1)
  stays h =
      let front : take (at + 1) (slice_set items at q) ≡ kept ++ q ∷ [] =
      rw add-one (take-suc-set items at q low) in
      let rest : drop (at + 1) (slice_set items at q) ≡ behind =
      drop-set-lt (at + 1) items at q (omega arith) in
      record {
        asked = passed.asked ++ p ∷ [];
        gives = rw
            front
            (gives_then
            plugin
            m
            f
            passed.asked
            kept
            (p ∷ [])
            None
            (q ∷ [])
            passed.gives
            (inr (inl (q, [], h, (refl, refl), refl))));
        is = rw rest more;
        bound = rw (length-set items at q) (omega (arith, low));
      }

  pub leaves : plugin.moves p m f Leave q →
      Passed plugin m f old (remove (slice_set items at q) at) at
  leaves h =
      let gone : remove (slice_set items at q) at ≡ kept ++ behind =
      rw
      (take-set items at q)
      (ap (λ t. kept ++ t) (rw add-one (drop-set-lt (suc at) items at q (omega arith)))) in
      let front : take at (kept ++ behind) ≡ kept = take_at kept _ at short in
      let rest : drop at (kept ++ behind) ≡ behind = drop_at kept _ at short in
      record {
        asked = passed.asked ++ p ∷ [];
        gives = rw
            (gone, front)
            (subst
            (PluginsGive plugin m f (passed.asked ++ p ∷ []) None)
            (append-nil kept)
            (gives_then
            plugin
            m
            f
            passed.asked
            kept
            (p ∷ [])
            None
            []
            passed.gives
            (inl (q, h, (refl, refl)))));
        is = rw (gone, rest) more;
        bound = rw gone (rw (length-append kept behind) (omega (arith, short)));
      }
