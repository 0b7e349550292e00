-- Programs over some objects of a report, among all of them.
use Rattle.std.proofs.Common.{inl, inr, refl, ap, Result}
use Rattle.cov_outside.specs.declared.shelf.Shelf.{Ghosts as ShelfOf}
use Rattle.cov_outside.specs.declared.sink.Sink.{Ghosts as SinkOf}
use Rattle.cov_exclude.specs.declared.maker.Maker.{Ghosts as MakerOf}
use Rattle.cov_programs.specs.Objects.{Moves, beside}
use Rattle.cov_programs.specs.Ends.{Follows}
use Rattle.cov_programs.proofs.Composing.{among, on-left, on-right}
use Rattle.cov_vault.specs.declared.vault.Vault.{Ghosts as VaultOf}
use Rattle.cov_why.specs.Answers.{PlainWhy}
use Rattle.cov_step.specs.Calls.{Call, Answer, IsNoMemory, Step}
use Rattle.cov_step.specs.Objects.{on_shelf, on_vault, on_maker, on_sink}
use Rattle.cov_reports.specs.Objects.{on_data, on_sources, on_report}

-- two objects, among three
pub past : {U V W A : Type 0} (left : Moves Call Answer U) (skipped : Moves Call Answer V) (right : Moves Call Answer W) {p : Step A} {u u' : U} {w w' : W} {e : Result A PlainWhy} (v : V)
    → Follows (beside left right) IsNoMemory p (u, w) e (u', w') → Follows (beside (beside left skipped) right) IsNoMemory p ((u, v), w) e ((u', v), w')
past {U} {V} {W} left skipped right v f = among (beside left right) (beside (beside left skipped) right) IsNoMemory (λ (s : U × W). ((s.0, v), s.1)) moved f
  where
    moved : (old : U × W) (call : Call) (answer : Answer call) (new : U × W) → beside left right old call answer new → beside (beside left skipped) right ((old.0, v), old.1) call answer ((new.0, v), new.1)
    moved old call answer new (inl (m, same)) = inl (inl (m, refl), same)
    moved old call answer new (inr (m, same)) = inr (m, ap (λ u. (u, v)) same)

module _ {H V M O A : Type 0} (shelf : ShelfOf H) (vault : VaultOf V) (maker : MakerOf M) (sink : SinkOf O) {p : Step A} {e : Result A PlainWhy} where
  -- the shelf, before anything is written
  pub shelf-first : {h h' : H} (v : V) (m : M) (o : O) → Follows (on_shelf shelf) IsNoMemory p h e h' → Follows (on_report shelf vault maker sink) IsNoMemory p (((h, v), m), o) e (((h', v), m), o)
  shelf-first v m o f = on-left (on_sources shelf vault maker) (on_sink sink) o (on-left (on_data shelf vault) (on_maker maker) m (on-left (on_shelf shelf) (on_vault vault) v f))

  -- the maker
  pub maker-first : {m m' : M} (h : H) (v : V) (o : O) → Follows (on_maker maker) IsNoMemory p m e m' → Follows (on_report shelf vault maker sink) IsNoMemory p (((h, v), m), o) e (((h, v), m'), o)
  maker-first h v o f = on-left (on_sources shelf vault maker) (on_sink sink) o (on-right (on_data shelf vault) (on_maker maker) (h, v) f)

  -- all that is read
  pub sources-first : {u u' : (H × V) × M} (o : O) → Follows (on_sources shelf vault maker) IsNoMemory p u e u' → Follows (on_report shelf vault maker sink) IsNoMemory p (u, o) e (u', o)
  sources-first o f = on-left (on_sources shelf vault maker) (on_sink sink) o f

  -- the output
  pub sink-last : {o o' : O} (u : (H × V) × M) → Follows (on_sink sink) IsNoMemory p o e o' → Follows (on_report shelf vault maker sink) IsNoMemory p (u, o) e (u, o')
  sink-last u f = on-right (on_sources shelf vault maker) (on_sink sink) u f

  -- shelf and output
  pub ends-last : {h h' : H} {o o' : O} (v : V) (m : M) → Follows (beside (on_shelf shelf) (on_sink sink)) IsNoMemory p (h, o) e (h', o') → Follows (on_report shelf vault maker sink) IsNoMemory p (((h, v), m), o) e (((h', v), m), o')
  ends-last v m f = past (on_data shelf vault) (on_maker maker) (on_sink sink) m (past (on_shelf shelf) (on_vault vault) (on_sink sink) v f)
