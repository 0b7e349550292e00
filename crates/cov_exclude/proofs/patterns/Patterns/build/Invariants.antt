use Rattle.std.proofs.Common.{◌≡◌, ◌≤◌, map, take, string_bytes}
use Rattle.cov_exclude.specs.Texts.{ArePlainlyMade, texts_of}
use Rattle.cov_exclude.proofs.patterns.Patterns.build.Given as goal

abbrev pub invariant-loop-at : goal.invariant-loop-at
invariant-loop-at g l = record {
  texts : texts_of l.made.items ≡ map string_bytes (take l.at l.texts);
  plainly : ArePlainlyMade l.made.items;
  count : g.M.Maker.sizes l.initial.maker ≤ g.M.Maker.sizes l.maker;
}
