use Rattle.std.proofs.{Common.arith, Common.codes, Common.refl, lemmas.Bool.Decides.not_from_Decides}
use Rattle.texting_robots.{specs.Examples.long, specs.Pattern.collapsed, proofs.VerdictLemmas.less_is_before}
use Rattle.texting_robots.proofs.ExampleLemmas.{matches_sound, not_matching, overlong_decides}
use Rattle.texting_robots.proofs.laws.examples_of_patterns.Goals as goal

pub returns : goal.returns
unfolding collapsed
returns c = record {
  beginning = grind (arith, matches_sound, not_matching);
  stars = (matches_sound _ _ _ refl, matches_sound _ _ _ refl, not_matching _ _ _ refl);
  ends = grind (arith, matches_sound, not_matching);
  star_after = (matches_sound _ _ _ refl, not_matching _ _ _ refl);
  dollar_inside = (not_matching _ _ _ refl, not_matching _ _ _ refl);
  plain_dollar = (matches_sound _ _ _ refl, not_matching _ _ _ refl);
  one_star = (refl, refl, refl);
  overlong = (
    not_from_Decides _ (overlong_decides (long 4094 (codes "$"))) refl,
    (overlong_decides (long 4095 (codes "$"))).0 refl,
  );
  not_overlong = (
    not_from_Decides _ (overlong_decides (long 4093 (codes "**$"))) refl,
    not_from_Decides _ (overlong_decides (long 4095 (codes "b"))) refl,
  );
  order = grind (arith, less_is_before);
}
