use Rattle.std.proofs.Common.{◌≡◌, ◌++◌, length, string_bytes}
use denote.Shadow.{shadow}
use denote.Text.{Utf8}
use Rattle.texting_robots.specs.Pattern.{collapsed}
use Rattle.texting_robots.proofs.minregex.collapse_stars.Given as goal

abbrev pub invariant-loop-before : goal.invariant-loop-before
invariant-loop-before l = record {
  text : string_bytes l.text ++ collapsed l.rest ≡ collapsed l.pattern;
  utf8 : shadow (Utf8 l.rest);
}

abbrev pub decreases-loop-before : goal.decreases-loop-before
decreases-loop-before l = length l.rest
