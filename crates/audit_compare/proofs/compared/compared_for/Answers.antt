use Rattle.std.proofs.Common.{◌≡◌, List, None, Option, Some, ℕ, refl}
use Rattle.texting_robots.specs.Callers.{LineValue, placed_rules}
use Rattle.audit_core.specs.{Internal.IsCrawlerIn, Internal.IsReading}
use Rattle.audit_core.specs.declared.audit.{Crawler.Crawler, Reading.Reading}
use Rattle.audit_core.specs.declared.audit.Reading.TheVariants.{Accepted, Rejected}
use Rattle.audit_compare.specs.Internal.{AnswersByRules, answers_by}
use Rattle.audit_compare.proofs.compared.compared_for.Goals.{in-None+in_ok-standard-in-None, in-Some}
use Rattle.audit_compare.proofs.compared.compared_for.Goals as goal

read_by : (reading : Reading) (agent : List ℕ) (lines : List LineValue) → IsReading agent lines reading
    → answers_by reading (placed_rules agent lines)
read_by (Accepted robot) agent lines is = is.1
read_by (Rejected line) agent lines is = tt

answers : (lines : List LineValue) (crawler : Crawler) → IsCrawlerIn lines crawler → AnswersByRules crawler
answers lines crawler is = rw is.rules_are (read_by crawler.reading crawler.agent.now lines is.reading_is)

not_none : {A : Type 0} (found : Option A) (some : A) → found ≡ Some some → found ≡ None → ⊥
not_none found some is none = cc

pub verdicts_for-requires-clause-older : goal.verdicts_for-requires-clause-older
verdicts_for-requires-clause-older c = answers _ _ c.in_ok-old.ensures.ok

pub standard_verdicts-requires-clause-older : goal.standard_verdicts-requires-clause-older
standard_verdicts-requires-clause-older c =
    rw c.requires.older.here.site_is at c.in_ok-old.ensures.ok

pub returns-clause-ok : goal.returns-clause-ok
returns-clause-ok c =
    let old = c.in_ok-old.ensures in
    let new = c.in_ok-new.ensures in
    let old_rules = rw (old.agent, c.requires.older.here.site_is) at old.ok.rules_are in
    let new_rules = rw (new.agent, c.requires.newer.here.site_is) at new.ok.rules_are in
    record {
      agent_is = refl;
      older_is = rw old.agent at c.in_ok-was.ensures.ok;
      newer_is = rw new.agent at c.in_ok-is.ensures.ok;
      rules_are = rw (c.deref.ensures.value, c.deref-2.ensures.value, old_rules, new_rules)
          at c.in_ok-rules.ensures;
      changes_are = c.in_ok-changes.ensures;
      here = rw (old_rules, new_rules) at c.in_ok-here.ensures.ok;
      standard = λ none. elim c.match-vendor.branch [
        | in-Some w ↦ absurd (not_none _ _ w.in-Some.is none)
        | in-None+in_ok-standard-in-None w ↦ rw w.standard-is
            (rw (old.agent, new.agent) at w.in_ok-standard-in-None.ensures.ok)
      ];
      vendor_is = c.in_ok-vendor.ensures.ok;
    }
