use Rattle.std.proofs.{Common.map, Common.subst, lemmas.List.Elements.All-contains}
use Rattle.texting_robots.specs.Callers.{label_by_value}
use Rattle.robots_warnings.specs.{Closed.IsReplacing, Crawlers.IsPastLimit}
use Rattle.robots_warnings.specs.{File.lines_of, Internal.Rules.AreOf, Repeated.IsRepeat}
use Rattle.robots_warnings.{proofs.TellsLemmas.lines_are}
use Rattle.robots_warnings.proofs.known.known_of.Goals as goal

pub returns-clause-known : goal.returns-clause-known
returns-clause-known c =
    let read = c.args.read.now in
    let agents = map (λ agent. agent.now) c.args.agents.now in
    let labels = map label_by_value read.labels.items in
    let same = lines_are read c.requires in
    record {
      size_is = c.requires.size_is;
      past_limit = λ number.
          All-contains (IsPastLimit (lines_of labels) read.bytes.now) c.in_ok-past_limit.field-0.items number
          c.in_ok-past_limit.ensures;
      delays = rw c.deref-2.ensures.value at c.in_ok-later_delays.ensures;
      replacing = λ number.
          All-contains (IsReplacing agents (lines_of labels) (lines_of labels))
          c.in_ok-replacing.field-0.items number
          (rw (c.deref-4.ensures.value, same) at c.in_ok-replacing.ensures);
      star_count = rw (c.deref-5.ensures.value, c.in_ok-star.ensures, same) at c.disallow_count.ensures;
      repeated = λ number.
          All-contains (IsRepeat (lines_of labels)) c.in_ok-repeated.field-0.items number
          (rw c.deref-6.ensures.value at c.in_ok-repeated.ensures);
      rules = subst (λ is_empty. AreOf is_empty agents (lines_of labels) c.in_ok-rule_lines.field-0)
          (λ i n. rw c.deref.ensures.value at c.in_ok-empty.ensures n i)
          (rw same at c.in_ok-rule_lines.ensures);
    }
