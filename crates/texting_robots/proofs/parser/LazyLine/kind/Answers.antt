use Rattle.texting_robots.proofs.LineLemmas.{agent_or_other, agent_or_raw, delay_or_other, kind_is}
use Rattle.texting_robots.proofs.LineLemmas.{sitemap_or_other}
use Rattle.texting_robots.proofs.parser.LazyLine.kind.Goals as goal

pub returns : goal.returns
returns c =
    let is = rw (← c.self.invariant.0, ← c.self.invariant.1, c.self.view_is)
    at (kind_is c.self.inside.body.now) in
    record {
      agent = agent_or_other _ _ is;
      delay = delay_or_other _ _ is;
      sitemap = sitemap_or_other _ _ is;
      raw = λ by. rw (← c.self.view_is)
          (agent_or_raw c.self.inside.body.now (rw (← c.self.invariant.0, ← c.self.invariant.1) by));
    }
