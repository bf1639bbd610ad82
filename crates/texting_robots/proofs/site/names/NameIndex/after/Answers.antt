use Rattle.std.specs.Str.{str_to_ascii_lowercase}
use Rattle.texting_robots.proofs.SiteNameLemmas.{named_bucket, some_at, walk_on}
use Rattle.texting_robots.proofs.site.names.NameIndex.after.Goals as goal

pub find_from-requires : goal.find_from-requires
find_from-requires c =
    let linked = rw c.self.view_is at c.self.invariant in
    let name = str_to_ascii_lowercase c.args.name.now in
    let (n, at) = some_at c.args.self.now c.args.position c.requires.within in
    (walk_on name c.args.self.now _ _ c.args.position c.index.result.now n linked at c.index.ensures
    (named_bucket name c.args.self.now c.args.position n at c.requires.here)).here

pub returns : goal.returns
returns c =
    let linked = rw c.self.view_is at c.self.invariant in
    let name = str_to_ascii_lowercase c.args.name.now in
    let (n, at) = some_at c.args.self.now c.args.position c.requires.within in
    cc (walk_on name c.args.self.now _ _ c.args.position c.index.result.now n linked at c.index.ensures
    (named_bucket name c.args.self.now c.args.position n at c.requires.here)).rest
