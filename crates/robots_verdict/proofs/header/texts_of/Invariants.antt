use Rattle.std.proofs.Common.{◌≡◌, drop, map, take}
use Rattle.std.specs.{List.list_all, Str.is_utf8}
use Rattle.robots_verdict.proofs.header.texts_of.Given as goal

abbrev pub invariant-loop-url : goal.invariant-loop-url
invariant-loop-url l = record {
  same : map (λ url. url.now) l.texts.items ≡ map (λ url. url.now) (take l.url-index l.urls);
  are_utf8 : list_all is_utf8 (map (λ url. url.now) l.urls)
      ≡ list_all is_utf8 (map (λ url. url.now) (drop l.url-index l.urls));
}
