-- Worked examples. They are theorems, proved as contracts in `src/theorems.rt`.
use Rattle.std.specs.Prelude.{◌≡◌, ℕ, List, [], ◌∷◌, ◌++◌, codes, flat_map}
use Rattle.rfc9309.specs.Conformance.{conformance_of}
use Rattle.rfc9309.specs.declared.conformance.Conformance.{Conformance}
use Rattle.rfc9309.specs.declared.conformance.Conformance.TheVariants.{InGrammar, OtherFile, OtherLine}

-- the file with these lines
abbrev pub Has : List (List ℕ) → Conformance → Type 0
Has lines conformance = conformance_of (flat_map (λ line. line ++ 10 ∷ []) lines) ≡ conformance

-- a star, a `$` at the end, a path that isn't ASCII, a delay between user-agent lines, an empty Disallow, and
-- an escape that isn't in normal form; a rule without a slash; a NUL
abbrev pub syntax : Type 0
syntax =
    Has (codes "User-agent: *" ∷ (codes "Disallow: /" ++ (0xC3 ∷ 0xA9 ∷ []) ++ codes "*.gif$")
    ∷ codes "Crawl-delay: 1" ∷ codes "User-agent: b" ∷ codes "Disallow:" ∷ codes "Disallow: /"
    ∷ codes "Allow: /%62*.gif$" ∷ []) InGrammar
    × Has (codes "User-agent: *" ∷ codes "Disallow: a" ∷ []) (OtherLine 2)
    × Has ((0 ∷ []) ∷ []) OtherFile
