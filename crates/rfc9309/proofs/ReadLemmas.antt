-- The source lines of a text that consists of lines. Ignored lines have none. The last line may lack a
-- terminator, and a byte order mark may come first.
use Rattle.std.proofs.Common.{◌≡◌, ◌≢◌, ◌⊎◌, inl, inr, ℕ, ◌<◌, ◌≤◌, List, [], ◌∷◌, ◌++◌, map, filter, cond}
use Rattle.std.proofs.Common.{not, refl, ap, ◌∙◌, append-nil, arith, Bool}
use Rattle.std.proofs.lemmas.{Bool.ne_eqb, List.Elements.filter-append}
use Rattle.texting_robots.specs.Line.{is_raw, LineValue, nul_as_lf, without_bom}
use Rattle.texting_robots.specs.{Executable.file_bodies, Executable.file_lines, Theorems.Same}
use Rattle.rfc9309.specs.Rfc9309.{IsLastNl, IsNl, IsBom}
use Rattle.texting_robots.proofs.Shared.{body_byte, body_return, body_step, bodies_cons, raw_changes_nothing}
use Rattle.texting_robots.proofs.Shared.{bodies_nil, byte_cases, line_without_kind}
use Rattle.rfc9309.proofs.Sources.{Source, is_not_raw, source_of, written}
use Rattle.rfc9309.proofs.SyntaxLemmas.{each_weaker}
use Rattle.std.specs.List.{AllByRecursion as Each}
use Rattle.texting_robots.specs.Internal.{Cut.bodies_of, Line.line_of}

abbrev pub sources_in : List (List ℕ) → List Source
sources_in bodies = filter is_not_raw (map source_of bodies)

abbrev pub sources_of : List ℕ → List Source
sources_of text = sources_in (bodies_of text)

pub empty_adds_none : (bodies : List (List ℕ)) → sources_in ([] ∷ bodies) ≡ sources_in bodies
empty_adds_none bodies = grind (arith, line_without_kind, written)

abbrev pub IsBare : ℕ → Type 0
IsBare byte = (byte ≡ 9) ⊎ (32 ≤ byte)

abbrev pub BeginsLow : List ℕ → Type 0
BeginsLow [] = Unit {0}
BeginsLow (byte ∷ text) = byte < 128

pub low_append : (xs ys : List ℕ) → BeginsLow xs → BeginsLow ys → BeginsLow (xs ++ ys)
low_append xs ys h h2 = grind arith

pub bare_no_nul : (body : List ℕ) → Each IsBare body → Each (λ byte. byte ≢ 0) body
bare_no_nul = grind (arith, each_weaker)

pub end_bytes : (nl : List ℕ) → IsNl nl → Each (λ byte. byte ≢ 0) nl × BeginsLow nl
end_bytes nl h = grind arith

-- `bodies` are `body` and then the others. If these begin with an empty content, it may be missing: a line
-- feed ends a line of its own where a text begins with it, but none right after a carriage return.
pub record IsBefore (body : List ℕ) (bodies others : List (List ℕ)) : Type 0 where
  pub later : List (List ℕ)
  pub whole : bodies ≡ body ∷ later
  pub same : (later ≡ others) ⊎ (others ≡ [] ∷ later)

after_return : (bodies : List (List ℕ)) → IsBefore [] (body_return bodies) bodies
after_return bodies = grind arith

end_before : (nl rest : List ℕ) → IsNl nl → IsBefore [] (bodies_of (nl ++ rest)) (bodies_of rest)
end_before nl rest h = grind (arith, after_return, bodies_cons)

pub line_before : (body nl rest : List ℕ) → Each IsBare body → IsNl nl
    → IsBefore body (bodies_of (body ++ (nl ++ rest))) (bodies_of rest)
line_before [] nl rest bare is = end_before nl rest is
line_before (b ∷ body) nl rest bare is =
    grind (arith, body_step, ne_eqb, bodies_cons, line_before body nl rest bare.1 is)

pub before_sources : (body : List ℕ) (bodies others : List (List ℕ)) → IsBefore body bodies others
    → sources_in bodies ≡ filter is_not_raw (source_of body ∷ []) ++ sources_in others
before_sources body bodies others line =
    grind (arith, empty_adds_none, filter-append, is_not_raw, source_of)

abbrev pub IsSameOrMore : List (List ℕ) → List (List ℕ) → Type 0
IsSameOrMore bodies others = (bodies ≡ others) ⊎ (bodies ≡ others ++ [] ∷ [])

return_more : (bodies : List (List ℕ)) → IsSameOrMore (body_return (bodies ++ [] ∷ [])) (body_return bodies)
return_more bodies = grind arith

byte_more : (b : ℕ) (bodies : List (List ℕ))
    → IsSameOrMore (body_step b (bodies ++ [] ∷ [])) (body_step b bodies)
byte_more b bodies = grind (arith, body_byte, byte_cases, ne_eqb, return_more)

one_end : (nl : List ℕ) → IsNl nl → bodies_of nl ≡ [] ∷ []
one_end nl h = grind (arith, bodies_nil, bodies_cons)

pub end_more : (text nl : List ℕ) → IsLastNl nl → IsSameOrMore (bodies_of (text ++ nl)) (bodies_of text)
end_more text nl (inl none) = rw (none, append-nil) (inl refl)
end_more text nl (inr is) = at text
  where
    at : (text : List ℕ) → IsSameOrMore (bodies_of (text ++ nl)) (bodies_of text)
    at [] = rw bodies_nil (inr (one_end nl is))
    at (b ∷ text) = rw (bodies_cons b (text ++ nl), bodies_cons b text) (elim (at text) [
      | inl same ↦ inl (ap (body_step b) same)
      | inr more ↦ rw more (byte_more b (bodies_of text))
    ])

pub last_end_adds_none : (text nl : List ℕ) → IsLastNl nl → sources_of (text ++ nl) ≡ sources_of text
last_end_adds_none text nl is = elim (end_more _ nl is) [
  | inl same ↦ ap sources_in same
  | inr more ↦ ap sources_in more ∙ at (bodies_of _)
]
  where
    at : (bodies : List (List ℕ)) → sources_in (bodies ++ [] ∷ []) ≡ sources_in bodies
    at [] = empty_adds_none []
    at (body ∷ bodies) =
        ap (λ sources. cond (is_not_raw (source_of body)) (source_of body ∷ sources) sources) (at bodies)

pub nothing_replaced : (text : List ℕ) → Each (λ byte. byte ≢ 0) text → map nul_as_lf text ≡ text
nothing_replaced [] all = refl
nothing_replaced (b ∷ text) all = rw (ne_eqb b 0 all.0, nothing_replaced text all.1)

low_front : (text : List ℕ) → BeginsLow text → without_bom text ≡ text
low_front text h = grind (arith, ne_eqb)

pub after_bom : (bom text : List ℕ) → IsBom bom → Each (λ byte. byte ≢ 0) text → BeginsLow text
    → without_bom (map nul_as_lf (bom ++ text)) ≡ text
after_bom bom text h h2 h3 = grind (arith, low_front, nothing_replaced)

pub low_of_front : (text more : List ℕ) → BeginsLow (text ++ more) → BeginsLow text
low_of_front text more h = grind arith

-- without the byte order mark
abbrev pub file_sources : List ℕ → List Source
file_sources text = sources_in (file_bodies text)

abbrev pub lines_in : List Source → List LineValue
lines_in sources = map (λ source. source.0) sources

abbrev is_kept : LineValue → Bool
is_kept line = not (is_raw line)

lines_kept : (bodies : List (List ℕ))
    → filter is_kept (map line_of bodies) ≡ filter is_kept (lines_in (sources_in bodies))
lines_kept [] = refl
lines_kept (body ∷ bodies) = grind (arith, lines_kept bodies)

pub file_same : (text agent : List ℕ) → Same agent (file_lines text) agent (lines_in (file_sources text))
file_same text agent = raw_changes_nothing agent (file_lines text) _ (lines_kept _)
