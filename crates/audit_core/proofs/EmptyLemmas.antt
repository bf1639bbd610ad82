-- Which lines are empty Disallows.
use Rattle.std.proofs.Common.{◌≡◌, ◌∙◌, ℕ, Bool, true, false, List, [], ◌∷◌, Option, None, Some, arith, codes}
use Rattle.std.proofs.Common.{refl, sym}
use Rattle.std.proofs.lemmas.Bool.{false≢true, Decides.nat_tests}
use Rattle.std.proofs.lemmas.Option.{option_and_then_some, same_Some}
use Rattle.texting_robots.specs.Callers.{Allow, LineValue}
use Rattle.texting_robots.specs.{Statement.IsStatement, Internal.Line.line_of}
use Rattle.texting_robots.specs.declared.parser.statement.Kind.{Kind, TheVariants.Disallow}
use Rattle.texting_robots.specs.Internal.Statement.{kind_by, skip_blanks, statement_of}
use Rattle.texting_robots.proofs.Shared.{statement_sound, line_raw, line_stated, statement_complete}
use Rattle.safe_output.specs.{Bytes.trim_blanks_start}
use Rattle.rfc9309.specs.EmptyDisallow.{begins_with_d, is_empty_disallow}

abbrev is_disallow : Option Kind → Bool
is_disallow (Some Disallow) = true
is_disallow _ = false

begins : (text : List ℕ) → begins_with_d text ≡ is_disallow (kind_by text)
begins text = grind (arith, nat_tests)

skipped : (body : List ℕ) → trim_blanks_start body ≡ skip_blanks body
skipped body = grind arith

module _ (body : List ℕ) where
  selected : (kind : Kind) (value : List ℕ) → statement_of body ≡ Some (kind, value)
      → begins_with_d (trim_blanks_start body) ≡ is_disallow (Some kind)
  unfolding statement_of
  selected kind value stated = grind (arith, begins, option_and_then_some, same_Some, skipped)

  begins_so : (line : LineValue) → is_empty_disallow line body ≡ true
      → begins_with_d (trim_blanks_start body) ≡ true
  begins_so (Allow value) is = is
  begins_so _ is = cc

  pub empty_stated : is_empty_disallow (line_of body) body ≡ true → IsStatement Disallow [] body
  empty_stated is = at (statement_of body) refl
    where
      at : (found : Option (Kind × List ℕ)) → statement_of body ≡ found → IsStatement Disallow [] body
      at None none = let wrong = rw (line_raw body none) at is in cc
      at (Some (Disallow, [])) stated = statement_sound Disallow [] body stated
      at (Some (Disallow, b ∷ value)) stated =
          let wrong = rw (line_stated body Disallow (b ∷ value) stated) at is in cc
      at (Some (_, value)) stated =
          absurd (false≢true (sym (selected _ value stated) ∙ begins_so (line_of body) is))

  pub stated_empty : IsStatement Disallow [] body → is_empty_disallow (line_of body) body ≡ true
  stated_empty is =
      let stated = statement_complete Disallow [] body is in
      rw (line_stated body Disallow [] stated) (selected Disallow [] stated)

  -- as an Allow of `/`
  pub empty_allows : IsStatement Disallow [] body → line_of body ≡ Allow (codes "/")
  empty_allows is = line_stated body Disallow [] (statement_complete Disallow [] body is)
