-- A text whose lines have the forms of the grammar's lines, with each rule below a user-agent line, is a file
-- of the grammar, and only such a text is one. The text is built from its last line on.
use Rattle.std.proofs.Common.{◌≡◌, ◌⊎◌, inl, inr, ℕ, List, [], ◌∷◌, ◌++◌, sym, refl, ap, ◌∙◌, append_assoc}
use Rattle.std.proofs.Common.{◌≢◌, filter, map, arith, subst}
use Rattle.std.specs.{List.AllByRecursion as Each, List.AllZip, Prelude.All}
use Rattle.texting_robots.specs.{Cut.IsBodyByte, Cut.cr, Cut.lf, Internal.Cut.bodies_of, Line.without_bom}
use Rattle.texting_robots.proofs.Shared.{body_step, bodies_cons, bodies_nil, byte_cases, each_append}
use Rattle.rfc9309.specs.{Rfc9309.IsLastNl}
use Rattle.rfc9309.specs.LineForms.{Form, IsFormOf, HasForm, Empty, Agent, Rule, Delay, Sitemap, Other}
use Rattle.rfc9309.specs.LineForms.{AreForms, AreRulesBelowAgents as AreFree}
use Rattle.std.proofs.lemmas.{Bool.ne_eqb, List.Elements.recursion_from_All, List.Elements.All-from_recursion}
use Rattle.texting_robots.specs.Executable.{file_bodies}
use Rattle.rfc9309.proofs.{HasFormLemmas.form_passes}
use Rattle.rfc9309.proofs.OtherLemmas.{form_tested, only_empty}
use Rattle.rfc9309.proofs.ReadLemmas.{nothing_replaced, end_more}
use Rattle.rfc9309.proofs.FileLemmas.{Line, after_front, bodies_are, forms_of, entries_read}
use Rattle.rfc9309.proofs.FileLemmas.{joined, line_bodies, no_nul, no_rules}
use Rattle.rfc9309.specs.Rfc9309 as rfc

abbrev IsEndByte : ℕ → Type 0
IsEndByte byte = (byte ≡ cr) ⊎ (byte ≡ lf)

abbrev IsEndedBefore : (List ℕ → Type 0) → (body text : List ℕ) → Type 0
IsEndedBefore Rest body text =
    (end : ℕ) × (ends : List ℕ) × (rest : List ℕ) × (text ≡ body ++ (end ∷ (ends ++ rest)))
    × IsEndByte end × Each IsEndByte ends × Rest rest

abbrev AreEnded : List (List ℕ) → List ℕ → Type 0
AreEnded [] text = text ≡ []
AreEnded (body ∷ bodies) text = Each IsBodyByte body × IsEndedBefore (AreEnded bodies) body text

abbrev IsCompleted : List (List ℕ) → List ℕ → Type 0
IsCompleted bodies text = (nl : List ℕ) × IsLastNl nl × AreEnded bodies (text ++ nl)

new_line : (end : ℕ) (bodies : List (List ℕ)) (text : List ℕ) → IsEndByte end → AreEnded bodies text
    → AreEnded ([] ∷ bodies) (end ∷ text)
new_line end bodies text is are = (tt, (end, [], text, refl, is, tt, are))

byte_before : (b : ℕ) (body : List ℕ) (bodies : List (List ℕ)) (text : List ℕ) → IsBodyByte b
    → AreEnded (body ∷ bodies) text → AreEnded ((b ∷ body) ∷ bodies) (b ∷ text)
byte_before b body bodies text is (bytes, (end, ends, rest, whole, is_end, are_ends, line)) = grind arith

-- a CR before terminators is one more byte of them
return_before : (bodies : List (List ℕ)) (text : List ℕ) → AreEnded ([] ∷ bodies) text
    → AreEnded ([] ∷ bodies) (cr ∷ text)
return_before bodies text (bytes, (end, ends, rest, whole, is_end, are_ends, line)) =
    (tt, (cr, end ∷ ends, rest, ap (λ t. cr ∷ t) whole, inl refl, (is_end, are_ends), line))

after_return : (bodies : List (List ℕ)) (text : List ℕ) → IsCompleted bodies text
    → IsCompleted (body_step cr bodies) (cr ∷ text)
after_return [] text (nl, is, are) = grind (arith, new_line)
after_return ([] ∷ bodies) text (nl, is, are) = (nl, is, return_before bodies (text ++ nl) are)
after_return ((b ∷ body) ∷ bodies) text (nl, is, are) =
    (nl, is, new_line cr ((b ∷ body) ∷ bodies) (text ++ nl) (inl refl) are)

after_byte : (b : ℕ) (bodies : List (List ℕ)) (text : List ℕ) → IsBodyByte b → IsCompleted bodies text
    → IsCompleted (body_step b bodies) (b ∷ text)
after_byte b [] text other (nl, is, are) =
    rw (ne_eqb b lf other.1, ne_eqb b cr other.0) (
      lf ∷ [],
      inr (inr (inl refl)),
      rw (nothing _ nl are)
          (byte_before b [] [] (lf ∷ []) other (new_line lf [] [] (inr refl) refl)),
    )
  where
    nothing : (text nl : List ℕ) → text ++ nl ≡ [] → text ≡ []
    nothing [] nl e = refl
    nothing (c ∷ text) nl e = cc
after_byte b (body ∷ bodies) text other (nl, is, are) = grind (arith, byte_before, ne_eqb)

after_step : (b : ℕ) (bodies : List (List ℕ)) (text : List ℕ) → IsCompleted bodies text
    → IsCompleted (body_step b bodies) (b ∷ text)
after_step b bodies text is = elim (byte_cases b) [
  | inl feed ↦ let (nl, last, are) = is in
      rw feed (nl, last, new_line lf bodies _ (inr refl) are)
  | inr (inl return) ↦ rw return (after_return _ text is)
  | inr (inr other) ↦ after_byte b _ _ other is
]

completed : (text : List ℕ) → IsCompleted (bodies_of text) text
completed [] = rw bodies_nil ([], inl refl, refl)
completed (b ∷ text) = rw (bodies_cons b _) (after_step b _ text (completed _))

ended_bytes : (bodies : List (List ℕ)) (text : List ℕ) → AreEnded bodies text → Each (Each IsBodyByte) bodies
ended_bytes [] text are = tt
ended_bytes (body ∷ bodies) text (bytes, (end, ends, rest, whole, is_end, are_ends, are)) =
    (bytes, ended_bytes bodies rest are)

pub bodies_bytes : (text : List ℕ) → Each (Each IsBodyByte) (bodies_of text)
bodies_bytes text = let (nl, last, are) = completed text in ended_bytes (bodies_of text) (text ++ nl) are

abbrev OnlyDelays : List rfc.Entry → Type 0
OnlyDelays entries = (numbers : List (List ℕ)) × (rfc.above_groups entries ≡ map rfc.Delay numbers)

-- lines of the grammar; if `Free` holds, only delays are above the first token
record AreEntries (Free : Type 0) (text : List ℕ) : Type 0 where
  entries : List rfc.Entry
  are_lines : rfc.AreLines rfc.IsLine entries text
  are_free : Free → OnlyDelays entries

module _ {Free : Type 0} (line text : List ℕ) (rest : AreEntries Free text) where
  entry_before : {Before : Type 0} (entry : rfc.Entry) → rfc.IsLine entry line
      → (Before → OnlyDelays (entry ∷ rest.entries)) → AreEntries Before (line ++ text)
  entry_before entry is free = record {
    entries = entry ∷ rest.entries;
    are_lines = (line, text, refl, is, rest.are_lines);
    are_free = free;
  }

form_before : (form : Form) (forms : List Form) (line text : List ℕ) → IsFormOf form line
    → AreEntries (AreFree forms) text → AreEntries (AreFree (form ∷ forms)) (line ++ text)
form_before Empty forms line text is rest = entry_before line text rest rfc.Nothing (inl is) rest.are_free
form_before Agent forms line text (token, is) rest =
    entry_before line text rest (rfc.Agent token) is (λ free. ([], refl))
form_before Rule forms line text (member, inl is) rest =
    entry_before line text rest (rfc.InGroup member) (inl is) (λ free. absurd free)
form_before Rule forms line text (member, inr is) rest =
    entry_before line text rest (rfc.InGroup member) (inr (inl is)) (λ free. absurd free)
form_before Delay forms line text (rfc.Delay number, is) rest =
    entry_before line text rest (rfc.InGroup (rfc.Delay number)) (inr (inr is)) (λ free.
    let (numbers, same) = rest.are_free free in
    (number ∷ numbers, ap (λ more. rfc.Delay number ∷ more) same))
form_before Delay forms line text (rfc.Allow pattern, is) rest = absurd is
form_before Delay forms line text (rfc.Disallow pattern, is) rest = absurd is
form_before Sitemap forms line text (address, is) rest =
    entry_before line text rest (rfc.Sitemap address) is rest.are_free
form_before Other forms line text is rest = entry_before line text rest rfc.Nothing (inr is) rest.are_free

is_nl : (end : ℕ) → IsEndByte end → rfc.IsNl (end ∷ [])
is_nl end is = grind arith

end_empty : (end : ℕ) → IsEndByte end → rfc.IsEmptyLine (end ∷ [])
end_empty end is = record {
  blanks = [];
  comment = [];
  nl = end ∷ [];
  whole = refl;
  are_blanks = tt;
  is_comment = inl refl;
  is_nl = is_nl end is;
}

ends_before : {Free : Type 0} (ends text : List ℕ) → Each IsEndByte ends → AreEntries Free text
    → AreEntries Free (ends ++ text)
ends_before [] text are rest = rest
ends_before (end ∷ ends) text are rest =
    let after = ends_before ends text are.1 rest in
    entry_before (end ∷ []) (ends ++ text) after rfc.Nothing (inl (end_empty end are.0)) after.are_free

entries_from : (forms : List Form) (bodies : List (List ℕ)) (text : List ℕ) → AllZip HasForm forms bodies
    → AreEnded bodies text → AreEntries (AreFree forms) text
entries_from [] [] text all none = record { entries = []; are_lines = none; are_free = λ free. ([], refl) }
entries_from [] (body ∷ bodies) text all are = absurd all
entries_from (form ∷ forms) [] text all are = absurd all
entries_from (form ∷ forms) (body ∷ bodies) text (is, all)
    (bytes, (end, ends, rest, whole, is_end, are_ends, are)) =
    let ended =
    form_passes (end ∷ []) (is_nl end is_end) form body (form_tested body bytes form is) in
    let after = ends_before ends rest are_ends (entries_from forms bodies rest all are) in
    let joined : text ≡ (body ++ end ∷ []) ++ (ends ++ rest) = whole ∙ simp append_assoc in
    rw joined (form_before form forms (body ++ end ∷ []) (ends ++ rest) ended after)

pub forms_make_file : (text : List ℕ) (forms : List Form) → AreForms forms text
    → (groups : List rfc.Group) × rfc.IsFile groups text
forms_make_file text forms are =
    let rest = without_bom text in
    let (bom, is_bom, whole) = are.bom in
    let (nl, last, ended) = completed rest in
    let no_nul = recursion_from_All (λ byte. byte ≢ 0) text are.no_nul in
    let bodies : file_bodies text ≡ bodies_of rest =
    ap (λ t. bodies_of (without_bom t)) (nothing_replaced text no_nul) in
    let each : AllZip HasForm forms _ = subst (AllZip HasForm forms) bodies are.each in
    let all = entries_from forms _ (rest ++ nl) each ended in
    let (numbers, above) = all.are_free are.below in (
      rfc.groups_of all.entries,
      (
        numbers,
        record {
          bom = bom;
          rest = rest;
          nl = nl;
          whole = whole;
          is_bom = is_bom;
          is_nl = last;
          is_content = record {
            entries = all.entries;
            are_lines = all.are_lines;
            above = above;
            written = refl;
          };
        },
      ),
    )

free_next : (form : Form) (forms others : List Form) → (AreFree forms → AreFree others)
    → AreFree (form ∷ forms) → AreFree (form ∷ others)
free_next form forms others h h2 = grind arith

-- no rule is above the first user-agent line if that is so in the others
record AreFormed (others : List Form) (bodies : List (List ℕ)) : Type 0 where
  forms : List Form
  each : AllZip HasForm forms bodies
  free : AreFree others → AreFree forms

-- an empty content has only the form of an empty line
without_empty : (others : List Form) (bodies : List (List ℕ)) → AreFormed others ([] ∷ bodies)
    → AreFormed others bodies
without_empty others bodies are = at are.forms are.each are.free
  where
    at : (forms : List Form) → AllZip HasForm forms ([] ∷ bodies) → (AreFree others → AreFree forms)
        → AreFormed others bodies
    at [] each free = absurd each
    at (form ∷ forms) (is, each) free =
        let same = only_empty form is in
        record {
          forms = forms;
          each = each;
          free = λ is_free. subst (λ f. AreFree (f ∷ forms)) same (free is_free);
        }

formed : (lines : List Line) → AreFormed (forms_of lines) (bodies_of (joined lines))
formed [] = record { forms = []; each = rw bodies_nil tt; free = λ free. free }
formed (line ∷ lines) =
    let rest = formed lines in
    let before = line_bodies line (joined lines) in
    let later : AreFormed (forms_of lines) before.later = elim before.same [
      | inl same ↦ rw same rest
      | inr more ↦ without_empty _ before.later (rw more at rest)
    ] in
    rw before.whole (record {
      forms = line.form ∷ later.forms;
      each = (form_passes (lf ∷ []) (inr (inl refl)) line.form line.is.body line.is.tested, later.each);
      free = free_next line.form _ later.forms later.free;
    })

without_last : (forms : List Form) (bodies : List (List ℕ)) → AllZip HasForm forms (bodies ++ [] ∷ [])
    → AreFormed forms bodies
without_last [] [] each = absurd each
without_last [] (body ∷ bodies) each = absurd each
without_last (form ∷ forms) [] each = record { forms = []; each = tt; free = λ free. tt }
without_last (form ∷ forms) (body ∷ bodies) (is, each) =
    let rest = without_last forms _ each in
    record {
      forms = form ∷ rest.forms;
      each = (is, rest.each);
      free = free_next form _ _ rest.free;
    }

bom_no_nul : (bom : List ℕ) → rfc.IsBom bom → Each (λ b. b ≢ 0) bom
bom_no_nul bom h = grind arith

pub file_has_forms : (text : List ℕ) (groups : List rfc.Group) → rfc.IsFile groups text
    → (forms : List Form) × AreForms forms text
file_has_forms text groups (numbers, file) =
    let content = file.is_content in
    let all = entries_read content.entries (file.rest ++ file.nl) content.are_lines in
    let lines = all.lines in
    let every =
    each_append (λ b. b ≢ 0) file.bom file.rest (bom_no_nul file.bom file.is_bom)
    (no_nul file lines all.whole) in
    let front : without_bom text ≡ file.rest =
    ap without_bom (file.whole ∙ sym (nothing_replaced (file.bom ++ file.rest) every))
    ∙ after_front file lines all.whole in
    let whole : AreFormed (forms_of lines) _ =
    subst (λ t. AreFormed (forms_of lines) (bodies_of t)) (sym all.whole) (formed lines) in
    let are : AreFormed (forms_of lines) (bodies_of file.rest) =
    elim (end_more file.rest file.nl file.is_nl) [
      | inl same ↦ record {
        forms = whole.forms;
        each = subst (AllZip HasForm whole.forms) same whole.each;
        free = whole.free;
      }
      | inr more ↦ let last =
          without_last whole.forms (bodies_of file.rest)
          (subst (AllZip HasForm whole.forms) more whole.each) in
          record { forms = last.forms; each = last.each; free = λ free. last.free (whole.free free) }
    ] in (
      are.forms,
      record {
        no_nul = subst (All (λ b. b ≢ 0)) (sym file.whole) (All-from_recursion (λ b. b ≢ 0) _ every);
        bom = (file.bom, file.is_bom, file.whole ∙ ap (λ t. file.bom ++ t) (sym front));
        each = rw (bodies_are file lines all.whole) are.each;
        below =
            are.free (all.free (
            ap (λ members. filter rfc.is_rule members) content.above ∙ no_rules numbers));
      },
    )
