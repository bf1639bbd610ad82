-- What is written to a report keeps it safe.
use Rattle.std.specs.{Prelude.nat_eq, Prelude.nat_lt, Str.IsCharBoundary, Str.IsUtf8, Str.chars}
use Rattle.std.proofs.Common.{◌≡◌, ◌∙◌, ℕ, Bool, true, false, List, [], ◌∷◌, ◌++◌, append-nil, append_assoc}
use Rattle.std.proofs.Common.{ap, ap₂, arith, drop, inl, inr, refl, subst, sym, take}
use Rattle.std.specs.{Char.encode_utf8, Char.is_whitespace, List.AllByRecursion as Each, List.list_all}
use Rattle.std.proofs.lemmas.Bool.{and_parts, Decides.nat_tests}
use Rattle.std.proofs.lemmas.List.{Concat.flat_map-append, Folds.list_all-append, take-append-drop}
use Rattle.std.proofs.lemmas.Str.{IsUtf8-drop, IsUtf8-take, chars-append}
use Rattle.bstr.specs.{Trim.kept_start, Utf8.decoded, Utf8.good, Utf8.spans_from}
use Rattle.bstr.proofs.lemmas.{EncodeLemmas.decoded-encode, PieceLemmas.pieces-step}
use Rattle.texting_robots.proofs.Shared.{each_append}
use Rattle.safe_output.specs.{Lines.ended, declared.level.Level.Level}
use Rattle.safe_output.specs.declared.level.Level.TheVariants.{Error, Note, Warning}
use Rattle.safe_output.specs.Sanitize.{IsPrintable, IsPrintableIn, has_command, is_printable}
use Rattle.safe_output.specs.Sanitize.{is_printable_byte, safe_in, without_commands}
use Rattle.safe_output.specs.Text.{IsColored, IsColoredTo, IsPlainLine, IsReport, IsShownReport}
use Rattle.safe_output.specs.Text.{begins_plainly, level_word, shown_word}
use Rattle.safe_output.proofs.SanitizeLemmas.{append_printable, ascii_printable, ended-append}
use Rattle.safe_output.proofs.SanitizeLemmas.{ended_printable, line_printable, nil_printable}
use Rattle.safe_output.proofs.SanitizeLemmas.{safe_in_printable, without_printable}
use Rattle.safe_output.proofs.CommandLemmas.{without_quiet}

pub safe_added : (old new bytes : List ℕ) → IsPrintableIn false old → new ≡ old ++ safe_in false bytes
    → IsPrintableIn false new
safe_added old new bytes is added =
    subst (IsPrintableIn false) (sym added)
    (append_printable false old (safe_in false bytes) is (safe_in_printable false bytes))

pub ascii_added : (old new text : List ℕ) → IsPrintableIn false old
    → list_all (is_printable_byte false) text ≡ true → new ≡ old ++ text → IsPrintableIn false new
ascii_added old new text is plain added =
    subst (IsPrintableIn false) (sym added)
    (append_printable false old text is (ascii_printable false text plain))

pub cleared_line : (new : List ℕ) → new ≡ [] → IsPrintableIn false new
cleared_line new is = subst (IsPrintableIn false) (sym is) (nil_printable false)

report_nil : IsReport []
report_nil = record { lines = []; each = tt; text_is = refl }

pub cleared_report : (new : List ℕ) → new ≡ [] → IsReport new
cleared_report new is = subst IsReport (sym is) report_nil

line_added : (old line : List ℕ) → IsReport old → IsPlainLine line → IsReport (old ++ ended (line ∷ []))
line_added old line is plain = record {
  lines = is.lines ++ line ∷ [];
  each = each_append IsPlainLine is.lines (line ∷ []) is.each (plain, tt);
  text_is =
      ap (λ (t : List ℕ). t ++ ended (line ∷ [])) is.text_is ∙ sym (ended-append is.lines (line ∷ []));
}

-- the line as it is, or after a backslash
pub plain_added : (old line mid new : List ℕ) → IsReport old → IsPrintableIn false line
    → has_command line ≡ false → begins_plainly line ≡ true → mid ≡ old ++ line → new ≡ mid ++ 10 ∷ []
    → IsReport new
plain_added old line mid new is printable inside begins first added =
    let whole = added ∙ ap (λ (t : List ℕ). t ++ 10 ∷ []) first ∙ append_assoc old line (10 ∷ [])
    ∙ ap (λ (t : List ℕ). old ++ t) (sym (append-nil (line ++ 10 ∷ []))) in
    subst IsReport (sym whole)
    (line_added old line is (record { printable = printable; begins = begins; inside = inside }))

-- an ASCII character that is neither white space nor `:`
pub begins_with : (b : ℕ) (text : List ℕ) → nat_lt b 128 ≡ true → is_whitespace b ≡ false → nat_eq 58 b
    ≡ false
    → begins_plainly (b ∷ text) ≡ true
unfolding kept_start spans_from encode_utf8
begins_with b text low visible other =
    let first : encode_utf8 b ≡ b ∷ [] = rw low refl in
    let read : decoded (b ∷ text) ≡ good b 1 =
    rw first at (decoded-encode b text (grind (arith, nat_tests))) in
    let unmarked : nat_eq 0xEF b ≡ false = grind (arith, nat_tests) in
    rw (unmarked, pieces-step (b ∷ text) (omega arith), read, visible, other) refl

pub escaped_added : (old front line mid new : List ℕ) → IsReport old → IsPrintableIn false line
    → has_command line ≡ false → front ≡ old ++ 92 ∷ [] → mid ≡ front ++ line → new ≡ mid ++ 10 ∷ []
    → IsReport new
escaped_added old front line mid new is printable inside zeroth first added =
    plain_added old (92 ∷ line) mid new is
    (append_printable false (92 ∷ []) line (ascii_printable false (92 ∷ []) refl) printable) inside
    (begins_with 92 line refl refl refl)
    (first ∙ ap (λ (t : List ℕ). t ++ line) zeroth ∙ append_assoc old (92 ∷ []) line) added

pub escaped_line : (old line new : List ℕ) → IsPrintableIn false line → old ≡ []
    → new ≡ old ++ without_commands line → IsPrintableIn false new
escaped_line old line new is none added =
    subst (IsPrintableIn false) (sym (rw none at added)) (without_printable false line is)

pub escaped_quiet : (old line new : List ℕ) → old ≡ [] → new ≡ old ++ without_commands line
    → has_command new ≡ false
escaped_quiet old line new none added =
    subst (λ (t : List ℕ). has_command t ≡ false) (sym (rw none at added)) (without_quiet line)

pub report_printable : (text : List ℕ) → IsReport text → IsPrintable text
report_printable text is =
    subst IsPrintable (sym is.text_is) (ended_printable is.lines (each is.lines is.each))
  where
    each : (lines : List (List ℕ)) → Each IsPlainLine lines → Each IsPrintable lines
    each [] are = tt
    each (line ∷ lines) are = (line_printable line are.0.printable, each lines are.1)

-- ---- Colors: lines are those without colors, in which color codes are inserted.

level_printable : (level : Level) → IsPrintableIn false (level_word level)
level_printable Error = ascii_printable false (level_word Error) refl
level_printable Warning = ascii_printable false (level_word Warning) refl
level_printable Note = ascii_printable false (level_word Note) refl

colored_same : (text : List ℕ) → IsPrintable text → IsColored text text
colored_same text is = record {
  parts = (text, text) ∷ [];
  each = (inl (is, refl), tt);
  text_is = sym (append-nil text);
  plain_is = sym (append-nil text);
}

colored_append : (plain text more next : List ℕ) → IsColored plain text → IsColored more next
    → IsColored (plain ++ more) (text ++ next)
colored_append plain text more next is too = record {
  parts = is.parts ++ too.parts;
  each = each_append _ is.parts too.parts is.each too.each;
  text_is =
      ap₂ (λ (one two : List ℕ). one ++ two) is.text_is too.text_is
      ∙ sym (flat_map-append (λ part. part.0) is.parts too.parts);
  plain_is =
      ap₂ (λ (one two : List ℕ). one ++ two) is.plain_is too.plain_is
      ∙ sym (flat_map-append (λ part. part.1) is.parts too.parts);
}

colored_word : (level : Level) → IsColored (level_word level) (shown_word true level)
colored_word level = record {
  parts = (shown_word true level, level_word level) ∷ [];
  each = (inr (level, refl, refl), tt);
  text_is = sym (append-nil (shown_word true level));
  plain_is = sym (append-nil (level_word level));
}

printable_parts : (front rest : List ℕ) → IsUtf8 front → IsUtf8 rest → IsPrintable (front ++ rest)
    → IsPrintable front × IsPrintable rest
printable_parts front rest one two is =
    let both =
    and_parts (list_all (is_printable true) (chars front)) (list_all (is_printable true) (chars rest))
    (rw (chars-append front rest one, list_all-append) at is.all) in
    (record { utf8 = one; all = both.0 }, record { utf8 = two; all = both.1 })

pub word_colored : (all text front later found rest old mid new : List ℕ) (place width : ℕ) (level : Level)
    → IsUtf8 text → IsCharBoundary text place → front ≡ take place text → later ≡ drop place text
    → IsCharBoundary later width → found ≡ take width later → rest ≡ drop width later
    → found ≡ level_word level → mid ≡ old ++ front → new ≡ mid ++ shown_word true level
    → IsColoredTo all text old → IsColoredTo all rest new
word_colored all text front later found rest old mid new place width level utf8 at front_is later_is within
    found_is rest_is same first added is =
    let one : IsUtf8 front = rw front_is (IsUtf8-take text place utf8 at) in
    let two : IsUtf8 later = rw later_is (IsUtf8-drop text place utf8 at) in
    let three : IsUtf8 rest = rw rest_is (IsUtf8-drop later width two within) in
    let text_is : text ≡ front ++ later = rw (front_is, later_is, take-append-drop) refl in
    let parted : later ≡ level_word level ++ rest = rw (← same, found_is, rest_is, take-append-drop) refl in
    let apart = printable_parts front later one two (subst IsPrintable text_is is.printable) in
    let last = printable_parts (level_word level) rest (level_printable level).utf8 three
    (subst IsPrintable parted apart.1) in
    record {
      plain = (is.plain ++ front) ++ level_word level;
      colored =
          subst (IsColored ((is.plain ++ front) ++ level_word level))
          (sym (added ∙ ap (λ (t : List ℕ). t ++ shown_word true level) first))
          (colored_append _ _ _ _ (colored_append _ _ _ _ is.colored (colored_same front apart.0))
          (colored_word level));
      printable = last.1;
      text_is =
          is.text_is ∙ ap (λ (t : List ℕ). is.plain ++ t) (text_is ∙ ap (λ (t : List ℕ). front ++ t) parted)
          ∙ sym (append_assoc (is.plain ++ front) (level_word level) rest ∙ append_assoc is.plain front _);
    }

pub colored_start : (text : List ℕ) → IsPrintable text → IsColoredTo text text []
colored_start text is = record {
  plain = [];
  colored = colored_same [] (nil_printable true);
  printable = is;
  text_is = refl;
}

pub colored_end : (all rest old new : List ℕ) → new ≡ old ++ rest → IsColoredTo all rest old
    → IsColored all new
colored_end all rest old new added is =
    subst (λ (t : List ℕ). IsColored t new) (sym is.text_is)
    (subst (IsColored (is.plain ++ rest)) (sym added)
    (colored_append _ _ _ _ is.colored (colored_same rest is.printable)))

pub shown_nil : (has_colors : Bool) → IsShownReport has_colors []
shown_nil false = report_nil
shown_nil true = ([], report_nil, colored_same [] (nil_printable true))

pub shown_colored : (has_colors : Bool) (text : List ℕ) → IsShownReport has_colors text
    → IsShownReport true text
shown_colored false text is = (text, is, colored_same text (report_printable text is))
shown_colored true text is = is
