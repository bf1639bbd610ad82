-- What the sets of bytes tell of a value.
use Rattle.std.proofs.Common.{◌≡◌, ◌<◌, ◌==◌, ◌||◌, ◌&&◌, ◌∙◌, ℕ, Bool, List, [], ◌∷◌, true, false, arith}
use Rattle.std.proofs.Common.{◌+◌, get_or, inl, inr, length, not, refl, sym, Option, Some, None}
use Rattle.std.specs.List.{list_any, position_or_len, prefix_len}
use Rattle.std.specs.{Char.is_ascii_graphic, Option.IfSome}
use Rattle.std.proofs.lemmas.Bool.{Decides.nat_tests, agree_below, cases_Bool, cases_lt, le-ltb, lt-ltb}
use Rattle.std.proofs.lemmas.{Bool.or_parts, List.Folds.list_any_none, List.take_all}
use Rattle.url.proofs.{HostLemmas.none_from_list_any, InputLemmas.All-take-prefix_len}
use lib.Dec.{ltb}
use Rattle.percent_encoding.specs.{AsciiSet.should_percent_encode}
use Rattle.texting_robots.specs.declared.{escape.TheConstants.ESCAPED, escape.TheConstants.UNESCAPED}
use Rattle.texting_robots.specs.declared.{parser.statement.Kind.Kind}
use Rattle.texting_robots.specs.declared.plain.TheConstants.{LITERAL, PLAIN}
use Rattle.texting_robots.specs.Internal.{ByteSet.is_kept, Delay.delay_of, Line.line_with, Line.delay_or_raw}
use Rattle.texting_robots.specs.Internal.{Plain.HoldsPlain, Plain.IsPlain, Statement.hash, Statement.value_of}
use Rattle.texting_robots.specs.{Escape.escaped, Escape.is_escaped, Pattern.is_wildcard}
use Rattle.texting_robots.proofs.{LabelLemmas.all_if_none, TrimLemmas.graphic_trimmed}
use Rattle.texting_robots.proofs.NormalizedLemmas.{escaped_plain, kept_all, kept_but, same_at, same_test}
use Rattle.texting_robots.specs.declared.parser.statement.Kind.TheVariants as kind

-- ---- Sets of bytes that aren't escaped.

module _ (set : List ℕ) (other : ℕ → Bool)
    (same : agree_below (is_kept set) (kept_but ESCAPED other) 256 ≡ true) where
  kept_is : (b : ℕ) → is_kept set b ≡ (not (is_escaped b) && not (other b))
  kept_is b = rw (← same_test b) (same_at set ESCAPED other same b)

  all_kept : (text : List ℕ) → prefix_len (is_kept set) text ≡ length text
      → (list_any is_escaped text ≡ false) × (list_any other text ≡ false)
  all_kept text all =
      let whole = take_all (length text) text (omega arith) in
      let passing = rw (all, whole) at (All-take-prefix_len (is_kept set) text) in
      let each = kept_all set ESCAPED other same text passing in (
        list_any_none is_escaped text (λ k d inside. sym (same_test (get_or text k d)) ∙ each.0 k d inside),
        list_any_none other text each.1,
      )

unescaped_is : (b : ℕ) → is_kept UNESCAPED.now b ≡ not (is_escaped b)
unfolding is_kept should_percent_encode
unescaped_is b = elim (cases_Bool (is_escaped b)) [
  | inl is ↦ kept_is UNESCAPED.now is_escaped refl b ∙ rw is refl
  | inr isnt ↦ kept_is UNESCAPED.now is_escaped refl b ∙ rw isnt refl
]

ltb_suc : (a b : ℕ) → ltb (1 + a) (1 + b) ≡ ltb a b
ltb_suc a b = elim (cases_lt a b) [
  | inl less ↦ lt-ltb (1 + a) (1 + b) (omega arith) ∙ sym (lt-ltb a b less)
  | inr more ↦ le-ltb (1 + a) (1 + b) (omega arith) ∙ sym (le-ltb a b more)
]

pub some_escaped : (bytes : List ℕ)
    → ltb (prefix_len (is_kept UNESCAPED.now) bytes) (length bytes) ≡ list_any is_escaped bytes
some_escaped [] = refl
some_escaped (b ∷ bytes) =
    let len = prefix_len (is_kept UNESCAPED.now) bytes in
    elim (cases_Bool (is_escaped b)) [
      | inl is ↦ grind (arith, unescaped_is b, is, lt-ltb 0 (length (b ∷ bytes)) (omega arith))
      | inr isnt ↦ grind (arith, unescaped_is b, isnt, ltb_suc len (length bytes), some_escaped bytes)
    ]

abbrev is_hash : ℕ → Bool
is_hash byte = byte == hash

abbrev is_special : ℕ → Bool
is_special byte = is_hash byte || is_wildcard byte

literal_is : (b : ℕ) → is_kept LITERAL.now b ≡ (not (is_escaped b) && not (is_special b))
unfolding is_kept should_percent_encode
literal_is b = kept_is LITERAL.now is_special refl b

first_wildcard : (text : List ℕ) → list_any is_escaped text ≡ false → list_any is_hash text ≡ false
    → prefix_len (is_kept LITERAL.now) text ≡ position_or_len is_wildcard text
first_wildcard [] unescaped uncommented = refl
first_wildcard (b ∷ text) unescaped uncommented =
    let (stays, rest_stays) = or_parts (is_escaped b) (list_any is_escaped text) unescaped in
    let (other, rest_other) = or_parts (is_hash b) (list_any is_hash text) uncommented in
    elim (cases_Bool (is_wildcard b)) [
      | inl is ↦ grind (arith, literal_is b, stays, other, is)
      | inr isnt ↦ grind (arith, literal_is b, stays, other, isnt, first_wildcard text rest_stays rest_other)
    ]

pub literal_is_plain : (text : List ℕ) → 0 < length text
    → prefix_len (is_kept LITERAL.now) text ≡ length text
    → IsPlain text (prefix_len (is_kept LITERAL.now) text)
unfolding is_kept should_percent_encode
literal_is_plain text some all =
    let (unescaped, others) = all_kept LITERAL.now is_special refl text all in
    let each = none_from_list_any is_special text others in
    let uncommented = list_any_none is_hash text (λ k d inside.
    (or_parts (is_hash (get_or text k d)) (is_wildcard (get_or text k d)) (each k d inside)).0) in
    record {
      some = some;
      uncommented = uncommented;
      unescaped = unescaped;
      wildcard = first_wildcard text unescaped uncommented;
    }

pub wildcard_is_plain : (text : List ℕ) → 0 < length text
    → prefix_len (is_kept PLAIN.now) text ≡ length text → IsPlain text (prefix_len (is_kept LITERAL.now) text)
unfolding is_kept should_percent_encode
wildcard_is_plain text some all =
    let (unescaped, uncommented) = all_kept PLAIN.now is_hash refl text all in
    record {
      some = some;
      uncommented = uncommented;
      unescaped = unescaped;
      wildcard = first_wildcard text unescaped uncommented;
    }

-- ---- The value in a plain tail.

visible : (b : ℕ) → is_escaped b ≡ false → is_ascii_graphic b ≡ true
visible b stays = grind (arith, nat_tests)

pub plain_value : (tail : List ℕ) (first : ℕ) → IsPlain tail first → value_of tail ≡ tail
plain_value [] first plain = absurd (omega (arith, plain.some))
plain_value (b ∷ rest) first plain =
    let tail = b ∷ rest in
    let at = λ (k : ℕ) (below : k < length tail). visible (get_or tail k 0)
    (none_from_list_any is_escaped tail plain.unescaped k 0 below) in
    rw (← all_if_none (λ byte. byte == hash) tail plain.uncommented)
    (graphic_trimmed b rest (at 0 (omega arith)) (at (length rest) (omega arith)))

with_delay : (delay : _) (body : List ℕ) (first : ℕ) → HoldsPlain (delay_or_raw delay body) first
with_delay delay body first = grind arith

pub plain_line : (k : Kind) (value body : List ℕ) (first : ℕ) → IsPlain value first
    → HoldsPlain (line_with k value body) first
plain_line kind.UserAgent value body first plain = tt
plain_line kind.Allow value body first plain = plain
plain_line kind.Disallow [] body first plain = absurd (omega (arith, plain.some))
plain_line kind.Disallow (b ∷ value) body first plain = plain
plain_line kind.Sitemap value body first plain = plain
plain_line kind.CrawlDelay value body first plain = with_delay (delay_of value) body first

pub known_wildcard : (value pattern : List ℕ) (first : Option ℕ) → pattern ≡ escaped value
    → IfSome first (IsPlain value) → IfSome first (λ k. k ≡ position_or_len is_wildcard pattern)
known_wildcard value pattern None same plain = tt
known_wildcard value pattern (Some k) same plain =
    rw (same, escaped_plain value plain.unescaped) plain.wildcard
