-- Inputs: how they are split line by line.
use Rattle.std.proofs.Common.{◌≡◌, ◌≢◌, ℕ, zero, suc, ◌+◌, ◌<◌, ◌==◌, true, false, List, [], ◌∷◌, ◌++◌, ◌∙◌}
use Rattle.std.proofs.Common.{Option, Some, None, Bor, IfErr, Result, Ok, Err, length, map, refl, ◌&&◌, Bool}
use Rattle.std.proofs.Common.{arith, append_assoc, drop, if◌then◌else◌, slice_index_or, take}
use Rattle.std.specs.{Io.BufRead.strip_last, List.list_all, Str.is_utf8, Result.IsErrAnd}
use Rattle.std.specs.Option.{IsSomeAnd, option_map}
use Rattle.std.proofs.lemmas.{Bool.ne_eqb, List.append-nil, List.drop_more}
use Rattle.safe_output.specs.Lines.{lf}
use Rattle.robots_verdict.specs.declared.fault.Fault.{Fault, TheVariants.HeaderNotUtf8, TheVariants.Memory}
use Rattle.robots_verdict.specs.Input.{Input, cr, input_of, line_from, split, urls_from, with_url}
use Rattle.robots_verdict.specs.Internal.{IsFirstLf, IsOneLine}

pub line_found : (line input : List ℕ) (place : ℕ) → IsFirstLf input place
    → line_from line input ≡ Some (strip_last cr (line ++ take place input), drop (suc place) input)
line_found line [] place is = absurd (omega arith)
line_found line (b ∷ input) zero is = grind (arith, append-nil)
line_found line (b ∷ input) (suc place) is =
    let later = line_found (line ++ b ∷ []) input place (record {
      within = omega arith;
      feed = is.feed;
      before = λ k below. is.before (suc k) (omega arith);
    }) in
    rw (ne_eqb b lf (is.before 0 (omega arith))) (grind (arith, append_assoc))

pub line_none : (line input : List ℕ) → IsOneLine input → None ≡ line_from line input
line_none line [] one = refl
line_none line (b ∷ input) one = rw (ne_eqb b lf one.0) (line_none (line ++ b ∷ []) input one.1)

abbrev urls_after : Option (List ℕ × List ℕ) → Option (List (List ℕ) × List ℕ)
urls_after None = None
urls_after (Some (url, rest)) =
    if length url == 0 then Some ([], rest) else option_map (with_url url) (urls_from [] rest)

urls_by : (line input : List ℕ) → urls_from line input ≡ urls_after (line_from line input)
urls_by line [] = refl
urls_by line (b ∷ input) = grind (arith, urls_by (line ++ b ∷ []) input)

abbrev in_front : List (List ℕ) → List (List ℕ) × List ℕ → List (List ℕ) × List ℕ
in_front urls found = (urls ++ found.0, found.1)

-- the URLs so far, and then those in the rest, are those after the first line
pub record GoOn (start : List ℕ) (urls : List (List ℕ)) (rest : List ℕ) : Type 0 where
  pub same : urls_from [] start ≡ option_map (in_front urls) (urls_from [] rest)

pub goes_first : (start : List ℕ) → GoOn start [] start
goes_first start = record { same = first (urls_from [] start) }
  where
    first : (found : Option (List (List ℕ) × List ℕ)) → found ≡ option_map (in_front []) found
    first None = refl
    first (Some (urls, file)) = refl

pub goes_more : (start rest url next : List ℕ) (urls : List (List ℕ)) → GoOn start urls rest
    → Some (url, next) ≡ line_from [] rest → (length url == 0) ≡ false → GoOn start (urls ++ url ∷ []) next
goes_more start rest url next urls so_far line filled = grind (arith, urls_by, one_more)
  where
    one_more : (found : Option (List (List ℕ) × List ℕ)) → option_map (in_front urls)
        (option_map (with_url url) found) ≡ option_map (in_front (urls ++ url ∷ [])) found
    one_more None = refl
    one_more (Some (more, file)) = rw append_assoc refl

-- an empty line after the URLs completes the split
pub split_found : (input agent start rest url file : List ℕ) (urls : List (List ℕ))
    → Some (agent, start) ≡ line_from [] input → GoOn start urls rest → Some (url, file) ≡ line_from [] rest
    → (length url == 0) ≡ true → split input ≡ Some (record { agent = agent; urls = urls; file = file })
split_found input agent start rest url file urls line so_far end empty = grind (arith, append-nil, urls_by)

pub no_split : (input agent start rest : List ℕ) (urls : List (List ℕ))
    → Some (agent, start) ≡ line_from [] input → GoOn start urls rest → None ≡ line_from [] rest
    → split input ≡ None
no_split input agent start rest urls line so_far end = cc (urls_by [] rest)

pub no_agent : (input : List ℕ) → None ≡ line_from [] input → split input ≡ None
no_agent input line = cc

-- ---- Whether the lines are UTF-8.

abbrev pub all_utf8 : List (Bor (List ℕ)) → Bool
all_utf8 texts = list_all is_utf8 (map (λ text. text.now) texts)

utf8_at : (texts : List (Bor (List ℕ))) (i : ℕ) (d : Bor (List ℕ)) (b : Bool) → i < length texts
    → is_utf8 (slice_index_or texts i d).now ≡ b → all_utf8 (drop i texts) ≡ (b && all_utf8 (drop
    (i + 1) texts))
utf8_at texts i d b below is = grind (arith, drop_more)

pub utf8_next : (texts : List (Bor (List ℕ))) (i : ℕ) (d : Bor (List ℕ))
    → all_utf8 texts ≡ all_utf8 (drop i texts) → i < length texts
    → is_utf8 (slice_index_or texts i d).now ≡ true → all_utf8 texts ≡ all_utf8 (drop (i + 1) texts)
utf8_next texts i d so_far below is = so_far ∙ utf8_at texts i d true below is

pub first_not_utf8 : {X : Type 0} (r : Result X Fault) (fault : Fault) (texts : List (Bor (List ℕ)))
    (i : ℕ) (d : Bor (List ℕ)) → IsErrAnd r (λ other. other ≡ fault)
    → all_utf8 texts ≡ all_utf8 (drop i texts) → i < length texts
    → (fault ≡ HeaderNotUtf8) × (is_utf8 (slice_index_or texts i d).now ≡ false)
    → IfErr r (λ fault. fault ≢ Memory → (fault ≡ HeaderNotUtf8) × (all_utf8 texts ≡ false))
first_not_utf8 (Ok x) fault texts i d is so_far below not = absurd is
first_not_utf8 (Err e) fault texts i d is so_far below not =
    λ _. (is ∙ not.0, so_far ∙ utf8_at texts i d false below not.1)

-- ---- What needs memory.

pub not_empty : (input : List ℕ) {found : List ℕ × List ℕ} → Some found ≡ line_from [] input → input ≢ []
not_empty [] line = cc
not_empty (b ∷ input) line = λ is. cc

pub some_url : (input agent start rest url : List ℕ) (urls : List (List ℕ))
    → Some (agent, start) ≡ line_from [] input → GoOn start (urls ++ url ∷ []) rest
    → ¬ IsSomeAnd (split input) (λ parts. parts.urls ≡ [])
some_url input agent start rest url urls line so_far is = grind (arith, some)
  where
    some : (urls : List (List ℕ)) (found : Option (List (List ℕ) × List ℕ))
        → ¬ IsSomeAnd (option_map (input_of agent) (option_map (in_front (urls ++ url ∷ [])) found))
        (λ parts. parts.urls ≡ [])
    some urls None = λ is. is
    some [] (Some found) = λ is. cc
    some (_ ∷ urls) (Some found) = λ is. cc

-- an allocation may have failed, where the specification says what that needs
pub if_memory : {X P : Type 0} (r : Result X Fault) → P → IfErr r (λ fault. fault ≡ Memory → P)
if_memory (Ok x) is = tt
if_memory (Err fault) is = λ _. is

pub some_input : {X : Type 0} (r : Result X Fault) (input : List ℕ) {parts : Input} → split input ≡ Some parts
    → IfErr r (λ fault. fault ≡ Memory → input ≢ [])
some_input r [] is = absurd (cc)
some_input r (b ∷ input) is = if_memory r (λ none. cc)

pub urls_allocated : {X : Type 0} (r : Result X Fault) (fault : Fault) (urls : List (Bor (List ℕ)))
    (input : List ℕ) {parts : Input} → IsErrAnd r (λ other. other ≡ fault) → (fault ≡ Memory → urls ≢ [])
    → split input ≡ Some parts → parts.urls ≡ map (λ url. url.now) urls
    → IfErr r (λ fault. fault ≡ Memory → (input ≢ []) × ¬ IsSomeAnd (split input) (λ parts. parts.urls ≡ []))
urls_allocated (Ok x) fault urls input is some same all = tt
urls_allocated (Err e) fault urls [] is some same all = absurd (cc)
urls_allocated (Err e) fault [] (b ∷ input) is some same all = grind arith
urls_allocated (Err e) fault (url ∷ urls) (b ∷ input) is some same all = grind arith
