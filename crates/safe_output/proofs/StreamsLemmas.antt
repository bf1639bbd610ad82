-- Consecutive writes to a writer whose bytes are known.
use Rattle.std.proofs.Common.{ℕ, ◌+◌, ◌-◌, List, ◌++◌, length, take, drop, Option, Some, None, sym, ap, ◌∙◌}
use Rattle.std.proofs.Common.{append_assoc}
use Rattle.std.specs.Io.KnownBytes.{Appends, Keeps}
use Rattle.std.proofs.{Math.Seq.take-add, lemmas.List.take-append-drop, lemmas.List.take_rest}
use Rattle.safe_output.specs.{Streams.AppendsBeginning}

appends_more : (old mid new : Option (List ℕ)) (xs ys : List ℕ) → Appends old mid xs
    → Appends mid new ys → Appends old new (xs ++ ys)
appends_more None mid new xs ys one two = tt
appends_more (Some a) None new xs ys one two = absurd one
appends_more (Some a) (Some b) None xs ys one two = absurd two
appends_more (Some a) (Some b) (Some d) xs ys one two =
    two ∙ ap (λ t. t ++ ys) one ∙ append_assoc a xs ys

pub appends_kept : (old mid new : Option (List ℕ)) (xs : List ℕ) → Appends old mid xs
    → Keeps mid new → Appends old new xs
appends_kept None mid new xs one two = tt
appends_kept (Some a) None new xs one two = absurd one
appends_kept (Some a) (Some b) None xs one two = absurd two
appends_kept (Some a) (Some b) (Some d) xs one two = two ∙ one

pub appends_next : (old mid new : Option (List ℕ)) (n m : ℕ) (text : List ℕ)
    → Appends old mid (take n text) → Appends mid new (take m (take (length text - n) (drop n text)))
    → Appends old new (take (n + m) text)
appends_next old mid new n m text one two =
    rw (take-add n m text)
    (appends_more old mid new (take n text) (take m (drop n text)) one (rw (take_rest text n) at two))

pub is_beginning : (old new : Option (List ℕ)) (n : ℕ) (text : List ℕ) → Appends old new (take n text)
    → AppendsBeginning old new text
is_beginning old new n text written = (take n text, drop n text, sym (take-append-drop n text), written)
