-- A rule that another one replaces changes no verdict.
use Rattle.std.proofs.Common.{◌≡◌, ◌≢◌, ◌<◌, ◌≤◌, ◌+◌, ◌↔◌, ◌⊎◌, inl, inr, ℕ, zero, suc, true, false, List}
use Rattle.std.proofs.Common.{[], ◌∷◌, ◌++◌, All, Contains, add-one, arith, bytes_eq, drop, get_or, length}
use Rattle.std.proofs.Common.{refl, subst, sym, take}
use Rattle.std.proofs.lemmas.Bool.{cases_Bool, cases_lt, false≢true, ne_eqb}
use Rattle.std.proofs.lemmas.Bool.Decides.{not_from_Decides}
use Rattle.std.proofs.lemmas.List.{get_or_default, Elements.All-contains}
use Rattle.std.proofs.lemmas.Slice.Eq.{bytes_eq-Decides}
use Rattle.texting_robots.specs.{Rules.PlacedRule, Rules.Rule, Rules.unplaced}
use Rattle.texting_robots.specs.Pattern.{Matches, MatchesWith, dollar, star}
use Rattle.texting_robots.specs.Verdict.{IsDenied, robots_file}
use Rattle.texting_robots.proofs.Shared.{matches, matches_decides, placed_of}
use Rattle.robots_rules.specs.{Internal.rank_of, Same.HaveSameVerdicts}
use Rattle.robots_rules.specs.Search.{Covers, IsNoRival, IsReducedTo, Replaces, least_rival, others}
use Rattle.robots_rules.proofs.TogetherLemmas.{in_cons, unplaced_of, verdicts}

-- ---- Patterns that differ before their first star or dollar.

plain_step : (b : ℕ) (q t : List ℕ) → b ≢ star → b ≢ dollar → Matches (b ∷ q) t
    → (s : List ℕ) × (t ≡ b ∷ s) × Matches q s
unfolding MatchesWith
plain_step b q t no_star no_dollar m = grind (arith, ne_eqb)

abbrev pub IsPlain : ℕ → Type 0
IsPlain b = (b ≢ star) × (b ≢ dollar)

pub differ_at : (k : ℕ) (p q t : List ℕ) → k < length p → k < length q
    → ((j : ℕ) → j < k → IsPlain (get_or p j 0) × (get_or p j 0 ≡ get_or q j 0)) → IsPlain (get_or p k 0)
    → IsPlain (get_or q k 0) → get_or p k 0 ≢ get_or q k 0 → Matches p t → ¬ Matches q t
differ_at k [] q t in_p in_q same plain other differ m n = absurd (omega arith)
differ_at k (a ∷ p) [] t in_p in_q same plain other differ m n = absurd (omega arith)
differ_at zero (a ∷ p) (b ∷ q) t in_p in_q same plain other differ m n = grind (arith, plain_step)
differ_at (suc k) (a ∷ p) (b ∷ q) t in_p in_q same plain other differ m n =
    let (here, equal) = same 0 (omega arith) in
    let (s, is, first) = plain_step a p t here.0 here.1 m in
    let (u, too, second) = plain_step b q t (λ at. here.0 (cc)) (λ at. here.1 (cc)) n in
    let tails : u ≡ s = cc in
    differ_at k p q s (omega arith) (omega arith) (λ j less. same (suc j) (omega arith)) plain other differ
    first (subst (Matches q) tails second)

-- ---- What Disallows alone say of their patterns.

cons_cases : {A : Type 0} (x : A) (xs : List A) (y : A) → Contains (x ∷ xs) y → (x ≡ y) ⊎ Contains xs y
cons_cases x xs y has = grind arith

kinds_differ : (p q : List ℕ) → ◌≢◌ {A = Rule} (p, false) (q, true)
kinds_differ p q same = grind arith

no_allow : (p q : List ℕ) (others : List Rule) → ¬ Contains {X = Rule} others (q, true)
    → ¬ Contains {X = Rule} ((p, false) ∷ others) (q, true)
no_allow p q others none has = grind (arith, cons_cases, kinds_differ)

no_allows : (p q : List ℕ) → ¬ Contains {X = Rule} ((p, false) ∷ []) (q, true)
no_allows p q = no_allow p q [] (λ (k, below, at). omega arith)

matched_by : (w text : List ℕ) → IsDenied ((w, false) ∷ []) text → Matches w text
matched_by w text h = grind arith

pub covers_by : (w n : List ℕ) → HaveSameVerdicts [] ((w, false) ∷ (n, false) ∷ []) ((w, false) ∷ [])
    → Covers w n
covers_by w n same text differs fits =
    matched_by w text ((same text false).0 (
      differs,
      n,
      (1, omega arith, refl),
      fits,
      λ q has. absurd (no_allow w q ((n, false) ∷ []) (no_allows n q) has),
    ))

-- ---- A rule among others.

-- the rest are these rules without this one
pub record IsRest (some : List Rule) (rule : Rule) (rest : List Rule) : Type 0 where
  pub either : (x : Rule) → Contains some x → Contains rest x ⊎ (rule ≡ x)
  pub among : (x : Rule) → Contains rest x → Contains some x

-- where it matches a text that the rule matches, it has less than so many bytes or ranks above the rule
abbrev IsOutside : ℕ → Rule → Rule → List ℕ → Type 0
IsOutside least rule x text = x.1 ≢ rule.1 → least ≤ length x.0 → rank_of x < rank_of rule → Matches x.0 text
    → ¬ Matches rule.0 text

module _ (some rest : List Rule) (text : List ℕ) (differs : text ≢ robots_file) where
  allow_stays : (a : List ℕ) → IsRest some (a, true) rest → IsDenied some text → IsDenied rest text
  allow_stays a is (_, p, has, fits, longest) = (
    differs,
    p,
    elim (is.either (p, false) has) [ inl listed ↦ listed | inr same ↦ absurd (kinds_differ p a (sym same)) ],
    fits,
    λ q listed. longest q (is.among _ listed),
  )

  allow_with : (a p : List ℕ) → IsRest some (a, true) rest → Contains rest (p, false) → Matches p text
      → ((q : List ℕ) → Contains rest (q, true) → Matches q text → length q < length p)
      → (Matches a text → length a < length p) → IsDenied some text
  allow_with a p is has fits longest less = (
    differs,
    p,
    is.among _ has,
    fits,
    λ q listed here. elim (is.either (q, true) listed) [
      | inl other ↦ longest q other here
      | inr same ↦ grind arith
    ],
  )

  disallow_stays : (d : List ℕ) → IsRest some (d, false) rest → IsDenied rest text → IsDenied some text
  disallow_stays d is (_, p, has, fits, longest) = (
    differs,
    p,
    is.among _ has,
    fits,
    λ q listed. elim (is.either (q, true) listed) [
      | inl other ↦ longest q other
      | inr same ↦ absurd (kinds_differ d q same)
    ],
  )

  disallow_with : (d p : List ℕ) → IsRest some (d, false) rest → Contains rest (p, false)
      → (Matches d text → Matches p text)
      → ((q : List ℕ) → Contains rest (q, true) → Matches q text → Matches d text → length q < length d
      → length q < length p) → IsDenied some text → IsDenied rest text
  disallow_with d p is has covers less (_, n, listed, fits, longest) = elim (is.either (n, false) listed) [
    | inl other ↦ (differs, n, other, fits, λ q in_rest. longest q (is.among _ in_rest))
    | inr same ↦
        let here : Matches d text = grind arith in (
          differs,
          p,
          has,
          covers here,
          λ q in_rest fits_q.
              less q in_rest fits_q here (grind arith),
        )
  ]

  -- the other one ranks no lower
  overruled : (rule other : Rule) → IsRest some rule rest → Contains rest other
      → (Matches rule.0 text → Matches other.0 text) → rank_of rule ≤ rank_of other
      → IsDenied some text ↔ IsDenied rest text
  overruled (a, true) (b, true) is has covers above = (
    allow_stays a is,
    λ (_, p, listed, fits, longest).
        allow_with a p is listed fits longest
        (λ here. let less = longest b has (covers here) in omega arith),
  )
  overruled (a, true) (b, false) is has covers above = (
    allow_stays a is,
    λ (_, p, listed, fits, longest).
        elim (cases_lt (length a) (length p)) [
          | inl less ↦ allow_with a p is listed fits longest (λ _. less)
          | inr most ↦ elim (cases_Bool (matches true a text)) [
            | inl here ↦
                let here = (matches_decides true a text).0 here in
                allow_with a b is has (covers here)
                (λ q in_rest fits_q. let less = longest q in_rest fits_q in omega arith) (λ _. omega arith)
            | inr none ↦
                let none = not_from_Decides _ (matches_decides true a text) none in
                allow_with a p is listed fits longest (λ here. absurd (none here))
          ]
        ],
  )
  overruled (d, false) (b, true) is has covers above = (
    λ (_, n, listed, fits, longest).
        elim (is.either (n, false) listed) [
          | inl other ↦ (differs, n, other, fits, λ q in_rest. longest q (is.among _ in_rest))
          | inr same ↦
              let here : Matches d text = grind arith in
              let less : length b < length d = grind arith in
              absurd (omega arith)
        ],
    disallow_stays d is,
  )
  overruled (d, false) (b, false) is has covers above = (
    disallow_with d b is has covers (λ q in_rest fits here less. omega arith),
    disallow_stays d is,
  )

  -- no rule of the other kind is between
  covered : (rule other : Rule) → IsRest some rule rest → Contains rest other
      → (Matches rule.0 text → Matches other.0 text) → other.1 ≡ rule.1
      → ((x : Rule) → Contains rest x → IsOutside (least_rival other) rule x text)
      → IsDenied some text ↔ IsDenied rest text
  covered (a, true) (b, true) is has covers kind none = (
    allow_stays a is,
    λ (_, p, listed, fits, longest).
        allow_with a p is listed fits longest (λ here. elim (cases_lt (length a) (length p)) [
          | inl less ↦ less
          | inr most ↦
              let less = longest b has (covers here) in
              absurd (none (p, false) listed (λ same. false≢true same) (omega arith) (omega arith) fits here)
        ]),
  )
  covered (d, false) (b, false) is has covers kind none = (
    disallow_with d b is has covers (λ q in_rest fits here less. elim (cases_lt (length q) (length b)) [
      | inl few ↦ few
      | inr most ↦
          absurd (none (q, true) in_rest (λ same. false≢true (sym same)) most (omega arith) fits here)
    ]),
    disallow_stays d is,
  )
  covered (a, true) (b, false) is has covers kind none = absurd (false≢true kind)
  covered (d, false) (b, true) is has covers kind none = absurd (false≢true (sym kind))

  -- the Allow matches what is allowed anyway
  allowed : (rule : Rule) → rule.1 ≡ true → IsRest some rule rest
      → ((x : Rule) → Contains rest x → IsOutside 0 rule x text) → IsDenied some text ↔ IsDenied rest text
  allowed (a, true) kind is none = (
    allow_stays a is,
    λ (_, p, listed, fits, longest).
        allow_with a p is listed fits longest (λ here. elim (cases_lt (length a) (length p)) [
          | inl less ↦ less
          | inr most ↦
              absurd (none (p, false) listed (λ same. false≢true same) (omega arith) (omega arith) fits here)
        ]),
  )
  allowed (d, false) kind is none = absurd (false≢true kind)

-- ---- The rule at a place.

in_cut : {A : Type 0} (xs : List A) (at : ℕ) (x : A) → Contains xs x
    → Contains (take at xs ++ drop (suc at) xs) x ⊎ (get_or xs at x ≡ x)
in_cut [] at x (k, below, is) = absurd (omega arith)
in_cut (y ∷ xs) zero x (zero, below, is) = inr is
in_cut (y ∷ xs) zero x (suc k, below, is) = inl (k, omega arith, is)
in_cut (y ∷ xs) (suc at) x (zero, below, is) = inl (zero, omega arith, is)
in_cut (y ∷ xs) (suc at) x (suc k, below, is) = elim (in_cut xs at x (k, omega arith, is)) [
  | inl has ↦ inl (in_cons y (take at xs ++ drop (suc at) xs) x has)
  | inr same ↦ inr same
]

of_cut : {A : Type 0} (xs : List A) (at : ℕ) (x : A) → Contains (take at xs ++ drop (suc at) xs) x
    → Contains xs x
of_cut [] zero x (k, below, is) = absurd (omega arith)
of_cut [] (suc at) x (k, below, is) = absurd (omega arith)
of_cut (y ∷ xs) zero x has = in_cons y xs x has
of_cut (y ∷ xs) (suc at) x has = elim (cons_cases y (take at xs ++ drop (suc at) xs) x has) [
  | inl same ↦ (zero, omega arith, same)
  | inr other ↦ in_cons y xs x (of_cut xs at x other)
]

in_others : (rules : List PlacedRule) (at : ℕ) (x : PlacedRule) → Contains rules x
    → Contains (take at rules ++ drop (at + 1) rules) x ⊎ (get_or rules at x ≡ x)
in_others rules at x has = rw add-one (in_cut rules at x has)

of_others : (rules : List PlacedRule) (at : ℕ) (x : PlacedRule)
    → Contains (take at rules ++ drop (at + 1) rules) x → Contains rules x
of_others rules at x has = of_cut rules at x (rw add-one at has)

module _ (rules : List PlacedRule) (at : ℕ) (rule : PlacedRule) (below : at < length rules)
    (here : rule ≡ get_or rules at rule) where
  is_rest : IsRest (unplaced rules) rule.rule (unplaced (others at rules))
  is_rest = record {
    either = λ x has.
        let (placed, listed, is) = placed_of rules x has in
        elim (in_others rules at placed listed) [
          | inl other ↦ inl (rw is at (unplaced_of (others at rules) placed other))
          | inr same ↦ inr (grind (arith, get_or_default))
        ];
    among = λ x has.
        let (placed, listed, is) = placed_of (others at rules) x has in
        rw is at (unplaced_of rules placed (of_others rules at placed listed));
  }

  outside : (least : ℕ) → All (IsNoRival least rule) rules → (text : List ℕ) (x : Rule)
      → Contains (unplaced (others at rules)) x → IsOutside least rule.rule x text
  outside least all text x has differ most less fits =
      let (placed, listed, is) = placed_of (others at rules) x has in
      let apart = All-contains (IsNoRival least rule) rules placed all (of_others rules at placed listed) in
      (rw is at apart) differ most less text fits

  from_texts : ((text : List ℕ) → text ≢ robots_file
      → IsDenied (unplaced rules) text ↔ IsDenied (unplaced (others at rules)) text)
      → IsReducedTo rules (others at rules)
  from_texts same text = verdicts _ _ text (elim (cases_Bool (bytes_eq text robots_file)) [
    | inl file ↦
        let is = (bytes_eq-Decides text robots_file).0 file in
        (λ denied. absurd (denied.0 is), λ denied. absurd (denied.0 is))
    | inr other ↦ same text (not_from_Decides _ (bytes_eq-Decides text robots_file) other)
  ])

  pub replaced : (other : PlacedRule) → Contains (others at rules) other → Covers other.rule.0 rule.rule.0
      → Replaces rules rule other → IsReducedTo rules (others at rules)
  replaced other has covers (inl above) = from_texts (λ text differs.
      overruled (unplaced rules) (unplaced (others at rules)) text differs rule.rule other.rule is_rest
      (unplaced_of (others at rules) other has) (covers text differs) above)
  replaced other has covers (inr (kind, none)) = from_texts (λ text differs.
      covered (unplaced rules) (unplaced (others at rules)) text differs rule.rule other.rule is_rest
      (unplaced_of (others at rules) other has) (covers text differs) kind
      (outside (least_rival other.rule) none text))

  pub allowed_anyway : rule.rule.1 ≡ true → All (IsNoRival 0 rule) rules → IsReducedTo rules (others at rules)
  allowed_anyway kind none = from_texts (λ text differs.
      allowed (unplaced rules) (unplaced (others at rules)) text differs rule.rule kind is_rest
      (outside 0 none text))
