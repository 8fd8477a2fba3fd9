-- The first number of a pool at which a test holds.
use Rattle.std.proofs.Common.{arith, ◌≡◌, ℕ, ◌+◌, ◌-◌, ◌<◌, zero, suc, List, [], ◌∷◌, ◌++◌, length, refl, sym, ◌∙◌, ap, add-one, Bool, true, false}
use Rattle.std.specs.Prelude.{Option, Some, None, option_and_then, unwrap_or, slice_get, find, filter, nat_lt, ◌&&◌}
use Rattle.std.specs.Option.{option_or}
use Rattle.std.proofs.lemmas.List.Folds.{find-append}
use Rattle.std.proofs.lemmas.List.Elements.{filter-append}
use Rattle.std.proofs.lemmas.Bool.{lt-ltb}
use Rattle.ptk_words.specs.Pools.{numbered, numbers_to}
use Rattle.ptk_words.specs.declared.TheConstants.{DESTRUCTOR_ROUNDS}
use Rattle.ptk_words.specs.Parts.{part_of}
use Rattle.ptk_words_model.specs.declared.Rounds.{Rounds}
use Rattle.ptk_words_model.specs.Keys.{DestructorCall, destructor_call, values_of, is_due, due_keys, due_in_round, due_in_next_round, next_destructor}
use Rattle.ptk_keys.specs.KeptKeys.{KeptKeys, keys_at, keys_of}

-- the first of the numbers up to n at which both tests hold
abbrev pub first_to : (ℕ → Bool) → (ℕ → Bool) → ℕ → Option ℕ
first_to p q n = find p (filter q (numbers_to n))

next_number : (p q : ℕ → Bool) (n : ℕ) → first_to p q (suc n) ≡ option_or (first_to p q n) (find p (filter q (suc n ∷ [])))
next_number p q n = ap (find p) (filter-append q (numbers_to n) (suc n ∷ [])) ∙ find-append p (filter q (numbers_to n)) (filter q (suc n ∷ []))

one_hit : (p q : ℕ → Bool) (k : ℕ) (b c : Bool) → p k ≡ b → q k ≡ c → (b && c) ≡ true → find p (filter q (k ∷ [])) ≡ Some k
one_hit p q k true true e f h = rw (f, e) refl
one_hit p q k true false e f h = cc
one_hit p q k false c e f h = cc

one_miss : (p q : ℕ → Bool) (k : ℕ) (b c : Bool) → p k ≡ b → q k ≡ c → (b && c) ≡ false → find p (filter q (k ∷ [])) ≡ None
one_miss p q k true true e f h = cc
one_miss p q k true false e f h = rw f refl
one_miss p q k false true e f h = rw (f, e) refl
one_miss p q k false false e f h = rw f refl

pub none_yet : (p q : ℕ → Bool) (n : ℕ) → first_to p q n ≡ None → (p (suc n) && q (suc n)) ≡ false → first_to p q (suc n) ≡ None
none_yet p q n none miss = next_number p q n ∙ rw none (one_miss p q (suc n) (p (suc n)) (q (suc n)) refl refl miss)

stays : (p q : ℕ → Bool) (k i d n : ℕ) → d + i ≡ n → first_to p q i ≡ Some k → first_to p q n ≡ Some k
stays p q k i zero n to e = ap (first_to p q) (let same : n ≡ i = omega (arith, to) in same) ∙ e
stays p q k i (suc d) zero to e = absurd (omega (arith, to))
stays p q k i (suc d) (suc n) to e = next_number p q n ∙ rw (stays p q k i d n (omega (arith, to)) e) refl

pub found_at : (p q : ℕ → Bool) (i n : ℕ) → first_to p q i ≡ None → (p (suc i) && q (suc i)) ≡ true → i < n → first_to p q n ≡ Some (suc i)
found_at p q i n none hit lt =
    let here : first_to p q (suc i) ≡ Some (suc i) = next_number p q i ∙ rw none (one_hit p q (suc i) (p (suc i)) (q (suc i)) refl refl hit) in
    stays p q (suc i) (suc i) (n - suc i) n (omega (arith, lt)) here

-- the key that the code finds
pub found : (p q : ℕ → Bool) (i n k : ℕ) (b : Bool) → first_to p q i ≡ None → k ≡ i + 1 → b ≡ (p k && q k) → b ≡ true → i < n → Some k ≡ first_to p q n
found p q i n k b none is test hit lt =
    let next : k ≡ suc i = omega (arith, is) in
    let hits : (p (suc i) && q (suc i)) ≡ true = rw (← next) (sym test ∙ hit) in
    ap Some next ∙ sym (found_at p q i n none hits lt)

pub ruleset searched = (none_yet, add-one)

-- ---- the first of all

either : (xs ys : List ℕ) → slice_get (xs ++ ys) 0 ≡ option_or (slice_get xs 0) (slice_get ys 0)
either [] ys = refl
either (x ∷ xs) ys = refl

positive : (n : ℕ) → nat_lt 0 (suc n) ≡ true
positive n = lt-ltb 0 (suc n) (omega arith)

one_first : (q : ℕ → Bool) (n : ℕ) (b : Bool) → q (suc n) ≡ b → find (λ k. nat_lt 0 k) (filter q (suc n ∷ [])) ≡ slice_get (filter q (suc n ∷ [])) 0
one_first q n true e = rw (e, positive n) refl
one_first q n false e = rw e refl

-- every number is above 0
pub first_of_all : (q : ℕ → Bool) (n : ℕ) → first_to (λ k. nat_lt 0 k) q n ≡ slice_get (filter q (numbers_to n)) 0
first_of_all q zero = refl
first_of_all q (suc n) =
    next_number (λ k. nat_lt 0 k) q n
    ∙ rw (first_of_all q n, one_first q n (q (suc n)) refl)
    (sym (ap (λ l. slice_get l 0) (filter-append q (numbers_to n) (suc n ∷ [])) ∙ either (filter q (numbers_to n)) (filter q (suc n ∷ []))))

-- ---- the next call

-- some key is due in the next round
pub next_some : (destructors : List (Option ℕ)) (values : List ℕ) (rounds : Rounds) (key : ℕ) (o : Option ℕ) (call : DestructorCall) → rounds.round < DESTRUCTOR_ROUNDS
    → o ≡ find (λ k. nat_lt 0 k) (due_keys (keys_of destructors) values) → o ≡ Some key → call ≡ destructor_call values (rounds.round + 1) key
    → Some call ≡ due_in_next_round (keys_of destructors) values rounds
next_some destructors values rounds key o call lt e is made =
    let first : slice_get (due_keys (keys_of destructors) values) 0 ≡ Some key = sym (first_of_all (is_due (keys_of destructors) values) (length destructors)) ∙ sym e ∙ is in
    let later : rounds.round + 1 ≡ suc rounds.round = omega arith in
    rw (lt-ltb rounds.round DESTRUCTOR_ROUNDS lt, first) (ap Some (made ∙ ap (λ r. destructor_call values r key) later))

-- none is
pub next_none : (destructors : List (Option ℕ)) (values : List ℕ) (rounds : Rounds) (o : Option ℕ) → rounds.round < DESTRUCTOR_ROUNDS
    → o ≡ find (λ k. nat_lt 0 k) (due_keys (keys_of destructors) values) → o ≡ None → None ≡ due_in_next_round (keys_of destructors) values rounds
next_none destructors values rounds o lt e is =
    let first : slice_get (due_keys (keys_of destructors) values) 0 ≡ None = sym (first_of_all (is_due (keys_of destructors) values) (length destructors)) ∙ sym e ∙ is in
    rw (lt-ltb rounds.round DESTRUCTOR_ROUNDS lt, first) refl

pub ruleset due = (next_some, next_none)

-- the call that the tables give is the thread's next
pub next_is : (kept table : KeptKeys) (p t : ℕ) (destructors : List (Option ℕ)) (rows : List (List ℕ)) (values : List ℕ) (far : List Rounds) (o : Option Rounds) (rounds : Rounds) (call : Option DestructorCall)
    → kept ≡ table → destructors ≡ part_of kept.destructors p → rows ≡ part_of kept.values p → values ≡ unwrap_or (numbered rows t) [] → far ≡ part_of kept.rounds p → o ≡ numbered far t → o ≡ Some rounds
    → call ≡ option_or (due_in_round (keys_of destructors) values rounds) (due_in_next_round (keys_of destructors) values rounds)
    → call ≡ next_destructor (keys_at p table) t
next_is kept table p t destructors rows values far o rounds call view d r v f e is made =
    let here : numbered (part_of kept.rounds p) t ≡ Some rounds = sym (ap (λ l. numbered l t) f) ∙ sym e ∙ is in
    let own : values ≡ values_of (keys_at p kept) t = v ∙ ap (λ l. unwrap_or (numbered l t) []) r in
    let told : call ≡ option_or (due_in_round (keys_at p kept) (values_of (keys_at p kept) t) rounds) (due_in_next_round (keys_at p kept) (values_of (keys_at p kept) t) rounds) =
    made
    ∙ ap (λ l. option_or (due_in_round (keys_of l) values rounds) (due_in_next_round (keys_of l) values rounds)) d
    ∙ ap (λ l. option_or (due_in_round (keys_at p kept) l rounds) (due_in_next_round (keys_at p kept) l rounds)) own in
    let next : next_destructor (keys_at p kept) t ≡ option_or (due_in_round (keys_at p kept) (values_of (keys_at p kept) t) rounds) (due_in_next_round (keys_at p kept) (values_of (keys_at p kept) t) rounds) =
    ap (λ o. option_and_then (λ rounds. option_or (due_in_round (keys_at p kept) (values_of (keys_at p kept) t) rounds) (due_in_next_round (keys_at p kept) (values_of (keys_at p kept) t) rounds)) o) here in
    told ∙ sym next ∙ ap (λ (k : KeptKeys). next_destructor (keys_at p k) t) view
