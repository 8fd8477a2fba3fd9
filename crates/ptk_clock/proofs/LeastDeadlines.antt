-- The least of deadlines by thread number: of the slots it is found among, what it says of expiries, and of none.
use Rattle.std.proofs.Common.{◌≡◌, ◌≢◌, ℕ, zero, suc, ◌+◌, ◌<◌, ◌≤◌, List, [], ◌∷◌, min, Bool, true, false, cond, not, refl, sym, ◌∙◌, ap, subst, arith, Option, Some, None, inl, inr}
use Rattle.std.specs.Prelude.{◌==◌, option_map, slice_get, IfSome}
use Rattle.std.specs.Option.{option_flatten, is_some}
use Rattle.std.proofs.lemmas.Bool.Decides.{nat_tests}
use Rattle.std.proofs.lemmas.Option.{none-some}
use Rattle.ptk_words.specs.Names.{Tick}
use Rattle.ptk_words.specs.Pools.{pool_get, pool_set}
use Rattle.ptk_words_sync_invariant.specs.Expiries.{next_expiry}
use Rattle.ptk_words_sync_invariant.proofs.Expiries.{next_only}
use Rattle.ptk_words_sync_invariant.proofs.Deadlines.{free_again}
use Rattle.ptk_clock.specs.Pairs.{Pair, is_before, IsLeast, is_among, is_due, least_among, least_due}
use Rattle.ptk_clock.specs.BySlot.{deadline_at, deadlines_from}
use Rattle.ptk_clock.specs.ByThread.{earlier, least_deadline, is_reached}
use Rattle.ptk_clock.proofs.BySlot.{deadline_at-cons, own_slot, decided}
use Rattle.ptk_clock.proofs.Expiries.{none_passes, not_before_least, found_passes, found_at, IsDue, due_parts}

-- ---- the least of some slots' deadlines

-- a deadline that there is, is at least this
abbrev IsFrom : ℕ → Option Tick → Type 0
IsFrom d None = Unit {0}
IsFrom d (Some e) = d ≤ e

is_from : (d : ℕ) (o : Option Tick) → ((e : ℕ) → o ≡ Some e → d ≤ e) → IsFrom d o
is_from d None h = tt
is_from d (Some e) h = h e refl

earlier_from : (d : ℕ) (a b : Option Tick) → IsFrom d a → IsFrom d b → IsFrom d (earlier a b)
earlier_from d None b h k = k
earlier_from d (Some a) None h k = h
earlier_from d (Some a) (Some b) h k = omega (arith, h, k)

earlier_first : (d : ℕ) (b : Option Tick) → IsFrom d b → earlier (Some d) b ≡ Some d
earlier_first d None h = refl
earlier_first d (Some b) h = let is : min d b ≡ d = omega (arith, h) in ap Some is

earlier_later : (d : ℕ) (a : Option Tick) → IsFrom d a → earlier a (Some d) ≡ Some d
earlier_later d None h = refl
earlier_later d (Some a) h = let is : min a d ≡ d = omega (arith, h) in ap Some is

least_from : (first n d : ℕ) (xs : List Pair) → ((q : ℕ) → first ≤ q → q < first + n → IsFrom d (deadline_at xs q)) → IsFrom d (least_deadline (deadlines_from first n xs))
least_from first zero d xs h = tt
least_from first (suc n) d xs h =
    earlier_from d (deadline_at xs first) (least_deadline (deadlines_from (suc first) n xs)) (h first (omega arith) (omega arith)) (least_from (suc first) n d xs (λ q le lt. h q (omega (arith, le)) (omega (arith, lt))))

least_some : (first n s d : ℕ) (xs : List Pair) → first ≤ s → s < first + n → deadline_at xs s ≡ Some d → ((q : ℕ) → first ≤ q → q < first + n → IsFrom d (deadline_at xs q)) → least_deadline (deadlines_from first n xs) ≡ Some d
least_some first zero s d xs le lt at h = absurd (omega (arith, le, lt))
least_some first (suc n) s d xs le lt at h = elim (decided first s) as (λ _. least_deadline (deadlines_from first (suc n) xs) ≡ Some d) [
  | inl same ↦ (
      let here : deadline_at xs first ≡ Some d = ap (deadline_at xs) same ∙ at in
      ap (λ o. earlier o (least_deadline (deadlines_from (suc first) n xs))) here
      ∙ earlier_first d (least_deadline (deadlines_from (suc first) n xs)) (least_from (suc first) n d xs (λ q low high. h q (omega (arith, low)) (omega (arith, high))))
      )
  | inr ne ↦ (
      let ne' : first ≢ s = ne in
      let rest : least_deadline (deadlines_from (suc first) n xs) ≡ Some d =
      least_some (suc first) n s d xs (omega (arith, le, ne')) (omega (arith, lt)) at (λ q low high. h q (omega (arith, low)) (omega (arith, high))) in
      ap (λ o. earlier (deadline_at xs first) o) rest ∙ earlier_later d (deadline_at xs first) (h first (omega arith) (omega arith))
      )
]

pub least_none : (first n : ℕ) (xs : List Pair) → ((q : ℕ) → first ≤ q → q < first + n → deadline_at xs q ≡ None) → least_deadline (deadlines_from first n xs) ≡ None
least_none first zero xs h = refl
least_none first (suc n) xs h =
    let here : deadline_at xs first ≡ None = h first (omega arith) (omega arith) in
    let rest : least_deadline (deadlines_from (suc first) n xs) ≡ None = least_none (suc first) n xs (λ q le lt. h q (omega (arith, le)) (omega (arith, lt))) in
    rw (here, rest) refl

apart_among : (first last : ℕ) (x a : Pair) → is_among first last x ≡ false → is_among first last a ≡ true → (x.1 == a.1) ≡ false
apart_among first last x a not passes = grind (arith, nat_tests)

-- a pair that none of another's slot is found before
among_own : (first last : ℕ) (xs : List Pair) (a : Pair) → least_among first last xs ≡ Some a → deadline_at xs a.1 ≡ Some a.0
among_own first last [] a found = absurd (none-some a found)
among_own first last (x ∷ xs) a found =
    let passes : is_among first last a ≡ true = found_passes (is_among first last) (x ∷ xs) a found in
    found_at (deadline_at (x ∷ xs) a.1 ≡ Some a.0) (is_among first last) x xs a (is_among first last x) refl found
    (λ same t. ap (deadline_at (x ∷ xs)) (ap (λ (pair : Pair). pair.1) (sym same)) ∙ deadline_at-cons x xs x.1 ∙ own_slot x.1 (Some x.0) (deadline_at xs x.1) ∙ ap (λ (pair : Pair). Some pair.0) same)
    (λ later not. (
    let apart : (x.1 == a.1) ≡ false = apart_among first last x a not passes in
    deadline_at-cons x xs a.1 ∙ ap (λ b. cond b (Some x.0) (deadline_at xs a.1)) apart ∙ among_own first last xs a later
    ))

among_when : (first last n q d : ℕ) → last + 1 ≡ first + n → first ≤ q → q < first + n → is_among first last (d, q) ≡ true
among_when first last n q d end low high = grind (arith, nat_tests)

among_low : (first last : ℕ) (a : Pair) → is_among first last a ≡ true → first ≤ a.1
among_low first last a passes = grind (arith, nat_tests)

among_high : (first last : ℕ) (a : Pair) → is_among first last a ≡ true → a.1 ≤ last
among_high first last a passes = grind (arith, nat_tests)

from_not_before : (d q : ℕ) (a : Pair) → is_before (d, q) a ≡ false → a.0 ≤ d
from_not_before d q a not = grind (arith, nat_tests)

no_deadline : (o : Option Tick) → ((e : ℕ) → o ≡ Some e → ⊥) → o ≡ None
no_deadline None h = refl
no_deadline (Some e) h = absurd (h e refl)

true_false : (b : Bool) → b ≡ true → b ≡ false → ⊥
true_false true t f = let no : true ≡ false = f in absurd (cc)
true_false false t f = let no : false ≡ true = t in absurd (cc)

least_found : (first last n : ℕ) (xs : List Pair) (o : Option Pair) → last + 1 ≡ first + n → least_among first last xs ≡ o → IfSome o (IsLeast (is_among first last) xs) → option_map (λ (pair : Pair). pair.0) o ≡ least_deadline (deadlines_from first n xs)
least_found first last n xs None end found least =
    sym (least_none first n xs (λ q low high. no_deadline (deadline_at xs q) (λ e at. true_false (is_among first last (e, q)) (among_when first last n q e end low high) (none_passes (is_among first last) xs q e found at))))
least_found first last n xs (Some a) end found least =
    let passes : is_among first last a ≡ true = found_passes (is_among first last) xs a found in
    let high : a.1 ≤ last = among_high first last a passes in
    sym (least_some first n a.1 a.0 xs (among_low first last a passes) (omega (arith, high, end)) (among_own first last xs a found)
    (λ q low below. is_from a.0 (deadline_at xs q) (λ e at. from_not_before e q a (not_before_least (is_among first last) xs a q e least at (among_when first last n q e end low below)))))

-- of pairs in order, the least among the slots of a partition
pub least_among-deadline : (first last n : ℕ) (xs : List Pair) → last + 1 ≡ first + n → IfSome (least_among first last xs) (IsLeast (is_among first last) xs) → option_map (λ (pair : Pair). pair.0) (least_among first last xs) ≡ least_deadline (deadlines_from first n xs)
least_among-deadline first last n xs end least = least_found first last n xs (least_among first last xs) end refl least

-- the same where the first slot is told by another name
pub least_is : (f first last n : ℕ) (xs : List Pair) (o : Option Tick) → f ≡ first → last + 1 ≡ first + n → o ≡ option_map (λ (pair : Pair). pair.0) (least_among f last xs) → IfSome (least_among f last xs) (IsLeast (is_among f last) xs) → o ≡ least_deadline (deadlines_from first n xs)
least_is f first last n xs o e end is least = is ∙ least_among-deadline f last n xs (omega (arith, e, end)) least ∙ ap (λ k. least_deadline (deadlines_from k n xs)) e

-- ---- none is due before the least

-- the least is there, and is at most this
abbrev IsTo : ℕ → Option Tick → Type 0
IsTo d None = ⊥
IsTo d (Some e) = e ≤ d

to_first : (d : ℕ) (b : Option Tick) → IsTo d (earlier (Some d) b)
to_first d None = omega arith
to_first d (Some b) = omega arith

to_later : (d : ℕ) (a b : Option Tick) → IsTo d b → IsTo d (earlier a b)
to_later d None b h = h
to_later d (Some a) None h = absurd h
to_later d (Some a) (Some b) h = omega (arith, h)

least_to : (i d : ℕ) (ds : List (Option Tick)) → option_flatten (slice_get ds i) ≡ Some d → IsTo d (least_deadline ds)
least_to i d [] e = absurd (none-some d e)
least_to zero d (x ∷ ds) e = let P : Option Tick → Type 0 = λ o. IsTo d (earlier o (least_deadline ds)) in subst P (sym e) (to_first d (least_deadline ds))
least_to (suc i) d (x ∷ ds) e = to_later d x (least_deadline ds) (least_to i d ds e)

to_number : (t d : ℕ) (ds : List (Option Tick)) → pool_get ds t ≡ Some d → IsTo d (least_deadline ds)
to_number zero d ds e = absurd (none-some d e)
to_number (suc i) d ds e = least_to i d ds e

not_reached : (now d : ℕ) (o : Option Tick) → is_reached now o ≡ false → IsTo d o → now < d
not_reached now d None f h = absurd h
not_reached now d (Some e) f h = let late : now < e = grind (arith, nat_tests) in omega (arith, late, h)

pub none_reached : (now : Tick) (ds : List (Option Tick)) → is_reached now (least_deadline ds) ≡ false → next_expiry now ds ≡ None
none_reached now ds f = sym (next_only now ds None (λ t d e. not_reached now d (least_deadline ds) f (to_number t d ds e)))

-- where the least is kept beside, and is not reached, none is due
pub none_due : (now : Tick) (next : Option Tick) (ds : List (Option Tick)) → next ≡ least_deadline ds → is_reached now next ≡ false → next_expiry now ds ≡ None
none_due now next ds e f = none_reached now ds (ap (is_reached now) (sym e) ∙ f)

-- ---- where no thread has a deadline, none is ended

some_least : (d : ℕ) (o : Option Tick) → o ≡ None → IsTo d o → ⊥
some_least d None e h = h
some_least d (Some x) e h = none-some x (sym e)

pub all_free : (t : ℕ) (ds : List (Option Tick)) → least_deadline ds ≡ None → pool_get ds t ≡ None
all_free t ds e = no_deadline (pool_get ds t) (λ d at. some_least d (least_deadline ds) e (to_number t d ds at))

not_some : (o : Option Tick) → is_some o ≡ false → o ≡ None
not_some None e = refl
not_some (Some d) e = let no : true ≡ false = e in absurd (cc)

-- where no thread has a deadline, and none is to come, all stay
pub none_set : (t : ℕ) (least deadline : Option Tick) (ds : List (Option Tick)) → least ≡ least_deadline ds → is_some deadline ≡ false → is_some least ≡ false → pool_set ds t deadline ≡ ds
none_set t least deadline ds is new old = ap (pool_set ds t) (not_some deadline new) ∙ free_again t ds (all_free t ds (sym is ∙ not_some least old))

-- ---- the first due one

pub record IsOwn (first n slot : ℕ) : Type 0 where
  pub low : first ≤ slot
  pub high : slot < first + n

pub taken_own : (f first last n : ℕ) (now : Tick) (xs : List Pair) (o : Option Pair) (a : Pair) → f ≡ first → last + 1 ≡ first + n → o ≡ least_due f last now xs → o ≡ Some a → IsOwn first n a.1
taken_own f first last n now xs o a e end taken some =
    let is : IsDue f last now a = due_parts f last now a (found_passes (is_due f last now) xs a (sym taken ∙ some)) in
    let low : f ≤ a.1 = is.low in
    let high : a.1 ≤ last = is.high in
    record { low = omega (arith, e, low); high = omega (arith, end, high) }
