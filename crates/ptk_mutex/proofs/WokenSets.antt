-- The threads that are woken between two lists: nobody, one, and those of two moves in a row.
use Rattle.std.proofs.Common.{◌≡◌, ℕ, zero, suc, ◌+◌, ◌*◌, ◌-◌, ◌^◌, ◌<◌, Bool, true, false, List, [], ◌∷◌, refl, sym, ◌∙◌, ap, arith}
use Rattle.std.specs.Prelude.{Option, Some, None, option_map, bit_or, slice_get, is_some, is_none, ◌&&◌, if◌then◌else◌}
use Rattle.std.specs.Option.{option_flatten}
use Rattle.std.specs.Int.Bits.{or_zero_l, or_zero_r}
use Rattle.std.proofs.Math.ListN.{set}
use Rattle.std.proofs.Math.Nat.{pow-suc}
use Rattle.std.proofs.lemmas.Nat.{or_block}
use Rattle.ptk_words.specs.Pools.{pool_get, pool_changed}
use Rattle.ptk_words.specs.Threads.{mutex_of_wait}
use Rattle.ptk_words.specs.declared.threads.Thread.{Thread}
use Rattle.ptk_words.specs.declared.threads.Wait.{Wait}
use Rattle.ptk_words.proofs.Pools.{changed_other}
use Rattle.ptk_words_model.specs.Priority.{awaited}
use Rattle.ptk_words_model.specs.Mutex.{wait_of}
use Rattle.ptk_mutex.specs.Woken.{is_idle, is_woken, woken_between}

-- the entry at an index
abbrev entry : List (Option Thread) → ℕ → Option Thread
entry threads i = option_flatten (slice_get threads i)

-- ---- nobody

not_both : (wait : Option Wait) → (is_some wait && is_none wait) ≡ false
not_both None = refl
not_both (Some wait) = refl

and_false : (b : Bool) → (b && false) ≡ false
and_false true = refl
and_false false = refl

-- a thread that stays is not woken
pub unwoken_same : (x : Option Thread) → is_woken x x ≡ false
unwoken_same None = refl
unwoken_same (Some thread) = not_both thread.wait

pub woken_nobody : (before after : List (Option Thread)) → ((i : ℕ) → is_woken (option_flatten (slice_get before i)) (option_flatten (slice_get after i)) ≡ false) → woken_between before after ≡ 0
woken_nobody [] after none = refl
woken_nobody (x ∷ before) [] none = refl
woken_nobody (x ∷ before) (y ∷ after) none =
    let head : is_woken x y ≡ false = none 0 in
    let tail : woken_between before after ≡ 0 = woken_nobody before after (λ i. none (suc i)) in
    λ i. tail i * 2 + (if head i then 1 else 0)

pub woken_same : (threads : List (Option Thread)) → woken_between threads threads ≡ 0
woken_same threads = woken_nobody threads threads (λ i. unwoken_same (entry threads i))

-- ---- one

one_at : (i : ℕ) (f : Thread → Thread) (threads : List (Option Thread)) → is_woken (entry threads i) (option_map f (entry threads i)) ≡ true → woken_between threads (set threads i (option_map f (entry threads i))) ≡ 2 ^ i
one_at i f [] woken = let no : ⊥ = cc in absurd no
one_at zero f (x ∷ threads) woken =
    let tail : woken_between threads threads ≡ 0 = woken_same threads in
    λ i. tail i * 2 + (if woken i then 1 else 0)
one_at (suc i) f (x ∷ threads) woken =
    let tail : woken_between threads (set threads i (option_map f (entry threads i))) ≡ 2 ^ i = one_at i f threads woken in
    let head : is_woken x x ≡ false = unwoken_same x in
    let double : 2 ^ suc i ≡ 2 ^ i * 2 = pow-suc 2 i in
    (λ j. tail j * 2 + (if head j then 1 else 0)) ∙ omega (arith, double)

-- the thread that a change wakes
pub woken_one : (t : ℕ) (f : Thread → Thread) (threads : List (Option Thread)) → is_woken (pool_get threads t) (option_map f (pool_get threads t)) ≡ true → woken_between threads (pool_changed t f threads) ≡ 2 ^ (t - 1)
woken_one zero f threads woken = let no : ⊥ = cc in absurd no
woken_one (suc i) f threads woken =
    let place : i ≡ suc i - 1 = omega arith in
    one_at i f threads woken ∙ ap (λ (n : ℕ). 2 ^ n) place

kept_at : (i : ℕ) (f : Thread → Thread) (threads : List (Option Thread)) → is_woken (entry threads i) (option_map f (entry threads i)) ≡ false → woken_between threads (set threads i (option_map f (entry threads i))) ≡ 0
kept_at i f [] kept = refl
kept_at zero f (x ∷ threads) kept =
    let tail : woken_between threads threads ≡ 0 = woken_same threads in
    λ i. tail i * 2 + (if kept i then 1 else 0)
kept_at (suc i) f (x ∷ threads) kept =
    let tail : woken_between threads (set threads i (option_map f (entry threads i))) ≡ 0 = kept_at i f threads kept in
    let head : is_woken x x ≡ false = unwoken_same x in
    λ j. tail j * 2 + (if head j then 1 else 0)

-- nobody by a change that wakes nobody
pub woken_kept : (t : ℕ) (f : Thread → Thread) (threads : List (Option Thread)) → is_woken (pool_get threads t) (option_map f (pool_get threads t)) ≡ false → woken_between threads (pool_changed t f threads) ≡ 0
woken_kept zero f threads kept = woken_same threads
woken_kept (suc i) f threads kept = kept_at i f threads kept

but_at : (i : ℕ) (f : Thread → Thread) (before after : List (Option Thread)) → is_some (wait_of (entry before i)) ≡ false → woken_between before (set after i (option_map f (entry after i))) ≡ woken_between before after
but_at i f [] after none = refl
but_at i f (x ∷ before) [] none = refl
but_at zero f (x ∷ before) (y ∷ after) none =
    (λ i. woken_between before after * 2 + (if none i && is_idle (option_map f y) then 1 else 0)) ∙ sym (λ i. woken_between before after * 2 + (if none i && is_idle y then 1 else 0))
but_at (suc i) f (x ∷ before) (y ∷ after) none = ap (λ (n : ℕ). n * 2 + (if is_woken x y then 1 else 0)) (but_at i f before after none)

-- a thread that did not wait before is not among them
pub woken_but : (t : ℕ) (f : Thread → Thread) (before after : List (Option Thread)) → wait_of (pool_get before t) ≡ None → woken_between before (pool_changed t f after) ≡ woken_between before after
woken_but zero f before after none = refl
woken_but (suc i) f before after none = but_at i f before after (ap is_some none)

-- who waits is woken by a change that ends the wait
pub woken_waiter : (f : Thread → Thread) (x : Option Thread) → ((thread : Thread) → (f thread).wait ≡ None) → is_some (wait_of x) ≡ true → is_woken x (option_map f x) ≡ true
woken_waiter f None ends waits = let no : ⊥ = cc in absurd no
woken_waiter f (Some thread) ends waits = ap (λ (wait : Option Wait). is_some thread.wait && is_none wait) (ends thread) ∙ ap (λ (b : Bool). b && true) waits

-- and by none that begins another
pub unwoken_waiter : (f : Thread → Thread) (wait : Wait) (x : Option Thread) → ((thread : Thread) → (f thread).wait ≡ Some wait) → is_woken x (option_map f x) ≡ false
unwoken_waiter f wait None begins = refl
unwoken_waiter f wait (Some thread) begins = ap (λ (other : Option Wait). is_some thread.wait && is_none other) (begins thread) ∙ and_false (is_some thread.wait)

some_waits : (m : ℕ) (wait : Option Wait) → mutex_of_wait wait ≡ Some m → is_some wait ≡ true
some_waits m None named = let no : ⊥ = cc in absurd no
some_waits m (Some wait) named = refl

-- who waits for a mutex waits
pub awaited_waits : (m : ℕ) (x : Option Thread) → awaited x ≡ Some m → is_some (wait_of x) ≡ true
awaited_waits m None named = let no : ⊥ = cc in absurd no
awaited_waits m (Some thread) named = some_waits m thread.wait named

-- ---- two moves in a row

-- a thread that waits for nothing stays
pub record IsStill (before after : List (Option Thread)) : Type 0 where
  pub stays : (k : ℕ) → wait_of (pool_get before k) ≡ None → pool_get after k ≡ pool_get before k

pub still_same : (threads : List (Option Thread)) → IsStill threads threads
still_same threads = record { stays = λ k none. refl }

pub still_more : (a b c : List (Option Thread)) → IsStill a b → IsStill b c → IsStill a c
still_more a b c first second = record { stays = λ k none. second.stays k (ap wait_of (first.stays k none) ∙ none) ∙ first.stays k none }

abbrev bit_of : Bool → ℕ
bit_of b = if b then 1 else 0

bit_below : (b : Bool) → bit_of b < 2 ^ 1
bit_below true = omega arith
bit_below false = omega arith

union_bits : (waits idle still_waits then_idle : Bool) → (waits ≡ false → still_waits ≡ false) → (still_waits ≡ true → idle ≡ false) → (still_waits ≡ false → then_idle ≡ idle)
    → bit_or (bit_of (waits && idle)) (bit_of (still_waits && then_idle)) ≡ bit_of (waits && then_idle)
union_bits false idle true then_idle none waiting stays = let no : ⊥ = cc (none refl) in absurd no
union_bits false idle false then_idle none waiting stays = or_zero_l 0
union_bits true idle true then_idle none waiting stays =
    let busy : idle ≡ false = waiting refl in
    ap (λ (b : Bool). bit_or (bit_of b) (bit_of then_idle)) busy ∙ or_zero_l (bit_of then_idle)
union_bits true idle false then_idle none waiting stays = or_zero_r (bit_of idle) ∙ ap bit_of (sym (stays refl))

none_of : (wait : Option Wait) → is_some wait ≡ false → wait ≡ None
none_of None e = refl
none_of (Some wait) e = let no : ⊥ = cc in absurd no

some_not_none : (wait : Option Wait) → is_some wait ≡ true → is_none wait ≡ false
some_not_none None e = let no : ⊥ = cc in absurd no
some_not_none (Some wait) e = refl

busy_of : (x : Option Thread) → is_some (wait_of x) ≡ true → is_idle x ≡ false
busy_of None e = refl
busy_of (Some thread) e = some_not_none thread.wait e

union_entry : (x y z : Option Thread) → (wait_of x ≡ None → y ≡ x) → (wait_of y ≡ None → z ≡ y) → bit_or (bit_of (is_woken x y)) (bit_of (is_woken y z)) ≡ bit_of (is_woken x z)
union_entry x y z first second =
    union_bits (is_some (wait_of x)) (is_idle y) (is_some (wait_of y)) (is_idle z)
    (λ e. ap (λ (u : Option Thread). is_some (wait_of u)) (first (none_of (wait_of x) e)) ∙ e)
    (busy_of y)
    (λ e. ap is_idle (second (none_of (wait_of y) e)))

-- a free number stays free
gone_thread : (thread : Thread) → (thread.wait ≡ None → None ≡ Some thread) → (wait : Option Wait) → thread.wait ≡ wait → is_none wait ≡ false
gone_thread thread gone None e = let no : ⊥ = cc (gone e) in absurd no
gone_thread thread gone (Some wait) e = refl

gone_idle : (y : Option Thread) → (wait_of y ≡ None → None ≡ y) → is_idle y ≡ false
gone_idle None gone = refl
gone_idle (Some thread) gone = gone_thread thread gone thread.wait refl

union_lists : (a b c : List (Option Thread)) → ((i : ℕ) → wait_of (entry a i) ≡ None → entry b i ≡ entry a i) → ((i : ℕ) → wait_of (entry b i) ≡ None → entry c i ≡ entry b i)
    → bit_or (woken_between a b) (woken_between b c) ≡ woken_between a c
union_lists [] b c first second =
    or_zero_l (woken_between b c) ∙ woken_nobody b c (λ i. ap (λ (x : Option Thread). is_woken x (entry c i)) (first i refl))
union_lists (x ∷ a) [] c first second =
    or_zero_l 0 ∙ sym (woken_nobody (x ∷ a) c (λ i. ap (is_woken (entry (x ∷ a) i)) (second i refl) ∙ and_false (is_some (wait_of (entry (x ∷ a) i)))))
union_lists (x ∷ a) (y ∷ b) [] first second =
    let none : woken_between (x ∷ a) (y ∷ b) ≡ 0 = woken_nobody (x ∷ a) (y ∷ b) (λ i. ap (λ (idle : Bool). is_some (wait_of (entry (x ∷ a) i)) && idle) (gone_idle (entry (y ∷ b) i) (second i)) ∙ and_false (is_some (wait_of (entry (x ∷ a) i)))) in
    or_zero_r (woken_between (x ∷ a) (y ∷ b)) ∙ none
union_lists (x ∷ a) (y ∷ b) (z ∷ c) first second =
    let tail : bit_or (woken_between a b) (woken_between b c) ≡ woken_between a c = union_lists a b c (λ i. first (suc i)) (λ i. second (suc i)) in
    let head : bit_or (bit_of (is_woken x y)) (bit_of (is_woken y z)) ≡ bit_of (is_woken x z) = union_entry x y z (first 0) (second 0) in
    or_block 1 (woken_between a b) (woken_between b c) (bit_of (is_woken x y)) (bit_of (is_woken y z)) (bit_below (is_woken x y)) (bit_below (is_woken y z)) ∙ (λ i. tail i * 2 + head i)

-- those of both moves
pub woken_union : (a b c : List (Option Thread)) → IsStill a b → IsStill b c → bit_or (woken_between a b) (woken_between b c) ≡ woken_between a c
woken_union a b c first second = union_lists a b c (λ i. first.stays (suc i)) (λ i. second.stays (suc i))

-- a change of a thread that waits
pub still_changed : (t : ℕ) (f : Thread → Thread) (threads : List (Option Thread)) → is_some (wait_of (pool_get threads t)) ≡ true → IsStill threads (pool_changed t f threads)
still_changed t f threads waits = record {
  stays = λ k none.
      changed_other t k f threads
      (λ same.
      let own : is_some (wait_of (pool_get threads t)) ≡ false = ap (λ (j : ℕ). is_some (wait_of (pool_get threads j))) (sym same) ∙ ap is_some none in
      let no : ⊥ = cc in no);
}
