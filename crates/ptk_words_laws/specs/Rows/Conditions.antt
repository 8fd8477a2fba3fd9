-- Condition variables that are made and destroyed, in built states, by the definitions of their calls.
use Rattle.std.specs.Prelude.{◌≡◌, List, [], ◌∷◌, map, Option, Some, None}
use Rattle.ptk_words.specs.Names.{ThreadNumber, Pointer, Word}
use Rattle.ptk_words.specs.Words.{word_at}
use Rattle.ptk_words.specs.declared.mutexes.Protocol.TheVariants.{NoProtocol}
use Rattle.ptk_words.specs.declared.threads.Wait.TheVariants.{ConditionWait}
use Rattle.ptk_words_model.specs.declared.Reply.TheVariants.{Done}
use Rattle.ptk_words_model.specs.State.{Condition, Part, with_syncs}
use Rattle.ptk_words_model.specs.Calls.{Answer, replied}
use Rattle.ptk_words_model.specs.ConditionCalls.{cond_init, cond_destroy, cond_broadcast}
use Rattle.ptk_words_laws.specs.Rows.States.{thread, waiting, owned, part_with, call_with}

-- ---- built states

-- a condition variable with these waiters
abbrev pub condition_with : List ThreadNumber → Option Condition
condition_with waiters = Some (record { waiters = waiters })

-- 1 runs and owns mutex 1, with which 2 waits on condition variable 3; condition variable 1 has no waiters, this is what has number 2, and these words are in memory
abbrev pub three_numbers : Option Condition → List Word → Part
three_numbers second words =
    with_syncs (λ syncs. record syncs { conditions = condition_with [] ∷ second ∷ condition_with (2 ∷ []) ∷ [] })
    (part_with words (thread 5 ∷ waiting 5 (ConditionWait 3 1 None) ∷ []) (owned NoProtocol 1 [] ∷ []))

-- condition variables 1 and 3 are in use, and 2 is free
abbrev pub one_free : List Word → Part
one_free words = three_numbers None words

-- condition variables 1, 2 and 3 are in use, and no number is free
abbrev pub none_free : List Word → Part
none_free words = three_numbers (condition_with []) words

-- ---- condition variables made

-- 1 makes a condition variable whose word at 0 is this one so far, where number 2 is free
abbrev pub made_over : Word → Answer
made_over old = cond_init (call_with 0 0 0) (one_free (old ∷ []))

-- 1 makes one through the pointer where no number is free; memory has 68 bytes and begins with a word 7
abbrev pub made_in_full : Pointer → Answer
made_in_full pointer = cond_init (call_with pointer 0 0) (none_free (7 ∷ []))

-- a new condition variable has the free number and no waiters, whatever its word was; the pointer is tested before the numbers; without a free number a0 alone changes (pthread_cond_init, ENOMEM; own, EFAULT)
pub record NewCondition : Type 0 where
  pub old_words : map (λ old. (made_over old).reply) (0 ∷ 1 ∷ 3 ∷ 7 ∷ 0xffffffff ∷ []) ≡ Done 0 ∷ Done 0 ∷ Done 0 ∷ Done 0 ∷ Done 0 ∷ []
  pub new_words : map (λ old. word_at (made_over old).part.memory 0) (0 ∷ 1 ∷ 3 ∷ 7 ∷ 0xffffffff ∷ []) ≡ 2 ∷ 2 ∷ 2 ∷ 2 ∷ 2 ∷ []
  pub in_use : (made_over 3).part.conditions ≡ condition_with [] ∷ condition_with [] ∷ condition_with (2 ∷ []) ∷ []
  pub no_number : (made_in_full 0).reply ≡ Done 12
  pub only_a0 : (made_in_full 0).part ≡ replied 1 (12 ∷ []) (none_free (7 ∷ []))
  pub misaligned : (made_in_full 2).reply ≡ Done 14
  pub outside : (made_in_full 68).reply ≡ Done 14

-- ---- condition variables destroyed

-- 1 destroys the condition variable of the word at 0, which is this one, where number 2 is free
abbrev pub destroyed_by : Word → Answer
destroyed_by word = cond_destroy (call_with 0 0 0) (one_free (word ∷ 0 ∷ []))

-- 1 destroys the condition variable of the word at the pointer where no number is free; memory has 68 bytes and begins with a word 0
abbrev pub destroyed_in_full : Pointer → Answer
destroyed_in_full pointer = cond_destroy (call_with pointer 0 0) (none_free (0 ∷ []))

-- 1 unblocks 2, which waits for mutex 1 then; the word of condition variable 3 is at 0
abbrev pub nobody_left : Part
nobody_left = (cond_broadcast (call_with 0 0 0) (one_free (3 ∷ []))).part

-- a destroyed condition variable's number is free and, as the least one, the next that is given; its word names none; one with waiters is busy, and then a0 alone changes; one whose waiters were unblocked is not; a word of 0 sets one up first (pthread_cond_destroy, EBUSY; own, EFAULT, ENOMEM, EINVAL)
pub record DestroyedCondition : Type 0 where
  pub done : (destroyed_by 1).reply ≡ Done 0
  pub stored : word_at (destroyed_by 1).part.memory 0 ≡ 0xffffffff
  pub in_use : (destroyed_by 1).part.conditions ≡ None ∷ None ∷ condition_with (2 ∷ []) ∷ []
  pub destroyed_twice : (cond_destroy (call_with 0 0 0) (destroyed_by 1).part).reply ≡ Done 22
  pub number_again : word_at (cond_init (call_with 4 0 0) (destroyed_by 1).part).part.memory 4 ≡ 1
  pub waited_for : (destroyed_by 3).reply ≡ Done 16
  pub only_a0 : (destroyed_by 3).part ≡ replied 1 (16 ∷ []) (one_free (3 ∷ 0 ∷ []))
  pub unblocked : (cond_destroy (call_with 0 0 0) nobody_left).reply ≡ Done 0
  pub names_none : map (λ word. (destroyed_by word).reply) (2 ∷ 4 ∷ 0xffffffff ∷ []) ≡ Done 22 ∷ Done 22 ∷ Done 22 ∷ []
  pub initialiser : (destroyed_by 0).reply ≡ Done 0
  pub initialiser_stored : word_at (destroyed_by 0).part.memory 0 ≡ 0xffffffff
  pub initialiser_in_use : (destroyed_by 0).part.conditions ≡ condition_with [] ∷ None ∷ condition_with (2 ∷ []) ∷ []
  pub no_number : (destroyed_in_full 0).reply ≡ Done 12
  pub no_word : word_at (destroyed_in_full 0).part.memory 0 ≡ 0
  pub misaligned : (destroyed_in_full 2).reply ≡ Done 14
  pub outside : (destroyed_in_full 68).reply ≡ Done 14
