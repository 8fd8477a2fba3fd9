-- What each call makes of a sound line.
use Rattle.std.proofs.Common.{◌≡◌, ◌≢◌, ℕ, zero, suc, ◌-◌, ◌<◌, ◌≤◌, List, [], ◌∷◌, ◌++◌, length, true, false, not, refl, sym, ◌∙◌, ap, subst, arith, get_or, inl, inr}
use Rattle.std.specs.Prelude.{ℤ, pos, ◌<ℤ◌, int_lt, ◌==◌, ◌↔◌, is_some, Some, None}
use Rattle.std.proofs.Math.ListN.{set}
use Rattle.std.proofs.lemmas.Bool.Decides.{nat_tests}
use Rattle.std.proofs.lemmas.List.{get_or_past, get_or-set_same, get_or-set_other}
use Rattle.ptk_words.specs.Pools.{is_in, without, pool_set}
use Rattle.ptk_words.proofs.Options.{none_if_never_some}
use Rattle.ptk_words.proofs.Lists.{in_here, in_head, out_of}
use Rattle.ptk_words.specs.Parts.{part_of}
use Rattle.ptk_threads.specs.Table.{stored_of}
use Rattle.ptk_threads.specs.declared.link.Link.{Link}
use Rattle.ptk_threads.specs.declared.link.Ends.{Ends}
use Rattle.ptk_threads.specs.Links.{mark_of, first_or, queue_at, queues, AreQueues}
use Rattle.ptk_threads.proofs.Along.{in_later, not_true, le_or_gt, along_marked}
use Rattle.ptk_threads.proofs.Lists.{list_at}
use Rattle.std.proofs.lemmas.Int.{ints}
use Rattle.ptk_ready.specs.declared.stamps.StampRange.{StampRange}
use Rattle.ptk_ready.specs.Bits.{IsBitChanged}
use Rattle.ptk_ready.specs.Orders.{placed}
use Rattle.ptk_ready.specs.Entries.{IsInRange, is_ready, stamp_of, entries, of_priority, has_any, AreStamps, IsSound}
use Rattle.ptk_ready.proofs.Ready.{in_entries, marked_ready}
use Rattle.ptk_ready.proofs.Orders.{IsInOrder, no_less, less_test, test_less, in_placed, in_kept, order_kept, order_placed, order_apart, same_list}
use Rattle.std.proofs.lemmas.Bool.{cases_eq, eq-eqb, ne_eqb}
use Rattle.ptk_ready.specs.Laws.{in_priority}
use Rattle.ptk_ready.proofs.Kept.{IsKept, IsComing, sound_kept, kept_sound, kept_entries, queue_other, in_without, came}

-- the queues of waiters, which come after those of ready threads, have the same lists
abbrev pub KeepsWaiters : List Link → List Ends → List Link → List Ends → Type 0
KeepsWaiters links ends new after = (i : ℕ) → 32 ≤ i → queue_at new after i ≡ queue_at links ends i

-- the line is sound, and is this list; the queues of waiters are as before
pub record IsDone (limit : ℕ) (range : StampRange) (links new : List Link) (ends late : List Ends) (stored : List ℕ) (stamps : List ℤ) (bitmap : ℕ) (xs : List ℕ) : Type 0 where
  pub sound : IsSound limit range new late stored stamps bitmap
  pub line : entries new stamps ≡ xs
  pub waiters : KeepsWaiters links ends new late

pub done : (limit : ℕ) (range : StampRange) (links new : List Link) (ends late : List Ends) (stored : List ℕ) (stamps : List ℤ) (bitmap : ℕ) (xs : List ℕ) (i : ℕ) (line : List ℕ) → i < 32 → queues new late ≡ set (queues links ends) i line
    → IsKept limit range new late stored stamps bitmap xs → IsDone limit range links new ends late stored stamps bitmap xs
done limit range links new ends late stored stamps bitmap xs i line low lists kept = record {
  sound = kept_sound limit range new late stored stamps bitmap xs kept;
  line = kept_entries limit range new late stored stamps bitmap xs kept;
  waiters = λ j far. queue_other links new ends late i j line (omega (arith, low, far)) lists;
}

-- ---- who is in no list

pub any_first : (line : List ℕ) → is_some (first_or None line) ≡ has_any line
any_first [] = refl
any_first (k ∷ ks) = refl

pub unmarked : (links : List Link) (stamps : List ℤ) (k : ℕ) → mark_of links k ≡ None → is_in k (entries links stamps) ≡ false
unmarked links stamps k mark = in_entries links stamps k ∙ (rw mark refl)

-- ---- a thread filed anew

pub out_without : (k : ℕ) (xs : List ℕ) → is_in k (without k xs) ≡ true → ⊥
out_without k xs h =
    let fails : not (k == k) ≡ false = rw (eq-eqb k k refl) refl in
    let contra = sym (in_kept (λ j. not (j == k)) k xs) ∙ h in
    let no : false ≡ true = rw fails at contra in
    absurd (cc)

-- a list in order has each of its threads at the place of its stamp
placed_back : (stamp : ℕ → ℤ) (k : ℕ) (xs : List ℕ) → IsInOrder stamp xs → is_in k xs ≡ true → placed stamp k (without k xs) ≡ xs
placed_back stamp k xs order inside =
    let rest_order = order_kept stamp (λ j. not (j == k)) xs order in
    let ne : (j : ℕ) → is_in j (without k xs) ≡ true → stamp k ≢ stamp j =
    λ j there e. out_without k xs (subst (λ z. is_in z (without k xs) ≡ true) (sym (order_apart stamp xs order k j inside (in_without j k xs there) e)) there) in
    same_list stamp (placed stamp k (without k xs)) xs (order_placed stamp k (without k xs) ne rest_order) order
    (λ j there. elim (in_head k j (without k xs) (sym (in_placed stamp j k (without k xs)) ∙ there)) as (λ _. is_in j xs ≡ true) [
      | inl e ↦ subst (λ z. is_in z xs ≡ true) (sym e) inside
      | inr r ↦ in_without j k xs r
    ])
    (λ j there. in_placed stamp j k (without k xs) ∙ elim (cases_eq j k) as (λ _. is_in j (k ∷ without k xs) ≡ true) [
      | inl e ↦ subst (λ z. is_in z (k ∷ without k xs) ≡ true) (sym e) (in_here k (without k xs))
      | inr apart ↦ in_later j k (without k xs) (in_kept (λ i. not (i == k)) j xs ∙ (rw (ne_eqb j k apart, there) refl))
    ])

-- a thread that was taken out of the line lies in no queue
pub taken_free : (links new : List Link) (ends late : List Ends) (stamps : List ℤ) (k : ℕ) → AreQueues links ends → AreQueues new late → is_ready links k ≡ true → KeepsWaiters links ends new late
    → entries new stamps ≡ without k (entries links stamps) → mark_of new k ≡ None
taken_free links new ends late stamps k are after ready keeps line = none_if_never_some (mark_of new k)
    (λ i mark. elim (le_or_gt 32 i) as (λ _. ⊥) [
      | inl far ↦ (let inside : is_in k (queue_at links ends i) ≡ true = subst (λ l. is_in k l ≡ true) (keeps i far) (after.marked k i mark) in
          let was : mark_of links k ≡ Some i = along_marked links i None None (queue_at links ends i) k (are.each i).along inside in
          let no : is_ready links k ≡ false = rw was (grind (arith, nat_tests)) in absurd (cc))
      | inr low ↦ (let there : is_in k (entries new stamps) ≡ true = in_entries new stamps k ∙ marked_ready new k i low mark in
          out_without k (entries links stamps) (subst (λ l. is_in k l ≡ true) line there))
    ])

pub stored_other : (stored : List ℕ) (k v j : ℕ) → j ≢ k → stored_of (pool_set stored k v) j ≡ stored_of stored j
stored_other stored zero v j ne = refl
stored_other stored (suc i) v zero ne = refl
stored_other stored (suc i) v (suc j) ne = get_or-set_other stored i j v 0 (λ e. ne (ap suc e))

pub stored_same : (stored : List ℕ) (k v : ℕ) → 0 < stored_of stored k → stored_of (pool_set stored k v) k ≡ v
stored_same stored zero v some = absurd (omega (arith, some))
stored_same stored (suc i) v some = elim (le_or_gt (length stored) i) as (λ _. stored_of (pool_set stored (suc i) v) (suc i) ≡ v) [
  | inl past ↦ (let none : get_or stored i 0 ≡ 0 = get_or_past stored i 0 past in absurd (omega (arith, some, none)))
  | inr lt ↦ get_or-set_same stored i v 0 lt
]

coming_back : (limit : ℕ) (range : StampRange) (links : List Link) (ends : List Ends) (stored : List ℕ) (stamps : List ℤ) (bitmap k i priority : ℕ) (xs : List ℕ) → IsKept limit range links ends stored stamps bitmap xs → is_in k xs ≡ true
    → i < 32 → priority ≡ suc i → IsComing range stored (pool_set stored k priority) stamps stamps (without k xs) k i
coming_back limit range links ends stored stamps bitmap k i priority xs kept inside low e = record {
  out = not_true (is_in k (without k xs)) (out_without k xs);
  place = low;
  others = λ j ne. refl;
  levels = λ j ne. stored_other stored k priority j ne;
  level = stored_same stored k priority (kept.levels k inside).0 ∙ e;
  apart = λ j there same. out_without k xs
      (subst (λ z. is_in z (without k xs) ≡ true) (sym (order_apart (stamp_of stamps) xs kept.order k j inside (in_without j k xs there) same)) there);
  within = kept.within k inside;
}

-- k, which was taken out, comes back at the place of its stamp with another stored priority
pub refiled : (limit : ℕ) (range : StampRange) (links mid new : List Link) (ends then late : List Ends) (stored : List ℕ) (stamps : List ℤ) (bitmap bits after : ℕ) (k i priority : ℕ)
    → IsSound limit range links ends stored stamps bitmap → is_in k (entries links stamps) ≡ true → IsSound limit range mid then stored stamps bits → entries mid stamps ≡ without k (entries links stamps)
    → KeepsWaiters links ends mid then → i < 32 → priority ≡ suc i → length then ≡ 128 → AreQueues new late
    → queues new late ≡ set (queues mid then) i (placed (stamp_of stamps) k (part_of (queues mid then) i)) → IsBitChanged bits after i true
    → IsDone limit range links new ends late (pool_set stored k priority) stamps after (entries links stamps)
refiled limit range links mid new ends then late stored stamps bitmap bits after k i priority sound inside left line keeps low e long are lists bit =
    let xs = entries links stamps in
    let stored' = pool_set stored k priority in
    let was = sound_kept limit range links ends stored stamps bitmap sound in
    let kept : IsKept limit range mid then stored stamps bits (without k xs) =
    subst (IsKept limit range mid then stored stamps bits) line (sound_kept limit range mid then stored stamps bits left) in
    let back : IsKept limit range new late stored' stamps after (placed (stamp_of stamps) k (without k xs)) =
    came limit range mid new then late stored stored' stamps stamps bits after (without k xs) k i kept
    (coming_back limit range links ends stored stamps bitmap k i priority xs was inside low e) long are lists bit in
    let whole : IsKept limit range new late stored' stamps after xs =
    subst (IsKept limit range new late stored' stamps after) (placed_back (stamp_of stamps) k xs was.order inside) back in
    let there = done limit range mid new then late stored' stamps after xs i (placed (stamp_of stamps) k (part_of (queues mid then) i)) low lists whole in
    record { sound = there.sound; line = there.line; waiters = λ j far. there.waiters j far ∙ keeps j far }

-- ---- a thread that is pushed

-- the same threads with other stamps, in the same order
restamped : (limit : ℕ) (was range : StampRange) (links : List Link) (ends : List Ends) (stored : List ℕ) (stamps mid : List ℤ) (bitmap : ℕ) → IsSound limit was links ends stored stamps bitmap → AreStamps limit range links mid → entries links mid ≡ entries links stamps
    → IsSound limit range links ends stored mid bitmap
restamped limit was range links ends stored stamps mid bitmap sound are line = record {
  queues = sound.queues;
  stamped = are;
  lines = λ i lt. sound.lines i lt ∙ ap (of_priority stored (suc i)) (sym line);
  bits = sound.bits;
}

stamp_other : (stamps anew : List ℤ) (stamp : ℤ) (n : ℕ) → anew ≡ set stamps n stamp → (j : ℕ) → j ≢ suc n → stamp_of anew j ≡ stamp_of stamps j
stamp_other stamps anew stamp n is zero ne = refl
stamp_other stamps anew stamp n is (suc m) ne = rw is (get_or-set_other stamps n m stamp (pos 0) (λ e. ne (ap suc e)))

-- a thread gets a stamp of its own
pub coming_new : (range : StampRange) (links : List Link) (stored : List ℕ) (stamps anew : List ℤ) (stamp : ℤ) (k i : ℕ) → mark_of links k ≡ None → 0 < k → k ≤ 32 → length stamps ≡ 32 → anew ≡ set stamps (k - 1) stamp
    → stored_of stored k ≡ suc i → i < 32 → ((j : ℕ) → is_ready links j ≡ true → stamp ≢ stamp_of stamps j) → IsInRange range stamp
    → IsComing range stored stored stamps anew (entries links stamps) k i
coming_new range links stored stamps anew stamp zero i free some small long made level low apart within = absurd (omega (arith, some))
coming_new range links stored stamps anew stamp (suc n) i free some small long made level low apart within =
    let out = unmarked links stamps (suc n) free in
    let place : suc n - 1 ≡ n = omega arith in
    let is : anew ≡ set stamps n stamp = made ∙ ap (λ m. set stamps m stamp) place in
    let own : stamp_of anew (suc n) ≡ stamp = rw is (get_or-set_same stamps n stamp (pos 0) (omega (arith, small, long))) in
    let others : (j : ℕ) → j ≢ suc n → stamp_of anew j ≡ stamp_of stamps j = stamp_other stamps anew stamp n is in
    record {
      out = out;
      place = low;
      others = others;
      levels = λ j ne. refl;
      level = level;
      apart = λ j inside e. apart j (sym (in_entries links stamps j) ∙ inside)
          (sym own ∙ (e ∙ others j (out_of j (suc n) (entries links stamps) out inside)));
      within = rw own within;
    }

-- whether first or last, k goes to its place by stamp among any of the line's threads
pub pushed : (limit : ℕ) (was range : StampRange) (links new : List Link) (ends late : List Ends) (stored : List ℕ) (stamps mid anew : List ℤ) (bitmap bits k i : ℕ) (put : List ℕ → List ℕ)
    → IsSound limit was links ends stored stamps bitmap → AreStamps limit range links mid → entries links mid ≡ entries links stamps → IsComing range stored stored mid anew (entries links mid) k i
    → ((ks : List ℕ) → ((j : ℕ) → is_in j ks ≡ true → is_in j (entries links mid) ≡ true) → placed (stamp_of anew) k ks ≡ put ks)
    → length ends ≡ 128 → AreQueues new late → queues new late ≡ set (queues links ends) i (put (part_of (queues links ends) i)) → IsBitChanged bitmap bits i true
    → IsDone limit range links new ends late stored anew bits (put (entries links stamps))
pushed limit was range links new ends late stored stamps mid anew bitmap bits k i put sound are line coming puts long queued lists bit =
    let xs = entries links mid in
    let kept = sound_kept limit range links ends stored mid bitmap (restamped limit was range links ends stored stamps mid bitmap sound are line) in
    let part = part_of (queues links ends) i in
    let own : part ≡ of_priority stored (suc i) xs = list_at links ends i ∙ kept.lines i coming.place in
    let among : (j : ℕ) → is_in j part ≡ true → is_in j xs ≡ true = λ j inside. (in_priority stored (suc i) j xs (subst (λ l. is_in j l ≡ true) own inside)).1 in
    let made : queues new late ≡ set (queues links ends) i (placed (stamp_of anew) k part) = lists ∙ ap (set (queues links ends) i) (sym (puts part among)) in
    let back = came limit range links new ends late stored stored mid anew bitmap bits xs k i kept coming long queued made bit in
    let whole : IsKept limit range new late stored anew bits (put (entries links stamps)) =
    subst (IsKept limit range new late stored anew bits) (puts xs (λ j inside. inside) ∙ ap put line) back in
    done limit range links new ends late stored anew bits (put (entries links stamps)) i (placed (stamp_of anew) k part) coming.place made whole

-- k has the greatest stamp
pub placed_last : (stamp : ℕ → ℤ) (k : ℕ) (ks : List ℕ) → ((j : ℕ) → is_in j ks ≡ true → stamp j <ℤ stamp k) → placed stamp k ks ≡ ks ++ k ∷ []
placed_last stamp k [] h = refl
placed_last stamp k (j ∷ ks) h =
    let less = h j (in_here j ks) in
    let fails : int_lt (stamp k) (stamp j) ≡ false = not_true (int_lt (stamp k) (stamp j)) (λ e. (let more = less_test (stamp k) (stamp j) e in absurd (omega (arith, ints)))) in
    rw fails (ap (λ l. j ∷ l) (placed_last stamp k ks (λ i inside. h i (in_later i j ks inside))))

-- k has the least stamp
pub placed_first : (stamp : ℕ → ℤ) (k : ℕ) (ks : List ℕ) → ((j : ℕ) → is_in j ks ≡ true → stamp k <ℤ stamp j) → placed stamp k ks ≡ k ∷ ks
placed_first stamp k [] h = refl
placed_first stamp k (j ∷ ks) h = rw (test_less (stamp k) (stamp j) (h j (in_here j ks))) refl

stamp_own : (stamps anew : List ℤ) (stamp : ℤ) (k : ℕ) → 0 < k → k ≤ 32 → length stamps ≡ 32 → anew ≡ set stamps (k - 1) stamp → stamp_of anew k ≡ stamp
stamp_own stamps anew stamp zero some small long made = absurd (omega (arith, some))
stamp_own stamps anew stamp (suc n) some small long made =
    let place : suc n - 1 ≡ n = omega arith in
    rw (made ∙ ap (λ m. set stamps m stamp) place) (get_or-set_same stamps n stamp (pos 0) (omega (arith, small, long)))

pub pushed_tail : (limit : ℕ) (was range : StampRange) (links new : List Link) (ends late : List Ends) (stored : List ℕ) (stamps mid anew : List ℤ) (bitmap bits k i : ℕ) (stamp : ℤ)
    → IsSound limit was links ends stored stamps bitmap → AreStamps limit range links mid → entries links mid ≡ entries links stamps
    → mark_of links k ≡ None → 0 < k → k ≤ 32 → length mid ≡ 32 → anew ≡ set mid (k - 1) stamp → stored_of stored k ≡ suc i → i < 32
    → ((j : ℕ) → is_ready links j ≡ true → stamp_of mid j <ℤ stamp) → IsInRange range stamp
    → length ends ≡ 128 → AreQueues new late → queues new late ≡ set (queues links ends) i (part_of (queues links ends) i ++ k ∷ []) → IsBitChanged bitmap bits i true
    → IsDone limit range links new ends late stored anew bits (entries links stamps ++ k ∷ [])
pushed_tail limit was range links new ends late stored stamps mid anew bitmap bits k i stamp sound are line free some small long made level low last within wide queued lists bit =
    let coming : IsComing range stored stored mid anew (entries links mid) k i =
    coming_new range links stored mid anew stamp k i free some small long made level low (λ j ready e. no_less stamp (subst (λ z. z <ℤ stamp) (sym e) (last j ready))) within in
    let own = stamp_own mid anew stamp k some small long made in
    let after : (j : ℕ) → is_in j (entries links mid) ≡ true → stamp_of anew j <ℤ stamp_of anew k =
    λ j inside. rw (coming.others j (out_of j k (entries links mid) coming.out inside), own) (last j (sym (in_entries links mid j) ∙ inside)) in
    pushed limit was range links new ends late stored stamps mid anew bitmap bits k i (λ ks. ks ++ k ∷ []) sound are line coming
    (λ ks among. placed_last (stamp_of anew) k ks (λ j inside. after j (among j inside))) wide queued lists bit

pub pushed_head : (limit : ℕ) (was range : StampRange) (links new : List Link) (ends late : List Ends) (stored : List ℕ) (stamps mid anew : List ℤ) (bitmap bits k i : ℕ) (stamp : ℤ)
    → IsSound limit was links ends stored stamps bitmap → AreStamps limit range links mid → entries links mid ≡ entries links stamps
    → mark_of links k ≡ None → 0 < k → k ≤ 32 → length mid ≡ 32 → anew ≡ set mid (k - 1) stamp → stored_of stored k ≡ suc i → i < 32
    → ((j : ℕ) → is_ready links j ≡ true → stamp <ℤ stamp_of mid j) → IsInRange range stamp
    → length ends ≡ 128 → AreQueues new late → queues new late ≡ set (queues links ends) i (k ∷ part_of (queues links ends) i) → IsBitChanged bitmap bits i true
    → IsDone limit range links new ends late stored anew bits (k ∷ entries links stamps)
pushed_head limit was range links new ends late stored stamps mid anew bitmap bits k i stamp sound are line free some small long made level low first within wide queued lists bit =
    let coming : IsComing range stored stored mid anew (entries links mid) k i =
    coming_new range links stored mid anew stamp k i free some small long made level low (λ j ready e. no_less stamp (subst (λ z. stamp <ℤ z) (sym e) (first j ready))) within in
    let own = stamp_own mid anew stamp k some small long made in
    let after : (j : ℕ) → is_in j (entries links mid) ≡ true → stamp_of anew k <ℤ stamp_of anew j =
    λ j inside. rw (coming.others j (out_of j k (entries links mid) coming.out inside), own) (first j (sym (in_entries links mid j) ∙ inside)) in
    pushed limit was range links new ends late stored stamps mid anew bitmap bits k i (λ ks. k ∷ ks) sound are line coming
    (λ ks among. placed_first (stamp_of anew) k ks (λ j inside. after j (among j inside))) wide queued lists bit

-- ---- marks and queues

pub queued_marked : (links : List Link) (ends : List Ends) (k i : ℕ) → AreQueues links ends → (is_in k (queue_at links ends i) ≡ true) ↔ (mark_of links k ≡ Some i)
queued_marked links ends k i are =
    (λ inside. along_marked links i None None (queue_at links ends i) k (are.each i).along inside, λ mark. are.marked k i mark)

pub unqueued_free : (links : List Link) (ends : List Ends) (k : ℕ) → AreQueues links ends → ((i : ℕ) → is_in k (queue_at links ends i) ≡ false) ↔ (mark_of links k ≡ None)
unqueued_free links ends k are = (
  λ out. none_if_never_some (mark_of links k) (λ i mark. (let inside = are.marked k i mark in let not_in = out i in absurd (cc))),
  λ free i. not_true (is_in k (queue_at links ends i)) (λ inside.
      (let mark = along_marked links i None None (queue_at links ends i) k (are.each i).along inside in
      let none : None ≡ Some i = sym free ∙ mark in absurd (cc))),
)
